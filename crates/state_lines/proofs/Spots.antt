-- Readings at places: what the crate `text` reads at a place is what a format reads of the rest of the text. Assumes nothing.
use mathlib.Core.Path.{◌≡◌, refl, sym, ap, ◌∙◌}
use mathlib.Core.Bool.{true, false}
use mathlib.Core.List.{List, ◌∷◌}
use Prim.Native.Nat.{ℕ, suc, ◌+◌, ◌-◌, ◌≤◌, ◌<◌}
use lib.IntN.{ℤ}
use lib.ListN.{length, drop, length-drop, length-append}
use lib.Seq.{drop-drop, drop-append_seam}
use native.Mathlib.Omega.{arith}
use Rattle.std.specs.Prelude.{Option, Some, None}
use Rattle.text.specs.Words.{is_prefix}
use Rattle.text.specs.Decimals.{Num, dec, is_digit, field_at}
use Rattle.text.specs.Signs.{Int, int_at}
use Rattle.text.proofs.Spots.{word_is, place-of}
use Rattle.text.proofs.DecReads.{field-reads}
use Rattle.text.proofs.DecSound.{field-sound}
use Rattle.text.proofs.IntReads.{int-reads, int-sound}
use Rattle.state_forms.specs.Formats.{Got, got, bad, word_r, num_r, int_r}
use Rattle.state_lines.specs.inner.Places.{value_spot}
use Rattle.state_forms.proofs.Rows.{space-stops}
use Rattle.state_forms.proofs.Numbers.{num-back, num_only, int-back, int_only}

none_some : {A : Type 0} {a : A} → ◌≡◌ {A = Option A} None (Some a) → ⊥
none_some e = let z : ◌≡◌ {A = ℕ} 0 1 = cc in omega arith

pub word_here : (w s : List ℕ) (i : ℕ) → is_prefix w (drop i s) ≡ true → word_r w (drop i s) ≡ got tt (drop (i + length w) s)
unfolding word_r
word_here w s i e = rw e (ap (got tt) (drop-drop (length w) i s))

pub word_off : (w s : List ℕ) (i : ℕ) → is_prefix w (drop i s) ≡ false → word_r w (drop i s) ≡ bad
unfolding word_r
word_off w s i e = rw e

-- a word that is not empty ends within the text
pub word_ends : (w s : List ℕ) (i : ℕ) → 0 < length w → is_prefix w (drop i s) ≡ true → i + length w ≤ length s
word_ends w s i h e = omega (arith, h, length-drop i s, ap length (word_is w (drop i s) e), length-append w (drop (length w) (drop i s)))

module _ (stop : ℕ) (d : is_digit stop ≡ false) (s : List ℕ) (i : ℕ) where
  pub number-spot : value_spot s (field_at s i stop) ≡ num_r stop (drop i s)
  number-spot = go (field_at s i stop) refl (num_r stop (drop i s)) refl
    where
      go : (m : Num) → field_at s i stop ≡ m → (g : Got ℕ) → num_r stop (drop i s) ≡ g → value_spot s m ≡ num_r stop (drop i s)
      go (Some (n, j)) e g p = let f = field-sound s i stop n j e in sym (ap (num_r stop) f.text ∙ num-back stop d n (drop j s) f.word)
      go None e (got n t) p = let o = num_only stop d (drop i s) n t p in absurd (none_some (sym e ∙ field-reads s t i n stop o.0 d o.1))
      go None e bad p = sym p

  pub signed-spot : value_spot s (int_at s i stop) ≡ int_r stop (drop i s)
  signed-spot = go (int_at s i stop) refl (int_r stop (drop i s)) refl
    where
      go : (m : Int) → int_at s i stop ≡ m → (g : Got ℤ) → int_r stop (drop i s) ≡ g → value_spot s m ≡ int_r stop (drop i s)
      go (Some (n, j)) e g p = let f = int-sound s i stop n j e in sym (ap (int_r stop) f.text ∙ int-back stop d n (drop j s) f.word)
      go None e (got n t) p = let o = int_only stop d (drop i s) n t p in absurd (none_some (sym e ∙ int-reads s t i n stop o.0 d o.1))
      go None e bad p = sym p

-- the space that ends a field stands one place before what is left
pub space-before : (s : List ℕ) (i n j : ℕ) → field_at s i 32 ≡ Some (n, j) → (1 ≤ j) × (drop (j - 1) s ≡ 32 ∷ drop j s)
space-before s i n j e =
    let f = field-sound s i 32 n j e in
    let g : ◌≡◌ {A = Num} (Some (n, j)) (Some (n, suc (i + length (dec n)))) = sym e ∙ field-reads s (drop j s) i n 32 f.word space-stops f.text in
    let k : j ≡ suc (i + length (dec n)) = place-of g in
    let m : j - 1 ≡ i + length (dec n) = omega arith in
    (omega arith, ap (λ (z : ℕ). drop z s) m ∙ sym (drop-drop (length (dec n)) i s) ∙ ap (drop (length (dec n))) f.text ∙ drop-append_seam (dec n) (32 ∷ drop j s))
