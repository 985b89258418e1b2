-- Words, decimals and signed decimals are exact formats. Assumes nothing.
use mathlib.Core.Path.{◌≡◌, refl, sym, ap, subst, ◌∙◌}
use mathlib.Core.Bool.{Bool, true, false, cond}
use mathlib.Core.List.{List, [], ◌∷◌, ◌++◌, append_assoc}
use Prim.Native.Nat.{ℕ}
use lib.IntN.{ℤ}
use lib.ListN.{length, drop}
use lib.Seq.{drop-append_seam}
use Rattle.std.specs.Prelude.{Some, None}
use Rattle.text.specs.Words.{is_prefix}
use Rattle.text.specs.Decimals.{Num, dec, Word, is_digit, field_at}
use Rattle.text.specs.Signs.{Int, signed_dec, SignedWord, int_at}
use Rattle.text.proofs.Spots.{past, word-reads, word_is}
use Rattle.text.proofs.DecReads.{field-reads}
use Rattle.text.proofs.DecSound.{field-sound}
use Rattle.text.proofs.IntReads.{int-reads, int-sound}
use Rattle.state_forms.specs.Formats.{got, bad, word_r, read_got, num_r, int_r, lit, num, int}
use Rattle.state_forms.specs.inner.Exact.{Exact, Any}
use Rattle.state_forms.proofs.Exactness.{never_got, got_value, got_left}

pub lit-exact : (w : List ℕ) → Exact Any (lit w)
unfolding word_r
lit-exact w = record { reads = λ a t i q. rw (word-reads w t) (ap (got tt) (drop-append_seam w t)); sound = λ s a t e. (tt, k s t e) }
  where
    k : (s t : List ℕ) → cond (is_prefix w s) (got (tt {0}) (drop (length w) s)) bad ≡ got (tt {0}) t → s ≡ w ++ t
    k s t e = go (is_prefix w s) refl e
      where
        go : (b : Bool) → is_prefix w s ≡ b → cond b (got (tt {0}) (drop (length w) s)) bad ≡ got (tt {0}) t → s ≡ w ++ t
        go true p q = word_is w s p ∙ ap (λ (z : List ℕ). w ++ z) (got_left q)
        go false p q = absurd (never_got q)

-- the stop is no digit
module _ (stop : ℕ) (d : is_digit stop ≡ false) where
  seam : (a t : List ℕ) → (a ++ (stop ∷ [])) ++ t ≡ a ++ (stop ∷ t)
  seam a t = append_assoc a (stop ∷ []) t

  pub num-back : (n : ℕ) (t : List ℕ) → Word n → num_r stop (dec n ++ (stop ∷ t)) ≡ got n t
  unfolding num_r read_got
  num-back n t i =
      rw (field-reads (dec n ++ (stop ∷ t)) t 0 n stop i d refl)
      (ap (got n) (past (dec n ++ (stop ∷ t)) (dec n) t 0 stop refl).rest)

  pub num_only : (s : List ℕ) (n : ℕ) (t : List ℕ) → num_r stop s ≡ got n t → Word n × (s ≡ dec n ++ (stop ∷ t))
  unfolding num_r read_got
  num_only s n t e = go (field_at s 0 stop) refl e
    where
      go : (m : Num) → field_at s 0 stop ≡ m → read_got s m ≡ got n t → Word n × (s ≡ dec n ++ (stop ∷ t))
      go (Some (v, j)) p q =
          let f = field-sound s 0 stop v j p in
          subst (λ (z : ℕ). Word z × (s ≡ dec z ++ (stop ∷ t))) (got_value q) (f.word, f.text ∙ ap (λ (z : List ℕ). dec v ++ (stop ∷ z)) (got_left q))
      go None p q = absurd (never_got q)

  pub num-exact : Exact Any (num stop)
  num-exact =
      record {
        reads = λ n t i q. rw (seam (dec n) t) (num-back n t i);
        sound = λ s n t e. ((num_only s n t e).0, (num_only s n t e).1 ∙ sym (seam (dec n) t));
      }

  pub int-back : (z : ℤ) (t : List ℕ) → SignedWord z → int_r stop (signed_dec z ++ (stop ∷ t)) ≡ got z t
  unfolding int_r read_got
  int-back z t i =
      rw (int-reads (signed_dec z ++ (stop ∷ t)) t 0 z stop i d refl)
      (ap (got z) (past (signed_dec z ++ (stop ∷ t)) (signed_dec z) t 0 stop refl).rest)

  pub int_only : (s : List ℕ) (z : ℤ) (t : List ℕ) → int_r stop s ≡ got z t → SignedWord z × (s ≡ signed_dec z ++ (stop ∷ t))
  unfolding int_r read_got
  int_only s z t e = go (int_at s 0 stop) refl e
    where
      go : (m : Int) → int_at s 0 stop ≡ m → read_got s m ≡ got z t → SignedWord z × (s ≡ signed_dec z ++ (stop ∷ t))
      go (Some (v, j)) p q =
          let f = int-sound s 0 stop v j p in
          subst (λ (y : ℤ). SignedWord y × (s ≡ signed_dec y ++ (stop ∷ t))) (got_value q) (f.word, f.text ∙ ap (λ (y : List ℕ). signed_dec v ++ (stop ∷ y)) (got_left q))
      go None p q = absurd (never_got q)

  pub int-exact : Exact Any (int stop)
  int-exact =
      record {
        reads = λ z t i q. rw (seam (signed_dec z) t) (int-back z t i);
        sound = λ s z t e. ((int_only s z t e).0, (int_only s z t e).1 ∙ sym (seam (signed_dec z) t));
      }
