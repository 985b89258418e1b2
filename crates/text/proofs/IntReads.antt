-- Signed decimals, both ways: what is written is read back, and what is read was written. Assumes nothing.
use Prim.Native.Nat.{ℕ, zero, suc, ◌+◌, ◌-◌, ◌^◌, ◌<◌}
use mathlib.Core.Path.{◌≡◌, refl, ap, ◌∙◌}
use mathlib.Core.Bool.{Bool, true, false, cond}
use mathlib.Core.List.{List, ◌∷◌, ◌++◌}
use Rattle.std.specs.Prelude.{Some, None}
use lib.ListN.{length, get_or, drop}
use lib.Dec.{eqb, ltb, leb}
use lib.IntN.{ℤ, pos, negsuc}
use native.Mathlib.Omega.{arith}
use borrow.Author.Tests.{eq-eqb, ne_eqb, le-ltb, lt-leb, ltb-false, eqb-true, eqb-false}
use mir.Syntax.{w64}
use mir.Val.{to_z, of_z}
use Rattle.text.specs.Decimals.{Num, is_digit, field_at, dec}
use Rattle.text.specs.Signs.{signed_dec, SignedWord, Int, negated, unsigned, int_at}
use Rattle.text.proofs.DecTexts.{dec-head}
use Rattle.text.proofs.DecReads.{field-reads}
use Rattle.text.proofs.DecSound.{Field, field-sound}
use Rattle.text.proofs.IntTexts.{back-neg, back_pos}
use Rattle.text.proofs.Spots.{here, byte_at, value-of, place-of}

-- ---- written, then read

-- the first byte of a number that is not negative is no minus sign
not_minus : (s t : List ℕ) (i n stop : ℕ) → n < 2 ^ 63 → drop i s ≡ dec n ++ (stop ∷ t) → (i < length s) × (eqb (get_or s i 0) 45 ≡ false)
not_minus s t i n stop k w =
    let h = dec-head n (omega arith) in
    let p = here s (h.rest ++ (stop ∷ t)) i (48 + h.first) (w ∙ rw h.is) in
    (p.inside, ne_eqb (get_or s i 0) 45 (λ e. omega (arith, e, p.byte)))

pos_reads : (s t : List ℕ) (i n stop : ℕ) → n < 2 ^ 63 → is_digit stop ≡ false → drop i s ≡ dec n ++ (stop ∷ t) → int_at s i stop ≡ Some (pos n, suc (i + length (dec n)))
unfolding int_at unsigned
pos_reads s t i n stop k e w =
    let p = not_minus s t i n stop k w in
    rw (lt-leb (length s) i p.0, p.1, field-reads s t i n stop (omega arith) e w, le-ltb (2 ^ 63 - 1) n (omega arith))

neg-reads : (s t : List ℕ) (i n stop : ℕ) → n < 2 ^ 63 → is_digit stop ≡ false → drop i s ≡ 45 ∷ (dec (suc n) ++ (stop ∷ t)) → int_at s i stop ≡ Some (negsuc n, suc (suc i + length (dec (suc n))))
unfolding int_at negated
neg-reads s t i n stop k e w =
    let p = here s (dec (suc n) ++ (stop ∷ t)) i 45 w in
    let z : i + 1 ≡ suc i = omega arith in
    let d : suc n - 1 ≡ n = omega arith in
    let f = field-reads s t (suc i) (suc n) stop (omega arith) e p.rest in
    rw (lt-leb (length s) i p.inside, eq-eqb (get_or s i 0) 45 p.byte, z, f, ne_eqb (suc n) 0 (λ q. omega (arith, q)), le-ltb (2 ^ 63) (suc n) (omega arith), d)

-- a signed decimal with the byte stop after it
pub int-reads : (s t : List ℕ) (i : ℕ) (z : ℤ) (stop : ℕ) → SignedWord z → is_digit stop ≡ false → drop i s ≡ signed_dec z ++ (stop ∷ t) → int_at s i stop ≡ Some (z, suc (i + length (signed_dec z)))
unfolding signed_dec
int-reads s t i (pos n) stop k e w = pos_reads s t i n stop k e w
int-reads s t i (negsuc n) stop k e w =
    let l : suc i + length (dec (suc n)) ≡ i + suc (length (dec (suc n))) = omega arith in
    neg-reads s t i n stop k e w ∙ ap (λ (j : ℕ). Some (negsuc n, suc j)) l

-- ---- read, hence written

clash : (z : ℤ) (j : ℕ) → ◌≡◌ {A = Int} None (Some (z, j)) → ⊥
clash z j e = let o : ◌≡◌ {A = ℕ} 0 1 = cc in omega arith

-- the number, its text with the byte stop after it, and what is left from place j on
pub record IntField (s : List ℕ) (i stop : ℕ) (z : ℤ) (j : ℕ) : Type 0 where
  pub word : SignedWord z
  pub text : drop i s ≡ signed_dec z ++ (stop ∷ drop j s)

neg-sound : (s : List ℕ) (i stop : ℕ) (z : ℤ) (j : ℕ) → get_or s i 0 ≡ 45 → negated (field_at s (i + 1) stop) ≡ Some (z, j) → IntField s i stop z j
unfolding negated signed_dec
neg-sound s i stop z j m e = go (field_at s (i + 1) stop) refl e
  where
    end : (v k : ℕ) → Field s (i + 1) stop v k → (a : Bool) → eqb v 0 ≡ a → (b : Bool) → ltb (2 ^ 63) v ≡ b → cond {A = Int} a None (cond {A = Int} b None (Some (negsuc (v - 1), k))) ≡ Some (z, j) → IntField s i stop z j
    end zero k f true p b q r = absurd (clash z j r)
    end zero k f false p b q r = absurd (eqb-false 0 0 p refl)
    end (suc v) k f true p b q r = absurd (clash z j r)
    end (suc v) k f false p true q r = absurd (clash z j r)
    end (suc v) k f false p false q r =
        let d : suc v - 1 ≡ v = omega arith in
        let r' : ◌≡◌ {A = Int} (Some (negsuc v, k)) (Some (z, j)) = rw d at r in
        let a : negsuc v ≡ z = value-of r' in
        let b : k ≡ j = place-of r' in
        rw (← a, ← b) (record { word = omega (arith, ltb-false (2 ^ 63) (suc v) q); text = byte_at s i 44 m ∙ ap (λ (y : List ℕ). 45 ∷ y) f.text })

    go : (n : Num) → field_at s (i + 1) stop ≡ n → negated n ≡ Some (z, j) → IntField s i stop z j
    go (Some (v, k)) d r = end v k (field-sound s (i + 1) stop v k d) (eqb v 0) refl (ltb (2 ^ 63) v) refl r
    go None d r = absurd (clash z j r)

plain-sound : (s : List ℕ) (i stop : ℕ) (z : ℤ) (j : ℕ) → unsigned (field_at s i stop) ≡ Some (z, j) → IntField s i stop z j
unfolding unsigned signed_dec
plain-sound s i stop z j e = go (field_at s i stop) refl e
  where
    end : (v k : ℕ) → Field s i stop v k → (b : Bool) → ltb (2 ^ 63 - 1) v ≡ b → cond {A = Int} b None (Some (pos v, k)) ≡ Some (z, j) → IntField s i stop z j
    end v k f true q r = absurd (clash z j r)
    end v k f false q r =
        let a : pos v ≡ z = value-of r in
        let b : k ≡ j = place-of r in
        rw (← a, ← b) (record { word = omega (arith, ltb-false (2 ^ 63 - 1) v q); text = f.text })

    go : (n : Num) → field_at s i stop ≡ n → unsigned n ≡ Some (z, j) → IntField s i stop z j
    go (Some (v, k)) d r = end v k (field-sound s i stop v k d) (ltb (2 ^ 63 - 1) v) refl r
    go None d r = absurd (clash z j r)

pub int-sound : (s : List ℕ) (i stop : ℕ) (z : ℤ) (j : ℕ) → int_at s i stop ≡ Some (z, j) → IntField s i stop z j
unfolding int_at
int-sound s i stop z j e = go (leb (length s) i) (eqb (get_or s i 0) 45) refl e
  where
    go : (a b : Bool) → eqb (get_or s i 0) 45 ≡ b → cond a None (cond b (negated (field_at s (i + 1) stop)) (unsigned (field_at s i stop))) ≡ Some (z, j) → IntField s i stop z j
    go true b q r = absurd (clash z j r)
    go false true q r = neg-sound s i stop z j (eqb-true (get_or s i 0) 45 q) r
    go false false q r = plain-sound s i stop z j r

-- a number that was read comes back from its bits
pub fits-back : (z : ℤ) → SignedWord z → to_z w64 (of_z w64 z) ≡ z
fits-back (pos n) h = back_pos n h
fits-back (negsuc n) h = back-neg n h

pub int-fits : (s : List ℕ) (i stop : ℕ) (z : ℤ) (j : ℕ) → int_at s i stop ≡ Some (z, j) → to_z w64 (of_z w64 z) ≡ z
int-fits s i stop z j e = fits-back z (int-sound s i stop z j e).word
