-- A scan for a key that has not met it yet, one place or four further. Assumes nothing.
use Rattle.std.proofs.Common.{◌≡◌, ℕ, ◌+◌, ◌<◌, Bool, true, not, ◌&&◌, eqb, ◌≢◌, sym, subst, arith}
use native.Mathlib.Decide.{ℕ_discrete}
use Rattle.words.specs.inner.Fours.{four_other}
use Rattle.words.proofs.Bools.{and_left, and_right, not_same}

-- none of the first i places has the key; `key` gives the key at a place
abbrev pub Missed : (ℕ → ℕ) → ℕ → ℕ → Type 0
Missed key k i = (j : ℕ) → j < i → key j ≢ k

pub missed_next : (key : ℕ → ℕ) (k i : ℕ) → Missed key k i → key i ≢ k → Missed key k (i + 1)
missed_next key k i m h j l = go (ℕ_discrete j i)
  where
    go : Dec (j ≡ i) → key j ≢ k
    go (yes e) = subst (λ (z : ℕ). key z ≢ k) (sym e) h
    go (no f) = m j (omega (arith, f))

pub missed_four : (key : ℕ → ℕ) (k i : ℕ) → Missed key k i → four_other (key i) (key (i + 1)) (key (i + 2)) (key (i + 3)) k ≡ true → Missed key k (i + 4)
missed_four key k i m t =
    let m1 : Missed key k (i + 1) = missed_next key k i m (not_same (key i) k (and_left b0 (b 1) t1)) in
    let m2 : Missed key k (i + 1 + 1) = missed_next key k (i + 1) m1 (not_same (key (i + 1)) k (and_right b0 (b 1) t1)) in
    let m3 : Missed key k (i + 2 + 1) = missed_next key k (i + 2) (λ j l. m2 j (omega (arith, l))) (not_same (key (i + 2)) k (and_right (b0 && b 1) (b 2) t2)) in
    let m4 : Missed key k (i + 3 + 1) = missed_next key k (i + 3) (λ j l. m3 j (omega (arith, l))) (not_same (key (i + 3)) k (and_right ((b0 && b 1) && b 2) (b 3) t)) in
    λ j l. m4 j (omega (arith, l))
  where
    b : ℕ → Bool
    b d = not (eqb (key (i + d)) k)

    b0 : Bool
    b0 = not (eqb (key i) k)

    t2 : (b0 && b 1) && b 2 ≡ true
    t2 = and_left ((b0 && b 1) && b 2) (b 3) t

    t1 : b0 && b 1 ≡ true
    t1 = and_left (b0 && b 1) (b 2) t2
