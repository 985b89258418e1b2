-- The whole-number recursion counts the keys of a layer that lost none. Assumes nothing.
use Prim.Native.Nat.{ℕ, zero, suc, ◌+◌, ◌*◌, ◌≤◌, ◌<◌}
use mathlib.Core.Path.{◌≡◌, refl, sym, ap, ◌∙◌}
use mathlib.Core.Bool.{Bool, true, false, cond}
use mathlib.Core.List.{List, [], ◌∷◌}
use native.Mathlib.Omega.{arith}
use lib.ListN.{length}
use lib.IntN.{ℤ, pos, negsuc, sub_ℕ, ◌+ℤ◌, ◌*ℤ◌, +ℤ_assoc, +ℤ_comm}
use lib.Dec.{eqb}
use borrow.Author.Tests.{eq-eqb, le-ltb, eqb-true}
use Rattle.sums.specs.Entries.{Entry}
use Rattle.sums.specs.inner.Whole.{bit_off, bit_sum, key_sum, onward, entry_times}

-- twice the number of those whose bit is 1, plus the sum of the signs, is the number of all
bits-all : (l : ℕ) (es : List Entry) → pos 2 *ℤ pos (length (onward l es)) +ℤ bit_sum l es ≡ pos (length es)
unfolding onward bit_sum
bits-all l [] = refl
bits-all l (e ∷ es) = go (bits-all l es) (bit_off l e)
  where
    j : ℕ
    j = length (onward l es)

    one_less : (n : ℕ) → sub_ℕ (n + 1) 1 ≡ pos n
    one_less n = rw (le-ltb (n + 1) 1 (omega arith)) (ap pos (omega arith))

    two_more : pos (2 * suc j) +ℤ negsuc 0 ≡ pos 1 +ℤ pos (2 * j)
    two_more = let e : 2 * suc j ≡ 1 + 2 * j + 1 = omega arith in rw e (one_less (1 + 2 * j))

    go : pos 2 *ℤ pos j +ℤ bit_sum l es ≡ pos (length es) → (b : Bool)
        → pos 2 *ℤ pos (length (cond b (onward l es) (e ∷ onward l es))) +ℤ (cond b (pos 1) (negsuc 0) +ℤ bit_sum l es) ≡ pos (suc (length es))
    go ih true =
        sym (+ℤ_assoc (pos (2 * j)) (pos 1) (bit_sum l es)) ∙ ap (λ (z : ℤ). z +ℤ bit_sum l es) (+ℤ_comm (pos (2 * j)) (pos 1)) ∙ +ℤ_assoc (pos 1) (pos (2 * j)) (bit_sum l es)
        ∙ ap (λ (z : ℤ). pos 1 +ℤ z) ih ∙ ap pos (omega arith)
    go ih false =
        sym (+ℤ_assoc (pos (2 * suc j)) (negsuc 0) (bit_sum l es)) ∙ ap (λ (z : ℤ). z +ℤ bit_sum l es) two_more ∙ +ℤ_assoc (pos 1) (pos (2 * j)) (bit_sum l es)
        ∙ ap (λ (z : ℤ). pos 1 +ℤ z) ih ∙ ap pos (omega arith)

pub keys-counted : (cs : ℕ → ℕ → List Entry) (k l : ℕ) → ((j m : ℕ) → l ≤ m → m + suc j ≡ l + k → length (onward (suc m) (cs (suc j) m)) ≡ length (cs j (suc m)))
    → key_sum cs k l ≡ pos (length (cs k l))
unfolding key_sum
keys-counted cs zero l h = refl
keys-counted cs (suc k) l h =
    ap (λ (z : ℤ). pos 2 *ℤ z +ℤ bit_sum (suc l) (cs (suc k) l)) (keys-counted cs k (suc l) (λ j m p q. h j m (omega arith) (omega arith)) ∙ ap pos (sym (h k l (omega arith) refl)))
    ∙ bits-all (suc l) (cs (suc k) l)

-- ---- the same keys, each as often

without : ℕ → List Entry → List Entry
without k [] = []
without k (e ∷ es) = cond (eqb e.key k) es (e ∷ without k es)

hit : ℕ → ℕ → ℕ
hit a k = cond (eqb a k) 1 0

empty : (k : ℕ) → entry_times k [] ≡ 0
unfolding entry_times
empty k = refl

hit_self : (k : ℕ) → hit k k ≡ 1
unfolding hit
hit_self k = rw (eq-eqb k k refl)

hit_no : (a k : ℕ) → eqb a k ≡ false → hit a k ≡ 0
unfolding hit
hit_no a k e = rw e

times-cons : (k : ℕ) (e : Entry) (es : List Entry) → entry_times k (e ∷ es) ≡ hit e.key k + entry_times k es
unfolding entry_times hit
times-cons k e es = go (eqb e.key k)
  where
    go : (b : Bool) → cond b (suc (entry_times k es)) (entry_times k es) ≡ cond b 1 0 + entry_times k es
    go true = omega arith
    go false = omega arith

-- without one of a key that is there, the list is one shorter, and has that key once less
without_one : (k : ℕ) (es : List Entry) → 0 < entry_times k es → (suc (length (without k es)) ≡ length es) × ((j : ℕ) → entry_times j es ≡ hit k j + entry_times j (without k es))
unfolding without
without_one k [] h = absurd (none h)
  where
    none : 0 < entry_times k [] → ⊥
    none h = omega (arith, h, empty k)
without_one k (e ∷ es) h = go (eqb e.key k) refl (without_one k es)
  where
    go : (b : Bool) → eqb e.key k ≡ b → (0 < entry_times k es → (suc (length (without k es)) ≡ length es) × ((j : ℕ) → entry_times j es ≡ hit k j + entry_times j (without k es)))
        → (suc (length (cond b es (e ∷ without k es))) ≡ suc (length es)) × ((j : ℕ) → entry_times j (e ∷ es) ≡ hit k j + entry_times j (cond b es (e ∷ without k es)))
    go true t ih = (refl, λ j. times-cons j e es ∙ ap (λ (x : ℕ). hit x j + entry_times j es) (eqb-true e.key k t))
    go false t ih =
        let z : hit e.key k ≡ 0 = hit_no e.key k t in
        let r = ih (omega (arith, times-cons k e es, z, h)) in
        (ap suc r.0, λ j. omega (arith, times-cons j e es, times-cons j e (without k es), r.1 j))

pub same_length : (xs ys : List Entry) → ((k : ℕ) → entry_times k xs ≡ entry_times k ys) → length xs ≡ length ys
same_length [] [] h = refl
same_length [] (y ∷ ys) h = absurd (omega (arith, h y.key, empty y.key, times-cons y.key y ys, hit_self y.key))
same_length (x ∷ xs) ys h =
    let t : 0 < entry_times x.key ys = omega (arith, h x.key, times-cons x.key x xs, hit_self x.key) in
    let w = without_one x.key ys t in
    ap suc (same_length xs (without x.key ys) (λ k. omega (arith, h k, times-cons k x xs, w.1 k))) ∙ w.0
