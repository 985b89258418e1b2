-- Tests in their order, and what a call answers by them. Assumes nothing.
use mathlib.Core.Path.{◌≡◌, refl, sym, ap, ◌∙◌}
use mathlib.Core.Bool.{Bool, true, false, cond, not}
use mathlib.Core.List.{List, [], ◌∷◌, ◌++◌}
use Prim.Native.Nat.{ℕ}
use native.Mathlib.Omega.{arith}
use borrow.Author.Tests.{eqb-true, eqb-false}
use lib.Dec.{eqb}
use Rattle.words.specs.Tests.{number, numbered}
use Rattle.words.proofs.Tests.{Off, off_number, number_first}
use Rattle.layout.specs.Slices.{Lent}
use Rattle.layout.specs.Outcomes.{Outcome, judge, left, left_by}

pub yes_inj : (r t : Lent) → Outcome.yes r ≡ Outcome.yes t → r ≡ t
yes_inj r t e = cc

pub no_yes : (n : ℕ) (t : Lent) → Outcome.no n ≡ Outcome.yes t → ⊥
no_yes n t e = let z : ◌≡◌ {A = ℕ} 0 1 = cc in omega arith

pub no_inj : (n m : ℕ) → Outcome.no n ≡ Outcome.no m → n ≡ m
no_inj n m e = cc

-- a call is accepted exactly if none of its tests holds
pub judged : (ts : List (Bool × ℕ)) (r t : Lent) → judge ts r ≡ Outcome.yes t → (t ≡ r) × Off ts
judged [] r t e = (sym (yes_inj r t e), tt)
judged (x ∷ ts) r t e = go (judged ts r t) x.0 refl e
  where
    go : (judge ts r ≡ Outcome.yes t → (t ≡ r) × Off ts) → (b : Bool) → x.0 ≡ b → cond b (Outcome.no x.1) (judge ts r) ≡ Outcome.yes t → (t ≡ r) × ((x.0 ≡ false) × Off ts)
    go ih true q e = absurd (no_yes x.1 t e)
    go ih false q e = ((ih e).0, (q, (ih e).1))

pub passed : (ts : List (Bool × ℕ)) (r : Lent) → Off ts → judge ts r ≡ Outcome.yes r
passed [] r h = refl
passed (x ∷ ts) r h = rw h.0 (passed ts r h.1)

-- one that is not accepted is refused with the number of its tests
pub refused : (ts : List (Bool × ℕ)) (r : Lent) → (number ts ≡ 0 → ⊥) → judge ts r ≡ Outcome.no (number ts)
refused [] r h = absurd (h refl)
refused (x ∷ ts) r h = go (refused ts r) x.0 h
  where
    go : ((number ts ≡ 0 → ⊥) → judge ts r ≡ Outcome.no (number ts)) → (b : Bool) → (cond b x.1 (number ts) ≡ 0 → ⊥) → cond b (Outcome.no x.1) (judge ts r) ≡ Outcome.no (cond b x.1 (number ts))
    go ih true k = refl
    go ih false k = ih k

-- so the number alone tells the answer, where no test has the number 0
pub judge-number : (ts : List (Bool × ℕ)) (r : Lent) → numbered ts ≡ true → judge ts r ≡ cond (eqb (number ts) 0) (Outcome.yes r) (Outcome.no (number ts))
judge-number ts r n = go (eqb (number ts) 0) refl
  where
    go : (b : Bool) → eqb (number ts) 0 ≡ b → judge ts r ≡ cond b (Outcome.yes r) (Outcome.no (number ts))
    go true q = passed ts r (off_number ts n (eqb-true (number ts) 0 q))
    go false q = refused ts r (eqb-false (number ts) 0 q)

-- ---- tests and then others

pub judge-rest : (ts us : List (Bool × ℕ)) (r : Lent) → Off ts → judge (ts ++ us) r ≡ judge us r
judge-rest [] us r h = refl
judge-rest (t ∷ ts) us r h = rw h.0 (judge-rest ts us r h.1)

-- tests whose number n is known may stand as one test, between any others
pub judge-told : (ts us vs : List (Bool × ℕ)) (r : Lent) (n : ℕ) → numbered us ≡ true → n ≡ number us → judge (ts ++ ((not (eqb n 0), n) ∷ vs)) r ≡ judge (ts ++ (us ++ vs)) r
judge-told [] us vs r n d e = go (eqb n 0) refl
  where
    go : (b : Bool) → eqb n 0 ≡ b → cond (not b) (Outcome.no n) (judge vs r) ≡ judge (us ++ vs) r
    go true q = sym (judge-rest us vs r (off_number us d (sym e ∙ eqb-true n 0 q)))
    go false q =
        let h : number us ≡ 0 → ⊥ = λ z. eqb-false n 0 q (e ∙ z) in
        let f : number (us ++ vs) ≡ n = number_first us vs h ∙ sym e in
        sym (refused (us ++ vs) r (λ z. eqb-false n 0 q (sym f ∙ z)) ∙ ap Outcome.no f)
judge-told (t ∷ ts) us vs r n d e = ap (λ (o : Outcome). cond t.0 (Outcome.no t.1) o) (judge-told ts us vs r n d e)

-- ---- what a call leaves

pub left-refused : (ts : List (Bool × ℕ)) (r t : Lent) (n : ℕ) → n ≡ number ts → (n ≡ 0 → ⊥) → left n r ≡ left_by r (judge ts t)
left-refused ts r t n e h = rw (refused ts t (λ z. h (e ∙ z))) (ap (λ (k : ℕ). left k r) e)

pub left_done : (ts : List (Bool × ℕ)) (r t : Lent) → numbered ts ≡ true → number ts ≡ 0 → left 0 t ≡ left_by r (judge ts t)
left_done ts r t n z = rw (passed ts t (off_number ts n z))

-- the number tells what a call leaves
pub left_by_lem : (ts : List (Bool × ℕ)) (r t : Lent) → numbered ts ≡ true → left_by r (judge ts t) ≡ left (number ts) (cond (eqb (number ts) 0) t r)
left_by_lem ts r t n = ap (left_by r) (judge-number ts t n) ∙ go (eqb (number ts) 0) refl
  where
    go : (b : Bool) → eqb (number ts) 0 ≡ b → left_by r (cond b (Outcome.yes t) (Outcome.no (number ts))) ≡ left (number ts) (cond b t r)
    go true q = ap (λ (k : ℕ). left k t) (sym (eqb-true (number ts) 0 q))
    go false q = refl
