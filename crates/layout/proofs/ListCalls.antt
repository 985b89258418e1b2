-- A call with a list: 16 behind its other tests. Assumes nothing.
use mathlib.Core.Path.{◌≡◌, refl, sym, ◌∙◌}
use mathlib.Core.Bool.{Bool, true, false, cond}
use mathlib.Core.List.{List, [], ◌∷◌, ◌++◌}
use Prim.Native.Nat.{ℕ, ◌≤◌, ◌<◌}
use borrow.Author.Tests.{eqb-true, eqb-false, ltb-false, lt-ltb, le-ltb}
use lib.Dec.{eqb, ltb}
use Rattle.words.specs.Tests.{number, numbered}
use Rattle.words.proofs.Tests.{off_number, number_first, number-rest}
use Rattle.layout.specs.Slices.{Lent}
use Rattle.layout.specs.Outcomes.{Outcome, judge}
use Rattle.layout.specs.Answers.{list_call}
use Rattle.layout.specs.inner.Telling.{list_tests}
use Rattle.layout.proofs.Judged.{no_yes}

-- accepted with its list, it is accepted without
pub list_yes : (least n : ℕ) (o : Outcome) (t : Lent) → list_call least n o ≡ Outcome.yes t → (o ≡ Outcome.yes t) × (least ≤ n)
list_yes least n (Outcome.no m) t e = absurd (no_yes m t e)
list_yes least n (Outcome.yes r) t e = go (ltb n least) refl e
  where
    go : (b : Bool) → ltb n least ≡ b → cond b (Outcome.no 16) (Outcome.yes r) ≡ Outcome.yes t → (Outcome.yes r ≡ Outcome.yes t) × (least ≤ n)
    go true q e = absurd (no_yes 16 t e)
    go false q e = (e, ltb-false n least q)

-- a list that is long enough changes nothing; it need be so only where the call is accepted
pub list-long : (least n : ℕ) (o : Outcome) → ((t : Lent) → o ≡ Outcome.yes t → least ≤ n) → list_call least n o ≡ o
list-long least n (Outcome.no m) h = refl
list-long least n (Outcome.yes t) h = rw (le-ltb n least (h t refl))

-- the list's test stands behind the call's own
pub list-judge : (least n : ℕ) (ts : List (Bool × ℕ)) (t : Lent) → list_call least n (judge ts t) ≡ judge (ts ++ list_tests least n) t
list-judge least n [] t = refl
list-judge least n (x ∷ ts) t = go (list-judge least n ts t) x.0
  where
    go : list_call least n (judge ts t) ≡ judge (ts ++ list_tests least n) t → (b : Bool) → list_call least n (cond b (Outcome.no x.1) (judge ts t)) ≡ cond b (Outcome.no x.1) (judge (ts ++ list_tests least n) t)
    go ih true = refl
    go ih false = ih

-- ---- the number of any tests with the list's behind them

module _ (ts : List (Bool × ℕ)) (least n : ℕ) where
  -- a test of their own refuses first
  pub list-before : (m : ℕ) → m ≡ number ts → (m ≡ 0 → ⊥) → m ≡ number (ts ++ list_tests least n)
  list-before m e h = e ∙ sym (number_first ts (list_tests least n) (λ z. h (e ∙ z)))

  -- where none does, the list's test is left
  list_left_lem : numbered ts ≡ true → number ts ≡ 0 → number (ts ++ list_tests least n) ≡ number (list_tests least n)
  list_left_lem d z = number-rest ts (list_tests least n) (off_number ts d z)

  pub list-short : numbered ts ≡ true → number ts ≡ 0 → n < least → 16 ≡ number (ts ++ list_tests least n)
  list-short d z h = sym (list_left_lem d z ∙ rw (lt-ltb n least h))

  pub list_enough : numbered ts ≡ true → number ts ≡ 0 → least ≤ n → 0 ≡ number (ts ++ list_tests least n)
  list_enough d z h = sym (list_left_lem d z ∙ rw (le-ltb n least h))

  -- where nothing is refused, no test of their own refuses, and the list is long enough
  pub list-none : numbered ts ≡ true → number (ts ++ list_tests least n) ≡ 0 → (number ts ≡ 0) × (least ≤ n)
  list-none d z = go (eqb (number ts) 0) refl
    where
      go : (b : Bool) → eqb (number ts) 0 ≡ b → (number ts ≡ 0) × (least ≤ n)
      go true q = let e = eqb-true (number ts) 0 q in (e, ltb-false n least (off_number (list_tests least n) refl (sym (list_left_lem d e) ∙ z)).0)
      go false q = let h = eqb-false (number ts) 0 q in absurd (h (list-before (number ts) refl h ∙ z))
