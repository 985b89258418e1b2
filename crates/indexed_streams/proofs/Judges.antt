-- Calls judged with an index and without one. Assumes nothing.
use mathlib.Core.Path.{◌≡◌, refl, sym, ap, ◌∙◌}
use mathlib.Core.Bool.{Bool, true, false, cond, not}
use mathlib.Core.List.{List, [], ◌∷◌, ◌++◌}
use Prim.Native.Nat.{ℕ, ◌+◌, ◌≤◌, ◌<◌}
use native.Mathlib.Omega.{arith}
use native.Mathlib.Decide.{dec_le, dec_lt}
use lib.ListN.{length, drop}
use lib.Dec.{eqb}
use borrow.Author.Tests.{eqb-true, eqb-false}
use Rattle.words.specs.Tests.{number, numbered}
use Rattle.words.proofs.Tests.{Off}
use Rattle.heap.specs.declared.Answer.{Answer}
use Rattle.layout.specs.Slices.{Lent}
use Rattle.layout.specs.Outcomes.{Outcome, judge}
use Rattle.layout.specs.Answers.{touched_answer, touched_places, list_left, list_call}
use Rattle.layout.specs.inner.Telling.{list_tests}
use Rattle.layout.proofs.Judged.{judge-number, no_yes, no_inj}
use Rattle.layout.proofs.ListCalls.{list-judge}
use Rattle.layout.proofs.Telling.{layers-same, in_touched, before-touched, after-touched}

-- the same tests first
pub judge-behind : (ts us vs : List (Bool × ℕ)) (r t : Lent) → judge us r ≡ judge vs t → judge (ts ++ us) r ≡ judge (ts ++ vs) t
judge-behind [] us vs r t e = e
judge-behind (z ∷ ts) us vs r t e = ap (cond z.0 (Outcome.no z.1)) (judge-behind ts us vs r t e)

-- what is read is as well in range, and the moves are fine where the counters fit: the same answer, and where nothing is refused the same state
pub judge-layers : (reads reads' fits moves : Bool) (r t : Lent) → reads' ≡ reads → (fits ≡ true → moves ≡ true) → (fits ≡ true → r ≡ t)
    → judge ((not reads', 9) ∷ (not fits, 11) ∷ (not moves, 9) ∷ []) r ≡ judge ((not reads, 9) ∷ (not fits, 11) ∷ []) t
judge-layers false reads' fits moves r t e m s = rw e
judge-layers true reads' false moves r t e m s = rw e
judge-layers true reads' true moves r t e m s = rw (e, m refl) (ap Outcome.yes (s refl))

-- ---- lists

-- layers that are touched tell the same
pub touched-same : (f g : ℕ → Answer) (many first n : ℕ) → ((m : ℕ) → first ≤ m → m < many + first → f m ≡ g m) → touched_places f many first n ≡ touched_places g many first n
touched-same f g many first n h = layers-same 1 (touched_answer f many first) (touched_answer g many first) n 0 (λ m _ _. at m (dec_le first m) (dec_lt m (many + first)))
  where
    at : (m : ℕ) → Dec (first ≤ m) → Dec (m < many + first) → touched_answer f many first m ≡ touched_answer g many first m
    at m (yes a) (yes b) = in_touched f many first m a b ∙ ap (λ (x : Answer). x ∷ []) (h m a b) ∙ sym (in_touched g many first m a b)
    at m (yes a) (no b) = after-touched f many first m (omega (arith, b)) ∙ sym (after-touched g many first m (omega (arith, b)))
    at m (no a) q = before-touched f many first m (omega (arith, a)) ∙ sym (before-touched g many first m (omega (arith, a)))

-- what a call leaves of its list, and of its index: the same where nothing is refused, and else what it was
pub list_same : (n : ℕ) (told told' list : List ℕ) → (n ≡ 0 → told ≡ told') → list_left n told list ≡ list_left n told' list
unfolding list_left
list_same n told told' list h = go (eqb n 0) refl
  where
    go : (b : Bool) → eqb n 0 ≡ b → cond b (told ++ drop (length told) list) list ≡ cond b (told' ++ drop (length told') list) list
    go true e = ap (λ (z : List ℕ). z ++ drop (length z) list) (h (eqb-true n 0 e))
    go false e = refl

-- the same tests first, and what follows need only agree where none of them holds
pub judge_when : (ts us vs : List (Bool × ℕ)) (r t : Lent) → (Off ts → judge us r ≡ judge vs t) → judge (ts ++ us) r ≡ judge (ts ++ vs) t
judge_when [] us vs r t h = h tt
judge_when (z ∷ ts) us vs r t h = go (λ g. judge_when ts us vs r t g) z.0 refl
  where
    go : ((Off ts → judge us r ≡ judge vs t) → judge (ts ++ us) r ≡ judge (ts ++ vs) t) → (b : Bool) → z.0 ≡ b
        → cond z.0 (Outcome.no z.1) (judge (ts ++ us) r) ≡ cond z.0 (Outcome.no z.1) (judge (ts ++ vs) t)
    go ih true e = rw e
    go ih false e = rw e (ih (λ o. h (e, o)))

-- ---- a refusal has a number

pub refusal-some : (least n : ℕ) (ts : List (Bool × ℕ)) (t : Lent) → numbered (ts ++ list_tests least n) ≡ true → (m : ℕ) → list_call least n (judge ts t) ≡ Outcome.no m → m ≡ 0 → ⊥
refusal-some least n ts t q m e z = go (eqb (number (ts ++ list_tests least n)) 0) refl
  where
    is : cond (eqb (number (ts ++ list_tests least n)) 0) (Outcome.yes t) (Outcome.no (number (ts ++ list_tests least n))) ≡ Outcome.no m
    is = sym (judge-number (ts ++ list_tests least n) t q) ∙ sym (list-judge least n ts t) ∙ e

    go : (b : Bool) → eqb (number (ts ++ list_tests least n)) 0 ≡ b → ⊥
    go true f = no_yes m t (sym (ap (λ (c : Bool). cond c (Outcome.yes t) (Outcome.no (number (ts ++ list_tests least n)))) (sym f) ∙ is))
    go false f = eqb-false (number (ts ++ list_tests least n)) 0 f (no_inj _ _ (ap (λ (c : Bool). cond c (Outcome.yes t) (Outcome.no (number (ts ++ list_tests least n)))) (sym f) ∙ is) ∙ z)
