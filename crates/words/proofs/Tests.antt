-- Tests in their order: the number of the first that holds. Assumes nothing.
use Rattle.std.proofs.Common.{◌≡◌, ℕ, Bool, true, false, cond, not, eqb, List, [], ◌∷◌, ◌++◌, sym, refl, ap, ◌∙◌, eqb-true}
use borrow.Author.Tests.{eqb-false}
use Rattle.words.specs.Tests.{number, numbered}
use Rattle.words.proofs.Bools.{never, and_left, and_right}

-- no test holds
abbrev pub Off : List (Bool × ℕ) → Type 0
Off [] = Unit {0}
Off (t ∷ ts) = (t.0 ≡ false) × Off ts

pub number_off : (ts : List (Bool × ℕ)) → Off ts → number ts ≡ 0
number_off [] h = refl
number_off (t ∷ ts) h = rw h.0 (number_off ts h.1)

not-zero : (n : ℕ) → not (eqb n 0) ≡ true → n ≡ 0 → ⊥
not-zero n e z = go (eqb n 0) refl e
  where
    go : (b : Bool) → eqb n 0 ≡ b → not b ≡ true → ⊥
    go true q e = never e
    go false q e = eqb-false n 0 q z

-- where no test has the number 0, the number 0 says that none holds
pub off_number : (ts : List (Bool × ℕ)) → numbered ts ≡ true → number ts ≡ 0 → Off ts
off_number [] n e = tt
off_number (t ∷ ts) n e = go (off_number ts (and_right (not (eqb t.1 0)) (numbered ts) n)) t.0 refl e
  where
    go : (number ts ≡ 0 → Off ts) → (b : Bool) → t.0 ≡ b → cond b t.1 (number ts) ≡ 0 → (t.0 ≡ false) × Off ts
    go ih true q e = absurd (not-zero t.1 (and_left (not (eqb t.1 0)) (numbered ts) n) e)
    go ih false q e = (q, ih e)

-- ---- tests and then others

pub number_first : (ts us : List (Bool × ℕ)) → (number ts ≡ 0 → ⊥) → number (ts ++ us) ≡ number ts
number_first [] us h = absurd (h refl)
number_first (t ∷ ts) us h = go (number_first ts us) t.0 h
  where
    go : ((number ts ≡ 0 → ⊥) → number (ts ++ us) ≡ number ts) → (b : Bool) → (cond b t.1 (number ts) ≡ 0 → ⊥) → cond b t.1 (number (ts ++ us)) ≡ cond b t.1 (number ts)
    go ih true k = refl
    go ih false k = ih k

pub number-rest : (ts us : List (Bool × ℕ)) → Off ts → number (ts ++ us) ≡ number us
number-rest [] us h = refl
number-rest (t ∷ ts) us h = rw h.0 (number-rest ts us h.1)

-- where no test of two lists holds, none of either list does
pub off_first : (ts us : List (Bool × ℕ)) → Off (ts ++ us) → Off ts
off_first [] us h = tt
off_first (t ∷ ts) us h = (h.0, off_first ts us h.1)

pub off_rest : (ts us : List (Bool × ℕ)) → Off (ts ++ us) → Off us
off_rest [] us h = h
off_rest (t ∷ ts) us h = off_rest ts us h.1

-- and back
pub off_both : (ts us : List (Bool × ℕ)) → Off ts → Off us → Off (ts ++ us)
off_both [] us h k = k
off_both (t ∷ ts) us h k = (h.0, off_both ts us h.1 k)

-- us adds nothing to ts, if no test of us holds where none of ts does
pub number-alone : (ts us : List (Bool × ℕ)) → numbered ts ≡ true → (Off ts → Off us) → number (ts ++ us) ≡ number ts
number-alone ts us n f = go (eqb (number ts) 0) refl
  where
    go : (b : Bool) → eqb (number ts) 0 ≡ b → number (ts ++ us) ≡ number ts
    go true q =
        let z = eqb-true (number ts) 0 q in
        let o = off_number ts n z in
        number-rest ts us o ∙ number_off us (f o) ∙ sym z
    go false q = number_first ts us (eqb-false (number ts) 0 q)

-- ---- the number of some tests as one test in their place

-- tests with one number behind the same tests
number_behind : (ts us vs : List (Bool × ℕ)) → number us ≡ number vs → number (ts ++ us) ≡ number (ts ++ vs)
number_behind [] us vs e = e
number_behind (t ∷ ts) us vs e = ap (cond t.0 t.1) (number_behind ts us vs e)

pub number-told : (ts us vs : List (Bool × ℕ)) (n : ℕ) → numbered us ≡ true → n ≡ number us → number (ts ++ ((not (eqb n 0), n) ∷ vs)) ≡ number (ts ++ (us ++ vs))
number-told ts us vs n q e = number_behind ts ((not (eqb n 0), n) ∷ vs) (us ++ vs) (go (eqb n 0) refl)
  where
    go : (b : Bool) → eqb n 0 ≡ b → cond (not (eqb n 0)) n (number vs) ≡ number (us ++ vs)
    go true z = rw z (sym (number-rest us vs (off_number us q (sym e ∙ eqb-true n 0 z))))
    go false z = rw z (e ∙ sym (number_first us vs (λ y. eqb-false n 0 z (e ∙ y))))
