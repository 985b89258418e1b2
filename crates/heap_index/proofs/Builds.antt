-- An index that is built holds its candidates.
use mathlib.Core.Path.{◌≡◌, refl, sym, ◌∙◌, subst}
use mathlib.Core.Logic.{◌≢◌}
use mathlib.Core.List.{List}
use Prim.Native.Nat.{ℕ, zero, suc, ◌+◌, ◌<◌}
use native.Mathlib.Omega.{arith}
use lib.ListN.{length, replicate, length-set, length-replicate}
use Rattle.words.proofs.Lists.{get_d_all}
use Rattle.heap_moves.specs.Cands.{Cand}
use Rattle.heap_index.specs.Index.{key_at, look, enter_by, enter_all, build}
use Rattle.heap_index.specs.inner.Indexes.{IndexesIn, Indexes, Ranged}
use Rattle.heap_index.proofs.Stands.{other_ends}
use Rattle.heap_index.proofs.Inserts.{holds-next, insert-at}

-- the first n keys differ
abbrev pub Distinct : ℕ → List Cand → Type 0
Distinct n cs = (i j : ℕ) → i < n → j < n → key_at cs i ≡ key_at cs j → i ≡ j

pub empty_holds : (m : ℕ) (cs : List Cand) → IndexesIn m (replicate m 0) 0 cs 0
empty_holds m cs =
    record {
      named = λ p h. omega (arith, get_d_all {A = ℕ} 0 m p);
      out = λ p h y. omega (arith, get_d_all {A = ℕ} 0 m p, y);
      once = λ p q hp hq e z. absurd (z (get_d_all {A = ℕ} 0 m p));
      at = λ j h ne. absurd (omega (arith, h));
      reach = λ p q hp hq z l. absurd (z (get_d_all {A = ℕ} 0 m p));
      keys = λ i j hi hj oi oj e. absurd (omega (arith, hi));
    }

enter_one : (xs : List ℕ) (i n : ℕ) (cs : List Cand) → Indexes xs i cs i → i < n → n < length xs → Ranged n cs → Distinct n cs
    → Indexes (enter_by xs i (look xs i cs (key_at cs i))) (suc i) cs (suc i) × (length (enter_by xs i (look xs i cs (key_at cs i))) ≡ length xs)
enter_one xs i n cs v hi h r d =
    let new : (j : ℕ) → j < suc i → j ≢ i → key_at cs j ≢ key_at cs i = λ j hj ne e. ne (d j i (omega (arith, hj)) hi e) in
    let e = other_ends xs i cs i v (λ j hj. r j (omega (arith, hj))) (key_at cs i) (omega arith) (λ j hj ne. new j (omega (arith, hj)) ne) in
    rw e.ends (insert-at xs (suc i) cs i (holds-next (length xs) xs i cs v) (omega arith) e.place e.below e.empty e.before new, length-set xs e.place (suc i))

enter-all : (k : ℕ) (xs : List ℕ) (i n : ℕ) (cs : List Cand) → k + i ≡ n → Indexes xs i cs i → n < length xs → Ranged n cs → Distinct n cs
    → Indexes (enter_all k xs cs i) n cs n × (length (enter_all k xs cs i) ≡ length xs)
unfolding enter_all
enter-all zero xs i n cs e v h r d = let s : i ≡ n = omega (arith, e) in (subst (λ (x : ℕ). Indexes xs x cs x) s v, refl)
enter-all (suc k) xs i n cs e v h r d =
    let w = enter_one xs i n cs v (omega (arith, e)) h r d in
    let a = enter-all k (enter_by xs i (look xs i cs (key_at cs i))) (suc i) n cs (omega (arith, e)) w.0 (rw w.1 h) r d in
    (a.0, a.1 ∙ w.1)

pub build-holds : (m n : ℕ) (cs : List Cand) → n < m → Ranged n cs → Distinct n cs → Indexes (build m n cs) n cs n × (length (build m n cs) ≡ m)
unfolding build
build-holds m n cs h r d =
    let l : length {A = ℕ} (replicate m 0) ≡ m = length-replicate {A = ℕ} m 0 in
    let a = enter-all n (replicate m 0) 0 n cs (omega arith) (subst (λ (x : ℕ). IndexesIn x (replicate m 0) 0 cs 0) (sym l) (empty_holds m cs)) (rw l h) r d in
    (a.0, a.1 ∙ l)
