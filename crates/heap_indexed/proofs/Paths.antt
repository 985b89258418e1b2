-- The moves with the index are the walking moves, and the index holds what they leave.
use mathlib.Core.Path.{◌≡◌, refl, sym, ap, ◌∙◌, subst}
use mathlib.Core.Bool.{Bool, true, false, cond, not}
use mathlib.Core.List.{List}
use Prim.Native.Nat.{ℕ, zero, suc, ◌+◌, ◌*◌, ◌≤◌, ◌<◌}
use native.Mathlib.Omega.{arith}
use native.Mathlib.Decide.{ℕ_discrete}
use lib.ListN.{length, length-set}
use lib.Dec.{eqb, ltb}
use borrow.Author.Tests.{eq-eqb, ne_eqb, ltb-true, eqb-false}
use Rattle.words.specs.Num.{in_range}
use Rattle.heap_moves.specs.Cands.{Cand, count_at, smaller, swapped, parent, up, lower, stays, down, update_at}
use Rattle.heap_moves.proofs.Up.{up-zero}
use Rattle.heap_moves.proofs.Moved.{each-swap, lower-lt}
use Rattle.heap_index.specs.Index.{exchange}
use Rattle.heap_index.specs.inner.Indexes.{Indexes, Ranged}
use Rattle.heap_indexed.specs.Moves.{IndexedCands, child_in, climb, sink, resettle, moved_to, swap_in}
use Rattle.heap_index.proofs.Inserts.{Kept}
use Rattle.heap_index.proofs.Exchanges.{exchange-kept}

-- the layer has gone the walking way, to ds, and its index of m places holds them
pub record Went (m n : ℕ) (ds : List Cand) (l : IndexedCands) : Type 0 where
  pub fine : l.fine ≡ true
  pub cands : l.cands ≡ ds
  pub long : length l.index ≡ m
  pub holds : Indexes l.index n ds n
  pub ranged : Ranged n ds

pub went_done : (n : ℕ) (cs : List Cand) (xs : List ℕ) → Indexes xs n cs n → Ranged n cs → Went (length xs) n cs (moved_to cs xs)
went_done n cs xs v r = record { fine = refl; cands = refl; long = refl; holds = v; ranged = r }

pub ranged-swap : (n : ℕ) (cs : List Cand) (i j : ℕ) → i < n → j < n → n ≤ length cs → Ranged n cs → Ranged n (swapped cs i j)
ranged-swap n cs i j hi hj l r = each-swap (λ (c : Cand). in_range c.count ≡ true) n cs i j hi hj l r

pub child-in : (n : ℕ) (cs : List Cand) (j : ℕ) → Ranged n cs → child_in n cs j ≡ true
unfolding child_in
child-in n cs j r = go (ltb j n) refl
  where
    go : (b : Bool) → ltb j n ≡ b → cond b (in_range (count_at cs j)) true ≡ true
    go true e = r j (ltb-true j n e)
    go false e = refl

pub climb_went : (k n : ℕ) (xs : List ℕ) (cs : List Cand) (i : ℕ) → Indexes xs n cs n → Ranged n cs → i < n → n ≤ length cs → Went (length xs) n (up k cs i) (climb k n xs cs i)
unfolding climb up
climb_went zero n xs cs i v r h l = went_done n cs xs v r
climb_went (suc k) n xs cs i v r h l = go (ℕ_discrete i 0) (λ ys ds w s. climb_went k n ys ds (parent i) w s)
  where
    go : Dec (i ≡ 0) → ((ys : List ℕ) (ds : List Cand) → Indexes ys n ds n → Ranged n ds → parent i < n → n ≤ length ds → Went (length ys) n (up k ds (parent i)) (climb k n ys ds (parent i)))
        → Went (length xs) n (up (suc k) cs i) (climb (suc k) n xs cs i)
    go (yes e) ih = rw (eq-eqb i 0 e) (subst (λ (ds : List Cand). Went (length xs) n ds (moved_to cs xs)) (sym (ap (up (suc k) cs) e ∙ up-zero (suc k) cs)) (went_done n cs xs v r))
    go (no z) ih = rw (ne_eqb i 0 z, r (parent i) (omega arith)) (by (smaller cs i (parent i)) (exchange-kept xs n cs (parent i) i v r (omega arith) h l (λ y. omega (arith, y, z))))
      where
        by : (b : Bool) → Kept (length xs) (exchange xs n cs (parent i) i) n (swapped cs (parent i) i) n
            → Went (length xs) n (cond b (up k (swapped cs (parent i) i) (parent i)) cs)
            (cond (not b) (moved_to cs xs)
            (cond (not (swap_in n xs cs (parent i) i).fine) (swap_in n xs cs (parent i) i) (climb k n (swap_in n xs cs (parent i) i).index (swap_in n xs cs (parent i) i).cands (parent i))))
        by true e =
            rw e.fine
            (subst (λ (m : ℕ). Went m n (up k (swapped cs (parent i) i) (parent i)) (climb k n (exchange xs n cs (parent i) i).table (swapped cs (parent i) i) (parent i))) e.long
            (ih (exchange xs n cs (parent i) i).table (swapped cs (parent i) i) e.holds (ranged-swap n cs (parent i) i (omega arith) h l r) (omega arith) (simp length-set l)))
        by false e = went_done n cs xs v r

pub sink_went : (k n : ℕ) (xs : List ℕ) (cs : List Cand) (i : ℕ) → Indexes xs n cs n → Ranged n cs → i < n → n ≤ length cs → Went (length xs) n (down k n cs i) (sink k n xs cs i)
unfolding sink down
sink_went zero n xs cs i v r h l = went_done n cs xs v r
sink_went (suc k) n xs cs i v r h l =
    rw (child-in n cs (2 * i + 1) r, child-in n cs (2 * i + 2) r)
    (go (eqb (lower n cs i) i) refl (λ ys ds w s. sink_went k n ys ds (lower n cs i) w s))
  where
    go : (b : Bool) → eqb (lower n cs i) i ≡ b
        → ((ys : List ℕ) (ds : List Cand) → Indexes ys n ds n → Ranged n ds → lower n cs i < n → n ≤ length ds → Went (length ys) n (down k n ds (lower n cs i)) (sink k n ys ds (lower n cs i)))
        → Went (length xs) n (cond b cs (down k n (swapped cs i (lower n cs i)) (lower n cs i)))
        (cond b (moved_to cs xs)
        (cond (not (swap_in n xs cs i (lower n cs i)).fine) (swap_in n xs cs i (lower n cs i)) (sink k n (swap_in n xs cs i (lower n cs i)).index (swap_in n xs cs i (lower n cs i)).cands (lower n cs i))))
    go true q ih = went_done n cs xs v r
    go false q ih = by (exchange-kept xs n cs i (lower n cs i) v r h (lower-lt n cs i h) l (λ y. eqb-false (lower n cs i) i q (sym y)))
      where
        by : Kept (length xs) (exchange xs n cs i (lower n cs i)) n (swapped cs i (lower n cs i)) n
            → Went (length xs) n (down k n (swapped cs i (lower n cs i)) (lower n cs i))
            (cond (not (swap_in n xs cs i (lower n cs i)).fine) (swap_in n xs cs i (lower n cs i)) (sink k n (swap_in n xs cs i (lower n cs i)).index (swap_in n xs cs i (lower n cs i)).cands (lower n cs i)))
        by e =
            rw e.fine
            (subst (λ (m : ℕ). Went m n (down k n (swapped cs i (lower n cs i)) (lower n cs i)) (sink k n (exchange xs n cs i (lower n cs i)).table (swapped cs i (lower n cs i)) (lower n cs i))) e.long
            (ih (exchange xs n cs i (lower n cs i)).table (swapped cs i (lower n cs i)) e.holds (ranged-swap n cs i (lower n cs i) h (lower-lt n cs i h) l r) (lower-lt n cs i h) (simp length-set l)))

pub settle_went : (n : ℕ) (xs : List ℕ) (cs : List Cand) (i : ℕ) → Indexes xs n cs n → Ranged n cs → i < n → n ≤ length cs → Went (length xs) n (update_at n cs i) (resettle n xs cs i)
unfolding resettle update_at
settle_went n xs cs i v r h l = rw (child-in n cs (2 * i + 1) r, child-in n cs (2 * i + 2) r) (go (stays n cs i))
  where
    go : (b : Bool) → Went (length xs) n (cond b (up i cs i) (down n n cs i)) (cond b (climb i n xs cs i) (sink n n xs cs i))
    go true = climb_went i n xs cs i v r h l
    go false = sink_went n n xs cs i v r h l
