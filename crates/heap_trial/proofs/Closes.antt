-- The gap that the root's key leaves: passed over, closed and filled, on the table itself or on a copy.
use mathlib.Core.Path.{◌≡◌, refl, sym, ap, ◌∙◌, subst}
use mathlib.Core.Logic.{◌≢◌}
use mathlib.Core.Bool.{Bool, true, false, cond, not}
use mathlib.Core.List.{List}
use Prim.Native.Nat.{ℕ, suc, ◌-◌, ◌*◌, ◌≤◌, ◌<◌}
use native.Mathlib.Omega.{arith}
use lib.ListN.{length, get_or, set}
use lib.Seq.{get_or-set_same}
use lib.IntN.{ℤ}
use lib.Dec.{leb}
use borrow.Author.Tests.{eq-eqb, ne_eqb, lt-ltb}
use Rattle.heap_moves.specs.declared.Item.{Item}
use Rattle.heap_moves.specs.Cands.{Cand}
use Rattle.heap_moves.specs.Flat.{cands_of, cand_of}
use Rattle.heap.specs.Offer.{Table}
use Rattle.heap_index.specs.inner.Needs.{Cover}
use Rattle.heap_index.specs.Index.{word, key_at, key_on, home, next_place, dist, is_name, close, remove, remove_at, found_under, IndexStep}
use Rattle.heap_index.proofs.Checks.{place_at}
use Rattle.heap_index.proofs.Walks.{name_le, key-read, remove_is, remove_no}
use Rattle.heap_indexed.specs.Moves.{IndexedCands}
use Rattle.heap_indexed.specs.Offers.{come_in, replace_in}
use Rattle.heap_trial.specs.inner.Trials.{then_in}
use Rattle.heap_trial.proofs.Backs.{set_back}

-- ---- a word that names a candidate: the key that is read there

pub name_key : (es : List ℕ) (ns : List ℤ) (n w : ℕ) → is_name n (cands_of es ns) w ≡ true → w ≢ 0 → Cover (length es) (length ns) n → key_at (cands_of es ns) (w - 1) ≡ get_or es (4 * (w - 1)) 0
name_key es ns n w e z h = key-read es ns (w - 1) (omega (arith, name_le n (cands_of es ns) w e, z, h.used))

-- ---- one place: its entry stays, or moves into the gap

module _ (xs : List ℕ) (n : ℕ) (cs : List Cand) (g p : ℕ) (z : word xs p ≢ 0) (w : is_name n cs (word xs p) ≡ true) (key h back way : ℕ) (ek : key_on xs cs p ≡ key) (eh : h ≡ home (length xs) key)
    (eb : back ≡ dist (length xs) g p) (ew : way ≡ dist (length xs) h p) where
  from_home : dist (length xs) (home (length xs) (key_on xs cs p)) p ≡ way
  from_home = ap (λ (x : ℕ). dist (length xs) x p) (ap (home (length xs)) ek ∙ sym eh) ∙ sym ew

  pub gap_step : (f : ℕ) → close (suc f) xs n cs g p ≡ cond (leb back way) (close f (set (set xs g (word xs p)) p 0) n cs p (next_place (length xs) p)) (close f xs n cs g (next_place (length xs) p))
  unfolding close
  gap_step f = rw (ne_eqb (word xs p) 0 z, w, from_home, sym eb)

-- ---- places that are passed over

-- from the place on, with so many places left, the gap is closed as from the start
pub record Skipping (xs : List ℕ) (n : ℕ) (cs : List Cand) (g start many place left : ℕ) : Type 0 where
  pub goes : close left xs n cs g place ≡ close many xs n cs g start
  pub here : place < length xs
  pub most : left ≤ many

-- ---- closed, and the new key comes in

module _ (s : IndexStep) (t : Table) (c : Cand) where
  pub then_no : (b : Bool) → b ≡ s.fine → b ≡ false → false ≡ then_in s t c
  unfolding then_in
  then_no b e f = rw (sym e ∙ f)

  pub then-in : (b : Bool) → b ≡ s.fine → b ≡ true → (ys : List ℕ) → ys ≡ s.table → (r : Bool) → r ≡ (come_in ys t c).fine → r ≡ then_in s t c
  unfolding then_in
  then-in b e f ys ey r q = rw (sym e ∙ f) (q ∙ ap (λ (x : List ℕ). (come_in x t c).fine) ey)

pub as_then : (s : IndexStep) (t : Table) (w : Item) (v v' : ℤ) → v' ≡ v → (r : Bool) → r ≡ then_in s t (cand_of w v') → r ≡ then_in s t (cand_of w v)
as_then s t w v v' e r q = q ∙ ap (λ (x : ℤ). then_in s t (cand_of w x)) e

pub as_came : (xs : List ℕ) (t : Table) (w : Item) (v v' : ℤ) → v' ≡ v → (r : Bool) → r ≡ (come_in xs t (cand_of w v')).fine → r ≡ (come_in xs t (cand_of w v)).fine
as_came xs t w v v' e r q = q ∙ ap (λ (x : ℤ). (come_in xs t (cand_of w x)).fine) e

-- ---- tried from a place q that was skipped to, with k places left

module _ (xs : List ℕ) (n : ℕ) (cs : List Cand) (g q : ℕ) (t : Table) (c : Cand) (k : ℕ) where
  none_left : k ≡ 0 → false ≡ then_in (close k xs n cs g q) t c
  unfolding close then_in
  none_left e = rw e

  closed_here : (j : ℕ) → k ≡ suc j → word xs q ≡ 0 → (r : Bool) → r ≡ (come_in xs t c).fine → r ≡ then_in (close k xs n cs g q) t c
  unfolding close then_in
  closed_here j e z r s = rw (e, eq-eqb (word xs q) 0 z) s

module _ (xs : List ℕ) (n : ℕ) (cs : List Cand) (g p f q k : ℕ) (skipped : close k xs n cs g q ≡ close f xs n cs g p) (t : Table) (c : Cand) where
  pub gap_from : (r : Bool) → r ≡ then_in (close k xs n cs g q) t c → r ≡ then_in (close f xs n cs g p) t c
  gap_from r e = e ∙ ap (λ (x : IndexStep). then_in x t c) skipped

  pub gap_none : k ≡ 0 → false ≡ then_in (close f xs n cs g p) t c
  gap_none e = gap_from false (none_left xs n cs g q t c k e)

  pub gap_closed : 0 < k → word xs q ≡ 0 → (r : Bool) → r ≡ (come_in xs t c).fine → r ≡ then_in (close f xs n cs g p) t c
  gap_closed h z r s = gap_from r (closed_here xs n cs g q t c k (k - 1) (omega (arith, h)) z r s)

  pub gap_moved : 0 < k → ((j : ℕ) → close (suc j) xs n cs g q ≡ close j (set (set xs g (word xs q)) q 0) n cs q (next_place (length xs) q)) → (q' : ℕ) → q' ≡ next_place (length xs) q
      → (r : Bool) → r ≡ then_in (close (k - 1) (set (set xs g (word xs q)) q 0) n cs q q') t c → r ≡ then_in (close f xs n cs g p) t c
  gap_moved h moves q' e r s =
      gap_from r (s ∙ ap (λ (x : IndexStep). then_in x t c)
      (ap (close (k - 1) (set (set xs g (word xs q)) q 0) n cs q) e ∙ sym (moves (k - 1)) ∙ ap (λ (x : ℕ). close x xs n cs g q) (omega (arith, h))))

pub gap_back : (xs ys : List ℕ) (g p : ℕ) → word xs g ≡ 0 → word xs p ≢ 0 → ys ≡ set (set xs g (word xs p)) p 0 → set (set ys g 0) p (word xs p) ≡ xs
gap_back xs ys g p e z q =
    ap (λ (l : List ℕ). set (set l g 0) p (word xs p)) q ∙ set_back 0 xs g p (word xs p) 0 0 (word xs p) (λ s. z (sym (ap (word xs) s) ∙ e)) e refl

-- ---- out and in, from the place of the root's key

pub place-number : (xs : List ℕ) (n : ℕ) (cs : List Cand) (i g : ℕ) → g ≡ found_under xs n cs i → g < length xs → word xs g ≡ suc i
place-number xs n cs i g e h = ap (word xs) e ∙ (place_at xs n cs i (subst (λ (x : ℕ). x < length xs) e h)).number

fine-cond : (b : Bool) (x y : IndexedCands) → (cond b x y).fine ≡ cond b x.fine y.fine
fine-cond true x y = refl
fine-cond false x y = refl

replace-fine : (xs : List ℕ) (t : Table) (c : Cand) → then_in (remove xs t.len t.cands 0) t c ≡ (replace_in xs t c).fine
unfolding replace_in then_in
replace-fine xs t c = sym (fine-cond (not (remove xs t.len t.cands 0).fine) _ _)

pub try_replaced : (xs : List ℕ) (t : Table) (c : Cand) (g q : ℕ) → g ≡ found_under xs t.len t.cands 0 → g < length xs → q ≡ next_place (length xs) g → (r : Bool)
    → r ≡ then_in (close (length xs) (set xs g 0) t.len t.cands g q) t c → r ≡ (replace_in xs t c).fine
unfolding remove_at
try_replaced xs t c g q e h eq r s =
    s ∙ ap (λ (x : IndexStep). then_in x t c) (ap (close (length xs) (set xs g 0) t.len t.cands g) eq ∙ sym out) ∙ replace-fine xs t c
  where
    out : remove xs t.len t.cands 0 ≡ close (length xs) (set xs g 0) t.len t.cands g (next_place (length xs) g)
    out = remove_is xs t.len t.cands 0 g e ∙ rw (lt-ltb g (length xs) h)

pub try_missing : (xs : List ℕ) (t : Table) (c : Cand) (g : ℕ) → g ≡ found_under xs t.len t.cands 0 → length xs ≤ g → false ≡ (replace_in xs t c).fine
unfolding then_in
try_missing xs t c g e h = sym (sym (replace-fine xs t c) ∙ rw (remove_no xs t.len t.cands 0 g e h))

pub zeroed : (xs : List ℕ) (g : ℕ) → g < length xs → word (set xs g 0) g ≡ 0
zeroed xs g h = get_or-set_same xs g 0 0 h
