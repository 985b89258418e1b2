-- What the check asks of one layer, as facts instead of tests. Assumes nothing.
use mathlib.Core.Path.{◌≡◌, refl, sym, ap, ◌∙◌, subst}
use mathlib.Core.Bool.{true, false, ◌&&◌}
use Prim.Native.Nat.{ℕ, zero, suc, ◌*◌, ◌/◌, ◌%◌, ◌≤◌, ◌<◌}
use native.Mathlib.Omega.{arith}
use native.Mathlib.Nat.{mod-lt, div-add-mod', div-lt_iff_lt-mul}
use native.Mathlib.Decide.{dec_lt}
use mathlib.Core.List.{List, [], ◌∷◌}
use lib.ListN.{length, get_or, drop}
use lib.Seq.{ext_get_or}
use lib.IntN.{ℤ, pos, negsuc}
use lib.Signed.{lt_z, le_z}
use lib.Dec.{eqb}
use borrow.Author.Tests.{eq-eqb, eqb-true, lt-ltb, le-ltb, ltb-false, le-leb, leb-true}
use Rattle.words.specs.Num.{in_range, all_in}
use Rattle.words.specs.Parts.{part}
use Rattle.words.proofs.Bools.{never, and_left, and_right, both}
use Rattle.words.proofs.Parts.{part_at}
use Rattle.words.proofs.Squares.{all-at, all_take}
use Rattle.countsketch_l2_norm.specs.Sketch.{Sketch, cell_at}
use Rattle.countsketch_l2_norm.specs.Merge.{row_norm, row_norms}
use Rattle.countsketch_l2_norm.proofs.Kept.{Kept}
use Rattle.countsketch_l2_norm.proofs.Merges.{length-row_norms, row_at}
use Rattle.heap_moves.specs.Cands.{Cand, no_cand, count_at, parent}
use Rattle.heap_moves.specs.inner.Totals.{Each}
use Rattle.heap_moves.proofs.Views.{item_path, cand_path}
use Rattle.heap.specs.Offer.{Table}
use Rattle.heap.specs.inner.Sound.{Sound}
use Rattle.heap.proofs.Entries.{InR}
use Rattle.layer.specs.declared.Dims.{Dims}
use Rattle.layer.specs.Layer.{Layer}
use Rattle.layer.specs.inner.Needs.{Fits}
use Rattle.state_check.specs.Check.{row_ok, rows_ok, is_none, seated_ok, seat_ok, seats_ok, layer_ok}
use Rattle.state_check.proofs.RowSums.{all_of, rows_step, rows_none}
use Rattle.state_check.proofs.Seatings.{seats-step, seats-none}
use Rattle.state_check.proofs.Passed.{passed-at, passed-all}

-- counters in range, norms that are their rows' sums, candidates in heap order with zeros behind them, counts in range
pub record Whole (d : Dims) (y : Layer) : Type 0 where
  pub fits : Fits d y
  pub cells : all_in y.sketch.cells ≡ true
  pub norms : Kept d.rows d.cols y.sketch
  pub table : Sound d.size y.table
  pub counts : Each InR y.table.len y.table.cands

-- ---- the rows

pub all_drop : (a : ℕ) (xs : List ℤ) → all_in xs ≡ true → all_in (drop a xs) ≡ true
unfolding all_in
all_drop zero xs e = e
all_drop (suc a) [] e = refl
all_drop (suc a) (x ∷ xs) e = all_drop a xs (and_right (in_range x) (all_in xs) e)

module _ (rows cols : ℕ) (s : Sketch) where
  row_of : rows_ok cols s rows 0 ≡ true → (r : ℕ) → r < rows → row_ok cols s r ≡ true
  row_of e r h = passed-at (rows_ok cols s) (row_ok cols s) (rows_step cols s) rows 0 r (omega arith) (omega arith) e

  pub rows-cells : 1 ≤ cols → length s.cells ≡ rows * cols → rows_ok cols s rows 0 ≡ true → all_in s.cells ≡ true
  rows-cells p l e = all_of s.cells (λ i h. one i (subst (λ (n : ℕ). i < n) l h))
    where
      one : (i : ℕ) → i < rows * cols → in_range (cell_at s.cells i) ≡ true
      one i h =
          let r = i / cols in
          let c = i % cols in
          let ok = row_of e r ((div-lt_iff_lt-mul p).1 h) in
          subst (λ (n : ℕ). in_range (cell_at s.cells n) ≡ true) (div-add-mod' i cols)
          (sym (ap in_range (part_at (r * cols) cols c s.cells (pos 0) (mod-lt i p)))
          ∙ all-at (part (r * cols) cols s.cells) (and_left (all_in (part (r * cols) cols s.cells)) (eqb (get_or s.norms r 0) (row_norm cols s.cells r)) ok) c)

  pub rows-norms : length s.norms ≡ rows → rows_ok cols s rows 0 ≡ true → Kept rows cols s
  rows-norms l e =
      ext_get_or 0 s.norms (row_norms cols s.cells rows 0) (l ∙ sym (length-row_norms cols s.cells rows 0))
      (λ r h. let k : r < rows = omega (arith, h, l) in
      eqb-true (get_or s.norms r 0) (row_norm cols s.cells r) (and_right (all_in (part (r * cols) cols s.cells)) (eqb (get_or s.norms r 0) (row_norm cols s.cells r)) (row_of e r k))
      ∙ sym (row_at cols s.cells rows r k))

  pub rows_pass : all_in s.cells ≡ true → Kept rows cols s → rows_ok cols s rows 0 ≡ true
  rows_pass a e =
      passed-all (rows_ok cols s) (row_ok cols s) (rows_step cols s) (rows_none cols s) rows 0
      (λ r p q. both (all_take cols (drop (r * cols) s.cells) (all_drop (r * cols) s.cells a))
      (eq-eqb (get_or s.norms r 0) (row_norm cols s.cells r) (ap (λ (ns : List ℕ). get_or ns r 0) e ∙ row_at cols s.cells rows r (omega arith))))

-- ---- the places

not-below : (x y : ℤ) → le_z y x ≡ true → lt_z x y ≡ false
not-below (pos a) (pos b) e = le-ltb a b (leb-true b a e)
not-below (pos a) (negsuc b) e = refl
not-below (negsuc a) (pos b) e = absurd (never e)
not-below (negsuc a) (negsuc b) e = le-ltb b a (leb-true a b e)

at_least : (x y : ℤ) → lt_z x y ≡ false → le_z y x ≡ true
at_least (pos a) (pos b) e = le-leb b a (ltb-false a b e)
at_least (pos a) (negsuc b) e = refl
at_least (negsuc a) (pos b) e = absurd (never (sym e))
at_least (negsuc a) (negsuc b) e = le-leb a b (ltb-false b a e)

zero_is : (z : ℤ) → (le_z z (pos 0) && le_z (pos 0) z) ≡ true → z ≡ pos 0
zero_is (pos n) e =
    let q : n ≡ 0 = omega (arith, leb-true n 0 (and_left (le_z (pos n) (pos 0)) (le_z (pos 0) (pos n)) e)) in
    ap pos q
zero_is (negsuc n) e = absurd (never e)

none_is : (c : Cand) → is_none c ≡ true → c ≡ no_cand
unfolding is_none
none_is c e =
    let k = eqb c.item.key 0 in
    let b = eqb c.item.bottom 0 in
    let h = eqb c.item.high 0 in
    let l = eqb c.item.low 0 in
    let z = le_z c.count (pos 0) && le_z (pos 0) c.count in
    let kbhl = and_left (k && b && h && l) z e in
    let kbh = and_left (k && b && h) l kbhl in
    let kb = and_left (k && b) h kbh in
    cand_path
    (item_path (eqb-true c.item.key 0 (and_left k b kb)) (eqb-true c.item.bottom 0 (and_right k b kb)) (eqb-true c.item.high 0 (and_right (k && b) h kbh)) (eqb-true c.item.low 0 (and_right (k && b && h) l kbhl)))
    (zero_is c.count (and_right (k && b && h && l) z e))

none_pass : (c : Cand) → c ≡ no_cand → is_none c ≡ true
unfolding is_none
none_pass c e = ap is_none e

-- past the end of a list
pub past : {A : Type 0} (d : A) (xs : List A) (i : ℕ) → length xs ≤ i → get_or xs i d ≡ d
past d [] i h = refl
past d (x ∷ xs) zero h = absurd (omega arith)
past d (x ∷ xs) (suc i) h = past d xs i (omega arith)

module _ (size : ℕ) (t : Table) where
  seat_of : seats_ok t size 0 ≡ true → (i : ℕ) → i < size → seat_ok t i ≡ true
  seat_of e i h = passed-at (seats_ok t) (seat_ok t) (seats-step t) size 0 i (omega arith) (omega arith) e

  used : t.len ≤ size → seats_ok t size 0 ≡ true → (i : ℕ) → i < t.len → seated_ok t.cands i ≡ true
  used u e i h = rw (lt-ltb i t.len h) at (seat_of e i (omega arith))

  pub seats-sound : length t.cands ≡ size → t.len ≤ size → seats_ok t size 0 ≡ true → Sound size t
  seats-sound l u e =
      record {
        long = l;
        used = u;
        ordered = λ i h. not-below (count_at t.cands i) (count_at t.cands (parent i))
            (and_right (in_range (count_at t.cands i)) (le_z (count_at t.cands (parent i)) (count_at t.cands i)) (used u e i h));
        rest = λ i h. rest i h (dec_lt i size);
      }
    where
      rest : (i : ℕ) → t.len ≤ i → Dec (i < size) → get_or t.cands i no_cand ≡ no_cand
      rest i h (yes k) = none_is (get_or t.cands i no_cand) (rw (le-ltb i t.len h) at (seat_of e i k))
      rest i h (no k) = past no_cand t.cands i (omega arith)

  pub seats-counts : t.len ≤ size → seats_ok t size 0 ≡ true → Each InR t.len t.cands
  seats-counts u e i h = and_left (in_range (count_at t.cands i)) (le_z (count_at t.cands (parent i)) (count_at t.cands i)) (used u e i h)

  pub seats_pass : Sound size t → Each InR t.len t.cands → seats_ok t size 0 ≡ true
  seats_pass s c = passed-all (seats_ok t) (seat_ok t) (seats-step t) (seats-none t) size 0 (λ i p q. go i (dec_lt i t.len))
    where
      go : (i : ℕ) → Dec (i < t.len) → seat_ok t i ≡ true
      go i (yes h) = rw (lt-ltb i t.len h) (both (c i h) (at_least (count_at t.cands i) (count_at t.cands (parent i)) (s.ordered i h)))
      go i (no h) = rw (le-ltb i t.len (omega arith)) (none_pass (get_or t.cands i no_cand) (s.rest i (omega arith)))

-- ---- the layer

pub whole_of : (d : Dims) (y : Layer) → 1 ≤ d.cols → Fits d y → y.table.len ≤ d.size → layer_ok d y ≡ true → Whole d y
unfolding layer_ok
whole_of d y p f u e =
    let r = rows_ok d.cols y.sketch d.rows 0 in
    let s = seats_ok y.table d.size 0 in
    record {
      fits = f;
      cells = rows-cells d.rows d.cols y.sketch p f.cells (and_left r s e);
      norms = rows-norms d.rows d.cols y.sketch f.norms (and_left r s e);
      table = seats-sound d.size y.table f.cands u (and_right r s e);
      counts = seats-counts d.size y.table u (and_right r s e);
    }

pub whole_pass : (d : Dims) (y : Layer) → Whole d y → layer_ok d y ≡ true
unfolding layer_ok
whole_pass d y w = both (rows_pass d.rows d.cols y.sketch w.cells w.norms) (seats_pass d.size y.table w.table w.counts)
