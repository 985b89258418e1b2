-- `univmon_delta_indexed::apply_delta_indexed` meets its contract.
use Prim.Native.Nat.{ℕ, ◌*◌, ◌≤◌}
use mathlib.Core.Path.{◌≡◌, sym, ap, ◌∙◌, ap₂}
use mathlib.Core.Bool.{Bool}
use mathlib.Core.List.{List, ◌++◌}
use lib.ListN.{length}
use lib.IntN.{ℤ}
use native.Mathlib.Omega.{arith}
use mir.Syntax.{w64, w32}
use mir.Val.{to_z, of_z}
use mir.Facts.{to_z-of_z, sfits_widen}
use Rattle.words.specs.Tests.{number}
use Rattle.header.specs.Header.{with_mode, settled}
use Rattle.layer.specs.inner.Needs.{delta}
use Rattle.layout.specs.Slices.{Lent, lent, view}
use Rattle.layout.specs.Records.{item_at}
use Rattle.layout.specs.Outcomes.{left}
use Rattle.layout.specs.inner.Telling.{list_tests}
use Rattle.layout.proofs.Flatten.{lent_is}
use Rattle.layout.proofs.Telling.{list-kept}
use Rattle.univmon_delta.specs.Deltas.{Arrival, arrival, delta_by}
use Rattle.univmon_delta_indexed.specs.Deltas.{arrived_in, indexed_delta_tests}
use Rattle.univmon_delta_indexed.specs.inner.Needs.{ArrivesIn}
use Rattle.univmon_delta_indexed.proofs.Refusing.{index_kept, same-lent, arrives_in, arrived_is, index_is, none-refused, call_refused, call_done, call_told}
use Rattle.std.proofs.lemmas.Result.{err_from_is_err_and}
use Rattle.refusal.specs.Refusals.{number_of, refused}
use Rattle.refusal.proofs.Numbers.{number-ne0}
use Rattle.univmon_delta_indexed.proofs.apply_delta_indexed.Goals as goal
use Rattle.univmon_delta_indexed.proofs.apply_delta_indexed.Goals.{After-begin_delta-begun, After-check_delta, After-every_insert-every, After-from-n, In_ok-check_delta, Start}

-- the state that is lent, the delta, and all tests
abbrev lent_of : Start → Lent
lent_of c = lent c.args.header c.args.counters.now c.args.norms.now c.args.entries.now c.args.counts.now

abbrev delta-of : Start → Arrival
delta-of c = arrival c.args.layer c.args.row c.args.col c.args.count c.args.fidelity

abbrev tests-of : Start → List (Bool × ℕ)
tests-of c = indexed_delta_tests (lent_of c) c.args.index.now c.args.«record».now (delta-of c)

-- the count of 32 bits is the same in 64
count-is : (c : After-from-n) → to_z w64 (of_z w64 c.from-n.result) ≡ c.args.count
count-is c =
    ap (λ (z : ℤ). to_z w64 (of_z w64 z)) (c.from-n.ensures ∙ to_z-of_z c.ranges.count) ∙ to_z-of_z {w = w64} (sfits_widen {w = w32} {w' = w64} {z = c.args.count} (tt {0}) c.ranges.count)

-- the number that was found
number_is : (c : After-check_delta) → refused c.check_delta.result ≡ number (tests-of (goal.at.After-check_delta c).Start ++ list_tests (2 * c.args.header.shape.layers) (length c.args.list.now))
number_is c = rw (count-is (goal.at.After-check_delta c).After-from-n) at (c.check_delta.ensures.value c.args.fidelity)

-- nothing is refused, so the delta may be made and the list is long enough
none : (c : In_ok-check_delta) → number (tests-of (goal.at.In_ok-check_delta c).Start ++ list_tests (2 * c.args.header.shape.layers) (length c.args.list.now)) ≡ 0
none c = sym (number_is (goal.at.In_ok-check_delta c).After-check_delta) ∙ ap refused c.in_ok-check_delta.was

clear : (c : In_ok-check_delta) → (number (tests-of (goal.at.In_ok-check_delta c).Start) ≡ 0) × (2 * c.args.header.shape.layers ≤ length c.args.list.now)
clear c = let a = c.args in none-refused (lent_of (goal.at.In_ok-check_delta c).Start) a.index.now a.«record».now (delta-of (goal.at.In_ok-check_delta c).Start) (length a.list.now) (none c)

arrives : (c : In_ok-check_delta) → let a = c.args in
    ArrivesIn (lent (with_mode a.header (settled a.header.mode)) a.counters.now a.norms.now a.entries.now a.counts.now) a.index.now a.«record».now a.layer a.row a.col a.count
arrives c = let a = c.args in arrives_in (lent_of (goal.at.In_ok-check_delta c).Start) a.index.now a.«record».now (delta-of (goal.at.In_ok-check_delta c).Start) (settled a.header.mode) (clear c).0

-- header and slices that the delta is made on are those that were lent, with the mode settled, and the delta is the one that was given
start_is : (c : After-begin_delta-begun) → let a = c.args in let l = c.check_delta.new in
    lent c.begin_delta-begun.result l.counters a.norms.now l.entries l.counts
    ≡ lent (with_mode a.header (settled a.header.mode)) a.counters.now a.norms.now a.entries.now a.counts.now
start_is c = let k = c.check_delta.ensures.counters_unchanged in same-lent _ _ _ _ _ _ _ _ _ c.begin_delta-begun.ensures k.0 k.1.0 k.1.1.0

delta_is : (c : After-every_insert-every) → let a = c.args in
    delta a.row a.col (to_z w64 (of_z w64 c.from-n.result)) (item_at a.«record».now a.layer) c.every_insert-every.result ≡ delta_by (delta-of (goal.at.After-every_insert-every c).Start) a.«record».now
delta_is c = let a = c.args in ap₂ (λ (n : ℤ) (b : Bool). delta a.row a.col n (item_at a.«record».now a.layer) b) (count-is (goal.at.After-every_insert-every c).After-from-n) c.every_insert-every.ensures

pub returns-in_err-check_delta : goal.returns-in_err-check_delta
returns-in_err-check_delta c =
    let p = err_from_is_err_and c.from_residual.result c.from_residual.ensures.1 in
    rw (p.1, p.2) (let a = c.args in
    let k = c.in_err-check_delta.ensures.counters_unchanged in record {
      counts_value = rw (k.0, k.1.0, k.1.1.0)
          (call_refused (lent_of (goal.at.returns-in_err-check_delta c).Start) a.index.now a.«record».now (delta-of (goal.at.returns-in_err-check_delta c).Start) (length a.list.now) (number_of c.in_err-check_delta.field-0.0) (rw c.in_err-check_delta.was at (number_is (goal.at.returns-in_err-check_delta c).After-check_delta)) (number-ne0 c.in_err-check_delta.field-0.0));
      index_after = k.1.1.1 ∙ index_kept _ _ _ (number-ne0 c.in_err-check_delta.field-0.0);
      list_after = list-kept _ _ _ (number-ne0 c.in_err-check_delta.field-0.0);
    })

pub zero_places-requires : goal.zero_places-requires
zero_places-requires c = ((arrives (goal.at.zero_places-requires c).In_ok-check_delta).placed.placed.standing.accepted.few, (clear (goal.at.zero_places-requires c).In_ok-check_delta).1)

pub deliver-requires : goal.deliver-requires
deliver-requires c =
    let k = c.check_delta.ensures.counters_unchanged in record {
      arrives_in = rw (c.begin_delta-begun.ensures, count-is (goal.at.deliver-requires c).After-from-n, k.0, k.1.0, k.1.1.0, k.1.1.1) (arrives (goal.at.deliver-requires c).In_ok-check_delta);
      l_in_bounds = omega (arith, c.zero_places.auto.list, (clear (goal.at.deliver-requires c).In_ok-check_delta).1, (arrives (goal.at.deliver-requires c).In_ok-check_delta).placed.placed.inside);
    }

pub shape_of-counters : goal.shape_of-counters
shape_of-counters c = c.deliver.auto.counters ∙ c.check_delta.auto.counters

pub shape_of-entries : goal.shape_of-entries
shape_of-entries c = c.deliver.auto.entries ∙ c.check_delta.auto.entries

pub shape_of-counts : goal.shape_of-counts
shape_of-counts c = c.deliver.auto.counts ∙ c.check_delta.auto.counts

pub shape_of-index : goal.shape_of-index
shape_of-index c = c.deliver.auto.index ∙ c.check_delta.auto.index

pub returns : goal.returns
returns c =
    let a = c.args in
    let i = a.index.now in
    let w = a.«record».now in
    let k = c.check_delta.ensures.counters_unchanged.1.1.1 in
    record {
      counts_value = ap (left 0)
          (lent_is _ (arrived_in (view (lent_of (goal.at.returns c).Start)) i w (delta-of (goal.at.returns c).Start)) c.deliver.ensures.standing (λ j. (c.slice_known-8-1.given j).fits)
          (c.deliver.ensures.counts_value ∙ arrived_is (lent_of (goal.at.returns c).Start) i w (delta-of (goal.at.returns c).Start) _ _ _ (start_is (goal.at.returns c).After-begin_delta-begun) k (delta_is (goal.at.returns c).After-every_insert-every)))
          ∙ call_done (lent_of (goal.at.returns c).Start) i w (delta-of (goal.at.returns c).Start) (length a.list.now) (none (goal.at.returns c).In_ok-check_delta);
      index_after = index_is (lent_of (goal.at.returns c).Start) i w (delta-of (goal.at.returns c).Start) _ _ _ (start_is (goal.at.returns c).After-begin_delta-begun) k (delta_is (goal.at.returns c).After-every_insert-every) _ c.deliver.ensures.index_after;
      list_after = call_told (lent_of (goal.at.returns c).Start) i w (delta-of (goal.at.returns c).Start) _ _ _ (start_is (goal.at.returns c).After-begin_delta-begun) k (delta_is (goal.at.returns c).After-every_insert-every) a.list.now _ _ (arrives (goal.at.returns c).In_ok-check_delta).placed.placed.inside c.zero_places.ensures c.deliver.ensures.list_after;
    }
