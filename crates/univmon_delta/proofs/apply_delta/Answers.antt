-- `univmon_delta::apply_delta` meets its contract.
use Prim.Native.Nat.{◌*◌, ◌≤◌}
use mathlib.Core.Path.{◌≡◌, sym, ap, ◌∙◌}
use mathlib.Core.List.{◌++◌}
use lib.ListN.{length, drop, replicate}
use lib.IntN.{ℤ}
use native.Mathlib.Omega.{arith}
use mir.Syntax.{w64, w32}
use mir.Val.{to_z, of_z}
use mir.Facts.{to_z-of_z, sfits_widen}
use Rattle.header.specs.Header.{with_mode, settled}
use Rattle.layout.specs.Slices.{lent, view, Lent}
use Rattle.layout.specs.Outcomes.{left}
use Rattle.words.specs.Tests.{number}
use Rattle.univmon_delta.specs.Deltas.{Arrival, delta_by, arrived, delta_tests, arrival}
use Rattle.layout.proofs.Flatten.{lent_is}
use Rattle.univmon_delta.proofs.Refusing.{call_refused, call_done, call_told, none-refused, arrives_of, arrived_is, same-layer}
use Rattle.layer.specs.Layer.{Layer}
use Rattle.layer.specs.Delta.{delta_answer}
use Rattle.layout.specs.State.{dims_at, layer_at}
use Rattle.heap.specs.inner.Telling.{tell_at}
use Rattle.univmon_delta.specs.inner.Needs.{Arrives}
use Rattle.layout.specs.inner.Telling.{list_tests}
use Rattle.layout.proofs.Telling.{list-kept}
use Rattle.std.proofs.lemmas.Result.{err_from_is_err_and}
use Rattle.refusal.specs.Refusals.{number_of, refused}
use Rattle.refusal.proofs.Numbers.{number-ne0}
use Rattle.univmon_delta.proofs.apply_delta.Goals as goal
use Rattle.univmon_delta.proofs.apply_delta.Goals.{After-deliver, After-check_delta, After-from-n, In_ok-check_delta, Start}

-- the state that is lent, and the delta
abbrev lent_of : Start → Lent
lent_of c = lent c.args.header c.args.counters.now c.args.norms.now c.args.entries.now c.args.counts.now

abbrev delta-of : Start → Arrival
delta-of c = arrival c.args.layer c.args.row c.args.col c.args.count c.args.fidelity

-- the count of 32 bits is the same in 64
count-is : (c : After-from-n) → to_z w64 (of_z w64 c.from-n.result) ≡ c.args.count
count-is c =
    ap (λ (z : ℤ). to_z w64 (of_z w64 z)) (c.from-n.ensures ∙ to_z-of_z c.ranges.count) ∙ to_z-of_z {w = w64} (sfits_widen {w = w32} {w' = w64} {z = c.args.count} (tt {0}) c.ranges.count)

-- the number that was found
number_is : (c : After-check_delta) → let a = c.args in
    refused c.check_delta.result ≡ number (delta_tests (lent_of (goal.at.After-check_delta c).Start) a.«record».now (delta-of (goal.at.After-check_delta c).Start) ++ list_tests (2 * a.header.shape.layers) (length a.list.now))
number_is c = rw (count-is (goal.at.After-check_delta c).After-from-n) at (c.check_delta.ensures c.args.fidelity)

-- nothing is refused, so the delta may be made and the list is long enough
none : (c : In_ok-check_delta) → let a = c.args in number (delta_tests (lent_of (goal.at.In_ok-check_delta c).Start) a.«record».now (delta-of (goal.at.In_ok-check_delta c).Start) ++ list_tests (2 * a.header.shape.layers) (length a.list.now)) ≡ 0
none c = sym (number_is (goal.at.In_ok-check_delta c).After-check_delta) ∙ ap refused c.in_ok-check_delta.was

clear : (c : In_ok-check_delta) → let a = c.args in (number (delta_tests (lent_of (goal.at.In_ok-check_delta c).Start) a.«record».now (delta-of (goal.at.In_ok-check_delta c).Start)) ≡ 0) × (2 * a.header.shape.layers ≤ length a.list.now)
clear c = let a = c.args in none-refused (lent_of (goal.at.In_ok-check_delta c).Start) a.«record».now (delta-of (goal.at.In_ok-check_delta c).Start) (length a.list.now) (none c)

placed : (c : In_ok-check_delta) → let a = c.args in Arrives (lent (with_mode a.header (settled a.header.mode)) a.counters.now a.norms.now a.entries.now a.counts.now) a.«record».now a.layer a.row a.col a.count
placed c = arrives_of (lent_of (goal.at.In_ok-check_delta c).Start) c.args.«record».now (delta-of (goal.at.In_ok-check_delta c).Start) (settled c.args.header.mode) (clear c).0

-- the state as it was left
view-now : (c : After-deliver) → let l = c.deliver.new in
    view (lent c.deliver.result l.counters l.norms l.entries l.counts) ≡ arrived (view (lent_of (goal.at.After-deliver c).Start)) c.args.«record».now (delta-of (goal.at.After-deliver c).Start)
view-now c =
    rw (c.begin_delta-begun.ensures, c.every_insert-every.ensures, count-is (goal.at.After-deliver c).After-from-n) at c.deliver.ensures.counts_value ∙ arrived_is (lent_of (goal.at.After-deliver c).Start) c.args.«record».now (delta-of (goal.at.After-deliver c).Start)

-- the list as it was left
told : (c : After-deliver) → let a = c.args in
    c.deliver.new.list
    ≡ tell_at (replicate (2 * a.header.shape.layers) 0 ++ drop (2 * a.header.shape.layers) a.list.now) a.layer (delta_answer (dims_at a.header.shape a.layer) (delta_by (delta-of (goal.at.After-deliver c).Start) a.«record».now) (layer_at (view (lent_of (goal.at.After-deliver c).Start)) a.layer))
told c =
    let a = c.args in
    rw (c.begin_delta-begun.ensures, c.every_insert-every.ensures, count-is (goal.at.After-deliver c).After-from-n, c.zero_places.ensures) at c.deliver.ensures.list_after
    ∙ ap (λ (y : Layer). tell_at (replicate (2 * a.header.shape.layers) 0 ++ drop (2 * a.header.shape.layers) a.list.now) a.layer (delta_answer (dims_at a.header.shape a.layer) (delta_by (delta-of (goal.at.After-deliver c).Start) a.«record».now) y)) (same-layer (lent_of (goal.at.After-deliver c).Start) a.«record».now (delta-of (goal.at.After-deliver c).Start) (settled a.header.mode) a.layer)

pub returns-in_err-check_delta : goal.returns-in_err-check_delta
returns-in_err-check_delta c =
    let a = c.args in
    let p = err_from_is_err_and c.from_residual.result c.from_residual.ensures.1 in
    let e = c.in_err-check_delta.field-0.0 in
    rw (p.1, p.2) (record {
      counts_value = call_refused (lent_of (goal.at.returns-in_err-check_delta c).Start) a.«record».now (delta-of (goal.at.returns-in_err-check_delta c).Start) (length a.list.now) (number_of e) (rw c.in_err-check_delta.was at (number_is (goal.at.returns-in_err-check_delta c).After-check_delta)) (number-ne0 e);
      list_after = list-kept _ _ _ (number-ne0 e);
    })

pub zero_places-requires : goal.zero_places-requires
zero_places-requires c = ((placed (goal.at.zero_places-requires c).In_ok-check_delta).placed.standing.accepted.few, (clear (goal.at.zero_places-requires c).In_ok-check_delta).1)

pub deliver-requires : goal.deliver-requires
deliver-requires c = record {
  arrives = rw (c.begin_delta-begun.ensures, count-is (goal.at.deliver-requires c).After-from-n) (placed (goal.at.deliver-requires c).In_ok-check_delta);
  l_in_bounds = omega (arith, c.zero_places.auto.list, (clear (goal.at.deliver-requires c).In_ok-check_delta).1, (placed (goal.at.deliver-requires c).In_ok-check_delta).placed.inside);
}

pub returns : goal.returns
returns c =
    let a = c.args in record {
      counts_value = ap (left 0) (lent_is _ (arrived (view (lent_of (goal.at.returns c).Start)) a.«record».now (delta-of (goal.at.returns c).Start)) c.deliver.ensures.standing (λ k. (c.slice_known-5-1.given k).fits) (view-now (goal.at.returns c).After-deliver))
          ∙ call_done (lent_of (goal.at.returns c).Start) a.«record».now (delta-of (goal.at.returns c).Start) (length a.list.now) (none (goal.at.returns c).In_ok-check_delta);
      list_after = call_told (lent_of (goal.at.returns c).Start) a.«record».now (delta-of (goal.at.returns c).Start) a.list.now _ (clear (goal.at.returns c).In_ok-check_delta).0 (told (goal.at.returns c).After-deliver);
    }
