-- `indexed_state::lookups::lookup` meets its contract.
use Prim.Native.Nat.{◌<◌}
use mathlib.Core.Path.{◌≡◌, refl, sym, ap, ◌∙◌}
use native.Mathlib.Omega.{arith}
use Rattle.words.specs.Tests.{number}
use Rattle.layer.specs.Layer.{Layer}
use Rattle.layout.specs.Slices.{Lent, lent}
use Rattle.layout_index.specs.Tables.{table_at, indexed_tests}
use Rattle.layout_index.specs.inner.Needs.{StandingIn}
use Rattle.std.proofs.lemmas.Result.{err_from_is_err_and}
use Rattle.refusal.specs.Refusals.{number_of}
use Rattle.refusal.proofs.Numbers.{number-ne0}
use Rattle.indexed_state.proofs.Looks.{indexed_stands, look_unfit, look_outside, look_there}
use Rattle.indexed_state.specs.Lookups.{look_in}
use Rattle.indexed_state.proofs.lookups.lookup.Goals as goal
use Rattle.indexed_state.proofs.lookups.lookup.Goals.{Else-shape-layer, In_ok-check_indexed, Start}

-- the state that is lent
abbrev lent_of : Start → Lent
lent_of c = lent c.args.header c.args.counters.now c.args.norms.now c.args.entries.now c.args.counts.now

-- no test of header, lengths and index holds
none : (c : In_ok-check_indexed) → let a = c.args in number (indexed_tests (lent_of (goal.at.In_ok-check_indexed c).Start) a.index.now) ≡ 0
none c = sym c.in_ok-check_indexed.ensures

stand : (c : In_ok-check_indexed) → StandingIn (lent_of (goal.at.In_ok-check_indexed c).Start) c.args.index.now
stand c = indexed_stands (lent_of (goal.at.In_ok-check_indexed c).Start) c.args.index.now (none c)

-- the layer is one of the state's
inside : (c : Else-shape-layer) → c.args.layer < c.args.header.shape.layers
inside c = omega (arith, c.if-shape-layer.false)

pub returns-in_err-check_indexed : goal.returns-in_err-check_indexed
returns-in_err-check_indexed c =
    let a = c.args in
    let e = c.in_err-check_indexed.field-0.0 in
    let p = err_from_is_err_and c.from_residual.result c.from_residual.ensures.1 in
    rw (p.1, p.2) (look_unfit (lent_of (goal.at.returns-in_err-check_indexed c).Start) a.index.now a.layer a.key (number_of e) c.in_err-check_indexed.ensures (number-ne0 e))

pub returns-then-shape-layer : goal.returns-then-shape-layer
returns-then-shape-layer c = let a = c.args in look_outside (lent_of (goal.at.returns-then-shape-layer c).Start) a.index.now a.layer a.key 8 refl (none (goal.at.returns-then-shape-layer c).In_ok-check_indexed) (omega (arith, c.if-shape-layer.true))

pub table_at-requires : goal.table_at-requires
table_at-requires c = let s = stand (goal.at.table_at-requires c).In_ok-check_indexed in record {
  accepted = s.standing.accepted;
  l_lt_layers = inside (goal.at.table_at-requires c).Else-shape-layer;
  index_len = s.tables;
}

pub layer-part-requires : goal.layer-part-requires
layer-part-requires c = record {
  standing = (stand (goal.at.layer-part-requires c).In_ok-check_indexed).standing;
  l_lt_layers = inside (goal.at.layer-part-requires c).Else-shape-layer;
}

pub returns : goal.returns
returns c =
    let a = c.args in
    look_there (lent_of (goal.at.returns c).Start) a.index.now a.layer a.key (none (goal.at.returns c).In_ok-check_indexed) (inside (goal.at.returns c).Else-shape-layer) _
    (rw (c.table_at.ensures) at c.look_in.ensures
    ∙ ap (λ (y : Layer). look_in (table_at a.header.shape a.index.now a.layer) y.table a.key) c.layer-part.ensures.layer)
