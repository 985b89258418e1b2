-- `heap_indexed::moves::resettle` meets its contract.
use Prim.Native.Nat.{◌+◌, ◌*◌}
use mathlib.Core.Path.{◌≡◌, sym, ◌∙◌}
use mathlib.Core.Bool.{true}
use Rattle.heap_moves.specs.Flat.{cands_of}
use Rattle.heap_indexed.specs.Moves.{child_in}
use Rattle.heap_indexed.proofs.Steps.{settle-left, settle-right, settle-up, settle-down}
use Rattle.heap_indexed.proofs.moves.resettle.Goals as goal
use Rattle.heap_indexed.proofs.moves.resettle.Goals.{Else-not-child_in, Else-not-child_in-2}

left_in : (c : Else-not-child_in) → child_in c.args.n (cands_of c.args.entries.now c.args.counts.now) (2 * c.args.i + 1) ≡ true
left_in c = sym (c.child_in.ensures _) ∙ c.if-not-child_in.false

right-in : (c : Else-not-child_in-2) → child_in c.args.n (cands_of c.args.entries.now c.args.counts.now) (2 * c.args.i + 2) ≡ true
right-in c = sym (c.child_in-2.ensures _) ∙ c.if-not-child_in-2.false

pub returns-then-not-child_in : goal.returns-then-not-child_in
returns-then-not-child_in c = settle-left _ _ _ _ (sym (c.child_in.ensures _) ∙ c.if-not-child_in.true)

pub returns-then-not-child_in-2 : goal.returns-then-not-child_in-2
returns-then-not-child_in-2 c = settle-right _ _ _ _ (left_in (goal.at.returns-then-not-child_in-2 c).Else-not-child_in) (sym (c.child_in-2.ensures _) ∙ c.if-not-child_in-2.true)

pub returns-then-j-i : goal.returns-then-j-i
returns-then-j-i c = settle-up _ _ _ _ (left_in (goal.at.returns-then-j-i c).Else-not-child_in) (right-in (goal.at.returns-then-j-i c).Else-not-child_in-2) _ (c.lowest-j.ensures.0 _) _ c.if-j-i.true c.climb.ensures

pub returns : goal.returns
returns c = settle-down _ _ _ _ (left_in (goal.at.returns c).Else-not-child_in) (right-in (goal.at.returns c).Else-not-child_in-2) _ (c.lowest-j.ensures.0 _) _ c.if-j-i.false c.sink.ensures
