-- `header::bottom_layer_for_hash` meets its contract.
use borrow.Author.Tests.{eq-eqb, ne_eqb, lt-ltb, le-ltb}
use Rattle.header.specs.Shape.{bottom_layer}
use Rattle.header.proofs.bottom_layer_for_hash.Goals as goal

pub returns-then-layers-eq0 : goal.returns-then-layers-eq0
unfolding bottom_layer
returns-then-layers-eq0 c = simp (eq-eqb _ 0 c.if-layers-eq0.true)

pub returns-then-layers-gt-MAX_LAYERS : goal.returns-then-layers-gt-MAX_LAYERS
unfolding bottom_layer
returns-then-layers-gt-MAX_LAYERS c = simp (ne_eqb _ 0 c.if-layers-eq0.false, lt-ltb _ _ c.if-layers-gt-MAX_LAYERS.true)

pub returns : goal.returns
unfolding bottom_layer
returns c = simp (ne_eqb _ 0 c.if-layers-eq0.false, le-ltb _ _ c.if-layers-gt-MAX_LAYERS.false, c.bottom_of.ensures.0)
