-- `state_check::layers::layer_ok` meets its contract.
use mathlib.Core.Path.{sym, ◌∙◌}
use Rattle.state_check.specs.Check.{layer_ok}
use Rattle.state_check.proofs.layers.layer_ok.Goals as goal

pub returns-then-rows_ok : goal.returns-then-rows_ok
unfolding layer_ok
returns-then-rows_ok c = c.seats_ok.ensures ∙ sym (rw (sym c.rows_ok.ensures ∙ c.if-rows_ok.true))

pub returns-else-rows_ok : goal.returns-else-rows_ok
unfolding layer_ok
returns-else-rows_ok c = c.if-rows_ok.false ∙ sym (rw (sym c.rows_ok.ensures ∙ c.if-rows_ok.false))
