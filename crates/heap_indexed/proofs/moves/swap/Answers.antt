-- `heap_indexed::moves::swap` meets its contract.
use mathlib.Core.Path.{refl, sym, ◌∙◌}
use mathlib.Core.Bool.{true, false}
use Rattle.heap_indexed.proofs.Steps.{swap_is}
use Rattle.heap_indexed.proofs.moves.swap.Goals as goal

pub returns-then-not-exchange : goal.returns-then-not-exchange
returns-then-not-exchange c =
    let e = c.exchange in
    swap_is _ _ _ _ _ _ _ false (sym (c.if-not-exchange.true) ∙ e.ensures.value) e.ensures.index_after refl

pub returns : goal.returns
returns c =
    let e = c.exchange in
    swap_is _ _ _ _ _ _ _ true (sym (c.if-not-exchange.false) ∙ e.ensures.value) e.ensures.index_after c.swap_entries.ensures
