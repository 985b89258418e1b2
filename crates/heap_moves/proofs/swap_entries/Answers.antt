-- `heap_moves::swap_entries` meets its contract.
use borrow.Author.Rules.{rules}
use Rattle.heap_moves.proofs.Views.{swap_view}
use Rattle.heap_moves.proofs.swap_entries.Goals as goal

pub returns : goal.returns
returns c =
    swap_view _ _ _ _ _ _ _ _ _ _ c.item_at-w.ensures c.item_at-v.ensures c.put_item.ensures
    c.put_item-2.ensures (search rules) (search rules) c.requires
