-- `heap_moves::put_cand` meets its contract.
use borrow.Author.Rules.{rules}
use Rattle.heap_moves.proofs.Views.{put_view}
use Rattle.heap_moves.proofs.put_cand.Goals as goal

pub returns : goal.returns
returns c = put_view _ _ _ _ _ _ _ c.put_item.ensures (search rules) c.requires
