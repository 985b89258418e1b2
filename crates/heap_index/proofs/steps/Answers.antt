-- `heap_index::steps` meets its contract.
use Rattle.heap_index.proofs.Walks.{dist_on, dist_around}
use Rattle.heap_index.proofs.steps.Goals as goal

pub returns-then-a-b : goal.returns-then-a-b
returns-then-a-b c = dist_on c.args.m c.args.a c.args.b c.if-a-b.true

pub returns : goal.returns
returns c = dist_around c.args.m c.args.a c.args.b c.if-a-b.false
