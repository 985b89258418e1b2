-- `state_check::candidates::seats_ok` meets its contract.
use Rattle.std.proofs.Common.{◌∙◌, rules, arith}
use Rattle.std.proofs.lemmas.Iterator.{YieldsList-from_range}
use Rattle.std.proofs.lemmas.Iterator.Search.{all_from_yields_List}
use Rattle.words.proofs.Walks.{walked}
use Rattle.heap.specs.inner.Slices.{table_of}
use Rattle.state_check.specs.Check.{seat_ok, seats_ok}
use Rattle.state_check.proofs.Seatings.{seats-step, seats-none}
use Rattle.state_check.proofs.candidates.seats_ok.Goals as goal

pub returns : goal.returns
returns c =
    let n = c.args.size in
    let t = table_of c.args.entries.now c.args.counts.now c.args.len in
    all_from_yields_List (seat_ok t) _ _ c.all.result c.all.ensures.ran (YieldsList-from_range 0 n n (cc) (omega arith)) (λ i b q k. search rules)
    ∙ walked (seats_ok t) (seat_ok t) (seats-step t) (seats-none t) n 0
