-- `layout::start_of` meets its contract.
use Rattle.std.proofs.Common.{sym}
use Rattle.layout.proofs.Offsets.{cell-off, norm-off}
use Rattle.layout.proofs.start_of.Goals as goal

pub returns : goal.returns
returns c =
    let s = c.args.shape in
    let l = c.args.l in
    rw c.min-elephants.ensures (sym (cell-off s l), sym (norm-off s l))
