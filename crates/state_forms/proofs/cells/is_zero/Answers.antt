-- `state_forms::cells::is_zero` meets its contract.
use Rattle.state_forms.proofs.Zeros.{zero_bits}
use Rattle.state_forms.proofs.cells.is_zero.Goals as goal

pub returns : goal.returns
returns c = zero_bits c.args.v c.ranges.v
