-- `header::lens_few` meets its contract.
use Rattle.std.proofs.Common.{List, Bool}
use Rattle.header.proofs.Sweeps.{Sweep}
use Rattle.header.specs.Header.{lens_from}
use Rattle.header.proofs.lens_few.Given as goal

abbrev pub invariant-loop-len : goal.invariant-loop-len
invariant-loop-len l = (flags : List Bool) → Sweep (lens_from l.layers l.heap_size l.lens flags) l.layers 0 l.len-index l.few
