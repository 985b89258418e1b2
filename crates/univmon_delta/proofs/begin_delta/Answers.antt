-- `univmon_delta::begin_delta` meets its contract.
use mathlib.Core.Path.{refl}
use Rattle.univmon_delta.proofs.begin_delta.Goals as goal

pub returns : goal.returns
returns c = rw (c.with_mode.ensures, c.join.ensures) refl
