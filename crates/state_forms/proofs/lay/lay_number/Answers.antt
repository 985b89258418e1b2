-- `state_forms::lay::lay_number` meets its contract.
use mathlib.Core.List.{[], ◌∷◌}
use lib.ListN.{length-append}
use native.Mathlib.Omega.{arith}
use Rattle.text.specs.Decimals.{dec}
use Rattle.state_forms.proofs.Layings.{laid_then}
use Rattle.state_forms.proofs.lay.lay_number.Goals as goal

pub lay_decimal-i-requires : goal.lay_decimal-i-requires
lay_decimal-i-requires c = omega (arith, c.requires, length-append (dec c.args.n) (c.args.stop ∷ []))

pub lay_byte-requires : goal.lay_byte-requires
lay_byte-requires c = omega (arith, c.requires, length-append (dec c.args.n) (c.args.stop ∷ []), c.lay_decimal-i.ensures.place)

pub returns : goal.returns
returns c = laid_then c.lay_decimal-i.ensures c.lay_byte.ensures
