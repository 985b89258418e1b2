-- `text::hex::hex_value` meets its contract.
use Rattle.std.proofs.Common.{◌≡◌, ◌<◌, ◌+◌, ◌-◌, ◌^◌, drop}
use Rattle.text.specs.Hex.{hex_from, hex_at}
use Rattle.text.proofs.hex.hex_value.Given as goal

abbrev pub invariant-loop-b : goal.invariant-loop-b
invariant-loop-b l = record {
  small : l.v < 16 ^ l.b-index;
  so_far : hex_from l.v (16 - l.b-index) (drop (l.at + l.b-index) l.s) ≡ hex_at l.s l.at;
}
