-- `state_forms::cells::lay_cell` meets its contract.
use mathlib.Core.List.{[], ◌∷◌}
use native.Mathlib.Omega.{arith}
use mir.Facts.{to_z-of_z}
use Rattle.text.specs.Words.{bytes_of}
use Rattle.text.specs.Decimals.{dec}
use Rattle.text.specs.Signs.{signed_dec}
use Rattle.state_forms.specs.Grammar.{cell_format}
use Rattle.state_forms.proofs.Layings.{five_laid, five_long, cell_join}
use Rattle.state_forms.proofs.cells.lay_cell.Goals as goal

pub lay_word-i-requires : goal.lay_word-i-requires
lay_word-i-requires c = omega (arith, c.requires, (five_long (bytes_of " (") (dec c.args.c) (32 ∷ []) (signed_dec c.args.v) (41 ∷ []) (cell_format.write (c.args.c, c.args.v)) (cell_join c.args.c c.args.v)))

pub lay_decimal-j-requires : goal.lay_decimal-j-requires
lay_decimal-j-requires c = omega (arith, c.requires, (five_long (bytes_of " (") (dec c.args.c) (32 ∷ []) (signed_dec c.args.v) (41 ∷ []) (cell_format.write (c.args.c, c.args.v)) (cell_join c.args.c c.args.v)), c.lay_word-i.ensures.place)

pub lay_byte-k-requires : goal.lay_byte-k-requires
lay_byte-k-requires c = omega (arith, c.requires, (five_long (bytes_of " (") (dec c.args.c) (32 ∷ []) (signed_dec c.args.v) (41 ∷ []) (cell_format.write (c.args.c, c.args.v)) (cell_join c.args.c c.args.v)), c.lay_word-i.ensures.place, c.lay_decimal-j.ensures.place)

pub lay_signed-m-requires : goal.lay_signed-m-requires
lay_signed-m-requires c = rw (to_z-of_z c.ranges.v) (omega (arith, c.requires, (five_long (bytes_of " (") (dec c.args.c) (32 ∷ []) (signed_dec c.args.v) (41 ∷ []) (cell_format.write (c.args.c, c.args.v)) (cell_join c.args.c c.args.v)), c.lay_word-i.ensures.place, c.lay_decimal-j.ensures.place, c.lay_byte-k.ensures.place))

pub lay_byte-requires : goal.lay_byte-requires
lay_byte-requires c =
    let e = rw (to_z-of_z c.ranges.v) at c.lay_signed-m.ensures.place in
    omega (arith, c.requires, (five_long (bytes_of " (") (dec c.args.c) (32 ∷ []) (signed_dec c.args.v) (41 ∷ []) (cell_format.write (c.args.c, c.args.v)) (cell_join c.args.c c.args.v)), c.lay_word-i.ensures.place, c.lay_decimal-j.ensures.place, c.lay_byte-k.ensures.place, e)

pub returns : goal.returns
returns c =
    five_laid (cell_format.write (c.args.c, c.args.v)) (cell_join c.args.c c.args.v) c.lay_word-i.ensures c.lay_decimal-j.ensures c.lay_byte-k.ensures
    (rw (to_z-of_z c.ranges.v) at c.lay_signed-m.ensures) c.lay_byte.ensures
