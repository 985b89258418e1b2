-- `state_check::candidates::seat_ok` meets its contract.
use mathlib.Core.Path.{◌∙◌}
use borrow.Author.Rules.{sfits_of}
use mir.Facts.{to_z-of_z}
use Rattle.state_check.proofs.Seatings.{seat_unused}
use Rattle.state_check.proofs.candidates.seat_ok.Goals as goal

pub returns-else-i-len : goal.returns-else-i-len
returns-else-i-len c =
    let a = c.args in
    rw (to_z-of_z (sfits_of c.is_none-arg-1.given), c.item_at.ensures) at c.is_none.ensures
    ∙ seat_unused a.entries.now a.counts.now a.len a.i c.if-i-len.false c.requires.0
