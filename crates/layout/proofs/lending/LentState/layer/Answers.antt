-- `layout::lending::LentState::layer` meets its contract.
use mathlib.Core.Path.{sym}
use Rattle.layout.specs.Lending.{lent_read}
use Rattle.layout.proofs.Pieces.{words_long}
use Rattle.layout.proofs.Views.{layer-view, housed_here}
use Rattle.layout.proofs.lending.LentState.layer.Goals as goal

pub returns-clause-layer : goal.returns-clause-layer
returns-clause-layer c =
    let a = c.args in
    rw (c.dims.ensures, c.cells_at.ensures, c.norms_at.ensures, c.words_at.ensures, c.seats_at.ensures)
    (sym (layer-view (lent_read a.self) c.requires.standing.sizes a.l c.requires.l_lt_layers))

pub returns-clause-housed : goal.returns-clause-housed
returns-clause-housed c =
    rw (c.dims.ensures, c.cells_at.ensures, c.norms_at.ensures, c.seats_at.ensures)
    (housed_here (lent_read c.args.self) c.requires.standing c.args.l c.requires.l_lt_layers)

pub returns-clause-entries_len : goal.returns-clause-entries_len
returns-clause-entries_len c =
    let a = c.args in
    rw (c.dims.ensures, c.words_at.ensures)
    (words_long a.self.header.now.shape a.l c.requires.l_lt_layers a.self.entries.now c.requires.standing.sizes.entries)
