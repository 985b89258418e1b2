-- `state_text::write::lay_layer` meets its contract.
use native.Mathlib.Omega.{arith}
use Rattle.state_forms.specs.Grammar.{page_text}
use Rattle.state_text.proofs.write.lay_layer.Goals as goal

pub lay_page-requires : goal.lay_page-requires
unfolding page_text
lay_page-requires c =
    let h = c.requires.housed in
    record {
      cells_len = h.cells;
      len_in_bounds = (omega (arith, h.seats, h.used), omega (arith, c.requires.entries_len, h.used));
      len_le_most_cands = omega (arith, h.used, h.few);
      text_room = c.requires.text_room;
    }

pub returns : goal.returns
unfolding page_text
returns c = c.lay_page.ensures
