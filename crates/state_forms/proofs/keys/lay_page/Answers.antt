-- `state_forms::keys::lay_page` meets its contract.
use Prim.Native.Nat.{◌+◌}
use mathlib.Core.Path.{◌≡◌}
use lib.ListN.{length, take}
use native.Mathlib.Omega.{arith}
use Rattle.heap_moves.specs.Flat.{cands_of}
use Rattle.state_forms.specs.Sparse.{sparse_text}
use Rattle.state_forms.specs.Grammar.{row_listing, rows_of, flag_format, keys_text, page_text}
use Rattle.state_forms.proofs.Layings.{three_laid, page_join, page_long}
use Rattle.state_forms.proofs.keys.lay_page.Goals as goal
use Rattle.state_forms.proofs.keys.lay_page.Goals.{Start}

sizes : (c : Start) → length ((flag_format c.args.l).write c.args.flag) + length (sparse_text (row_listing c.args.l c.args.cols) 0 (rows_of c.args.cols c.args.rows c.args.cells.now)) + length (keys_text c.args.l (take c.args.len (cands_of c.args.entries.now c.args.counts.now)))
    ≡ length (page_text c.args.l c.args.flag c.args.rows c.args.cols c.args.cells.now (take c.args.len (cands_of c.args.entries.now c.args.counts.now)))
sizes c = page_long c.args.l c.args.flag c.args.rows c.args.cols c.args.cells.now (take c.args.len (cands_of c.args.entries.now c.args.counts.now))

pub lay_flag-a-requires : goal.lay_flag-a-requires
lay_flag-a-requires c = omega (arith, c.requires.text_room, sizes (goal.at.lay_flag-a-requires c).Start)

pub lay_rows-b-requires : goal.lay_rows-b-requires
lay_rows-b-requires c = record {
  cells_len = c.requires.cells_len;
  text_room = omega (arith, c.requires.text_room, sizes (goal.at.lay_rows-b-requires c).Start, c.lay_flag-a.ensures.place);
}

pub lay_keys-requires : goal.lay_keys-requires
lay_keys-requires c = record {
  len_in_bounds = c.requires.len_in_bounds;
  len_le_most_cands = c.requires.len_le_most_cands;
  text_room = omega (arith, c.requires.text_room, sizes (goal.at.lay_keys-requires c).Start, c.lay_flag-a.ensures.place, c.lay_rows-b.ensures.place);
}

pub returns : goal.returns
returns c = three_laid _ (page_join c.args.l c.args.flag c.args.rows c.args.cols c.args.cells.now (take c.args.len (cands_of c.args.entries.now c.args.counts.now))) c.lay_flag-a.ensures c.lay_rows-b.ensures c.lay_keys.ensures
