-- `state_forms::cells::lay_row` meets its contract.
use mathlib.Core.Path.{sym, ◌∙◌}
use mathlib.Core.List.{[], ◌∷◌}
use lib.ListN.{length}
use native.Mathlib.Omega.{arith}
use Rattle.text.specs.Words.{bytes_of}
use Rattle.text.specs.Decimals.{dec}
use Rattle.state_forms.specs.Sparse.{sparse_text}
use Rattle.state_forms.specs.Grammar.{line_end, cell_listing, row_listing}
use Rattle.state_forms.specs.inner.Laying.{one_text}
use Rattle.state_forms.proofs.Layings.{laid_none, laid_is, six_laid, six_long, row-join, one_none, one-some}
use Rattle.state_forms.proofs.Zeros.{zeros-all}
use Rattle.state_forms.proofs.cells.lay_row.Goals as goal

pub returns-then-all_zero : goal.returns-then-all_zero
returns-then-all_zero c = laid_is (one_none (row_listing c.args.l (length c.args.cells.now)) c.args.r c.args.cells.now (zeros-all c.args.cells.now ∙ sym c.all_zero.ensures ∙ c.if-all_zero.true)) (laid_none c.args.out.now c.args.at)

pub lay_word-a-requires : goal.lay_word-a-requires
lay_word-a-requires c = omega (arith, c.requires, (six_long (bytes_of "(row ") (dec c.args.l) (32 ∷ []) (dec c.args.r) (sparse_text cell_listing 0 c.args.cells.now) line_end (one_text (row_listing c.args.l (length c.args.cells.now)) c.args.r c.args.cells.now) (row-join c.args.l (length c.args.cells.now) c.args.r c.args.cells.now ∙ (one-some (row_listing c.args.l (length c.args.cells.now)) c.args.r c.args.cells.now (zeros-all c.args.cells.now ∙ sym c.all_zero.ensures ∙ c.if-all_zero.false)))))

pub lay_decimal-b-requires : goal.lay_decimal-b-requires
lay_decimal-b-requires c = omega (arith, c.requires, (six_long (bytes_of "(row ") (dec c.args.l) (32 ∷ []) (dec c.args.r) (sparse_text cell_listing 0 c.args.cells.now) line_end (one_text (row_listing c.args.l (length c.args.cells.now)) c.args.r c.args.cells.now) (row-join c.args.l (length c.args.cells.now) c.args.r c.args.cells.now ∙ (one-some (row_listing c.args.l (length c.args.cells.now)) c.args.r c.args.cells.now (zeros-all c.args.cells.now ∙ sym c.all_zero.ensures ∙ c.if-all_zero.false)))), c.lay_word-a.ensures.place)

pub lay_byte-c-requires : goal.lay_byte-c-requires
lay_byte-c-requires c = omega (arith, c.requires, (six_long (bytes_of "(row ") (dec c.args.l) (32 ∷ []) (dec c.args.r) (sparse_text cell_listing 0 c.args.cells.now) line_end (one_text (row_listing c.args.l (length c.args.cells.now)) c.args.r c.args.cells.now) (row-join c.args.l (length c.args.cells.now) c.args.r c.args.cells.now ∙ (one-some (row_listing c.args.l (length c.args.cells.now)) c.args.r c.args.cells.now (zeros-all c.args.cells.now ∙ sym c.all_zero.ensures ∙ c.if-all_zero.false)))), c.lay_word-a.ensures.place, c.lay_decimal-b.ensures.place)

pub lay_decimal-d-requires : goal.lay_decimal-d-requires
lay_decimal-d-requires c = omega (arith, c.requires, (six_long (bytes_of "(row ") (dec c.args.l) (32 ∷ []) (dec c.args.r) (sparse_text cell_listing 0 c.args.cells.now) line_end (one_text (row_listing c.args.l (length c.args.cells.now)) c.args.r c.args.cells.now) (row-join c.args.l (length c.args.cells.now) c.args.r c.args.cells.now ∙ (one-some (row_listing c.args.l (length c.args.cells.now)) c.args.r c.args.cells.now (zeros-all c.args.cells.now ∙ sym c.all_zero.ensures ∙ c.if-all_zero.false)))), c.lay_word-a.ensures.place, c.lay_decimal-b.ensures.place, c.lay_byte-c.ensures.place)

pub lay_cells-e-requires : goal.lay_cells-e-requires
lay_cells-e-requires c = omega (arith, c.requires, (six_long (bytes_of "(row ") (dec c.args.l) (32 ∷ []) (dec c.args.r) (sparse_text cell_listing 0 c.args.cells.now) line_end (one_text (row_listing c.args.l (length c.args.cells.now)) c.args.r c.args.cells.now) (row-join c.args.l (length c.args.cells.now) c.args.r c.args.cells.now ∙ (one-some (row_listing c.args.l (length c.args.cells.now)) c.args.r c.args.cells.now (zeros-all c.args.cells.now ∙ sym c.all_zero.ensures ∙ c.if-all_zero.false)))), c.lay_word-a.ensures.place, c.lay_decimal-b.ensures.place, c.lay_byte-c.ensures.place, c.lay_decimal-d.ensures.place)

pub lay_word-requires : goal.lay_word-requires
lay_word-requires c = omega (arith, c.requires, (six_long (bytes_of "(row ") (dec c.args.l) (32 ∷ []) (dec c.args.r) (sparse_text cell_listing 0 c.args.cells.now) line_end (one_text (row_listing c.args.l (length c.args.cells.now)) c.args.r c.args.cells.now) (row-join c.args.l (length c.args.cells.now) c.args.r c.args.cells.now ∙ (one-some (row_listing c.args.l (length c.args.cells.now)) c.args.r c.args.cells.now (zeros-all c.args.cells.now ∙ sym c.all_zero.ensures ∙ c.if-all_zero.false)))), c.lay_word-a.ensures.place, c.lay_decimal-b.ensures.place, c.lay_byte-c.ensures.place, c.lay_decimal-d.ensures.place, c.lay_cells-e.ensures.place)

pub returns : goal.returns
returns c =
    six_laid (one_text (row_listing c.args.l (length c.args.cells.now)) c.args.r c.args.cells.now) (row-join c.args.l (length c.args.cells.now) c.args.r c.args.cells.now ∙ (one-some (row_listing c.args.l (length c.args.cells.now)) c.args.r c.args.cells.now (zeros-all c.args.cells.now ∙ sym c.all_zero.ensures ∙ c.if-all_zero.false)))
    c.lay_word-a.ensures c.lay_decimal-b.ensures c.lay_byte-c.ensures c.lay_decimal-d.ensures c.lay_cells-e.ensures c.lay_word.ensures
