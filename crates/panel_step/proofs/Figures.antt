-- The paper's sample, byte for byte with the form that 02 adds, and lines before a shape, worked out from the definitions.
use Prim.Native.String.{String}
use mathlib.Core.Bool.{Bool}
use mathlib.Core.List.{List, [], ◌∷◌, map}
use lib.ListN.{replicate}
use lib.IntN.{pos}
use lib.Dec.{T}
use lib.Ieee.{to_bits, of_int, of_bits, le, add, sub, mul, div}
use Rattle.words.specs.Num.{in_range, capped, all_in}
use Rattle.float64.specs.Norm.{norm_read}
use Rattle.float64.specs.Root.{root_at, root_bits, root}
use Rattle.matrix_storage.specs.Bits.{log2_in, log2, mask_bits, hash_of, column, signed}
use Rattle.structure_utils.specs.Median.{insert_by, sort_by, middle_f, median, middle}
use Rattle.countsketch_l2_norm.specs.Estimate.{estimates, estimate_of, cells_in_range}
use Rattle.countsketch_l2_norm.specs.L2.{l2_squared, l2_of, norms_in_range}
use Rattle.countsketch_l2_norm.specs.Merge.{sum_below}
use Rattle.countsketch_l2_norm.specs.Norms.{norms_of, words_of}
use Rattle.countsketch_l2_norm.specs.Sketch.{add_cell, add_rows, rows_read, rows_fit}
use Rattle.heap_moves.specs.Cands.{up}
use Rattle.heap_moves.specs.Flat.{cands_of, entries_of}
use Rattle.heap.specs.Offer.{find, seat, offer}
use Rattle.header.specs.Header.{zero_header, fresh_header, begin_of, lens_from, header_ok}
use Rattle.header.specs.Shape.{shape_refusal, bottom_from, bottom_of}
use Rattle.layer.specs.Merge.{items}
use Rattle.layer.specs.Layer.{add_sketch, add_layer, add_reads, add_fits}
use Rattle.layout.specs.Slices.{Lent, lent, lengths_ok, view, flat, fresh_lent}
use Rattle.layout.specs.State.{rows_at, cols_at, cell_off, norm_off, cand_off, layer_at, put_layer, over_layers, all_layers}
use Rattle.univmon.specs.Calls.{update_call}
use Rattle.univmon.specs.Updates.{update_tests, updated}
use Rattle.sums.specs.Layers.{g_sum, standard_sum}
use Rattle.sums.specs.Terms.{g_of, factor, counted, add_term, sum_over}
use Rattle.estimates.specs.Calls.{l1_call, l2_call, sum_call, panel_call}
use Rattle.estimates.specs.Norms.{l2_of_state}
use Rattle.estimates.specs.Sums.{own_at, g_sum_of, items_read, layer_reads}
use Rattle.text.specs.Decimals.{dec_in, dec, is_digit, num_from, dec_from, stopped, field_at}
use Rattle.text.specs.Hex.{hex_glyph, hex_digits, is_hex, nibble_of, hex_ok, hex_from}
use Rattle.text.specs.Signs.{negated, unsigned, int_at}
use Rattle.text.specs.Words.{bytes_of, is_prefix, flag_digit}
use Rattle.panel_lines.specs.Answers.{refused_text, flags_text, updates_text, show_text}
use Rattle.panel_lines.specs.Line.{read_shape, pair_ok_at, all_pairs, tail_at, halves, read_add, read_of}
use Rattle.panel_lines.proofs.Figures.{same}
use Rattle.panel_step.specs.Panel.{roomy, panel_refusal, shape_call, add_call, panel_text, show_line, reply_text, answer_to, answer_line, answers_of}

-- no shape yet, and slices that have room for the sample's
unfoldable pub empty : Lent
empty = lent zero_header (replicate 16 (pos 0)) (replicate 8 0) (replicate 16 0) (replicate 4 (pos 0))

-- these lines have these answers
unfoldable pub answered : List String → String → Bool
unfolding same empty
answered ls t = same (answers_of empty (map bytes_of ls)).text (bytes_of t)

pub before-shape : T (answered ("(show)" ∷ ("(add 7 5 0000000000000000)" ∷ ("(ad" ∷ []))) "(refused 13)\n(refused 13)\n(refused 13)\n")
unfolding answered empty same answers_of answer_line answer_to add_call show_line reply_text panel_refusal shape_refusal refused_text read_of read_shape read_add tail_at all_pairs pair_ok_at halves field_at stopped dec_from num_from is_digit int_at negated unsigned dec dec_in hex_ok hex_from is_hex nibble_of is_prefix
before-shape = tt

pub sample : T (answered
    ("(shape 2 2 4 2)"
    ∷ ("(add 7 5 0000000000000000 (8000000000000000 0000000000000006) (0000000000000000 0000000000000000))"
    ∷ ("(show)" ∷ [])))
    "(ok)\n(ok)\n(show (l1 4014000000000000) (l2 4014000000000000) (keys 3FF0000000000000) (flags 1 1) (updates 1))\n")
unfolding answered empty same answers_of answer_line answer_to shape_call add_call panel_text show_line reply_text roomy panel_refusal shape_refusal show_text updates_text dec dec_in flags_text flag_digit hex_digits hex_glyph read_of read_shape read_add tail_at all_pairs pair_ok_at halves field_at stopped dec_from num_from is_digit int_at unsigned hex_ok hex_from is_hex nibble_of is_prefix in_range capped all_in norm_read root_at root_bits root log2_in log2 mask_bits hash_of column insert_by sort_by middle_f median estimates estimate_of cells_in_range l2_squared l2_of norms_in_range sum_below norms_of add_cell add_rows rows_read rows_fit cands_of find seat offer begin_of lens_from header_ok bottom_from bottom_of add_sketch add_layer add_reads add_fits update_call lengths_ok view flat fresh_lent cell_off norm_off cand_off layer_at put_layer over_layers all_layers update_tests updated g_sum standard_sum g_of counted add_term sum_over l1_call l2_call sum_call panel_call l2_of_state own_at g_sum_of items_read layer_reads items to_bits of_int of_bits add sub mul div rows_at cols_at fresh_header signed words_of entries_of up middle le factor
sample = tt
