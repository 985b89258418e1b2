-- Every row of the table holds, computed from the definitions that the calls' contracts cite. Assumes nothing.
use mathlib.Core.Path.{◌≡◌, refl}
use mathlib.Core.Bool.{true}
use lib.Ieee.{of_int, of_bits, to_bits, sub, mul, div, le}
use Rattle.words.specs.Num.{in_range, capped, all_in}
use Rattle.float64.specs.Norm.{norm_read}
use Rattle.float64.specs.Root.{root}
use Rattle.matrix_storage.specs.Bits.{log2_in, log2, mask_bits, hash_of, column, signed}
use Rattle.structure_utils.specs.Median.{insert_by, sort_by, middle_f, median, middle}
use Rattle.countsketch_l2_norm.specs.Estimate.{estimates, estimate_f, estimate_of, cells_in_range}
use Rattle.countsketch_l2_norm.specs.L2.{l2_squared, l2_of, norms_in_range}
use Rattle.countsketch_l2_norm.specs.Merge.{sum_below, squares_from}
use Rattle.countsketch_l2_norm.specs.Norms.{norms_of, words_of}
use Rattle.countsketch_l2_norm.specs.Sketch.{add_cell, add_rows, rows_read, rows_fit}
use Rattle.heap_moves.specs.Cands.{up}
use Rattle.heap_moves.specs.Flat.{cands_of, entries_of}
use Rattle.heap.specs.Offer.{find, seat, offer}
use Rattle.header.specs.Header.{fresh_header, lens_from, header_ok}
use Rattle.header.specs.Shape.{shape_refusal, bottom_from, bottom_of, bottom_layer}
use Rattle.layer.specs.Layer.{add_sketch, add_layer, add_reads, add_fits}
use Rattle.layer.specs.Merge.{items}
use Rattle.layout.specs.Slices.{lengths_ok, view, flat, fresh_lent}
use Rattle.layout.specs.State.{rows_at, cols_at, cell_off, norm_off, cand_off, layer_at, put_layer, over_layers, all_layers}
use Rattle.univmon.specs.Calls.{new_call, update_call}
use Rattle.univmon.specs.Updates.{update_tests, updated}
use Rattle.sums.specs.Layers.{g_sum, standard_sum}
use Rattle.sums.specs.Terms.{g_of, factor, counted, add_term, sum_over}
use Rattle.estimates.specs.Calls.{l2_call, sum_call}
use Rattle.estimates.specs.Norms.{l2_of_state}
use Rattle.estimates.specs.Sums.{own_at, g_sum_of, items_read, layer_reads}
use Rattle.figures.specs.Figures.{same, all_hold, relay, after_a, after_b, figures}

pub figures-hold : all_hold figures ≡ true
unfolding of_int of_bits to_bits sub mul div le in_range capped all_in norm_read root log2_in log2 mask_bits hash_of column signed insert_by sort_by middle_f median middle estimates estimate_f estimate_of cells_in_range l2_squared l2_of norms_in_range sum_below squares_from norms_of words_of add_cell add_rows rows_read rows_fit up cands_of entries_of find seat offer fresh_header lens_from header_ok shape_refusal bottom_from bottom_of bottom_layer add_sketch add_layer add_reads add_fits items new_call update_call lengths_ok view flat fresh_lent rows_at cols_at cell_off norm_off cand_off layer_at put_layer over_layers all_layers update_tests updated g_sum standard_sum g_of factor counted add_term sum_over l2_call sum_call l2_of_state own_at g_sum_of items_read layer_reads same all_hold relay after_a after_b figures
figures-hold = refl
