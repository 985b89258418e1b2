-- Lists of calls, computed from the definitions: refused calls and merges among them, and what one record per key is for. Assumes nothing.
use mathlib.Core.Path.{◌≡◌, refl}
use Prim.Native.Nat.{ℕ}
use mathlib.Core.Bool.{true, false}
use mathlib.Core.List.{List, [], ◌∷◌, map}
use lib.ListN.{length, replicate}
use lib.IntN.{pos}
use lib.Ieee.{binary64, of_int, of_bits, to_bits, add, sub, mul, div, le}
use Rattle.words.specs.Num.{in_range, capped, all_in}
use Rattle.float64.specs.Norm.{norm_read}
use Rattle.float64.specs.Root.{root}
use Rattle.float64.specs.Cut.{heavy_threshold}
use Rattle.matrix_storage.specs.Bits.{log2_in, log2, mask_bits, hash_of, column, signed}
use Rattle.structure_utils.specs.Median.{insert_by, sort_by, middle_f, median, middle}
use Rattle.countsketch_l2_norm.specs.Estimate.{estimates, estimate_f, estimate_of, cells_in_range}
use Rattle.countsketch_l2_norm.specs.Merge.{sums, sum_below, squares_from, row_norms}
use Rattle.countsketch_l2_norm.specs.Norms.{norms_of, words_of}
use Rattle.countsketch_l2_norm.specs.L2.{l2_squared, l2_of, norms_in_range}
use Rattle.countsketch_l2_norm.specs.Sketch.{add_cell, add_rows, rows_read, rows_fit}
use Rattle.heap_moves.specs.Cands.{up, down, update_at, left_or, lower}
use Rattle.heap_moves.specs.Flat.{cands_of, entries_of}
use Rattle.heap.specs.Offer.{find, rescore, replace_root, displace, seat, offer}
use Rattle.header.specs.Header.{fresh_header, lens_from, header_ok}
use Rattle.header.specs.Shape.{two_tier, shape_refusal, bottom_from, bottom_of}
use Rattle.header.specs.declared.Shape.{Shape}
use Rattle.header.specs.OneTier.{one_tier}
use Rattle.layer.specs.Layer.{add_sketch, add_layer, add_reads, add_fits}
use Rattle.layer.specs.Merge.{has_key, firsts, items, offer_all, merge_layer, merge_reads, merge_fits}
use Rattle.layout.specs.Slices.{lengths_ok, view, flat, fresh_lent}
use Rattle.layout.specs.State.{rows_at, cols_at, cell_off, norm_off, cand_off, layer_at, put_layer, over_layers, all_layers}
use Rattle.univmon.specs.declared.Kind.TheVariants as kind
use Rattle.univmon.specs.Calls.{update_call, update_list_call}
use Rattle.univmon.specs.Updates.{update_tests, updated}
use Rattle.univmon_merge.specs.Merges.{merge_tests, merged, merge_call, merge_list_call}
use Rattle.sums.specs.Layers.{g_sum, standard_sum}
use Rattle.sums.specs.Terminal.{gather_one, gather_entries, ahead, rank_in, ranked, gathered, terminal_sum, flagged, complete, squares}
use Rattle.sums.specs.Terms.{g_of, factor, counted, add_term, sum_over}
use Rattle.estimates.specs.Calls.{sum_call, cardinality_call}
use Rattle.estimates.specs.Sums.{own_at, g_sum_of, items_read, layer_reads}
use Rattle.shared_streams.specs.Books.{weight_of, book_mode, distinct, book_keys}
use Rattle.shared_streams.specs.Feeds.{feed, join, start, relay_at, called}
use Rattle.shared_streams.specs.Feeds as feeds
use Rattle.shared_streams.specs.Relays.{feed_of, Relay, Call, run, accepted}
use Rattle.shared_streams.specs.Ledger.{Account, feed_number, join_number, list_number, answered_with, joined_with, booked, ledger, books}

abbrev shape : Shape
shape = one_tier 2 2 4 2

-- wide on top: layer 0 has 2 rows of 4 columns, layer 1 one row of 2
abbrev wide_top : Shape
wide_top = two_tier 2 1 2 4 1 2 2

abbrev high : ℕ
high = 0x8000000000000000

abbrev record_a : List ℕ
record_a = 7 ∷ 0 ∷ high ∷ 6 ∷ 0 ∷ 0 ∷ []

abbrev record_b : List ℕ
record_b = 8 ∷ 2 ∷ 3 ∷ 9 ∷ high ∷ 5 ∷ []

-- lists that are just long enough for an update and for a merge
abbrev four : List ℕ
four = replicate 4 0

abbrev sixteen : List ℕ
sixteen = replicate 16 0

-- a terminal update among standard ones, weight 0, two merges, and a call on a relay that was merged
abbrev standards : List Call
standards =
    feed 0 (feed_of kind.Standard record_a (pos 5) four) ∷ feed 0 (feed_of kind.Terminal record_a (pos 1) four) ∷ feed 1 (feed_of kind.Standard record_b (pos 0) four) ∷ join 0 1 sixteen
    ∷ feed 1 (feed_of kind.Standard record_b (pos 9) four) ∷ feed 2 (feed_of kind.Standard record_a (pos 3) four) ∷ join 2 0 sixteen ∷ []

abbrev terminals : List Call
terminals =
    feed 0 (feed_of kind.Terminal record_a (pos 0) four) ∷ feed 1 (feed_of kind.Terminal record_b (pos 0) four) ∷ feed 2 (feed_of kind.Terminal record_b (pos 0) four) ∷ join 0 1 sixteen ∷ join 2 0 sixteen ∷ []

-- one key with two bottom hashes: three receivers are shown where there is one
abbrev two_records : List Call
two_records = feed 2 (feed_of kind.Standard record_a (pos 1) four) ∷ feed 2 (feed_of kind.Standard (7 ∷ 2 ∷ high ∷ 6 ∷ 0 ∷ 0 ∷ []) (pos 1) four) ∷ []

-- one key with one bottom hash and two layer hashes: still one
abbrev two_hashes : List Call
two_hashes = feed 2 (feed_of kind.Standard (7 ∷ 2 ∷ high ∷ 6 ∷ 0 ∷ 0 ∷ []) (pos 1) four) ∷ feed 2 (feed_of kind.Standard (7 ∷ 2 ∷ 3 ∷ 1 ∷ 9 ∷ 4 ∷ []) (pos 1) four) ∷ []

-- an update and a merge with lists that are short by one word: relay 2 keeps its one update
abbrev short_lists : List Call
short_lists =
    feed 0 (feed_of kind.Standard record_b (pos 1) four) ∷ feed 2 (feed_of kind.Standard record_a (pos 1) four) ∷ feed 2 (feed_of kind.Standard record_b (pos 1) (replicate 3 0)) ∷ join 2 0 (replicate 15 0) ∷ []

-- of relay 2 of three: its updates by the book and by the header, their weight and distinct keys, all accepted updates, and the cardinality as it is answered
abbrev said : Shape → List Call → List ℕ
said sh cs =
    let r : Relay = relay_at sh (run sh (start sh 3) cs) 2 in
    length r.book ∷ r.lends.head.totals.updates ∷ weight_of r.book ∷ distinct (book_keys r.book) ∷ length (accepted sh (start sh 3) cs) ∷ (cardinality_call r.lends).refusal
    ∷ to_bits binary64 (cardinality_call r.lends).value ∷ []

pub examples : map (said shape) (standards ∷ terminals ∷ two_records ∷ two_hashes ∷ short_lists ∷ [])
    ≡ (3 ∷ 3 ∷ 8 ∷ 2 ∷ 3 ∷ 0 ∷ 0x4000000000000000 ∷ []) ∷ (3 ∷ 3 ∷ 0 ∷ 2 ∷ 3 ∷ 0 ∷ 0x4000000000000000 ∷ []) ∷ (2 ∷ 2 ∷ 2 ∷ 1 ∷ 2 ∷ 0 ∷ 0x4008000000000000 ∷ [])
    ∷ (2 ∷ 2 ∷ 2 ∷ 1 ∷ 2 ∷ 0 ∷ 0x3FF0000000000000 ∷ []) ∷ (1 ∷ 1 ∷ 1 ∷ 1 ∷ 2 ∷ 0 ∷ 0x3FF0000000000000 ∷ []) ∷ []
unfolding of_int of_bits to_bits add sub mul div le in_range capped all_in log2_in log2 mask_bits hash_of column signed insert_by sort_by middle_f median middle estimates estimate_f estimate_of cells_in_range sums sum_below squares_from row_norms norms_of words_of add_cell add_rows rows_read rows_fit up down update_at left_or lower cands_of entries_of find rescore replace_root displace seat offer fresh_header lens_from header_ok shape_refusal bottom_from bottom_of add_sketch add_layer add_reads add_fits has_key firsts items offer_all merge_layer merge_reads merge_fits update_call update_list_call lengths_ok view flat fresh_lent rows_at cols_at cell_off norm_off cand_off layer_at put_layer over_layers all_layers update_tests updated merge_tests merged merge_call merge_list_call called feeds.run g_sum standard_sum g_of factor counted add_term sum_over sum_call own_at g_sum_of items_read layer_reads weight_of distinct feeds.accepted norm_read root l2_squared l2_of norms_in_range heavy_threshold gather_one gather_entries ahead rank_in ranked gathered flagged complete squares terminal_sum
examples = refl

-- the same of a shape of two tiers: books, answers and cardinality are what they were
pub wide_examples : map (said wide_top) (standards ∷ terminals ∷ [])
    ≡ (3 ∷ 3 ∷ 8 ∷ 2 ∷ 3 ∷ 0 ∷ 0x4000000000000000 ∷ []) ∷ (3 ∷ 3 ∷ 0 ∷ 2 ∷ 3 ∷ 0 ∷ 0x4000000000000000 ∷ []) ∷ []
unfolding of_int of_bits to_bits add sub mul div le in_range capped all_in log2_in log2 mask_bits hash_of column signed insert_by sort_by middle_f median middle estimates estimate_f estimate_of cells_in_range sums sum_below squares_from row_norms norms_of words_of add_cell add_rows rows_read rows_fit up down update_at left_or lower cands_of entries_of find rescore replace_root displace seat offer fresh_header lens_from header_ok shape_refusal bottom_from bottom_of add_sketch add_layer add_reads add_fits has_key firsts items offer_all merge_layer merge_reads merge_fits update_call update_list_call lengths_ok view flat fresh_lent rows_at cols_at cell_off norm_off cand_off layer_at put_layer over_layers all_layers update_tests updated merge_tests merged merge_call merge_list_call called feeds.run g_sum standard_sum g_of factor counted add_term sum_over sum_call own_at g_sum_of items_read layer_reads weight_of distinct feeds.accepted norm_read root l2_squared l2_of norms_in_range heavy_threshold gather_one gather_entries ahead rank_in ranked gathered flagged complete squares terminal_sum
wide_examples = refl

-- from the list alone: who is retired, how many updates each book has, and what lists that are short by one word are answered with
pub from_the_list : (map (λ (a : Account). a.retired) (books shape 3 standards) ≡ true ∷ true ∷ false ∷ []) × (map (λ (a : Account). length a.book) (books shape 3 standards) ≡ 2 ∷ 1 ∷ 3 ∷ [])
    × (answered_with shape [] (feed_of kind.Standard record_b (pos 1) (replicate 3 0)) ∷ joined_with shape [] [] (replicate 15 0) ∷ [] ≡ 16 ∷ 16 ∷ [])
unfolding book_mode weight_of feed_number join_number list_number booked ledger
from_the_list = (refl, refl, refl)
