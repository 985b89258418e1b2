-- A delta on one layer of a lent state. Assumes nothing.
use mathlib.Core.Path.{◌≡◌, sym, ap, ◌∙◌}
use mathlib.Core.Bool.{Bool, true, false, ◌&&◌}
use mathlib.Core.List.{List}
use Prim.Native.Nat.{ℕ, ◌+◌, ◌*◌}
use lib.ListN.{get_or, take}
use lib.IntN.{ℤ}
use lib.Dec.{leb}
use Rattle.words.specs.Num.{in_range, all_in, square_cap, capped}
use Rattle.words.specs.Tests.{number}
use Rattle.words.proofs.Bools.{and_left}
use Rattle.countsketch_l2_norm.specs.Sketch.{cell_at}
use Rattle.countsketch_l2_norm.specs.inner.Needs.{sketch_of}
use Rattle.countsketch_l2_norm.specs.Estimate.{cells_in_range}
use Rattle.heap_moves.specs.declared.Item.{Item}
use Rattle.layer.specs.declared.Dims.{Dims}
use Rattle.layer.specs.Layer.{Layer, hash_by}
use Rattle.layer.specs.inner.Needs.{layer_of, delta, DeltaReady}
use Rattle.layer.specs.Delta.{Delta, delta_reads, delta_fits}
use Rattle.layer.proofs.Tests.{delta_reads_are}
use Rattle.layout.specs.declared.Span.{Span}
use Rattle.layout.specs.State.{dims_at}
use Rattle.layout.specs.Slices.{Lent}
use Rattle.layout.specs.Records.{item_at}
use Rattle.layout.proofs.Views.{shape_by}
use Rattle.layout.proofs.Handed.{Spanned, cell_part, norm_part, word_part, seat_part, housed, word-length, handed_is}
use Rattle.univmon_delta.specs.Deltas.{delta_tests_at}
use Rattle.univmon_delta.specs.inner.Needs.{Arrives}

-- ---- the two tests of a layer

pub judged_unread : (d : Dims) (u : Delta) (y : Layer) → delta_reads d u y ≡ false → 9 ≡ number (delta_tests_at d u y)
judged_unread d u y e = rw e

pub judged_unfit : (d : Dims) (u : Delta) (y : Layer) → delta_reads d u y ≡ true → delta_fits d u y ≡ false → 11 ≡ number (delta_tests_at d u y)
judged_unfit d u y e f = rw (e, f)

pub judged_well : (d : Dims) (u : Delta) (y : Layer) → delta_reads d u y ≡ true → delta_fits d u y ≡ true → 0 ≡ number (delta_tests_at d u y)
judged_well d u y e f = rw (e, f)

-- where all that a delta reads is in range, its counter is
pub counter_read : (d : Dims) (row col : ℕ) (n : ℤ) (item : Item) (every : Bool) (xs : List ℤ) (ws es : List ℕ) (ns : List ℤ) (len : ℕ) (flag : Bool)
    → delta_reads d (delta row col n item every) (layer_of d xs ws es ns len flag) ≡ true → in_range (cell_at xs (row * d.cols + col)) ≡ true
counter_read d row col n item every xs ws es ns len flag e = and_left a b (and_left (a && b) c (and_left (a && b && c) cells (and_left (a && b && c && cells) counts (sym (delta_reads_are d row col n item every xs ws es ns len flag) ∙ e))))
  where
    norm : ℕ
    norm = get_or (sketch_of xs ws d.rows).norms row 0

    a : Bool
    a = in_range (cell_at xs (row * d.cols + col))

    b : Bool
    b = leb norm (d.cols * square_cap)

    c : Bool
    c = leb (capped (cell_at xs (row * d.cols + col))) norm

    cells : Bool
    cells = cells_in_range d.cols (hash_by item) xs d.rows 0

    counts : Bool
    counts = all_in (take len ns)

-- ---- the layer in its parts

module _ {r : Lent} {words : List ℕ} {l row col : ℕ} {n : ℤ} {s : Span} (p : Arrives r words l row col n) (q : Spanned r l s) where
  -- the tests do not look at the flag
  pub arrive_ready : DeltaReady (dims_at (shape_by r) l) (get_or r.head.lens l 0) row col n (item_at words l) (cell_part s r.counters) (norm_part s r.norms) (word_part s r.entries) (seat_part s r.counts)
  unfolding delta_fits
  arrive_ready =
      record {
        housed = housed q;
        words = word-length q;
        below = p.placed.below;
        inside = p.placed.within;
        read = delta_reads_are d row col n item true xs ws es ns len false ∙ sym (delta_reads_are d row col n item true xs ws es ns len flag) ∙ ap (delta_reads d (delta row col n item true)) (sym (handed_is q)) ∙ p.read;
        fit = ap (delta_fits d (delta row col n item true)) (sym (handed_is q)) ∙ p.fit;
      }
    where
      d : Dims
      d = dims_at (shape_by r) l

      item : Item
      item = item_at words l

      xs : List ℤ
      xs = cell_part s r.counters

      ws : List ℕ
      ws = norm_part s r.norms

      es : List ℕ
      es = word_part s r.entries

      ns : List ℤ
      ns = seat_part s r.counts

      len : ℕ
      len = get_or r.head.lens l 0

      flag : Bool
      flag = get_or r.head.flags l false
