-- A whole state stays whole by each accepted call, and a fresh state is whole. Assumes nothing.
use mathlib.Core.Path.{◌≡◌, refl, sym, subst}
use mathlib.Core.Bool.{Bool, true}
use Prim.Native.Nat.{ℕ, zero, suc, ◌+◌, ◌*◌, ◌≤◌, ◌<◌}
use native.Mathlib.Omega.{arith}
use mathlib.Core.List.{List}
use lib.ListN.{replicate, length-replicate}
use lib.IntN.{ℤ, pos, nat_abs}
use borrow.Author.Tests.{leb-false, not-false}
use Rattle.words.specs.Num.{in_range, all_in}
use Rattle.words.proofs.Tests.{Off}
use Rattle.words.proofs.Lists.{get_d_all}
use Rattle.countsketch_l2_norm.proofs.Bounds.{kept-none}
use Rattle.heap_moves.specs.Cands.{no_cand}
use Rattle.header.specs.declared.Shape.{Shape}
use Rattle.header.specs.Shape.{shape_refusal, same_shape}
use Rattle.header.specs.Totals.{update_totals, add_totals}
use Rattle.header.specs.Header.{fresh_header, joined, settled}
use Rattle.header.specs.inner.Accepted.{Accepted}
use Rattle.header.proofs.Bottoms.{bottom-lt}
use Rattle.header.proofs.Bounds.{Within}
use Rattle.header.proofs.Refusals.{accepted_of}
use Rattle.header.proofs.Shapes.{same_of}
use Rattle.layer.specs.declared.Dims.{Dims}
use Rattle.layer.specs.Layer.{Layer}
use Rattle.layer.specs.inner.Needs.{no_layer}
use Rattle.layer.specs.Delta.{delta_layer, delta_fits}
use Rattle.layer.specs.Merge.{merge_layer, merge_fits}
use Rattle.layout.specs.State.{State, shape_of, rows_at, cols_at, dims_at, layer_at, all_layers, new_state}
use Rattle.layout.specs.Records.{bottom_word}
use Rattle.layout.proofs.States.{layers-step}
use Rattle.layout.proofs.Fresh.{new-layer, new_sized, new-past_lens, new-past_flags}
use Rattle.layout.proofs.Offsets.{shaped-at}
use Rattle.univmon.specs.declared.Kind.{Kind}
use Rattle.univmon.specs.Updates.{layer_update_at, fits_at, adds_at, mode_of, first_sent, many_sent, bottom_by, sent_tests, updated}
use Rattle.univmon.proofs.Touched.{sent-room}
use Rattle.univmon_delta.specs.Deltas.{Arrival, delta_by, counter_tests, delta_tests_at, arrived}
use Rattle.univmon_merge.specs.Merges.{pair_tests, merged}
use Rattle.state_check.proofs.KeptLayers.{add-whole, delta-whole, merge-whole}
use Rattle.state_check.proofs.Passed.{passed-at}
use Rattle.state_check.proofs.Whole.{Whole}
use Rattle.state_check.proofs.WholeStates.{WholeState, state-accepted, over_whole, put_whole, head-whole}

-- a test of the layers is passed by each of them
each : (p : ℕ → Layer → Bool) (s : State) (k l m : ℕ) → l ≤ m → m < l + k → all_layers p k l s ≡ true → p m (layer_at s m) ≡ true
each p s k l m h q e = passed-at (λ n i. all_layers p n i s) (λ i. p i (layer_at s i)) (layers-step p s) k l m h q e

-- ---- an update

pub update-state : (k : Kind) (s : State) (words : List ℕ) (w : ℤ) → WholeState s → Within (add_totals s.head.totals (update_totals (nat_abs w))) → Off (sent_tests k s words w) → WholeState (updated k s words w)
unfolding updated layer_at
update-state k s words w g within o =
    over_whole (adds_at s.head.shape words (nat_abs w)) M F
    _ (head-whole s (add_totals s.head.totals (update_totals (nat_abs w))) (joined s.head.mode (mode_of k)) g within) room
    (λ m p q x. add-whole (dims_at s.head.shape m) (layer_update_at words (nat_abs w) m) (layer_at s m) (shaped-at s.head.shape a m).some a.seats x
    (each (fits_at s.head.shape words (nat_abs w)) s M F m p q fits))
  where
    M : ℕ
    M = many_sent k (bottom_by s words)

    F : ℕ
    F = first_sent k (bottom_by s words)

    a : Accepted s.head.shape
    a = state-accepted s g

    room : first_sent k (bottom_by s words) + many_sent k (bottom_by s words) ≤ s.head.shape.layers
    room = sent-room k (bottom_by s words) s.head.shape.layers (bottom-lt (bottom_word words) s.head.shape.layers (state-accepted s g).some)

    fits : all_layers (fits_at (shape_of s) words (nat_abs w)) (many_sent k (bottom_by s words)) (first_sent k (bottom_by s words)) s ≡ true
    fits = not-false (all_layers (fits_at (shape_of s) words (nat_abs w)) (many_sent k (bottom_by s words)) (first_sent k (bottom_by s words)) s) o.1.0

-- ---- a delta

pub delta-state : (s : State) (words : List ℕ) (a : Arrival) → WholeState s → Off (counter_tests s.head.shape a)
    → Off (delta_tests_at (dims_at s.head.shape a.layer) (delta_by a words) (layer_at s a.layer)) → WholeState (arrived s words a)
unfolding arrived layer_at
delta-state s words a g c o =
    put_whole _ a.layer (delta_layer (dims_at s.head.shape a.layer) (delta_by a words) (layer_at s a.layer))
    (head-whole s s.head.totals (settled s.head.mode) g g.totals) inside
    (delta-whole (dims_at s.head.shape a.layer) (delta_by a words) (layer_at s a.layer) (leb-false (rows_at s.head.shape a.layer) a.row c.1.0)
    (leb-false (cols_at s.head.shape a.layer) a.col c.1.1.0) (state-accepted s g).seats (g.layers a.layer inside)
    (not-false (delta_fits (dims_at s.head.shape a.layer) (delta_by a words) (layer_at s a.layer)) o.1.0))
  where
    inside : a.layer < s.head.shape.layers
    inside = leb-false s.head.shape.layers a.layer c.0

-- ---- a merge

pub merge-state : (s q : State) → WholeState s → WholeState q → same_shape s.head.shape q.head.shape ≡ true → Within (add_totals s.head.totals q.head.totals)
    → Off (pair_tests s.head.shape.layers s q) → WholeState (merged s q)
unfolding merged layer_at
merge-state s q g h z within o =
    over_whole (λ l y. merge_layer (dims_at s.head.shape l) y (layer_at q l)) s.head.shape.layers 0
    _ (head-whole s (add_totals s.head.totals q.head.totals) (joined s.head.mode q.head.mode) g within) (omega arith)
    (λ m i j x. merge-whole (dims_at s.head.shape m) (layer_at s m) (layer_at q m) (state-accepted s g).seats x (other m (omega arith))
    (each (λ l y. merge_fits y (layer_at q l)) s s.head.shape.layers 0 m i j fits))
  where
    same : q.head.shape ≡ s.head.shape
    same = same_of s.head.shape q.head.shape z

    fits : all_layers (λ l y. merge_fits y (layer_at q l)) s.head.shape.layers 0 s ≡ true
    fits = not-false (all_layers (λ l y. merge_fits y (layer_at q l)) s.head.shape.layers 0 s) o.1.0

    other : (m : ℕ) → m < s.head.shape.layers → Whole (dims_at s.head.shape m) (layer_at q m)
    other = subst (λ (sh : Shape). (m : ℕ) → m < sh.layers → Whole (dims_at sh m) (layer_at q m)) same h.layers

-- ---- a fresh state

zeros_in : (n : ℕ) → all_in (replicate n (pos 0)) ≡ true
unfolding all_in in_range
zeros_in zero = refl
zeros_in (suc n) = zeros_in n

none-whole : (d : Dims) → Whole d (no_layer d)
unfolding no_layer
none-whole d =
    record {
      fits = record { cells = length-replicate (d.rows * d.cols) (pos 0); norms = length-replicate {A = ℕ} d.rows 0; cands = length-replicate d.size no_cand };
      cells = zeros_in (d.rows * d.cols);
      norms = kept-none d.rows d.cols;
      table = record { long = length-replicate d.size no_cand; used = omega arith; ordered = λ i q. absurd (omega arith); rest = λ i q. get_d_all no_cand d.size i };
      counts = λ i q. absurd (omega arith);
    }

pub new-whole : (sh : Shape) → shape_refusal sh ≡ 0 → WholeState (new_state sh)
unfolding new_state fresh_header
new-whole sh v =
    record {
      sized = new_sized sh a;
      shape = v;
      totals = record { light = omega arith; few = omega arith };
      past_lens = new-past_lens sh;
      past_flags = new-past_flags sh;
      layers = λ l h. subst (Whole (dims_at sh l)) (sym (new-layer sh a l h)) (none-whole (dims_at sh l));
    }
  where
    a : Accepted sh
    a = accepted_of sh v
