-- A merge into a state with an index that passes, and the same merge without one. Assumes nothing.
use mathlib.Core.Path.{◌≡◌, refl, sym, ap, ◌∙◌, subst}
use mathlib.Core.Bool.{Bool, true}
use mathlib.Core.List.{List, ◌++◌}
use Prim.Native.Nat.{ℕ, ◌*◌, ◌<◌}
use native.Mathlib.Omega.{arith}
use borrow.Author.Tests.{eq-eqb, not-false}
use Rattle.words.proofs.Tests.{Off, off_rest}
use Rattle.header.specs.declared.Shape.{Shape}
use Rattle.header.specs.Shape.{same_shape}
use Rattle.header.specs.Totals.{totals_tests}
use Rattle.header.specs.Header.{begun}
use Rattle.header.proofs.Shapes.{same_of}
use Rattle.heap_indexed.proofs.Runs.{Passes}
use Rattle.layer.specs.Layer.{Layer}
use Rattle.layer.specs.Merge.{merge_layer, merge_fits}
use Rattle.layer_indexed.specs.Merging.{merge_index_in}
use Rattle.layer_indexed.proofs.Agreeing.{merge_passes}
use Rattle.layer_merge_indexed.proofs.Merges.{merge-index-long}
use Rattle.layout.specs.State.{State, dims_at, layer_at, all_layers, with_head}
use Rattle.layout.specs.Slices.{Lent, view, flat}
use Rattle.layout.specs.Outcomes.{Outcome, lent_tests}
use Rattle.layout.specs.Answers.{list_call}
use Rattle.layout.proofs.Judged.{judge-rest, judged}
use Rattle.layout.proofs.ListCalls.{list_yes}
use Rattle.layout.proofs.Flatten.{view-flat}
use Rattle.layout.proofs.States.{all-at}
use Rattle.layout.proofs.Replaced.{Sized, Over, over, head_sized}
use Rattle.layout_index.specs.Tables.{indexed_tests}
use Rattle.layout_index.proofs.Turns.{OverTables, over_touched}
use Rattle.univmon_merge.specs.Merges.{heads_tests, pair_tests, merge_tests, merged, merge_call, merge_list_call}
use Rattle.univmon_merge_indexed.specs.Merges.{merged_index, merge_tests_in, indexed_merge_call}
use Rattle.state_check.specs.Reached.{Passing}
use Rattle.state_check.proofs.Whole.{Whole}
use Rattle.state_check.proofs.KeptLayers.{merge-whole}
use Rattle.state_check.proofs.KeptCalls.{merge-kept}
use Rattle.state_check.proofs.WholeStates.{ok-head, ok-lengths, ok-standing, whole-at, state-whole}
use Rattle.indexed_streams.proofs.Keeps.{Kept, kept_replaced}

module _ (r : Lent) (xs : List ℕ) (q : Lent) (p : Kept r xs) (g : Passing q) where
  abbrev sh : Shape
  sh = r.head.shape

  -- the call answers and leaves what it does without an index
  pub merge-same : (n : ℕ) → indexed_merge_call r xs q n ≡ merge_list_call r q n
  unfolding indexed_merge_call merge_list_call merge_call merge_tests_in merge_tests
  merge-same n =
      ap (list_call (4 * sh.heap_size * sh.layers) n)
      (judge-rest (indexed_tests r xs) rest _ indexed_off ∙ sym (judge-rest (lent_tests r) rest _ (indexed_off.0, (indexed_off.1.0, tt))))
    where
      rest : List (Bool × ℕ)
      rest = lent_tests q ++ (heads_tests r.head q.head ++ pair_tests sh.layers (view r) (view q))

      indexed_off : Off (indexed_tests r xs)
      indexed_off = (rw (ok-head r p.passing.ok), (rw (ok-lengths r p.passing.ok), (rw (eq-eqb _ _ p.long), tt)))

  -- and every table passes
  module _ (n : ℕ) (t : Lent) (e : merge_list_call r q n ≡ Outcome.yes t) where
    abbrev fits_with : ℕ → Layer → Bool
    fits_with l y = merge_fits y (layer_at (view q) l)

    done : (t ≡ flat (merged (view r) (view q))) × ((same_shape sh q.head.shape ≡ true) × (all_layers fits_with sh.layers 0 (view r) ≡ true))
    unfolding merge_list_call merge_call merge_tests
    done =
        let out = judged (merge_tests r q) (flat (merged (view r) (view q))) t (list_yes _ n (merge_call r q) t e).0 in
        let heads = out.1.1.1.1.1 in
        let sum = totals_tests r.head.totals q.head.totals in
        let rest = pair_tests sh.layers (view r) (view q) in
        (out.0, (not-false _ heads.0, not-false _ (off_rest sum rest heads.1.1).1.0))

    same : q.head.shape ≡ sh
    same = same_of sh q.head.shape done.1.0

    other : (m : ℕ) → m < sh.layers → Whole (dims_at sh m) (layer_at (view q) m)
    other = subst (λ (z : Shape). (m : ℕ) → m < z.layers → Whole (dims_at z m) (layer_at (view q) m)) same (λ m h. whole-at q g.ok m h)

    fits : (m : ℕ) → m < sh.layers → merge_fits (layer_at (view r) m) (layer_at (view q) m) ≡ true
    fits m h = all-at fits_with sh.layers 0 (view r) m (omega arith) (omega (arith, h)) done.1.1

    joined : (m : ℕ) → m < sh.layers → Whole (dims_at sh m) (merge_layer (dims_at sh m) (layer_at (view r) m) (layer_at (view q) m))
    joined m h = merge-whole (dims_at sh m) (layer_at (view r) m) (layer_at (view q) m) (ok-standing r p.passing.ok).accepted.seats (whole-at r p.passing.ok m h) (other m h) (fits m h)

    abbrev begun-state : State
    begun-state = with_head (view r) (begun r.head q.head.totals q.head.mode)

    begun_sized : Sized begun-state
    unfolding view
    begun_sized = head_sized (view r) (state-whole r p.passing.arrays p.passing.ok).sized (begun r.head q.head.totals q.head.mode) refl p.passing.arrays.flags p.passing.arrays.lens

    replaced : Over (λ l y. merge_layer (dims_at sh l) y (layer_at (view q) l)) sh.layers 0 begun-state (merged (view r) (view q))
    unfolding merged view layer_at
    replaced = over (λ l y. merge_layer (dims_at sh l) y (layer_at (view q) l)) sh.layers 0 begun-state begun_sized (omega arith) (λ m a b. (joined m (omega (arith, b))).fits)

    shown : view t ≡ merged (view r) (view q)
    shown = ap view done.0 ∙ view-flat (merged (view r) (view q)) replaced.sized

    begun-layer : (m : ℕ) → layer_at begun-state m ≡ layer_at (view r) m
    unfolding layer_at view
    begun-layer m = refl

    there : (m : ℕ) → m < sh.layers → layer_at (view t) m ≡ merge_layer (dims_at sh m) (layer_at (view r) m) (layer_at (view q) m)
    there m h = ap (λ (s : State). layer_at s m) shown ∙ replaced.inside m (omega arith) (omega (arith, h)) ∙ ap (λ (y : Layer). merge_layer (dims_at sh m) y (layer_at (view q) m)) (begun-layer m)

    tables_over : OverTables sh (λ m. merge_index_in (dims_at sh m) (layer_at (view r) m) (layer_at (view q) m)) sh.layers 0 xs (merged_index (view r) (view q) xs)
    unfolding merged_index view
    tables_over =
        over_touched sh (λ m. merge_index_in (dims_at sh m) (layer_at (view r) m) (layer_at (view q) m)) sh.layers 0
        (λ m a b. merge-index-long (dims_at sh m) (layer_at (view r) m) (layer_at (view q) m) (ok-standing r p.passing.ok).accepted.seats (ok-standing r p.passing.ok).accepted.small (fits m (omega (arith, b))))
        xs p.long (omega arith)

    pub merge_keeps : Kept t (merged_index (view r) (view q) xs)
    unfolding view merge_layer
    merge_keeps =
        kept_replaced {many = sh.layers} {first = 0} p
        (record {
          passing = merge-kept r q t n p.passing g e;
          shape = ap (λ (s : State). s.head.shape) shown ∙ replaced.head.shape;
          long = tables_over.long;
          inside = λ m a b. let h : m < sh.layers = omega (arith, b) in
              subst (λ (zs : List ℕ). Passes sh.heap_size zs (layer_at (view t) m).table) (sym (tables_over.inside m a b))
              (subst (λ (y : Layer). Passes sh.heap_size (merge_index_in (dims_at sh m) (layer_at (view r) m) (layer_at (view q) m)) y.table) (sym (there m h))
              (merge_passes (dims_at sh m) (layer_at (view r) m) (layer_at (view q) m) (ok-standing r p.passing.ok).accepted.seats (ok-standing r p.passing.ok).accepted.small (joined m h).cells));
          outside = λ m h o. absurd (o (omega arith) (omega (arith, h)));
        })
