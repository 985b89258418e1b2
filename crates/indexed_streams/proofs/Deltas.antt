-- A delta with an index on a state that passes, and the same delta without one. Assumes nothing.
use mathlib.Core.Path.{◌≡◌, refl, sym, ap, ◌∙◌, subst}
use mathlib.Core.Bool.{true}
use mathlib.Core.List.{List, ◌∷◌, ◌++◌}
use Prim.Native.Nat.{ℕ, ◌*◌, ◌<◌}
use native.Mathlib.Omega.{arith}
use lib.ListN.{length}
use borrow.Author.Tests.{eq-eqb, not-false, leb-false}
use Rattle.words.specs.Num.{in_range}
use Rattle.words.proofs.Tests.{Off}
use Rattle.header.specs.declared.Shape.{Shape}
use Rattle.header.specs.Header.{with_mode, settled}
use Rattle.countsketch_l2_norm.proofs.Bounds.{count_in}
use Rattle.heap_indexed.proofs.Runs.{Passes}
use Rattle.layer.specs.declared.Dims.{Dims}
use Rattle.layer.specs.Layer.{Layer, hash_by, count_of}
use Rattle.layer.specs.Delta.{Delta, delta_sketch, delta_layer, delta_answer, delta_reads, delta_fits}
use Rattle.layer.specs.inner.Needs.{Fits}
use Rattle.layer_indexed.specs.Adding.{delta_layer_in, delta_index_in, delta_answer_in, delta_reads_in, delta_moves_in}
use Rattle.layer_indexed.proofs.Agreeing.{delta_reads_agree, delta_layer_agrees, delta_answer_agrees, delta-moves_agree, delta_passes, delta-index_length}
use Rattle.layout.specs.State.{State, dims_at, layer_at, put_layer, with_head}
use Rattle.layout.specs.Slices.{Lent, view, flat}
use Rattle.layout.specs.Outcomes.{Outcome, judge, lent_tests, record_test}
use Rattle.layout.specs.Answers.{list_call}
use Rattle.layout.proofs.Judged.{judge-rest, judged}
use Rattle.layout.proofs.ListCalls.{list_yes}
use Rattle.layout.proofs.Flatten.{view-flat}
use Rattle.layout.proofs.States.{at-put-other}
use Rattle.layout.proofs.Replaced.{Sized, long, head_sized, put_sized, at-put-same}
use Rattle.layout_index.specs.Tables.{table_length, table_at, put_table, indexed_tests}
use Rattle.layout_index.proofs.Turns.{table-long, put_table-long, put_table-same, put_table-other}
use Rattle.univmon_delta.specs.Deltas.{Arrival, delta_by, counter_tests, delta_tests_at, delta_tests, arrived, delta_answers, delta_call, delta_list_call}
use Rattle.univmon_delta_indexed.specs.Deltas.{delta_tests_in, indexed_delta_tests, arrived_in, arrived_index, delta_answers_in, indexed_delta_call}
use Rattle.state_check.proofs.Whole.{Whole}
use Rattle.state_check.proofs.KeptLayers.{delta-whole}
use Rattle.state_check.proofs.KeptCalls.{delta-kept}
use Rattle.state_check.proofs.WholeStates.{ok-head, ok-lengths, ok-standing, whole-at, state-whole}
use Rattle.indexed_streams.proofs.Keeps.{Kept, kept_replaced}
use Rattle.indexed_streams.proofs.Judges.{judge_when, judge-layers, touched-same}

module _ (r : Lent) (xs words : List ℕ) (a : Arrival) (p : Kept r xs) where
  abbrev sh : Shape
  sh = r.head.shape

  abbrev l : ℕ
  l = a.layer

  abbrev d : Dims
  d = dims_at sh l

  abbrev u : Delta
  u = delta_by a words

  abbrev is : List ℕ
  is = table_at sh xs l

  abbrev y : Layer
  y = layer_at (view r) l

  -- the counter that the delta names is one of the shape
  module _ (o : Off (counter_tests sh a)) where
    inside : l < sh.layers
    inside = leb-false _ _ o.0

    passes : Passes sh.heap_size is y.table
    passes = p.tables l inside

    whole : Whole d y
    whole = whole-at r p.passing.ok l inside

    changed : delta_fits d u y ≡ true → Whole d (delta_layer d u y)
    changed f = delta-whole d u y (leb-false _ _ o.1.0) (leb-false _ _ o.1.1.0) (ok-standing r p.passing.ok).accepted.seats whole f

    -- the new count is in range
    within : delta_fits d u y ≡ true → in_range (count_of d u.item (delta_sketch d u y.sketch).cells) ≡ true
    unfolding delta_layer
    within f = count_in d.rows d.cols (hash_by u.item) _ (changed f).cells

    layer-same : delta_fits d u y ≡ true → delta_layer_in d u is y ≡ delta_layer d u y
    layer-same f = delta_layer_agrees d u is y passes (within f)

    state-same : delta_fits d u y ≡ true → arrived_in (view r) xs words a ≡ arrived (view r) words a
    unfolding arrived_in arrived view
    state-same f = ap (put_layer (with_head (view r) (with_mode r.head (settled r.head.mode))) l) (layer-same f)

    tests_same : judge (delta_tests_in d u is y) (flat (arrived_in (view r) xs words a)) ≡ judge (delta_tests_at d u y) (flat (arrived (view r) words a))
    tests_same =
        judge-layers (delta_reads d u y) (delta_reads_in d u is y) (delta_fits d u y) (delta_moves_in d u is y) _ _ (delta_reads_agree d u is y passes)
        (λ f. delta-moves_agree d u is y passes (within f)) (λ f. ap flat (state-same f))

  -- the call answers and leaves what it does without an index
  pub delta-same : (n : ℕ) → indexed_delta_call r xs words a n ≡ delta_list_call r words a n
  unfolding indexed_delta_call delta_list_call delta_call indexed_delta_tests delta_tests
  delta-same n =
      ap (list_call (2 * sh.layers) n)
      (judge-rest (indexed_tests r xs) (record_test sh (length words) ∷ (counter_tests sh a ++ delta_tests_in d u is y)) _ indexed_off
      ∙ judge_when (record_test sh (length words) ∷ counter_tests sh a) (delta_tests_in d u is y) (delta_tests_at d u y) _ _ (λ o. tests_same o.1)
      ∙ sym (judge-rest (lent_tests r) (record_test sh (length words) ∷ (counter_tests sh a ++ delta_tests_at d u y)) _ (indexed_off.0, (indexed_off.1.0, tt))))
    where
      indexed_off : Off (indexed_tests r xs)
      indexed_off = (rw (ok-head r p.passing.ok), (rw (ok-lengths r p.passing.ok), (rw (eq-eqb _ _ p.long), tt)))

  -- and every table passes again
  module _ (n : ℕ) (t : Lent) (e : delta_list_call r words a n ≡ Outcome.yes t) where
    done : (t ≡ flat (arrived (view r) words a)) × (Off (counter_tests sh a) × (delta_fits d u y ≡ true))
    unfolding delta_list_call delta_call delta_tests
    done =
        let out = judged (delta_tests r words a) (flat (arrived (view r) words a)) t (list_yes _ n (delta_call r words a) t e).0 in
        let o = out.1.1.1.1 in
        (out.0, ((o.0, (o.1.0, (o.1.1.0, tt))), not-false _ o.1.1.1.1.0))

    off : Off (counter_tests sh a)
    off = done.1.0

    fits : delta_fits d u y ≡ true
    fits = done.1.1

    -- the state that the delta begins with
    abbrev begun-state : State
    begun-state = with_head (view r) (with_mode r.head (settled r.head.mode))

    begun_sized : Sized begun-state
    unfolding view
    begun_sized = head_sized (view r) (state-whole r p.passing.arrays p.passing.ok).sized (with_mode r.head (settled r.head.mode)) refl p.passing.arrays.flags p.passing.arrays.lens

    fit : Fits d (delta_layer d u y)
    fit = (changed off fits).fits

    shown : view t ≡ arrived (view r) words a
    unfolding arrived view
    shown = ap view done.0 ∙ view-flat (arrived (view r) words a) (put_sized begun-state begun_sized l (delta_layer d u y) (inside off) fit)

    there : layer_at (view t) l ≡ delta_layer d u y
    unfolding arrived view
    there = ap (λ (s : State). layer_at s l) shown ∙ at-put-same begun-state begun_sized l (delta_layer d u y) (inside off) fit

    elsewhere : (m : ℕ) → m < sh.layers → (m ≡ l → ⊥) → layer_at (view t) m ≡ layer_at (view r) m
    unfolding arrived view layer_at
    elsewhere m h o = ap (λ (s : State). layer_at s m) shown ∙ at-put-other begun-state (long begun_sized) l m (delta_layer d u y) (inside off) h o fit

    table_fits : length (delta_index_in d u is y) ≡ length is
    table_fits = delta-index_length d u is y (passes off) (within off fits)

    table-room : length (delta_index_in d u is y) ≡ table_length sh
    table-room = table_fits ∙ table-long sh xs p.long l (inside off)

    pub delta_keeps : Kept t (arrived_index (view r) xs words a)
    unfolding arrived_index arrived put_layer view
    delta_keeps =
        kept_replaced {many = 1} {first = l} p
        (record {
          passing = delta-kept r t words a n p.passing e;
          shape = ap (λ (s : State). s.head.shape) shown ∙ shape_is;
          long = put_table-long sh xs p.long l (inside off) (delta_index_in d u is y) table-room;
          inside = λ m b c. let q : m ≡ l = omega (arith, b, c) in
              subst (λ (k : ℕ). Passes sh.heap_size (table_at sh (put_table sh xs l (delta_index_in d u is y)) k) (layer_at (view t) k).table) (sym q)
              (subst (λ (zs : List ℕ). Passes sh.heap_size zs (layer_at (view t) l).table) (sym (put_table-same sh xs p.long l (inside off) (delta_index_in d u is y) table-room))
              (subst (λ (z : Layer). Passes sh.heap_size (delta_index_in d u is y) z.table) (sym there) (delta_passes d u is y (passes off) (within off fits))));
          outside = λ m h o. let q : m ≡ l → ⊥ = λ z. o (omega (arith, z)) (omega (arith, z)) in
              (put_table-other sh xs p.long l (inside off) (delta_index_in d u is y) table-room m q, elsewhere m h q);
        })
      where
        shape_is : (arrived (view r) words a).head.shape ≡ sh
        shape_is = refl

    -- the list tells the same
    pub delta-told : delta_answers_in (view r) xs words a ≡ delta_answers (view r) words a
    unfolding delta_answers_in delta_answers view
    delta-told =
        touched-same (λ m. delta_answer_in (dims_at sh m) u (table_at sh xs m) (layer_at (view r) m)) (λ m. delta_answer (dims_at sh m) u (layer_at (view r) m)) 1 l sh.layers
        (λ m b c. let q : m ≡ l = omega (arith, b, c) in
        subst (λ (k : ℕ). delta_answer_in (dims_at sh k) u (table_at sh xs k) (layer_at (view r) k) ≡ delta_answer (dims_at sh k) u (layer_at (view r) k)) (sym q) (delta_answer_agrees d u is y (passes off) (within off fits)))
