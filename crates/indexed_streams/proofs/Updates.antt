-- An update with an index of a state that passes, and the same update without one. Assumes nothing.
use mathlib.Core.Path.{◌≡◌, refl, sym, ap, ◌∙◌, subst}
use mathlib.Core.Bool.{Bool, true}
use mathlib.Core.List.{List, ◌∷◌, ◌++◌}
use Prim.Native.Nat.{ℕ, zero, suc, ◌+◌, ◌*◌, ◌≤◌, ◌<◌}
use native.Mathlib.Omega.{arith}
use native.Mathlib.Decide.{dec_lt}
use lib.ListN.{length}
use lib.IntN.{ℤ, nat_abs}
use borrow.Author.Tests.{eq-eqb, not-false}
use Rattle.words.specs.Num.{in_range}
use Rattle.words.proofs.Tests.{Off, off_rest}
use Rattle.header.specs.declared.Shape.{Shape}
use Rattle.header.specs.Totals.{update_totals, totals_tests}
use Rattle.header.specs.Header.{scalars_of, begun, begin_tests}
use Rattle.header.proofs.Bottoms.{bottom-lt}
use Rattle.countsketch_l2_norm.proofs.Bounds.{count_in}
use Rattle.heap_indexed.proofs.Runs.{Passes}
use Rattle.layer.specs.Layer.{Layer, hash_by, count_of, add_sketch, add_layer}
use Rattle.layer.specs.inner.Needs.{Fits}
use Rattle.layer.proofs.Steps.{add-lengths}
use Rattle.layer_indexed.proofs.Agreeing.{add_reads_agree, add_layer_agrees, add_answer_agrees, add-moves_agree, add_passes, add-index_length}
use Rattle.layout.specs.State.{State, dims_at, layer_at, put_layer, over_layers, all_layers, with_head}
use Rattle.layout.specs.Slices.{Lent, view, flat}
use Rattle.layout.specs.Records.{bottom_word}
use Rattle.layout.specs.Outcomes.{Outcome, judge, lent_tests, record_test}
use Rattle.layout.specs.Answers.{list_call}
use Rattle.layout.proofs.Judged.{judge-rest, judged}
use Rattle.layout.proofs.ListCalls.{list_yes}
use Rattle.layout.proofs.Offsets.{shaped-at}
use Rattle.layout.proofs.States.{all-at, at-put-other}
use Rattle.layout.proofs.Replaced.{Sized, long, Over, over, head_sized, put_sized, all-layers}
use Rattle.layout.proofs.Flatten.{view-flat}
use Rattle.layout_index.specs.Tables.{table_at, indexed_tests}
use Rattle.layout_index.proofs.Turns.{OverTables, over_touched, table-long}
use Rattle.univmon.specs.declared.Kind.{Kind}
use Rattle.univmon.specs.Updates.{layer_update_at, reads_at, fits_at, adds_at, answer_at, mode_of, first_sent, many_sent, bottom_by, sent_tests, updated, update_answers, update_tests}
use Rattle.univmon.specs.Calls.{update_call, update_list_call}
use Rattle.univmon.proofs.Touched.{sent-room}
use Rattle.univmon_indexed.specs.Updates.{reads_in, moves_in, adds_in, table_in, answer_in, sent_tests_in, update_tests_in, updated_in, updated_index, update_answers_in}
use Rattle.univmon_indexed.specs.Calls.{indexed_update_call}
use Rattle.univmon_indexed.proofs.Sending.{all_agree}
use Rattle.state_check.proofs.KeptLayers.{add-whole}
use Rattle.state_check.proofs.KeptCalls.{update-kept}
use Rattle.state_check.proofs.WholeStates.{ok-head, ok-lengths, ok-standing, whole-at, state-whole}
use Rattle.indexed_streams.proofs.Keeps.{Kept, kept_replaced}
use Rattle.indexed_streams.proofs.Judges.{judge-behind, judge-layers, touched-same}

-- steps that leave the same of each layer as it stands at the start
over_same : (f g : ℕ → Layer → Layer) (k l : ℕ) (s : State) → Sized s → l + k ≤ s.head.shape.layers
    → ((m : ℕ) → l ≤ m → m < l + k → (f m (layer_at s m) ≡ g m (layer_at s m)) × Fits (dims_at s.head.shape m) (g m (layer_at s m))) → over_layers f k l s ≡ over_layers g k l s
unfolding over_layers put_layer
over_same f g zero l s z h e = refl
over_same f g (suc k) l s z h e =
    ap (λ (y : Layer). over_layers f k (suc l) (put_layer s l y)) (e l (omega arith) (omega arith)).0
    ∙ over_same f g k (suc l) (put_layer s l (g l (layer_at s l))) (put_sized s z l (g l (layer_at s l)) at fit) (omega arith) (λ m p q. later m p q)
  where
    at : l < s.head.shape.layers
    at = omega (arith, h)

    fit : Fits (dims_at s.head.shape l) (g l (layer_at s l))
    fit = (e l (omega arith) (omega arith)).1

    same : (m : ℕ) → suc l ≤ m → m < suc l + k → layer_at (put_layer s l (g l (layer_at s l))) m ≡ layer_at s m
    same m p q = at-put-other s (long z) l m (g l (layer_at s l)) at (omega (arith, q, h)) (λ n. omega (arith, n, p)) fit

    later : (m : ℕ) → suc l ≤ m → m < suc l + k
        → (f m (layer_at (put_layer s l (g l (layer_at s l))) m) ≡ g m (layer_at (put_layer s l (g l (layer_at s l))) m)) × Fits (dims_at s.head.shape m) (g m (layer_at (put_layer s l (g l (layer_at s l))) m))
    later m p q = subst (λ (y : Layer). (f m y ≡ g m y) × Fits (dims_at s.head.shape m) (g m y)) (sym (same m p q)) (e m (omega (arith, p)) (omega (arith, q)))

module _ (k : Kind) (r : Lent) (xs words : List ℕ) (w : ℤ) (p : Kept r xs) where
  abbrev sh : Shape
  sh = r.head.shape

  abbrev many : ℕ
  many = many_sent k (bottom_by (view r) words)

  abbrev first : ℕ
  first = first_sent k (bottom_by (view r) words)

  room : first + many ≤ sh.layers
  unfolding view
  room = sent-room k (bottom_by (view r) words) sh.layers (bottom-lt (bottom_word words) sh.layers (ok-standing r p.passing.ok).accepted.some)

  passes : (m : ℕ) → first ≤ m → m < many + first → Passes sh.heap_size (table_at sh xs m) (layer_at (view r) m).table
  passes m a b = p.tables m (omega (arith, b, room))

  -- what is read is in range with an index if it is without
  reads_same : all_layers (reads_in sh words (nat_abs w) xs) many first (view r) ≡ all_layers (reads_at sh words (nat_abs w)) many first (view r)
  reads_same =
      all_agree (reads_in sh words (nat_abs w) xs) (reads_at sh words (nat_abs w)) many first (view r) (view r)
      (λ m a b. add_reads_agree (dims_at sh m) (layer_update_at words (nat_abs w) m) (table_at sh xs m) (layer_at (view r) m) (passes m a b))

  module _ (fits : all_layers (fits_at sh words (nat_abs w)) many first (view r) ≡ true) where
    -- the new count of each layer is in range
    within : (m : ℕ) → first ≤ m → m < many + first
        → in_range (count_of (dims_at sh m) (layer_update_at words (nat_abs w) m).item (add_sketch (dims_at sh m) (layer_update_at words (nat_abs w) m) (layer_at (view r) m).sketch).cells) ≡ true
    unfolding add_layer
    within m a b =
        count_in (dims_at sh m).rows (dims_at sh m).cols (hash_by (layer_update_at words (nat_abs w) m).item) _
        (add-whole (dims_at sh m) (layer_update_at words (nat_abs w) m) (layer_at (view r) m) (shaped-at sh (ok-standing r p.passing.ok).accepted m).some (ok-standing r p.passing.ok).accepted.seats
        (whole-at r p.passing.ok m (omega (arith, b, room))) (all-at (fits_at sh words (nat_abs w)) many first (view r) m a b fits)).cells

    moves-true : all_layers (moves_in sh words (nat_abs w) xs) many first (view r) ≡ true
    moves-true =
        all-layers (moves_in sh words (nat_abs w) xs) many first (view r)
        (λ m a b. add-moves_agree (dims_at sh m) (layer_update_at words (nat_abs w) m) (table_at sh xs m) (layer_at (view r) m) (passes m a (omega (arith, b))) (within m a (omega (arith, b))))

    step_same : (m : ℕ) → first ≤ m → m < many + first → adds_in sh words (nat_abs w) xs m (layer_at (view r) m) ≡ adds_at sh words (nat_abs w) m (layer_at (view r) m)
    step_same m a b = add_layer_agrees (dims_at sh m) (layer_update_at words (nat_abs w) m) (table_at sh xs m) (layer_at (view r) m) (passes m a b) (within m a b)

    pub answer-same : (m : ℕ) → first ≤ m → m < many + first → answer_in (view r) words (nat_abs w) xs m ≡ answer_at (view r) words (nat_abs w) m
    unfolding view
    answer-same m a b = add_answer_agrees (dims_at sh m) (layer_update_at words (nat_abs w) m) (table_at sh xs m) (layer_at (view r) m) (passes m a b) (within m a b)

    -- the layers that the update is sent to become the same
    layers-same : updated_in k (view r) xs words w ≡ updated k (view r) words w
    unfolding updated_in updated view layer_at
    layers-same =
        over_same (adds_in sh words (nat_abs w) xs) (adds_at sh words (nat_abs w)) many first (with_head (view r) (begun r.head (update_totals (nat_abs w)) (mode_of k))) begun_sized room
        (λ m a b. (step_same m a (omega (arith, b)), add-lengths (dims_at sh m) (layer_update_at words (nat_abs w) m) (layer_at (view r) m) (whole-at r p.passing.ok m (omega (arith, b, room))).fits))
      where
        begun_sized : Sized (with_head (view r) (begun r.head (update_totals (nat_abs w)) (mode_of k)))
        begun_sized = head_sized (view r) (state-whole r p.passing.arrays p.passing.ok).sized (begun r.head (update_totals (nat_abs w)) (mode_of k)) refl p.passing.arrays.flags p.passing.arrays.lens

  -- the call answers and leaves what it does without an index
  pub update_same : (n : ℕ) → indexed_update_call k r xs words w n ≡ update_list_call k r words w n
  unfolding indexed_update_call update_list_call update_call update_tests_in update_tests view
  update_same n =
      ap (list_call (2 * sh.layers) n)
      (judge-rest (indexed_tests r xs) (record_test sh (length words) ∷ (begins ++ sent_tests_in k (view r) xs words w)) _ indexed_off
      ∙ judge-behind (record_test sh (length words) ∷ begins) (sent_tests_in k (view r) xs words w) (sent_tests k (view r) words w) _ _ sent-same
      ∙ sym (judge-rest (lent_tests r) (record_test sh (length words) ∷ (begins ++ sent_tests k (view r) words w)) _ (indexed_off.0, (indexed_off.1.0, tt))))
    where
      begins : List (Bool × ℕ)
      begins = begin_tests (scalars_of r.head) w (mode_of k)

      indexed_off : Off (indexed_tests r xs)
      indexed_off = (rw (ok-head r p.passing.ok), (rw (ok-lengths r p.passing.ok), (rw (eq-eqb _ _ p.long), tt)))

      sent-same : judge (sent_tests_in k (view r) xs words w) (flat (updated_in k (view r) xs words w)) ≡ judge (sent_tests k (view r) words w) (flat (updated k (view r) words w))
      sent-same =
          judge-layers (all_layers (reads_at sh words (nat_abs w)) many first (view r)) (all_layers (reads_in sh words (nat_abs w) xs) many first (view r)) (all_layers (fits_at sh words (nat_abs w)) many first (view r))
          (all_layers (moves_in sh words (nat_abs w) xs) many first (view r)) _ _ reads_same moves-true (λ f. ap flat (layers-same f))

  -- and every table passes again
  module _ (n : ℕ) (t : Lent) (e : update_list_call k r words w n ≡ Outcome.yes t) where
    done : (t ≡ flat (updated k (view r) words w)) × (all_layers (fits_at sh words (nat_abs w)) many first (view r) ≡ true)
    unfolding update_list_call update_call update_tests view
    done =
        let out = judged (update_tests k r words w) (flat (updated k (view r) words w)) t (list_yes _ n (update_call k r words w) t e).0 in
        let sum = totals_tests r.head.totals (update_totals (nat_abs w)) in
        let rest = sent_tests k (view r) words w in
        (out.0, not-false _ (off_rest sum rest out.1.1.1.1.1.1).1.0)

    -- the state that the update begins with, and what it becomes
    abbrev begun-state : State
    begun-state = with_head (view r) (begun r.head (update_totals (nat_abs w)) (mode_of k))

    fits_all : all_layers (fits_at sh words (nat_abs w)) many first (view r) ≡ true
    fits_all = done.1

    begun_sized : Sized begun-state
    unfolding view
    begun_sized = head_sized (view r) (state-whole r p.passing.arrays p.passing.ok).sized (begun r.head (update_totals (nat_abs w)) (mode_of k)) refl p.passing.arrays.flags p.passing.arrays.lens

    replaced : Over (adds_at sh words (nat_abs w)) many first begun-state (updated k (view r) words w)
    unfolding updated view layer_at
    replaced =
        over (adds_at sh words (nat_abs w)) many first begun-state begun_sized room
        (λ m a b. add-lengths (dims_at sh m) (layer_update_at words (nat_abs w) m) (layer_at (view r) m) (whole-at r p.passing.ok m (omega (arith, b, room))).fits)

    shown : view t ≡ updated k (view r) words w
    shown = ap view done.0 ∙ view-flat (updated k (view r) words w) replaced.sized

    -- a layer of the begun state is the layer
    begun-layer : (m : ℕ) → layer_at begun-state m ≡ layer_at (view r) m
    unfolding layer_at view
    begun-layer m = refl

    tables_over : OverTables sh (table_in (view r) words (nat_abs w) xs) many first xs (updated_index k (view r) xs words w)
    unfolding updated_index view
    tables_over =
        over_touched sh (table_in (view r) words (nat_abs w) xs) many first
        (λ m a b. add-index_length (dims_at sh m) (layer_update_at words (nat_abs w) m) (table_at sh xs m) (layer_at (view r) m) (passes m a b) (within fits_all m a b) ∙ table-long sh xs p.long m (omega (arith, b, room)))
        xs p.long (omega (arith, room))

    pub update_keeps : Kept t (updated_index k (view r) xs words w)
    unfolding view
    update_keeps =
        kept_replaced {many = many} {first = first} p
        (record {
          passing = update-kept k r t words w n p.passing e;
          shape = ap (λ (s : State). s.head.shape) shown ∙ replaced.head.shape;
          long = tables_over.long;
          inside = λ m a b.
              subst (λ (zs : List ℕ). Passes sh.heap_size zs (layer_at (view t) m).table) (sym (tables_over.inside m a b))
              (subst (λ (y : Layer). Passes sh.heap_size (table_in (view r) words (nat_abs w) xs m) y.table) (sym (touched m a b))
              (add_passes (dims_at sh m) (layer_update_at words (nat_abs w) m) (table_at sh xs m) (layer_at (view r) m) (passes m a b) (within fits_all m a b)));
          outside = λ m h o. (tables_over.outside m o, untouched m h o);
        })
      where
        touched : (m : ℕ) → first ≤ m → m < many + first → layer_at (view t) m ≡ add_layer (dims_at sh m) (layer_update_at words (nat_abs w) m) (layer_at (view r) m)
        touched m a b = ap (λ (s : State). layer_at s m) shown ∙ replaced.inside m a (omega (arith, b)) ∙ ap (add_layer (dims_at sh m) (layer_update_at words (nat_abs w) m)) (begun-layer m)

        untouched : (m : ℕ) → m < sh.layers → (first ≤ m → m < many + first → ⊥) → layer_at (view t) m ≡ layer_at (view r) m
        untouched m h o = ap (λ (s : State). layer_at s m) shown ∙ beside (dec_lt m first) ∙ begun-layer m
          where
            beside : Dec (m < first) → layer_at (updated k (view r) words w) m ≡ layer_at begun-state m
            beside (yes a) = replaced.before m a h
            beside (no a) = replaced.after m (behind (dec_lt m (many + first))) h
              where
                behind : Dec (m < many + first) → first + many ≤ m
                behind (yes b) = absurd (o (omega (arith, a)) b)
                behind (no b) = omega (arith, b)

    -- the list tells the same
    pub update-told : update_answers_in k (view r) xs words w ≡ update_answers k (view r) words w
    unfolding update_answers_in update_answers view
    update-told = touched-same (answer_in (view r) words (nat_abs w) xs) (answer_at (view r) words (nat_abs w)) many first sh.layers (answer-same fits_all)
