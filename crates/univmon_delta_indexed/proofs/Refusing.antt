-- What a delta with an index leaves by the number that it is refused with. Assumes nothing.
use mathlib.Core.Path.{◌≡◌, refl, sym, ◌∙◌}
use mathlib.Core.Bool.{Bool}
use mathlib.Core.List.{List, [], ◌∷◌, ◌++◌}
use Prim.Native.Nat.{ℕ, ◌*◌, ◌≤◌, ◌<◌}
use lib.ListN.{length, drop, replicate}
use lib.IntN.{ℤ}
use borrow.Author.Tests.{eqb-true, ne_eqb, not-false}
use Rattle.words.specs.Tests.{number}
use Rattle.words.proofs.Tests.{Off, off_number, number_first, number-rest, off_first, off_rest}
use Rattle.heap.specs.inner.Telling.{tell_at}
use Rattle.header.specs.declared.Header.{Header}
use Rattle.header.specs.declared.Mode.{Mode}
use Rattle.header.specs.Header.{with_mode, settled}
use Rattle.layer.specs.Delta.{Delta, delta_fits}
use Rattle.layer_indexed.specs.Adding.{delta_layer_in, delta_index_in, delta_answer_in, delta_reads_in, delta_moves_in}
use Rattle.layer_indexed.specs.inner.Needs.{delta_grade}
use Rattle.layout.specs.State.{dims_at, layer_at, put_layer}
use Rattle.layout.specs.Slices.{Lent, lent, view, flat}
use Rattle.layout.specs.Outcomes.{left, left_by, lent_tests, record_test}
use Rattle.layout.specs.Answers.{list_left}
use Rattle.layout.specs.inner.Telling.{list_tests}
use Rattle.layout.proofs.ListCalls.{list-short, list_enough, list-none}
use Rattle.layout_index.specs.Tables.{table_at, put_table, tables_test, indexed_tests, index_left}
use Rattle.univmon_delta.specs.Deltas.{Arrival, delta_by, counter_tests}
use Rattle.univmon_delta.proofs.Refusing.{list-refused, list_done, one_told, placed_of}
use Rattle.univmon_delta_indexed.specs.Deltas.{arrived_in, arrived_index, delta_answers_in, delta_tests_in, indexed_delta_tests, indexed_delta_call}
use Rattle.univmon_delta_indexed.specs.inner.Needs.{PlacedIn, ArrivesIn}
use Rattle.univmon_delta_indexed.proofs.Grades.{grade_off}

-- a call that is refused leaves its index
pub index_kept : (n : ℕ) (made index : List ℕ) → (n ≡ 0 → ⊥) → index ≡ index_left n made index
unfolding index_left
index_kept n made index h = rw (ne_eqb n 0 h)

-- slices that came back as they were, and a header by what it is
pub same-lent : (h h' : Header) (cs cs' : List ℤ) (ws es es' : List ℕ) (ns ns' : List ℤ) → h' ≡ h → cs' ≡ cs → es' ≡ es → ns' ≡ ns → lent h' cs' ws es' ns' ≡ lent h cs ws es ns
same-lent h h' cs cs' ws es es' ns ns' a b c d = λ i. lent (a i) (b i) ws (c i) (d i)

module _ (r : Lent) (xs words : List ℕ) (a : Arrival) where
  -- the stages: header and lengths, the index's too; record and counter; the layer
  abbrev firsts : List (Bool × ℕ)
  firsts = indexed_tests r xs

  abbrev named : List (Bool × ℕ)
  named = record_test r.head.shape (length words) ∷ counter_tests r.head.shape a

  abbrev layers : List (Bool × ℕ)
  layers = delta_tests_in (dims_at r.head.shape a.layer) (delta_by a words) (table_at r.head.shape xs a.layer) (layer_at (view r) a.layer)

  -- a refusal by the first of them
  pub unfit_number : (n : ℕ) → n ≡ number firsts → (n ≡ 0 → ⊥) → n ≡ number (indexed_delta_tests r xs words a)
  unfolding indexed_delta_tests
  unfit_number n e h = e ∙ sym (number_first firsts (named ++ layers) (λ z. h (e ∙ z)))

  -- and by those behind them
  pub behind-number : number firsts ≡ 0 → (n : ℕ) → n ≡ number (named ++ layers) → n ≡ number (indexed_delta_tests r xs words a)
  unfolding indexed_delta_tests
  behind-number z n e = e ∙ sym (number-rest firsts (named ++ layers) (off_number firsts refl z))

  -- the layer's own number, where record and counter were found right
  pub layer-number : number firsts ≡ 0 → Off named → (n : ℕ) → n ≡ number layers → n ≡ number (indexed_delta_tests r xs words a)
  layer-number z p n e = behind-number z n (e ∙ sym (number-rest named layers p))

  -- the delta has its place, in whatever mode
  pub placed_in : (m : Mode) → Off firsts → Off named → PlacedIn (lent (with_mode r.head m) r.counters r.norms r.entries r.counts) xs words a.layer a.row a.col
  placed_in m p q =
      record {
        placed = placed_of r words a m (off_first (lent_tests r) (tables_test r.head.shape (length xs) ∷ []) p) q;
        tables = eqb-true _ _ (not-false _ (off_rest (lent_tests r) (tables_test r.head.shape (length xs) ∷ []) p).0);
      }

  -- what is not refused may be made; the tests look neither at the mode nor at the fidelity
  pub arrives_in : (m : Mode) → number (indexed_delta_tests r xs words a) ≡ 0
      → ArrivesIn (lent (with_mode r.head m) r.counters r.norms r.entries r.counts) xs words a.layer a.row a.col a.count
  unfolding indexed_delta_tests view layer_at delta_grade delta_reads_in delta_fits delta_moves_in
  arrives_in m z =
      let p = off_number (indexed_delta_tests r xs words a) refl z in
      let q = off_rest firsts (named ++ layers) p in
      record {
        placed = placed_in m (off_first firsts (named ++ layers) p) (off_first named layers q);
        grade =
            grade_off (dims_at r.head.shape a.layer) (delta_by a words) (table_at r.head.shape xs a.layer) (layer_at (view r) a.layer)
            (off_rest named layers q);
      }

  -- ---- what is left, of the state that a delta begins with

  abbrev begun : Lent
  begun = lent (with_mode r.head (settled r.head.mode)) r.counters r.norms r.entries r.counts

  module _ (s : Lent) (is : List ℕ) (u : Delta) (e : s ≡ begun) (f : is ≡ xs) (g : u ≡ delta_by a words) where
    -- the state with the changed layer in place is the state after the delta
    pub arrived_is : put_layer (view s) a.layer (delta_layer_in (dims_at s.head.shape a.layer) u (table_at s.head.shape is a.layer) (layer_at (view s) a.layer)) ≡ arrived_in (view r) xs words a
    unfolding arrived_in view layer_at
    arrived_is = λ i. put_layer (view (e i)) a.layer (delta_layer_in (dims_at (e i).head.shape a.layer) (g i) (table_at (e i).head.shape (f i) a.layer) (layer_at (view (e i)) a.layer))

    -- the index with the changed table in place
    pub index_is : (out : List ℕ) → out ≡ put_table s.head.shape is a.layer (delta_index_in (dims_at s.head.shape a.layer) u (table_at s.head.shape is a.layer) (layer_at (view s) a.layer))
        → out ≡ index_left 0 (arrived_index (view r) xs words a) xs
    unfolding index_left arrived_index view layer_at
    index_is out q =
        q ∙ (λ i. put_table (e i).head.shape (f i) a.layer (delta_index_in (dims_at (e i).head.shape a.layer) (g i) (table_at (e i).head.shape (f i) a.layer) (layer_at (view (e i)) a.layer)))

    -- the list: zeros first, then the layer's place
    pub call_told : (list zeroed out : List ℕ) → a.layer < r.head.shape.layers → zeroed ≡ replicate (2 * r.head.shape.layers) 0 ++ drop (2 * r.head.shape.layers) list
        → out ≡ tell_at zeroed a.layer (delta_answer_in (dims_at s.head.shape a.layer) u (table_at s.head.shape is a.layer) (layer_at (view s) a.layer))
        → out ≡ list_left 0 (delta_answers_in (view r) xs words a) list
    unfolding delta_answers_in view layer_at
    call_told list zeroed out h z q =
        one_told (λ l. delta_answer_in (dims_at r.head.shape l) (delta_by a words) (table_at r.head.shape xs l) (layer_at (view r) l)) a.layer r.head.shape.layers list out h
        (q ∙ (λ i. tell_at (z i) a.layer (delta_answer_in (dims_at (e i).head.shape a.layer) (g i) (table_at (e i).head.shape (f i) a.layer) (layer_at (view (e i)) a.layer))))

  -- ---- with a list of n words: 16 behind the other tests

  module _ (n : ℕ) where
    abbrev tests : List (Bool × ℕ)
    tests = indexed_delta_tests r xs words a

    abbrev room : List (Bool × ℕ)
    room = list_tests (2 * r.head.shape.layers) n

    pub short-number : number tests ≡ 0 → n < 2 * r.head.shape.layers → 16 ≡ number (tests ++ room)
    unfolding indexed_delta_tests
    short-number = list-short tests (2 * r.head.shape.layers) n refl

    pub long-number : number tests ≡ 0 → 2 * r.head.shape.layers ≤ n → 0 ≡ number (tests ++ room)
    unfolding indexed_delta_tests
    long-number = list_enough tests (2 * r.head.shape.layers) n refl

    -- where nothing is refused, the list has a place for each layer
    pub none-refused : number (tests ++ room) ≡ 0 → (number tests ≡ 0) × (2 * r.head.shape.layers ≤ n)
    unfolding indexed_delta_tests
    none-refused = list-none tests (2 * r.head.shape.layers) n refl

    -- refused: the number, and nothing changed
    pub call_refused : (m : ℕ) → m ≡ number (tests ++ room) → (m ≡ 0 → ⊥) → left m r ≡ left_by r (indexed_delta_call r xs words a n)
    unfolding indexed_delta_call
    call_refused = list-refused tests (2 * r.head.shape.layers) n r (flat (arrived_in (view r) xs words a))

    -- done
    pub call_done : number (tests ++ room) ≡ 0 → left 0 (flat (arrived_in (view r) xs words a)) ≡ left_by r (indexed_delta_call r xs words a n)
    unfolding indexed_delta_call indexed_delta_tests
    call_done = list_done tests (2 * r.head.shape.layers) n r (flat (arrived_in (view r) xs words a)) refl
