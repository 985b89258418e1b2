-- What a delta leaves by the number that it is refused with. Assumes nothing.
use mathlib.Core.Path.{◌≡◌, refl, sym, ap, ◌∙◌}
use mathlib.Core.Bool.{Bool, true, not}
use mathlib.Core.List.{List, ◌∷◌, ◌++◌}
use Prim.Native.Nat.{ℕ, ◌*◌, ◌≤◌, ◌<◌}
use native.Mathlib.Omega.{arith}
use lib.ListN.{length, drop, replicate}
use lib.Dec.{eqb}
use borrow.Author.Tests.{eqb-true, leb-false, not-false}
use Rattle.words.specs.Tests.{number, numbered}
use Rattle.words.proofs.Tests.{Off, off_number, number_first}
use Rattle.heap.specs.declared.Answer.{Answer}
use Rattle.heap.specs.inner.Telling.{tell_at}
use Rattle.header.specs.declared.Mode.{Mode}
use Rattle.header.specs.Header.{with_mode, settled}
use Rattle.layer.specs.Delta.{delta_layer, delta_answer, delta_reads, delta_fits}
use Rattle.layout.specs.State.{dims_at, layer_at, put_layer}
use Rattle.layout.specs.Slices.{Lent, lent, view, flat}
use Rattle.layout.specs.Outcomes.{judge, left, left_by, lent_tests, record_test}
use Rattle.layout.specs.Answers.{touched_places, list_call, list_left}
use Rattle.layout.specs.inner.Telling.{list_tests, tell_layers}
use Rattle.layout.specs.Records.{record_length}
use Rattle.layout.proofs.Lengths.{standing_of}
use Rattle.layout.proofs.Judged.{left-refused, left_done}
use Rattle.layout.proofs.ListCalls.{list-judge, list-before, list-short, list_enough, list-none}
use Rattle.layout.proofs.Telling.{tell_is, length-layers, told-touched, list-told}
use Rattle.univmon_delta.specs.Deltas.{Arrival, delta_by, counter_tests, delta_tests_at, delta_tests, arrived, delta_answers, delta_call, delta_list_call}
use Rattle.univmon_delta.specs.inner.Needs.{Placed, Arrives}

-- ---- what a call with a list leaves, by its tests: 16 behind the others

module _ (ts : List (Bool × ℕ)) (least n : ℕ) (r t : Lent) where
  -- refused: the number, and nothing changed
  pub list-refused : (m : ℕ) → m ≡ number (ts ++ list_tests least n) → (m ≡ 0 → ⊥) → left m r ≡ left_by r (list_call least n (judge ts t))
  list-refused m e k = left-refused (ts ++ list_tests least n) r t m e k ∙ ap (left_by r) (sym (list-judge least n ts t))

  -- done
  pub list_done : numbered (ts ++ list_tests least n) ≡ true → number (ts ++ list_tests least n) ≡ 0 → left 0 t ≡ left_by r (list_call least n (judge ts t))
  list_done d z = left_done (ts ++ list_tests least n) r t d z ∙ ap (left_by r) (sym (list-judge least n ts t))

-- what the list tells of one layer: zeros first, then the layer's place
pub one_told : (f : ℕ → Answer) (l layers : ℕ) (list out : List ℕ) → l < layers → out ≡ tell_at (replicate (2 * layers) 0 ++ drop (2 * layers) list) l (f l) → out ≡ list_left 0 (touched_places f 1 l layers) list
unfolding tell_layers
one_told f l layers list out b e =
    list-told (2 * layers) (touched_places f 1 l layers) list out (length-layers 1 _ layers 0) (e ∙ tell_is _ l _ ∙ told-touched f 1 l layers list (omega (arith, b)))

module _ (r : Lent) (words : List ℕ) (a : Arrival) where
  -- header and lengths are tested first
  pub unfit_number : (n : ℕ) → n ≡ number (lent_tests r) → (n ≡ 0 → ⊥) → n ≡ number (delta_tests r words a)
  unfolding delta_tests
  unfit_number n e h =
      e
      ∙ sym (number_first (lent_tests r)
      ((not (eqb (length words) (record_length r.head.shape.layers)), 12) ∷ (counter_tests r.head.shape a ++ delta_tests_at (dims_at r.head.shape a.layer) (delta_by a words) (layer_at (view r) a.layer))) (λ z. h (e ∙ z)))

  -- header and lengths, record and counter were found right: the delta has its place, in whatever mode
  pub placed_of : (m : Mode) → Off (lent_tests r) → Off (record_test r.head.shape (length words) ∷ counter_tests r.head.shape a)
      → Placed (lent (with_mode r.head m) r.counters r.norms r.entries r.counts) words a.layer a.row a.col
  placed_of m p q =
      let s = standing_of r (not-false _ p.0) (not-false _ p.1.0) in
      record {
        standing = record { accepted = s.accepted; sizes = s.sizes; lens = s.lens };
        recorded = eqb-true _ _ (not-false _ q.0);
        inside = leb-false _ _ q.1.0;
        below = leb-false _ _ q.1.1.0;
        within = leb-false _ _ q.1.1.1.0;
      }

  -- what is not refused may be made, in whatever mode; the tests look neither at the mode nor at the fidelity
  pub arrives_of : (m : Mode) → number (delta_tests r words a) ≡ 0
      → Arrives (lent (with_mode r.head m) r.counters r.norms r.entries r.counts) words a.layer a.row a.col a.count
  unfolding delta_tests view layer_at delta_reads delta_fits
  arrives_of m z =
      let p = off_number (delta_tests r words a) refl z in
      let at = p.1.1.1 in
      record {
        placed = placed_of m (p.0, (p.1.0, tt)) (p.1.1.0, (at.0, (at.1.0, (at.1.1.0, tt))));
        read = not-false _ at.1.1.1.0;
        fit = not-false _ at.1.1.1.1.0;
      }

  -- the state with the changed layer in place is the state after the delta
  pub arrived_is : put_layer (view (lent (with_mode r.head (settled r.head.mode)) r.counters r.norms r.entries r.counts)) a.layer
      (delta_layer (dims_at r.head.shape a.layer) (delta_by a words) (layer_at (view (lent (with_mode r.head (settled r.head.mode)) r.counters r.norms r.entries r.counts)) a.layer))
      ≡ arrived (view r) words a
  unfolding arrived view layer_at
  arrived_is = refl

  -- ---- with a list of n words: 16 behind the other tests

  module _ (n : ℕ) where
    abbrev tests : List (Bool × ℕ)
    tests = delta_tests r words a

    abbrev room : List (Bool × ℕ)
    room = list_tests (2 * r.head.shape.layers) n

    pub first_number : (m : ℕ) → m ≡ number tests → (m ≡ 0 → ⊥) → m ≡ number (tests ++ room)
    first_number = list-before tests (2 * r.head.shape.layers) n

    pub short-number : number tests ≡ 0 → n < 2 * r.head.shape.layers → 16 ≡ number (tests ++ room)
    unfolding delta_tests
    short-number = list-short tests (2 * r.head.shape.layers) n refl

    pub long-number : number tests ≡ 0 → 2 * r.head.shape.layers ≤ n → 0 ≡ number (tests ++ room)
    unfolding delta_tests
    long-number = list_enough tests (2 * r.head.shape.layers) n refl

    -- where nothing is refused, the list has a place for each layer
    pub none-refused : number (tests ++ room) ≡ 0 → (number tests ≡ 0) × (2 * r.head.shape.layers ≤ n)
    unfolding delta_tests
    none-refused = list-none tests (2 * r.head.shape.layers) n refl

    -- refused: the number, and nothing changed
    pub call_refused : (m : ℕ) → m ≡ number (tests ++ room) → (m ≡ 0 → ⊥) → left m r ≡ left_by r (delta_list_call r words a n)
    unfolding delta_list_call delta_call
    call_refused = list-refused tests (2 * r.head.shape.layers) n r (flat (arrived (view r) words a))

    -- done
    pub call_done : number (tests ++ room) ≡ 0 → left 0 (flat (arrived (view r) words a)) ≡ left_by r (delta_list_call r words a n)
    unfolding delta_list_call delta_call delta_tests
    call_done = list_done tests (2 * r.head.shape.layers) n r (flat (arrived (view r) words a)) refl

  -- what the list tells: zeros first, then the layer's place
  pub call_told : (list out : List ℕ) → number (delta_tests r words a) ≡ 0
      → out ≡ tell_at (replicate (2 * r.head.shape.layers) 0 ++ drop (2 * r.head.shape.layers) list) a.layer (delta_answer (dims_at r.head.shape a.layer) (delta_by a words) (layer_at (view r) a.layer))
      → out ≡ list_left 0 (delta_answers (view r) words a) list
  unfolding delta_answers view
  call_told list out z e =
      one_told (λ l. delta_answer (dims_at r.head.shape l) (delta_by a words) (layer_at (view r) l)) a.layer r.head.shape.layers list out (arrives_of r.head.mode z).placed.inside e

  -- the mode is not looked at
  pub same-layer : (m : Mode) (l : ℕ) → layer_at (view (lent (with_mode r.head m) r.counters r.norms r.entries r.counts)) l ≡ layer_at (view r) l
  unfolding view layer_at
  same-layer m l = refl
