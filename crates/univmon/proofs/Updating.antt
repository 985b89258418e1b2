-- The stages of an update: what each test that passed or failed says of the answer. Assumes nothing.
use mathlib.Core.Path.{◌≡◌, refl, sym, ap, ◌∙◌}
use mathlib.Core.Bool.{Bool, cond, not}
use mathlib.Core.List.{List, ◌∷◌, ◌++◌}
use Prim.Native.Nat.{ℕ, zero, suc, ◌+◌, ◌*◌, ◌≤◌, ◌<◌}
use native.Mathlib.Omega.{arith}
use borrow.Author.Tests.{eqb-true, eq-eqb, ne_eqb, not-false}
use lib.ListN.{length, get_or, drop, replicate}
use lib.IntN.{ℤ, nat_abs}
use lib.Dec.{eqb}
use Rattle.words.specs.Num.{top, word_size}
use Rattle.words.specs.Tests.{number}
use Rattle.words.proofs.Tests.{number_off, off_number, number_first, number-rest, off_first, off_rest}
use Rattle.header.specs.declared.Mode.{Mode}
use Rattle.header.specs.declared.Totals.{Totals}
use Rattle.header.specs.Shape.{max_layers}
use Rattle.header.specs.Totals.{update_totals}
use Rattle.header.specs.Header.{begun, begin_tests, scalars_of}
use Rattle.header.proofs.Bottoms.{bottom-lt}
use Rattle.layer.specs.Layer.{Layer}
use Rattle.layout.specs.State.{State, layer_at, put_layer, over_layers, with_head}
use Rattle.layout.specs.Slices.{Lent, lent, view, flat}
use Rattle.layout.specs.Outcomes.{Outcome, judge, Left, left, left_by}
use Rattle.layout.specs.Answers.{list_call, list_left}
use Rattle.layout.specs.inner.Needs.{Standing}
use Rattle.layout.specs.inner.Telling.{list_tests, tell_layers}
use Rattle.layout.proofs.Lengths.{standing_of}
use Rattle.layout.proofs.Flatten.{lent_is}
use Rattle.layout.proofs.Judged.{judge-rest, judge-told, left-refused, left_done, left_by_lem}
use Rattle.layout.proofs.ListCalls.{list-judge, list-before, list-short, list_enough}
use Rattle.layout.proofs.Telling.{length-layers, told-touched, list-told}
use Rattle.univmon.specs.declared.Kind.{Kind}
use Rattle.univmon.specs.Updates.{mode_of, first_sent, many_sent, bottom_by, sent_tests, update_tests, updated, adds_at, answer_at, update_answers, layers_tests}
use Rattle.univmon.specs.Calls.{update_call, place_tests, lent_update_call, update_list_call, lent_update_list_call}
use Rattle.univmon.proofs.Touched.{sent-room}
use Rattle.univmon.proofs.Sending.{answers_in}
use Rattle.univmon.specs.inner.Needs.{JudgeReady, KeyReady, sent_by, told_by, key_sent, key_told, sound_in, sent_after}

-- ---- the beginning of an update changes no layer: it may come before the layers or after them

pub sends_kept : (f : ℕ → Layer → Layer) (k l : ℕ) (s : State) (u : Totals) (m : Mode)
    → over_layers f k l (with_head s (begun s.head u m)) ≡ with_head (over_layers f k l s) (begun (over_layers f k l s).head u m)
unfolding over_layers layer_at put_layer
sends_kept f zero l s u m = refl
sends_kept f (suc k) l s u m = sends_kept f k (suc l) (put_layer s l (f l (layer_at s l))) u m

-- ---- tests and sends of many layers

module _ (words : List ℕ) (w many first : ℕ) (r : Lent) where
  abbrev tests : List (Bool × ℕ)
  tests = layers_tests r.head.shape words w many first (view r)

  -- and then of a list of n words
  abbrev room : ℕ → List (Bool × ℕ)
  room n = list_tests (2 * r.head.shape.layers) n

  -- 9 or 11
  pub sent-refused : (n m : ℕ) → m ≡ number tests → (m ≡ 0 → ⊥) → left m r ≡ sent_by words w many first n r
  unfolding sent_by
  sent-refused n m e h = left-refused (tests ++ room n) r _ m (list-before tests (2 * r.head.shape.layers) n m e h) h

  -- 16
  pub sent-short : (n : ℕ) → number tests ≡ 0 → n < 2 * r.head.shape.layers → left 16 r ≡ sent_by words w many first n r
  unfolding sent_by
  sent-short n z h = left-refused (tests ++ room n) r _ 16 (list-short tests (2 * r.head.shape.layers) n refl z h) (λ e. omega (arith, e))

  pub sent_done : (n : ℕ) (t : Lent) → number tests ≡ 0 → 2 * r.head.shape.layers ≤ n → Standing t → ((i : ℕ) → get_or t.norms i 0 < word_size)
      → view t ≡ over_layers (adds_at r.head.shape words w) many first (view r) → left 0 t ≡ sent_by words w many first n r
  unfolding sent_by
  sent_done n t z h s b e =
      ap (left 0) (lent_is t _ s b e) ∙ left_done (tests ++ room n) r _ refl (sym (list_enough tests (2 * r.head.shape.layers) n refl z h))

  -- what the list tells: zeros first, then the layers that were sent to
  pub sent-told : (list out : List ℕ) → first + many ≤ r.head.shape.layers
      → out ≡ tell_layers 1 (answers_in r words w) many first (replicate (2 * r.head.shape.layers) 0 ++ drop (2 * r.head.shape.layers) list)
      → out ≡ list_left 0 (told_by words w many first r) list
  sent-told list out h e =
      list-told (2 * r.head.shape.layers) (told_by words w many first r) list out (length-layers 1 _ r.head.shape.layers 0)
      (e ∙ told-touched (answer_at (view r) words w) many first r.head.shape.layers list h)

-- ---- the layers that a key reaches

pub judge-ready : (k : Kind) (r : Lent) (words : List ℕ) (w : ℕ) → KeyReady r words w → JudgeReady r words w (many_sent k (bottom_by (view r) words)) (first_sent k (bottom_by (view r) words))
unfolding view
judge-ready k r words w p =
    record {
      standing = p.standing;
      headed = p.headed;
      recorded = p.recorded;
      light = p.light;
      inside = sent-room k (bottom_by (view r) words) r.head.shape.layers (bottom-lt (get_or words 1 0) r.head.shape.layers p.standing.accepted.some);
    }

-- ---- all of an update but its beginning, stage by stage

-- the layers that a key reaches, sent to
abbrev sent : Kind → List ℕ → ℕ → Lent → Lent
sent k words w r = flat (over_layers (adds_at r.head.shape words w) (many_sent k (bottom_by (view r) words)) (first_sent k (bottom_by (view r) words)) (view r))

-- header, lengths and record were found right
pub key-ready : (r : Lent) (words : List ℕ) (w : ℕ) → number (sound_in r words) ≡ 0 → w ≤ top → KeyReady r words w
key-ready r words w z l =
    let p = off_number (sound_in r words) refl z in
    record {
      standing = standing_of r (not-false _ p.1.1.0) (not-false _ p.1.1.1.0);
      headed = record { lens = eqb-true _ _ (not-false _ p.0); flags = eqb-true _ _ (not-false _ p.1.0) };
      recorded = eqb-true _ _ (not-false _ p.1.1.1.1.0);
      light = l;
    }

module _ (k : Kind) (n : ℕ) (words : List ℕ) (w : ℤ) (list : ℕ) (r : Lent) where
  -- the tests behind those of header, lengths and record
  abbrev rest : List (Bool × ℕ)
  rest = (not (eqb n 0), n) ∷ (sent_tests k (view r) words w ++ list_tests (2 * r.head.shape.layers) list)

  pub after_unsound : (m : ℕ) → m ≡ number (sound_in r words) → (m ≡ 0 → ⊥) → left m r ≡ sent_after k n words w list r
  unfolding sent_after
  after_unsound m e h = left-refused (sound_in r words ++ rest) r _ m (e ∙ sym (number_first (sound_in r words) rest (λ z. h (e ∙ z)))) h

  pub after_unbegun : number (sound_in r words) ≡ 0 → (n ≡ 0 → ⊥) → left n r ≡ sent_after k n words w list r
  unfolding sent_after
  after_unbegun z h = left-refused (sound_in r words ++ rest) r _ n (sym (number-rest (sound_in r words) rest (off_number (sound_in r words) refl z) ∙ rw (ne_eqb n 0 h))) h

  pub after-begun : number (sound_in r words) ≡ 0 → n ≡ 0 → key_sent k words (nat_abs w) list r ≡ sent_after k n words w list r
  unfolding sent_after sent_by view
  after-begun z e =
      let p : judge rest (sent k words (nat_abs w) r)
      ≡ judge (sent_tests k (view r) words w ++ list_tests (2 * r.head.shape.layers) list) (sent k words (nat_abs w) r) = rw (eq-eqb n 0 e) in
      ap (left_by r) (sym (judge-rest (sound_in r words) rest _ (off_number (sound_in r words) refl z) ∙ p))

-- and what the list tells is the call's
pub key-told : (k : Kind) (words : List ℕ) (w : ℤ) (r : Lent) → key_told k words (nat_abs w) r ≡ update_answers k (view r) words w
unfolding update_answers view
key-told k words w r = refl

-- ---- what the whole call answers, from what all of it but the beginning left

-- a state with the totals and the mode that an update's beginning gives
abbrev pub begun_in : Kind → ℤ → Lent → Lent
begun_in k w t = lent (begun t.head (update_totals (nat_abs w)) (mode_of k)) t.counters t.norms t.entries t.counts

-- where lengths and flags have 19 places, the call that is lent them leaves what the other one does
pub placed_call : (k : Kind) (r : Lent) (words : List ℕ) (w : ℤ) (list : ℕ) → length r.head.lens ≡ max_layers → length r.head.flags ≡ max_layers
    → left_by r (lent_update_list_call k r words w list) ≡ left_by r (update_list_call k r words w list)
unfolding lent_update_list_call update_list_call lent_update_call update_call
placed_call k r words w list l f =
    ap (λ (o : Outcome). left_by r (list_call (2 * r.head.shape.layers) list o))
    (judge-rest (place_tests r.head) (update_tests k r words w) _ (rw (eq-eqb _ max_layers l), (rw (eq-eqb _ max_layers f), tt)))

module _ (k : Kind) (r : Lent) (words : List ℕ) (w : ℤ) (list : ℕ) where
  -- the tests of the beginning, and of the whole call
  abbrev begins : List (Bool × ℕ)
  begins = begin_tests (scalars_of r.head) w (mode_of k)

  -- what is sent, and the list
  abbrev sends : List (Bool × ℕ)
  sends = sent_tests k (view r) words w ++ list_tests (2 * r.head.shape.layers) list

  abbrev all : List (Bool × ℕ)
  all = sound_in r words ++ (begins ++ sends)

  abbrev after : Lent
  after = sent k words (nat_abs w) r

  after_is : sent_after k (number begins) words w list r ≡ left (number all) (cond (eqb (number all) 0) after r)
  unfolding sent_after
  after_is = ap (left_by r) (judge-told (sound_in r words) begins sends after (number begins) refl refl) ∙ left_by_lem all r after refl

  call_is : lent_update_list_call k r words w list ≡ judge all (flat (updated k (view r) words w))
  unfolding lent_update_list_call lent_update_call update_tests
  call_is = list-judge (2 * r.head.shape.layers) list (place_tests r.head ++ update_tests k r words w) (flat (updated k (view r) words w))

  updated_is : flat (updated k (view r) words w) ≡ begun_in k w after
  unfolding updated view flat
  updated_is = ap flat (sends_kept (adds_at r.head.shape words (nat_abs w)) (many_sent k (bottom_by (view r) words)) (first_sent k (bottom_by (view r) words)) (view r) (update_totals (nat_abs w)) (mode_of k))

  module _ (m : ℕ) (t : Lent) (e : left m t ≡ sent_after k (number begins) words w list r) where
    number_is : m ≡ number all
    number_is = ap (λ (l : Left). l.refusal) (e ∙ after_is)

    lends_are : t ≡ cond (eqb (number all) 0) after r
    lends_are = ap (λ (l : Left). l.lends) (e ∙ after_is)

    -- a refusal, and nothing is changed
    pub call_refused : (m ≡ 0 → ⊥) → (t ≡ r) × (left m r ≡ left_by r (lent_update_list_call k r words w list))
    call_refused h = (lends_are ∙ rw (ne_eqb (number all) 0 (λ z. h (number_is ∙ z))), left-refused all r _ m number_is h ∙ ap (left_by r) (sym call_is))

    -- or the update began, and all was sent
    pub call_done : m ≡ 0 → (number begins ≡ 0) × (left 0 (begun_in k w t) ≡ left_by r (lent_update_list_call k r words w list))
    call_done q =
        let z : number all ≡ 0 = sym number_is ∙ q in
        let t_is : t ≡ after = lends_are ∙ rw (eq-eqb (number all) 0 z) in (
          number_off begins (off_first begins sends (off_rest (sound_in r words) (begins ++ sends) (off_number all refl z))),
          ap (λ (s : Lent). left 0 (begun_in k w s)) t_is ∙ ap (left 0) (sym updated_is) ∙ left_done all r (flat (updated k (view r) words w)) refl z ∙ ap (left_by r) (sym call_is),
        )
