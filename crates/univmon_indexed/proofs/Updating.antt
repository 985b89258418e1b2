-- The stages of an update with an index: what each test that passed or failed says of the number, and what the whole call leaves. Assumes nothing.
use mathlib.Core.Path.{◌≡◌, refl, sym, ap, ◌∙◌}
use mathlib.Core.Bool.{Bool, not}
use mathlib.Core.List.{List, ◌∷◌, ◌++◌}
use Prim.Native.Nat.{ℕ, ◌+◌, ◌*◌, ◌≤◌, ◌<◌}
use native.Mathlib.Omega.{arith}
use borrow.Author.Tests.{eqb-true, eq-eqb, ne_eqb, not-false}
use lib.ListN.{length, get_or}
use lib.IntN.{ℤ, nat_abs}
use lib.Dec.{eqb}
use Rattle.words.specs.Num.{top, word_size}
use Rattle.words.specs.Tests.{number}
use Rattle.words.proofs.Tests.{number_off, off_number, number_first, number-rest, number-told, off_first, off_rest}
use Rattle.header.specs.Shape.{max_layers}
use Rattle.header.specs.Totals.{update_totals}
use Rattle.header.specs.Header.{begin_tests, scalars_of}
use Rattle.layout.specs.State.{over_layers}
use Rattle.layout.specs.Slices.{Lent, view, flat}
use Rattle.layout.specs.Outcomes.{Outcome, judge, left, left_by}
use Rattle.layout.specs.Answers.{list_call, list_left, touched_places}
use Rattle.layout.specs.inner.Needs.{Standing}
use Rattle.layout.specs.inner.Telling.{list_tests}
use Rattle.layout.proofs.Lengths.{standing_of}
use Rattle.layout.proofs.Flatten.{lent_is}
use Rattle.layout.proofs.Judged.{judge-rest, left-refused, left_done}
use Rattle.layout.proofs.ListCalls.{list-judge}
use Rattle.layout.proofs.Telling.{length-layers, told-touched, list-told, list-kept}
use Rattle.layout_index.specs.Tables.{index_left}
use Rattle.univmon.specs.declared.Kind.{Kind}
use Rattle.univmon.specs.Updates.{mode_of, first_sent, many_sent, bottom_by}
use Rattle.univmon.specs.Calls.{place_tests}
use Rattle.univmon.proofs.Updating.{sends_kept, judge-ready, begun_in}
use Rattle.univmon_indexed.specs.Updates.{adds_in, answer_in, sent_tests_in, update_tests_in, updated_in, updated_index, update_answers_in}
use Rattle.univmon_indexed.specs.Calls.{indexed_update_call, lent_indexed_update_call}
use Rattle.univmon_indexed.specs.inner.Needs.{JudgeReadyIn, KeyReadyIn, KeySentOrKept, key_tests_in, sound_tests_in, staged_tests}

-- ---- before the layers

-- the layers that a key reaches may be judged
pub judge-ready_in : (k : Kind) (r : Lent) (xs words : List ℕ) (w : ℕ) → KeyReadyIn r xs words w → JudgeReadyIn r xs words w (many_sent k (bottom_by (view r) words)) (first_sent k (bottom_by (view r) words))
judge-ready_in k r xs words w p = record { judge = judge-ready k r words w p.key; tables = p.tables }

-- header, lengths and record were found right
pub key-ready_in : (r : Lent) (xs words : List ℕ) (w : ℕ) → number (sound_tests_in r (length xs) (length words)) ≡ 0 → w ≤ top → KeyReadyIn r xs words w
key-ready_in r xs words w z l =
    let p = off_number (sound_tests_in r (length xs) (length words)) refl z in
    record {
      key = record {
        standing = standing_of r (not-false _ p.1.1.0) (not-false _ p.1.1.1.0);
        headed = record { lens = eqb-true _ _ (not-false _ p.0); flags = eqb-true _ _ (not-false _ p.1.0) };
        recorded = eqb-true _ _ (not-false _ p.1.1.1.1.1.0);
        light = l;
      };
      tables = eqb-true _ _ (not-false _ p.1.1.1.1.0);
    }

-- ---- the stages of the number

module _ (k : Kind) (b : ℕ) (r : Lent) (xs words : List ℕ) (w : ℤ) (n : ℕ) where
  abbrev sound : List (Bool × ℕ)
  sound = sound_tests_in r (length xs) (length words)

  abbrev behind : List (Bool × ℕ)
  behind = (not (eqb b 0), b) ∷ (sent_tests_in k (view r) xs words w ++ list_tests (2 * r.head.shape.layers) n)

  -- header, lengths or record are wrong
  pub staged_unsound : (m : ℕ) → m ≡ number sound → (m ≡ 0 → ⊥) → m ≡ number (staged_tests k b r xs words w n)
  staged_unsound m e h = e ∙ sym (number_first sound behind (λ z. h (e ∙ z)))

  module _ (z : number sound ≡ 0) where
    -- the beginning is refused
    pub staged_unbegun : (b ≡ 0 → ⊥) → b ≡ number (staged_tests k b r xs words w n)
    staged_unbegun h = sym (number-rest sound behind (off_number sound refl z) ∙ rw (ne_eqb b 0 h))

    -- or it is not, and what is left is the key's
    pub staged_begun : b ≡ 0 → number (key_tests_in k words (nat_abs w) r xs n) ≡ number (staged_tests k b r xs words w n)
    unfolding view
    staged_begun h = sym (number-rest sound behind (off_number sound refl z) ∙ rw (eq-eqb b 0 h))

-- ---- the whole call, from what all of it but the beginning left

module _ (k : Kind) (r : Lent) (xs words : List ℕ) (w : ℤ) (n : ℕ) where
  abbrev many : ℕ
  many = many_sent k (bottom_by (view r) words)

  abbrev first : ℕ
  first = first_sent k (bottom_by (view r) words)

  -- the tests of the beginning, of what is sent and of the list, and all
  abbrev begins : List (Bool × ℕ)
  begins = begin_tests (scalars_of r.head) w (mode_of k)

  abbrev sends : List (Bool × ℕ)
  sends = sent_tests_in k (view r) xs words w ++ list_tests (2 * r.head.shape.layers) n

  abbrev all : List (Bool × ℕ)
  all = sound_tests_in r (length xs) (length words) ++ (begins ++ sends)

  staged_is : number (staged_tests k (number begins) r xs words w n) ≡ number all
  staged_is = number-told (sound_tests_in r (length xs) (length words)) begins sends (number begins) refl refl

  call_is : lent_indexed_update_call k r xs words w n ≡ judge all (flat (updated_in k (view r) xs words w))
  unfolding lent_indexed_update_call update_tests_in
  call_is = list-judge (2 * r.head.shape.layers) n (place_tests r.head ++ update_tests_in k r xs words w) (flat (updated_in k (view r) xs words w))

  -- where lengths and flags have 19 places, the call that is lent them leaves what the other one does
  pub placed_call : length r.head.lens ≡ max_layers → length r.head.flags ≡ max_layers → left_by r (lent_indexed_update_call k r xs words w n) ≡ left_by r (indexed_update_call k r xs words w n)
  unfolding lent_indexed_update_call indexed_update_call
  placed_call l f =
      ap (λ (o : Outcome). left_by r (list_call (2 * r.head.shape.layers) n o))
      (judge-rest (place_tests r.head) (update_tests_in k r xs words w) _ (rw (eq-eqb _ max_layers l), (rw (eq-eqb _ max_layers f), tt)))

  updated_is : (t : Lent) → Standing t → ((i : ℕ) → get_or t.norms i 0 < word_size) → view t ≡ over_layers (adds_in r.head.shape words (nat_abs w) xs) many first (view r)
      → begun_in k w t ≡ flat (updated_in k (view r) xs words w)
  unfolding updated_in view flat
  updated_is t s b e =
      ap (begun_in k w) (lent_is t _ s b e)
      ∙ sym (ap flat (sends_kept (adds_in r.head.shape words (nat_abs w) xs) many first (view r) (update_totals (nat_abs w)) (mode_of k)))

  module _ (m : ℕ) (t : Lent) (ys list₀ list : List ℕ) (e : m ≡ number (staged_tests k (number begins) r xs words w n)) (o : KeySentOrKept k words (nat_abs w) r t xs ys list₀ list m) where
    -- a refusal, and nothing is changed
    pub call_refused : (m ≡ 0 → ⊥) → (t ≡ r) × (left m r ≡ left_by r (lent_indexed_update_call k r xs words w n))
    call_refused h = ((o.kept h).lends, left-refused all r _ m (e ∙ staged_is) h ∙ ap (left_by r) (sym call_is))

    -- or the update began, and all was sent
    pub call_done : m ≡ 0 → ((i : ℕ) → get_or t.norms i 0 < word_size) → (number begins ≡ 0) × (left 0 (begun_in k w t) ≡ left_by r (lent_indexed_update_call k r xs words w n))
    call_done q b =
        let z : number all ≡ 0 = sym staged_is ∙ sym e ∙ q in
        let s = o.sent q in (
          number_off begins (off_first begins sends (off_rest (sound_tests_in r (length xs) (length words)) (begins ++ sends) (off_number all refl z))),
          ap (left 0) (updated_is t s.standing b s.layers) ∙ left_done all r (flat (updated_in k (view r) xs words w)) refl z ∙ ap (left_by r) (sym call_is),
        )

    -- the layers that the key reaches are there
    pub sent-inside : m ≡ 0 → first + many ≤ r.head.shape.layers
    sent-inside q =
        let z : number all ≡ 0 = sym staged_is ∙ sym e ∙ q in
        let y : number (sound_tests_in r (length xs) (length words)) ≡ 0 = number_off (sound_tests_in r (length xs) (length words)) (off_first (sound_tests_in r (length xs) (length words)) (begins ++ sends) (off_number all refl z)) in
        (judge-ready_in k r xs words 0 (key-ready_in r xs words 0 y (omega arith))).judge.inside

    -- the index, and the list
    pub index-left : m ≡ 0 → ys ≡ index_left 0 (updated_index k (view r) xs words w) xs
    unfolding index_left updated_index view
    index-left q = (o.sent q).tables

    pub list_left_lem : first + many ≤ r.head.shape.layers → m ≡ 0 → list ≡ list_left 0 (update_answers_in k (view r) xs words w) list₀
    unfolding update_answers_in view
    list_left_lem h q =
        list-told (2 * r.head.shape.layers) (touched_places (answer_in (view r) words (nat_abs w) xs) many first r.head.shape.layers) list₀ list (length-layers 1 _ r.head.shape.layers 0)
        ((o.sent q).told ∙ told-touched (answer_in (view r) words (nat_abs w) xs) many first r.head.shape.layers list₀ h)

    pub index_kept : (m ≡ 0 → ⊥) → ys ≡ index_left m (updated_index k (view r) xs words w) xs
    unfolding index_left
    index_kept h = (o.kept h).index ∙ rw (ne_eqb m 0 h)

    pub list_left-kept : (m ≡ 0 → ⊥) → list ≡ list_left m (update_answers_in k (view r) xs words w) list₀
    list_left-kept h = (o.kept h).told ∙ list-kept m _ list₀ h
