-- What the inner functions need and leave, by name.
use Rattle.std.specs.Prelude.{ℕ, ◌*◌, ◌≡◌, Bool, true, not, List, [], ◌∷◌, ◌++◌, length, ℤ, eqb, leb}
use Rattle.header.specs.declared.Shape.{Shape}
use Rattle.heap.specs.inner.Telling.{tell_at}
use Rattle.layer.specs.Layer.{Layer}
use Rattle.layer.specs.inner.Needs.{Fits}
use Rattle.layer_indexed.specs.inner.Needs.{add_grade}
use Rattle.layout.specs.State.{dims_at, layer_at, put_layer, over_layers, all_layers}
use Rattle.layout.specs.Slices.{Lent, view}
use Rattle.layout.specs.Outcomes.{size_tests, record_test}
use Rattle.layout.specs.inner.Needs.{Standing}
use Rattle.layout.specs.inner.Telling.{list_tests, tell_layers}
use Rattle.layout_index.specs.Tables.{table_length, tables_in, table_at, put_table, over_tables, tables_test}
use Rattle.univmon.specs.declared.Kind.{Kind}
use Rattle.univmon.specs.Updates.{layer_update_at, first_sent, many_sent, bottom_by}
use Rattle.univmon.specs.Calls.{place_tests}
use Rattle.univmon.specs.inner.Needs.{JudgeReady, KeyReady, zeroed_for}
use Rattle.univmon_indexed.specs.Updates.{adds_in, table_in, answer_in, layers_tests_in, sent_tests_in}

-- what the tests of many layers from the first on need
pub record JudgeReadyIn (r : Lent) (xs words : List ℕ) (w many first : ℕ) : Type 0 where
  pub judge : JudgeReady r words w many first
  pub tables : length xs ≡ tables_in r.head.shape

-- how far an update may come at layer l, and whether it comes so far
abbrev pub grade_in : Shape → List ℕ → ℕ → List ℕ → ℕ → Layer → ℕ
grade_in sh words w xs l y = add_grade (dims_at sh l) (layer_update_at words w l) (table_at sh xs l) y

abbrev pub reaches_at : ℕ → Shape → List ℕ → ℕ → List ℕ → ℕ → Layer → Bool
reaches_at g sh words w xs l y = leb g (grade_in sh words w xs l y)

-- the update may be made there
abbrev pub fine_at : Shape → List ℕ → ℕ → List ℕ → ℕ → Layer → Bool
fine_at = reaches_at 4

-- what the update of layer l needs
pub record SendReadyIn (r : Lent) (xs words : List ℕ) (w l : ℕ) : Type 0 where
  pub judge : JudgeReadyIn r xs words w 1 l
  pub fine : fine_at r.head.shape words w xs l (layer_at (view r) l) ≡ true

-- and of many layers from the first on
pub record SendsReadyIn (r : Lent) (xs words : List ℕ) (w many first : ℕ) : Type 0 where
  pub judge : JudgeReadyIn r xs words w many first
  pub fine : all_layers (fine_at r.head.shape words w xs) many first (view r) ≡ true

-- layer l of r was sent to, which leaves t and the index ys, and the list tells what the offer of the key did
pub record SentOneIn (words : List ℕ) (w l : ℕ) (r t : Lent) (xs ys list₀ list : List ℕ) : Type 0 where
  pub layers : view t ≡ put_layer (view r) l (adds_in r.head.shape words w xs l (layer_at (view r) l))
  pub fits : Fits (dims_at r.head.shape l) (adds_in r.head.shape words w xs l (layer_at (view r) l))
  pub standing : Standing t
  pub tables : ys ≡ put_table r.head.shape xs l (table_in (view r) words w xs l)
  pub long : length (table_in (view r) words w xs l) ≡ table_length r.head.shape
  pub told : list ≡ tell_at list₀ l (answer_in (view r) words w xs l)

-- many layers from the first on were
pub record SentAllIn (words : List ℕ) (w many first : ℕ) (r t : Lent) (xs ys list₀ list : List ℕ) : Type 0 where
  pub layers : view t ≡ over_layers (adds_in r.head.shape words w xs) many first (view r)
  pub standing : Standing t
  pub tables : ys ≡ over_tables r.head.shape (table_in (view r) words w xs) many first xs
  pub told : list ≡ tell_layers 1 (λ l. answer_in (view r) words w xs l ∷ []) many first list₀

-- everything that was lent is as it was
pub record KeptIn (r t : Lent) (xs ys list₀ list : List ℕ) : Type 0 where
  pub lends : t ≡ r
  pub index : ys ≡ xs
  pub told : list ≡ list₀

-- many layers from the first on were sent to, with the places of all layers zeroed first, or everything is as it was: by the number n that is answered
pub record SentOrKept (words : List ℕ) (w many first : ℕ) (r t : Lent) (xs ys list₀ list : List ℕ) (n : ℕ) : Type 0 where
  pub sent : n ≡ 0 → SentAllIn words w many first r t xs ys (zeroed_for r.head.shape list₀) list
  pub kept : (n ≡ 0 → ⊥) → KeptIn r t xs ys list₀ list

-- the same of the layers that a key reaches
abbrev pub KeySentOrKept : Kind → List ℕ → ℕ → Lent → Lent → List ℕ → List ℕ → List ℕ → List ℕ → ℕ → Type 0
KeySentOrKept k words w r t xs ys list₀ list n =
    SentOrKept words w (many_sent k (bottom_by (view r) words)) (first_sent k (bottom_by (view r) words)) r t xs ys list₀ list n

-- what the tests and sends of a key need
pub record KeyReadyIn (r : Lent) (xs words : List ℕ) (w : ℕ) : Type 0 where
  pub key : KeyReady r words w
  pub tables : length xs ≡ tables_in r.head.shape

-- the tests of the layers that a key reaches, and of a list of n words
abbrev pub key_tests_in : Kind → List ℕ → ℕ → Lent → List ℕ → ℕ → List (Bool × ℕ)
key_tests_in k words w r xs n =
    layers_tests_in r.head.shape words w xs (many_sent k (bottom_by (view r) words)) (first_sent k (bottom_by (view r) words)) (view r) ++ list_tests (2 * r.head.shape.layers) n

-- header, lengths, the index's too, and record, where a header's lengths and flags are lent too: 9, 12; the index has nx words, the record nr
abbrev pub sound_tests_in : Lent → ℕ → ℕ → List (Bool × ℕ)
sound_tests_in r nx nr =
    place_tests r.head
    ++ (size_tests r.head (length r.counters) (length r.norms) (length r.entries) (length r.counts)
    ++ (tables_test r.head.shape nx ∷ record_test r.head.shape nr ∷ []))

-- all tests of an update, where n is what its beginning is refused with and the list has m words
abbrev pub staged_tests : Kind → ℕ → Lent → List ℕ → List ℕ → ℤ → ℕ → List (Bool × ℕ)
staged_tests k n r xs words w m =
    sound_tests_in r (length xs) (length words) ++ ((not (eqb n 0), n) ∷ (sent_tests_in k (view r) xs words w ++ list_tests (2 * r.head.shape.layers) m))
