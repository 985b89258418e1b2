-- What the inner functions need, by name.
use Rattle.std.specs.Prelude.{ℕ, ◌+◌, ◌*◌, ◌≤◌, ◌<◌, ◌≡◌, Bool, true, not, ◌&&◌, List, [], ◌∷◌, ◌++◌, length, drop, replicate, ℤ, nat_abs, eqb}
use Rattle.words.specs.Num.{top}
use Rattle.header.specs.declared.Shape.{Shape}
use Rattle.header.specs.declared.Header.{Header}
use Rattle.header.specs.Header.{Headed}
use Rattle.heap.specs.inner.Telling.{tell_at}
use Rattle.layer.specs.Layer.{Layer, add_layer, add_reads, add_fits, layer_update}
use Rattle.layout.specs.State.{dims_at, layer_at, put_layer, all_layers, over_layers}
use Rattle.layout.specs.Slices.{Lent, view, flat}
use Rattle.layout.specs.Records.{record_length, item_at}
use Rattle.layout.specs.Answers.{touched_places}
use Rattle.layout.specs.inner.Needs.{Standing}
use Rattle.layout.specs.inner.Telling.{list_tests, tell_layers}
use Rattle.layout.specs.Outcomes.{Left, left_by, judge, size_tests, record_test}
use Rattle.univmon.specs.declared.Kind.{Kind}
use Rattle.univmon.specs.Updates.{reads_at, fits_at, adds_at, answer_at, first_sent, many_sent, bottom_by, layers_tests, sent_tests}
use Rattle.univmon.specs.Calls.{place_tests}

-- what the update of layer l needs
pub record SendReady (r : Lent) (words : List ℕ) (w l : ℕ) : Type 0 where
  pub standing : Standing r
  pub headed : Headed r.head
  pub recorded : length words ≡ record_length r.head.shape.layers
  pub light : w ≤ top
  pub inside : l < r.head.shape.layers
  pub read : add_reads (dims_at r.head.shape l) (layer_update (item_at words l) w) (layer_at (view r) l) ≡ true
  pub fit : add_fits (dims_at r.head.shape l) (layer_update (item_at words l) w) (layer_at (view r) l) ≡ true

-- what the update of many layers from the first on needs
pub record SendsReady (r : Lent) (words : List ℕ) (w many first : ℕ) : Type 0 where
  pub standing : Standing r
  pub headed : Headed r.head
  pub recorded : length words ≡ record_length r.head.shape.layers
  pub light : w ≤ top
  pub inside : first + many ≤ r.head.shape.layers
  pub read : all_layers (reads_at r.head.shape words w) many first (view r) ≡ true
  pub fit : all_layers (fits_at r.head.shape words w) many first (view r) ≡ true

-- layer l of r was sent to, which leaves t, and the list tells what the offer of the key did
pub record SentOne (words : List ℕ) (w l : ℕ) (r t : Lent) (list₀ list : List ℕ) : Type 0 where
  pub layers : view t ≡ put_layer (view r) l (add_layer (dims_at r.head.shape l) (layer_update (item_at words l) w) (layer_at (view r) l))
  pub standing : Standing t
  pub told : list ≡ tell_at list₀ l (answer_at (view r) words w l)

-- many layers from the first on were
pub record SentAll (words : List ℕ) (w many first : ℕ) (r t : Lent) (list₀ list : List ℕ) : Type 0 where
  pub layers : view t ≡ over_layers (adds_at r.head.shape words w) many first (view r)
  pub standing : Standing t
  pub told : list ≡ tell_layers 1 (λ l. answer_at (view r) words w l ∷ []) many first list₀

-- a list with zeros for every layer of a shape, as it is before layers tell
abbrev pub zeroed_for : Shape → List ℕ → List ℕ
zeroed_for sh list = replicate (2 * sh.layers) 0 ++ drop (2 * sh.layers) list

-- both tests of an update at a layer
abbrev pub ready_at : Shape → List ℕ → ℕ → ℕ → Layer → Bool
ready_at sh words w l y = reads_at sh words w l y && fits_at sh words w l y

-- what the tests of many layers from the first on need
pub record JudgeReady (r : Lent) (words : List ℕ) (w many first : ℕ) : Type 0 where
  pub standing : Standing r
  pub headed : Headed r.head
  pub recorded : length words ≡ record_length r.head.shape.layers
  pub light : w ≤ top
  pub inside : first + many ≤ r.head.shape.layers

-- what is left after many layers from the first on were tested, with a list of n words, and then sent to: a refusal and nothing changed, or 0 and the layers changed
unfoldable pub sent_by : List ℕ → ℕ → ℕ → ℕ → ℕ → Lent → Left
sent_by words w many first n r =
    left_by r
    (judge (layers_tests r.head.shape words w many first (view r) ++ list_tests (2 * r.head.shape.layers) n)
    (flat (over_layers (adds_at r.head.shape words w) many first (view r))))

-- what the list tells then
abbrev pub told_by : List ℕ → ℕ → ℕ → ℕ → Lent → List ℕ
told_by words w many first r = touched_places (answer_at (view r) words w) many first r.head.shape.layers

-- what the tests and sends of a key need
pub record KeyReady (r : Lent) (words : List ℕ) (w : ℕ) : Type 0 where
  pub standing : Standing r
  pub headed : Headed r.head
  pub recorded : length words ≡ record_length r.head.shape.layers
  pub light : w ≤ top

-- tests and sends of the layers that a key reaches, and what they tell
abbrev pub key_sent : Kind → List ℕ → ℕ → ℕ → Lent → Left
key_sent k words w n r = sent_by words w (many_sent k (bottom_by (view r) words)) (first_sent k (bottom_by (view r) words)) n r

abbrev pub key_told : Kind → List ℕ → ℕ → Lent → List ℕ
key_told k words w r = told_by words w (many_sent k (bottom_by (view r) words)) (first_sent k (bottom_by (view r) words)) r

-- header, lengths and record, where a header's lengths and flags are lent too: 9, 12
abbrev pub sound_tests : Header → ℕ → ℕ → ℕ → ℕ → ℕ → List (Bool × ℕ)
sound_tests h xs ws es ns n = place_tests h ++ (size_tests h xs ws es ns ++ (record_test h.shape n ∷ []))

-- these tests of a lent state and a record
abbrev pub sound_in : Lent → List ℕ → List (Bool × ℕ)
sound_in r words = sound_tests r.head (length r.counters) (length r.norms) (length r.entries) (length r.counts) (length words)

-- what all of an update but its beginning leaves, where n is what the beginning is refused with and the list has m words: totals and mode stay
unfoldable pub sent_after : Kind → ℕ → List ℕ → ℤ → ℕ → Lent → Left
sent_after k n words w m r =
    left_by r
    (judge (sound_in r words ++ ((not (eqb n 0), n) ∷ (sent_tests k (view r) words w ++ list_tests (2 * r.head.shape.layers) m)))
    (flat (over_layers (adds_at r.head.shape words (nat_abs w)) (many_sent k (bottom_by (view r) words)) (first_sent k (bottom_by (view r) words)) (view r))))
