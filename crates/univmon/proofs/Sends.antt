-- An update of one layer of a lent state. Assumes nothing.
use mathlib.Core.Path.{◌≡◌, sym, ap, ◌∙◌}
use mathlib.Core.Bool.{Bool, false, ◌&&◌}
use mathlib.Core.List.{List}
use Prim.Native.Nat.{ℕ, ◌-◌, ◌≤◌}
use lib.ListN.{get_or, set}
use lib.IntN.{ℤ}
use Rattle.words.specs.Parts.{put_part}
use Rattle.heap_moves.specs.declared.Item.{Item}
use Rattle.heap.specs.declared.Answer.{Answer}
use Rattle.heap.specs.Offer.{kept_by, len_by}
use Rattle.heap.specs.inner.Telling.{tell_at}
use Rattle.header.specs.declared.Header.{Header}
use Rattle.header.specs.declared.Scalars.{Scalars}
use Rattle.header.specs.Header.{head_of, with_layer}
use Rattle.layer.specs.declared.Dims.{Dims}
use Rattle.layer.specs.Layer.{Layer, LayerUpdate, add_layer, add_answer, add_reads, add_fits, layer_update}
use Rattle.layer.specs.inner.Needs.{AddReady, layer_of}
use Rattle.layer.proofs.Steps.{add-few}
use Rattle.layer.proofs.Tests.{reads_are, fits_are}
use Rattle.layout.specs.declared.Span.{Span}
use Rattle.layout.specs.State.{dims_at, layer_at}
use Rattle.layout.specs.Slices.{Lent, lent, view}
use Rattle.layout.specs.Records.{item_at}
use Rattle.layout.proofs.Views.{shape_by}
use Rattle.layout.proofs.Handed.{Spanned, cell_part, norm_part, word_part, seat_part, handed, housed, word-length, handed_is, Back, back-view, back-standing}
use Rattle.univmon.specs.inner.Needs.{SendReady, SentOne, ready_at}

-- a layer's length and flag as they are noted in what is lent beside the header's scalars
pub noted : (h : Scalars) (lens : List ℕ) (flags : List Bool) (l n : ℕ) (b : Bool) (lens' : List ℕ) (flags' : List Bool) → lens' ≡ set lens l n → flags' ≡ set flags l b → head_of h lens' flags' ≡ with_layer (head_of h lens flags) l n b
noted h lens flags l n b lens' flags' e f = λ i. head_of h (e i) (f i)

-- layer l was handed on with what it holds, and came back as an update leaves it; the header has its new length and flag
pub sent-one : {r : Lent} {l : ℕ} {s : Span} (words : List ℕ) (w : ℕ) (q : Spanned r l s) (xs : List ℤ) (ws es : List ℕ) (ns : List ℤ) (a : Answer) (h : Header) (list₀ list : List ℕ)
    → Back q xs ws es ns
    → layer_of (dims_at (shape_by r) l) xs ws es ns (len_by a (get_or r.head.lens l 0)) (get_or r.head.flags l false && kept_by a) ≡ add_layer (dims_at (shape_by r) l) (layer_update (item_at words l) w) (handed r l s)
    → a ≡ add_answer (dims_at (shape_by r) l) (layer_update (item_at words l) w) (handed r l s)
    → h ≡ with_layer r.head l (len_by a (get_or r.head.lens l 0)) (get_or r.head.flags l false && kept_by a)
    → list ≡ tell_at list₀ l a
    → SentOne words w l r (lent h (put_part s.cells.start (s.cells.end - s.cells.start) r.counters xs) (put_part s.norms.start (s.norms.end - s.norms.start) r.norms ws)
    (put_part s.words.start (s.words.end - s.words.start) r.entries es) (put_part s.seats.start (s.seats.end - s.seats.start) r.counts ns)) list₀ list
unfolding layer_at view
sent-one {r = r} {l = l} {s = s} words w q xs ws es ns a h list₀ list b e o hd t =
    record {
      layers = rw hd (back-view q xs ws es ns _ _ _ b now_is);
      standing = rw hd (back-standing q xs ws es ns _ _ b few);
      told = t ∙ ap (tell_at list₀ l) (o ∙ ap (add_answer d u) (sym (handed_is q)));
    }
  where
    d : Dims
    d = dims_at (shape_by r) l

    u : LayerUpdate
    u = layer_update (item_at words l) w

    now_is : layer_of d xs ws es ns (len_by a (get_or r.head.lens l 0)) (get_or r.head.flags l false && kept_by a) ≡ add_layer d u (layer_at (view r) l)
    now_is = e ∙ ap (add_layer d u) (sym (handed_is q))

    -- no more candidates than seats
    few : len_by a (get_or r.head.lens l 0) ≤ d.size
    few = rw (ap (λ (y : Layer). y.table.len) now_is) (add-few d u (layer_at (view r) l) (q.standing.lens l q.inside))

-- whether it is ready
pub ready_handed : {r : Lent} {l : ℕ} {s : Span} (words : List ℕ) (w : ℕ) (q : Spanned r l s) (b : Bool)
    → b ≡ add_reads (dims_at (shape_by r) l) (layer_update (item_at words l) w) (handed r l s) && add_fits (dims_at (shape_by r) l) (layer_update (item_at words l) w) (handed r l s)
    → b ≡ ready_at r.head.shape words w l (layer_at (view r) l)
ready_handed {r = r} {l = l} words w q b e =
    e ∙ ap (λ (y : Layer). add_reads (dims_at (shape_by r) l) (layer_update (item_at words l) w) y && add_fits (dims_at (shape_by r) l) (layer_update (item_at words l) w) y) (sym (handed_is q))

module _ {r : Lent} {words : List ℕ} {w l : ℕ} {s : Span} (p : SendReady r words w l) (q : Spanned r l s) where
  -- the tests do not look at the flag
  pub send-ready : AddReady (dims_at (shape_by r) l) (get_or r.head.lens l 0) (item_at words l) w (cell_part s r.counters) (norm_part s r.norms) (word_part s r.entries) (seat_part s r.counts)
  send-ready =
      record {
        housed = housed q;
        words = word-length q;
        light = p.light;
        read = reads_are d item w xs ws es ns len false ∙ sym (reads_are d item w xs ws es ns len flag) ∙ ap (add_reads d (layer_update item w)) (sym (handed_is q)) ∙ p.read;
        fit = fits_are d item w xs ws es ns len false ∙ sym (fits_are d item w xs ws es ns len flag) ∙ ap (add_fits d (layer_update item w)) (sym (handed_is q)) ∙ p.fit;
      }
    where
      d : Dims
      d = dims_at (shape_by r) l

      item : Item
      item = item_at words l

      xs : List ℤ
      xs = cell_part s r.counters

      ws : List ℕ
      ws = norm_part s r.norms

      es : List ℕ
      es = word_part s r.entries

      ns : List ℤ
      ns = seat_part s r.counts

      len : ℕ
      len = get_or r.head.lens l 0

      flag : Bool
      flag = get_or r.head.flags l false
