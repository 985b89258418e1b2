-- The state of a text that was read: it is whole, and its text is the one that was read. Assumes nothing.
use mathlib.Core.Path.{◌≡◌, refl, sym, ap, subst, ◌∙◌}
use mathlib.Core.List.{List, [], ◌∷◌}
use Prim.Native.Nat.{ℕ, zero, suc, ◌+◌, ◌≤◌, ◌<◌}
use native.Mathlib.Omega.{arith}
use lib.ListN.{length, get_or}
use borrow.Author.Tests.{leb-true}
use Rattle.words.specs.Num.{top}
use Rattle.header.specs.declared.Shape.{Shape}
use Rattle.header.specs.Shape.{shape_refusal}
use Rattle.header.specs.OneTier.{OneTiered}
use Rattle.header.specs.Header.{fresh_header, mode_number, mode_by}
use Rattle.header.proofs.Bounds.{Within}
use Rattle.header.proofs.Modes.{number-back}
use Rattle.layer.specs.declared.Dims.{Dims}
use Rattle.layer.specs.Layer.{Layer}
use Rattle.layout.specs.State.{State, shape_of, dims_at, layer_at, new_state, with_head}
use Rattle.layout.proofs.OneTier.{dims-alike}
use Rattle.layout.proofs.Replaced.{Over, over}
use Rattle.state_check.proofs.Whole.{Whole}
use Rattle.state_check.proofs.WholeStates.{WholeState, over_whole, head-whole}
use Rattle.state_check.proofs.KeptStates.{new-whole}
use Rattle.state_forms.specs.Grammar.{Page, Frame, page_format, PagesIn, others_format}
use Rattle.state_forms.specs.Whole.{Others, doc_text}
use Rattle.state_text.specs.Pages.{page_of, layer_from, frame_of, first_of, dims_of, pages_of, others_of, text_of, no_page, head_from, state_from}
use Rattle.state_text.proofs.PageLaws.{page_whole, page_same}

-- ---- pages by their place

pub pages_at : (k : Frame) (l : ℕ) (ps : List Page) → PagesIn k l ps → (i : ℕ) → i < length ps → (page_format k l).In (get_or ps i no_page)
pages_at k l [] a i h = absurd (omega arith)
pages_at k l (p ∷ ps) a zero h = a.0
pages_at k l (p ∷ ps) a (suc i) h = pages_at k (suc l) ps a.1 i (omega arith)

pub page_at : (s : State) (k l i : ℕ) → i < k → get_or (pages_of s k l) i no_page ≡ page_of (dims_of (shape_of s)) (layer_at s (l + i))
unfolding pages_of
page_at s zero l i h = absurd (omega arith)
page_at s (suc k) l zero h = let z : l + 0 ≡ l = omega arith in rw z
page_at s (suc k) l (suc i) h = let z : l + suc i ≡ suc l + i = omega arith in rw z (page_at s k (suc l) i (omega arith))

pub pages_long : (s : State) (k l : ℕ) → length (pages_of s k l) ≡ k
unfolding pages_of
pages_long s zero l = refl
pages_long s (suc k) l = ap suc (pages_long s k (suc l))

pub pages_in : (d : Frame) (s : State) (k l : ℕ) → ((m : ℕ) → l ≤ m → m < l + k → (page_format d m).In (page_of (dims_of (shape_of s)) (layer_at s m))) → PagesIn d l (pages_of s k l)
unfolding pages_of
pages_in d s zero l h = tt
pages_in d s (suc k) l h = (h l (omega arith) (omega arith), pages_in d s k (suc l) (λ m p q. h m (omega arith) (omega arith)))

pages_are : (s : State) (k l : ℕ) (ps : List Page) → length ps ≡ k → ((i : ℕ) → i < k → page_of (dims_of (shape_of s)) (layer_at s (l + i)) ≡ get_or ps i no_page) → pages_of s k l ≡ ps
unfolding pages_of
pages_are s zero l [] e h = refl
pages_are s zero l (p ∷ ps) e h = absurd (omega arith)
pages_are s (suc k) l [] e h = absurd (omega arith)
pages_are s (suc k) l (p ∷ ps) e h =
    let z : l + 0 ≡ l = omega arith in
    let a : page_of (dims_of (shape_of s)) (layer_at s l) ≡ p = ap (λ (n : ℕ). page_of (dims_of (shape_of s)) (layer_at s n)) (sym z) ∙ h 0 (omega arith) in
    let b : pages_of s k (suc l) ≡ ps = pages_are s k (suc l) ps (omega arith) (λ i q. let y : suc l + i ≡ l + suc i = omega arith in ap (λ (n : ℕ). page_of (dims_of (shape_of s)) (layer_at s n)) y ∙ h (suc i) (omega arith)) in
    rw (a, b)

-- ---- the state of a text

-- each layer as its page says
abbrev pub each : Shape → List Page → ℕ → Layer → Layer
each sh ps l y = layer_from (dims_of sh) (get_or ps l no_page)

module _ (sh : Shape) (o : OneTiered sh) (v : shape_refusal sh ≡ 0) (d : Others) (i : (others_format (frame_of (dims_of sh)) sh.layers).In d) where
  base : State
  base = with_head (new_state sh) (head_from (new_state sh).head d.0)

  within : Within (record { weight = d.0.0; updates = d.0.1.0 })
  within = record { light = leb-true d.0.0 top i.0.0.1; few = leb-true d.0.1.0 top i.0.1.0.1 }

  base_whole : WholeState base
  unfolding base
  base_whole = head-whole (new_state sh) (record { weight = d.0.0; updates = d.0.1.0 }) (mode_by d.0.1.1) (new-whole sh v) within

  page-of : (m : ℕ) → m < sh.layers → (page_format (frame_of (dims_of sh)) 0).In (get_or d.1 m no_page)
  page-of m h = pages_at (frame_of (dims_of sh)) 0 d.1 i.1.1 m (omega (arith, h, i.1.0))

  layer-of : (m : ℕ) → m < sh.layers → Whole (dims_of sh) (layer_from (dims_of sh) (get_or d.1 m no_page))
  layer-of m h = page_whole (dims_of sh) 0 (get_or d.1 m no_page) (page-of m h)

  -- a layer of the shape has these dimensions
  layer-in : (m : ℕ) → m < sh.layers → Whole (dims_at sh m) (layer_from (dims_of sh) (get_or d.1 m no_page))
  layer-in m h = subst (λ (q : Dims). Whole q (layer_from (dims_of sh) (get_or d.1 m no_page))) (sym (dims-alike sh o m)) (layer-of m h)

  built_over : Over (each sh d.1) sh.layers 0 base (state_from sh d)
  unfolding base state_from new_state fresh_header
  built_over = over (each sh d.1) sh.layers 0 base base_whole.sized (omega arith) (λ m p q. (layer-in m (omega arith)).fits)

  pub built_whole : WholeState (state_from sh d)
  unfolding base state_from new_state fresh_header
  built_whole = over_whole (each sh d.1) sh.layers 0 base base_whole (omega arith) (λ m p q x. layer-in m (omega arith))

  pub built_shape : (state_from sh d).head.shape ≡ sh
  unfolding base new_state fresh_header
  built_shape = built_over.head.shape

  pub built_totals : (state_from sh d).head.totals ≡ record { weight = d.0.0; updates = d.0.1.0 }
  unfolding base
  built_totals = built_over.head.totals

  pub built_mode : (state_from sh d).head.mode ≡ mode_by d.0.1.1
  unfolding base
  built_mode = built_over.head.mode

  pub built_layer : (m : ℕ) → m < sh.layers → layer_at (state_from sh d) m ≡ layer_from (dims_of sh) (get_or d.1 m no_page)
  built_layer m h = built_over.inside m (omega arith) (omega arith)

  built_pages : let t = state_from sh d in pages_of t t.head.shape.layers 0 ≡ d.1
  built_pages =
      let t = state_from sh d in
      pages_are t t.head.shape.layers 0 d.1 (i.1.0 ∙ ap (λ (q : Shape). q.layers) (sym built_shape))
      (λ m h. let k : m < sh.layers = omega (arith, h, ap (λ (q : Shape). q.layers) built_shape) in
      let z : 0 + m ≡ m = omega arith in
      ap (λ (n : ℕ). page_of (dims_of t.head.shape) (layer_at t n)) z
      ∙ ap (λ (q : Shape). page_of (dims_of q) (layer_at t m)) built_shape
      ∙ ap (page_of (dims_of sh)) (built_layer m k)
      ∙ page_same (dims_of sh) 0 (get_or d.1 m no_page) (page-of m k))

  -- what its text says is what was read
  pub built_text : text_of (state_from sh d) ≡ doc_text (frame_of (dims_of sh)) (first_of sh) d
  unfolding text_of others_of
  built_text =
      let n : mode_number (state_from sh d).head.mode ≡ d.0.1.1 = ap mode_number built_mode ∙ number-back d.0.1.1 (leb-true d.0.1.1 2 i.0.1.1.1) in
      λ j. doc_text (frame_of (dims_of (built_shape j))) (first_of (built_shape j)) (((built_totals j).weight, ((built_totals j).updates, n j)), built_pages j)
