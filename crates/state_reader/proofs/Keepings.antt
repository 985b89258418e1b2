-- Layers kept one by one. Assumes nothing.
use mathlib.Core.Path.{◌≡◌, sym, ap, subst, ◌∙◌}
use mathlib.Core.List.{List, [], ◌∷◌}
use Prim.Native.Nat.{ℕ, zero, suc, ◌+◌, ◌-◌, ◌≤◌, ◌<◌}
use native.Mathlib.Omega.{arith}
use native.Mathlib.Numerals.{add-one}
use lib.ListN.{get_or, drop}
use Rattle.header.specs.declared.Shape.{Shape}
use Rattle.header.specs.OneTier.{OneTiered}
use Rattle.layer.specs.declared.Dims.{Dims}
use Rattle.layer.specs.inner.Needs.{Fits, Housed}
use Rattle.layout.specs.State.{dims_at, put_layer, over_layers}
use Rattle.layout.specs.Slices.{Lent, view}
use Rattle.layout.specs.inner.Needs.{Standing}
use Rattle.layout.proofs.OneTier.{dims-alike}
use Rattle.layout.proofs.InTurn.{InTurn, in_turn-start, in_turn-inside, in_turn_on, in_turn_end}
use Rattle.state_forms.specs.Formats.{got, then_read}
use Rattle.state_forms.specs.Grammar.{Page, Frame, page_format, pages_r}
use Rattle.state_forms.proofs.Exactness.{got_value, got_left, steps}
use Rattle.state_text.specs.Pages.{dims_of, frame_of, layer_from, no_page}
use Rattle.state_text.proofs.PageLaws.{page_whole}
use Rattle.state_text.proofs.Built.{each}
use Rattle.state_text.proofs.Restored.{small}
use Rattle.state_reader.specs.inner.Paged.{Legible}
use Rattle.state_reader.proofs.PageSteps.{page_in}

drop_is : (l : ℕ) (ps : List Page) (p : Page) (qs : List Page) → drop l ps ≡ p ∷ qs → (get_or ps l no_page ≡ p) × (drop (suc l) ps ≡ qs)
drop_is zero [] p qs e = let z : ◌≡◌ {A = ℕ} 0 1 = cc in absurd (omega arith)
drop_is zero (x ∷ ps) p qs e = (cc, cc)
drop_is (suc l) [] p qs e = let z : ◌≡◌ {A = ℕ} 0 1 = cc in absurd (omega arith)
drop_is (suc l) (x ∷ ps) p qs e = drop_is l ps p qs e

-- the layers before layer l are kept, and the others are left of the text
pub record Keeping (r₀ : Lent) (ps : List Page) (t : List ℕ) (r : Lent) (s : List ℕ) (l : ℕ) : Type 0 where
  pub tier : OneTiered r₀.head.shape
  pub turn : InTurn (each r₀.head.shape ps) r₀.head.shape.layers 0 r₀ r l
  pub reads : (n : ℕ) → n + l ≡ r₀.head.shape.layers → pages_r (frame_of (dims_of r₀.head.shape)) l n s ≡ got (drop l ps) t

pub keeping_start : (r : Lent) (ps : List Page) (t s : List ℕ) → OneTiered r.head.shape → Standing r → pages_r (frame_of (dims_of r.head.shape)) 0 r.head.shape.layers s ≡ got ps t → Keeping r ps t r s 0
keeping_start r ps t s o z e =
    record {
      tier = o;
      turn = in_turn-start (each r.head.shape ps) r.head.shape.layers 0 r z;
      reads = λ n q. let k : n ≡ r.head.shape.layers = omega arith in ap (λ (m : ℕ). pages_r (frame_of (dims_of r.head.shape)) 0 m s) k ∙ e;
    }

-- the next layer's lines
pub record NextPage (k : Frame) (l m : ℕ) (ps : List Page) (t s : List ℕ) : Type 0 where
  pub after : List ℕ
  pub page : (page_format k l).read s ≡ got (get_or ps l no_page) after
  pub rest : pages_r k (suc l) m after ≡ got (drop (suc l) ps) t

next_page : (k : Frame) (l m : ℕ) (ps : List Page) (t s : List ℕ) → pages_r k l (suc m) s ≡ got (drop l ps) t → NextPage k l m ps t s
unfolding pages_r
next_page k l m ps t s e =
    let a = steps ((page_format k l).read s) (λ p t. then_read (pages_r k (suc l) m t) (λ ps u. got (p ∷ ps) u)) (drop l ps) t e in
    let b = steps (pages_r k (suc l) m a.left) (λ ps u. got (a.value ∷ ps) u) (drop l ps) t a.next in
    let d = drop_is l ps a.value b.value (sym (got_value b.next)) in
    record { after = a.left; page = a.first ∙ ap (λ (p : Page). got p a.left) (sym d.0); rest = b.first ∙ (λ i. got (sym d.1 i) (got_left b.next i)) }

module _ {r₀ : Lent} {ps : List Page} {t : List ℕ} {r : Lent} {s : List ℕ} {l : ℕ} (v : Keeping r₀ ps t r s l) (h : l < r₀.head.shape.layers) where
  more : l < r₀.head.shape.layers + 0
  more = omega arith

  up_to : 0 + r₀.head.shape.layers ≤ r₀.head.shape.layers
  up_to = omega arith

  found : NextPage (frame_of (dims_of r₀.head.shape)) l (r₀.head.shape.layers - (l + 1)) ps t s
  found = next_page (frame_of (dims_of r₀.head.shape)) l (r₀.head.shape.layers - (l + 1)) ps t s (v.reads (suc (r₀.head.shape.layers - (l + 1))) (omega arith))

  page_here : (page_format (frame_of (dims_of r.head.shape)) l).read s ≡ got (get_or ps l no_page) found.after
  page_here = ap (λ (sh : Shape). (page_format (frame_of (dims_of sh)) l).read s) v.turn.shape ∙ found.page

  pub keeping_inside : l < r.head.shape.layers
  keeping_inside = in_turn-inside v.turn more up_to

  pub keeping_tier : OneTiered r.head.shape
  keeping_tier = subst OneTiered (sym v.turn.shape) v.tier

  pub keeping_legible : Legible ((page_format (frame_of (dims_of r.head.shape)) l).read s)
  keeping_legible = record { value = get_or ps l no_page; left = found.after; reads = page_here }

  -- what is read of the layer fits it
  page_fits : Fits (dims_at r.head.shape l) (layer_from (dims_of r.head.shape) (get_or ps l no_page))
  page_fits =
      let d = dims_of r.head.shape in
      let a = small r.head.shape v.turn.standing.accepted in
      subst (λ (q : Dims). Fits q (layer_from d (get_or ps l no_page))) (sym (dims-alike r.head.shape keeping_tier l))
      (page_whole d l (get_or ps l no_page) (page_in d l s (get_or ps l no_page) found.after (omega (arith, a.1.1.0, keeping_inside)) a.0 a.1.0 page_here)).fits

  -- the layer was kept
  pub keeping_on : (u : Lent) (s' : List ℕ)
      → ((p : Page) (x : List ℕ) → (page_format (frame_of (dims_of r.head.shape)) l).read s ≡ got p x → (view u ≡ put_layer (view r) l (layer_from (dims_of r.head.shape) p)) × (s' ≡ x))
      → Standing u → Keeping r₀ ps t u s' (l + 1)
  keeping_on u s' e z =
      let o = e (get_or ps l no_page) found.after page_here in
      record {
        tier = v.tier;
        turn = in_turn_on v.turn more up_to (layer_from (dims_of r.head.shape) (get_or ps l no_page)) (ap (λ (sh : Shape). layer_from (dims_of sh) (get_or ps l no_page)) v.turn.shape) page_fits u o.0 z;
        reads = λ n q. let k : n ≡ r₀.head.shape.layers - (l + 1) = omega arith in rw (add-one l, o.1, k) found.rest;
      }

pub keeping_end : {r₀ : Lent} {ps : List Page} {t : List ℕ} {r : Lent} {s : List ℕ} {l : ℕ} → Keeping r₀ ps t r s l → r₀.head.shape.layers ≤ l → view r ≡ over_layers (each r₀.head.shape ps) r₀.head.shape.layers 0 (view r₀)
keeping_end v h = in_turn_end v.turn (omega arith)

pub none-used : {d : Dims} {a b c n : ℕ} → Housed d a b c n → Housed d a b c 0
none-used h = record { shaped = h.shaped; cells = h.cells; norms = h.norms; seats = h.seats; some = h.some; few = h.few; used = omega arith }
