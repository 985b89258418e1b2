-- Layers of a lent state replaced one after the other: what is left to do gives the answer, and what is left is as it was. Assumes nothing.
use mathlib.Core.Path.{◌≡◌, refl, sym, ap, ◌∙◌, subst}
use mathlib.Core.Bool.{Bool, true}
use Prim.Native.Nat.{ℕ, suc, ◌+◌, ◌≤◌, ◌<◌}
use native.Mathlib.Omega.{arith}
use native.Mathlib.Numerals.{add-one}
use lib.ListN.{length}
use Rattle.header.specs.declared.Shape.{Shape}
use Rattle.layer.specs.Layer.{Layer}
use Rattle.layer.specs.inner.Needs.{Fits}
use Rattle.layout.specs.State.{State, dims_at, layer_at, put_layer, over_layers, all_layers}
use Rattle.layout.specs.Slices.{Lent, view}
use Rattle.layout.specs.inner.Needs.{Standing}
use Rattle.layout.proofs.States.{at-put-other, all-at}
use Rattle.layout.proofs.Lengths.{long-view}

-- of many layers of r₀ from the first on, those before layer l are replaced in r
pub record InTurn (f : ℕ → Layer → Layer) (many first : ℕ) (r₀ r : Lent) (l : ℕ) : Type 0 where
  pub within : l ≤ many + first
  pub standing : Standing r
  pub shape : r.head.shape ≡ r₀.head.shape
  pub goes : (n : ℕ) → n + l ≡ many + first → over_layers f n l (view r) ≡ over_layers f many first (view r₀)
  pub ahead : (m : ℕ) → l ≤ m → m < many + first → layer_at (view r) m ≡ layer_at (view r₀) m

pub in_turn-start : (f : ℕ → Layer → Layer) (many first : ℕ) (r : Lent) → Standing r → InTurn f many first r r first
in_turn-start f many first r z =
    record {
      within = omega arith;
      standing = z;
      shape = refl;
      goes = λ n q. let e : n ≡ many = omega arith in ap (λ (k : ℕ). over_layers f k first (view r)) e;
      ahead = λ m h k. refl;
    }

module _ {f : ℕ → Layer → Layer} {many first : ℕ} {r₀ r : Lent} {l : ℕ} (v : InTurn f many first r₀ r l) where
  -- the slices keep their lengths
  pub in_turn-long : Standing r₀
      → (length r.counters ≡ length r₀.counters) × ((length r.norms ≡ length r₀.norms) × ((length r.entries ≡ length r₀.entries) × (length r.counts ≡ length r₀.counts)))
  in_turn-long z =
      let a = v.standing.sizes in
      let b = z.sizes in (
        a.cells ∙ rw v.shape (sym b.cells),
        (a.norms ∙ rw v.shape (sym b.norms), (a.entries ∙ rw v.shape (sym b.entries), a.counts ∙ rw v.shape (sym b.counts))),
      )

  pub in_turn_end : many + first ≤ l → view r ≡ over_layers f many first (view r₀)
  unfolding over_layers
  in_turn_end h = v.goes 0 (omega (arith, v.within))

  module _ (h : l < many + first) (b : first + many ≤ r₀.head.shape.layers) where
    pub in_turn-inside : l < r.head.shape.layers
    in_turn-inside = subst (λ (sh : Shape). l < sh.layers) (sym v.shape) (omega arith)

    -- the next layer is as it was at the start
    pub in_turn-next : layer_at (view r) l ≡ layer_at (view r₀) l
    in_turn-next = v.ahead l (omega arith) h

    -- a test that every layer passed at the start
    pub in_turn-test : first ≤ l → (p : ℕ → Layer → Bool) → all_layers p many first (view r₀) ≡ true → p l (layer_at (view r) l) ≡ true
    in_turn-test c p a = ap (p l) in_turn-next ∙ all-at p many first (view r₀) l c h a

    -- layer l is replaced
    pub in_turn_on : (y : Layer) → y ≡ f l (layer_at (view r) l) → Fits (dims_at r.head.shape l) y → (u : Lent) → view u ≡ put_layer (view r) l y → Standing u → InTurn f many first r₀ u (l + 1)
    unfolding over_layers all_layers put_layer view
    in_turn_on y is fits u e z =
        record {
          within = omega arith;
          standing = z;
          shape = ap (λ (s : State). s.head.shape) e ∙ v.shape;
          goes = λ n q. rw (add-one l, e ∙ ap (put_layer (view r) l) is) (v.goes (suc n) (omega arith));
          ahead = λ m k q.
              ap (λ (s : State). layer_at s m) e
              ∙ at-put-other (view r) (long-view r v.standing) l m y in_turn-inside (subst (λ (sh : Shape). m < sh.layers) (sym v.shape) (omega arith)) (λ z. omega (arith, z)) fits
              ∙ v.ahead m (omega arith) q;
        }
