-- An update leaves the shape as it was. Assumes nothing.
use mathlib.Core.Path.{◌≡◌, refl, ap, ◌∙◌}
use mathlib.Core.Bool.{Bool, true, false, cond}
use mathlib.Core.List.{List, [], ◌∷◌, ◌++◌}
use Prim.Native.Nat.{ℕ, zero, suc, ◌*◌}
use lib.IntN.{ℤ}
use Rattle.layer.specs.Layer.{Layer}
use Rattle.layout.specs.State.{State, layer_at, put_layer, over_layers}
use Rattle.layout.specs.Slices.{Lent, view, flat}
use Rattle.layout.specs.Outcomes.{Outcome, judge, left_by}
use Rattle.layout.specs.inner.Telling.{list_tests}
use Rattle.layout.proofs.ListCalls.{list-judge}
use Rattle.univmon.specs.declared.Kind.{Kind}
use Rattle.univmon.specs.Updates.{update_tests, updated}
use Rattle.univmon.specs.Calls.{place_tests, lent_update_call, lent_update_list_call}

over_shape : (f : ℕ → Layer → Layer) (k l : ℕ) (s : State) → (over_layers f k l s).head.shape ≡ s.head.shape
unfolding over_layers put_layer
over_shape f zero l s = refl
over_shape f (suc k) l s = over_shape f k (suc l) (put_layer s l (f l (layer_at s l)))

judged_shape : (ts : List (Bool × ℕ)) (t r : Lent) → t.head.shape ≡ r.head.shape → (left_by r (judge ts t)).lends.head.shape ≡ r.head.shape
judged_shape [] t r e = e
judged_shape (x ∷ ts) t r e = go x.0 (judged_shape ts t r e)
  where
    go : (b : Bool) → (left_by r (judge ts t)).lends.head.shape ≡ r.head.shape → (left_by r (cond b (Outcome.no x.1) (judge ts t))).lends.head.shape ≡ r.head.shape
    go true h = refl
    go false h = h

pub update-shape : (k : Kind) (r : Lent) (words : List ℕ) (w : ℤ) (n : ℕ) → (left_by r (lent_update_list_call k r words w n)).lends.head.shape ≡ r.head.shape
unfolding lent_update_list_call lent_update_call updated flat view
update-shape k r words w n =
    let ts : List (Bool × ℕ) = place_tests r.head ++ update_tests k r words w in
    let least : ℕ = 2 * r.head.shape.layers in
    let t : Lent = flat (updated k (view r) words w) in
    ap (λ (o : Outcome). (left_by r o).lends.head.shape) (list-judge least n ts t) ∙ judged_shape (ts ++ list_tests least n) t r (over_shape _ _ _ _)
