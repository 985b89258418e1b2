-- Shapes compared. Assumes nothing.
use mathlib.Core.Path.{◌≡◌, refl, sym, subst}
use mathlib.Core.Bool.{true, ◌&&◌}
use Prim.Native.Nat.{ℕ}
use lib.Dec.{eqb}
use borrow.Author.Tests.{eq-eqb, eqb-true}
use Rattle.words.proofs.Bools.{and_left, and_right, both}
use Rattle.header.specs.declared.Shape.{Shape}
use Rattle.header.specs.Shape.{same_tier, same_shape}

-- rows and columns that are the same
pub tier_of : (rows cols rows' cols' : ℕ) → same_tier rows cols rows' cols' ≡ true → (rows' ≡ rows) × (cols' ≡ cols)
tier_of rows cols rows' cols' e =
    (sym (eqb-true rows rows' (and_left (eqb rows rows') (eqb cols cols') e)), sym (eqb-true cols cols' (and_right (eqb rows rows') (eqb cols cols') e)))

pub same_of : (a b : Shape) → same_shape a b ≡ true → b ≡ a
same_of a b e =
    let l = eqb a.layers b.layers in
    let z = eqb a.heap_size b.heap_size in
    let n = eqb a.elephant_layers b.elephant_layers in
    let t = same_tier a.elephant_rows a.elephant_cols b.elephant_rows b.elephant_cols in
    let u = same_tier a.mouse_rows a.mouse_cols b.mouse_rows b.mouse_cols in
    let first = and_left (l && z && n && t) u e in
    let head = and_left (l && z && n) t first in
    let elephants = tier_of a.elephant_rows a.elephant_cols b.elephant_rows b.elephant_cols (and_right (l && z && n) t first) in
    let mice = tier_of a.mouse_rows a.mouse_cols b.mouse_rows b.mouse_cols (and_right (l && z && n && t) u e) in
    let pl = sym (eqb-true a.layers b.layers (and_left l z (and_left (l && z) n head))) in
    let pz = sym (eqb-true a.heap_size b.heap_size (and_right l z (and_left (l && z) n head))) in
    let pn = sym (eqb-true a.elephant_layers b.elephant_layers (and_right (l && z) n head)) in
    λ i. record {
      heap_size = pz i;
      layers = pl i;
      elephant_layers = pn i;
      elephant_rows = elephants.0 i;
      elephant_cols = elephants.1 i;
      mouse_rows = mice.0 i;
      mouse_cols = mice.1 i;
    }

pub same-shape : (a b : Shape) → b ≡ a → same_shape a b ≡ true
same-shape a b e =
    subst (λ (x : Shape). same_shape a x ≡ true) (sym e)
    (both (both (both (both (self a.layers) (self a.heap_size)) (self a.elephant_layers)) (both (self a.elephant_rows) (self a.elephant_cols))) (both (self a.mouse_rows) (self a.mouse_cols)))
  where
    self : (n : ℕ) → eqb n n ≡ true
    self n = eq-eqb n n refl
