-- What a shape needs of the slices, and what the panel's test of it says. Assumes nothing.
use Prim.Native.Nat.{ℕ, ◌*◌, ◌≤◌}
use mathlib.Core.Path.{◌≡◌, refl}
use mathlib.Core.Bool.{Bool, true, false, cond, not, ◌&&◌}
use native.Mathlib.Omega.{arith}
use native.Mathlib.Nat.{le_refl}
use borrow.Author.Tests.{eqb-true, eqb-false, leb-true, ltb-false, le-leb}
use lib.Dec.{eqb, ltb, leb}
use Rattle.matrix_storage.specs.Bits.{max_rows}
use Rattle.header.specs.declared.Shape.{Shape}
use Rattle.header.specs.Shape.{max_layers, shape_refusal}
use Rattle.header.proofs.Refusals.{accepted_of}
use Rattle.layout.specs.Slices.{cells_in, norms_in, cands_in, extent_of}
use Rattle.layout.proofs.Offsets.{norms_bound}
use Rattle.panel_step.specs.Panel.{max_counters, max_candidates, roomy, panel_refusal, paper_refusal}

-- a shape that the panel takes in slices of these lengths
pub record Fit (sh : Shape) (xs ws es ns : ℕ) : Type 0 where
  pub own : shape_refusal sh ≡ 0
  pub cells : cells_in sh ≤ xs
  pub norms : 2 * norms_in sh ≤ ws
  pub words : 4 * cands_in sh ≤ es
  pub seats : cands_in sh ≤ ns

pub fit_of : (sh : Shape) (xs ws es ns : ℕ) → panel_refusal sh xs ws es ns ≡ 0 → Fit sh xs ws es ns
unfolding panel_refusal roomy
fit_of sh xs ws es ns e =
    go (eqb (shape_refusal sh) 0) refl (ltb max_counters (cells_in sh)) (ltb max_candidates (cands_in sh))
    (leb (cells_in sh) xs) refl (leb (2 * norms_in sh) ws) refl (leb (4 * cands_in sh) es) refl (leb (cands_in sh) ns) refl e
  where
    go : (a : Bool) → eqb (shape_refusal sh) 0 ≡ a → (b c : Bool) → (p : Bool) → leb (cells_in sh) xs ≡ p → (q : Bool) → leb (2 * norms_in sh) ws ≡ q
        → (r : Bool) → leb (4 * cands_in sh) es ≡ r → (s : Bool) → leb (cands_in sh) ns ≡ s
        → cond (not a) (shape_refusal sh) (cond b 4 (cond c 4 (cond (p && (q && (r && s))) 0 4))) ≡ 0 → Fit sh xs ws es ns
    go false pa b c p pp q pq r pr s ps z = absurd (eqb-false (shape_refusal sh) 0 pa z)
    go true pa true c p pp q pq r pr s ps z = absurd (omega arith)
    go true pa false true p pp q pq r pr s ps z = absurd (omega arith)
    go true pa false false false pp q pq r pr s ps z = absurd (omega arith)
    go true pa false false true pp false pq r pr s ps z = absurd (omega arith)
    go true pa false false true pp true pq false pr s ps z = absurd (omega arith)
    go true pa false false true pp true pq true pr false ps z = absurd (omega arith)
    go true pa false false true pp true pq true pr true ps z =
        record {
          own = eqb-true (shape_refusal sh) 0 pa;
          cells = leb-true (cells_in sh) xs pp;
          norms = leb-true (2 * norms_in sh) ws pq;
          words = leb-true (4 * cands_in sh) es pr;
          seats = leb-true (cands_in sh) ns ps;
        }

-- ---- the program's own slices: 4,096 counters, 760 norm words, 2,048 entry words, 512 counts

-- they have room for every shape that the paper lets pass
roomy-own : (sh : Shape) → shape_refusal sh ≡ 0 → cells_in sh ≤ max_counters → cands_in sh ≤ max_candidates → roomy (extent_of sh) 4096 760 2048 512 ≡ true
unfolding roomy
roomy-own sh e c d =
    let n : norms_in sh ≤ max_layers * max_rows = norms_bound sh (accepted_of sh e) sh.layers (le_refl _) in
    rw (le-leb (cells_in sh) 4096 c, le-leb (2 * norms_in sh) 760 (omega arith), le-leb (4 * cands_in sh) 2048 (omega arith), le-leb (cands_in sh) 512 d)

pub own-refusal : (sh : Shape) → panel_refusal sh 4096 760 2048 512 ≡ paper_refusal sh
unfolding panel_refusal paper_refusal
own-refusal sh = go (eqb (shape_refusal sh) 0) refl (ltb max_counters (cells_in sh)) refl (ltb max_candidates (cands_in sh)) refl
  where
    go : (a : Bool) → eqb (shape_refusal sh) 0 ≡ a → (b : Bool) → ltb max_counters (cells_in sh) ≡ b → (c : Bool) → ltb max_candidates (cands_in sh) ≡ c
        → cond (not a) (shape_refusal sh) (cond b 4 (cond c 4 (cond (roomy (extent_of sh) 4096 760 2048 512) 0 4))) ≡ cond (not a) (shape_refusal sh) (cond b 4 (cond c 4 0))
    go false pa b pb c pc = refl
    go true pa true pb c pc = refl
    go true pa false pb true pc = refl
    go true pa false pb false pc = rw (roomy-own sh (eqb-true (shape_refusal sh) 0 pa) (ltb-false max_counters (cells_in sh) pb) (ltb-false max_candidates (cands_in sh) pc))
