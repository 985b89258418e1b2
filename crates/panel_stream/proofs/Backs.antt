-- What a call left, put back into the slices, is in use there, and the slices are as long as before. Assumes nothing.
use mathlib.Core.Path.{◌≡◌, ◌∙◌}
use Prim.Native.Nat.{ℕ, ◌*◌, ◌≤◌}
use native.Mathlib.Omega.{arith}
use mathlib.Core.Bool.{Bool, true, ◌&&◌}
use mathlib.Core.List.{List, ◌++◌}
use lib.ListN.{length, drop, length-append, length-drop}
use lib.Seq.{take_at}
use lib.Dec.{eqb}
use borrow.Author.Tests.{eqb-true}
use Rattle.words.proofs.Bools.{and_left, and_right}
use Rattle.header.specs.declared.Shape.{Shape}
use Rattle.layout.specs.Slices.{Lent, cells_in, norms_in, cands_in, lengths_ok, lent_ok, extent_of}
use Rattle.layout.specs.declared.Extent.{Extent}
use Rattle.panel_step.specs.Panel.{in_use, put_back, panel_refusal, refusal_in}
use Rattle.panel_step.proofs.Rooms.{Fit, fit_of}

-- slices of just a shape's lengths
pub record Just (sh : Shape) (r : Lent) : Type 0 where
  pub cells : length r.counters ≡ cells_in sh
  pub norms : length r.norms ≡ 2 * norms_in sh
  pub words : length r.entries ≡ 4 * cands_in sh
  pub seats : length r.counts ≡ cands_in sh

pub just : (r : Lent) → lent_ok r ≡ true → Just r.head.shape r
unfolding lengths_ok
just r e =
    let a : Bool = eqb (length r.counters) (cells_in r.head.shape) in
    let b : Bool = eqb (length r.norms) (2 * norms_in r.head.shape) in
    let c : Bool = eqb (length r.entries) (4 * cands_in r.head.shape) in
    let d : Bool = eqb (length r.counts) (cands_in r.head.shape) in
    let abc : a && b && c ≡ true = and_left (a && b && c) d e in
    let ab : a && b ≡ true = and_left (a && b) c abc in
    record {
      cells = eqb-true (length r.counters) (cells_in r.head.shape) (and_left a b ab);
      norms = eqb-true (length r.norms) (2 * norms_in r.head.shape) (and_right a b ab);
      words = eqb-true (length r.entries) (4 * cands_in r.head.shape) (and_right (a && b) c abc);
      seats = eqb-true (length r.counts) (cands_in r.head.shape) (and_right (a && b && c) d e);
    }

pub back_in : (e : Extent) (r t : Lent) → lent_ok t ≡ true → in_use (put_back e r t) ≡ t
back_in e r t h =
    let j = just t h in
    rw (
      take_at t.counters (drop e.cells r.counters) (cells_in t.head.shape) j.cells,
      take_at t.norms (drop e.norms r.norms) (2 * norms_in t.head.shape) j.norms,
      take_at t.entries (drop e.words r.entries) (4 * cands_in t.head.shape) j.words,
      take_at t.counts (drop e.seats r.counts) (cands_in t.head.shape) j.seats,
    )

-- ---- lengths

front : {A : Type 0} (n : ℕ) (xs ys : List A) → length xs ≡ n → n ≤ length ys → length (xs ++ drop n ys) ≡ length ys
front n xs ys e h = length-append xs (drop n ys) ∙ omega (arith, e, length-drop n ys)

-- so every shape is accepted or refused as before
pub back-room : (sh : Shape) (r t : Lent) → refusal_in r sh ≡ 0 → Just sh t → (z : Shape) → refusal_in (put_back (extent_of sh) r t) z ≡ refusal_in r z
back-room sh r t e j z =
    let f : Fit sh (length r.counters) (length r.norms) (length r.entries) (length r.counts) = fit_of sh (length r.counters) (length r.norms) (length r.entries) (length r.counts) e in
    λ i. panel_refusal z (front (cells_in sh) t.counters r.counters j.cells f.cells i) (front (2 * norms_in sh) t.norms r.norms j.norms f.norms i)
    (front (4 * cands_in sh) t.entries r.entries j.words f.words i) (front (cands_in sh) t.counts r.counts j.seats f.seats i)
