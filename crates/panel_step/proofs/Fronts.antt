-- The requests, from what the calls on the front parts answer. Assumes nothing.
use Prim.Native.Nat.{ℕ, ◌*◌, ◌≤◌}
use native.Mathlib.Omega.{arith}
use mathlib.Core.Path.{◌≡◌, refl, ap, ◌∙◌}
use mathlib.Core.List.{List}
use borrow.Author.Tests.{eq-eqb, ne_eqb, not-false}
use lib.ListN.{length, take, take-append-drop}
use lib.Seq.{length-take-le}
use lib.IntN.{ℤ}
use Rattle.std.specs.Prelude.{Result, Ok, Err}
use Rattle.refusal.specs.declared.Refusal.{Refusal}
use Rattle.refusal.specs.Refusals.{refused, kept}
use Rattle.refusal.proofs.Numbers.{number-ne0}
use Rattle.header.specs.declared.Shape.{Shape}
use Rattle.header.specs.declared.Header.{Header}
use Rattle.header.specs.Shape.{max_layers, shape_refusal}
use Rattle.header.specs.Header.{header_ok}
use Rattle.header.proofs.Ranges.{ranged_of}
use Rattle.layout.specs.Slices.{Lent, lent, cells_in, norms_in, cands_in, lengths_ok, view, flat, fresh_lent, extent_of}
use Rattle.layout.specs.Outcomes.{Outcome, Left, left, left_by}
use Rattle.layout.specs.declared.Extent.{Extent}
use Rattle.layout.proofs.Judged.{judged}
use Rattle.layout.proofs.ListCalls.{list-long}
use Rattle.univmon.specs.declared.Kind.TheVariants as kind
use Rattle.univmon.specs.Updates.{update_tests, updated}
use Rattle.univmon.specs.Calls.{new_call, update_call, update_list_call}
use Rattle.panel_step.specs.Panel.{in_use, put_back, refusal_in, shape_call, back_by, add_call}
use Rattle.panel_step.proofs.Rooms.{Fit, fit_of}

-- the front parts of an extent
abbrev pub parts_in : Extent → Header → Lent → Lent
parts_in e h r = lent h (take e.cells r.counters) (take e.norms r.norms) (take e.words r.entries) (take e.seats r.counts)

-- put back as they were, they change nothing
pub back-same : (e : Extent) (r : Lent) → put_back e r (parts_in e r.head r) ≡ r
back-same e r = rw (take-append-drop e.cells r.counters, take-append-drop e.norms r.norms, take-append-drop e.words r.entries, take-append-drop e.seats r.counts)

-- ---- shape

pub not-started : (r : Lent) (sh : Shape) (n : ℕ) → n ≡ refusal_in r sh → (n ≡ 0 → ⊥) → left n r ≡ shape_call r sh
unfolding shape_call
not-started r sh n e k = rw (← e, ne_eqb n 0 k)

-- `new` in front parts of just the shape's lengths leaves a fresh state
fresh_in : (r : Lent) (sh : Shape) → Fit sh (length r.counters) (length r.norms) (length r.entries) (length r.counts)
    → new_call sh (take (cells_in sh) r.counters) (take (2 * norms_in sh) r.norms) (take (4 * cands_in sh) r.entries) (take (cands_in sh) r.counts) ≡ left 0 (fresh_lent sh)
unfolding new_call lengths_ok
fresh_in r sh f =
    rw (
      eq-eqb (shape_refusal sh) 0 f.own,
      eq-eqb _ _ (length-take-le (cells_in sh) r.counters f.cells),
      eq-eqb _ _ (length-take-le (2 * norms_in sh) r.norms f.norms),
      eq-eqb _ _ (length-take-le (4 * cands_in sh) r.entries f.words),
      eq-eqb _ _ (length-take-le (cands_in sh) r.counts f.seats),
    )

-- l is what `new` left of the parts: it is accepted
pub started_well : (r : Lent) (sh : Shape) (e : Extent) (l : Left) → refusal_in r sh ≡ 0 → e ≡ extent_of sh
    → l ≡ new_call sh (take e.cells r.counters) (take e.norms r.norms) (take e.words r.entries) (take e.seats r.counts)
    → l ≡ left 0 (fresh_lent sh)
started_well r sh e l z i h = h ∙ rw i (fresh_in r sh (fit_of sh (length r.counters) (length r.norms) (length r.entries) (length r.counts) z))

-- nothing was refused: which header a refusal would keep makes no difference
pub kept_any : {A : Type 0} (a b : A) (r : Result A Refusal) → refused r ≡ 0 → kept a r ≡ kept b r
kept_any a b (Ok c) h = refl
kept_any a b (Err e) h = absurd (number-ne0 e h)

pub has-started : (r : Lent) (sh : Shape) (e : Extent) (l : Left) → refusal_in r sh ≡ 0 → e ≡ extent_of sh
    → l ≡ new_call sh (take e.cells r.counters) (take e.norms r.norms) (take e.words r.entries) (take e.seats r.counts)
    → left l.refusal (put_back e r l.lends) ≡ shape_call r sh
unfolding shape_call
has-started r sh e l z i h =
    rw (started_well r sh e l z i h, i, eq-eqb (refusal_in r sh) 0 z)

-- ---- add

pub no_shape : (r : Lent) (words : List ℕ) (w : ℤ) → (refusal_in r r.head.shape ≡ 0 → ⊥) → left 13 r ≡ add_call r words w
unfolding add_call
no_shape r words w k = rw (ne_eqb (refusal_in r r.head.shape) 0 k)

-- the list of what an update did is the program's own: two words for each of the most layers that a header in range has
pub own-list : (r : Lent) (words : List ℕ) (w : ℤ) → update_list_call kind.Standard r words w (2 * max_layers) ≡ update_call kind.Standard r words w
unfolding update_list_call update_call update_tests
own-list r words w = list-long (2 * r.head.shape.layers) (2 * max_layers) (update_call kind.Standard r words w) long
  where
    long : (t : Lent) → update_call kind.Standard r words w ≡ Outcome.yes t → 2 * r.head.shape.layers ≤ 2 * max_layers
    long t e =
        let off = (judged (update_tests kind.Standard r words w) (flat (updated kind.Standard (view r) words w)) t e).1 in
        omega (arith, (ranged_of r.head (not-false (header_ok r.head) off.0)).accepted.few)

-- l is what the update left of the parts in use
pub has_added : (r : Lent) (words : List ℕ) (w : ℤ) (e : Extent) (l : Left) → refusal_in r r.head.shape ≡ 0 → e ≡ extent_of r.head.shape
    → l ≡ left_by (parts_in e r.head r) (update_call kind.Standard (parts_in e r.head r) words w)
    → left l.refusal (put_back e r l.lends) ≡ add_call r words w
unfolding add_call
has_added r words w e l z i h = rw (h, i, eq-eqb (refusal_in r r.head.shape) 0 z) (go (update_call kind.Standard (in_use r) words w))
  where
    go : (o : Outcome) → left (left_by (in_use r) o).refusal (put_back (extent_of r.head.shape) r (left_by (in_use r) o).lends) ≡ left_by r (back_by r o)
    go (Outcome.no n) = ap (left n) (back-same (extent_of r.head.shape) r)
    go (Outcome.yes t) = refl
