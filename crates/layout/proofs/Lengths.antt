-- The lengths of the slices, and what a passed test of them says. Assumes nothing.
use mathlib.Core.Path.{◌≡◌, refl, ◌∙◌}
use mathlib.Core.Bool.{true, ◌&&◌}
use Prim.Native.Nat.{ℕ, ◌*◌}
use borrow.Author.Tests.{eqb-true, not-false}
use lib.Dec.{eqb}
use lib.ListN.{replicate}
use lib.IntN.{pos}
use Rattle.words.specs.Tests.{number}
use Rattle.words.proofs.Tests.{off_number}
use Rattle.words.proofs.Bools.{and_left, and_right}
use Rattle.countsketch_l2_norm.proofs.Norms.{length-norms}
use Rattle.heap_moves.proofs.Views.{length-cands}
use Rattle.header.specs.declared.Shape.{Shape}
use Rattle.header.specs.Header.{fresh_header, header_ok}
use Rattle.header.proofs.Ranges.{ranged_of, len-few}
use Rattle.layout.specs.Slices.{Lent, cells_in, norms_in, cands_in, lengths_ok, lent, lent_ok, view, fresh_lent}
use Rattle.layout.specs.Outcomes.{left, lent_tests}
use Rattle.layout.specs.inner.Needs.{Sizes, Standing}
use Rattle.layout.proofs.States.{Long}

pub sizes_of : (sh : Shape) (a b c d : ℕ) → lengths_ok sh a b c d ≡ true → Sizes sh a b c d
unfolding lengths_ok
sizes_of sh a b c d e =
    let p = eqb a (cells_in sh) in
    let q = eqb b (2 * norms_in sh) in
    let r = eqb c (4 * cands_in sh) in
    let s = eqb d (cands_in sh) in
    let pqr = and_left (p && q && r) s e in
    let pq = and_left (p && q) r pqr in
    record {
      cells = eqb-true a (cells_in sh) (and_left p q pq);
      norms = eqb-true b (2 * norms_in sh) (and_right p q pq);
      entries = eqb-true c (4 * cands_in sh) (and_right (p && q) r pqr);
      counts = eqb-true d (cands_in sh) (and_right (p && q && r) s e);
    }

-- slices of the right lengths, zeroed, are a fresh state's
pub zeroed : (sh : Shape) (a b c d : ℕ) → Sizes sh a b c d → left 0 (lent (fresh_header sh) (replicate a (pos 0)) (replicate b 0) (replicate c 0) (replicate d (pos 0))) ≡ left 0 (fresh_lent sh)
unfolding fresh_lent
zeroed sh a b c d s = rw (s.cells, s.norms, s.entries, s.counts)

-- a header in range and slices of its lengths fit together
pub standing_of : (r : Lent) → header_ok r.head ≡ true → lent_ok r ≡ true → Standing r
standing_of r h z =
    record {
      accepted = (ranged_of r.head h).accepted;
      sizes = sizes_of r.head.shape _ _ _ _ z;
      lens = λ m k. len-few r.head (ranged_of r.head h) m k;
    }

-- a lent state's lists are as long as its shape's
pub long-view : (r : Lent) → Standing r → Long (view r)
unfolding view
long-view r z = record { counters = z.sizes.cells; norms = length-norms r.norms _; cands = length-cands r.entries r.counts ∙ z.sizes.counts }

-- where header and lengths are not refused, they fit together
pub stands_of : (r : Lent) → number (lent_tests r) ≡ 0 → Standing r
stands_of r z =
    let p = off_number (lent_tests r) refl z in
    standing_of r (not-false _ p.0) (not-false _ p.1.0)
