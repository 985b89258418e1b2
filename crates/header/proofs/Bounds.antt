-- Totals in range, and sums of totals that no test refuses. Assumes nothing.
use mathlib.Core.Path.{◌≡◌, ap}
use mathlib.Core.Bool.{true, not}
use Prim.Native.Nat.{◌+◌, ◌≤◌}
use borrow.Author.Tests.{leb-true, le-leb, not-false}
use lib.Dec.{leb}
use Rattle.words.specs.Num.{top}
use Rattle.words.proofs.Bools.{and_left, and_right, both}
use Rattle.words.proofs.Tests.{Off}
use Rattle.header.specs.Totals.{add_totals, totals_ok, totals_tests}
use Rattle.header.specs.declared.Totals.{Totals}

pub record Within (t : Totals) : Type 0 where
  pub light : t.weight ≤ top
  pub few : t.updates ≤ top

pub within_of : (t : Totals) → totals_ok t ≡ true → Within t
within_of t e =
    record {
      light = leb-true t.weight top (and_left (leb t.weight top) (leb t.updates top) e);
      few = leb-true t.updates top (and_right (leb t.weight top) (leb t.updates top) e);
    }

pub within-ok : (t : Totals) → Within t → totals_ok t ≡ true
within-ok t w = both (le-leb t.weight top w.light) (le-leb t.updates top w.few)

-- the tests of a sum say whether it is in range
pub totals_within : (a b : Totals) → Off (totals_tests a b) → Within (add_totals a b)
totals_within a b o =
    record {
      light = leb-true (a.weight + b.weight) top (not-false (leb (a.weight + b.weight) top) o.0);
      few = leb-true (a.updates + b.updates) top (not-false (leb (a.updates + b.updates) top) o.1.0);
    }

pub totals_off : (a b : Totals) → Within (add_totals a b) → Off (totals_tests a b)
totals_off a b w = (ap not (le-leb (a.weight + b.weight) top w.light), (ap not (le-leb (a.updates + b.updates) top w.few), tt))
