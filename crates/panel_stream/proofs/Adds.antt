-- Books of standard updates. Assumes nothing.
use mathlib.Core.Path.{◌≡◌, refl, ap, ◌∙◌}
use Prim.Native.Nat.{ℕ, ◌+◌}
use native.Mathlib.Omega.{arith}
use mathlib.Core.Bool.{Bool, true, false, cond, not}
use mathlib.Core.List.{List}
use lib.ListN.{length}
use lib.IntN.{ℤ, nat_abs}
use lib.Signed.{non_neg}
use lib.Dec.{eqb, leb}
use Rattle.words.specs.Num.{top}
use Rattle.words.specs.Lists.{All}
use Rattle.header.specs.declared.Shape.{Shape}
use Rattle.header.specs.declared.Mode.{Mode}
use Rattle.header.specs.declared.Mode.TheVariants as mode
use Rattle.header.specs.Header.{clash}
use Rattle.layout.specs.Records.{record_length}
use Rattle.univmon.specs.declared.Kind.TheVariants as kind
use Rattle.shared_streams.specs.Books.{Book, weight_of, book_mode}
use Rattle.shared_streams.specs.Ledger.{feed_number}
use Rattle.shared_streams.proofs.BookLaws.{OfMode, no_clash}

abbrev pub Standards : Book → Type 0
Standards b = All (OfMode mode.Standard) b

-- their mode is not terminal
pub clear-mode : (b : Book) (m : Mode) → Standards b → m ≡ book_mode b → clash m mode.Standard ≡ false
clear-mode b m a e = ap (λ (z : Mode). clash z mode.Standard) e ∙ no_clash b mode.Standard kind.Standard a refl

-- one more is not refused for its mode
pub not_six : (sh : Shape) (b : Book) (words : List ℕ) (w : ℤ) → Standards b → feed_number sh b kind.Standard words w ≡ 6 → ⊥
unfolding feed_number
not_six sh b words w a e =
    go (eqb (length words) (record_length sh.layers)) (non_neg w) (leb (weight_of b + nat_abs w) top) (leb (length b + 1) top) (rw (clear-mode b (book_mode b) a refl) at e)
  where
    go : (x y z u : Bool) → ◌≡◌ {A = ℕ} (cond (not x) 12 (cond (not y) 5 (cond false 6 (cond (not z) 7 (cond (not u) 14 0))))) 6 → ⊥
    go false y z u q = omega arith
    go true false z u q = omega arith
    go true true false u q = omega arith
    go true true true false q = omega arith
    go true true true true q = omega arith
