-- The search for the bottom layer. Assumes nothing.
use mathlib.Core.Path.{◌≡◌, refl, sym, ap, ◌∙◌}
use mathlib.Core.Bool.{Bool, true, false, cond}
use Prim.Native.Nat.{ℕ, zero, suc, ◌+◌, ◌-◌, ◌/◌, ◌%◌, ◌^◌, ◌≤◌, ◌<◌, min}
use native.Mathlib.Omega.{arith}
use native.Mathlib.Numerals.{add-one}
use native.Mathlib.Nat.{pow-suc, zero-add}
use lib.Pow.{shr-shr}
use lib.Count.{count_trailing_zeros, under}
use borrow.Author.Tests.{ne_eqb}
use lib.Dec.{eqb}
use Rattle.words.specs.Num.{word_size}
use Rattle.header.specs.Shape.{max_layers, bottom_from, bottom_of}

-- ones from the lowest digit on, at most k
unfoldable run : ℕ → ℕ → ℕ
run zero g = 0
run (suc k) g = cond (eqb (g % 2) 0) 0 (suc (run k (g / 2)))

from_run : (h k l : ℕ) → bottom_from h k (suc l) ≡ l + run k (h / 2 ^ suc l)
unfolding bottom_from run
from_run h zero l = omega arith
from_run h (suc k) l = go (eqb (h / 2 ^ suc l % 2) 0) (from_run h k (suc l) ∙ ap (λ (n : ℕ). suc l + run k n) next)
  where
    next : h / 2 ^ suc (suc l) ≡ h / 2 ^ suc l / 2
    next = ap (λ (n : ℕ). h / 2 ^ n) (sym (add-one (suc l))) ∙ sym (shr-shr h (suc l) 1)

    go : (b : Bool) → bottom_from h k (suc (suc l)) ≡ suc l + run k (h / 2 ^ suc l / 2) → cond b (suc l - 1) (bottom_from h k (suc (suc l))) ≡ l + cond b 0 (suc (run k (h / 2 ^ suc l / 2)))
    go true ih = omega arith
    go false ih = omega arith

-- a run of ones is as long as the complement has trailing zeros, at most k
run-min : (w k g : ℕ) → k ≤ w → g < 2 ^ w → run k g ≡ min (count_trailing_zeros w (2 ^ w - 1 - g)) k
unfolding run count_trailing_zeros
run-min w zero g h b = omega arith
run-min zero (suc k) g h b = absurd (omega arith)
run-min (suc w) (suc k) g h b =
    go (g % 2) ((2 ^ suc w - 1 - g) % 2) refl refl (run-min w k (g / 2) (omega arith) (omega (arith, pow-suc 2 w)) ∙ ap (λ (n : ℕ). min (count_trailing_zeros w n) k) half)
  where
    half : 2 ^ w - 1 - g / 2 ≡ (2 ^ suc w - 1 - g) / 2
    half = omega (arith, pow-suc 2 w, b)

    go : (d e : ℕ) → g % 2 ≡ d → (2 ^ suc w - 1 - g) % 2 ≡ e → run k (g / 2) ≡ min (count_trailing_zeros w ((2 ^ suc w - 1 - g) / 2)) k
        → cond (eqb d 0) 0 (suc (run k (g / 2))) ≡ min (under e (count_trailing_zeros w ((2 ^ suc w - 1 - g) / 2))) (suc k)
    go zero zero p q ih = absurd (omega (arith, pow-suc 2 w, b))
    go zero (suc e) p q ih = omega arith
    go (suc d) zero p q ih = let t : suc (run k (g / 2)) ≡ min (suc (count_trailing_zeros w ((2 ^ suc w - 1 - g) / 2))) (suc k) = omega arith in rw (ne_eqb (suc d) 0 (omega arith)) t
    go (suc d) (suc e) p q ih = absurd (omega (arith, pow-suc 2 w, b))

pub bottom-min : (h layers : ℕ) → layers ≤ max_layers → h < 2 ^ 64 → bottom_of h layers ≡ min (count_trailing_zeros 64 (word_size - 1 - h / 2 ^ 1)) (layers - 1)
unfolding bottom_of
bottom-min h layers l b = from_run h (layers - 1) 0 ∙ zero-add (run (layers - 1) (h / 2 ^ 1)) ∙ run-min 64 (layers - 1) (h / 2 ^ 1) (omega arith) (omega arith)

-- a key reaches a layer of the shape
from_lt : (h k l n : ℕ) → 1 ≤ l → l + k ≤ n → 1 ≤ n → bottom_from h k l < n
unfolding bottom_from
from_lt h zero l n p q r = omega arith
from_lt h (suc k) l n p q r = go (eqb (h / 2 ^ l % 2) 0) (from_lt h k (suc l) n (omega arith) (omega arith) r)
  where
    go : (b : Bool) → bottom_from h k (suc l) < n → cond b (l - 1) (bottom_from h k (suc l)) < n
    go true ih = omega arith
    go false ih = ih

pub bottom-lt : (h layers : ℕ) → 1 ≤ layers → bottom_of h layers < layers
unfolding bottom_of
bottom-lt h layers p = from_lt h (layers - 1) 1 layers (omega arith) (omega arith) p
