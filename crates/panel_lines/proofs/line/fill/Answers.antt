-- `panel_lines::line::fill` meets its contract.
use Prim.Native.Nat.{ℕ, suc, ◌+◌, ◌-◌, ◌*◌, ◌<◌}
use mathlib.Core.Path.{◌≡◌, sym, ◌∙◌}
use mathlib.Core.List.{List}
use lib.ListN.{set}
use lib.Seq.{sets}
use native.Mathlib.Omega.{arith}
use Rattle.text.specs.Hex.{hex_at}
use Rattle.panel_lines.specs.Line.{halves}
use native.Mathlib.Nat.{sub-zero}
use Rattle.panel_lines.proofs.line.fill.Goals as goal

fill_step : (s ws : List ℕ) (a k n : ℕ) → k < n → sets ws (2 * k + 2) (halves s (a + 36 * k) (n - k)) ≡ sets (set (set ws (2 * k + 2) (hex_at s (a + 36 * k + 2))) (2 * k + 3) (hex_at s (a + 36 * k + 19))) (2 * (k + 1) + 2) (halves s (a + 36 * (k + 1)) (n - (k + 1)))
unfolding halves
fill_step s ws a k n h =
    let e : n - k ≡ suc (n - (k + 1)) = omega arith in
    let f : a + 36 * (k + 1) ≡ a + 36 * k + 36 = omega arith in
    let g : 2 * (k + 1) + 2 ≡ suc (suc (2 * k + 2)) = omega arith in
    let j : 2 * k + 3 ≡ suc (2 * k + 2) = omega arith in
    rw (e, f, g, j)

pub loop-k-init : goal.loop-k-init
loop-k-init c = let z : c.args.at + 0 ≡ c.args.at = omega arith in rw (z, sub-zero)

pub loop-k-preserved : goal.loop-k-preserved
loop-k-preserved c =
    let e = fill_step c.args.s.now c.loop-k.words c.args.at c.loop-k.k c.args.n c.loop-k-test.true in
    rw (c.hex_value-in-loop-k.ensures, c.hex_value.ensures) (sym e ∙ c.loop-k.invariant)

pub returns : goal.returns
unfolding halves
returns c = let z : c.args.n - c.loop-k.k ≡ 0 = omega arith in rw z at c.loop-k.invariant
