-- `panel_lines::line::all_pairs` meets its contract.
use Prim.Native.Nat.{ℕ, suc, ◌+◌, ◌-◌, ◌*◌, ◌<◌}
use mathlib.Core.Path.{◌≡◌, sym, ◌∙◌}
use mathlib.Core.Bool.{◌&&◌}
use mathlib.Core.List.{List}
use native.Mathlib.Omega.{arith}
use Rattle.panel_lines.specs.Line.{pair_ok_at, all_pairs}
use native.Mathlib.Nat.{sub-zero}
use Rattle.panel_lines.proofs.line.all_pairs.Goals as goal

pairs-step : (s : List ℕ) (a k n : ℕ) → k < n → all_pairs s (a + 36 * k) (n - k) ≡ pair_ok_at s (a + 36 * k) && all_pairs s (a + 36 * (k + 1)) (n - (k + 1))
unfolding all_pairs
pairs-step s a k n h =
    let e : n - k ≡ suc (n - (k + 1)) = omega arith in
    let f : a + 36 * (k + 1) ≡ a + 36 * k + 36 = omega arith in
    rw (e, f)

pub loop-k-init : goal.loop-k-init
loop-k-init c = let z : c.args.at + 0 ≡ c.args.at = omega arith in rw (z, sub-zero)

pub returns-then-not-pair_ok : goal.returns-then-not-pair_ok
returns-then-not-pair_ok c = sym (pairs-step c.args.s.now c.args.at c.loop-k.k c.args.n c.loop-k-test.true ∙ rw (sym c.pair_ok.ensures ∙ c.if-not-pair_ok.true)) ∙ c.loop-k.invariant

pub loop-k-preserved : goal.loop-k-preserved
loop-k-preserved c = sym (pairs-step c.args.s.now c.args.at c.loop-k.k c.args.n c.loop-k-test.true ∙ rw (sym c.pair_ok.ensures ∙ c.if-not-pair_ok.false)) ∙ c.loop-k.invariant

pub returns : goal.returns
unfolding all_pairs
returns c = let z : c.args.n - c.loop-k.k ≡ 0 = omega arith in rw z at c.loop-k.invariant
