-- `state_lines::rows::row_head` meets its contract.
use Rattle.std.proofs.Common.{◌≡◌, ◌∙◌, sym, ap, drop, arith}
use Rattle.state_forms.specs.Formats.{got, bad, then_read, num_r}
use Rattle.state_forms.proofs.Rows.{space-stops}
use Rattle.state_lines.specs.inner.Places.{value_spot, row_head_r}
use Rattle.state_lines.proofs.Spots.{number-spot, space-before}
use Rattle.state_lines.proofs.rows.row_head.Goals as goal

pub returns-in_err-r : goal.returns-in_err-r
unfolding then_read row_head_r
returns-in_err-r c =
    let s = c.args.s.now in
    let n : num_r 32 (drop c.in_ok-p-2.p s) ≡ bad = sym (number-spot 32 space-stops s c.in_ok-p-2.p) ∙ ap (value_spot s) (sym c.in_err-r.ensures) in
    rw (c.from_residual-in_err-r.ensures, sym c.in_ok-p.ensures, sym c.in_ok-p-2.ensures, n)

pub overflow_sub-result : goal.overflow_sub-result
overflow_sub-result c = omega (arith, (space-before c.args.s.now c.in_ok-p-2.p c.in_ok-r.r c.in_ok-r.end (sym c.in_ok-r.ensures)).0)

pub returns : goal.returns
unfolding then_read row_head_r
returns c =
    let s = c.args.s.now in
    let n : num_r 32 (drop c.in_ok-p-2.p s) ≡ got c.in_ok-r.r (drop c.in_ok-r.end s) = sym (number-spot 32 space-stops s c.in_ok-p-2.p) ∙ ap (value_spot s) (sym c.in_ok-r.ensures) in
    rw ((space-before s c.in_ok-p-2.p c.in_ok-r.r c.in_ok-r.end (sym c.in_ok-r.ensures)).1, sym c.in_ok-p.ensures, sym c.in_ok-p-2.ensures, n)
