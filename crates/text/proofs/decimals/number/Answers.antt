-- `text::decimals::number` meets its contract.
use Rattle.std.proofs.Common.{◌≡◌, ◌*◌, ◌+◌, ◌-◌, ◌∙◌, sym, true, length, get_or, arith}
use Rattle.text.specs.Decimals.{is_digit}
use Rattle.text.proofs.Walks.{ascii-digit, num_stop, num_over, num_more, num_end}
use Rattle.text.proofs.decimals.number.Goals as goal
use Rattle.text.proofs.decimals.number.Goals.{Else-not-is_ascii_digit}

digit : (c : Else-not-is_ascii_digit) → is_digit (get_or c.args.s.now c.loop-i.i 0) ≡ true
digit c = sym (ascii-digit _) ∙ sym c.is_ascii_digit.ensures.value ∙ c.if-not-is_ascii_digit.false

pub returns-then-not-is_ascii_digit : goal.returns-then-not-is_ascii_digit
returns-then-not-is_ascii_digit c = sym (num_stop c.args.s.now c.loop-i.v c.loop-i.i c.loop-i-test.true (sym (ascii-digit _) ∙ sym c.is_ascii_digit.ensures.value ∙ c.if-not-is_ascii_digit.true)) ∙ c.loop-i.invariant

pub returns-in_err-checked_mul : goal.returns-in_err-checked_mul
returns-in_err-checked_mul c =
    let big = c.in_err-checked_mul.ensures in
    c.from_residual.ensures ∙ sym (num_over c.args.s.now c.loop-i.v c.loop-i.i c.loop-i-test.true (digit (goal.at.returns-in_err-checked_mul c).Else-not-is_ascii_digit) (omega (arith, big))) ∙ c.loop-i.invariant

pub returns-in_err-v : goal.returns-in_err-v
returns-in_err-v c =
    let big = c.in_err-v.ensures in
    let tens = c.in_ok-checked_mul.ensures in
    c.from_residual-in_err-v.ensures ∙ sym (num_over c.args.s.now c.loop-i.v c.loop-i.i c.loop-i-test.true (digit (goal.at.returns-in_err-v c).Else-not-is_ascii_digit) (omega (arith, big, tens, c.from.ensures))) ∙ c.loop-i.invariant

pub loop-i-preserved : goal.loop-i-preserved
loop-i-preserved c =
    let sum = c.in_ok-v.ensures in
    let tens = c.in_ok-checked_mul.ensures in
    let v : c.in_ok-v.v ≡ c.loop-i.v * 10 + (get_or c.args.s.now c.loop-i.i 0 - 48) = omega (arith, sum, tens, c.from.ensures) in
    rw v (sym (num_more c.args.s.now c.loop-i.v c.loop-i.i c.loop-i-test.true (digit (goal.at.loop-i-preserved c).Else-not-is_ascii_digit) (omega (arith, sum, tens, c.from.ensures))) ∙ c.loop-i.invariant)

pub returns : goal.returns
returns c =
    let e : c.loop-i.i ≡ length c.args.s.now = omega arith in
    let r = sym (num_end c.args.s.now c.loop-i.v c.loop-i.i c.loop-i-test.false) ∙ c.loop-i.invariant in
    rw e at r
