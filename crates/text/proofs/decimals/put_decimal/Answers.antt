-- `text::decimals::put_decimal` meets its contract.
use Prim.Native.Nat.{◌+◌, ◌-◌, ◌/◌, ◌^◌, ◌≤◌, ◌<◌}
use mathlib.Core.Path.{◌≡◌, refl, ◌∙◌}
use lib.ListN.{length, length-set}
use native.Mathlib.Omega.{arith}
use Rattle.text.specs.Decimals.{dec}
use Rattle.text.proofs.DecTexts.{dec_grows, dec-put, dec_done, dec_any}
use Rattle.text.proofs.decimals.put_decimal.Goals as goal
use Rattle.text.proofs.decimals.put_decimal.Goals.{At-loop-v, Start}

some : (c : Start) → 1 ≤ length (dec c.args.n)
some c = dec_any c.args.n (omega (arith, c.ranges.n.fits))

word : (c : At-loop-v) → c.loop-v.v < 10 ^ 20
word c = omega (arith, c.loop-v.invariant.1.1.0, c.ranges.n.fits)

pub overflow_add-end : goal.overflow_add-end
overflow_add-end c = omega (arith, c.digits_of.ensures, c.requires)

pub overflow_sub-i : goal.overflow_sub-i
overflow_sub-i c = omega (arith, c.digits_of.ensures, some (goal.at.overflow_sub-i c).Start)

pub loop-v-init : goal.loop-v-init
loop-v-init c = (refl, (omega (arith, c.digits_of.ensures, some (goal.at.loop-v-init c).Start, c.requires), (omega arith, (omega (arith, c.digits_of.ensures, some (goal.at.loop-v-init c).Start), refl))))

pub bounds-out-i : goal.bounds-out-i
bounds-out-i c = omega (arith, c.loop-v.invariant.0, c.loop-v.invariant.1.0)

pub overflow_sub-i-in-loop-v : goal.overflow_sub-i-in-loop-v
overflow_sub-i-in-loop-v c = omega (arith, c.loop-v.invariant.1.1.1.0, dec_grows c.loop-v.v c.loop-v-test.true (word (goal.at.overflow_sub-i-in-loop-v c).At-loop-v), dec_any (c.loop-v.v / 10) (omega (arith, word (goal.at.overflow_sub-i-in-loop-v c).At-loop-v)))

pub loop-v-smaller : goal.loop-v-smaller
loop-v-smaller c = omega arith

pub loop-v-preserved : goal.loop-v-preserved
loop-v-preserved c =
    let v = c.loop-v.v in
    let more = c.loop-v-test.true in
    let place = c.loop-v.invariant.1.1.1.0 in
    let less : c.loop-v.i - 1 + 1 ≡ c.args.at + length (dec (v / 10)) = omega (arith, place, dec_grows v more (word (goal.at.loop-v-preserved c).At-loop-v), dec_any (v / 10) (omega (arith, word (goal.at.loop-v-preserved c).At-loop-v))) in
    let put = dec-put c.loop-v.out c.args.at c.loop-v.i _ v more (word (goal.at.loop-v-preserved c).At-loop-v) place refl in
    (simp length-set c.loop-v.invariant.0, (omega (arith, c.loop-v.invariant.1.0), (omega (arith, c.loop-v.invariant.1.1.0), (less, put ∙ c.loop-v.invariant.1.1.1.1))))

pub bounds-out-i-2 : goal.bounds-out-i-2
bounds-out-i-2 c = omega (arith, c.loop-v.invariant.0, c.loop-v.invariant.1.0)

pub shape_of-out : goal.shape_of-out
shape_of-out c = simp length-set c.loop-v.invariant.0

pub returns : goal.returns
returns c = record { value = omega (arith, c.digits_of.ensures); out_after = dec_done c.loop-v.out c.args.at c.loop-v.i _ c.loop-v.v (omega (arith, c.loop-v-test.false)) c.loop-v.invariant.1.1.1.0 refl ∙ c.loop-v.invariant.1.1.1.1 }
