-- `text::decimals::digits_of` meets its contract.
use native.Mathlib.Omega.{arith}
use Rattle.text.proofs.DecTexts.{dec-length, dec-one, dec-two, dec_three, dec_four, dec_fours}
use Rattle.text.proofs.decimals.digits_of.Goals as goal

pub loop-v-init : goal.loop-v-init
loop-v-init c = (omega arith, omega arith)

pub overflow_add-k : goal.overflow_add-k
overflow_add-k c = omega (arith, c.loop-v.invariant.1, dec-length c.args.n)

pub loop-v-smaller : goal.loop-v-smaller
loop-v-smaller c = omega arith

pub loop-v-preserved : goal.loop-v-preserved
loop-v-preserved c = (omega (arith, c.loop-v.invariant.0), omega (arith, c.loop-v.invariant.1, dec_fours c.loop-v.v c.loop-v-test.true (omega (arith, c.loop-v.invariant.0, c.ranges.n.fits))))

pub overflow_add-result : goal.overflow_add-result
overflow_add-result c = record { fits = omega (arith, c.loop-v.invariant.1, dec-length c.args.n) }

pub returns-then-v-lt10 : goal.returns-then-v-lt10
returns-then-v-lt10 c = omega (arith, c.loop-v.invariant.1, dec-one c.loop-v.v c.if-v-lt10.true)

pub overflow_add-result-then-v-lt100 : goal.overflow_add-result-then-v-lt100
overflow_add-result-then-v-lt100 c = record { fits = omega (arith, c.loop-v.invariant.1, dec-length c.args.n) }

pub returns-then-v-lt100 : goal.returns-then-v-lt100
returns-then-v-lt100 c = omega (arith, c.loop-v.invariant.1, dec-two c.loop-v.v c.if-v-lt10.false c.if-v-lt100.true)

pub overflow_add-result-then-v-lt1000 : goal.overflow_add-result-then-v-lt1000
overflow_add-result-then-v-lt1000 c = record { fits = omega (arith, c.loop-v.invariant.1, dec-length c.args.n) }

pub returns-then-v-lt1000 : goal.returns-then-v-lt1000
returns-then-v-lt1000 c = omega (arith, c.loop-v.invariant.1, dec_three c.loop-v.v c.if-v-lt100.false c.if-v-lt1000.true)

pub overflow_add-result-2 : goal.overflow_add-result-2
overflow_add-result-2 c = record { fits = omega (arith, c.loop-v.invariant.1, dec-length c.args.n) }

pub returns : goal.returns
returns c = omega (arith, c.loop-v.invariant.1, dec_four c.loop-v.v c.if-v-lt1000.false c.loop-v-test.false)
