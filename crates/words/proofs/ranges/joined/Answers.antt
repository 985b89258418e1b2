-- `words::ranges::joined` meets its contract.
use Rattle.std.proofs.Common.{rules, ap, ◌∙◌, drop_of_length-le, get_or, take, pos, SFits, to_z-of_z, w64}
use Rattle.words.specs.Num.{all_in}
use Rattle.words.proofs.Squares.{all-step}
use Rattle.words.proofs.Raises.{join_on}
use Rattle.words.proofs.ranges.joined.Goals as goal

pub loop-x-preserved : goal.loop-x-preserved
loop-x-preserved c =
    let l = c.loop-x in
    let xs = take c.args.n c.args.xs.now in
    let x = get_or xs l.x-index (pos 0) in
    let f : SFits w64 x = search rules in
    join_on l.all _ _ _ _ x f.sfits (rw (to_z-of_z f) at c.raised-one.ensures) (all-step xs l.x-index c.loop-x-test.true) l.invariant

pub returns : goal.returns
unfolding all_in
returns c = λ b. c.loop-x.invariant b ∙ ap all_in (drop_of_length-le (take c.args.n c.args.xs.now) {i = c.loop-x.x-index} c.loop-x-test.false)
