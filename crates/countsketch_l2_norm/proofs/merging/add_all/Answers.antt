-- `countsketch_l2_norm::merging::add_all` meets its contract.
use Prim.Native.Nat.{◌<◌}
use mathlib.Core.Path.{◌≡◌, ◌∙◌}
use lib.ListN.{length, get_or}
use lib.IntN.{pos, ◌+ℤ◌}
use native.Mathlib.Omega.{arith}
use borrow.Author.Rules.{rules, sfits_of}
use mir.Syntax.{w64}
use mir.Facts.{to_z-of_z}
use Rattle.countsketch_l2_norm.proofs.Merges.{add_start, add_in, add_on, add_end}
use Rattle.words.proofs.Squares.{all-at, range_bound}
use Rattle.countsketch_l2_norm.proofs.merging.add_all.Goals as goal

pub loop-i-init : goal.loop-i-init
loop-i-init c = add_start c.args.xs.now c.args.ys.now c.requires.xs_value.0

pub offset_bounds-ys-i : goal.offset_bounds-ys-i
offset_bounds-ys-i c = let h : c.loop-i.i < length c.args.ys.now = omega (arith, c.requires.xs_len, c.loop-i.invariant.same) in search rules

pub bounds-ys-i : goal.bounds-ys-i
bounds-ys-i c = omega (arith, c.requires.xs_len, c.loop-i.invariant.same)

pub sum_of-requires : goal.sum_of-requires
sum_of-requires c =
    let a = c.args in
    let k = c.loop-i.i in
    rw (to_z-of_z {w = w64} (sfits_of c.sum_of-arg-1.given), to_z-of_z {w = w64} (sfits_of c.sum_of-arg-in-loop-i-1.given)) (add_in a.xs.now a.ys.now c.loop-i.xs k c.loop-i.invariant (omega (arith, c.loop-i-test.true, c.loop-i.invariant.same)), range_bound (get_or a.ys.now k (pos 0)) (all-at a.ys.now c.requires.xs_value.1 k))

pub loop-i-preserved : goal.loop-i-preserved
loop-i-preserved c =
    let a = c.args in
    let x = get_or c.loop-i.xs c.loop-i.i (pos 0) in
    let y = get_or a.ys.now c.loop-i.i (pos 0) in
    let e : c.sum_of.result ≡ x +ℤ y = rw (to_z-of_z {w = w64} {z = x} (sfits_of c.sum_of-arg-1.given), to_z-of_z {w = w64} {z = y} (sfits_of c.sum_of-arg-in-loop-i-1.given)) at c.sum_of.ensures in
    add_on a.xs.now a.ys.now c.loop-i.xs c.loop-i.i _ c.loop-i.invariant (omega (arith, c.loop-i-test.true, c.loop-i.invariant.same)) (omega (arith, c.requires.xs_len, c.loop-i.invariant.same)) (to_z-of_z {w = w64} (sfits_of c.sum_of.type_inv) ∙ e)

pub shape_of-xs : goal.shape_of-xs
shape_of-xs c = c.loop-i.invariant.same

pub returns : goal.returns
returns c = add_end c.args.xs.now c.args.ys.now c.loop-i.xs c.loop-i.i c.loop-i.invariant (omega (arith, c.loop-i-test.false, c.loop-i.invariant.same))
