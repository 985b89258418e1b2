-- `state_forms::lay::lay_signed` meets its contract.
use Prim.Native.Nat.{◌≤◌}
use mathlib.Core.Path.{◌≡◌, sym, ap, ◌∙◌}
use lib.ListN.{length, take, replicate}
use lib.Seq.{length-sets, length-take-le}
use native.Mathlib.Omega.{arith}
use mir.Syntax.{w64}
use mir.Val.{to_z, of_z}
use mir.Facts.{to_z-of_z}
use Rattle.text.specs.Signs.{signed_dec}
use Rattle.text.proofs.IntTexts.{signed-length}
use Rattle.state_forms.proofs.Layings.{laid_is, put-part}
use Rattle.state_forms.proofs.lay.lay_signed.Goals as goal
use Rattle.state_forms.proofs.lay.lay_signed.Goals.{After-put_signed-k}

-- the digits at the start of the array
digits_are : (c : After-put_signed-k) → take c.put_signed-k.result c.put_signed-k.new.out ≡ signed_dec c.args.x
digits_are c =
    let e = to_z-of_z c.ranges.x in
    put-part (replicate 21 0) (signed_dec c.args.x) c.put_signed-k.new.out c.put_signed-k.result (signed-length c.args.x) (rw e at c.put_signed-k.ensures.out_after) (rw e at c.put_signed-k.ensures.value)

pub put_signed-k-requires : goal.put_signed-k-requires
put_signed-k-requires c = omega (arith, signed-length (to_z w64 (of_z w64 c.args.x)))

room : (c : After-put_signed-k) → c.put_signed-k.result ≤ length c.put_signed-k.new.out
room c =
    let n : length c.put_signed-k.new.out ≡ 21 = ap length c.put_signed-k.ensures.out_after ∙ simp length-sets in
    omega (arith, n, c.put_signed-k.ensures.value, signed-length (to_z w64 (of_z w64 c.args.x)))

pub slice_bounds-digits-end : goal.slice_bounds-digits-end
slice_bounds-digits-end c = room (goal.at.slice_bounds-digits-end c).After-put_signed-k

pub slice_bounds-lay_word-end : goal.slice_bounds-lay_word-end
slice_bounds-lay_word-end c = sym (length-take-le _ _ (room (goal.at.slice_bounds-lay_word-end c).After-put_signed-k))

pub lay_word-requires : goal.lay_word-requires
lay_word-requires c = rw (digits_are (goal.at.lay_word-requires c).After-put_signed-k) c.requires

pub returns : goal.returns
returns c = laid_is (digits_are (goal.at.returns c).After-put_signed-k) c.lay_word.ensures
