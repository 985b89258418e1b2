-- `state_forms::lay::lay_decimal` meets its contract.
use Prim.Native.Nat.{◌≤◌}
use mathlib.Core.Path.{◌≡◌, sym, ap, ◌∙◌}
use lib.ListN.{length, take, replicate}
use lib.Seq.{length-sets, length-take-le}
use native.Mathlib.Omega.{arith}
use Rattle.text.specs.Decimals.{dec}
use Rattle.text.proofs.DecTexts.{dec-length}
use Rattle.state_forms.proofs.Layings.{laid_is, put-part}
use Rattle.state_forms.proofs.lay.lay_decimal.Goals as goal
use Rattle.state_forms.proofs.lay.lay_decimal.Goals.{After-put_decimal-k}

-- the digits at the start of the array
digits_are : (c : After-put_decimal-k) → take c.put_decimal-k.result c.put_decimal-k.new.out ≡ dec c.args.n
digits_are c = put-part (replicate 20 0) (dec c.args.n) c.put_decimal-k.new.out c.put_decimal-k.result (dec-length c.args.n) c.put_decimal-k.ensures.out_after c.put_decimal-k.ensures.value

pub put_decimal-k-requires : goal.put_decimal-k-requires
put_decimal-k-requires c = omega (arith, dec-length c.args.n)

room : (c : After-put_decimal-k) → c.put_decimal-k.result ≤ length c.put_decimal-k.new.out
room c =
    let n : length c.put_decimal-k.new.out ≡ 20 = ap length c.put_decimal-k.ensures.out_after ∙ simp length-sets in
    omega (arith, n, c.put_decimal-k.ensures.value, dec-length c.args.n)

pub slice_bounds-digits-end : goal.slice_bounds-digits-end
slice_bounds-digits-end c = room (goal.at.slice_bounds-digits-end c).After-put_decimal-k

pub slice_bounds-lay_word-end : goal.slice_bounds-lay_word-end
slice_bounds-lay_word-end c = sym (length-take-le _ _ (room (goal.at.slice_bounds-lay_word-end c).After-put_decimal-k))

pub lay_word-requires : goal.lay_word-requires
lay_word-requires c = rw (digits_are (goal.at.lay_word-requires c).After-put_decimal-k) c.requires

pub returns : goal.returns
returns c = laid_is (digits_are (goal.at.returns c).After-put_decimal-k) c.lay_word.ensures
