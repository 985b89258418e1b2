-- `float64::root_search` meets its contract.
use Rattle.std.proofs.Common.{◌*◌, ◌/◌, ◌^◌, ◌<◌, ◌≤◌, sym, ◌∙◌, inl, inr, arith, shl_lt}
use lib.Arith.{lt_of_le-ne}
use lib.Pow.{shr_le}
use Rattle.float64.proofs.DigitLoop.{Done, next_is, turn-zero, turn_one, twice_small, left-small, start, done, not_done, finish, met}
use Rattle.float64.proofs.Stops.{count-start, count_on, count_done, stop_no}
use Rattle.float64.proofs.root_search.Goals as goal
use Rattle.float64.proofs.root_search.Goals.{Else-search_ends, Start, then-next-left, else-next-left}

-- the number under the root has at most 108 digits
high : (c : Start) → c.args.a * 2 ^ 54 < 4 ^ 54
high c = shl_lt 54 54 c.requires

-- in the turn something is left, a digit is left to work out, and no number is above 2^56
goes_on : (c : Else-search_ends) → Done c.loop-digit.left c.loop-digit.count → ⊥
goes_on c = not_done c.loop-digit.left c.loop-digit.count (sym c.search_ends.ensures ∙ c.if-search_ends.false)

going : (c : Else-search_ends) → c.loop-digit.count < 54
going c = lt_of_le-ne c.loop-digit.invariant.0.3 (λ e. goes_on c (inr e))

small : (c : Else-search_ends) → (c.loop-digit.twice < 2 ^ 55) × (c.loop-digit.left < 2 ^ 56) × (2 ^ 53 / 2 ^ c.loop-digit.count ≤ 2 ^ 53)
small c =
    let l = c.loop-digit in
    let n = c.args.a * 2 ^ 54 in
    (twice_small n l.twice l.left l.count (high c.before.before.before) l.invariant.0, left-small n l.twice l.left l.count (high c.before.before.before) l.invariant.0, shr_le (2 ^ 53) l.count)

pub loop-digit-init : goal.loop-digit-init
loop-digit-init c = (start c.args.a c.requires, count-start (c.args.a * 2 ^ 54))

pub overflow_shr-digit : goal.overflow_shr-digit
overflow_shr-digit c = omega (arith, going (goal.at.overflow_shr-digit c).Else-search_ends)

pub overflow_add-next : goal.overflow_add-next
overflow_add-next c = omega (arith, small (goal.at.overflow_add-next c).Else-search_ends)

pub overflow_mul-left : goal.overflow_mul-left
overflow_mul-left c = omega (arith, small (goal.at.overflow_mul-left c).Else-search_ends)

pub overflow_add-twice : goal.overflow_add-twice
overflow_add-twice c = omega (arith, small (goal.at.overflow_add-twice c).Else-search_ends)

pub overflow_add-count : goal.overflow_add-count
overflow_add-count c = omega (arith, going (goal.at.overflow_add-count c).Else-search_ends)

pub loop-digit-smaller : goal.loop-digit-smaller
loop-digit-smaller c = omega (arith, going (goal.at.loop-digit-smaller c).Else-search_ends)

pub loop-digit-preserved : goal.loop-digit-preserved
loop-digit-preserved c =
    let l = c.loop-digit in
    let n = c.args.a * 2 ^ 54 in
    let v = l.invariant.0 in
    let h = going (goal.at.loop-digit-preserved c).Else-search_ends in
    let b = next_is l.count h in (
      elim c.if-next-left.branch [
        | then-next-left w ↦ met n _ _ _ c.if-next-left.twice c.if-next-left.left w.twice-is w.left-is (turn_one n l.twice l.left l.count _ v h b w.if-next-left.true)
        | else-next-left w ↦ met n _ _ _ c.if-next-left.twice c.if-next-left.left w.twice-is w.left-is (turn-zero n l.twice l.left l.count _ v h b w.if-next-left.false)
      ],
      count_on n l.count h (stop_no n l.twice l.left l.count (high (goal.at.loop-digit-preserved c).Start) v (λ e. goes_on (goal.at.loop-digit-preserved c).Else-search_ends (inl e))) l.invariant.1,
    )

pub returns : goal.returns
returns c =
    let l = c.loop-digit in
    let n = c.args.a * 2 ^ 54 in
    let v = l.invariant.0 in
    let d = done l.left l.count (sym c.search_ends.ensures ∙ c.if-search_ends.true) in
    record {
      fact_1 = finish n l.twice l.left l.count (high (goal.at.returns c).Start) v d;
      fact_2 = count_done n l.twice l.left l.count (high (goal.at.returns c).Start) v d l.invariant.1;
    }
