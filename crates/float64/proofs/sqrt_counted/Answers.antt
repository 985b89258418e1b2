-- `float64::sqrt_counted` meets its contract.
use Rattle.std.proofs.Common.{ℕ, not, T, sym, ap, ◌∙◌, subst}
use lib.Ieee.{binary64, fits, div, of_bits, nan_bits, to_bits}
use Rattle.float64.proofs.RootTests.{Above, above, at_infinity, at_zero, no_root, not_nan, pattern_of, root-not_nan, root_of, count_of, count_infinity, count-not-above}
use Rattle.float64.proofs.sqrt_counted.Goals as goal
use Rattle.float64.proofs.sqrt_counted.Goals.{Start, Then-x-2}

held : (c : Start) → T (fits binary64 c.args.x)
held c = subst T (sym c.well_formed.0.1) tt

taken : (c : Then-x-2) → Above c.args.x
unfolding of_bits div
taken c = above c.args.x c.if-x.true c.if-x-2.true

pub float_to_bits-x : goal.float_to_bits-x
float_to_bits-x c = not_nan c.args.x (taken (goal.at.float_to_bits-x c).Then-x-2)

pub root_bits-found-requires : goal.root_bits-found-requires
root_bits-found-requires c = let p = pattern_of c.args.x (held (goal.at.root_bits-found-requires c).Start) (taken (goal.at.root_bits-found-requires c).Then-x-2) in record {
  fact_1 = p.0;
  fact_2 = p.1;
}

pub float_from_bits-value : goal.float_from_bits-value
float_from_bits-value c =
    let x = c.args.x in
    subst (λ (r : ℕ). T (not (nan_bits binary64 r))) (sym c.root_bits-found.ensures.fact_1) (root-not_nan (to_bits binary64 x) (pattern_of x (held (goal.at.float_from_bits-value c).Start) (taken (goal.at.float_from_bits-value c).Then-x-2)))

pub returns-then-x-2 : goal.returns-then-x-2
returns-then-x-2 c =
    let x = c.args.x in
    record {
      fact_1 = ap (of_bits binary64) c.root_bits-found.ensures.fact_1 ∙ root_of x (taken (goal.at.returns-then-x-2 c).Then-x-2);
      fact_2 = c.root_bits-found.ensures.fact_2 ∙ count_of x (taken (goal.at.returns-then-x-2 c).Then-x-2);
    }

pub returns-then-x : goal.returns-then-x
unfolding of_bits div
returns-then-x c = record {
  fact_1 = at_infinity c.args.x c.if-x.true c.if-x-2.false;
  fact_2 = count_infinity c.args.x c.if-x-2.false;
}

pub returns-then-x-3 : goal.returns-then-x-3
unfolding of_bits
returns-then-x-3 c = record {
  fact_1 = at_zero c.args.x c.if-x-3.true;
  fact_2 = count-not-above c.args.x c.if-x.false;
}

pub returns : goal.returns
unfolding of_bits div
returns c = record {
  fact_1 = no_root c.args.x c.if-x.false c.if-x-3.false;
  fact_2 = count-not-above c.args.x c.if-x.false;
}
