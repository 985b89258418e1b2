-- `float64::root_bits` meets its contract.
use Rattle.std.proofs.Common.{◌≡◌, ◌-◌, ◌*◌, ◌%◌, ◌^◌, sym, ◌∙◌, lt_of_lt_of_le, mod-eq_of_lt, arith, lit≤}
use Rattle.float64.specs.Root.{root_at, root_bits}
use Rattle.float64.specs.RootCount.{count_at, count_bits}
use Rattle.float64.proofs.PatternDigits.{Moved, moved, zeros, pattern_low, pattern_high}
use Rattle.float64.proofs.root_bits.Goals as goal
use Rattle.float64.proofs.root_bits.Goals.{Then-b-lt-FIELD, After-from-z}

up : (c : Then-b-lt-FIELD) → Moved c.args.b (zeros c.args.b)
up c = moved c.args.b c.requires.fact_1 c.if-b-lt-FIELD.true

-- the shift loses nothing
shifted : (c : Then-b-lt-FIELD) → c.args.b * 2 ^ (zeros c.args.b - 11) % 2 ^ 64 ≡ c.args.b * 2 ^ (zeros c.args.b - 11)
shifted c = mod-eq_of_lt (lt_of_lt_of_le (up c).3 (lit≤ tt))

-- the digits that are missing, as the code has them
missing : (c : After-from-z) → c.from-z.result ≡ zeros c.args.b
missing c = c.from-z.ensures

pub overflow_sub-z : goal.overflow_sub-z
overflow_sub-z c = omega (arith, up (goal.at.overflow_sub-z c).Then-b-lt-FIELD, missing (goal.at.overflow_sub-z c).After-from-z)

pub overflow_shl-b : goal.overflow_shl-b
overflow_shl-b c = omega (arith, up (goal.at.overflow_shl-b c).Then-b-lt-FIELD, missing (goal.at.overflow_shl-b c).After-from-z)

pub overflow_sub-z-then-b-lt-FIELD : goal.overflow_sub-z-then-b-lt-FIELD
overflow_sub-z-then-b-lt-FIELD c = omega (arith, up (goal.at.overflow_sub-z-then-b-lt-FIELD c).Then-b-lt-FIELD, missing (goal.at.overflow_sub-z-then-b-lt-FIELD c).After-from-z)

pub root_at-requires : goal.root_at-requires
root_at-requires c =
    let m = up (goal.at.root_at-requires c).Then-b-lt-FIELD in
    rw (missing (goal.at.root_at-requires c).After-from-z, shifted (goal.at.root_at-requires c).Then-b-lt-FIELD) (record {
      fact_1 = m.2;
      fact_2 = m.3;
      fact_3 = omega (arith, m);
    })

pub returns-then-b-lt-FIELD : goal.returns-then-b-lt-FIELD
unfolding root_bits count_bits
returns-then-b-lt-FIELD c =
    let b = c.args.b in
    let z = zeros b in
    let low = c.if-b-lt-FIELD.true in
    let e = missing (goal.at.returns-then-b-lt-FIELD c).After-from-z in
    let s = shifted (goal.at.returns-then-b-lt-FIELD c).Then-b-lt-FIELD in
    let f : c.root_at.result.bits ≡ root_at (b * 2 ^ (z - 11)) (1035 - z) = rw (e, s) at c.root_at.ensures.fact_1 in
    let g : c.root_at.result.count ≡ count_at (b * 2 ^ (z - 11)) (1035 - z) = rw (e, s) at c.root_at.ensures.fact_2 in record {
      fact_1 = f ∙ sym (pattern_low root_at b low);
      fact_2 = g ∙ sym (pattern_low count_at b low);
    }

pub returns-else-b-lt-FIELD : goal.returns-else-b-lt-FIELD
unfolding root_bits count_bits
returns-else-b-lt-FIELD c =
    let b = c.args.b in
    let high = c.if-b-lt-FIELD.false in
    record {
      fact_1 = c.root_at-else-b-lt-FIELD.ensures.fact_1 ∙ sym (pattern_high root_at b high);
      fact_2 = c.root_at-else-b-lt-FIELD.ensures.fact_2 ∙ sym (pattern_high count_at b high);
    }
