-- `float64::root_at` meets its contract.
use Rattle.std.proofs.Common.{◌≡◌, ℕ, ◌+◌, ◌-◌, ◌*◌, ◌/◌, ◌%◌, ◌^◌, ◌<◌, ◌≤◌, sym, ap, ◌∙◌, arith}
use Rattle.float64.specs.Root.{isqrt, root_at}
use Rattle.float64.specs.RootCount.{worked, count_at}
use Rattle.float64.proofs.WholeRoot.{root-low, root-high}
use Rattle.float64.proofs.root_at.Goals as goal
use Rattle.float64.proofs.root_at.Goals.{After-root_search-found, Joined-p-eq0, then-p-eq0, else-p-eq0}

even-case : (d p a : ℕ) → p % 2 ≡ 0 → a ≡ d → a * 2 ^ 54 ≡ d * 2 ^ (54 + p % 2)
even-case d p a e q = ap (λ (x : ℕ). x * 2 ^ 54) q ∙ ap (λ (x : ℕ). d * 2 ^ (54 + x)) (sym e)

odd-case : (d p a : ℕ) → (p % 2 ≡ 0 → ⊥) → a ≡ d * 2 → a * 2 ^ 54 ≡ d * 2 ^ (54 + p % 2)
odd-case d p a n q =
    let o : p % 2 ≡ 1 = omega arith in
    let e : a * 2 ^ 54 ≡ d * 2 ^ 55 = omega (arith, q) in
    e ∙ ap (λ (x : ℕ). d * 2 ^ (54 + x)) (sym o)

-- what `a` is where the arms meet
abbrev Given : ℕ → ℕ → ℕ → Type 0
Given d p a = (2 ^ 52 ≤ a) × (a < 2 ^ 54) × (a * 2 ^ 54 ≡ d * 2 ^ (54 + p % 2))

given : (c : Joined-p-eq0) → Given c.args.d c.args.p c.if-p-eq0.a
given c =
    elim c.if-p-eq0.branch [
      | then-p-eq0 w ↦ (omega arith, omega arith, even-case c.args.d c.args.p c.if-p-eq0.a w.if-p-eq0.true w.a-is)
      | else-p-eq0 w ↦ (omega arith, omega arith, odd-case c.args.d c.args.p c.if-p-eq0.a w.if-p-eq0.false w.a-is)
    ]

-- the root has 54 digits
digits : (c : After-root_search-found) → (2 ^ 53 ≤ c.root_search-found.result.root) × (c.root_search-found.result.root < 2 ^ 54)
digits c =
    let g = given c.before in
    rw c.root_search-found.ensures.fact_1 (root-low c.if-p-eq0.a g.0 g.1, root-high c.if-p-eq0.a g.1)

pub root_search-found-requires : goal.root_search-found-requires
root_search-found-requires c = (given (goal.at.root_search-found-requires c).Joined-p-eq0).1

pub overflow_add-q : goal.overflow_add-q
overflow_add-q c = omega (arith, digits (goal.at.overflow_add-q c).After-root_search-found)

pub overflow_sub-result : goal.overflow_sub-result
overflow_sub-result c = omega (arith, digits (goal.at.overflow_sub-result c).After-root_search-found)

pub returns : goal.returns
unfolding root_at count_at
returns c =
    let g = given (goal.at.returns c).Joined-p-eq0 in record {
      fact_1 = ap (λ (r : ℕ). c.args.p / 2 * 2 ^ 52 + ((r + 1) / 2 - 2 ^ 52)) (c.root_search-found.ensures.fact_1 ∙ ap (isqrt 54) g.2);
      fact_2 = c.root_search-found.ensures.fact_2 ∙ ap worked g.2;
    }
