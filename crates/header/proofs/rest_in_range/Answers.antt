-- `header::rest_in_range` meets its contract.
use Rattle.std.proofs.Common.{ℕ, ◌+◌, ◌-◌, ◌≡◌, sym, ap, ◌∙◌, ◌&&◌, arith}
use Rattle.header.proofs.Steps.{lens_split}
use Rattle.header.specs.Shape.{max_layers}
use Rattle.header.specs.Header.{lens_from}
use Rattle.header.proofs.rest_in_range.Goals as goal

-- both runs of places together
pub returns-then-in_range : goal.returns-then-in_range
returns-then-in_range c =
    let a = c.args in
    let n = a.layers in
    let p : max_layers ≡ n + (max_layers - n) = omega (arith, c.requires.0) in
    let q : n ≡ n + 0 = omega arith in
    rw (sym c.if-in_range.ensures, c.lens_few.ensures a.flags.now, c.rest_clear.ensures a.heap_size)
    (sym
    (ap (λ (k : ℕ). lens_from n a.heap_size a.lens.now a.flags.now k 0) p
    ∙ lens_split n a.heap_size a.lens.now a.flags.now n (max_layers - n) 0
    ∙ ap (λ (k : ℕ). lens_from n a.heap_size a.lens.now a.flags.now n 0 && lens_from n a.heap_size a.lens.now a.flags.now (max_layers - n) k) (sym q)))
