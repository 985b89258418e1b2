-- `univmon_merge::judge::check_heads` meets its contract.
use mathlib.Core.Path.{◌≡◌, sym, ◌∙◌}
use mathlib.Core.Bool.{true, false}
use Rattle.header.specs.Header.{clash}
use Rattle.header.specs.Shape.{same_shape}
use Rattle.univmon_merge.proofs.judge.check_heads.Goals as goal
use Rattle.univmon_merge.proofs.judge.check_heads.Goals.{Else-clashes, Else-not-same}

-- the shapes were found the same, and the modes fit
shapes : (c : Else-not-same) → same_shape c.args.h.shape c.args.other.shape ≡ true
shapes c = sym c.same.ensures ∙ c.if-not-same.false

modes : (c : Else-clashes) → clash c.args.h.mode c.args.other.mode ≡ false
modes c = sym c.clashes.ensures ∙ c.if-clashes.false

pub returns-then-not-same : goal.returns-then-not-same
returns-then-not-same c = simp (sym c.same.ensures ∙ c.if-not-same.true)

pub returns-then-clashes : goal.returns-then-clashes
returns-then-clashes c = simp (shapes (goal.at.returns-then-clashes c).Else-not-same, sym c.clashes.ensures ∙ c.if-clashes.true)

pub returns : goal.returns
returns c = simp (shapes (goal.at.returns c).Else-not-same, modes (goal.at.returns c).Else-clashes) c.check_sum.ensures
