-- `univmon_merge::judge::check_layers` meets its contract.
use mathlib.Core.Path.{◌≡◌, sym, ◌∙◌}
use mathlib.Core.Bool.{true}
use Rattle.layout.specs.Slices.{view, Lent}
use Rattle.layout.specs.Lending.{lent_read}
use Rattle.layout.specs.State.{all_layers}
use Rattle.univmon_merge.specs.inner.Pairs.{reads_with}
use Rattle.univmon_merge.proofs.judge.check_layers.Goals as goal
use Rattle.univmon_merge.proofs.judge.check_layers.Goals.{Else-not-all_read, Start}

-- the two states that are lent
abbrev lent_of : Start → Lent
lent_of c = lent_read c.args.state

abbrev other-of : Start → Lent
other-of c = lent_read c.args.other

-- all that is read was found in range
read : (c : Else-not-all_read) → all_layers (reads_with (view (other-of (goal.at.Else-not-all_read c).Start))) c.args.layers 0 (view (lent_of (goal.at.Else-not-all_read c).Start)) ≡ true
read c = sym c.all_read.ensures ∙ c.if-not-all_read.false

pub all_read-requires : goal.all_read-requires
all_read-requires c = c.requires

pub returns-then-not-all_read : goal.returns-then-not-all_read
returns-then-not-all_read c = simp (sym c.all_read.ensures ∙ c.if-not-all_read.true)

pub all_fit-requires : goal.all_fit-requires
all_fit-requires c = record { paired = c.requires; read = read (goal.at.all_fit-requires c).Else-not-all_read }

pub returns-then-not-all_fit : goal.returns-then-not-all_fit
returns-then-not-all_fit c = simp (read (goal.at.returns-then-not-all_fit c).Else-not-all_read, sym c.all_fit.ensures ∙ c.if-not-all_fit.true)

pub returns : goal.returns
returns c = simp (read (goal.at.returns c).Else-not-all_read, sym c.all_fit.ensures ∙ c.if-not-all_fit.false)
