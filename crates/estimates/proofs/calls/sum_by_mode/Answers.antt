-- `estimates::calls::sum_by_mode` meets its contract.
use mathlib.Core.Path.{◌≡◌, sym, ◌∙◌}
use mathlib.Core.Bool.{true}
use Rattle.layout.specs.Slices.{view}
use Rattle.layout.specs.Lending.{lent_read}
use Rattle.estimates.specs.Sums.{sum_reads}
use Rattle.estimates.proofs.Judges.{reads_is, counted_in, sum_standard, sum_terminal, sum-unread, sum-read}
use Rattle.estimates.proofs.calls.sum_by_mode.Goals as goal
use Rattle.estimates.proofs.calls.sum_by_mode.Goals.{After-sum_reads, Else-not-sum_reads}

-- the scan is the definition's
read_is : (c : After-sum_reads) → sum_reads (view (lent_read c.args.state)) ≡ c.sum_reads.result
read_is c = sym (c.sum_reads.ensures ∙ reads_is (lent_read c.args.state) c.is_terminal-terminal.result c.is_terminal-terminal.ensures)

read_ok : (c : Else-not-sum_reads) → sum_reads (view (lent_read c.args.state)) ≡ true
read_ok c = sym (c.sum_reads.ensures ∙ reads_is (lent_read c.args.state) c.is_terminal-terminal.result c.is_terminal-terminal.ensures) ∙ c.if-not-sum_reads.false

pub returns-then-not-sum_reads : goal.returns-then-not-sum_reads
returns-then-not-sum_reads c = let a = c.args in sum-unread (lent_read a.state) a.g a.every (read_is (goal.at.returns-then-not-sum_reads c).After-sum_reads ∙ c.if-not-sum_reads.true)

pub terminal_sum-requires : goal.terminal_sum-requires
terminal_sum-requires c = counted_in (lent_read c.args.state) c.requires (read_ok (goal.at.terminal_sum-requires c).Else-not-sum_reads)

pub returns-then-terminal : goal.returns-then-terminal
returns-then-terminal c =
    let a = c.args in
    sum-read (lent_read a.state) a.g a.every c.terminal_sum.result (read_ok (goal.at.returns-then-terminal c).Else-not-sum_reads)
    (c.terminal_sum.ensures ∙ sum_terminal (lent_read a.state) a.g a.every (sym c.is_terminal-terminal.ensures ∙ c.if-terminal.true))

pub standard_sum-requires : goal.standard_sum-requires
standard_sum-requires c = counted_in (lent_read c.args.state) c.requires (read_ok (goal.at.standard_sum-requires c).Else-not-sum_reads)

pub returns : goal.returns
returns c =
    let a = c.args in
    sum-read (lent_read a.state) a.g a.every c.standard_sum.result (read_ok (goal.at.returns c).Else-not-sum_reads)
    (c.standard_sum.ensures ∙ sum_standard (lent_read a.state) a.g a.every (sym c.is_terminal-terminal.ensures ∙ c.if-terminal.false))
