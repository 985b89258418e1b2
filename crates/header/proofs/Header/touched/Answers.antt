-- `header::Header::touched` meets its contract.
use mathlib.Core.Path.{◌∙◌}
use Rattle.header.proofs.Steps.{touched-kept, touched_lost}
use Rattle.header.proofs.Header.touched.Goals as goal

pub returns-then-kept : goal.returns-then-kept
returns-then-kept c = let a = c.args in c.with_len.ensures ∙ touched-kept a.self a.layer a.len a.kept c.if-kept.true

pub returns : goal.returns
returns c = let a = c.args in rw c.clear_flag.ensures at c.with_len-2.ensures ∙ touched_lost a.self a.layer a.len a.kept c.if-kept.false
