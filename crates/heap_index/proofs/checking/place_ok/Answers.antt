-- `heap_index::checking::place_ok` meets its contract.
use mathlib.Core.Path.{◌∙◌}
use borrow.Author.Tests.{lt-leb}
use Rattle.heap_index.proofs.Scanned.{place_empty, place-many, place-named, same_some}
use Rattle.heap_index.proofs.checking.place_ok.Goals as goal

pub returns-then-w-eq0 : goal.returns-then-w-eq0
returns-then-w-eq0 c = place_empty _ _ _ _ c.if-w-eq0.true

pub returns-then-i-n : goal.returns-then-i-n
returns-then-i-n c = c.eq.ensures ∙ same_some _ _ _ c.requires.p_in_bounds ∙ place-named _ _ _ _ _ c.if-w-eq0.false c.if-i-n.true c.found_under.ensures.place

pub returns-else-i-n : goal.returns-else-i-n
returns-else-i-n c = lt-leb _ _ c.if-i-n.false ∙ place-many _ _ _ _ c.if-w-eq0.false c.if-i-n.false
