-- `heap_index::checking::index_ok` meets its contract.
use mathlib.Core.Path.{sym, ◌∙◌}
use Rattle.heap_index.proofs.Scanned.{index_no, index_by}
use Rattle.heap_index.proofs.checking.index_ok.Goals as goal

pub returns-then-entries_ok : goal.returns-then-entries_ok
returns-then-entries_ok c = index_by _ _ _ _ (sym c.entries_ok.ensures ∙ c.if-entries_ok.true) c.places_ok.ensures

pub returns-else-entries_ok : goal.returns-else-entries_ok
returns-else-entries_ok c = c.if-entries_ok.false ∙ index_no _ _ _ (sym c.entries_ok.ensures ∙ c.if-entries_ok.false)
