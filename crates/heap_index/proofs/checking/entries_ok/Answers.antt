-- `heap_index::checking::entries_ok` meets its contract.
use native.Mathlib.Omega.{arith}
use Rattle.words.proofs.Scans.{scan_start, scan_on, scan_stop, scan_end}
use Rattle.heap_index.proofs.Scanned.{entry-step, none_left, some_below}
use Rattle.heap_index.proofs.checking.entries_ok.Goals as goal

pub loop-i-init : goal.loop-i-init
loop-i-init c = scan_start _ _ _

pub returns-then-is_none : goal.returns-then-is_none
returns-then-is_none c =
    scan_stop _ _ _ _ _ c.loop-i.invariant (omega arith) (λ k. entry-step _ _ _ k c.loop-i.i _ c.found_under.ensures.place) (some_below _ _ _ c.found_under.ensures.within c.if-is_none.ensures)

pub loop-i-preserved : goal.loop-i-preserved
loop-i-preserved c =
    scan_on _ _ _ _ _ c.loop-i.invariant (omega arith) (λ k. entry-step _ _ _ k c.loop-i.i _ c.found_under.ensures.place) (some_below _ _ _ c.found_under.ensures.within c.if-is_none.ensures)

pub returns : goal.returns
returns c = scan_end _ _ _ _ c.loop-i.invariant (omega arith) (none_left _ _ _ _)
