-- `heap_index::checking::places_ok` meets its contract.
use mathlib.Core.Path.{sym, ◌∙◌}
use native.Mathlib.Omega.{arith}
use Rattle.words.proofs.Scans.{scan_start, scan_on, scan_stop, scan_end}
use Rattle.heap_index.proofs.Scanned.{place-step, no_place}
use Rattle.heap_index.proofs.checking.places_ok.Goals as goal

pub loop-p-init : goal.loop-p-init
loop-p-init c = scan_start _ _ _

pub returns-then-not-place_ok : goal.returns-then-not-place_ok
returns-then-not-place_ok c =
    scan_stop _ _ _ _ _ c.loop-p.invariant (omega arith) (λ k. place-step _ _ _ k c.loop-p.p) (sym c.place_ok.ensures ∙ c.if-not-place_ok.true)

pub loop-p-preserved : goal.loop-p-preserved
loop-p-preserved c =
    scan_on _ _ _ _ _ c.loop-p.invariant (omega arith) (λ k. place-step _ _ _ k c.loop-p.p) (sym c.place_ok.ensures ∙ c.if-not-place_ok.false)

pub returns : goal.returns
returns c = scan_end _ _ _ _ c.loop-p.invariant (omega arith) (no_place _ _ _ _)
