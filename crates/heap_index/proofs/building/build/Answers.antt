-- `heap_index::building::build` meets its contract.
use Prim.Native.Nat.{ℕ}
use mathlib.Core.Path.{sym, ap, ◌∙◌}
use lib.ListN.{replicate}
use native.Mathlib.Omega.{arith}
use Rattle.heap_moves.specs.Flat.{cands_of}
use Rattle.heap_index.specs.Index.{build}
use Rattle.heap_index.proofs.Scanned.{enter-start, enter-next, enter_end}
use Rattle.heap_index.proofs.building.build.Goals as goal

pub loop-i-init : goal.loop-i-init
loop-i-init c = enter-start _ _ _ _ (c.fill.ensures.after (λ y h. h) ∙ ap (λ (m : ℕ). replicate m 0) (sym c.fill.ensures.len))

pub loop-i-preserved : goal.loop-i-preserved
loop-i-preserved c = enter-next _ _ _ _ _ _ _ c.loop-i.invariant (omega arith) c.enter.ensures

pub returns : goal.returns
returns c = enter_end _ _ _ _ _ _ c.loop-i.invariant (omega arith) ∙ ap (λ (m : ℕ). build m c.args.n (cands_of c.args.entries.now c.args.counts.now)) c.fill.auto.self
