-- `estimates::anew::absorb` meets its contract.
use mathlib.Core.Path.{◌≡◌, ap, ◌∙◌}
use mir.Syntax.{w64}
use mir.Val.{to_z, of_z}
use mir.Facts.{to_z-of_z}
use borrow.Author.Rules.{rules, sfits_of}
use Rattle.sums.specs.Terminal.{gather_one}
use Rattle.sums.specs.inner.Spaces.{space, entries_in}
use Rattle.estimates.specs.inner.Anew.{entry_at}
use Rattle.estimates.proofs.Places.{take_on, take_end}
use Rattle.estimates.proofs.anew.absorb.Goals as goal

pub loop-i-preserved : goal.loop-i-preserved
loop-i-preserved c =
    let a = c.args in
    let lp = c.loop-i in
    let fits : to_z w64 (of_z w64 c.counted_at-w.result.count) ≡ c.counted_at-w.result.count = to_z-of_z {w = w64} (sfits_of (search rules)) in
    let n = c.absorb_one-len.auto in (
      take_on (entry_at a.layer) a.layer.len a.have (space a.keys.now a.bottoms.now a.counts.now) (space lp.keys lp.bottoms lp.counts) _
          lp.len lp.i _ lp.invariant.0 c.loop-i-test.true
          (rw fits at c.absorb_one-len.ensures.result_value ∙ ap (gather_one (entries_in (space lp.keys lp.bottoms lp.counts) 0 lp.len)) c.counted_at-w.ensures)
          c.absorb_one-len.ensures.upper_bound
          (record { keys = n.keys; bottoms = n.bottoms; counts = n.counts }),
      c.absorb_one-len.ensures.marked_2,
    )

pub returns-clause-result_value : goal.returns-clause-result_value
returns-clause-result_value c =
    let a = c.args in
    let lp = c.loop-i in
    take_end (entry_at a.layer) a.layer.len a.have (space a.keys.now a.bottoms.now a.counts.now) (space lp.keys lp.bottoms lp.counts)
    lp.len lp.i lp.invariant.0 c.loop-i-test.false
