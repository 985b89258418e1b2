-- `layer::adding::add_if_ready` meets its contract.
use Rattle.std.proofs.Common.{◌≡◌, sym, ap, ◌∙◌, true, false, is_some, w64, to_z, of_z, to_z-of_z}
use lib.ListN.{take}
use borrow.Author.Rules.{sfits_of}
use Rattle.words.specs.Num.{all_in}
use Rattle.layer.proofs.Tests.{ready_by, unready_by}
use Rattle.layer.proofs.Steps.{add_is}
use Rattle.layer.proofs.adding.add_if_ready.Goals as goal
use Rattle.layer.proofs.adding.add_if_ready.Goals.{Else-not-counts_in_range}

counts-read : (c : Else-not-counts_in_range) → true ≡ all_in (take c.args.len c.args.counts.now)
counts-read c = sym c.if-not-counts_in_range.false ∙ c.counts_in_range.ensures

pub returns-then-not-counts_in_range-clause-made_value : goal.returns-then-not-counts_in_range-clause-made_value
returns-then-not-counts_in_range-clause-made_value c =
    let a = c.args in
    λ flag. unready_by a.d a.item a.weight a.counters.now a.norms.now a.entries.now a.counts.now a.len flag (sym (c.if-not-counts_in_range.true) ∙ c.counts_in_range.ensures)

pub returns-in_err-count-clause-made_value : goal.returns-in_err-count-clause-made_value
returns-in_err-count-clause-made_value c =
    let a = c.args in
    let n = counts-read (goal.at.returns-in_err-count-clause-made_value c).Else-not-counts_in_range in
    λ flag. ap is_some c.from_residual.ensures ∙ ready_by a.d a.item a.weight a.counters.now a.norms.now a.entries.now a.counts.now a.len flag false true c.in_err-count.ensures.ready n

pub returns : goal.returns
returns c =
    let a = c.args in
    let n = counts-read (goal.at.returns c).Else-not-counts_in_range in
    let m = c.in_ok-count.ensures.made in
    let e : to_z w64 (of_z w64 c.in_ok-count.count) ≡ c.in_ok-count.count = to_z-of_z {w = w64} (sfits_of c.in_ok-count.ensures.fits) in
    let s = add_is a.d a.item a.weight a.counters.now a.norms.now a.entries.now a.counts.now a.len _ _ _ _ c.offer.result c.in_ok-count.count m.0 m.1
    (rw e at c.offer.ensures.entries_after) (rw e at c.offer.ensures.counts_after) (rw e at c.offer.ensures.value) in
    record {
      made_value = λ flag. ready_by a.d a.item a.weight a.counters.now a.norms.now a.entries.now a.counts.now a.len flag true true c.in_ok-count.ensures.ready n;
      answer_value = s.0;
      answer_value_2 = s.1;
      untouched = tt;
    }
