-- `layer::candidates::offer_one` meets its contract.
use mathlib.Core.Path.{◌≡◌}
use borrow.Author.Rules.{sfits_of}
use mir.Syntax.{w64}
use mir.Val.{to_z, of_z}
use mir.Facts.{to_z-of_z}
use Rattle.countsketch_l2_norm.proofs.After.{all-cells}
use Rattle.layer.specs.Layer.{hash_by}
use Rattle.layer.proofs.Gathers.{one-view}
use Rattle.layer.proofs.candidates.offer_one.Goals as goal
use Rattle.layer.proofs.candidates.offer_one.Goals.{After-count_with_hash-count}

-- the count as it is handed on
count-back : (c : After-count_with_hash-count) → to_z w64 (of_z w64 c.count_with_hash-count.result) ≡ c.count_with_hash-count.result
count-back c = to_z-of_z {w = w64} (sfits_of c.count_with_hash-count.type_inv)

pub count_with_hash-count-requires-clause-rows_value : goal.count_with_hash-count-requires-clause-rows_value
count_with_hash-count-requires-clause-rows_value c = let a = c.args in all-cells a.d.cols (hash_by a.w) a.counters.now a.d.rows 0 c.requires.counters_read.read

pub returns : goal.returns
returns c =
    let a = c.args in
    one-view a.d a.counters.now a.w a.entries.now _ a.counts.now _ a.list.now _ a.g c.offer-a.result c.count_with_hash-count.result c.len_after-len.result
    c.count_with_hash-count.ensures
    (rw (count-back (goal.at.returns c).After-count_with_hash-count) at c.offer-a.ensures.entries_after) (rw (count-back (goal.at.returns c).After-count_with_hash-count) at c.offer-a.ensures.counts_after) (rw (count-back (goal.at.returns c).After-count_with_hash-count) at c.offer-a.ensures.value)
    c.len_after-len.ensures c.tell_at.ensures
