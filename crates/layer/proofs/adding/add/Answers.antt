-- `layer::adding::add` meets its contract.
use mathlib.Core.Path.{◌≡◌, sym, ◌∙◌}
use mathlib.Core.Bool.{true, false}
use lib.ListN.{take}
use native.Mathlib.Omega.{arith}
use borrow.Author.Rules.{sfits_of}
use mir.Syntax.{w64}
use mir.Val.{to_z, of_z}
use mir.Facts.{to_z-of_z}
use Rattle.words.specs.Num.{all_in}
use Rattle.words.proofs.Bools.{and_left}
use Rattle.countsketch_l2_norm.specs.Sketch.{rows_read, rows_fit}
use Rattle.countsketch_l2_norm.specs.inner.Needs.{sketch_of}
use Rattle.layer.specs.Layer.{hash_by}
use Rattle.layer.proofs.Tests.{reads_are, fits_are}
use Rattle.layer.proofs.Steps.{add_is}
use Rattle.layer.proofs.adding.add.Goals as goal
use Rattle.layer.proofs.adding.add.Goals.{After-update_and_count-count, Start}

-- the tests of the rows, from those of the layer
rows-are-read : (c : Start) → let a = c.args in rows_read a.d.cols (hash_by a.item) (sketch_of a.counters.now a.norms.now a.d.rows) a.d.rows 0 ≡ true
rows-are-read c =
    let a = c.args in
    and_left (rows_read a.d.cols (hash_by a.item) (sketch_of a.counters.now a.norms.now a.d.rows) a.d.rows 0) (all_in (take a.len a.counts.now))
    (sym (reads_are a.d a.item a.weight a.counters.now a.norms.now a.entries.now a.counts.now a.len false) ∙ c.requires.read)

rows-do-fit : (c : Start) → let a = c.args in rows_fit a.d.cols (hash_by a.item) a.weight a.counters.now a.d.rows 0 ≡ true
rows-do-fit c =
    let a = c.args in
    sym (fits_are a.d a.item a.weight a.counters.now a.norms.now a.entries.now a.counts.now a.len false) ∙ c.requires.fit

-- the count as it is handed on
count-back : (c : After-update_and_count-count) → to_z w64 (of_z w64 c.update_and_count-count.result) ≡ c.update_and_count-count.result
count-back c = to_z-of_z {w = w64} (sfits_of c.update_and_count-count.type_inv)

-- what a lemma proves of the clauses together, under each one's name
by_clause : {A B : Type 0} → A × B → record { result_value : A; value : B }
by_clause p = record { result_value = p.0; value = p.1 }

pub update_and_count-count-requires : goal.update_and_count-count-requires
update_and_count-count-requires c =
    let p = c.requires in
    record {
      shaped = p.housed.shaped;
      room = omega (arith, p.housed.cells);
      pairs = omega (arith, p.housed.norms);
      light = p.light;
      read = rows-are-read (goal.at.update_and_count-count-requires c).Start;
      fit = rows-do-fit (goal.at.update_and_count-count-requires c).Start;
    }

pub returns : goal.returns
returns c = by_clause (let a = c.args in
    let u = c.update_and_count-count in
    add_is a.d a.item a.weight a.counters.now a.norms.now a.entries.now a.counts.now a.len _ _ _ _ c.offer.result u.result u.ensures.rows_after u.ensures.value
    (rw (count-back (goal.at.returns c).After-update_and_count-count) at c.offer.ensures.entries_after) (rw (count-back (goal.at.returns c).After-update_and_count-count) at c.offer.ensures.counts_after) (rw (count-back (goal.at.returns c).After-update_and_count-count) at c.offer.ensures.value))
