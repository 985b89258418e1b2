-- `univmon_merge_indexed::layers::merge_layers` meets its contract.
use native.Mathlib.Omega.{arith}
use Rattle.layout.specs.Slices.{lent, Lent}
use Rattle.layout.specs.Lending.{lent_read}
use Rattle.layout.proofs.Telling.{told-start, told_end}
use Rattle.layout_index.proofs.Turns.{tables_start, tables_end}
use Rattle.univmon_merge_indexed.proofs.Replacing.{merging_long, merging_table}
use Rattle.univmon_merge.proofs.Pairings.{merging_start, merging_ready, merging_on, merging_room, merging_told, merging_end}
use Rattle.univmon_merge_indexed.proofs.layers.merge_layers.Goals as goal
use Rattle.univmon_merge_indexed.proofs.layers.merge_layers.Goals.{At-loop-l, Start}

-- the states that were lent, and the first in the loop
abbrev lent_of : Start → Lent
lent_of c = lent c.args.h c.args.counters.now c.args.norms.now c.args.entries.now c.args.counts.now

abbrev other-of : Start → Lent
other-of c = lent_read c.args.other

abbrev lent-here : At-loop-l → Lent
lent-here c = lent c.loop-l.header c.loop-l.counters c.loop-l.norms c.loop-l.entries c.loop-l.counts

pub loop-l-init : goal.loop-l-init
loop-l-init c = (merging_start (lent_of (goal.at.loop-l-init c).Start) (other-of (goal.at.loop-l-init c).Start) c.args.many c.requires.merges_ready, (told-start _ _ _ _ _, tables_start _ _ _ _ _))

pub merge_one-header-requires : goal.merge_one-header-requires
merge_one-header-requires c =
    let v = c.loop-l.invariant in record {
      merge_ready = merging_ready (lent_of (goal.at.merge_one-header-requires c).Start) (other-of (goal.at.merge_one-header-requires c).Start) c.args.many c.requires.merges_ready (lent-here (goal.at.merge_one-header-requires c).At-loop-l) c.loop-l.l v.0 c.loop-l-test.true;
      layers_in_bounds = merging_room (lent_of (goal.at.merge_one-header-requires c).Start) (lent-here (goal.at.merge_one-header-requires c).At-loop-l) _ v.0.shape v.1.0.long c.requires.layers_in_bounds;
      index_len = merging_long (lent_of (goal.at.merge_one-header-requires c).Start) (other-of (goal.at.merge_one-header-requires c).Start) c.args.many _ (lent-here (goal.at.merge_one-header-requires c).At-loop-l) _ _ v.0.shape v.1.1 c.requires.index_len;
    }

pub loop-l-preserved : goal.loop-l-preserved
loop-l-preserved c =
    let v = c.loop-l.invariant in (
      merging_on (lent_of (goal.at.loop-l-preserved c).Start) (other-of (goal.at.loop-l-preserved c).Start) c.args.many c.requires.merges_ready (lent-here (goal.at.loop-l-preserved c).At-loop-l) c.loop-l.l v.0 c.loop-l-test.true _ c.merge_one-header.ensures.counts_value c.merge_one-header.ensures.standing,
      (
        merging_told (lent_of (goal.at.loop-l-preserved c).Start) (other-of (goal.at.loop-l-preserved c).Start) c.args.many c.requires.merges_ready (lent-here (goal.at.loop-l-preserved c).At-loop-l) c.loop-l.l v.0 c.loop-l-test.true _ _ v.1.0 c.requires.layers_in_bounds _ c.merge_one-header.ensures.list_after,
        merging_table (lent_of (goal.at.loop-l-preserved c).Start) (other-of (goal.at.loop-l-preserved c).Start) c.args.many c.requires.merges_ready (lent-here (goal.at.loop-l-preserved c).At-loop-l) c.loop-l.l v.0 c.loop-l-test.true _ _ v.1.1 c.requires.index_len _ c.merge_one-header.ensures.index_after,
      ),
    )

pub returns : goal.returns
returns c =
    let v = c.loop-l.invariant in record {
      counts_value = merging_end (lent_of (goal.at.returns c).Start) (other-of (goal.at.returns c).Start) c.args.many (lent-here (goal.at.returns c).At-loop-l) c.loop-l.l v.0 c.loop-l-test.false;
      standing = v.0.standing;
      index_after = tables_end _ _ _ _ _ _ _ v.1.1 (omega (arith, v.0.within, c.loop-l-test.false));
      list_after = told_end _ _ _ _ _ _ _ v.1.0 (omega (arith, v.0.within, c.loop-l-test.false));
    }
