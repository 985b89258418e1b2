-- `panel::reply` meets its contract.
use Prim.Native.Nat.{◌^◌, ◌<◌}
use mathlib.Core.Path.{refl, sym}
use lib.ListN.{length, take}
use lib.Seq.{length-take-le}
use native.Mathlib.Omega.{arith}
use borrow.Author.Rules.{rules}
use Rattle.layout.specs.Slices.{Lent, lent}
use Rattle.panel_step.proofs.Runs.{reply_is}
use Rattle.panel.proofs.reply.Goals as goal
use Rattle.panel.proofs.reply.Goals.{Start}

-- the state that is lent
abbrev here : Start → Lent
here c = lent c.args.header c.args.counters.now c.args.norms.now c.args.entries.now c.args.counts.now

-- no slice is longer than a number
small : (c : Start) → length c.args.out.now < 2 ^ 64
small c = search rules

pub slice_bounds-answer_line-end : goal.slice_bounds-answer_line-end
slice_bounds-answer_line-end c = sym (length-take-le c.args.k c.args.line.now c.requires.k_in_bounds)

pub overflow_add-result : goal.overflow_add-result
overflow_add-result c = record { fits = omega (arith, small (goal.at.overflow_add-result c).Start, c.answer_line-t.ensures.len_le_longest, c.requires.longest_in_bounds) }

pub returns : goal.returns
returns c =
    record {
      out_after = reply_is (here (goal.at.returns c).Start) _ (take c.args.k c.args.line.now) c.args.out.now _ c.args.at _ _ c.requires.longest_in_bounds refl c.answer_line-t.ensures.len_le_longest c.answer_line-t.ensures.out_after;
      len_bound = omega (arith, c.answer_line-t.ensures.len_le_longest);
    }
