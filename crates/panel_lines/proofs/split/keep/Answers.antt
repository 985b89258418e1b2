-- `panel_lines::split::keep` meets its contract.
use mathlib.Core.Path.{refl}
use lib.ListN.{length-set}
use native.Mathlib.Omega.{arith}
use Rattle.panel_lines.proofs.Bytes.{push-room, push_full}
use Rattle.panel_lines.proofs.split.keep.Goals as goal

pub returns-then-n-lt-MOST_HELD : goal.returns-then-n-lt-MOST_HELD
returns-then-n-lt-MOST_HELD c = record {
  upper_bound = (omega arith, simp length-set);
  line_after = push-room c.args.line.now c.args.n c.args.b c.if-n-lt-MOST_HELD.true c.requires.most_held_in_bounds;
}

pub returns : goal.returns
returns c = record {
  upper_bound = (c.requires.n_le_most_held, refl);
  line_after = push_full c.args.line.now c.args.n c.args.b c.if-n-lt-MOST_HELD.false (omega (arith, c.requires.n_le_most_held, c.requires.most_held_in_bounds));
}
