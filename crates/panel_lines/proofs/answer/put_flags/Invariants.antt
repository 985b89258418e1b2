-- `panel_lines::answer::put_flags` meets its contract.
use Prim.Native.Nat.{◌+◌, ◌*◌}
use mathlib.Core.Path.{◌≡◌}
use lib.ListN.{drop}
use lib.Seq.{sets}
use Rattle.panel_lines.specs.Answers.{flags_text}
use Rattle.panel_lines.proofs.answer.put_flags.Given as goal

abbrev pub invariant-loop-i : goal.invariant-loop-i
invariant-loop-i l = sets l.out (l.at + 2 * l.i) (flags_text (drop l.i l.flags)) ≡ sets l.initial.out l.at (flags_text l.flags)
