-- `heap_moves::bubble_down` meets its contract.
use mathlib.Core.Path.{refl}
use native.Mathlib.Omega.{arith}
use borrow.Author.Rules.{rules}
use Rattle.heap_moves.proofs.Down.{down_again, down_stop, down-said}
use Rattle.heap_moves.proofs.bubble_down.Goals as goal

pub loop-i-init : goal.loop-i-init
loop-i-init c =
    record {
      words = refl;
      counts = refl;
      here = c.requires.start_lt_n.0;
      from = omega arith;
      fuel = c.args.n;
      enough = omega arith;
      goes = refl;
      same = λ e. refl;
      left = λ f. absurd (f refl);
    }

pub returns-then-j-i : goal.returns-then-j-i
returns-then-j-i c =
    let l = c.lowest-j in
    let v = c.loop-i.invariant in
    record { counts_after = down_stop _ _ _ _ _ _ _ _ v (l.ensures.0 _) c.if-j-i.true; value = down-said _ _ _ _ _ _ _ _ v (l.ensures.0 _) c.if-j-i.true }

pub loop-i-preserved : goal.loop-i-preserved
loop-i-preserved c =
    let l = c.lowest-j in
    down_again _ _ _ _ _ _ _ _ _ _ c.loop-i.invariant (l.ensures.0 _) c.if-j-i.false l.ensures.1.0 l.ensures.1.1
    (search rules) (search rules) c.swap_entries.ensures
