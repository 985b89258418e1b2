-- `countsketch_l2_norm::update::delta_at` meets its contract.
use Prim.Native.Nat.{ℕ, ◌≤◌}
use mathlib.Core.Path.{◌≡◌, ◌∙◌}
use lib.IntN.{pos}
use native.Mathlib.Omega.{arith}
use borrow.Author.Rules.{sfits_of}
use mir.Syntax.{w64}
use mir.Val.{to_z}
use mir.Facts.{to_z-of_z}
use Rattle.words.proofs.Signed.{back}
use Rattle.words.specs.Num.{top}
use Rattle.countsketch_l2_norm.proofs.update.delta_at.Goals as goal
use Rattle.countsketch_l2_norm.proofs.update.delta_at.Goals.{Start}

-- a small number read as a signed one
as-signed : (n : ℕ) → n ≤ top → to_z w64 n ≡ pos n
as-signed n h = back (pos n) (omega arith)

pub signed_at-requires : goal.signed_at-requires
signed_at-requires c = let a = (goal.at.signed_at-requires c).Start in record {
  row_bound = omega arith;
  v_bound = rw (as-signed a.args.weight a.requires.1) a.requires.1;
}

pub returns : goal.returns
returns c = to_z-of_z {w = w64} (sfits_of c.signed_at.type_inv) ∙ rw (as-signed c.args.weight c.requires.1) at c.signed_at.ensures
