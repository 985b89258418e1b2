-- `text::hex::hex_ok` meets its contract.
use Rattle.std.proofs.Common.{◌≡◌, ◌∙◌, ◌+◌, ◌-◌, sym, length-drop, arith}
use Rattle.text.proofs.Walks.{hex_ok-short, hex_ok-all}
use Rattle.text.proofs.hex.hex_ok.Goals as goal

pub returns-then-saturating_sub-lt16 : goal.returns-then-saturating_sub-lt16
returns-then-saturating_sub-lt16 c = let a = c.saturating_sub.ensures in sym (hex_ok-short 16 _ (simp length-drop (omega arith)))

pub returns : goal.returns
returns c =
    let n : c.args.at + 16 - c.args.at ≡ 16 = omega arith in
    let room = c.saturating_sub.ensures in
    rw n at c.all_hex.ensures ∙ sym (hex_ok-all 16 _ (simp length-drop (omega arith)))
