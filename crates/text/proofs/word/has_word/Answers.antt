-- `text::word::has_word` meets its contract.
use Rattle.std.proofs.Common.{◌≡◌, ◌-◌, length, take, drop, ◌∙◌, arith, length-drop}
use Rattle.std.proofs.lemmas.List.{drop_min, take_all}
use Rattle.std.proofs.lemmas.Bool.Decides.{Decides-eqb}
use Rattle.std.proofs.lemmas.Slice.Eq.{starts_is}
use Rattle.text.proofs.Walks.{prefix_told}
use Rattle.text.proofs.word.has_word.Goals as goal

pub returns : goal.returns
returns c =
    let s = c.args.s.now in
    let rest : take (length s - c.min.result) (drop c.min.result s) ≡ drop c.args.at s = rw c.min.ensures (take_all _ _ (simp length-drop (omega arith)) ∙ drop_min c.args.at s) in
    prefix_told c.args.word.now (drop c.args.at s) _ (starts_is Decides-eqb _ _ _ (rw rest at c.starts_with.ensures.value))
