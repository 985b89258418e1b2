-- `univmon_merge::judge::all_read` meets its contract.
use Rattle.std.proofs.Common.{◌∙◌, rules, arith}
use Rattle.std.proofs.lemmas.Iterator.{YieldsList-from_range}
use Rattle.std.proofs.lemmas.Iterator.Search.{all_from_yields_List}
use Rattle.layout.specs.Slices.{view, Lent}
use Rattle.layout.specs.Lending.{lent_read}
use Rattle.layout.specs.State.{all_layers, layer_at}
use Rattle.layout.proofs.States.{layers-step, layers-none}
use Rattle.univmon_merge.specs.inner.Pairs.{reads_with}
use Rattle.words.proofs.Walks.{walked}
use Rattle.univmon_merge.proofs.judge.all_read.Goals as goal
use Rattle.univmon_merge.proofs.judge.all_read.Goals.{Start}

-- the two states that are lent
abbrev lent_of : Start → Lent
lent_of c = lent_read c.args.state

abbrev other-of : Start → Lent
other-of c = lent_read c.args.other

pub returns : goal.returns
returns c =
    let s = view (lent_of (goal.at.returns c).Start) in
    let p = reads_with (view (other-of (goal.at.returns c).Start)) in
    all_from_yields_List (λ l. p l (layer_at s l)) _ _ c.all.result c.all.ensures.ran (YieldsList-from_range 0 c.args.many c.args.many (cc) (omega arith)) (λ l b q k. search rules)
    ∙ walked (λ k l. all_layers p k l s) (λ l. p l (layer_at s l)) (λ k l. layers-step p s k l) (λ l. layers-none p s l) c.args.many 0
