-- `estimates::reads::sum_reads` meets its contract.
use Rattle.std.proofs.Common.{ℕ, Bool, ◌∙◌, rules, arith}
use Rattle.std.proofs.lemmas.Iterator.{YieldsList-from_range}
use Rattle.std.proofs.lemmas.Iterator.Search.{all_from_yields_List}
use Rattle.words.proofs.Walks.{walked}
use Rattle.layer.specs.Layer.{Layer}
use Rattle.layout.specs.State.{dims_at, layer_at, all_layers}
use Rattle.layout.specs.Slices.{view}
use Rattle.layout.specs.Lending.{lent_read}
use Rattle.layout.proofs.States.{layers-step, layers-none}
use Rattle.estimates.specs.Sums.{layer_reads}
use Rattle.estimates.proofs.reads.sum_reads.Goals as goal

pub returns : goal.returns
returns c =
    let a = c.args in
    let s = view (lent_read a.state) in
    let n = a.state.header.now.shape.layers in
    let p : ℕ → Layer → Bool = λ l y. layer_reads a.terminal (dims_at a.state.header.now.shape l) y in
    all_from_yields_List (λ l. p l (layer_at s l)) _ _ c.all.result c.all.ensures.ran (YieldsList-from_range 0 n n (cc) (omega arith)) (λ l b q k. search rules)
    ∙ walked (λ k l. all_layers p k l s) (λ l. p l (layer_at s l)) (λ k l. layers-step p s k l) (λ l. layers-none p s l) n 0
