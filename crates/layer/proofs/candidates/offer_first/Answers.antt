-- `layer::candidates::offer_first` meets its contract.
use Rattle.std.proofs.Common.{◌≡◌, ◌∙◌}
use Rattle.layer.specs.Merge.{has_key}
use Rattle.layer.specs.inner.Gather.{keys_of}
use Rattle.layer.proofs.Firsts.{found_is}
use Rattle.layer.proofs.Gathers.{first_there, first_here, first_new}
use Rattle.layer.proofs.candidates.offer_first.Goals as goal
use Rattle.layer.proofs.candidates.offer_first.Goals.{After-is_some, then-is_some-via-then-is_some, then-is_some-via-else-is_some+then-is_some-2}

-- what the first search says
there : (c : After-is_some) → c.is_some.result ≡ has_key c.item_at-w.result.key (keys_of c.args.before.now c.args.m)
there c = c.is_some.ensures ∙ found_is c.args.before.now c.args.m c.item_at-w.result.key c.find.result c.find.ensures.first_match c.find.ensures.within

pub returns-then-is_some : goal.returns-then-is_some
returns-then-is_some c =
    let p = (goal.at.returns-then-is_some c).After-is_some in
    elim c.then-is_some.branch [
      | then-is_some-via-then-is_some w ↦ first_there _ _ _ _ _ _ _ c.item_at-w.ensures _ (there p) _ w.if-is_some.true
      | then-is_some-via-else-is_some+then-is_some-2 w ↦ first_here _ _ _ _ _ _ _ c.item_at-w.ensures _ (there p) _ w.if-is_some.false _
          (w.is_some-else-is_some.ensures ∙ found_is _ _ _ _ w.find-else-is_some.ensures.first_match w.find-else-is_some.ensures.within) w.if-is_some-2.true
    ]

pub returns : goal.returns
returns c =
    first_new _ _ _ _ _ _ _ c.item_at-w.ensures _ (there (goal.at.returns c).After-is_some) _ c.if-is_some.false _
    (c.is_some-else-is_some.ensures ∙ found_is _ _ _ _ c.find-else-is_some.ensures.first_match c.find-else-is_some.ensures.within) c.if-is_some-2.false _ c.offer_one.ensures
