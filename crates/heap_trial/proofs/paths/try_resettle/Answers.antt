-- `heap_trial::paths::try_resettle` meets its contract.
use mathlib.Core.Path.{refl, sym, ◌∙◌}
use Rattle.heap_trial.proofs.Backs.{rest-left, rest-right, rest_up, rest-down}
use Rattle.heap_trial.proofs.paths.try_resettle.Goals as goal

pub returns-then-not-child_in : goal.returns-then-not-child_in
returns-then-not-child_in c = record {
  value = rest-left _ _ _ _ (sym (c.child_in.ensures _) ∙ c.if-not-child_in.true);
  index_unchanged = refl;
  counts_unchanged = refl;
}

pub returns-then-not-child_in-2 : goal.returns-then-not-child_in-2
returns-then-not-child_in-2 c = record {
  value = rest-right _ _ _ _ (sym (c.child_in.ensures _) ∙ c.if-not-child_in.false) (sym (c.child_in-2.ensures _) ∙ c.if-not-child_in-2.true);
  index_unchanged = refl;
  counts_unchanged = refl;
}

pub returns-then-j-i : goal.returns-then-j-i
returns-then-j-i c =
    record {
      value = rest_up _ _ _ _ (sym (c.child_in.ensures _) ∙ c.if-not-child_in.false) (sym (c.child_in-2.ensures _) ∙ c.if-not-child_in-2.false)
          _ (c.lowest-j.ensures.0 _) _ c.if-j-i.true c.try_climb.ensures.value;
      index_unchanged = c.try_climb.ensures.index_unchanged;
      counts_unchanged = c.try_climb.ensures.counts_unchanged;
    }

pub returns : goal.returns
returns c =
    record {
      value = rest-down _ _ _ _ (sym (c.child_in.ensures _) ∙ c.if-not-child_in.false) (sym (c.child_in-2.ensures _) ∙ c.if-not-child_in-2.false)
          _ (c.lowest-j.ensures.0 _) _ c.if-j-i.false c.try_sink.ensures.value;
      index_unchanged = c.try_sink.ensures.index_unchanged;
      counts_unchanged = c.try_sink.ensures.counts_unchanged;
    }
