-- `heap_trial::gaps::try_insert` meets its contract.
use mathlib.Core.Path.{refl, sym, ◌∙◌}
use mathlib.Core.Bool.{false}
use Rattle.heap_index.proofs.Walks.{ends_place}
use Rattle.heap_trial.proofs.Backs.{insert_at-place, insert_nowhere}
use Rattle.heap_trial.proofs.gaps.try_insert.Goals as goal

pub returns-in_default : goal.returns-in_default
returns-in_default c = record {
  value = insert_nowhere _ _ _ _ false (sym c.look.ensures ∙ c.in_default.is);
  index_unchanged = refl;
  counts_unchanged = refl;
}

pub try_at-requires : goal.try_at-requires
try_at-requires c = record {
  cover = c.requires.cover;
  n_nonzero = (c.requires.n_nonzero, rw c.place.ensures (ends_place _ _ _ _ _ (sym c.look.ensures ∙ c.in-Some.is)));
}

pub returns : goal.returns
returns c =
    record {
      value = insert_at-place _ _ _ _ _ _ (sym c.look.ensures ∙ c.in-Some.is) (rw c.place.ensures at c.try_at.ensures.value);
      index_unchanged = c.try_at.ensures.index_unchanged;
      counts_unchanged = c.try_at.ensures.counts_unchanged;
    }
