-- `heap_trial::offers::try_displace` meets its contract.
use mathlib.Core.Path.{refl, sym, ◌∙◌}
use native.Mathlib.Omega.{arith}
use borrow.Author.Rules.{sfits_of}
use mir.Facts.{to_z-of_z}
use Rattle.heap_trial.proofs.Backs.{try_range-root, try_less, try_more}
use Rattle.heap_trial.proofs.offers.try_displace.Goals as goal

pub returns-then-not-in_range : goal.returns-then-not-in_range
returns-then-not-in_range c =
    let i = c.in_range in
    let said = rw (to_z-of_z (sfits_of c.in_range-arg-1.given)) at i.ensures in
    record {
      value = try_range-root _ _ _ _ _ _ _ (to_z-of_z c.ranges.v) (omega (arith, c.requires.cover.used, c.requires.n_nonzero)) (sym said ∙ c.if-not-in_range.true);
      index_unchanged = refl;
      counts_unchanged = refl;
    }

pub returns-then-counts-v : goal.returns-then-counts-v
returns-then-counts-v c =
    let i = c.in_range in
    let said = rw (to_z-of_z (sfits_of c.in_range-arg-1.given)) at i.ensures in
    record {
      value = try_more _ _ _ _ _ _ _ (to_z-of_z c.ranges.v) (omega (arith, c.requires.cover.used, c.requires.n_nonzero)) (sym said ∙ c.if-not-in_range.false) c.t9-1.given c.if-counts-v.true _ c.try_replace.ensures.value;
      index_unchanged = c.try_replace.ensures.index_unchanged;
      counts_unchanged = c.try_replace.ensures.counts_unchanged;
    }

pub returns : goal.returns
returns c =
    let i = c.in_range in
    let said = rw (to_z-of_z (sfits_of c.in_range-arg-1.given)) at i.ensures in record {
      value = try_less _ _ _ _ _ _ _ (to_z-of_z c.ranges.v) (omega (arith, c.requires.cover.used, c.requires.n_nonzero)) (sym said ∙ c.if-not-in_range.false) c.t9-1.given c.if-counts-v.false;
      index_unchanged = refl;
      counts_unchanged = refl;
    }
