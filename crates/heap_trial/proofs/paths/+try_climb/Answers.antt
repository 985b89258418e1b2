-- `heap_trial::paths::try_climb` meets its contract.
use Prim.Native.Nat.{ℕ, ◌-◌, ◌*◌, ◌/◌}
use mathlib.Core.Path.{refl, sym, ap, ◌∙◌}
use native.Mathlib.Omega.{arith}
use Rattle.heap_moves.specs.Flat.{cands_of}
use Rattle.heap_moves.proofs.Views.{length-cands}
use Rattle.heap_trial.proofs.Backs.{try_top, try_range, try_stays, try_left, try_right, try_on, back-cands, back_index}
use Rattle.heap_trial.proofs.paths.+try_climb.Goals as goal

pub returns-then-i-eq0 : goal.returns-then-i-eq0
returns-then-i-eq0 t c = record {
  value = try_top _ _ _ _ c.if-i-eq0.true;
  index_unchanged = refl;
  counts_unchanged = refl;
}

pub child_in-requires : goal.child_in-requires
child_in-requires t c = c.requires.cover.used

pub returns-then-not-child_in : goal.returns-then-not-child_in
returns-then-not-child_in t c = record {
  value = try_range _ _ _ _ c.if-i-eq0.false c.requires.i_lt_n (sym (c.child_in.ensures _) ∙ c.if-not-child_in.true);
  index_unchanged = refl;
  counts_unchanged = refl;
}

pub should_swap-requires : goal.should_swap-requires
should_swap-requires t c = (omega (arith, c.requires.cover.used, c.requires.i_lt_n), omega (arith, c.requires.cover.used, c.requires.i_lt_n))

pub returns-then-not-should_swap : goal.returns-then-not-should_swap
returns-then-not-should_swap t c = record {
  value = try_stays _ _ _ _ c.if-i-eq0.false c.requires.i_lt_n (sym (c.child_in.ensures _) ∙ c.if-not-child_in.false)
      (sym (c.should_swap.ensures _) ∙ c.if-not-should_swap.true);
  index_unchanged = refl;
  counts_unchanged = refl;
}

pub found_under-requires : goal.found_under-requires
found_under-requires t c = record {
  cover = c.requires.cover;
  i_in_bounds = omega (arith, c.requires.cover.used, c.requires.i_lt_n);
}

pub returns-in_default : goal.returns-in_default
returns-in_default t c = record {
  value = try_left _ _ _ _ c.if-i-eq0.false c.requires.i_lt_n (sym (c.child_in.ensures _) ∙ c.if-not-child_in.false)
      (sym (c.should_swap.ensures _) ∙ c.if-not-should_swap.false) _ c.in_default.ensures.place _ refl (omega arith);
  index_unchanged = refl;
  counts_unchanged = refl;
}

pub found_under-requires-2 : goal.found_under-requires-2
found_under-requires-2 t c = record {
  cover = c.requires.cover;
  i_in_bounds = omega (arith, c.requires.cover.used, c.requires.i_lt_n);
}

pub returns-in_default-found_under : goal.returns-in_default-found_under
returns-in_default-found_under t c = record {
  value = try_right _ _ _ _ c.if-i-eq0.false c.requires.i_lt_n (sym (c.child_in.ensures _) ∙ c.if-not-child_in.false)
      (sym (c.should_swap.ensures _) ∙ c.if-not-should_swap.false) _ c.in-Some.ensures.place _ c.in_default-found_under.ensures.place c.in-Some.ensures.within (omega arith);
  index_unchanged = refl;
  counts_unchanged = refl;
}

pub swap_at-requires : goal.swap_at-requires
swap_at-requires t c =
    record {
      two = record { words = c.requires.cover.words; left = omega (arith, c.requires.cover.used, c.requires.i_lt_n); right = omega (arith, c.requires.cover.used, c.requires.i_lt_n) };
      a_in_bounds = (c.in-Some.ensures.within, c.in-Some-found_under.ensures.within);
    }

pub try_climb-r-requires : goal.try_climb-r-requires
try_climb-r-requires t c = (
  omega (arith, c.decreases, c.if-i-eq0.false),
  (
    record { words = c.swap_at.auto.entries ∙ c.requires.cover.words ∙ ap (λ (x : ℕ). 4 * x) (sym c.swap_at.auto.counts); used = omega (arith, c.swap_at.auto.counts, c.requires.cover.used) },
    omega (arith, c.requires.i_lt_n),
  ),
)

pub swap_at-requires-2 : goal.swap_at-requires-2
swap_at-requires-2 t c =
    let w = c.try_climb-r.auto.entries ∙ c.swap_at.auto.entries in
    let n = c.try_climb-r.auto.counts ∙ c.swap_at.auto.counts in record {
      two = record { words = w ∙ c.requires.cover.words ∙ ap (λ (x : ℕ). 4 * x) (sym n); left = omega (arith, n, c.requires.cover.used, c.requires.i_lt_n); right = omega (arith, n, c.requires.cover.used, c.requires.i_lt_n) };
      a_in_bounds = (omega (arith, c.try_climb-r.auto.index, c.swap_at.auto.index, c.in-Some.ensures.within), omega (arith, c.try_climb-r.auto.index, c.swap_at.auto.index, c.in-Some-found_under.ensures.within));
    }

pub shape_of-index : goal.shape_of-index
shape_of-index t c = c.swap_at-2.auto.index ∙ c.try_climb-r.auto.index ∙ c.swap_at.auto.index

pub shape_of-entries : goal.shape_of-entries
shape_of-entries t c = c.swap_at-2.auto.entries ∙ c.try_climb-r.auto.entries ∙ c.swap_at.auto.entries

pub shape_of-counts : goal.shape_of-counts
shape_of-counts t c = c.swap_at-2.auto.counts ∙ c.try_climb-r.auto.counts ∙ c.swap_at.auto.counts

pub returns : goal.returns
returns t c =
    let a = c.in-Some in
    let b = c.in-Some-found_under in
    let s = c.swap_at in
    let r = c.try_climb-r in
    let u = c.swap_at-2 in
    let h = c.if-i-eq0.false in
    let cs = cands_of c.args.entries.now c.args.counts.now in
    let long = length-cands c.args.entries.now c.args.counts.now in record {
      value = try_on _ _ _ _ h c.requires.i_lt_n (sym (c.child_in.ensures _) ∙ c.if-not-child_in.false)
          (sym (c.should_swap.ensures _) ∙ c.if-not-should_swap.false) _ a.ensures.place _ b.ensures.place c.in-Some.ensures.within c.in-Some-found_under.ensures.within _ _ s.ensures.index_after s.ensures.counts_after _ r.ensures.value;
      index_unchanged = back_index _ _ _ _ c.args.n cs _ _ _ _ (λ e. omega (arith, e, h)) a.ensures.place b.ensures.place c.in-Some.ensures.within c.in-Some-found_under.ensures.within s.ensures.index_after r.ensures.index_unchanged u.ensures.index_after;
      counts_unchanged = back-cands cs _ _ _ ((c.args.i - 1) / 2) c.args.i (λ e. omega (arith, e, h)) (omega (arith, long, c.requires.cover.used, c.requires.i_lt_n)) (omega (arith, long, c.requires.cover.used, c.requires.i_lt_n)) s.ensures.counts_after r.ensures.counts_unchanged u.ensures.counts_after;
    }
