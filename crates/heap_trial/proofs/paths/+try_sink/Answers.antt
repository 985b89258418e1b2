-- `heap_trial::paths::try_sink` meets its contract.
use Prim.Native.Nat.{ℕ, ◌*◌}
use mathlib.Core.Path.{refl, sym, ap, ◌∙◌}
use native.Mathlib.Omega.{arith}
use Rattle.heap_moves.specs.Flat.{cands_of}
use Rattle.heap_moves.proofs.Views.{length-cands}
use Rattle.heap_trial.proofs.Backs.{down-left, down-right, down-stays, down_from, down_to, down_on, back-cands, back_index}
use Rattle.heap_trial.proofs.paths.+try_sink.Goals as goal

pub overflow_mul-i : goal.overflow_mul-i
overflow_mul-i t c = omega (arith, c.requires.cover.used, c.requires.i_lt_n)

pub overflow_add-i : goal.overflow_add-i
overflow_add-i t c = omega (arith, c.requires.cover.used, c.requires.i_lt_n)

pub child_in-requires : goal.child_in-requires
child_in-requires t c = c.requires.cover.used

pub returns-then-not-child_in : goal.returns-then-not-child_in
returns-then-not-child_in t c = record {
  value = down-left _ _ _ _ c.requires.i_lt_n (sym (c.child_in.ensures _) ∙ c.if-not-child_in.true);
  index_unchanged = refl;
  counts_unchanged = refl;
}

pub overflow_mul-i-2 : goal.overflow_mul-i-2
overflow_mul-i-2 t c = omega (arith, c.requires.cover.used, c.requires.i_lt_n)

pub overflow_add-i-2 : goal.overflow_add-i-2
overflow_add-i-2 t c = omega (arith, c.requires.cover.used, c.requires.i_lt_n)

pub child_in-requires-2 : goal.child_in-requires-2
child_in-requires-2 t c = c.requires.cover.used

pub returns-then-not-child_in-2 : goal.returns-then-not-child_in-2
returns-then-not-child_in-2 t c = record {
  value = down-right _ _ _ _ c.requires.i_lt_n (sym (c.child_in.ensures _) ∙ c.if-not-child_in.false) (sym (c.child_in-2.ensures _) ∙ c.if-not-child_in-2.true);
  index_unchanged = refl;
  counts_unchanged = refl;
}

pub lowest-j-requires : goal.lowest-j-requires
lowest-j-requires t c = (c.requires.i_lt_n, c.requires.cover.used)

pub returns-then-j-i : goal.returns-then-j-i
returns-then-j-i t c = record {
  value = down-stays _ _ _ _ c.requires.i_lt_n (sym (c.child_in.ensures _) ∙ c.if-not-child_in.false) (sym (c.child_in-2.ensures _) ∙ c.if-not-child_in-2.false)
      _ (c.lowest-j.ensures.0 _) c.if-j-i.true;
  index_unchanged = refl;
  counts_unchanged = refl;
}

pub found_under-requires : goal.found_under-requires
found_under-requires t c = record {
  cover = c.requires.cover;
  i_in_bounds = omega (arith, c.requires.cover.used, c.requires.i_lt_n);
}

pub returns-in_default : goal.returns-in_default
returns-in_default t c = record {
  value = down_from _ _ _ _ c.requires.i_lt_n (sym (c.child_in.ensures _) ∙ c.if-not-child_in.false) (sym (c.child_in-2.ensures _) ∙ c.if-not-child_in-2.false)
      _ (c.lowest-j.ensures.0 _) c.if-j-i.false _ c.in_default.ensures.place _ refl (omega arith);
  index_unchanged = refl;
  counts_unchanged = refl;
}

pub found_under-requires-2 : goal.found_under-requires-2
found_under-requires-2 t c = record {
  cover = c.requires.cover;
  i_in_bounds = omega (arith, c.requires.cover.used, c.lowest-j.ensures.1.1);
}

pub returns-in_default-found_under : goal.returns-in_default-found_under
returns-in_default-found_under t c = record {
  value = down_to _ _ _ _ c.requires.i_lt_n (sym (c.child_in.ensures _) ∙ c.if-not-child_in.false) (sym (c.child_in-2.ensures _) ∙ c.if-not-child_in-2.false)
      _ (c.lowest-j.ensures.0 _) c.if-j-i.false _ c.in-Some.ensures.place _ c.in_default-found_under.ensures.place c.in-Some.ensures.within (omega arith);
  index_unchanged = refl;
  counts_unchanged = refl;
}

pub swap_at-requires : goal.swap_at-requires
swap_at-requires t c =
    record {
      two = record { words = c.requires.cover.words; left = omega (arith, c.requires.cover.used, c.requires.i_lt_n); right = omega (arith, c.requires.cover.used, c.lowest-j.ensures.1.1) };
      a_in_bounds = (c.in-Some.ensures.within, c.in-Some-found_under.ensures.within);
    }

pub try_sink-r-requires : goal.try_sink-r-requires
try_sink-r-requires t c =
    let j = c.lowest-j.ensures.1 in (
      omega (arith, c.decreases, c.if-j-i.false, j.0, j.1),
      (
        record { words = c.swap_at.auto.entries ∙ c.requires.cover.words ∙ ap (λ (x : ℕ). 4 * x) (sym c.swap_at.auto.counts); used = omega (arith, c.swap_at.auto.counts, c.requires.cover.used) },
        j.1,
      ),
    )

pub swap_at-requires-2 : goal.swap_at-requires-2
swap_at-requires-2 t c =
    let w = c.try_sink-r.auto.entries ∙ c.swap_at.auto.entries in
    let n = c.try_sink-r.auto.counts ∙ c.swap_at.auto.counts in record {
      two = record { words = w ∙ c.requires.cover.words ∙ ap (λ (x : ℕ). 4 * x) (sym n); left = omega (arith, n, c.requires.cover.used, c.lowest-j.ensures.1.1); right = omega (arith, n, c.requires.cover.used, c.requires.i_lt_n) };
      a_in_bounds = (omega (arith, c.try_sink-r.auto.index, c.swap_at.auto.index, c.in-Some.ensures.within), omega (arith, c.try_sink-r.auto.index, c.swap_at.auto.index, c.in-Some-found_under.ensures.within));
    }

pub shape_of-index : goal.shape_of-index
shape_of-index t c = c.swap_at-2.auto.index ∙ c.try_sink-r.auto.index ∙ c.swap_at.auto.index

pub shape_of-entries : goal.shape_of-entries
shape_of-entries t c = c.swap_at-2.auto.entries ∙ c.try_sink-r.auto.entries ∙ c.swap_at.auto.entries

pub shape_of-counts : goal.shape_of-counts
shape_of-counts t c = c.swap_at-2.auto.counts ∙ c.try_sink-r.auto.counts ∙ c.swap_at.auto.counts

pub returns : goal.returns
returns t c =
    let a = c.in-Some in
    let b = c.in-Some-found_under in
    let s = c.swap_at in
    let r = c.try_sink-r in
    let u = c.swap_at-2 in
    let j = c.lowest-j.ensures in
    let ne = c.if-j-i.false in
    let cs = cands_of c.args.entries.now c.args.counts.now in
    let long = length-cands c.args.entries.now c.args.counts.now in record {
      value = down_on _ _ _ _ c.requires.i_lt_n (sym (c.child_in.ensures _) ∙ c.if-not-child_in.false) (sym (c.child_in-2.ensures _) ∙ c.if-not-child_in-2.false)
          _ (j.0 _) ne _ a.ensures.place _ b.ensures.place j.1.0 j.1.1 c.in-Some.ensures.within c.in-Some-found_under.ensures.within _ _ s.ensures.index_after s.ensures.counts_after _ r.ensures.value;
      index_unchanged = back_index _ _ _ _ c.args.n cs _ _ _ _ (λ e. ne (sym e)) a.ensures.place b.ensures.place c.in-Some.ensures.within c.in-Some-found_under.ensures.within s.ensures.index_after r.ensures.index_unchanged u.ensures.index_after;
      counts_unchanged = back-cands cs _ _ _ _ _ (λ e. ne (sym e)) (omega (arith, long, c.requires.cover.used, c.requires.i_lt_n)) (omega (arith, long, c.requires.cover.used, j.1.1)) s.ensures.counts_after r.ensures.counts_unchanged u.ensures.counts_after;
    }
