-- `heap_trial::gaps::passes_gap` meets its contract.
use mathlib.Core.Path.{◌≡◌, sym, ◌∙◌}
use mathlib.Core.Bool.{true}
use Prim.Native.Nat.{◌≤◌}
use lib.ListN.{get_or}
use native.Mathlib.Omega.{arith}
use Rattle.heap_moves.specs.Flat.{cands_of}
use Rattle.heap_index.specs.Index.{is_name}
use Rattle.heap_index.proofs.Walks.{name_le}
use Rattle.heap_trial.proofs.Closes.{gap_step, name_key}
use Rattle.heap_trial.proofs.gaps.passes_gap.Goals as goal
use Rattle.heap_trial.proofs.gaps.passes_gap.Goals.{Else-not-is_name}

-- the word at p names a candidate
said : (c : Else-not-is_name) → is_name c.args.n (cands_of c.args.entries.now c.args.counts.now) (get_or c.args.index.now c.args.p 0) ≡ true
said c = sym (c.is_name.ensures _) ∙ c.if-not-is_name.false

within : (c : Else-not-is_name) → get_or c.args.index.now c.args.p 0 ≤ c.args.n
within c = name_le _ _ _ (said c)

pub overflow_mul-i : goal.overflow_mul-i
overflow_mul-i c = omega (arith, within (goal.at.overflow_mul-i c).Else-not-is_name, c.requires.cover.used, c.requires.cover.words)

pub offset_bounds-entries-i : goal.offset_bounds-entries-i
offset_bounds-entries-i c = omega (arith, within (goal.at.offset_bounds-entries-i c).Else-not-is_name, c.requires.cover.used, c.requires.cover.words)

pub bounds-entries-i : goal.bounds-entries-i
bounds-entries-i c = omega (arith, within (goal.at.bounds-entries-i c).Else-not-is_name, c.requires.cover.used, c.requires.cover.words, c.if-x-eq0.false)

pub returns : goal.returns
returns c =
    let e = said (goal.at.returns c).Else-not-is_name in
    gap_step _ _ _ _ _ c.if-x-eq0.false e _ _ _ _ (name_key _ _ _ _ e c.if-x-eq0.false c.requires.cover) c.home_of-h.ensures.0 c.steps-back.ensures c.steps-way.ensures
