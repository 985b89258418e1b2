-- `heap_index::lookups::look` meets its contract.
use Prim.Native.Nat.{◌-◌, ◌*◌, ◌≤◌}
use mathlib.Core.Path.{◌≡◌, sym, ◌∙◌}
use mathlib.Core.Bool.{true}
use lib.ListN.{get_or}
use native.Mathlib.Omega.{arith}
use Rattle.heap_moves.specs.Flat.{cands_of}
use Rattle.heap_index.specs.Index.{is_name, key_on}
use Rattle.heap_index.proofs.Walks.{look_none, look-start, look-next, look_vacant, look_stray, look-found, look_end, name_le, key-read}
use Rattle.heap_index.proofs.lookups.look.Goals as goal
use Rattle.heap_index.proofs.lookups.look.Goals.{Else-not-is_name}

-- the word at p names a candidate
said : (c : Else-not-is_name) → is_name c.args.n (cands_of c.args.entries.now c.args.counts.now) (get_or c.args.index.now c.loop-d.p 0) ≡ true
said c = sym (c.is_name.ensures _) ∙ c.if-not-is_name.false

few : (c : Else-not-is_name) → get_or c.args.index.now c.loop-d.p 0 ≤ c.args.n
few c = name_le _ _ _ (said c)

-- and its key is the one that is read
key-is : (c : Else-not-is_name) → key_on c.args.index.now (cands_of c.args.entries.now c.args.counts.now) c.loop-d.p
    ≡ get_or c.args.entries.now (4 * (get_or c.args.index.now c.loop-d.p 0 - 1)) 0
key-is c = key-read _ _ _ (omega (arith, few c, c.requires.used, c.if-w-eq0.false))

pub returns-then-m-eq0 : goal.returns-then-m-eq0
returns-then-m-eq0 c = look_none _ _ _ _ c.if-m-eq0.true

pub loop-d-init : goal.loop-d-init
loop-d-init c = look-start _ _ _ _ _ c.home_of-p.ensures.0 c.home_of-p.ensures.1

pub returns-then-w-eq0 : goal.returns-then-w-eq0
returns-then-w-eq0 c = look_vacant _ _ _ _ _ _ c.loop-d.invariant (omega arith) c.if-w-eq0.true

pub returns-then-not-is_name : goal.returns-then-not-is_name
returns-then-not-is_name c = look_stray _ _ _ _ _ _ c.loop-d.invariant (omega arith) c.if-w-eq0.false (sym (c.is_name.ensures _) ∙ c.if-not-is_name.true)

pub overflow_mul-i : goal.overflow_mul-i
overflow_mul-i c = omega (arith, few (goal.at.overflow_mul-i c).Else-not-is_name, c.requires.used, c.requires.words)

pub offset_bounds-entries-i : goal.offset_bounds-entries-i
offset_bounds-entries-i c = omega (arith, few (goal.at.offset_bounds-entries-i c).Else-not-is_name, c.requires.used, c.requires.words)

pub bounds-entries-i : goal.bounds-entries-i
bounds-entries-i c = omega (arith, few (goal.at.bounds-entries-i c).Else-not-is_name, c.requires.used, c.requires.words, c.if-w-eq0.false)

pub returns-then-entries-i : goal.returns-then-entries-i
returns-then-entries-i c = look-found _ _ _ _ _ _ c.loop-d.invariant (omega arith) c.if-w-eq0.false (said (goal.at.returns-then-entries-i c).Else-not-is_name) (key-is (goal.at.returns-then-entries-i c).Else-not-is_name ∙ c.if-entries-i.true)

pub loop-d-preserved : goal.loop-d-preserved
loop-d-preserved c =
    let e = (goal.at.loop-d-preserved c).Else-not-is_name in
    look-next _ _ _ _ _ _ _ c.loop-d.invariant (omega arith) c.if-w-eq0.false (said e) (λ y. c.if-entries-i.false (sym (key-is e) ∙ y)) c.after-p.ensures.0

pub returns : goal.returns
returns c = look_end _ _ _ _ _ _ c.loop-d.invariant (omega arith)
