-- `heap_index::changes::close_from` meets its contract.
use Prim.Native.Nat.{◌-◌, ◌+◌, ◌*◌, ◌≤◌}
use mathlib.Core.Path.{◌≡◌, sym, ◌∙◌}
use mathlib.Core.Bool.{true}
use lib.ListN.{get_or}
use native.Mathlib.Omega.{arith}
use Rattle.heap_moves.specs.Flat.{cands_of}
use Rattle.heap_index.specs.Index.{is_name, key_on}
use Rattle.heap_index.proofs.Walks.{close-start, close-next, close_stop, close_stray, close_end, parts, name_le, key-read}
use Rattle.heap_index.proofs.changes.close_from.Goals as goal
use Rattle.heap_index.proofs.changes.close_from.Goals.{Else-not-is_name}

-- what a lemma proves of the clauses together, under each one's name
by_clause : {A B : Type 0} → A × B → record { value : A; index_after : B }
by_clause p = record { value = p.0; index_after = p.1 }

-- the word at p names a candidate
said : (c : Else-not-is_name) → is_name c.args.n (cands_of c.args.entries.now c.args.counts.now) (get_or c.loop.index c.loop.p 0) ≡ true
said c = sym (c.is_name.ensures _) ∙ c.if-not-is_name.false

few : (c : Else-not-is_name) → get_or c.loop.index c.loop.p 0 ≤ c.args.n
few c = name_le _ _ _ (said c)

key-is : (c : Else-not-is_name) → key_on c.loop.index (cands_of c.args.entries.now c.args.counts.now) c.loop.p
    ≡ get_or c.args.entries.now (4 * (get_or c.loop.index c.loop.p 0 - 1)) 0
key-is c = key-read _ _ _ (omega (arith, few c, c.requires.cover.used, c.if-w-eq0.false))

pub loop-init : goal.loop-init
loop-init c =
    let all : c.args.many - 0 ≡ c.args.many = omega arith in
    rw all (close-start _ _ _ _ _ _ c.requires.gap_in_bounds.0 c.requires.gap_in_bounds.1)

pub returns-then-w-eq0 : goal.returns-then-w-eq0
returns-then-w-eq0 c = by_clause (parts _ _ _ (close_stop _ _ _ _ _ _ _ _ c.loop.invariant (omega arith) c.if-w-eq0.true))

pub is_name-requires : goal.is_name-requires
is_name-requires c = (c.requires.cover.used, omega arith)

pub returns-then-not-is_name : goal.returns-then-not-is_name
returns-then-not-is_name c = by_clause (parts _ _ _ (close_stray _ _ _ _ _ _ _ _ c.loop.invariant (omega arith) c.if-w-eq0.false (sym (c.is_name.ensures _) ∙ c.if-not-is_name.true)))

pub overflow_mul-i : goal.overflow_mul-i
overflow_mul-i c = omega (arith, few (goal.at.overflow_mul-i c).Else-not-is_name, c.requires.cover.used, c.requires.cover.words)

pub offset_bounds-entries-i : goal.offset_bounds-entries-i
offset_bounds-entries-i c = omega (arith, few (goal.at.offset_bounds-entries-i c).Else-not-is_name, c.requires.cover.used, c.requires.cover.words)

pub bounds-entries-i : goal.bounds-entries-i
bounds-entries-i c = omega (arith, few (goal.at.bounds-entries-i c).Else-not-is_name, c.requires.cover.used, c.requires.cover.words, c.if-w-eq0.false)

pub loop-preserved : goal.loop-preserved
loop-preserved c =
    let next = close-next _ _ _ _ _ _ _ _ c.loop.invariant _ _ _ _ _ (omega arith) c.if-w-eq0.false (said (goal.at.loop-preserved c).Else-not-is_name) (key-is (goal.at.loop-preserved c).Else-not-is_name) c.home_of-h.ensures.0
    c.shift-g.ensures.value c.shift-g.ensures.index_after c.after-p.ensures.0 in
    let one : c.args.many - c.loop.counter - 1 ≡ c.args.many - (c.loop.counter + 1) = omega arith in
    rw one at next

pub returns : goal.returns
returns c = by_clause (parts _ _ _ (close_end _ _ _ _ _ _ _ _ c.loop.invariant (omega arith)))
