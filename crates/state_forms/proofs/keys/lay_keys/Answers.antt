-- `state_forms::keys::lay_keys` meets its contract.
use Prim.Native.Nat.{◌+◌}
use mathlib.Core.Path.{refl}
use lib.ListN.{get_or, take, drop}
use lib.IntN.{pos}
use native.Mathlib.Omega.{arith}
use borrow.Author.Rules.{sfits_of}
use mir.Facts.{to_z-of_z}
use Rattle.heap_moves.specs.Flat.{cands_of, cand_of, item_of}
use Rattle.state_forms.specs.Grammar.{key_format, keys_text}
use Rattle.state_forms.proofs.Layings.{going_start, going_on, going_room, going_end, keys_step, keys_none}
use Rattle.state_forms.proofs.keys.lay_keys.Goals as goal

pub loop-i-init : goal.loop-i-init
loop-i-init c = going_start c.args.out.now c.args.at (keys_text c.args.l (take c.args.len (cands_of c.args.entries.now c.args.counts.now))) (keys_text c.args.l (take c.args.len (cands_of c.args.entries.now c.args.counts.now))) refl

pub item_at-item-requires : goal.item_at-item-requires
item_at-item-requires c = omega (arith, c.requires.len_in_bounds.1)

pub bounds-counts-i : goal.bounds-counts-i
bounds-counts-i c = omega (arith, c.requires.len_in_bounds.0)

pub lay_key-p-requires : goal.lay_key-p-requires
lay_key-p-requires c =
    rw (c.item_at-item.ensures, to_z-of_z (sfits_of c.lay_key-arg-in-loop-i-1.given))
    (going_room ((key_format c.args.l).write (cand_of (item_of c.args.entries.now c.loop-i.i) (get_or c.args.counts.now c.loop-i.i (pos 0))))
    (keys_text c.args.l (drop (c.loop-i.i + 1) (take c.args.len (cands_of c.args.entries.now c.args.counts.now)))) c.loop-i.invariant (keys_step c.args.l c.args.len c.loop-i.i c.args.entries.now c.args.counts.now c.loop-i-test.true c.requires.len_in_bounds.0) c.requires.text_room)

pub loop-i-preserved : goal.loop-i-preserved
loop-i-preserved c = going_on c.loop-i.invariant (keys_step c.args.l c.args.len c.loop-i.i c.args.entries.now c.args.counts.now c.loop-i-test.true c.requires.len_in_bounds.0) (rw (c.item_at-item.ensures, to_z-of_z (sfits_of c.lay_key-arg-in-loop-i-1.given)) at c.lay_key-p.ensures)

pub returns : goal.returns
returns c = going_end c.loop-i.invariant (keys_none c.args.l c.args.len c.loop-i.i c.args.entries.now c.args.counts.now c.loop-i-test.false c.requires.len_in_bounds.0)
