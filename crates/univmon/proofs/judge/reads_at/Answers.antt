-- `univmon::judge::reads_at` meets its contract.
use Prim.Native.Nat.{◌*◌, ◌<◌}
use mathlib.Core.Path.{sym, ap, ◌∙◌}
use mathlib.Core.Bool.{false}
use lib.ListN.{get_or}
use native.Mathlib.Omega.{arith}
use borrow.Author.Rules.{rules}
use Rattle.header.specs.Header.{head_of}
use Rattle.layout.specs.Slices.{lent, Lent}
use Rattle.layout.specs.State.{cand_off}
use Rattle.layout.proofs.Views.{layer-view, housed_here}
use Rattle.words.specs.Parts.{part}
use Rattle.univmon.specs.Updates.{reads_at}
use Rattle.univmon.proofs.judge.reads_at.Goals as goal
use Rattle.univmon.proofs.judge.reads_at.Goals.{Start}

-- the state that is lent
abbrev lent_of : Start → Lent
lent_of c = lent (head_of c.args.h c.args.lens.now c.args.flags.now) c.args.counters.now c.args.norms.now c.args.entries.now c.args.counts.now

inside : (c : Start) → c.args.l < c.args.h.shape.layers
inside c = let p = c.requires in omega (arith, p.inside)

pub item_in-item-requires : goal.item_in-item-requires
item_in-item-requires c = let p = c.requires in let i = inside (goal.at.item_in-item-requires c).Start in (omega (arith, i, p.standing.accepted.few), omega (arith, i, p.recorded))

pub offset_bounds-lens-l : goal.offset_bounds-lens-l
offset_bounds-lens-l c = let p = c.requires in let q = p.standing.accepted.few in let i = inside (goal.at.offset_bounds-lens-l c).Start in let hl = p.headed.lens in search rules

pub bounds-lens-l : goal.bounds-lens-l
bounds-lens-l c = let p = c.requires in let q = p.standing.accepted.few in let i = inside (goal.at.bounds-lens-l c).Start in let hl = p.headed.lens in search rules

pub cells_at-requires : goal.cells_at-requires
cells_at-requires c = let z = c.requires.standing in record {
  accepted = z.accepted;
  l_lt_layers = inside (goal.at.cells_at-requires c).Start;
  counters_len = z.sizes.cells;
}

pub norms_at-requires : goal.norms_at-requires
norms_at-requires c = let z = c.requires.standing in record {
  accepted = z.accepted;
  l_lt_layers = inside (goal.at.norms_at-requires c).Start;
  norms_len = z.sizes.norms;
}

pub seats_at-requires : goal.seats_at-requires
seats_at-requires c = let z = c.requires.standing in record {
  accepted = z.accepted;
  l_lt_layers = inside (goal.at.seats_at-requires c).Start;
  counts_len = z.sizes.counts;
}

pub add_reads-requires : goal.add_reads-requires
add_reads-requires c =
    rw (c.dims-d.ensures, c.cells_at.ensures, c.norms_at.ensures, c.seats_at.ensures) (housed_here (lent_of (goal.at.add_reads-requires c).Start) c.requires.standing c.args.l (inside (goal.at.add_reads-requires c).Start))

pub returns : goal.returns
returns c =
    λ w.
    let a = c.args in
    let sh = a.h.shape in
    rw (c.dims-d.ensures, c.item_in-item.ensures, c.cells_at.ensures, c.norms_at.ensures, c.seats_at.ensures) at
    (c.add_reads.ensures (part (4 * cand_off sh a.l) (4 * sh.heap_size) a.entries.now) (get_or a.flags.now a.l false) w)
    ∙ ap (reads_at sh a.«record».now w a.l) (sym (layer-view (lent_of (goal.at.returns c).Start) c.requires.standing.sizes a.l (inside (goal.at.returns c).Start)))
