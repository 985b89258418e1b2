-- `state_forms::cells::lay_rows` meets its contract.
use Prim.Native.Nat.{◌+◌, ◌-◌, ◌*◌}
use lib.ListN.{take, drop}
use Rattle.state_forms.specs.Sparse.{sparse_text}
use Rattle.state_forms.specs.Grammar.{row_listing, rows_of}
use Rattle.state_forms.specs.inner.Laying.{one_text}
use Rattle.state_forms.proofs.Layings.{going_start, going_on, going_room, going_end, rows_step, rows_none, rows_start}
use Rattle.state_forms.proofs.cells.lay_rows.Goals as goal

pub loop-r-init : goal.loop-r-init
loop-r-init c = going_start c.args.out.now c.args.at (sparse_text (row_listing c.args.l c.args.cols) 0 (rows_of c.args.cols c.args.rows c.args.cells.now)) (sparse_text (row_listing c.args.l c.args.cols) 0 (rows_of c.args.cols (c.args.rows - 0) (drop (0 * c.args.cols) c.args.cells.now))) (rows_start c.args.l c.args.cols c.args.rows c.args.cells.now)

pub lay_row-p-requires : goal.lay_row-p-requires
lay_row-p-requires c =
    going_room (one_text (row_listing c.args.l c.args.cols) c.loop-r.r (take (c.loop-r.r * c.args.cols + c.args.cols - c.loop-r.r * c.args.cols) (drop (c.loop-r.r * c.args.cols) c.args.cells.now)))
    (sparse_text (row_listing c.args.l c.args.cols) (c.loop-r.r + 1) (rows_of c.args.cols (c.args.rows - (c.loop-r.r + 1)) (drop ((c.loop-r.r + 1) * c.args.cols) c.args.cells.now))) c.loop-r.invariant (rows_step c.args.l c.args.cols c.args.rows c.loop-r.r c.args.cells.now c.loop-r-test.true) c.requires.text_room

pub loop-r-preserved : goal.loop-r-preserved
loop-r-preserved c = going_on c.loop-r.invariant (rows_step c.args.l c.args.cols c.args.rows c.loop-r.r c.args.cells.now c.loop-r-test.true) c.lay_row-p.ensures

pub returns : goal.returns
returns c = going_end c.loop-r.invariant (rows_none c.args.l c.args.cols c.args.rows c.loop-r.r (drop (c.loop-r.r * c.args.cols) c.args.cells.now) c.loop-r-test.false)
