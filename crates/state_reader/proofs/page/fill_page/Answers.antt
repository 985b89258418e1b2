-- `state_reader::page::fill_page` meets its contract.
use lib.ListN.{drop}
use native.Mathlib.Omega.{arith}
use Rattle.state_reader.proofs.PageSteps.{page_fills}
use Rattle.state_reader.proofs.page.fill_page.Goals as goal

pub returns : goal.returns
returns c = record {
  result_value = c.read_page-x.ensures.result_value;
  flag_after = λ p t e. page_fills c.args.dims c.args.l (drop c.args.at c.args.s.now) p t (omega (arith, c.ranges.l)) (omega (arith, c.requires.housed.shaped.wide)) (omega (arith, c.requires.housed.shaped.few)) e c.args.cells.now c.read_page-x.new.cells c.row_norms.new.norms c.read_page-x.new.entries c.read_page-x.new.counts
      c.requires.housed.cells (c.read_page-x.ensures.cells_after p t e) c.row_norms.ensures;
}
