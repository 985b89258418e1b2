-- `indexed_state::building::build_tables` meets its contract.
use native.Mathlib.Omega.{arith}
use mathlib.Core.Path.{◌∙◌}
use Rattle.indexed_state.proofs.Built.{built_start, built_on, built_end}
use Rattle.indexed_state.proofs.building.build_tables.Goals as goal

pub loop-l-init : goal.loop-l-init
loop-l-init c = let a = c.args in built_start a.header a.entries.now a.index.now

pub build_table-requires : goal.build_table-requires
build_table-requires c =
    let p = c.requires in
    record {
      buildable = record { accepted = p.accepted; entries = p.entries; tables = c.loop-l.invariant.long ∙ p.tables; lens = p.lens };
      l_lt_layers = c.loop-l-test.true;
    }

pub loop-l-preserved : goal.loop-l-preserved
loop-l-preserved c = built_on _ _ _ _ _ _ c.loop-l.invariant c.requires.tables c.loop-l-test.true c.build_table.ensures

pub returns : goal.returns
returns c = built_end _ _ _ _ _ c.loop-l.invariant (omega arith)
