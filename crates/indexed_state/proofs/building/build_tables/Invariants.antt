-- `indexed_state::building::build_tables` meets its contract.
use Rattle.indexed_state.proofs.Built.{Built}
use Rattle.indexed_state.proofs.building.build_tables.Given as goal

abbrev pub invariant-loop-l : goal.invariant-loop-l
invariant-loop-l l = Built l.header l.entries l.initial.index l.index l.l
