-- `indexed_state::building::build_index` meets its contract.
use mathlib.Core.Path.{refl, sym, ◌∙◌}
use lib.ListN.{length}
use Rattle.indexed_state.specs.inner.Needs.{Buildable}
use Rattle.indexed_state.proofs.Built.{buildable_of, index_kept, index-made}
use Rattle.std.proofs.lemmas.Result.{err_from_is_err_and}
use Rattle.refusal.proofs.Numbers.{number-ne0}
use Rattle.indexed_state.proofs.building.build_index.Goals as goal
use Rattle.indexed_state.proofs.building.build_index.Goals.{In_ok-check_build}

-- no test holds
fit : (c : In_ok-check_build) → let a = c.args in Buildable a.header (length a.entries.now) (length a.index.now)
fit c = let a = c.args in buildable_of a.header a.entries.now (length a.index.now) (sym c.in_ok-check_build.ensures)

pub returns-in_err-check_build : goal.returns-in_err-check_build
returns-in_err-check_build c =
    let p = err_from_is_err_and c.from_residual.result c.from_residual.ensures.1 in
    rw (p.1, p.2) (record {
      value = c.in_err-check_build.ensures;
      index_after = index_kept _ _ _ (number-ne0 c.in_err-check_build.field-0.0);
    })

pub build_tables-requires : goal.build_tables-requires
build_tables-requires c = fit (goal.at.build_tables-requires c).In_ok-check_build

pub returns : goal.returns
returns c = record {
  value = c.in_ok-check_build.ensures;
  index_after = c.build_tables.ensures ∙ index-made 0 _ _ refl;
}
