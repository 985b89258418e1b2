-- `univmon_merge::calls::merge` meets its contract.
use Prim.Native.Nat.{ℕ, ◌*◌}
use mathlib.Core.Path.{◌≡◌, sym, ap, ◌∙◌}
use mathlib.Core.List.{◌++◌}
use lib.ListN.{length}
use Rattle.layout.specs.Slices.{lent, view, Lent}
use Rattle.words.specs.Tests.{number}
use Rattle.header.specs.Header.{begun}
use Rattle.layout.specs.Outcomes.{left}
use Rattle.layout.specs.inner.Telling.{list_tests}
use Rattle.layout.proofs.Telling.{list-kept}
use Rattle.univmon_merge.specs.Merges.{merge_tests, merged}
use Rattle.layout.proofs.Flatten.{lent_is}
use Rattle.univmon_merge.proofs.MergeCalls.{merge-refused, merge_done, totals_fit, merges_of, merged_is, told_is, list-room}
use Rattle.std.proofs.lemmas.Result.{err_from_is_err_and}
use Rattle.refusal.specs.Refusals.{number_of}
use Rattle.refusal.proofs.Numbers.{number-ne0}
use Rattle.univmon_merge.proofs.calls.merge.Goals as goal
use Rattle.univmon_merge.proofs.calls.merge.Goals.{After-begin-begun, After-merge_layers, In_ok-check_merge, Start}

-- the two states that are lent
abbrev lent_of : Start → Lent
lent_of c = lent c.args.header c.args.counters.now c.args.norms.now c.args.entries.now c.args.counts.now

abbrev other-of : Start → Lent
other-of c = lent c.args.other c.args.other_counters.now c.args.other_norms.now c.args.other_entries.now c.args.other_counts.now

-- the words of the list
abbrev many : Start → ℕ
many c = length c.args.list.now

-- nothing is refused
none : (c : In_ok-check_merge) → let h = c.args.header.shape in number (merge_tests (lent_of (goal.at.In_ok-check_merge c).Start) (other-of (goal.at.In_ok-check_merge c).Start) ++ list_tests (4 * h.heap_size * h.layers) (many (goal.at.In_ok-check_merge c).Start)) ≡ 0
none c = sym c.in_ok-check_merge.ensures

-- the header with the sum of the totals and its mode
header-set : (c : After-begin-begun) → c.begin-begun.result ≡ begun c.args.header c.args.other.totals c.args.other.mode
header-set c = c.begin-begun.ensures

-- the state as it was left
view-now : (c : After-merge_layers) → let l = c.merge_layers.new in
    view (lent c.merge_layers.result l.counters l.norms l.entries l.counts) ≡ merged (view (lent_of (goal.at.After-merge_layers c).Start)) (view (other-of (goal.at.After-merge_layers c).Start))
view-now c = rw (header-set (goal.at.After-merge_layers c).After-begin-begun) at c.merge_layers.ensures.counts_value ∙ merged_is (lent_of (goal.at.After-merge_layers c).Start) (other-of (goal.at.After-merge_layers c).Start)

pub returns-in_err-check_merge : goal.returns-in_err-check_merge
returns-in_err-check_merge c =
    let p = err_from_is_err_and c.from_residual.result c.from_residual.ensures.1 in
    rw (p.1, p.2) (record {
      counts_value = merge-refused (lent_of (goal.at.returns-in_err-check_merge c).Start) (other-of (goal.at.returns-in_err-check_merge c).Start) (many (goal.at.returns-in_err-check_merge c).Start) (number_of c.in_err-check_merge.field-0.0) c.in_err-check_merge.ensures (number-ne0 c.in_err-check_merge.field-0.0);
      list_after = list-kept (number_of c.in_err-check_merge.field-0.0) _ _ (number-ne0 c.in_err-check_merge.field-0.0);
    })

pub begin-begun-requires : goal.begin-begun-requires
begin-begun-requires c = totals_fit (lent_of (goal.at.begin-begun-requires c).Start) (other-of (goal.at.begin-begun-requires c).Start) (many (goal.at.begin-begun-requires c).Start) (none (goal.at.begin-begun-requires c).In_ok-check_merge)

pub merge_layers-requires : goal.merge_layers-requires
merge_layers-requires c =
    rw (header-set (goal.at.merge_layers-requires c).After-begin-begun)
    (record {
      merges_ready = merges_of (lent_of (goal.at.merge_layers-requires c).Start) (other-of (goal.at.merge_layers-requires c).Start) (many (goal.at.merge_layers-requires c).Start) (none (goal.at.merge_layers-requires c).In_ok-check_merge) c.args.other.totals c.args.other.mode;
      layers_in_bounds = list-room (lent_of (goal.at.merge_layers-requires c).Start) (other-of (goal.at.merge_layers-requires c).Start) (many (goal.at.merge_layers-requires c).Start) (none (goal.at.merge_layers-requires c).In_ok-check_merge);
    })

pub returns : goal.returns
returns c =
    record {
      counts_value = ap (left 0) (lent_is _ (merged (view (lent_of (goal.at.returns c).Start)) (view (other-of (goal.at.returns c).Start))) c.merge_layers.ensures.standing (λ k. (c.slice_known-4-1.given k).fits) (view-now (goal.at.returns c).After-merge_layers))
          ∙ merge_done (lent_of (goal.at.returns c).Start) (other-of (goal.at.returns c).Start) (many (goal.at.returns c).Start) (none (goal.at.returns c).In_ok-check_merge);
      list_after = told_is (lent_of (goal.at.returns c).Start) (other-of (goal.at.returns c).Start) c.args.list.now _ (list-room (lent_of (goal.at.returns c).Start) (other-of (goal.at.returns c).Start) (many (goal.at.returns c).Start) (none (goal.at.returns c).In_ok-check_merge)) (rw (header-set (goal.at.returns c).After-begin-begun) at c.merge_layers.ensures.list_after);
    }
