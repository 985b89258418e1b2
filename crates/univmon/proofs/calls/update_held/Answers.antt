-- `univmon::calls::update_held` meets its contract.
use mathlib.Core.Path.{◌≡◌, sym, ap, ◌∙◌}
use lib.ListN.{length}
use lib.IntN.{nat_abs}
use Rattle.header.specs.Shape.{max_layers}
use borrow.Author.Rules.{rules}
use mir.Facts.{to_z-of_z}
use Rattle.header.specs.Header.{head_of, begin_tests, scalars_of}
use Rattle.header.specs.Totals.{update_totals}
use Rattle.layout.specs.Slices.{lent, view, Lent}
use Rattle.layout.specs.Outcomes.{left, left_by}
use Rattle.univmon.specs.Calls.{update_list_call, lent_update_list_call}
use Rattle.univmon.specs.inner.Needs.{sent_after}
use Rattle.std.proofs.lemmas.Result.{err_from_is_err_and}
use Rattle.refusal.specs.Refusals.{number_of, refused}
use Rattle.refusal.proofs.Numbers.{number-ne0}
use Rattle.words.specs.Tests.{number}
use Rattle.header.proofs.Steps.{begin-light, begin-sum}
use Rattle.univmon.specs.Updates.{mode_of, update_answers}
use Rattle.layout.specs.Answers.{list_left}
use Rattle.univmon.proofs.Updating.{call_refused, call_done, placed_call}
use Rattle.univmon.proofs.calls.update_held.Goals as goal
use Rattle.univmon.proofs.calls.update_held.Goals.{After-flags-2-1, After-check_begin-begins, After-update, After-of_update-added, Start}

-- the state that is lent
abbrev lent_of : Start → Lent
lent_of c = lent c.args.header c.args.counters.now c.args.norms.now c.args.entries.now c.args.counts.now

-- the number that the header's own step is refused with
number_is : (c : After-check_begin-begins) → refused c.check_begin-begins.result ≡ number (begin_tests (scalars_of c.args.header) c.args.weight (mode_of c.args.kind))
number_is c = rw (to_z-of_z c.ranges.weight, c.mode_of-mode.ensures, c.scalars-scalars.ensures) at c.check_begin-begins.ensures

-- what all but the beginning left
left_is : (c : After-update) → let a = c.args in let l = c.update.new in
    left (refused c.update.result) (lent (head_of (scalars_of a.header) l.lens l.flags) l.counters l.norms l.entries l.counts)
    ≡ sent_after a.kind (number (begin_tests (scalars_of a.header) a.weight (mode_of a.kind))) a.«record».now a.weight (length a.list.now) (lent c.args.header c.args.counters.now c.args.norms.now c.args.entries.now c.args.counts.now)
left_is c =
    let a = c.args in
    let e : refused c.check_begin-begins.result ≡ number (begin_tests (scalars_of a.header) a.weight (mode_of a.kind)) =
    rw (to_z-of_z c.ranges.weight, c.mode_of-mode.ensures, c.scalars-scalars.ensures) at c.check_begin-begins.ensures in
    rw (to_z-of_z c.ranges.weight, c.scalars-scalars.ensures, e) at c.update.ensures.counts_value

-- the list is that of the whole call
told : (c : After-update) → let a = c.args in c.update.new.list ≡ list_left (refused c.update.result) (update_answers a.kind (view (lent c.args.header c.args.counters.now c.args.norms.now c.args.entries.now c.args.counts.now)) a.«record».now a.weight) a.list.now
told c = rw (to_z-of_z c.ranges.weight, c.scalars-scalars.ensures) at c.update.ensures.list_after

-- the header has 19 lengths and flags
same-call : (c : After-flags-2-1) → let a = c.args in left_by ((lent c.args.header c.args.counters.now c.args.norms.now c.args.entries.now c.args.counts.now)) (lent_update_list_call a.kind ((lent c.args.header c.args.counters.now c.args.norms.now c.args.entries.now c.args.counts.now)) a.«record».now a.weight (length a.list.now))
    ≡ left_by ((lent c.args.header c.args.counters.now c.args.norms.now c.args.entries.now c.args.counts.now)) (update_list_call a.kind ((lent c.args.header c.args.counters.now c.args.norms.now c.args.entries.now c.args.counts.now)) a.«record».now a.weight (length a.list.now))
same-call c = let a = c.args in placed_call a.kind ((lent c.args.header c.args.counters.now c.args.norms.now c.args.entries.now c.args.counts.now)) a.«record».now a.weight (length a.list.now) (let h = c.well_formed.1.0 in let k : length c.args.header.lens ≡ max_layers = search (rules, h.1.1.1.1.0.1.0.1) in k) (let h = c.well_formed.1.0 in let k : length c.args.header.flags ≡ max_layers = search (rules, h.1.1.1.1.1.0.1.0.1) in k)

pub slice_bounds-update-end : goal.slice_bounds-update-end
slice_bounds-update-end c = let h = c.well_formed.1.0 in search (rules, h.1.1.1.1.0.1.0.1)

pub slice_bounds-update-end-2 : goal.slice_bounds-update-end-2
slice_bounds-update-end-2 c = let h = c.well_formed.1.0 in search (rules, h.1.1.1.1.1.0.1.0.1)

pub update-requires : goal.update-requires
update-requires c = λ z. let a = c.args in rw (to_z-of_z c.ranges.weight) (begin-light (scalars_of a.header) a.weight (mode_of a.kind) (sym (number_is (goal.at.update-requires c).After-check_begin-begins) ∙ z))

pub returns-in_err-update : goal.returns-in_err-update
returns-in_err-update c =
    let a = c.args in
    let p = err_from_is_err_and c.from_residual.result c.from_residual.ensures.1 in
    let e = c.in_err-update.field-0.0 in
    let z : refused c.update.result ≡ number_of e = ap refused c.in_err-update.was in
    let q = call_refused a.kind (lent_of (goal.at.returns-in_err-update c).Start) a.«record».now a.weight (length a.list.now) (refused c.update.result) _ (left_is (goal.at.returns-in_err-update c).After-update) (λ k. number-ne0 e (sym z ∙ k)) in
    rw (p.1, p.2) (record {
      counts_value =
          ap (λ (t : Lent). left (number_of e) (lent a.header t.counters t.norms t.entries t.counts)) q.0
          ∙ rw z at q.1
          ∙ same-call (goal.at.returns-in_err-update c).After-flags-2-1;
      list_after = rw z at (told (goal.at.returns-in_err-update c).After-update);
    })

-- the totals that are added
added : (c : After-of_update-added) → c.of_update-added.result ≡ update_totals (nat_abs c.args.weight)
added c = rw (c.magnitude.ensures, to_z-of_z c.ranges.weight) at c.of_update-added.ensures

-- an update that is made may begin
pub begin-requires : goal.begin-requires
begin-requires c =
    let a = c.args in
    let q = call_done a.kind (lent_of (goal.at.begin-requires c).Start) a.«record».now a.weight (length a.list.now) (refused c.update.result) _ (left_is (goal.at.begin-requires c).After-update) (ap refused c.in_ok-update.was) in
    rw (added (goal.at.begin-requires c).After-of_update-added) (begin-sum (scalars_of a.header) a.weight (mode_of a.kind) q.0)

pub returns : goal.returns
returns c =
    let a = c.args in
    let done : refused c.update.result ≡ 0 = ap refused c.in_ok-update.was in
    let q = call_done a.kind (lent_of (goal.at.returns c).Start) a.«record».now a.weight (length a.list.now) (refused c.update.result) _ (left_is (goal.at.returns c).After-update) done in
    record {
      counts_value = rw (c.with_layers.ensures, c.begin.ensures, added (goal.at.returns c).After-of_update-added, c.mode_of-mode.ensures) (q.1 ∙ same-call (goal.at.returns c).After-flags-2-1);
      list_after = rw done at (told (goal.at.returns c).After-update);
    }
