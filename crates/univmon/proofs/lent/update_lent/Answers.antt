-- `univmon::lent::update_lent` meets its contract.
use mathlib.Core.Path.{◌≡◌, sym, ap, ◌∙◌}
use lib.ListN.{length}
use lib.IntN.{nat_abs}
use mir.Facts.{to_z-of_z}
use Rattle.header.specs.Header.{head_of, begin_tests}
use Rattle.header.specs.Totals.{update_totals}
use Rattle.layout.specs.Slices.{lent, view, Lent}
use Rattle.layout.specs.Outcomes.{left}
use Rattle.univmon.specs.inner.Needs.{sent_after}
use Rattle.std.proofs.lemmas.Result.{err_from_is_err_and}
use Rattle.refusal.specs.Refusals.{number_of, refused}
use Rattle.refusal.proofs.Numbers.{number-ne0}
use Rattle.words.specs.Tests.{number}
use Rattle.header.proofs.Steps.{begin-light, begin-sum}
use Rattle.univmon.specs.Updates.{mode_of, update_answers}
use Rattle.layout.specs.Answers.{list_left}
use Rattle.univmon.proofs.Updating.{call_refused, call_done}
use Rattle.univmon.proofs.lent.update_lent.Goals as goal
use Rattle.univmon.proofs.lent.update_lent.Goals.{After-check_begin-begins, After-update, After-of_update, Start}

-- the state that is lent
abbrev lent_of : Start → Lent
lent_of c = lent (head_of c.args.scalars c.args.lens.now c.args.flags.now) c.args.counters.now c.args.norms.now c.args.entries.now c.args.counts.now

-- the number that weight and mode are refused with
number_is : (c : After-check_begin-begins) → refused c.check_begin-begins.result ≡ number (begin_tests c.args.scalars c.args.weight (mode_of c.args.kind))
number_is c = rw (to_z-of_z c.ranges.weight, c.mode_of-mode.ensures) at c.check_begin-begins.ensures

-- what all but the beginning left
left_is : (c : After-update) → let a = c.args in let l = c.update.new in
    left (refused c.update.result) (lent (head_of a.scalars l.lens l.flags) l.counters l.norms l.entries l.counts)
    ≡ sent_after a.kind (number (begin_tests a.scalars a.weight (mode_of a.kind))) a.«record».now a.weight (length a.list.now) (lent (head_of c.args.scalars c.args.lens.now c.args.flags.now) c.args.counters.now c.args.norms.now c.args.entries.now c.args.counts.now)
left_is c =
    let a = c.args in
    let e : refused c.check_begin-begins.result ≡ number (begin_tests a.scalars a.weight (mode_of a.kind)) =
    rw (to_z-of_z c.ranges.weight, c.mode_of-mode.ensures) at c.check_begin-begins.ensures in
    rw (to_z-of_z c.ranges.weight, e) at c.update.ensures.counts_value

-- the list is that of the whole call
told : (c : After-update) → let a = c.args in c.update.new.list ≡ list_left (refused c.update.result) (update_answers a.kind (view (lent (head_of c.args.scalars c.args.lens.now c.args.flags.now) c.args.counters.now c.args.norms.now c.args.entries.now c.args.counts.now)) a.«record».now a.weight) a.list.now
told c = rw (to_z-of_z c.ranges.weight) at c.update.ensures.list_after

-- the totals that are added
added : (c : After-of_update) → c.of_update.result ≡ update_totals (nat_abs c.args.weight)
added c = rw (c.magnitude.ensures, to_z-of_z c.ranges.weight) at c.of_update.ensures

pub update-requires : goal.update-requires
update-requires c = λ z. let a = c.args in rw (to_z-of_z c.ranges.weight) (begin-light a.scalars a.weight (mode_of a.kind) (sym (number_is (goal.at.update-requires c).After-check_begin-begins) ∙ z))

pub returns-in_err-update : goal.returns-in_err-update
returns-in_err-update c =
    let a = c.args in
    let p = err_from_is_err_and c.from_residual.result c.from_residual.ensures.1 in
    let e = c.in_err-update.field-0.0 in
    let z : refused c.update.result ≡ number_of e = ap refused c.in_err-update.was in
    let q = call_refused a.kind (lent_of (goal.at.returns-in_err-update c).Start) a.«record».now a.weight (length a.list.now) (refused c.update.result) _ (left_is (goal.at.returns-in_err-update c).After-update) (λ k. number-ne0 e (sym z ∙ k)) in
    rw (p.1, p.2) (record {
      counts_value = ap (left (number_of e)) q.0 ∙ rw z at q.1;
      list_after = rw z at (told (goal.at.returns-in_err-update c).After-update);
    })

-- an update that is made may begin
pub begin-requires : goal.begin-requires
begin-requires c =
    let a = c.args in
    let q = call_done a.kind (lent_of (goal.at.begin-requires c).Start) a.«record».now a.weight (length a.list.now) (refused c.update.result) _ (left_is (goal.at.begin-requires c).After-update) (ap refused c.in_ok-update.was) in
    rw (added (goal.at.begin-requires c).After-of_update) (begin-sum a.scalars a.weight (mode_of a.kind) q.0)

pub returns : goal.returns
returns c =
    let a = c.args in
    let done : refused c.update.result ≡ 0 = ap refused c.in_ok-update.was in
    let q = call_done a.kind (lent_of (goal.at.returns c).Start) a.«record».now a.weight (length a.list.now) (refused c.update.result) _ (left_is (goal.at.returns c).After-update) done in
    record {
      counts_value = rw (c.begin.ensures, added (goal.at.returns c).After-of_update, c.mode_of-mode.ensures) q.1;
      list_after = rw done at (told (goal.at.returns c).After-update);
    }
