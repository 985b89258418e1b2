-- `univmon_indexed::lent::update_lent` meets its contract.
use Prim.Native.Nat.{ℕ}
use mathlib.Core.Path.{◌≡◌, sym, ap, ◌∙◌}
use mathlib.Core.List.{List}
use lib.ListN.{length}
use lib.IntN.{nat_abs}
use mir.Facts.{to_z-of_z}
use Rattle.words.specs.Tests.{number}
use Rattle.header.specs.Header.{head_of, begin_tests}
use Rattle.layout.specs.Slices.{Lent, lent}
use Rattle.layout.specs.Outcomes.{left}
use Rattle.header.specs.Answers.{AnsweredLent, answered_lent_by}
use Rattle.std.proofs.lemmas.Result.{err_from_is_err_and}
use Rattle.refusal.specs.Refusals.{number_of, refused}
use Rattle.refusal.proofs.Numbers.{number-ne0}
use Rattle.header.proofs.Steps.{begun_is, begin-number, begin-light}
use Rattle.univmon.specs.Updates.{mode_of}
use Rattle.univmon_indexed.specs.inner.Needs.{KeySentOrKept, staged_tests}
use Rattle.univmon_indexed.proofs.Updating.{call_refused, call_done, sent-inside, index-left, list_left_lem, index_kept, list_left-kept}
use Rattle.univmon_indexed.proofs.lent.update_lent.Goals as goal
use Rattle.univmon_indexed.proofs.lent.update_lent.Goals.{After-begins, After-update, Start}

-- the state that is lent
abbrev lent_of : Start → Lent
lent_of c = lent (head_of c.args.scalars c.args.lens.now c.args.flags.now) c.args.counters.now c.args.norms.now c.args.entries.now c.args.counts.now

-- the number that weight and mode are refused with
number_is : (c : After-begins) → refused c.begins.result ≡ number (begin_tests c.args.scalars c.args.weight (mode_of c.args.kind))
number_is c =
    let a = c.args in
    c.begins.ensures
    ∙ ap (λ (b : AnsweredLent). b.refusal) (rw (to_z-of_z c.ranges.weight, c.mode_of.ensures) at c.begin_update-begun.ensures)
    ∙ begin-number a.scalars a.weight (mode_of a.kind)

-- the state, the index and the list as they are left
abbrev lent-now : (c : After-update) → Lent
lent-now c = let l = c.update.new in lent (head_of c.args.scalars l.lens l.flags) l.counters l.norms l.entries l.counts

abbrev index-now : (c : After-update) → List ℕ
index-now c = c.update.new.index

abbrev list-now : (c : After-update) → List ℕ
list-now c = c.update.new.list

-- what all but the beginning answered and left
staged : (c : After-update) → let a = c.args in
    refused c.update.result ≡ number (staged_tests a.kind (number (begin_tests a.scalars a.weight (mode_of a.kind))) (lent_of (goal.at.After-update c).Start) a.index.now a.«record».now a.weight (length a.list.now))
staged c = rw (to_z-of_z c.ranges.weight, number_is (goal.at.After-update c).After-begins) at c.update.ensures.value

done : (c : After-update) → let a = c.args in
    KeySentOrKept a.kind a.«record».now (nat_abs a.weight) (lent_of (goal.at.After-update c).Start) (lent-now c) a.index.now (index-now c) a.list.now (list-now c) (refused c.update.result)
done c = rw (to_z-of_z c.ranges.weight) at c.update.ensures.key_sent_or_kept

pub update-requires : goal.update-requires
update-requires c = λ z. let a = c.args in rw (to_z-of_z c.ranges.weight) (begin-light a.scalars a.weight (mode_of a.kind) (sym (number_is (goal.at.update-requires c).After-begins) ∙ z))

pub returns-in_err-update : goal.returns-in_err-update
returns-in_err-update c =
    let a = c.args in
    let r = lent_of (goal.at.returns-in_err-update c).Start in
    let e = c.in_err-update.field-0.0 in
    let p = err_from_is_err_and c.from_residual.result c.from_residual.ensures.1 in
    let made = rw c.in_err-update.was at (staged (goal.at.returns-in_err-update c).After-update) in
    let left-as = rw c.in_err-update.was at (done (goal.at.returns-in_err-update c).After-update) in
    let q = call_refused a.kind r a.index.now a.«record».now a.weight (length a.list.now) (number_of e) _ _ _ _ made left-as (number-ne0 e) in
    rw (p.1, p.2) (record {
      counts_value = ap (left (number_of e)) q.0 ∙ q.1;
      index_after = index_kept a.kind r a.index.now a.«record».now a.weight (length a.list.now) (number_of e) _ _ _ _ made left-as (number-ne0 e);
      list_after = list_left-kept a.kind r a.index.now a.«record».now a.weight (length a.list.now) (number_of e) _ _ _ _ made left-as (number-ne0 e);
    })

-- an update that is made has begun
pub returns : goal.returns
returns c =
    let a = c.args in
    let r = lent_of (goal.at.returns c).Start in
    let n = refused c.update.result in
    let o : refused c.update.result ≡ 0 = ap refused c.in_ok-update.was in
    let made = staged (goal.at.returns c).After-update in
    let left-as = done (goal.at.returns c).After-update in
    let q = call_done a.kind r a.index.now a.«record».now a.weight (length a.list.now) n _ _ _ _ made left-as o (λ i. (c.slice_known-9-1.given i).fits) in
    let b = rw (to_z-of_z c.ranges.weight, c.mode_of.ensures) at c.begin_update-begun.ensures in
    let z : refused c.begin_update-begun.result ≡ 0 = ap (λ (m : AnsweredLent). m.refusal) b ∙ begin-number a.scalars a.weight (mode_of a.kind) ∙ q.0 in record {
      counts_value = rw (z, begun_is a.scalars a.weight (mode_of a.kind) (answered_lent_by a.scalars c.begin_update-begun.result) b z) q.1;
      index_after = rw z (index-left a.kind r a.index.now a.«record».now a.weight (length a.list.now) n _ _ _ _ made left-as o);
      list_after = rw z (list_left_lem a.kind r a.index.now a.«record».now a.weight (length a.list.now) n _ _ _ _ made left-as (sent-inside a.kind r a.index.now a.«record».now a.weight (length a.list.now) n _ _ _ _ made left-as o) o);
    }
