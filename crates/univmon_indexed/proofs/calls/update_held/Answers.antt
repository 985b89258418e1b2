-- `univmon_indexed::calls::update_held` meets its contract.
use Prim.Native.Nat.{ℕ}
use mathlib.Core.Path.{◌≡◌, sym, ap, ◌∙◌}
use mathlib.Core.List.{List}
use lib.ListN.{length}
use lib.IntN.{nat_abs}
use borrow.Author.Rules.{rules}
use mir.Facts.{to_z-of_z}
use Rattle.words.specs.Tests.{number}
use Rattle.header.specs.Shape.{max_layers}
use Rattle.header.specs.Header.{head_of, begin_tests, scalars_of}
use Rattle.layout.specs.Slices.{Lent, lent}
use Rattle.layout.specs.Outcomes.{left, left_by}
use Rattle.header.specs.Answers.{Answered, answered_by}
use Rattle.std.proofs.Common.{refl, Ok}
use Rattle.std.proofs.lemmas.Result.{err_from_is_err_and}
use Rattle.refusal.specs.Refusals.{number_of, refused}
use Rattle.refusal.proofs.Numbers.{number-ne0}
use Rattle.header.proofs.Steps.{header_begun, header_number, begin-light}
use Rattle.univmon.specs.Updates.{mode_of}
use Rattle.univmon_indexed.specs.Calls.{indexed_update_call, lent_indexed_update_call}
use Rattle.univmon_indexed.specs.inner.Needs.{KeySentOrKept, staged_tests}
use Rattle.univmon_indexed.proofs.Updating.{call_refused, call_done, sent-inside, index-left, list_left_lem, index_kept, list_left-kept, placed_call}
use Rattle.univmon_indexed.proofs.calls.update_held.Goals as goal
use Rattle.univmon_indexed.proofs.calls.update_held.Goals.{After-begins, After-flags-2-1, After-update, Start}

-- the state that is lent
abbrev lent_of : Start → Lent
lent_of c = lent c.args.header c.args.counters.now c.args.norms.now c.args.entries.now c.args.counts.now

-- the number that the header's own step is refused with
number_is : (c : After-begins) → refused c.begins.result ≡ number (begin_tests (scalars_of c.args.header) c.args.weight (mode_of c.args.kind))
number_is c =
    let a = c.args in
    c.begins.ensures
    ∙ ap (λ (b : Answered). b.refusal) (rw (to_z-of_z c.ranges.weight, c.mode_of.ensures) at c.begin_update-begun.ensures)
    ∙ header_number a.header a.weight (mode_of a.kind)

-- the state, the index and the list as they are left
abbrev lent-now : (c : After-update) → Lent
lent-now c = let l = c.update.new in lent (head_of (scalars_of c.args.header) l.lens l.flags) l.counters l.norms l.entries l.counts

abbrev index-now : (c : After-update) → List ℕ
index-now c = c.update.new.index

abbrev list-now : (c : After-update) → List ℕ
list-now c = c.update.new.list

-- what all but the beginning answered and left
staged : (c : After-update) → let a = c.args in
    refused c.update.result ≡ number (staged_tests a.kind (number (begin_tests (scalars_of a.header) a.weight (mode_of a.kind))) (lent_of (goal.at.After-update c).Start) a.index.now a.«record».now a.weight (length a.list.now))
staged c =
    let a = c.args in
    rw (to_z-of_z c.ranges.weight, c.scalars.ensures) at c.update.ensures.value
    ∙ ap (λ (b : ℕ). number (staged_tests a.kind b (lent_of (goal.at.After-update c).Start) a.index.now a.«record».now a.weight (length a.list.now))) (number_is (goal.at.After-update c).After-begins)

done : (c : After-update) → let a = c.args in
    KeySentOrKept a.kind a.«record».now (nat_abs a.weight) (lent_of (goal.at.After-update c).Start) (lent-now c) a.index.now (index-now c) a.list.now (list-now c) (refused c.update.result)
done c = rw (to_z-of_z c.ranges.weight, c.scalars.ensures) at c.update.ensures.key_sent_or_kept

-- the header has 19 lengths and flags
same-call : (c : After-flags-2-1) → let a = c.args in left_by (lent_of (goal.at.After-flags-2-1 c).Start) (lent_indexed_update_call a.kind (lent_of (goal.at.After-flags-2-1 c).Start) a.index.now a.«record».now a.weight (length a.list.now))
    ≡ left_by (lent_of (goal.at.After-flags-2-1 c).Start) (indexed_update_call a.kind (lent_of (goal.at.After-flags-2-1 c).Start) a.index.now a.«record».now a.weight (length a.list.now))
same-call c = let a = c.args in placed_call a.kind (lent_of (goal.at.After-flags-2-1 c).Start) a.index.now a.«record».now a.weight (length a.list.now) (let h = c.well_formed.1.0 in let k : length c.args.header.lens ≡ max_layers = search (rules, h.1.1.1.1.0.1.0.1) in k) (let h = c.well_formed.1.0 in let k : length c.args.header.flags ≡ max_layers = search (rules, h.1.1.1.1.1.0.1.0.1) in k)

pub slice_bounds-update-end : goal.slice_bounds-update-end
slice_bounds-update-end c = let h = c.well_formed.1.0 in search (rules, h.1.1.1.1.0.1.0.1)

pub slice_bounds-update-end-2 : goal.slice_bounds-update-end-2
slice_bounds-update-end-2 c = let h = c.well_formed.1.0 in search (rules, h.1.1.1.1.1.0.1.0.1)

pub update-requires : goal.update-requires
update-requires c = λ z. let a = c.args in rw (to_z-of_z c.ranges.weight) (begin-light (scalars_of a.header) a.weight (mode_of a.kind) (sym (number_is (goal.at.update-requires c).After-begins) ∙ z))

pub returns-in_err-update : goal.returns-in_err-update
returns-in_err-update c =
    let a = c.args in
    let r = lent_of (goal.at.returns-in_err-update c).Start in
    let e = c.in_err-update.field-0.0 in
    let p = err_from_is_err_and c.from_residual.result c.from_residual.ensures.1 in
    let made = rw c.in_err-update.was at (staged (goal.at.returns-in_err-update c).After-update) in
    let left-as = rw c.in_err-update.was at (done (goal.at.returns-in_err-update c).After-update) in
    let q = call_refused a.kind r a.index.now a.«record».now a.weight (length a.list.now) (number_of e) _ _ _ _ made left-as (number-ne0 e) in
    rw (p.1, p.2) (record {
      counts_value = ap (λ (t : Lent). left (number_of e) (lent a.header t.counters t.norms t.entries t.counts)) q.0 ∙ q.1 ∙ same-call (goal.at.returns-in_err-update c).After-flags-2-1;
      index_after = index_kept a.kind r a.index.now a.«record».now a.weight (length a.list.now) (number_of e) _ _ _ _ made left-as (number-ne0 e);
      list_after = list_left-kept a.kind r a.index.now a.«record».now a.weight (length a.list.now) (number_of e) _ _ _ _ made left-as (number-ne0 e);
    })

-- an update that is made has begun
pub returns-in_err-begun : goal.returns-in_err-begun
returns-in_err-begun c =
    let a = c.args in
    let q = call_done a.kind (lent_of (goal.at.returns-in_err-begun c).Start) a.index.now a.«record».now a.weight (length a.list.now) (refused c.update.result) _ _ _ _ (staged (goal.at.returns-in_err-begun c).After-update) (done (goal.at.returns-in_err-begun c).After-update) (ap refused c.in_ok-update.was) (λ i. (c.slice_known-5-1.given i).fits) in
    let n : number_of c.in_err-begun.field-0.0 ≡ 0 =
    ap (λ (b : Answered). b.refusal) (rw (to_z-of_z c.ranges.weight, c.mode_of.ensures) at c.in_err-begun.ensures)
    ∙ header_number a.header a.weight (mode_of a.kind)
    ∙ q.0 in
    absurd (number-ne0 c.in_err-begun.field-0.0 n)

pub returns : goal.returns
returns c =
    let a = c.args in
    let r = lent_of (goal.at.returns c).Start in
    let n = refused c.update.result in
    let o : refused c.update.result ≡ 0 = ap refused c.in_ok-update.was in
    let made = staged (goal.at.returns c).After-update in
    let left-as = done (goal.at.returns c).After-update in
    let q = call_done a.kind r a.index.now a.«record».now a.weight (length a.list.now) n _ _ _ _ made left-as o (λ i. (c.slice_known-5-1.given i).fits) in
    let b = rw (to_z-of_z c.ranges.weight, c.mode_of.ensures) at c.in_ok-begun.ensures in record {
      counts_value = rw (c.with_layers.ensures, header_begun a.header a.weight (mode_of a.kind) (answered_by a.header (Ok c.in_ok-begun.field-0)) b refl) (q.1 ∙ same-call (goal.at.returns c).After-flags-2-1);
      index_after = index-left a.kind r a.index.now a.«record».now a.weight (length a.list.now) n _ _ _ _ made left-as o;
      list_after = list_left_lem a.kind r a.index.now a.«record».now a.weight (length a.list.now) n _ _ _ _ made left-as (sent-inside a.kind r a.index.now a.«record».now a.weight (length a.list.now) n _ _ _ _ made left-as o) o;
    }
