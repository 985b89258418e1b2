-- `univmon_indexed::stages::send_judged` meets its contract.
use Prim.Native.Nat.{ℕ, ◌*◌, ◌<◌}
use mathlib.Core.Path.{◌≡◌, refl, sym, ap, subst, ◌∙◌}
use mathlib.Core.Bool.{Bool, true, ◌&&◌}
use mathlib.Core.List.{List}
use lib.ListN.{length}
use lib.Dec.{leb}
use native.Mathlib.Omega.{arith}
use borrow.Author.Tests.{lt-ltb, le-ltb, leb-true, leb-false}
use Rattle.words.specs.Tests.{number}
use Rattle.words.proofs.Bools.{and_left, and_right, and-true}
use Rattle.header.specs.Header.{head_of}
use Rattle.layout.specs.Slices.{Lent, lent, view}
use Rattle.layout.specs.State.{all_layers}
use Rattle.words.proofs.Tests.{off_number, number_first, number-rest}
use Rattle.layout.specs.inner.Telling.{list_tests}
use Rattle.univmon_indexed.specs.Updates.{layers_tests_in}
use Rattle.univmon_indexed.specs.inner.Needs.{JudgeReadyIn, KeptIn, fine_at}
use Rattle.univmon_indexed.proofs.Grades.{judged_fine, fine_judged}
use Rattle.univmon_indexed.proofs.Judging.{same-lent}
use Rattle.std.proofs.lemmas.Result.{err_from_is_err_and}
use Rattle.refusal.specs.Refusals.{refused}
use Rattle.refusal.proofs.Numbers.{number-ne0}
use Rattle.univmon_indexed.proofs.stages.send_judged.Goals as goal
use Rattle.univmon_indexed.proofs.stages.send_judged.Goals.{After-check_layers, After-send_if_fine, In_ok-check_layers, Else-send_if_fine, Start}

-- the state that is lent
abbrev lent_of : Start → Lent
lent_of c = lent (head_of c.args.h c.args.lens.now c.args.flags.now) c.args.counters.now c.args.norms.now c.args.entries.now c.args.counts.now

-- whether its list is long enough, and whether all layers are fine
abbrev long : Start → Bool
long c = leb (2 * c.args.h.shape.layers) (length c.args.list.now)

abbrev fine : Start → Bool
fine c = let a = c.args in all_layers (fine_at a.h.shape a.«record».now a.weight a.index.now) a.many a.first (view (lent_of c))

-- the tests of the layers, and of the list
abbrev layers : Start → List (Bool × ℕ)
layers c = let a = c.args in layers_tests_in a.h.shape a.«record».now a.weight a.index.now a.many a.first (view (lent_of c))

abbrev listed : Start → List (Bool × ℕ)
listed c = list_tests (2 * c.args.h.shape.layers) (length c.args.list.now)

-- nothing was touched: the state, the index and the list are as they were
abbrev lent-now : (c : After-send_if_fine) → Lent
lent-now c = lent (head_of c.args.h c.send_if_fine.new.lens c.send_if_fine.new.flags) c.send_if_fine.new.counters c.send_if_fine.new.norms c.send_if_fine.new.entries c.send_if_fine.new.counts

abbrev index-now : (c : After-send_if_fine) → List ℕ
index-now c = c.send_if_fine.new.index

abbrev list-now : (c : After-send_if_fine) → List ℕ
list-now c = c.send_if_fine.new.list

same : (c : Else-send_if_fine) → KeptIn (lent_of (goal.at.Else-send_if_fine c).Start) (lent-now (goal.at.Else-send_if_fine c).After-send_if_fine) c.args.index.now (index-now (goal.at.Else-send_if_fine c).After-send_if_fine) c.args.list.now (list-now (goal.at.Else-send_if_fine c).After-send_if_fine)
same c = c.send_if_fine.ensures.kept_in c.if-send_if_fine.false

-- the number of the tests
number_is : (c : After-check_layers) → refused c.check_layers.result ≡ number (layers (goal.at.After-check_layers c).Start)
number_is c =
    let a = c.args in
    c.check_layers.ensures.value
    ∙ ap (λ (t : Lent). number (layers_tests_in a.h.shape a.«record».now a.weight (index-now (goal.at.After-check_layers c).After-send_if_fine) a.many a.first (view t))) (same (goal.at.After-check_layers c).Else-send_if_fine).lends
    ∙ ap (λ (xs : List ℕ). number (layers_tests_in a.h.shape a.«record».now a.weight xs a.many a.first (view (lent_of (goal.at.After-check_layers c).Start)))) (same (goal.at.After-check_layers c).Else-send_if_fine).index

-- everything is as it was
kept-all : (c : After-check_layers) → let a = c.args in let l = c.send_if_fine.new in let m = c.check_layers.new in
    KeptIn (lent_of (goal.at.After-check_layers c).Start) (lent (head_of a.h l.lens l.flags) l.counters l.norms m.entries m.counts) a.index.now m.index a.list.now (list-now (goal.at.After-check_layers c).After-send_if_fine)
kept-all c =
    let k = c.check_layers.ensures.entries_unchanged in
    record { lends = same-lent _ _ _ _ _ _ _ k.0 k.1.0 ∙ (same (goal.at.After-check_layers c).Else-send_if_fine).lends; index = k.1.1 ∙ (same (goal.at.After-check_layers c).Else-send_if_fine).index; told = (same (goal.at.After-check_layers c).Else-send_if_fine).told }

-- every layer is fine, so the list is too short
judged : (c : In_ok-check_layers) → number (layers (goal.at.In_ok-check_layers c).Start) ≡ 0
judged c = sym (number_is (goal.at.In_ok-check_layers c).After-check_layers) ∙ ap refused c.in_ok-check_layers.was

short : (c : In_ok-check_layers) → length c.args.list.now < 2 * c.args.h.shape.layers
short c =
    let a = c.args in
    let all = fine_judged a.h.shape a.«record».now a.weight a.index.now a.many a.first (view (lent_of (goal.at.In_ok-check_layers c).Start)) (judged c) in
    leb-false _ _ (sym (and-true (long (goal.at.In_ok-check_layers c).Start)) ∙ ap (λ (b : Bool). long (goal.at.In_ok-check_layers c).Start && b) (sym all) ∙ sym c.send_if_fine.ensures.value ∙ c.if-send_if_fine.false)

pub send_if_fine-requires : goal.send_if_fine-requires
send_if_fine-requires c = record {
  judge_ready_in = c.requires.judge_ready_in;
  le_many = c.requires.le_many;
}

pub returns-then-send_if_fine : goal.returns-then-send_if_fine
returns-then-send_if_fine c =
    let a = c.args in
    let both-are : long (goal.at.returns-then-send_if_fine c).Start && fine (goal.at.returns-then-send_if_fine c).Start ≡ true = sym c.send_if_fine.ensures.value ∙ c.if-send_if_fine.true in
    let z = judged_fine a.h.shape a.«record».now a.weight a.index.now a.many a.first (view (lent_of (goal.at.returns-then-send_if_fine c).Start)) (and_right (long (goal.at.returns-then-send_if_fine c).Start) (fine (goal.at.returns-then-send_if_fine c).Start) both-are) in
    let room = leb-true _ _ (and_left (long (goal.at.returns-then-send_if_fine c).Start) (fine (goal.at.returns-then-send_if_fine c).Start) both-are) in record {
      value = sym (number-rest (layers (goal.at.returns-then-send_if_fine c).Start) (listed (goal.at.returns-then-send_if_fine c).Start) (off_number (layers (goal.at.returns-then-send_if_fine c).Start) refl (sym z)) ∙ rw (le-ltb (length a.list.now) (2 * a.h.shape.layers) room));
      sent_or_kept = record { sent = λ q. c.send_if_fine.ensures.sent_all_in c.if-send_if_fine.true; kept = λ q. absurd (q refl) };
    }

pub check_layers-requires : goal.check_layers-requires
check_layers-requires c =
    let a = c.args in
    subst (λ (t : Lent). JudgeReadyIn t (index-now (goal.at.check_layers-requires c).After-send_if_fine) a.«record».now a.weight a.many a.first) (sym (same (goal.at.check_layers-requires c).Else-send_if_fine).lends)
    (subst (λ (xs : List ℕ). JudgeReadyIn (lent_of (goal.at.check_layers-requires c).Start) xs a.«record».now a.weight a.many a.first) (sym (same (goal.at.check_layers-requires c).Else-send_if_fine).index) c.requires.judge_ready_in)

pub returns-in_err-check_layers : goal.returns-in_err-check_layers
returns-in_err-check_layers c =
    let p = err_from_is_err_and c.from_residual.result c.from_residual.ensures.1 in
    rw (p.1, p.2) (let e = rw c.in_err-check_layers.was at (number_is (goal.at.returns-in_err-check_layers c).After-check_layers) in record {
      value = e ∙ sym (number_first (layers (goal.at.returns-in_err-check_layers c).Start) (listed (goal.at.returns-in_err-check_layers c).Start) (λ z. (number-ne0 c.in_err-check_layers.field-0.0) (e ∙ z)));
      sent_or_kept = record { sent = λ z. absurd (number-ne0 c.in_err-check_layers.field-0.0 z); kept = λ q. kept-all (goal.at.returns-in_err-check_layers c).After-check_layers };
    })

pub returns : goal.returns
returns c = record {
  value = sym (number-rest (layers (goal.at.returns c).Start) (listed (goal.at.returns c).Start) (off_number (layers (goal.at.returns c).Start) refl (judged (goal.at.returns c).In_ok-check_layers)) ∙ rw (lt-ltb _ _ (short (goal.at.returns c).In_ok-check_layers)));
  sent_or_kept = record { sent = λ z. absurd (omega (arith, z)); kept = λ q. kept-all (goal.at.returns c).After-check_layers };
}
