-- `univmon::stages::send_judged` meets its contract.
use Prim.Native.Nat.{◌*◌, ◌<◌}
use mathlib.Core.Path.{◌≡◌, sym, ap, subst, ◌∙◌}
use mathlib.Core.Bool.{Bool, true, ◌&&◌}
use lib.ListN.{length}
use lib.Dec.{leb}
use native.Mathlib.Omega.{arith}
use borrow.Author.Tests.{leb-true, leb-false}
use Rattle.header.specs.Header.{head_of}
use Rattle.layout.specs.Slices.{lent, view, Lent}
use Rattle.layout.specs.Outcomes.{left}
use Rattle.univmon.specs.inner.Needs.{JudgeReady, ready_at}
use Rattle.words.specs.Tests.{number}
use Rattle.std.proofs.lemmas.Result.{err_from_is_err_and}
use Rattle.refusal.specs.Refusals.{number_of}
use Rattle.refusal.proofs.Numbers.{number-ne0}
use Rattle.words.proofs.Bools.{and_left, and_right, and-true}
use Rattle.layout.specs.State.{all_layers}
use Rattle.layout.proofs.Telling.{list-kept}
use Rattle.univmon.specs.Updates.{layers_tests}
use Rattle.univmon.proofs.Judging.{judged_ready, ready_judged}
use Rattle.univmon.proofs.Updating.{sent-refused, sent-short, sent_done, sent-told}
use Rattle.univmon.proofs.stages.send_judged.Goals as goal
use Rattle.univmon.proofs.stages.send_judged.Goals.{In_ok-check_layers, Else-send_if_ready, Start}

-- the state that is lent
abbrev lent_of : Start → Lent
lent_of c = lent (head_of c.args.h c.args.lens.now c.args.flags.now) c.args.counters.now c.args.norms.now c.args.entries.now c.args.counts.now

-- whether its list is long enough, and whether all layers are ready
abbrev long : Start → Bool
long c = leb (2 * c.args.h.shape.layers) (length c.args.list.now)

abbrev ready : Start → Bool
ready c = let a = c.args in all_layers (ready_at a.h.shape a.«record».now a.weight) a.many a.first (view (lent_of c))

-- nothing was touched: the state and the list are as they were
abbrev lent-now : (c : Else-send_if_ready) → Lent
lent-now c = lent (head_of c.args.h c.send_if_ready.new.lens c.send_if_ready.new.flags) c.send_if_ready.new.counters c.send_if_ready.new.norms c.send_if_ready.new.entries c.send_if_ready.new.counts

same : (c : Else-send_if_ready) → lent-now c ≡ (lent (head_of c.args.h c.args.lens.now c.args.flags.now) c.args.counters.now c.args.norms.now c.args.entries.now c.args.counts.now)
same c = (c.send_if_ready.ensures.counts_value c.if-send_if_ready.false).0

-- the tests of the layers, as they were before
tests-same : (c : Else-send_if_ready) → let a = c.args in number (layers_tests a.h.shape a.«record».now a.weight a.many a.first (view (lent-now c))) ≡ number (layers_tests a.h.shape a.«record».now a.weight a.many a.first (view (lent (head_of c.args.h c.args.lens.now c.args.flags.now) c.args.counters.now c.args.norms.now c.args.entries.now c.args.counts.now)))
tests-same c = let a = c.args in ap (λ (t : Lent). number (layers_tests a.h.shape a.«record».now a.weight a.many a.first (view t))) (c.send_if_ready.ensures.counts_value c.if-send_if_ready.false).0

-- every layer is ready, so the list is too short
judged : (c : In_ok-check_layers) → let a = c.args in number (layers_tests a.h.shape a.«record».now a.weight a.many a.first (view (lent (head_of c.args.h c.args.lens.now c.args.flags.now) c.args.counters.now c.args.norms.now c.args.entries.now c.args.counts.now))) ≡ 0
judged c =
    let a = c.args in
    sym (c.in_ok-check_layers.ensures ∙ ap (λ (t : Lent). number (layers_tests a.h.shape a.«record».now a.weight a.many a.first (view t))) (c.send_if_ready.ensures.counts_value c.if-send_if_ready.false).0)

short : (c : In_ok-check_layers) → length c.args.list.now < 2 * c.args.h.shape.layers
short c =
    let a = c.args in
    let all = ready_judged a.h.shape a.«record».now a.weight a.many a.first (view ((lent (head_of c.args.h c.args.lens.now c.args.flags.now) c.args.counters.now c.args.norms.now c.args.entries.now c.args.counts.now))) (judged c) in
    leb-false _ _ (sym (and-true ((leb (2 * c.args.h.shape.layers) (length c.args.list.now)))) ∙ ap (λ (b : Bool). (leb (2 * c.args.h.shape.layers) (length c.args.list.now)) && b) (sym all) ∙ sym c.send_if_ready.ensures.value ∙ c.if-send_if_ready.false)

pub send_if_ready-requires : goal.send_if_ready-requires
send_if_ready-requires c = record {
  judge_ready = c.requires.judge_ready;
  le_many = c.requires.le_many;
}

pub returns-then-send_if_ready : goal.returns-then-send_if_ready
returns-then-send_if_ready c =
    let a = c.args in
    let both-are : long (goal.at.returns-then-send_if_ready c).Start && ready (goal.at.returns-then-send_if_ready c).Start ≡ true = sym c.send_if_ready.ensures.value ∙ c.if-send_if_ready.true in
    let s = c.send_if_ready.ensures.sent_all c.if-send_if_ready.true in record {
      counts_value = sent_done a.«record».now a.weight a.many a.first (lent_of (goal.at.returns-then-send_if_ready c).Start) (length a.list.now) _
          (sym (judged_ready a.h.shape a.«record».now a.weight a.many a.first (view (lent_of (goal.at.returns-then-send_if_ready c).Start)) (and_right (long (goal.at.returns-then-send_if_ready c).Start) (ready (goal.at.returns-then-send_if_ready c).Start) both-are)))
          (leb-true _ _ (and_left (long (goal.at.returns-then-send_if_ready c).Start) (ready (goal.at.returns-then-send_if_ready c).Start) both-are)) s.standing (λ i. (c.slice_known-8-1.given i).fits) s.layers;
      list_after = sent-told a.«record».now a.weight a.many a.first (lent_of (goal.at.returns-then-send_if_ready c).Start) a.list.now _ c.requires.judge_ready.inside s.told;
    }

pub check_layers-requires : goal.check_layers-requires
check_layers-requires c = let a = c.args in subst (λ (t : Lent). JudgeReady t a.«record».now a.weight a.many a.first) (sym (same (goal.at.check_layers-requires c).Else-send_if_ready)) c.requires.judge_ready

pub returns-in_err-check_layers : goal.returns-in_err-check_layers
returns-in_err-check_layers c =
    let a = c.args in
    let k = (goal.at.returns-in_err-check_layers c).Else-send_if_ready in
    let p = err_from_is_err_and c.from_residual.result c.from_residual.ensures.1 in
    let n = number_of c.in_err-check_layers.field-0.0 in
    rw (p.1, p.2) (record {
      counts_value = ap (left n) (same k) ∙ sent-refused a.«record».now a.weight a.many a.first (lent_of (goal.at.returns-in_err-check_layers c).Start) (length a.list.now) n (c.in_err-check_layers.ensures ∙ tests-same k) (number-ne0 c.in_err-check_layers.field-0.0);
      list_after = (c.send_if_ready.ensures.counts_value c.if-send_if_ready.false).1 ∙ list-kept n _ _ (number-ne0 c.in_err-check_layers.field-0.0);
    })

pub returns : goal.returns
returns c =
    let a = c.args in record {
      counts_value = ap (left 16) (same (goal.at.returns c).Else-send_if_ready) ∙ sent-short a.«record».now a.weight a.many a.first (lent_of (goal.at.returns c).Start) (length a.list.now) (judged (goal.at.returns c).In_ok-check_layers) (short (goal.at.returns c).In_ok-check_layers);
      list_after = (c.send_if_ready.ensures.counts_value c.if-send_if_ready.false).1 ∙ list-kept 16 _ _ (λ e. omega (arith, e));
    }
