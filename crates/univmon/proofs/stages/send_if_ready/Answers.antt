-- `univmon::stages::send_if_ready` meets its contract.
use Prim.Native.Nat.{ℕ, ◌+◌, ◌-◌, ◌*◌}
use mathlib.Core.Path.{◌≡◌, refl, sym, ap, ◌∙◌}
use mathlib.Core.Bool.{Bool, true, false, ◌&&◌, and-false}
use mathlib.Core.List.{List}
use lib.ListN.{length}
use lib.Dec.{leb}
use native.Mathlib.Omega.{arith}
use borrow.Author.Tests.{le-leb, lt-leb}
use Rattle.header.specs.Header.{head_of}
use Rattle.layout.specs.Slices.{lent, view, Lent}
use Rattle.univmon.specs.inner.Needs.{ready_at, SendsReady, zeroed_for}
use Rattle.words.proofs.Bools.{never, both}
use Rattle.layer.specs.Layer.{Layer}
use Rattle.layout.specs.State.{all_layers}
use Rattle.univmon.proofs.Judging.{judge-one, judge-behind, ready_sends, all_pass, first_fails, behind_fails}
use Rattle.univmon.proofs.Sending.{Sending, zeroed_room, sending_start, sending_on, sending_rest, sending_all}
use Rattle.univmon.proofs.stages.send_if_ready.Goals as goal
use Rattle.univmon.proofs.stages.send_if_ready.Goals.{Else-not-all_ready, Else-not-send_first, Start}

-- the state that is lent, the tests of its layers, and the list before they tell
abbrev lent_of : Start → Lent
lent_of c = lent (head_of c.args.h c.args.lens.now c.args.flags.now) c.args.counters.now c.args.norms.now c.args.entries.now c.args.counts.now

abbrev ready : Start → ℕ → Layer → Bool
ready c = ready_at c.args.h.shape c.args.«record».now c.args.weight

abbrev blank : Start → List ℕ
blank c = zeroed_for c.args.h.shape c.args.list.now

-- the tests fail
unready : (c : Start) → let a = c.args in all_layers (ready c) a.many a.first (view (lent_of c)) ≡ false
    → false ≡ leb (2 * a.h.shape.layers) (length a.list.now) && all_layers (ready c) a.many a.first (view (lent_of c))
unready c e = let a = c.args in sym (ap (λ (b : Bool). leb (2 * a.h.shape.layers) (length a.list.now) && b) e ∙ and-false (leb (2 * a.h.shape.layers) (length a.list.now)))

-- every layer is ready: those behind the first, and all
behind : (c : Else-not-all_ready) → let a = c.args in all_layers ((ready_at c.args.h.shape c.args.«record».now c.args.weight)) (a.many - 1) (a.first + 1) (view ((lent (head_of c.args.h c.args.lens.now c.args.flags.now) c.args.counters.now c.args.norms.now c.args.entries.now c.args.counts.now))) ≡ true
behind c = sym c.all_ready.ensures ∙ c.if-not-all_ready.false

all : (c : Else-not-send_first) → let a = c.args in all_layers ((ready_at c.args.h.shape c.args.«record».now c.args.weight)) a.many a.first (view ((lent (head_of c.args.h c.args.lens.now c.args.flags.now) c.args.counters.now c.args.norms.now c.args.entries.now c.args.counts.now))) ≡ true
all c = let a = c.args in all_pass ((ready_at c.args.h.shape c.args.«record».now c.args.weight)) (view ((lent (head_of c.args.h c.args.lens.now c.args.flags.now) c.args.counters.now c.args.norms.now c.args.entries.now c.args.counts.now))) a.many a.first c.requires.le_many (sym c.send_first.ensures.value ∙ c.if-not-send_first.false) ((sym c.all_ready.ensures ∙ c.if-not-all_ready.false))

sends : (c : Else-not-send_first) → let a = c.args in SendsReady ((lent (head_of c.args.h c.args.lens.now c.args.flags.now) c.args.counters.now c.args.norms.now c.args.entries.now c.args.counts.now)) a.«record».now a.weight a.many a.first
sends c = let a = c.args in ready_sends ((lent (head_of c.args.h c.args.lens.now c.args.flags.now) c.args.counters.now c.args.norms.now c.args.entries.now c.args.counts.now)) a.«record».now a.weight a.many a.first c.requires.judge_ready (all c)

-- the state and the list after the first layer
abbrev lent-now : (c : Else-not-send_first) → Lent
lent-now c = lent (head_of c.args.h c.send_first.new.lens c.send_first.new.flags) c.send_first.new.counters c.send_first.new.norms c.send_first.new.entries c.send_first.new.counts

abbrev list-now : (c : Else-not-send_first) → List ℕ
list-now c = c.send_first.new.list

sending : (c : Else-not-send_first) → let a = c.args in Sending ((lent (head_of c.args.h c.args.lens.now c.args.flags.now) c.args.counters.now c.args.norms.now c.args.entries.now c.args.counts.now)) a.«record».now a.weight a.many a.first ((zeroed_for c.args.h.shape c.args.list.now)) (lent-now c) (list-now c) (a.first + 1)
sending c =
    let a = c.args in
    let k = c.send_first.auto in
    let h = c.requires.judge_ready.headed in
    sending_on ((lent (head_of c.args.h c.args.lens.now c.args.flags.now) c.args.counters.now c.args.norms.now c.args.entries.now c.args.counts.now)) a.«record».now a.weight a.many a.first (sends c) ((zeroed_for c.args.h.shape c.args.list.now)) ((lent (head_of c.args.h c.args.lens.now c.args.flags.now) c.args.counters.now c.args.norms.now c.args.entries.now c.args.counts.now)) ((zeroed_for c.args.h.shape c.args.list.now)) a.first
    (sending_start ((lent (head_of c.args.h c.args.lens.now c.args.flags.now) c.args.counters.now c.args.norms.now c.args.entries.now c.args.counts.now)) a.«record».now a.weight a.many a.first (sends c) ((zeroed_for c.args.h.shape c.args.list.now))) (omega (arith, c.requires.le_many)) (lent-now c) (list-now c) (zeroed_room a.h.shape a.list.now)
    (c.send_first.ensures.sent_one (c.if-not-send_first.false)) (record { lens = k.lens ∙ h.lens; flags = k.flags ∙ h.flags })

-- as many layers are left
left_is : (c : Start) → c.args.many - 1 + (c.args.first + 1) ≡ c.args.many + c.args.first
left_is c = omega (arith, c.requires.le_many)

pub overflow_mul-h : goal.overflow_mul-h
overflow_mul-h c = record { fits = omega (arith, c.requires.judge_ready.standing.accepted.few) }

pub returns-then-list-h : goal.returns-then-list-h
returns-then-list-h c = record {
  value = rw (lt-leb _ _ c.if-list-h.true);
  sent_all = λ t. absurd (never t);
  counts_value = λ t. (refl, refl);
}

pub overflow_add-next : goal.overflow_add-next
overflow_add-next c = let p = c.requires.judge_ready in record { fits = omega (arith, p.inside, p.standing.accepted.few) }

pub overflow_sub-rest : goal.overflow_sub-rest
overflow_sub-rest c = c.requires.le_many

pub all_ready-requires : goal.all_ready-requires
all_ready-requires c = let a = c.args in judge-behind (lent_of (goal.at.all_ready-requires c).Start) a.«record».now a.weight a.many a.first c.requires.judge_ready c.requires.le_many

pub returns-then-not-all_ready : goal.returns-then-not-all_ready
returns-then-not-all_ready c =
    let a = c.args in record {
      value = unready (goal.at.returns-then-not-all_ready c).Start (behind_fails (ready (goal.at.returns-then-not-all_ready c).Start) (view (lent_of (goal.at.returns-then-not-all_ready c).Start)) a.many a.first c.requires.le_many (sym c.all_ready.ensures ∙ c.if-not-all_ready.true));
      sent_all = λ t. absurd (never t);
      counts_value = λ t. (refl, refl);
    }

pub send_first-requires : goal.send_first-requires
send_first-requires c =
    let a = c.args in
    record {
      judge_ready = judge-one (lent_of (goal.at.send_first-requires c).Start) a.«record».now a.weight a.many a.first a.first c.requires.judge_ready (omega (arith, c.requires.le_many));
      layers_in_bounds = c.if-list-h.false;
    }

pub returns-then-not-send_first : goal.returns-then-not-send_first
returns-then-not-send_first c =
    let a = c.args in
    let n = c.if-not-send_first.true in record {
      value = unready (goal.at.returns-then-not-send_first c).Start (first_fails (ready (goal.at.returns-then-not-send_first c).Start) (view (lent_of (goal.at.returns-then-not-send_first c).Start)) a.many a.first c.requires.le_many (sym c.send_first.ensures.value ∙ n));
      sent_all = λ t. absurd (never t);
      counts_value = λ t. c.send_first.ensures.counts_value n;
    }

pub send-requires : goal.send-requires
send-requires c =
    let a = c.args in
    let v = sending (goal.at.send-requires c).Else-not-send_first in record {
      sends_ready = sending_rest (lent_of (goal.at.send-requires c).Start) a.«record».now a.weight a.many a.first (sends (goal.at.send-requires c).Else-not-send_first) (blank (goal.at.send-requires c).Start) (lent-now (goal.at.send-requires c).Else-not-send_first) (list-now (goal.at.send-requires c).Else-not-send_first) (a.first + 1) v (a.many - 1) (left_is (goal.at.send-requires c).Start)
          (ready_sends (lent_of (goal.at.send-requires c).Start) a.«record».now a.weight (a.many - 1) (a.first + 1) (judge-behind (lent_of (goal.at.send-requires c).Start) a.«record».now a.weight a.many a.first c.requires.judge_ready c.requires.le_many) (behind (goal.at.send-requires c).Else-not-all_ready));
      layers_in_bounds = omega (arith, v.told.long, zeroed_room a.h.shape a.list.now);
    }

pub shape_of-lens : goal.shape_of-lens
shape_of-lens c = c.send.auto.lens ∙ c.send_first.auto.lens

pub shape_of-flags : goal.shape_of-flags
shape_of-flags c = c.send.auto.flags ∙ c.send_first.auto.flags

pub shape_of-counters : goal.shape_of-counters
shape_of-counters c = c.send.auto.counters ∙ c.send_first.auto.counters

pub shape_of-norms : goal.shape_of-norms
shape_of-norms c = c.send.auto.norms ∙ c.send_first.auto.norms

pub shape_of-entries : goal.shape_of-entries
shape_of-entries c = c.send.auto.entries ∙ c.send_first.auto.entries

pub shape_of-counts : goal.shape_of-counts
shape_of-counts c = c.send.auto.counts ∙ c.send_first.auto.counts

pub shape_of-list : goal.shape_of-list
shape_of-list c = c.send.auto.list ∙ c.send_first.auto.list

pub returns : goal.returns
returns c =
    let a = c.args in record {
      value = sym (both (le-leb _ _ c.if-list-h.false) (all (goal.at.returns c).Else-not-send_first));
      sent_all = λ t. sending_all (lent_of (goal.at.returns c).Start) a.«record».now a.weight a.many a.first (sends (goal.at.returns c).Else-not-send_first) (blank (goal.at.returns c).Start) (lent-now (goal.at.returns c).Else-not-send_first) (list-now (goal.at.returns c).Else-not-send_first) (a.first + 1) (sending (goal.at.returns c).Else-not-send_first) (a.many - 1) (left_is (goal.at.returns c).Start) _ _ c.send.ensures;
      counts_value = λ t. absurd (never (sym t));
    }
