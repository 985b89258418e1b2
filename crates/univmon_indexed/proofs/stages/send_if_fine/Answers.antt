-- `univmon_indexed::stages::send_if_fine` meets its contract.
use Prim.Native.Nat.{ℕ, ◌+◌, ◌-◌, ◌*◌}
use mathlib.Core.Path.{◌≡◌, refl, sym, ap, ◌∙◌}
use mathlib.Core.Bool.{Bool, true, false, ◌&&◌, and-false}
use mathlib.Core.List.{List}
use lib.ListN.{length}
use lib.Dec.{leb}
use native.Mathlib.Omega.{arith}
use borrow.Author.Tests.{le-leb, lt-leb}
use Rattle.words.proofs.Bools.{never, both}
use Rattle.header.specs.Header.{head_of}
use Rattle.layout.specs.Slices.{Lent, lent, view}
use Rattle.layout.specs.State.{layer_at, all_layers}
use Rattle.univmon.specs.inner.Needs.{zeroed_for}
use Rattle.layer.specs.Layer.{Layer}
use Rattle.univmon.proofs.Judging.{all_pass, first_fails, behind_fails}
use Rattle.univmon.proofs.Sending.{zeroed_room}
use Rattle.univmon_indexed.specs.inner.Needs.{SendsReadyIn, SentOneIn, KeptIn, fine_at}
use Rattle.univmon_indexed.proofs.Judging.{judge-one_in, judge-behind_in, fine_sends, same-lent}
use Rattle.univmon_indexed.proofs.Sending.{Sending, sending_start, sending_on, sending_rest, sending_all}
use Rattle.univmon_indexed.proofs.stages.send_if_fine.Goals as goal
use Rattle.univmon_indexed.proofs.stages.send_if_fine.Goals.{After-all_reach, After-send_first, Else-not-all_reach, Else-not-send_first, Start}

-- the state that is lent, the tests of its layers, and the list before they tell
abbrev lent_of : Start → Lent
lent_of c = lent (head_of c.args.h c.args.lens.now c.args.flags.now) c.args.counters.now c.args.norms.now c.args.entries.now c.args.counts.now

abbrev fine : Start → ℕ → Layer → Bool
fine c = fine_at c.args.h.shape c.args.«record».now c.args.weight c.args.index.now

abbrev blank : Start → List ℕ
blank c = zeroed_for c.args.h.shape c.args.list.now

-- whether the layers behind the first are fine
behind-is : (c : After-all_reach) → let a = c.args in c.all_reach.result ≡ all_layers (fine (goal.at.After-all_reach c).Start) (a.many - 1) (a.first + 1) (view (lent_of (goal.at.After-all_reach c).Start))
behind-is c = c.all_reach.ensures.value

-- the tests fail
unfit : (c : Start) → let a = c.args in all_layers (fine c) a.many a.first (view (lent_of c)) ≡ false
    → false ≡ leb (2 * a.h.shape.layers) (length a.list.now) && all_layers (fine c) a.many a.first (view (lent_of c))
unfit c e = let a = c.args in sym (ap (λ (b : Bool). leb (2 * a.h.shape.layers) (length a.list.now) && b) e ∙ and-false (leb (2 * a.h.shape.layers) (length a.list.now)))

-- the state, the index and the list after the first layer
abbrev lent-now : (c : After-send_first) → Lent
lent-now c = lent (head_of c.args.h c.send_first.new.lens c.send_first.new.flags) c.send_first.new.counters c.send_first.new.norms c.send_first.new.entries c.send_first.new.counts

abbrev index-now : (c : After-send_first) → List ℕ
index-now c = c.send_first.new.index

abbrev list-now : (c : After-send_first) → List ℕ
list-now c = c.send_first.new.list

-- what was answered of the first layer, and what was done, of the state that was lent
first_is : (c : After-send_first) → let a = c.args in c.send_first.result ≡ fine (goal.at.After-send_first c).Start a.first (layer_at (view (lent_of (goal.at.After-send_first c).Start)) a.first)
first_is c = let k = c.all_reach.ensures.entries_unchanged in rw (k.0, k.1.0, k.1.1) at c.send_first.ensures.value

first-sent : (c : After-send_first) → let a = c.args in c.send_first.result ≡ true
    → SentOneIn a.«record».now a.weight a.first (lent_of (goal.at.After-send_first c).Start) (lent-now c) a.index.now (index-now c) (blank (goal.at.After-send_first c).Start) (list-now c)
first-sent c = let k = c.all_reach.ensures.entries_unchanged in rw (k.0, k.1.0, k.1.1) at c.send_first.ensures.sent_one_in

first-kept : (c : After-send_first) → let a = c.args in c.send_first.result ≡ false → KeptIn (lent_of (goal.at.After-send_first c).Start) (lent-now c) a.index.now (index-now c) a.list.now (list-now c)
first-kept c = let k = c.all_reach.ensures.entries_unchanged in rw (k.0, k.1.0, k.1.1) at c.send_first.ensures.kept_in

-- every layer is fine: those behind the first, and all
behind : (c : Else-not-all_reach) → let a = c.args in all_layers (fine (goal.at.Else-not-all_reach c).Start) (a.many - 1) (a.first + 1) (view (lent_of (goal.at.Else-not-all_reach c).Start)) ≡ true
behind c = sym (behind-is (goal.at.Else-not-all_reach c).After-all_reach) ∙ c.if-not-all_reach.false

all : (c : Else-not-send_first) → let a = c.args in all_layers (fine (goal.at.Else-not-send_first c).Start) a.many a.first (view (lent_of (goal.at.Else-not-send_first c).Start)) ≡ true
all c = let a = c.args in all_pass (fine (goal.at.Else-not-send_first c).Start) (view (lent_of (goal.at.Else-not-send_first c).Start)) a.many a.first c.requires.le_many (sym (first_is (goal.at.Else-not-send_first c).After-send_first) ∙ c.if-not-send_first.false) (behind (goal.at.Else-not-send_first c).Else-not-all_reach)

sends : (c : Else-not-send_first) → let a = c.args in SendsReadyIn (lent_of (goal.at.Else-not-send_first c).Start) a.index.now a.«record».now a.weight a.many a.first
sends c = let a = c.args in fine_sends (lent_of (goal.at.Else-not-send_first c).Start) a.index.now a.«record».now a.weight a.many a.first c.requires.judge_ready_in (all c)

sending : (c : Else-not-send_first) → let a = c.args in
    Sending (lent_of (goal.at.Else-not-send_first c).Start) a.index.now a.«record».now a.weight a.many a.first (blank (goal.at.Else-not-send_first c).Start) (lent-now (goal.at.Else-not-send_first c).After-send_first) (index-now (goal.at.Else-not-send_first c).After-send_first) (list-now (goal.at.Else-not-send_first c).After-send_first) (a.first + 1)
sending c =
    let a = c.args in
    let k = c.send_first.auto in
    let h = c.requires.judge_ready_in.judge.headed in
    sending_on (lent_of (goal.at.Else-not-send_first c).Start) a.index.now a.«record».now a.weight a.many a.first (sends c) (blank (goal.at.Else-not-send_first c).Start) (lent_of (goal.at.Else-not-send_first c).Start) a.index.now (blank (goal.at.Else-not-send_first c).Start) a.first
    (sending_start (lent_of (goal.at.Else-not-send_first c).Start) a.index.now a.«record».now a.weight a.many a.first (sends c) (blank (goal.at.Else-not-send_first c).Start)) (omega (arith, c.requires.le_many)) (lent-now (goal.at.Else-not-send_first c).After-send_first) (index-now (goal.at.Else-not-send_first c).After-send_first) (list-now (goal.at.Else-not-send_first c).After-send_first) (zeroed_room a.h.shape a.list.now)
    (first-sent (goal.at.Else-not-send_first c).After-send_first (c.if-not-send_first.false)) (record { lens = k.lens ∙ h.lens; flags = k.flags ∙ h.flags })

-- as many layers are left
left_is : (c : Start) → c.args.many - 1 + (c.args.first + 1) ≡ c.args.many + c.args.first
left_is c = omega (arith, c.requires.le_many)

pub overflow_mul-h : goal.overflow_mul-h
overflow_mul-h c = record { fits = omega (arith, c.requires.judge_ready_in.judge.standing.accepted.few) }

pub returns-then-list-h : goal.returns-then-list-h
returns-then-list-h c = record {
  value = rw (lt-leb _ _ c.if-list-h.true);
  sent_all_in = λ t. absurd (never t);
  kept_in = λ t. record { lends = refl; index = refl; told = refl };
}

pub overflow_add-next : goal.overflow_add-next
overflow_add-next c = let p = c.requires.judge_ready_in.judge in record { fits = omega (arith, p.inside, p.standing.accepted.few) }

pub overflow_sub-rest : goal.overflow_sub-rest
overflow_sub-rest c = c.requires.le_many

pub all_reach-requires : goal.all_reach-requires
all_reach-requires c = let a = c.args in judge-behind_in (lent_of (goal.at.all_reach-requires c).Start) a.index.now a.«record».now a.weight a.many a.first c.requires.judge_ready_in c.requires.le_many

pub returns-then-not-all_reach : goal.returns-then-not-all_reach
returns-then-not-all_reach c =
    let a = c.args in
    let k = c.all_reach.ensures.entries_unchanged in record {
      value = unfit (goal.at.returns-then-not-all_reach c).Start (behind_fails (fine (goal.at.returns-then-not-all_reach c).Start) (view (lent_of (goal.at.returns-then-not-all_reach c).Start)) a.many a.first c.requires.le_many (sym (behind-is (goal.at.returns-then-not-all_reach c).After-all_reach) ∙ c.if-not-all_reach.true));
      sent_all_in = λ t. absurd (never t);
      kept_in = λ t. record { lends = same-lent (head_of a.h a.lens.now a.flags.now) a.counters.now a.norms.now a.entries.now a.counts.now _ _ k.0 k.1.0; index = k.1.1; told = refl };
    }

pub send_first-requires : goal.send_first-requires
send_first-requires c =
    let a = c.args in
    let k = c.all_reach.ensures.entries_unchanged in record {
      judge_ready_in = rw (k.0, k.1.0, k.1.1) (judge-one_in (lent_of (goal.at.send_first-requires c).Start) a.index.now a.«record».now a.weight a.many a.first a.first c.requires.judge_ready_in (omega (arith, c.requires.le_many)));
      layers_in_bounds = c.if-list-h.false;
    }

pub returns-then-not-send_first : goal.returns-then-not-send_first
returns-then-not-send_first c =
    let a = c.args in
    let n = c.if-not-send_first.true in record {
      value = unfit (goal.at.returns-then-not-send_first c).Start (first_fails (fine (goal.at.returns-then-not-send_first c).Start) (view (lent_of (goal.at.returns-then-not-send_first c).Start)) a.many a.first c.requires.le_many (sym (first_is (goal.at.returns-then-not-send_first c).After-send_first) ∙ n));
      sent_all_in = λ t. absurd (never t);
      kept_in = λ t. first-kept (goal.at.returns-then-not-send_first c).After-send_first n;
    }

pub send-requires : goal.send-requires
send-requires c =
    let a = c.args in
    let v = sending (goal.at.send-requires c).Else-not-send_first in record {
      sends_ready_in = sending_rest (lent_of (goal.at.send-requires c).Start) a.index.now a.«record».now a.weight a.many a.first (sends (goal.at.send-requires c).Else-not-send_first) (blank (goal.at.send-requires c).Start) (lent-now (goal.at.send-requires c).After-send_first) (index-now (goal.at.send-requires c).After-send_first) (list-now (goal.at.send-requires c).After-send_first) (a.first + 1) v (a.many - 1) (left_is (goal.at.send-requires c).Start)
          (fine_sends (lent_of (goal.at.send-requires c).Start) a.index.now a.«record».now a.weight (a.many - 1) (a.first + 1) (judge-behind_in (lent_of (goal.at.send-requires c).Start) a.index.now a.«record».now a.weight a.many a.first c.requires.judge_ready_in c.requires.le_many) (behind (goal.at.send-requires c).Else-not-all_reach));
      layers_in_bounds = omega (arith, v.told.long, zeroed_room a.h.shape a.list.now);
    }

pub shape_of-lens : goal.shape_of-lens
shape_of-lens c = c.send.auto.lens ∙ c.send_first.auto.lens

pub shape_of-flags : goal.shape_of-flags
shape_of-flags c = c.send.auto.flags ∙ c.send_first.auto.flags

pub shape_of-counters : goal.shape_of-counters
shape_of-counters c = c.send.auto.counters ∙ c.send_first.auto.counters

pub shape_of-norms : goal.shape_of-norms
shape_of-norms c = c.send.auto.norms ∙ c.send_first.auto.norms

pub shape_of-entries : goal.shape_of-entries
shape_of-entries c = c.send.auto.entries ∙ c.send_first.auto.entries ∙ c.all_reach.auto.entries

pub shape_of-counts : goal.shape_of-counts
shape_of-counts c = c.send.auto.counts ∙ c.send_first.auto.counts ∙ c.all_reach.auto.counts

pub shape_of-index : goal.shape_of-index
shape_of-index c = c.send.auto.index ∙ c.send_first.auto.index ∙ c.all_reach.auto.index

pub shape_of-list : goal.shape_of-list
shape_of-list c = c.send.auto.list ∙ c.send_first.auto.list

pub returns : goal.returns
returns c =
    let a = c.args in record {
      value = sym (both (le-leb _ _ c.if-list-h.false) (all (goal.at.returns c).Else-not-send_first));
      sent_all_in = λ t. sending_all (lent_of (goal.at.returns c).Start) a.index.now a.«record».now a.weight a.many a.first (sends (goal.at.returns c).Else-not-send_first) (blank (goal.at.returns c).Start) (lent-now (goal.at.returns c).After-send_first) (index-now (goal.at.returns c).After-send_first) (list-now (goal.at.returns c).After-send_first) (a.first + 1) (sending (goal.at.returns c).Else-not-send_first) (a.many - 1) (left_is (goal.at.returns c).Start) _ _ _ c.send.ensures;
      kept_in = λ t. absurd (never (sym t));
    }
