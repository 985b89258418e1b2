-- `univmon_indexed::stages::send_key` meets its contract.
use Prim.Native.Nat.{ℕ, ◌+◌, ◌-◌}
use mathlib.Core.Path.{◌≡◌, ap, ◌∙◌}
use native.Mathlib.Omega.{arith}
use Rattle.header.specs.Header.{head_of}
use Rattle.layout.specs.Slices.{Lent, lent, view}
use Rattle.header.specs.Shape.{bottom_of}
use Rattle.univmon.specs.Updates.{first_sent, many_sent, bottom_by}
use Rattle.univmon.proofs.Touched.{first_below, many-some, many-sent}
use Rattle.univmon_indexed.proofs.Updating.{judge-ready_in}
use Rattle.univmon_indexed.proofs.stages.send_key.Goals as goal
use Rattle.univmon_indexed.proofs.stages.send_key.Goals.{After-bottom_of-bottom, After-first_sent-first, Start}

-- the state that is lent
abbrev lent_of : Start → Lent
lent_of c = lent (head_of c.args.h c.args.lens.now c.args.flags.now) c.args.counters.now c.args.norms.now c.args.entries.now c.args.counts.now

-- the layers that the key is sent to
bottom-is : (c : After-bottom_of-bottom) → c.bottom_of-bottom.result ≡ bottom_by (view (lent_of (goal.at.After-bottom_of-bottom c).Start)) c.args.«record».now
unfolding view
bottom-is c = c.bottom_of-bottom.ensures.0 ∙ ap (λ (n : ℕ). bottom_of n c.args.h.shape.layers) c.requires.bottom_hash_value

first_is : (c : After-first_sent-first) → c.first_sent-first.result ≡ first_sent c.args.kind (bottom_by (view (lent_of (goal.at.After-first_sent-first c).Start)) c.args.«record».now)
first_is c = c.first_sent-first.ensures ∙ ap (first_sent c.args.kind) (bottom-is (goal.at.After-first_sent-first c).After-bottom_of-bottom)

many_is : (c : After-first_sent-first) → c.bottom_of-bottom.result + 1 - c.first_sent-first.result ≡ many_sent c.args.kind (bottom_by (view (lent_of (goal.at.After-first_sent-first c).Start)) c.args.«record».now)
many_is c = rw c.first_sent-first.ensures (many-sent c.args.kind c.bottom_of-bottom.result) ∙ ap (many_sent c.args.kind) (bottom-is (goal.at.After-first_sent-first c).After-bottom_of-bottom)

pub bottom_of-bottom-requires : goal.bottom_of-bottom-requires
bottom_of-bottom-requires c = let q = c.requires.key_ready_in.key.standing.accepted in (q.some, omega (arith, q.few))

pub overflow_add-many : goal.overflow_add-many
overflow_add-many c = let q = c.requires.key_ready_in.key.standing.accepted in record { fits = omega (arith, q.few, c.bottom_of-bottom.ensures.1) }

pub overflow_sub-many : goal.overflow_sub-many
overflow_sub-many c = rw c.first_sent-first.ensures (first_below c.args.kind c.bottom_of-bottom.result)

pub send_judged-requires : goal.send_judged-requires
send_judged-requires c =
    let a = c.args in
    rw (many_is (goal.at.send_judged-requires c).After-first_sent-first, first_is (goal.at.send_judged-requires c).After-first_sent-first) (record {
      judge_ready_in = judge-ready_in a.kind (lent_of (goal.at.send_judged-requires c).Start) a.index.now a.«record».now a.weight c.requires.key_ready_in;
      le_many = many-some a.kind (bottom_by (view (lent_of (goal.at.send_judged-requires c).Start)) a.«record».now);
    })

pub returns : goal.returns
returns c = record {
  value = rw (many_is (goal.at.returns c).After-first_sent-first, first_is (goal.at.returns c).After-first_sent-first) at c.send_judged.ensures.value;
  key_sent_or_kept = rw (many_is (goal.at.returns c).After-first_sent-first, first_is (goal.at.returns c).After-first_sent-first) at c.send_judged.ensures.sent_or_kept;
}
