-- `state_text::write::write_state` meets its contract.
use mathlib.Core.Path.{◌≡◌, sym, ◌∙◌}
use mathlib.Core.Bool.{true}
use Rattle.words.proofs.Bools.{both}
use Rattle.header.specs.OneTier.{OneTiered, is_one_tier}
use Rattle.header.proofs.OneTier.{one-tiered}
use Rattle.layout.specs.Slices.{Lent, lent}
use Rattle.layout.specs.inner.Needs.{Standing}
use Rattle.state_check.specs.Check.{state_ok}
use Rattle.state_check.proofs.WholeStates.{ok-standing}
use Rattle.state_text.proofs.Bounds.{text-room}
use Rattle.state_text.proofs.Writings.{fails, two_tiers, short, done}
use Rattle.state_text.proofs.write.write_state.Goals as goal
use Rattle.state_text.proofs.write.write_state.Goals.{Else-not-check_state, Else-not-is_one_tier, Start}

abbrev lent_of : Start → Lent
lent_of c = lent c.args.header c.args.counters.now c.args.norms.now c.args.entries.now c.args.counts.now

passes : (c : Else-not-check_state) → state_ok (lent_of c.before.before.before.before.before.before) ≡ true
passes c = sym c.check_state.ensures ∙ c.if-not-check_state.false

-- it has one tier, and so a text
alike : (c : Else-not-is_one_tier) → is_one_tier c.args.header.shape ≡ true
alike c = sym c.is_one_tier.ensures ∙ c.if-not-is_one_tier.false

tier : (c : Else-not-is_one_tier) → OneTiered c.args.header.shape
tier c = one-tiered c.args.header.shape (alike c)

stands : (c : Else-not-check_state) → Standing (lent_of c.before.before.before.before.before.before)
stands c = ok-standing (lent_of c.before.before.before.before.before.before) (passes c)

pub returns-then-not-check_state : goal.returns-then-not-check_state
returns-then-not-check_state c = fails (lent_of (goal.at.returns-then-not-check_state c).Start) c.args.out.now (sym c.check_state.ensures ∙ c.if-not-check_state.true)

pub returns-then-not-is_one_tier : goal.returns-then-not-is_one_tier
returns-then-not-is_one_tier c = two_tiers (lent_of (goal.at.returns-then-not-is_one_tier c).Start) c.args.out.now (passes (goal.at.returns-then-not-is_one_tier c).Else-not-check_state) (sym c.is_one_tier.ensures ∙ c.if-not-is_one_tier.true)

pub lay_state-n-requires : goal.lay_state-n-requires
lay_state-n-requires c = record {
  one_tiered = tier (goal.at.lay_state-n-requires c).Else-not-is_one_tier;
  standing = stands (goal.at.lay_state-n-requires c).Else-not-check_state;
  text_room = text-room (lent_of (goal.at.lay_state-n-requires c).Start) (stands (goal.at.lay_state-n-requires c).Else-not-check_state);
}

pub returns-then-out-n : goal.returns-then-out-n
returns-then-out-n c = short (lent_of (goal.at.returns-then-out-n c).Start) c.args.out.now c.lay_state-n.result (both (passes (goal.at.returns-then-out-n c).Else-not-check_state) (alike (goal.at.returns-then-out-n c).Else-not-is_one_tier)) c.lay_state-n.ensures.place c.if-out-n.true

pub lay_state-requires : goal.lay_state-requires
lay_state-requires c = record {
  one_tiered = tier (goal.at.lay_state-requires c).Else-not-is_one_tier;
  standing = stands (goal.at.lay_state-requires c).Else-not-check_state;
  text_room = text-room (lent_of (goal.at.lay_state-requires c).Start) (stands (goal.at.lay_state-requires c).Else-not-check_state);
}

pub returns : goal.returns
returns c =
    done (lent_of (goal.at.returns c).Start) c.args.out.now c.lay_state-n.result c.lay_state.result c.lay_state.new.out (both (passes (goal.at.returns c).Else-not-check_state) (alike (goal.at.returns c).Else-not-is_one_tier))
    c.lay_state-n.ensures.place c.if-out-n.false c.lay_state.ensures
