-- `heap::offer` meets its contract.
use native.Mathlib.Omega.{arith}
use borrow.Author.Rules.{rules}
use mir.Facts.{to_z-of_z}
use Rattle.heap.specs.declared.Answer.TheVariants.{Rescored, Seated}
use Rattle.heap.specs.inner.Slices.{offered}
use Rattle.heap.proofs.Steps.{offer_known, offer-seat, offer_full, offer_lists}
use Rattle.heap.proofs.offer.Goals as goal

pub returns-in-Some : goal.returns-in-Some
returns-in-Some c =
    let p =
    offer_lists c.rescore.new.entries c.rescore.new.counts c.args.len Rescored (offered c.args.entries.now c.args.counts.now c.args.size c.args.len c.args.w c.args.v) (search rules)
    (offer_known _ _ _ _ _ _ (to_z-of_z c.ranges.v) _ _ (c.in-Some.ensures.first_match _ (omega arith)) _ _ c.in-Some.ensures.within c.rescore.ensures) in
    record { entries_after = p.0; counts_after = p.1.0; value = p.1.1.0; len_value = p.1.1.1 }

pub returns-then-len-size : goal.returns-then-len-size
returns-then-len-size c =
    let p =
    offer_lists c.seat.new.entries c.seat.new.counts c.args.len Seated (offered c.args.entries.now c.args.counts.now c.args.size c.args.len c.args.w c.args.v) (search rules)
    (offer-seat _ _ _ _ _ _ (to_z-of_z c.ranges.v) _ c.args.len (c.in_default.ensures.first_match _ (omega arith)) _ _ (omega arith) c.if-len-size.true c.seat.ensures) in
    record { entries_after = p.0; counts_after = p.1.0; value = p.1.1.0; len_value = p.1.1.1 }

pub returns : goal.returns
returns c =
    let p =
    offer_lists c.displace.new.entries c.displace.new.counts c.args.len c.displace.result (offered c.args.entries.now c.args.counts.now c.args.size c.args.len c.args.w c.args.v) (search rules)
    (offer_full _ _ _ _ _ _ (to_z-of_z c.ranges.v) _ c.args.len (c.in_default.ensures.first_match _ (omega arith)) _ _ _ (omega arith) c.if-len-size.false c.displace.ensures) in
    record { entries_after = p.0; counts_after = p.1.0; value = p.1.1.0; len_value = p.1.1.1 }
