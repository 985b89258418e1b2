-- `layer_indexed::adding::add_grade` meets its contract.
use mathlib.Core.Path.{◌≡◌, sym, ◌∙◌}
use mathlib.Core.Bool.{Bool, true, false, cond, not}
use native.Mathlib.Omega.{arith}
use borrow.Author.Rules.{sfits_of}
use mir.Syntax.{w64}
use mir.Facts.{to_z-of_z}
use Rattle.heap.specs.inner.Slices.{table_of}
use Rattle.layer.specs.Layer.{layer_update}
use Rattle.layer.specs.inner.Needs.{layer_of}
use Rattle.layer_indexed.specs.Adding.{key_looked}
use Rattle.layer_indexed.specs.inner.Needs.{add_grade}
use Rattle.layer_indexed.proofs.Grading.{offer_looked, same-slices, unready-grade, ready-grade}
use Rattle.layer_indexed.proofs.Seats.{small_of}
use Rattle.heap_moves.specs.Flat.{cand_of}
use Rattle.heap_indexed.specs.Offers.{offer_in}
use Rattle.layer_indexed.proofs.adding.add_grade.Goals as goal
use Rattle.layer_indexed.proofs.adding.add_grade.Goals.{After-key_looked, After-try_offer}

-- what was tried is taken back
taken_back : (c : After-try_offer) → let a = c.args in
    (c.try_offer.new.entries ≡ a.entries.now) × ((c.try_offer.new.counts ≡ a.counts.now) × (c.try_offer.new.index ≡ a.index.now))
taken_back c =
    let a = c.args in
    let p = c.requires.seated in
    let o = c.try_offer in
    let s = same-slices a.entries.now a.counts.now _ _ (omega (arith, p.words, p.housed.seats)) (omega (arith, o.auto.entries, o.auto.counts, p.words, p.housed.seats)) o.ensures.counts_unchanged in
    (s.0, (s.1, o.ensures.index_unchanged))

moves-are : (c : After-try_offer) → let a = c.args in
    c.try_offer.result ≡ (offer_in a.d.size a.index.now (table_of a.entries.now a.counts.now a.len) (cand_of a.item c.in-Some.count)).after.fine
moves-are c = rw (to_z-of_z {w = w64} (sfits_of c.in-Some.ensures.fits)) at c.try_offer.ensures.value

-- the grade by what the lookup and the trial say
graded : (c : After-try_offer) (looked moves : Bool) → let a = c.args in
    looked ≡ key_looked a.index.now (table_of a.entries.now a.counts.now a.len) a.item.key → c.try_offer.result ≡ moves → (flag : Bool)
    → cond (not looked) 1 (cond (not moves) 3 4) ≡ add_grade a.d (layer_update a.item a.weight) a.index.now (layer_of a.d a.counters.now a.norms.now a.entries.now a.counts.now a.len flag)
graded c looked moves l m flag =
    let a = c.args in
    ready-grade a.d a.item a.weight a.counters.now a.norms.now a.entries.now a.counts.now a.len a.index.now flag c.in-Some.count looked moves
    (sym c.in-Some.ensures.ready) c.in-Some.ensures.count l (sym m ∙ moves-are c)

looked-is : (c : After-key_looked) → let a = c.args in
    (c.try_offer.new.entries ≡ a.entries.now) × ((c.try_offer.new.counts ≡ a.counts.now) × (c.try_offer.new.index ≡ a.index.now)) →
    c.key_looked.result ≡ key_looked a.index.now (table_of a.entries.now a.counts.now a.len) a.item.key
looked-is c t =
    let a = c.args in
    c.key_looked.ensures ∙ (λ i. key_looked (t.1.1 i) (table_of (t.0 i) (t.1.0 i) a.len) a.item.key)

pub returns-in_default-clause-value : goal.returns-in_default-clause-value
returns-in_default-clause-value c =
    let a = c.args in
    λ flag.
    c.unready_grade.ensures flag a.weight
    ∙ unready-grade a.d a.item a.weight a.counters.now a.norms.now a.entries.now a.counts.now a.len a.index.now flag (sym c.in_default.ensures.ready)

pub try_offer-requires-clause-small : goal.try_offer-requires-clause-small
try_offer-requires-clause-small c = small_of c.args.d c.requires.seated

pub returns-then-try_offer : goal.returns-then-try_offer
returns-then-try_offer c =
    let a = c.args in record {
      value = graded (goal.at.returns-then-try_offer c).After-try_offer true true (sym (offer_looked a.d.size a.index.now (table_of a.entries.now a.counts.now a.len) _ (sym (moves-are (goal.at.returns-then-try_offer c).After-try_offer) ∙ c.if-try_offer.true))) c.if-try_offer.true;
      entries_unchanged = taken_back (goal.at.returns-then-try_offer c).After-try_offer;
    }

pub returns-then-key_looked : goal.returns-then-key_looked
returns-then-key_looked c = record {
  value = graded (goal.at.returns-then-key_looked c).After-try_offer true false (sym c.if-key_looked.true ∙ looked-is (goal.at.returns-then-key_looked c).After-key_looked (taken_back (goal.at.returns-then-key_looked c).After-try_offer)) c.if-try_offer.false;
  entries_unchanged = taken_back (goal.at.returns-then-key_looked c).After-try_offer;
}

pub returns : goal.returns
returns c = record {
  value = graded (goal.at.returns c).After-try_offer false false (sym c.if-key_looked.false ∙ looked-is (goal.at.returns c).After-key_looked (taken_back (goal.at.returns c).After-try_offer)) c.if-try_offer.false;
  entries_unchanged = taken_back (goal.at.returns c).After-try_offer;
}
