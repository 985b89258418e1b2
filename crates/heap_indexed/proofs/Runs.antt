-- "From states that pass the check, index included, the indexed and the walking candidates give the same answers and states over any calls
-- lent what the last ones left": here for offers to one layer.
use mathlib.Core.Path.{◌≡◌, refl, sym, ap, ◌∙◌, subst}
use mathlib.Core.Bool.{true, true≢false}
use mathlib.Core.List.{List, [], ◌∷◌}
use Prim.Native.Nat.{ℕ, ◌≤◌, ◌<◌}
use native.Mathlib.Omega.{arith}
use lib.ListN.{length}
use lib.IntN.{pos}
use Rattle.std.proofs.Common.{Option, None}
use Rattle.words.specs.Num.{in_range}
use Rattle.words.specs.Lists.{All}
use Rattle.words.proofs.Bools.{both}
use Rattle.heap_moves.specs.Cands.{Cand}
use Rattle.heap.specs.declared.Answer.{Answer}
use Rattle.heap.specs.Offer.{Table, Offered, rescore, seat, replace_root, offer, len_by}
use Rattle.heap.proofs.Cases.{offer_cases}
use Rattle.heap.proofs.Sounds.{offer-len, offer-long}
use Rattle.heap_index.specs.declared.Lookup.{Lookup}
use Rattle.heap_index.specs.Index.{index_ok, look}
use Rattle.heap_index.specs.inner.Indexes.{Ranged}
use Rattle.heap_index.proofs.Checks.{check_holds, holds_check}
use Rattle.heap_indexed.specs.Offers.{offer_by, offer_in}
use Rattle.heap_indexed.specs.inner.Runs.{walk_run, leaves, index_run}
use Rattle.heap_indexed.proofs.Same.{Agrees, Ready, offer_agrees}

offer-used : (size : ℕ) (t : Table) (c : Cand) → t.len ≤ size → (offer size t c).table.len ≤ size
unfolding rescore seat replace_root
offer-used size t c h = offer_cases size t c (λ (o : Offered). o.table.len ≤ size) (λ a. h) (λ a b. omega (arith, b)) (λ a b d. h) (λ a b d. h)

-- what passes the check
pub record Passes (size : ℕ) (xs : List ℕ) (t : Table) : Type 0 where
  pub index : index_ok xs t.len t.cands ≡ true
  pub ranged : Ranged t.len t.cands
  pub long : length t.cands ≡ size
  pub used : t.len ≤ size
  pub some : 0 < size
  pub room : size < length xs

ready : {size : ℕ} {xs : List ℕ} {t : Table} → Passes size xs t → Ready size xs t
ready {size} {xs} {t} p = record { holds = check_holds xs t.len t.cands p.index; ranged = p.ranged; long = p.long; used = p.used; room = p.room }

module _ (size : ℕ) (xs : List ℕ) (t : Table) (c : Cand) (p : Passes size xs t) (within : in_range c.count ≡ true) where
  agrees : Agrees (length xs) (offer size t c) (offer_in size xs t c)
  agrees = offer_agrees size xs t c (ready p) p.some within

  -- one offer: accepted, the same table, the same answer, and it passes the check again
  pub one-fine : (offer_in size xs t c).after.fine ≡ true
  one-fine = agrees.went.fine

  pub one-cands : (offer_in size xs t c).after.cands ≡ (offer size t c).table.cands
  one-cands = agrees.went.cands

  pub one_answer : (offer_in size xs t c).answer ≡ (offer size t c).answer
  one_answer = agrees.answer

  pub one_table : leaves t.len (offer_in size xs t c) ≡ (offer size t c).table
  one_table =
      let n : len_by (offer_in size xs t c).answer t.len ≡ (offer size t c).table.len = ap (λ (a : Answer). len_by a t.len) one_answer ∙ sym (offer-len size t c) in
      λ i. record { cands = one-cands i; len = n i }

  pub one_passes : Passes size (offer_in size xs t c).after.index (offer size t c).table
  one_passes =
      let w = agrees.went in
      record {
        index = holds_check (offer_in size xs t c).after.index (offer size t c).table.len (offer size t c).table.cands w.holds w.ranged;
        ranged = w.ranged;
        long = offer-long size t c ∙ p.long;
        used = offer-used size t c p.used;
        some = p.some;
        room = subst (λ (m : ℕ). size < m) (sym w.long) p.room;
      }

  pub one-length : length (offer_in size xs t c).after.index ≡ length xs
  one-length = agrees.went.long

-- a lookup of an offer that is not refused was not refused
pub fine_looked : (size : ℕ) (xs : List ℕ) (t : Table) (c : Cand) → (offer_in size xs t c).after.fine ≡ true → look xs t.len t.cands c.item.key ≡ None → ⊥
unfolding offer_in
fine_looked size xs t c f e = true≢false (sym f ∙ ap (λ (l : Option Lookup). (offer_by size xs t c l).after.fine) e)

-- so a layer that passes the check looks up every key
pub passes_looked : (size : ℕ) (xs : List ℕ) (t : Table) → Passes size xs t → (k : ℕ) → look xs t.len t.cands k ≡ None → ⊥
unfolding in_range
passes_looked size xs t p k = fine_looked size xs t c (one-fine size xs t c p refl)
  where
    c : Cand
    c = record { item = record { key = k; bottom = 0; high = 0; low = 0 }; count = pos 0 }

-- any number of offers
pub record SameRun (size : ℕ) (xs : List ℕ) (t : Table) (cs : List Cand) : Type 0 where
  pub fine : (index_run size xs t cs).fine ≡ true
  pub table : (index_run size xs t cs).table ≡ (walk_run size t cs).table
  pub answers : (index_run size xs t cs).answers ≡ (walk_run size t cs).answers
  pub passes : Passes size (index_run size xs t cs).index (walk_run size t cs).table

pub same-run : (size : ℕ) (xs : List ℕ) (t : Table) (cs : List Cand) → Passes size xs t → All (λ (c : Cand). in_range c.count ≡ true) cs → SameRun size xs t cs
unfolding walk_run index_run
same-run size xs t [] p a = record { fine = refl; table = refl; answers = refl; passes = p }
same-run size xs t (c ∷ cs) p a =
    let ys = (offer_in size xs t c).after.index in
    let e = one_table size xs t c p a.0 in
    let ih = subst (λ (u : Table). ((index_run size ys u cs).fine ≡ true) × (((index_run size ys u cs).table ≡ (walk_run size (offer size t c).table cs).table)
    × (((index_run size ys u cs).answers ≡ (walk_run size (offer size t c).table cs).answers) × Passes size (index_run size ys u cs).index (walk_run size (offer size t c).table cs).table))) (sym e)
    (let s = same-run size ys (offer size t c).table cs (one_passes size xs t c p a.0) a.1 in (s.fine, (s.table, (s.answers, s.passes)))) in
    record {
      fine = both (one-fine size xs t c p a.0) ih.0;
      table = ih.1.0;
      answers = (λ i. one_answer size xs t c p a.0 i ∷ ih.1.1.0 i);
      passes = ih.1.1.1;
    }
