-- An offer keeps heap order, the zeros past the length, and the length of both lists.
use mathlib.Core.Path.{◌≡◌, refl, sym, ap, ap₂, ◌∙◌}
use Prim.Native.Nat.{ℕ, ◌+◌, ◌*◌, ◌≤◌, ◌<◌}
use native.Mathlib.Omega.{arith}
use mathlib.Core.List.{List}
use lib.ListN.{length, get_or, set, length-set}
use lib.IntN.{ℤ}
use Rattle.heap_moves.specs.declared.Item.{Item}
use Rattle.heap_moves.specs.Cands.{Cand, no_cand, recount}
use Rattle.heap_moves.specs.Flat.{cands_of, cand_of, entries_of, counts_of}
use Rattle.heap_moves.proofs.Rounds.{cands-entries, length-entries, length-counts}
use Rattle.heap_moves.proofs.Order.{update-ordered, last_ordered, root-ordered}
use Rattle.heap_moves.proofs.Rests.{up-long, down-long, update-long, rest-set, up_rest, down-rest, update-rest}
use Rattle.heap_moves.proofs.Views.{length-cands}
use Rattle.heap.specs.declared.Answer.{Answer}
use Rattle.heap.specs.Offer.{Table, Offered, place_of, rescore, seat, replace_root, offer, len_by}
use Rattle.heap.specs.inner.Slices.{table_of, offered_of, offered}
use Rattle.heap.specs.inner.Sound.{Sound}
use Rattle.heap.proofs.Cases.{offer_cases}

-- ---- lengths

-- the length is that of the answer
pub offer-len : (size : ℕ) (t : Table) (c : Cand) → (offer size t c).table.len ≡ len_by (offer size t c).answer t.len
unfolding rescore seat replace_root
offer-len size t c = offer_cases size t c (λ (o : Offered). o.table.len ≡ len_by o.answer t.len) (λ h. refl) (λ h k. refl) (λ h k q. refl) (λ h k q. refl)

-- the list is as long as before
pub offer-long : (size : ℕ) (t : Table) (c : Cand) → length (offer size t c).table.cands ≡ length t.cands
unfolding rescore seat replace_root
offer-long size t c =
    offer_cases size t c (λ (o : Offered). length o.table.cands ≡ length t.cands)
    (λ h. update-long t.len (recount t.cands (place_of c.item.key t) c.count) (place_of c.item.key t) ∙ simp length-set)
    (λ h k. up-long t.len (set t.cands t.len c) t.len ∙ simp length-set)
    (λ h k q. down-long t.len t.len (set t.cands 0 c) 0 ∙ simp length-set) (λ h k q. refl)

-- ---- what the clauses of `offer` say together

module _ (es : List ℕ) (ns : List ℤ) (size len : ℕ) (w : Item) (v : ℤ) (es' : List ℕ) (ns' : List ℤ) (a : Answer)
    (words : es' ≡ entries_of (offered es ns size len w v).table.cands) (counts : ns' ≡ counts_of (offered es ns size len w v).table.cands) (said : a ≡ (offered es ns size len w v).answer) where
  pub offer-cands : cands_of es' ns' ≡ (offered es ns size len w v).table.cands
  offer-cands = ap₂ cands_of words counts ∙ cands-entries (offered es ns size len w v).table.cands

  pub offer-table : table_of es' ns' (len_by a len) ≡ (offered es ns size len w v).table
  offer-table =
      let n : len_by a len ≡ (offered es ns size len w v).table.len = ap (λ (x : Answer). len_by x len) said ∙ sym (offer-len size (table_of es ns len) (cand_of w v)) in
      λ i. record { cands = offer-cands i; len = n i }

  pub offer-view : offered_of es' ns' len a ≡ offered es ns size len w v
  offer-view = λ i. record { table = offer-table i; answer = said i }

  -- both slices keep their length
  pub offer-counts : length ns' ≡ length ns
  offer-counts = ap length counts ∙ length-counts (offered es ns size len w v).table.cands ∙ offer-long size (table_of es ns len) (cand_of w v) ∙ length-cands es ns

  pub offer-words : length es' ≡ 4 * length ns
  offer-words =
      ap length words ∙ length-entries (offered es ns size len w v).table.cands
      ∙ ap (λ (z : ℕ). 4 * z) (offer-long size (table_of es ns len) (cand_of w v) ∙ length-cands es ns)

-- ---- heap order, and zeros past the length

pub offer-sound : (size : ℕ) (t : Table) (c : Cand) → 0 < size → Sound size t → Sound size (offer size t c).table
unfolding rescore seat replace_root
offer-sound size t c z s =
    offer_cases size t c (λ (o : Offered). Sound size o.table)
    (λ h.
    record {
      long = update-long n (recount cs i c.count) i ∙ simp length-set s.long;
      used = s.used;
      ordered = update-ordered n cs i again h fits s.ordered;
      rest = update-rest n (recount cs i c.count) i h (rest-set n cs i again h s.rest);
    })
    (λ h k.
    record {
      long = up-long n (set cs n c) n ∙ simp length-set s.long;
      used = omega arith;
      ordered = last_ordered cs n c (omega (arith, s.long)) s.ordered;
      rest = up_rest n (n + 1) (set cs n c) n (omega arith) (rest-set (n + 1) cs n c (omega arith) (λ j g. s.rest j (omega arith)));
    })
    (λ h k q.
    record {
      long = down-long n n (set cs 0 c) 0 ∙ simp length-set s.long;
      used = s.used;
      ordered = root-ordered cs n c (omega arith) fits s.ordered;
      rest = down-rest n n (set cs 0 c) 0 (omega arith) (rest-set n cs 0 c (omega arith) s.rest);
    })
    (λ h k q. s)
  where
    n : ℕ
    n = t.len

    cs : List Cand
    cs = t.cands

    i : ℕ
    i = place_of c.item.key t

    -- the entry of the known key, with the new count
    again : Cand
    again = record { item = (get_or t.cands (place_of c.item.key t) no_cand).item; count = c.count }

    fits : t.len ≤ length t.cands
    fits = omega (arith, s.long, s.used)
