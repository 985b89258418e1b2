-- Keys offered in turn to a table with an index: the loop, and that from an empty table it is the walking one. Assumes nothing.
use mathlib.Core.Path.{◌≡◌, refl, sym, ap, ap₂, ◌∙◌}
use mathlib.Core.Bool.{true}
use mathlib.Core.List.{List, [], ◌∷◌}
use Prim.Native.Nat.{ℕ, ◌+◌, ◌-◌, ◌*◌, ◌≤◌, ◌<◌}
use native.Mathlib.Omega.{arith}
use lib.ListN.{length, replicate}
use lib.IntN.{ℤ, pos}
use Rattle.words.specs.Num.{in_range, all_in}
use Rattle.words.specs.Lists.{All}
use Rattle.heap_moves.specs.declared.Item.{Item}
use Rattle.heap_moves.specs.Cands.{Cand, most_cands}
use Rattle.heap_moves.specs.Flat.{item_of, cands_of, cand_of}
use Rattle.heap.specs.declared.Answer.{Answer}
use Rattle.heap.specs.Offer.{len_by}
use Rattle.heap.specs.inner.Slices.{table_of}
use Rattle.heap.specs.inner.Telling.{tell_at, tell_all}
use Rattle.heap.proofs.Places.{told_zeros}
use Rattle.heap_index.specs.Index.{index_length}
use Rattle.heap_indexed.specs.declared.TriedOffer.{TriedOffer}
use Rattle.heap_indexed.specs.Offers.{IndexedOffer, offer_in}
use Rattle.heap_indexed.specs.inner.Slices.{offered_with}
use Rattle.heap_indexed.proofs.Sizes.{offer-few}
use Rattle.heap_indexed.proofs.Runs.{Passes, one_answer, one_table, one_passes}
use Rattle.layer.specs.declared.Dims.{Dims}
use Rattle.layer.specs.declared.Merged.{Merged}
use Rattle.layer.specs.Layer.{count_of, offer_to, no_table}
use Rattle.layer.specs.Merge.{firsts, offer_all, offer_answers}
use Rattle.layer.specs.inner.Gather.{Gathered, merge_table, items_from, items_of, gathered_of}
use Rattle.layer.proofs.Firsts.{firsts-few}
use Rattle.layer.proofs.Gathers.{gathered_path, items_left, length-answers, zero-cands}
use Rattle.layer_indexed.specs.Adding.{offer_to_in, table_after}
use Rattle.layer_indexed.specs.Merging.{offer_all_in}
use Rattle.layer_indexed.proofs.Agreeing.{none_passes, counts-within}
use Rattle.layer_merge_indexed.specs.inner.Offering.{GatheredWith, gathered_with, offer_one_in, offers_in}

with_path : {xs ys : List ℕ} {a b : Gathered} → xs ≡ ys → a ≡ b → ◌≡◌ {A = GatheredWith} (record { index = xs; gathered = a }) (record { index = ys; gathered = b })
with_path p q = λ i. record { index = p i; gathered = q i }

-- ---- one offer

pub one_in : (d : Dims) (cells : List ℤ) (w : Item) (xs xs' es es' : List ℕ) (ns ns' : List ℤ) (list list' : List ℕ) (g : Merged) (o : TriedOffer) (v : ℤ) (a : Answer) (r : ℕ) → v ≡ count_of d w cells
    → offered_with xs' es' ns' o ≡ offer_in d.size xs (table_of es ns g.len) (cand_of w v) → a ≡ o.answer → r ≡ len_by a g.len → list' ≡ tell_at list g.keys a
    → gathered_with xs' es' ns' list' (record { len = r; keys = g.keys + 1 }) ≡ offer_one_in d cells w (gathered_with xs es ns list g)
unfolding offer_one_in
one_in d cells w xs xs' es es' ns ns' list list' g o v a r ev made said len told =
    let e : offered_with xs' es' ns' o ≡ offer_to_in d w cells xs (table_of es ns g.len) = made ∙ ap (λ (n : ℤ). offer_in d.size xs (table_of es ns g.len) (cand_of w n)) ev in
    with_path (ap (λ (z : IndexedOffer). z.after.index) e)
    (gathered_path
    (ap (table_of es' ns') (len ∙ ap (λ (z : Answer). len_by z g.len) said) ∙ ap (table_after g.len) e)
    refl
    (told ∙ ap (tell_at list g.keys) (said ∙ ap (λ (z : IndexedOffer). z.answer) e)))

-- no more candidates than seats, for any index
one-used : (d : Dims) (cells : List ℤ) (w : Item) (s : GatheredWith) → s.gathered.table.len ≤ d.size → (offer_one_in d cells w s).gathered.table.len ≤ d.size
unfolding offer_one_in
one-used d cells w s h = offer-few d.size s.index s.gathered.table (cand_of w (count_of d w cells)) h

one-keys : (d : Dims) (cells : List ℤ) (w : Item) (s : GatheredWith) → (offer_one_in d cells w s).gathered.keys ≡ s.gathered.keys + 1
unfolding offer_one_in
one-keys d cells w s = refl

-- ---- the loop

-- what the loop of `offer_firsts` keeps: what is left to do gives the answer
pub record OfferInv (d : Dims) (cells : List ℤ) (src : List ℕ) (n : ℕ) (xs₀ es₀ : List ℕ) (ns₀ : List ℤ) (list₀ : List ℕ) (xs es : List ℕ) (ns : List ℤ) (list : List ℕ) (g : Merged) (i : ℕ) : Type 0 where
  pub used : g.len ≤ d.size
  pub told : g.keys ≡ i
  pub goes : offers_in d cells (items_from src (n - i) i) (gathered_with xs es ns list g) ≡ offers_in d cells (items_of src n) (gathered_with xs₀ es₀ ns₀ list₀ (record { len = 0; keys = 0 }))

pub offers_again : (d : Dims) (cells : List ℤ) (src : List ℕ) (n : ℕ) (xs₀ es₀ : List ℕ) (ns₀ : List ℤ) (list₀ : List ℕ) (xs es : List ℕ) (ns : List ℤ) (list : List ℕ) (g : Merged) (i : ℕ)
    (xs' es' : List ℕ) (ns' : List ℤ) (list' : List ℕ) (g' : Merged) (w : Item) → OfferInv d cells src n xs₀ es₀ ns₀ list₀ xs es ns list g i → i < n → w ≡ item_of src i
    → gathered_with xs' es' ns' list' g' ≡ offer_one_in d cells w (gathered_with xs es ns list g)
    → OfferInv d cells src n xs₀ es₀ ns₀ list₀ xs' es' ns' list' g' (i + 1)
unfolding offers_in
offers_again d cells src n xs₀ es₀ ns₀ list₀ xs es ns list g i xs' es' ns' list' g' w v h is e =
    record {
      used = omega (arith, one-used d cells w (gathered_with xs es ns list g) v.used, ap (λ (x : GatheredWith). x.gathered.table.len) e);
      told = ap (λ (x : GatheredWith). x.gathered.keys) e ∙ one-keys d cells w (gathered_with xs es ns list g) ∙ ap (λ (z : ℕ). z + 1) v.told;
      goes =
          ap (offers_in d cells (items_from src (n - (i + 1)) (i + 1))) (e ∙ ap (λ (z : Item). offer_one_in d cells z (gathered_with xs es ns list g)) is)
          ∙ sym (ap (λ (z : List Item). offers_in d cells z (gathered_with xs es ns list g)) (items_left src n i h))
          ∙ v.goes;
    }

pub offers_done : (d : Dims) (cells : List ℤ) (src : List ℕ) (n : ℕ) (xs₀ es₀ : List ℕ) (ns₀ : List ℤ) (list₀ : List ℕ) (xs es : List ℕ) (ns : List ℤ) (list : List ℕ) (g : Merged) (i : ℕ)
    → OfferInv d cells src n xs₀ es₀ ns₀ list₀ xs es ns list g i → n ≤ i
    → gathered_with xs es ns list g ≡ offers_in d cells (items_of src n) (gathered_with xs₀ es₀ ns₀ list₀ (record { len = 0; keys = 0 }))
unfolding offers_in items_from
offers_done d cells src n xs₀ es₀ ns₀ list₀ xs es ns list g i v h = let s : n - i ≡ 0 = omega arith in rw s at v.goes

-- ---- from a table that passes the check

-- keys offered in turn, with the index and without it
walked : Dims → List ℤ → List Item → GatheredWith → GatheredWith
walked d cells ws s =
    record {
      index = offer_all_in d cells ws s.index s.gathered.table;
      gathered =
          record {
            table = offer_all d cells ws s.gathered.table;
            keys = s.gathered.keys + length ws;
            list = tell_all s.gathered.list s.gathered.keys (offer_answers d cells ws s.gathered.table);
          };
    }

offers_walk : (d : Dims) (cells : List ℤ) (ws : List Item) (s : GatheredWith) → Passes d.size s.index s.gathered.table → All (λ (w : Item). in_range (count_of d w cells) ≡ true) ws
    → offers_in d cells ws s ≡ walked d cells ws s
unfolding offers_in walked offer_one_in offer_all_in offer_all offer_answers tell_all
offers_walk d cells [] s p a = with_path refl (gathered_path refl (omega arith) refl)
offers_walk d cells (w ∷ ws) s p a =
    ap (λ (z : GatheredWith). offers_in d cells ws z) same
    ∙ offers_walk d cells ws next (one_passes d.size s.index s.gathered.table c p a.0) a.1
    ∙ with_path (ap (offer_all_in d cells ws (offer_to_in d w cells s.index s.gathered.table).after.index) (sym table)) (gathered_path refl (omega arith) refl)
  where
    c : Cand
    c = cand_of w (count_of d w cells)

    table : table_after s.gathered.table.len (offer_to_in d w cells s.index s.gathered.table) ≡ (offer_to d w cells s.gathered.table).table
    table = one_table d.size s.index s.gathered.table c p a.0

    next : GatheredWith
    next =
        record {
          index = (offer_to_in d w cells s.index s.gathered.table).after.index;
          gathered =
              record {
                table = (offer_to d w cells s.gathered.table).table;
                keys = s.gathered.keys + 1;
                list = tell_at s.gathered.list s.gathered.keys (offer_to d w cells s.gathered.table).answer;
              };
        }

    same : offer_one_in d cells w s ≡ next
    same = with_path refl (gathered_path table refl (ap (tell_at s.gathered.list s.gathered.keys) (one_answer d.size s.index s.gathered.table c p a.0)))

-- ---- from zeroed slices: what is left is the walking merge's, and the index is told

module _ (d : Dims) (cells : List ℤ) (ws : List Item) (xs₀ es₀ : List ℕ) (ns₀ : List ℤ) (list₀ : List ℕ) (some : 1 ≤ d.size) (few : d.size ≤ most_cands) (read : all_in cells ≡ true)
    (x : xs₀ ≡ replicate (index_length d.size) 0) (e : es₀ ≡ replicate (4 * d.size) 0) (n : ns₀ ≡ replicate d.size (pos 0)) (z : list₀ ≡ replicate (4 * d.size) 0)
    (src : List ℕ) (k : ℕ) (items : items_of src k ≡ firsts [] ws) (xs es : List ℕ) (ns : List ℤ) (list : List ℕ) (g : Merged)
    (made : gathered_with xs es ns list g ≡ offers_in d cells (items_of src k) (gathered_with xs₀ es₀ ns₀ list₀ (record { len = 0; keys = 0 }))) where
  abbrev none : GatheredWith
  none = record { index = replicate (index_length d.size) 0; gathered = record { table = no_table d.size; keys = 0; list = replicate (4 * d.size) 0 } }

  from_none : gathered_with xs₀ es₀ ns₀ list₀ (record { len = 0; keys = 0 }) ≡ none
  from_none = with_path x (gathered_path (ap (λ (cs : List Cand). record { cands = cs; len = 0 }) (ap₂ cands_of e n ∙ zero-cands d.size)) refl z)

  all : gathered_with xs es ns list g ≡ walked d cells (firsts [] ws) none
  all =
      made ∙ ap₂ (offers_in d cells) items from_none
      ∙ offers_walk d cells (firsts [] ws) none (none_passes d.size (omega (arith, some)) few) (counts-within d cells (firsts [] ws) read)

  pub index-left : xs ≡ offer_all_in d cells (firsts [] ws) (replicate (index_length d.size) 0) (no_table d.size)
  unfolding walked
  index-left = ap (λ (s : GatheredWith). s.index) all

  pub table-left : length ws ≤ 2 * d.size → gathered_of es ns list g ≡ merge_table d cells ws
  unfolding walked merge_table
  table-left h =
      ap (λ (s : GatheredWith). s.gathered) all
      ∙ gathered_path refl (omega arith)
      (ap (λ (m : ℕ). tell_all (replicate m 0) 0 (offer_answers d cells (firsts [] ws) (no_table d.size))) four
      ∙ told_zeros (2 * d.size) (offer_answers d cells (firsts [] ws) (no_table d.size)) (omega (arith, length-answers d cells (firsts [] ws) (no_table d.size), firsts-few [] ws, h)))
    where
      four : 4 * d.size ≡ 2 * (2 * d.size)
      four = omega arith
