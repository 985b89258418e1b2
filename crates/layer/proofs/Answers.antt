-- What the answers of offers say of a layer: who was pushed out, how many candidates a merge leaves, and its flag. Assumes nothing.
use mathlib.Core.Path.{◌≡◌, refl, sym, ap, ◌∙◌}
use mathlib.Core.Bool.{true≢false, Bool, true, false, cond, ◌&&◌, ◌||◌}
use mathlib.Core.List.{List, [], ◌∷◌, ◌++◌}
use Prim.Native.Nat.{ℕ, suc, ◌+◌, ◌*◌, ◌≤◌, ◌<◌}
use native.Mathlib.Omega.{arith}
use lib.ListN.{length, take, length-replicate, length-append, length-map, length-take}
use lib.IntN.{ℤ}
use lib.Dec.{eqb, leb}
use borrow.Author.Tests.{le-leb, lt-leb}
use Rattle.words.specs.Lists.{All}
use Rattle.heap_moves.specs.declared.Item.{Item}
use Rattle.heap_moves.specs.Cands.{Cand, no_cand}
use Rattle.heap_moves.specs.Flat.{cand_of}
use Rattle.heap_moves.specs.inner.Totals.{total}
use Rattle.heap.specs.declared.Answer.{Answer}
use Rattle.heap.specs.declared.Answer.TheVariants.{Rescored, Seated, Displaced, TurnedAway}
use Rattle.heap.specs.Offer.{Table, Offered, kept_by}
use Rattle.heap.specs.Places.{code_of}
use Rattle.heap.specs.inner.Keys.{hit, times_held, KeysOnce, gained_by}
use Rattle.heap.proofs.Effects.{Effect, rescored, seated, displaced, turned_away, offer_effect, offer-held, offer-once, offer_displaced}
use Rattle.heap.proofs.Sounds.{offer-len, offer-long}
use Rattle.heap.proofs.Places.{code_len}
use Rattle.layer.specs.declared.Dims.{Dims}
use Rattle.layer.specs.Layer.{Layer, LayerUpdate, count_of, offer_to, add_layer, add_answer, no_table}
use Rattle.layer.specs.Delta.{Delta, delta_layer, delta_answer}
use Rattle.layer.specs.Merge.{has_key, firsts, items, both_items, offer_all, offer_answers, merge_layer, merge_answer}
use Rattle.layer.proofs.Steps.{offer-few}
use Rattle.layer.proofs.Firsts.{firsts-few}
use Rattle.layer.proofs.Gathers.{length-answers}

-- ---- one offer: a displaced key was a candidate before, and is none after

module _ (d : Dims) (some : 0 < d.size) (k : ℕ) where
  pub add_displaced : (u : LayerUpdate) (l : Layer) → length l.table.cands ≡ d.size → l.table.len ≤ d.size → add_answer d u l ≡ Displaced k
      → (0 < times_held k l.table) × (KeysOnce l.table → times_held k (add_layer d u l).table ≡ 0)
  unfolding add_layer add_answer
  add_displaced u l long few a = offer_displaced d.size l.table _ some long few k a

  pub delta_displaced : (u : Delta) (l : Layer) → length l.table.cands ≡ d.size → l.table.len ≤ d.size → delta_answer d u l ≡ Displaced k
      → (0 < times_held k l.table) × (KeysOnce l.table → times_held k (delta_layer d u l).table ≡ 0)
  unfolding delta_layer delta_answer
  delta_displaced u l long few a = offer_displaced d.size l.table _ some long few k a

-- ---- offers in turn: each seated key is one candidate more

unfoldable pub seated_in : List Answer → ℕ
seated_in [] = 0
seated_in (a ∷ xs) = cond (eqb (code_of a) 2) 1 0 + seated_in xs

unfoldable pub all_kept : List Answer → Bool
all_kept [] = true
all_kept (a ∷ xs) = kept_by a && all_kept xs

abbrev pub NotRescored : Answer → Type 0
NotRescored a = a ≡ Rescored → ⊥

offers_len : (d : Dims) (cells : List ℤ) (ws : List Item) (t : Table) → (offer_all d cells ws t).len ≡ t.len + seated_in (offer_answers d cells ws t)
unfolding offer_all offer_answers seated_in
offers_len d cells [] t = omega arith
offers_len d cells (w ∷ ws) t =
    let o = offer_to d w cells t in
    omega (arith, offers_len d cells ws o.table, offer-len d.size t (cand_of w (count_of d w cells)), code_len o.answer t.len)

-- ---- keys that were not seen before

-- no key of these was seen, and none comes twice
abbrev New : List ℕ → List Item → Type 0
New seen [] = Unit {0}
New seen (w ∷ ws) = (has_key w.key seen ≡ false) × New (w.key ∷ seen) ws

firsts-new : (seen : List ℕ) (ws : List Item) → New seen (firsts seen ws)
unfolding firsts
firsts-new seen [] = tt
firsts-new seen (w ∷ ws) = go (firsts-new seen ws) (firsts-new (w.key ∷ seen) ws) (has_key w.key seen) refl
  where
    go : New seen (firsts seen ws) → New (w.key ∷ seen) (firsts (w.key ∷ seen) ws) → (b : Bool) → has_key w.key seen ≡ b → New seen (cond b (firsts seen ws) (w ∷ firsts (w.key ∷ seen) ws))
    go i j true e = i
    go i j false e = (e, j)

-- a table of this size without a key twice, whose keys were all seen
record Known (size : ℕ) (seen : List ℕ) (t : Table) : Type 0 where
  pub long : length t.cands ≡ size
  pub small : t.len ≤ size
  pub once : KeysOnce t
  pub known : (k : ℕ) → 0 < times_held k t → has_key k seen ≡ true

none_known : (size : ℕ) → Known size [] (no_table size)
unfolding times_held total
none_known size = record { long = length-replicate size no_cand; small = omega arith; once = λ k. omega arith; known = λ k h. absurd (omega arith) }

-- how a key fares that was not seen: never rescored, and kept while there is room
data Fares (size : ℕ) (t : Table) (o : Offered) : Type 0 where
  room : NotRescored o.answer → kept_by o.answer ≡ true → o.table.len ≡ t.len + 1 → Fares size t o
  full : NotRescored o.answer → kept_by o.answer ≡ false → size ≤ t.len → Fares size t o

gained_few : (a : Answer) (j k : ℕ) → gained_by a j k ≤ hit j k
gained_few Rescored j k = omega arith
gained_few Seated j k = omega arith
gained_few (Displaced i) j k = omega arith
gained_few TurnedAway j k = omega arith

module _ (d : Dims) (cells : List ℤ) (some : 0 < d.size) where
  known_next : (seen : List ℕ) (w : Item) (t : Table) → Known d.size seen t → Known d.size (w.key ∷ seen) (offer_to d w cells t).table
  unfolding has_key
  known_next seen w t r =
      record {
        long = offer-long d.size t c ∙ r.long;
        small = offer-few d.size t c r.small;
        once = offer-once d.size t c some r.long r.small r.once;
        known = λ k h. go k h (eqb w.key k) refl;
      }
    where
      c : Cand
      c = cand_of w (count_of d w cells)

      miss : (k : ℕ) → eqb w.key k ≡ false → hit w.key k ≡ 0
      miss k e = rw e

      go : (k : ℕ) → 0 < times_held k (offer_to d w cells t).table → (b : Bool) → eqb w.key k ≡ b → (b || has_key k seen) ≡ true
      go k h true e = refl
      go k h false e =
          r.known k (omega (
            arith,
            offer-held d.size t c some r.long r.small k,
            gained_few (offer_to d w cells t).answer w.key k,
            miss k e,
          ))

  new_fares : (seen : List ℕ) (w : Item) (t : Table) → Known d.size seen t → has_key w.key seen ≡ false → (o : Offered) → Effect d.size t (cand_of w (count_of d w cells)) o → Fares d.size t o
  new_fares seen w t r e o (rescored i hi h a n m) = absurd (true≢false (sym (r.known w.key h) ∙ e))
  new_fares seen w t r e o (seated h g a n m) = room (λ q. omega (arith, ap code_of (sym a ∙ q))) (ap kept_by a) n
  new_fares seen w t r e o (displaced h g a n m) = full (λ q. omega (arith, ap code_of (sym a ∙ q))) (ap kept_by a) g
  new_fares seen w t r e o (turned_away h g a s) = full (λ q. omega (arith, ap code_of (sym a ∙ q))) (ap kept_by a) g

  offers_new : (seen : List ℕ) (ws : List Item) (t : Table) → Known d.size seen t → New seen ws
      → All NotRescored (offer_answers d cells ws t) × (all_kept (offer_answers d cells ws t) ≡ leb (t.len + length ws) d.size)
  unfolding offer_answers all_kept
  offers_new seen [] t r n = (tt, sym (le-leb (t.len + 0) d.size (omega (arith, r.small))))
  offers_new seen (w ∷ ws) t r n =
      go (new_fares seen w t r n.0 o (offer_effect d.size t (cand_of w (count_of d w cells)) some r.long r.small))
      (offers_new (w.key ∷ seen) ws o.table (known_next seen w t r) n.1)
    where
      o : Offered
      o = offer_to d w cells t

      rest : List Answer
      rest = offer_answers d cells ws o.table

      go : Fares d.size t o → All NotRescored rest × (all_kept rest ≡ leb (o.table.len + length ws) d.size)
          → (NotRescored o.answer × All NotRescored rest) × ((kept_by o.answer && all_kept rest) ≡ leb (t.len + suc (length ws)) d.size)
      go (room f y g) i = ((f, i.0), rw y (i.1 ∙ ap (λ (m : ℕ). leb m d.size) (one g)))
        where
          one : o.table.len ≡ t.len + 1 → o.table.len + length ws ≡ t.len + suc (length ws)
          one g = omega arith
      go (full f y g) i = ((f, i.0), rw y (sym (lt-leb (t.len + suc (length ws)) d.size (omega arith))))

  -- one offer of a run to an empty table: a displaced key stood there before it, and does not after
  offers_known : (seen : List ℕ) (ws : List Item) (t : Table) → Known d.size seen t → (s : List ℕ) × Known d.size s (offer_all d cells ws t)
  unfolding offer_all
  offers_known seen [] t r = (seen, r)
  offers_known seen (w ∷ ws) t r = offers_known (w.key ∷ seen) ws (offer_to d w cells t).table (known_next seen w t r)

  pub merge_displaced : (ws : List Item) (w : Item) (t : Table) → t ≡ offer_all d cells ws (no_table d.size) → (k : ℕ) → (offer_to d w cells t).answer ≡ Displaced k
      → (0 < times_held k t) × (times_held k (offer_to d w cells t).table ≡ 0)
  merge_displaced ws w t e k a =
      let r = (rw (sym e) at (offers_known [] ws (no_table d.size) (none_known d.size)).1) in
      let p = offer_displaced d.size t (cand_of w (count_of d w cells)) some r.long r.small k a in
      (p.0, p.1 r.once)

-- ---- a merge of two layers

pub merge-count : (d : Dims) (a b : Layer) → length (merge_answer d a b) ≡ length (both_items a.table b.table)
unfolding merge_answer
merge-count d a b = length-answers d _ (both_items a.table b.table) (no_table d.size)

-- two states have no more distinct keys than twice the seats
items-few : (t : Table) → length (items t) ≤ t.len
unfolding items
items-few t = omega (arith, length-map (take t.len t.cands) (λ (c : Cand). c.item), length-take t.len t.cands)

pub merge-room : (d : Dims) (a b : Layer) → a.table.len ≤ d.size → b.table.len ≤ d.size → length (merge_answer d a b) ≤ 2 * d.size
merge-room d a b h k =
    omega (
      arith,
      merge-count d a b,
      firsts-few [] (items a.table ++ items b.table),
      length-append (items a.table) (items b.table),
      items-few a.table,
      items-few b.table,
    )

pub merge-len : (d : Dims) (a b : Layer) → (merge_layer d a b).table.len ≡ seated_in (merge_answer d a b)
unfolding merge_layer merge_answer
merge-len d a b = offers_len d _ (both_items a.table b.table) (no_table d.size) ∙ omega arith

module _ (d : Dims) (some : 0 < d.size) (a b : Layer) where
  -- a merge offers each key once: none is rescored, and all are kept exactly if there are seats for them
  merge-new : All NotRescored (merge_answer d a b) × (all_kept (merge_answer d a b) ≡ leb (0 + length (both_items a.table b.table)) d.size)
  unfolding merge_answer
  merge-new = offers_new d _ some [] (both_items a.table b.table) (no_table d.size) (none_known d.size) (firsts-new [] _)

  pub merge_never_rescored : All NotRescored (merge_answer d a b)
  merge_never_rescored = merge-new.0

  pub merge-flag : (merge_layer d a b).flag ≡ (a.flag && b.flag && all_kept (merge_answer d a b))
  unfolding merge_layer
  merge-flag = ap (λ (k : Bool). a.flag && b.flag && k) (sym (merge-new.1 ∙ ap (λ (n : ℕ). leb n d.size) many))
    where
      many : 0 + length (both_items a.table b.table) ≡ length (both_items a.table b.table)
      many = omega arith
