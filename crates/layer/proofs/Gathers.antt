-- The loop of the offers, and two of them in turn. Assumes nothing.
use mathlib.Core.Path.{◌≡◌, refl, sym, ap, ap₂, ◌∙◌}
use Prim.Native.Nat.{ℕ, zero, suc, ◌+◌, ◌-◌, ◌*◌, ◌≤◌, ◌<◌}
use native.Mathlib.Omega.{arith}
use native.Mathlib.Numerals.{add-one}
use mathlib.Core.Bool.{Bool, true, false}
use mathlib.Core.List.{List, [], ◌∷◌, ◌++◌}
use lib.ListN.{length, get_or, take, replicate, length-append}
use lib.IntN.{ℤ, pos}
use Rattle.countsketch_l2_norm.specs.Estimate.{estimate_of}
use Rattle.heap_moves.specs.declared.Item.{Item}
use Rattle.heap_moves.specs.Cands.{Cand, no_cand}
use Rattle.heap_moves.specs.Flat.{item_of, cands_of, cand_of, entries_of, counts_of}
use Rattle.heap.specs.declared.Answer.{Answer}
use Rattle.heap.specs.Offer.{Table, len_by}
use Rattle.heap.specs.inner.Slices.{table_of, offered}
use Rattle.heap.specs.Places.{places}
use Rattle.heap.specs.inner.Telling.{tell_at, tell_all}
use Rattle.heap.proofs.Sounds.{offer-table}
use Rattle.heap.proofs.Places.{told_zeros, tell_append}
use Rattle.layer.specs.declared.Dims.{Dims}
use Rattle.layer.specs.declared.Merged.{Merged}
use Rattle.layer.specs.Layer.{hash_by, count_of, offer_to}
use Rattle.layer.specs.Merge.{has_key, firsts, offer_all, offer_answers}
use Rattle.layer.specs.inner.Gather.{Gathered, merge_table, offer_one, gather, items_from, items_of, keys_of, first_at, gathered_of}
use Rattle.layer.proofs.Steps.{offer-few}
use Rattle.layer.proofs.Firsts.{firsts-append, firsts-few, front_items, items-many, Seen, seen_none, seen_known, seen_new}

pub gathered_path : {a b : Table} {m n : ℕ} {xs ys : List ℕ} → a ≡ b → m ≡ n → xs ≡ ys → ◌≡◌ {A = Gathered} (record { table = a; keys = m; list = xs }) (record { table = b; keys = n; list = ys })
gathered_path p q r = λ i. record { table = p i; keys = q i; list = r i }

-- ---- one offer

pub one-view : (d : Dims) (cells : List ℤ) (w : Item) (es es' : List ℕ) (ns ns' : List ℤ) (list list' : List ℕ) (g : Merged) (a : Answer) (v : ℤ) (r : ℕ) → v ≡ estimate_of d.rows d.cols (hash_by w) cells
    → es' ≡ entries_of (offered es ns d.size g.len w v).table.cands → ns' ≡ counts_of (offered es ns d.size g.len w v).table.cands
    → a ≡ (offered es ns d.size g.len w v).answer → r ≡ len_by a g.len → list' ≡ tell_at list g.keys a
    → gathered_of es' ns' list' (record { len = r; keys = g.keys + 1 }) ≡ offer_one d cells w (gathered_of es ns list g)
unfolding offer_one
one-view d cells w es es' ns ns' list list' g a v r ev words counts said e told =
    gathered_path
    (ap (λ (n : ℕ). table_of es' ns' n) e ∙ offer-table es ns d.size g.len w v es' ns' a words counts said
    ∙ ap (λ (n : ℤ). (offered es ns d.size g.len w n).table) ev)
    refl
    (told ∙ ap (tell_at list g.keys) (said ∙ ap (λ (n : ℤ). (offered es ns d.size g.len w n).answer) ev))

-- ---- an entry, if it is the first of its key

module _ (d : Dims) (cells : List ℤ) (bef : List ℕ) (m : ℕ) (src : List ℕ) (i : ℕ) (w : Item) (is : w ≡ item_of src i) (a : Bool) (there : a ≡ has_key w.key (keys_of bef m)) (g : Gathered) where
  key : w.key ≡ get_or src (4 * i) 0
  key = ap (λ (x : Item). x.key) is

  pub first_there : a ≡ true → g ≡ first_at d cells bef m src i g
  unfolding first_at
  first_there h = rw (← key, ← there, h)

  pub first_here : a ≡ false → (b : Bool) → b ≡ has_key w.key (keys_of src i) → b ≡ true → g ≡ first_at d cells bef m src i g
  unfolding first_at
  first_here h b here k = rw (← key, ← there, h, ← here, k)

  pub first_new : a ≡ false → (b : Bool) → b ≡ has_key w.key (keys_of src i) → b ≡ false → (g' : Gathered) → g' ≡ offer_one d cells w g → g' ≡ first_at d cells bef m src i g
  unfolding first_at
  first_new h b here k g' e =
      let p : has_key (get_or src (4 * i) 0) (keys_of bef m) ≡ false = rw key at (sym there ∙ h) in
      let q : has_key (get_or src (4 * i) 0) (keys_of src i) ≡ false = rw key at (sym here ∙ k) in
      rw (p, q) (e ∙ ap (λ (x : Item). offer_one d cells x g) is)

-- ---- the loop

gather_known : (d : Dims) (cells : List ℤ) (seen : List ℕ) (w : Item) (ws : List Item) (g : Gathered) → has_key w.key seen ≡ true → gather d cells seen (w ∷ ws) g ≡ gather d cells seen ws g
unfolding gather firsts
gather_known d cells seen w ws g h = rw h

gather-new : (d : Dims) (cells : List ℤ) (seen : List ℕ) (w : Item) (ws : List Item) (g : Gathered) → has_key w.key seen ≡ false
    → gather d cells seen (w ∷ ws) g ≡ gather d cells (w.key ∷ seen) ws (offer_one d cells w g)
unfolding gather firsts offer_all offer_answers tell_all offer_one
gather-new d cells seen w ws g h = rw h (gathered_path refl (omega arith) refl)

pub items_left : (src : List ℕ) (n i : ℕ) → i < n → items_from src (n - i) i ≡ item_of src i ∷ items_from src (n - (i + 1)) (i + 1)
unfolding items_from
items_left src n i h = let s : n - i ≡ suc (n - (i + 1)) = omega arith in rw s (ap (λ (z : ℕ). item_of src i ∷ items_from src (n - (i + 1)) z) (sym (add-one i)))

one-used : (d : Dims) (cells : List ℤ) (w : Item) (g : Gathered) → g.table.len ≤ d.size → (offer_one d cells w g).table.len ≤ d.size
unfolding offer_one
one-used d cells w g h = offer-few d.size g.table (cand_of w (count_of d w cells)) h

one-keys : (d : Dims) (cells : List ℤ) (w : Item) (g : Gathered) → (offer_one d cells w g).keys ≡ g.keys + 1
unfolding offer_one
one-keys d cells w g = refl

-- what the loop of `offer_firsts` keeps: what is left to do gives the answer
pub record GatherInv (d : Dims) (cells : List ℤ) (bef : List ℕ) (m : ℕ) (src : List ℕ) (n : ℕ) (es₀ : List ℕ) (ns₀ : List ℤ) (list₀ : List ℕ) (g₀ : Merged) (es : List ℕ) (ns : List ℤ) (list : List ℕ) (g : Merged) (i : ℕ) : Type 0 where
  pub used : g.len ≤ d.size
  pub few : g.keys ≤ g₀.keys + i
  pub seen : List ℕ
  pub same : Seen bef m src i seen
  pub goes : gather d cells seen (items_from src (n - i) i) (gathered_of es ns list g) ≡ gather d cells (keys_of bef m) (items_of src n) (gathered_of es₀ ns₀ list₀ g₀)

pub gather-holds : (d : Dims) (cells : List ℤ) (bef : List ℕ) (m : ℕ) (src : List ℕ) (n : ℕ) (es₀ : List ℕ) (ns₀ : List ℤ) (list₀ : List ℕ) (g₀ : Merged) → g₀.len ≤ d.size → GatherInv d cells bef m src n es₀ ns₀ list₀ g₀ es₀ ns₀ list₀ g₀ 0
gather-holds d cells bef m src n es₀ ns₀ list₀ g₀ h =
    record { used = h; few = omega arith; seen = keys_of bef m; same = seen_none bef m src; goes = ap (λ (z : ℕ). gather d cells (keys_of bef m) (items_from src z 0) (gathered_of es₀ ns₀ list₀ g₀)) e }
  where
    e : n - 0 ≡ n
    e = omega arith

pub gather_again : (d : Dims) (cells : List ℤ) (bef : List ℕ) (m : ℕ) (src : List ℕ) (n : ℕ) (es₀ : List ℕ) (ns₀ : List ℤ) (list₀ : List ℕ) (g₀ : Merged) (es es' : List ℕ) (ns ns' : List ℤ) (list list' : List ℕ) (g g' : Merged) (i : ℕ)
    → GatherInv d cells bef m src n es₀ ns₀ list₀ g₀ es ns list g i → i < n
    → gathered_of es' ns' list' g' ≡ first_at d cells bef m src i (gathered_of es ns list g) → GatherInv d cells bef m src n es₀ ns₀ list₀ g₀ es' ns' list' g' (i + 1)
unfolding first_at
gather_again d cells bef m src n es₀ ns₀ list₀ g₀ es es' ns ns' list list' g g' i v h e =
    go (has_key (get_or src (4 * i) 0) (keys_of bef m)) refl (has_key (get_or src (4 * i) 0) (keys_of src i)) refl
  where
    k : ℕ
    k = get_or src (4 * i) 0

    G : Gathered
    G = gathered_of es ns list g

    old : gather d cells v.seen (item_of src i ∷ items_from src (n - (i + 1)) (i + 1)) G ≡ gather d cells (keys_of bef m) (items_of src n) (gathered_of es₀ ns₀ list₀ g₀)
    old = rw (items_left src n i h) at v.goes

    known : has_key k v.seen ≡ true → gathered_of es' ns' list' g' ≡ G → GatherInv d cells bef m src n es₀ ns₀ list₀ g₀ es' ns' list' g' (i + 1)
    known p q =
        record {
          used = omega (arith, v.used, ap (λ (x : Gathered). x.table.len) q);
          few = omega (arith, v.few, ap (λ (x : Gathered). x.keys) q);
          seen = v.seen;
          same = seen_known bef m src i v.seen v.same p;
          goes = rw q (sym (gather_known d cells v.seen (item_of src i) (items_from src (n - (i + 1)) (i + 1)) G p) ∙ old);
        }

    new : has_key k v.seen ≡ false → gathered_of es' ns' list' g' ≡ offer_one d cells (item_of src i) G → GatherInv d cells bef m src n es₀ ns₀ list₀ g₀ es' ns' list' g' (i + 1)
    new p q =
        record {
          used = omega (arith, one-used d cells (item_of src i) G v.used, ap (λ (x : Gathered). x.table.len) q);
          few = omega (arith, v.few, ap (λ (x : Gathered). x.keys) q, one-keys d cells (item_of src i) G);
          seen = k ∷ v.seen;
          same = seen_new bef m src i v.seen v.same;
          goes = ap (gather d cells (k ∷ v.seen) (items_from src (n - (i + 1)) (i + 1))) q ∙ sym (gather-new d cells v.seen (item_of src i) (items_from src (n - (i + 1)) (i + 1)) G p) ∙ old;
        }

    go : (a : Bool) → has_key k (keys_of bef m) ≡ a → (b : Bool) → has_key k (keys_of src i) ≡ b → GatherInv d cells bef m src n es₀ ns₀ list₀ g₀ es' ns' list' g' (i + 1)
    go true p b q = known (v.same k ∙ rw p) (rw p at e)
    go false p true q = known (v.same k ∙ rw (p, q)) (rw (p, q) at e)
    go false p false q = new (v.same k ∙ rw (p, q)) (rw (p, q) at e)

pub gather_done : (d : Dims) (cells : List ℤ) (bef : List ℕ) (m : ℕ) (src : List ℕ) (n : ℕ) (es₀ : List ℕ) (ns₀ : List ℤ) (list₀ : List ℕ) (g₀ : Merged) (es : List ℕ) (ns : List ℤ) (list : List ℕ) (g : Merged) (i : ℕ)
    → GatherInv d cells bef m src n es₀ ns₀ list₀ g₀ es ns list g i → n ≤ i → gathered_of es ns list g ≡ gather d cells (keys_of bef m) (items_of src n) (gathered_of es₀ ns₀ list₀ g₀)
unfolding gather firsts offer_all offer_answers tell_all items_from
gather_done d cells bef m src n es₀ ns₀ list₀ g₀ es ns list g i v h =
    let s : n - i ≡ 0 = omega arith in
    gathered_path refl (omega arith) refl ∙ rw s at v.goes

-- ---- two in turn

offers_append : (d : Dims) (cells : List ℤ) (xs ys : List Item) (t : Table) → offer_all d cells (xs ++ ys) t ≡ offer_all d cells ys (offer_all d cells xs t)
unfolding offer_all
offers_append d cells [] ys t = refl
offers_append d cells (a ∷ xs) ys t = offers_append d cells xs ys (offer_to d a cells t).table

answers-append : (d : Dims) (cells : List ℤ) (xs ys : List Item) (t : Table) → offer_answers d cells (xs ++ ys) t ≡ offer_answers d cells xs t ++ offer_answers d cells ys (offer_all d cells xs t)
unfolding offer_all offer_answers
answers-append d cells [] ys t = refl
answers-append d cells (w ∷ xs) ys t = ap (λ (l : List Answer). (offer_to d w cells t).answer ∷ l) (answers-append d cells xs ys (offer_to d w cells t).table)

-- an answer for each offer
pub length-answers : (d : Dims) (cells : List ℤ) (ws : List Item) (t : Table) → length (offer_answers d cells ws t) ≡ length ws
unfolding offer_answers
length-answers d cells [] t = refl
length-answers d cells (w ∷ ws) t = ap suc (length-answers d cells ws (offer_to d w cells t).table)

pub zero-cands : (n : ℕ) → cands_of (replicate (4 * n) 0) (replicate n (pos 0)) ≡ replicate n no_cand
unfolding cands_of
zero-cands zero = refl
zero-cands (suc n) = ap (λ (z : ℕ). cands_of (replicate z 0) (pos 0 ∷ replicate n (pos 0))) four ∙ ap (λ (z : List Cand). no_cand ∷ z) (zero-cands n)
  where
    four : 4 * suc n ≡ suc (suc (suc (suc (4 * n))))
    four = omega arith

keys_none : (es : List ℕ) → keys_of es 0 ≡ []
unfolding items_from
keys_none es = refl

-- two places for each seat tell what two lists of entries did, since each has no more of them than seats
merge-list : (d : Dims) (cells : List ℤ) (xs ys : List Item) (t : Table) (list : List ℕ) → list ≡ replicate (4 * d.size) 0 → length xs ≤ d.size → length ys ≤ d.size
    → tell_all (tell_all list 0 (offer_answers d cells xs t)) (0 + length xs) (offer_answers d cells ys (offer_all d cells xs t)) ≡ places (2 * d.size) (offer_answers d cells (xs ++ ys) t)
merge-list d cells xs ys t list z h k =
    ap (λ (n : ℕ). tell_all (tell_all list 0 (offer_answers d cells xs t)) (0 + n) (offer_answers d cells ys (offer_all d cells xs t))) (sym (length-answers d cells xs t))
    ∙ sym (tell_append list 0 (offer_answers d cells xs t) (offer_answers d cells ys (offer_all d cells xs t)))
    ∙ ap₂ (λ (l : List ℕ) (as' : List Answer). tell_all l 0 as') (z ∙ ap (λ (n : ℕ). replicate n 0) four) (sym (answers-append d cells xs ys t))
    ∙ told_zeros (2 * d.size) (offer_answers d cells (xs ++ ys) t) (omega (arith, length-answers d cells (xs ++ ys) t, length-append xs ys))
  where
    four : 4 * d.size ≡ 2 * (2 * d.size)
    four = omega arith

pub merge-two : (d : Dims) (cells : List ℤ) (es cp ot : List ℕ) (len len₂ : ℕ) (es₁ es₂ es₃ : List ℕ) (ns₁ ns₂ ns₃ : List ℤ) (list₁ list₂ list₃ : List ℕ) (g₂ g₃ : Merged)
    → take (4 * len) cp ≡ take (4 * len) es → es₁ ≡ replicate (4 * d.size) 0 → ns₁ ≡ replicate d.size (pos 0) → list₁ ≡ replicate (4 * d.size) 0 → len ≤ d.size → len₂ ≤ d.size
    → gathered_of es₂ ns₂ list₂ g₂ ≡ gather d cells (keys_of cp 0) (items_of cp len) (gathered_of es₁ ns₁ list₁ (record { len = 0; keys = 0 }))
    → gathered_of es₃ ns₃ list₃ g₃ ≡ gather d cells (keys_of cp len) (items_of ot len₂) (gathered_of es₂ ns₂ list₂ g₂)
    → gathered_of es₃ ns₃ list₃ g₃ ≡ merge_table d cells (items_of es len ++ items_of ot len₂)
unfolding merge_table gather
merge-two d cells es cp ot len len₂ es₁ es₂ es₃ ns₁ ns₂ ns₃ list₁ list₂ list₃ g₂ g₃ f e n z few few₂ p q = gathered_path table keys list
  where
    same : items_of cp len ≡ items_of es len
    same = front_items es cp (4 * len) len 0 f (omega arith)

    empty : cands_of es₁ ns₁ ≡ replicate d.size no_cand
    empty = ap₂ cands_of e n ∙ zero-cands d.size

    none : Table
    none = record { cands = replicate d.size no_cand; len = 0 }

    fst : List Item
    fst = firsts [] (items_of es len)

    snd : List Item
    snd = firsts (keys_of es len) (items_of ot len₂)

    both : fst ++ snd ≡ firsts [] (items_of es len ++ items_of ot len₂)
    both = sym (firsts-append (items_of es len) (items_of ot len₂))

    p' : gathered_of es₂ ns₂ list₂ g₂ ≡ record { table = offer_all d cells fst none; keys = 0 + length fst; list = tell_all list₁ 0 (offer_answers d cells fst none) }
    p' = rw (keys_none cp, same, empty) at p

    q' : gathered_of es₃ ns₃ list₃ g₃ ≡ record { table = offer_all d cells snd (table_of es₂ ns₂ g₂.len); keys = g₂.keys + length snd; list = tell_all list₂ g₂.keys (offer_answers d cells snd (table_of es₂ ns₂ g₂.len)) }
    q' = rw same at q

    table : table_of es₃ ns₃ g₃.len ≡ offer_all d cells (firsts [] (items_of es len ++ items_of ot len₂)) none
    table =
        ap (λ (x : Gathered). x.table) q' ∙ ap (offer_all d cells snd) (ap (λ (x : Gathered). x.table) p')
        ∙ sym (offers_append d cells fst snd none)
        ∙ ap (λ (z : List Item). offer_all d cells z none) both

    keys : g₃.keys ≡ length (firsts [] (items_of es len ++ items_of ot len₂))
    keys = rw (sym both, length-append fst snd) (omega (arith, ap (λ (x : Gathered). x.keys) p', ap (λ (x : Gathered). x.keys) q'))

    list : list₃ ≡ places (2 * d.size) (offer_answers d cells (firsts [] (items_of es len ++ items_of ot len₂)) none)
    list =
        ap (λ (x : Gathered). x.list) q'
        ∙ ap (λ (x : Gathered). tell_all x.list x.keys (offer_answers d cells snd x.table)) p'
        ∙ merge-list d cells fst snd none list₁ z (omega (arith, firsts-few [] (items_of es len), items-many es len 0)) (omega (arith, firsts-few (keys_of es len) (items_of ot len₂), items-many ot len₂ 0))
        ∙ ap (λ (z : List Item). places (2 * d.size) (offer_answers d cells z none)) both
