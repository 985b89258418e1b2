-- The candidates of two layers gathered, as the code goes: entry by entry, with the number of distinct keys and the list of what their offers did.
use Rattle.std.specs.Prelude.{ℕ, zero, suc, ◌+◌, ◌*◌, ◌≤◌, ◌≡◌, true, cond, List, [], ◌∷◌, map, length, get_or, ℤ}
use Rattle.words.specs.Num.{all_in}
use Rattle.words.specs.Lending.{SliceBoth}
use Rattle.matrix_storage.specs.inner.Shaped.{Shaped}
use Rattle.countsketch_l2_norm.specs.Merge.{sums}
use Rattle.heap_moves.specs.declared.Item.{Item}
use Rattle.heap_moves.specs.Cands.{most_cands}
use Rattle.heap_moves.specs.Flat.{item_of}
use Rattle.heap.specs.Offer.{Table}
use Rattle.heap.specs.Places.{places}
use Rattle.heap.specs.inner.Slices.{table_of}
use Rattle.heap.specs.inner.Telling.{tell_at, tell_all}
use Rattle.layer.specs.declared.Dims.{Dims}
use Rattle.layer.specs.declared.Merged.{Merged}
use Rattle.layer.specs.Layer.{offer_to, no_table}
use Rattle.layer.specs.Merge.{has_key, firsts, offer_all, offer_answers}
use Rattle.layer.specs.inner.Needs.{Housed}

abbrev pub item_keys : List Item → List ℕ
item_keys ws = map (λ (w : Item). w.key) ws

-- the table, the number of distinct keys, and the list that tells what each of their offers did
pub record Gathered : Type 0 where
  pub table : Table
  pub keys : ℕ
  pub list : List ℕ

abbrev pub gathered_of : List ℕ → List ℤ → List ℕ → Merged → Gathered
gathered_of es ns list g = record { table = table_of es ns g.len; keys = g.keys; list = list }

-- in a contract: of the slices that a function is lent, at its entry and at its exit
abbrev pub gathered_in : SliceBoth ℕ → SliceBoth ℤ → SliceBoth ℕ → Merged → Gathered
gathered_in es ns list g = gathered_of es.entry.now ns.entry.now list.entry.now g

abbrev pub gathered_out : SliceBoth ℕ → SliceBoth ℤ → SliceBoth ℕ → Merged → Gathered
gathered_out es ns list g = gathered_of es.exit.now ns.exit.now list.exit.now g

-- each key of a list offered once, to an empty table; two places for each seat tell what was done
unfoldable pub merge_table : Dims → List ℤ → List Item → Gathered
merge_table d cells ws =
    record {
      table = offer_all d cells (firsts [] ws) (no_table d.size);
      keys = length (firsts [] ws);
      list = places (2 * d.size) (offer_answers d cells (firsts [] ws) (no_table d.size));
    }

-- one key offered
unfoldable pub offer_one : Dims → List ℤ → Item → Gathered → Gathered
offer_one d cells w g =
    record {
      table = (offer_to d w cells g.table).table;
      keys = g.keys + 1;
      list = tell_at g.list g.keys (offer_to d w cells g.table).answer;
    }

-- the first entry of each key that was not seen is offered
unfoldable pub gather : Dims → List ℤ → List ℕ → List Item → Gathered → Gathered
gather d cells seen ws g =
    record {
      table = offer_all d cells (firsts seen ws) g.table;
      keys = g.keys + length (firsts seen ws);
      list = tell_all g.list g.keys (offer_answers d cells (firsts seen ws) g.table);
    }

-- n entries of a slice from the i-th on
unfoldable pub items_from : List ℕ → ℕ → ℕ → List Item
items_from es zero i = []
items_from es (suc n) i = item_of es i ∷ items_from es n (suc i)

abbrev pub items_of : List ℕ → ℕ → List Item
items_of es n = items_from es n 0

abbrev pub keys_of : List ℕ → ℕ → List ℕ
keys_of es n = item_keys (items_from es n 0)

-- entry i of the source is offered unless its key stands in an entry before it there, or in one of the first m entries of another slice
unfoldable pub first_at : Dims → List ℤ → List ℕ → ℕ → List ℕ → ℕ → Gathered → Gathered
first_at d cells before m source i g =
    cond (has_key (get_or source (4 * i) 0) (keys_of before m)) g
    (cond (has_key (get_or source (4 * i) 0) (keys_of source i)) g
    (offer_one d cells (item_of source i) g))

-- ---- what the functions need, by name

-- counters from which any key's count may be estimated
pub record CountersRead (d : Dims) (xs : List ℤ) : Type 0 where
  pub shaped : Shaped d.rows d.cols
  pub room : d.rows * d.cols ≤ length xs
  pub read : all_in xs ≡ true

-- nw words and nc counts of a layer's candidates
pub record Seats (d : Dims) (nw nc : ℕ) : Type 0 where
  pub words : nw ≡ 4 * d.size
  pub counts : nc ≡ d.size
  pub some : 1 ≤ d.size
  pub few : d.size ≤ most_cands

-- n entries in nw words
pub record Entries (nw n : ℕ) : Type 0 where
  pub words : 4 * n ≤ nw
  pub few : n ≤ most_cands

-- so far no more candidates than seats, of at most `most` keys
pub record Sofar (d : Dims) (g : Merged) (most : ℕ) : Type 0 where
  pub used : g.len ≤ d.size
  pub few : g.keys ≤ most

-- what a merge needs of a layer and of another one with len₂ candidates: lengths, counters in range, and sums of counters in range
pub record LayerMergeReady (d : Dims) (len len₂ : ℕ) (xs : List ℤ) (ws es : List ℕ) (ns xs₂ : List ℤ) (es₂ : List ℕ) : Type 0 where
  pub housed : Housed d (length xs) (length ws) (length ns) len
  pub words : length es ≡ 4 * d.size
  pub cells : length xs₂ ≡ d.rows * d.cols
  pub others : Entries (length es₂) len₂
  pub other_used : len₂ ≤ d.size
  pub read : all_in xs ≡ true
  pub other_read : all_in xs₂ ≡ true
  pub fit : all_in (sums xs xs₂) ≡ true
