-- Keys offered in turn to a table with an index, as the code goes: with the number of keys and the list of what their offers did.
use Rattle.std.specs.Prelude.{ℕ, ◌+◌, List, [], ◌∷◌, ℤ}
use Rattle.words.specs.Lending.{SliceBoth}
use Rattle.heap_moves.specs.declared.Item.{Item}
use Rattle.heap.specs.inner.Telling.{tell_at}
use Rattle.layer.specs.declared.Dims.{Dims}
use Rattle.layer.specs.declared.Merged.{Merged}
use Rattle.layer.specs.inner.Gather.{Gathered, gathered_of}
use Rattle.layer_indexed.specs.Adding.{offer_to_in, table_after}

pub record GatheredWith : Type 0 where
  pub index : List ℕ
  pub gathered : Gathered

abbrev pub gathered_with : List ℕ → List ℕ → List ℤ → List ℕ → Merged → GatheredWith
gathered_with xs es ns list g = record { index = xs; gathered = gathered_of es ns list g }

-- in a contract: of the slices that a function is lent, at its entry and at its exit
abbrev pub gathered_with_in : SliceBoth ℕ → SliceBoth ℕ → SliceBoth ℤ → SliceBoth ℕ → Merged → GatheredWith
gathered_with_in xs es ns list g = gathered_with xs.entry.now es.entry.now ns.entry.now list.entry.now g

abbrev pub gathered_with_out : SliceBoth ℕ → SliceBoth ℕ → SliceBoth ℤ → SliceBoth ℕ → Merged → GatheredWith
gathered_with_out xs es ns list g = gathered_with xs.exit.now es.exit.now ns.exit.now list.exit.now g

-- one key offered
unfoldable pub offer_one_in : Dims → List ℤ → Item → GatheredWith → GatheredWith
offer_one_in d cells w s =
    record {
      index = (offer_to_in d w cells s.index s.gathered.table).after.index;
      gathered =
          record {
            table = table_after s.gathered.table.len (offer_to_in d w cells s.index s.gathered.table);
            keys = s.gathered.keys + 1;
            list = tell_at s.gathered.list s.gathered.keys (offer_to_in d w cells s.index s.gathered.table).answer;
          };
    }

-- keys in turn
unfoldable pub offers_in : Dims → List ℤ → List Item → GatheredWith → GatheredWith
offers_in d cells [] s = s
offers_in d cells (w ∷ ws) s = offers_in d cells ws (offer_one_in d cells w s)
