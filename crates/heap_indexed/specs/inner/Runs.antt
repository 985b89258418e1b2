-- Candidates offered one after the other, by the walk and with an index that is lent as the last offer left it.
use Rattle.std.specs.Prelude.{Bool, true, ◌&&◌, List, [], ◌∷◌, ℕ}
use Rattle.heap_moves.specs.Cands.{Cand}
use Rattle.heap.specs.declared.Answer.{Answer}
use Rattle.heap.specs.Offer.{Table, offer, len_by}
use Rattle.heap_indexed.specs.Offers.{IndexedOffer, offer_in}

pub record Walked : Type 0 where
  pub table : Table
  pub answers : List Answer

unfoldable pub walk_run : ℕ → Table → List Cand → Walked
walk_run size t [] = record { table = t; answers = [] }
walk_run size t (c ∷ cs) =
    record { table = (walk_run size (offer size t c).table cs).table; answers = (offer size t c).answer ∷ (walk_run size (offer size t c).table cs).answers }

-- the table that an outcome leaves of one with n candidates
abbrev pub leaves : ℕ → IndexedOffer → Table
leaves n o = record { cands = o.after.cands; len = len_by o.answer n }

pub record Ran : Type 0 where
  pub fine : Bool
  pub table : Table
  pub index : List ℕ
  pub answers : List Answer

unfoldable pub index_run : ℕ → List ℕ → Table → List Cand → Ran
index_run size xs t [] = record { fine = true; table = t; index = xs; answers = [] }
index_run size xs t (c ∷ cs) =
    record {
      fine = (offer_in size xs t c).after.fine && (index_run size (offer_in size xs t c).after.index (leaves t.len (offer_in size xs t c)) cs).fine;
      table = (index_run size (offer_in size xs t c).after.index (leaves t.len (offer_in size xs t c)) cs).table;
      index = (index_run size (offer_in size xs t c).after.index (leaves t.len (offer_in size xs t c)) cs).index;
      answers = (offer_in size xs t c).answer ∷ (index_run size (offer_in size xs t c).after.index (leaves t.len (offer_in size xs t c)) cs).answers;
    }
