-- What updates and merges add up, beside the layers.
use Rattle.std.specs.Prelude.{ℕ, ◌+◌, Bool, not, ◌&&◌, List, [], ◌∷◌, leb}
use Rattle.words.specs.Num.{top}
use Rattle.header.specs.declared.Totals.{Totals}

-- of a fresh state
abbrev pub no_totals : Totals
no_totals = record { weight = 0; updates = 0 }

-- of one update, "weight 0 included"
abbrev pub update_totals : ℕ → Totals
update_totals w = record { weight = w; updates = 1 }

-- of a merge: "Merging adds it"
abbrev pub add_totals : Totals → Totals → Totals
add_totals a b = record { weight = a.weight + b.weight; updates = a.updates + b.updates }

-- another weight, as it is set
abbrev pub set_weight : Totals → ℕ → Totals
set_weight t w = record { weight = w; updates = t.updates }

-- "its weight is 0 to 2^52", and "the number of accepted updates, 0 to 2^52"
abbrev pub totals_ok : Totals → Bool
totals_ok t = leb t.weight top && leb t.updates top

-- of a sum: 7 "weight would pass 2^52", "directly after 7" 14 "updates would pass 2^52"
abbrev pub totals_tests : Totals → Totals → List (Bool × ℕ)
totals_tests a b = (not (leb (a.weight + b.weight) top), 7) ∷ (not (leb (a.updates + b.updates) top), 14) ∷ []
