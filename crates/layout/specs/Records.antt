-- The record of a key.
use Rattle.std.specs.Prelude.{ℕ, ◌+◌, ◌*◌, List, get_or}
use Rattle.heap_moves.specs.declared.Item.{Item}

-- "a record is key, bottom hash (seed index 19), then high and low half of the 128-bit hash for each layer, 2 + 2 × layers words"
abbrev pub record_length : ℕ → ℕ
record_length layers = 2 + 2 * layers

abbrev pub bottom_word : List ℕ → ℕ
bottom_word words = get_or words 1 0

-- the key of a record, with layer l's hash
abbrev pub item_at : List ℕ → ℕ → Item
item_at words l = record { key = get_or words 0 0; bottom = bottom_word words; high = get_or words (2 + 2 * l) 0; low = get_or words (3 + 2 * l) 0 }
