-- Four keys at once, for the scans that test four with one jump.
use Rattle.std.specs.Prelude.{ℕ, Bool, not, ◌&&◌, ◌==◌}

-- none of four keys is k
abbrev pub four_other : ℕ → ℕ → ℕ → ℕ → ℕ → Bool
four_other a b c d k = ((not (a == k) && not (b == k)) && not (c == k)) && not (d == k)
