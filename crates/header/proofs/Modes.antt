-- Modes and their numbers. Assumes nothing.
use mathlib.Core.Path.{◌≡◌, refl}
use Prim.Native.Nat.{ℕ, zero, suc, ◌≤◌}
use native.Mathlib.Omega.{arith}
use Rattle.header.specs.declared.Mode.{Mode}
use Rattle.header.specs.declared.Mode.TheVariants as mode
use Rattle.header.specs.Header.{mode_number, mode_by}

pub mode-back : (m : Mode) → mode_by (mode_number m) ≡ m
unfolding mode_by
mode-back mode.Unset = refl
mode-back mode.Standard = refl
mode-back mode.Terminal = refl

pub mode-few : (m : Mode) → mode_number m ≤ 2
mode-few mode.Unset = omega arith
mode-few mode.Standard = omega arith
mode-few mode.Terminal = omega arith

pub number-back : (n : ℕ) → n ≤ 2 → mode_number (mode_by n) ≡ n
unfolding mode_by
number-back zero h = refl
number-back (suc zero) h = refl
number-back (suc (suc zero)) h = refl
number-back (suc (suc (suc n))) h = absurd (omega arith)
