-- The layers that an update of either kind is sent to. Assumes nothing.
use mathlib.Core.Path.{◌≡◌}
use Prim.Native.Nat.{ℕ, ◌+◌, ◌-◌, ◌≤◌, ◌<◌}
use native.Mathlib.Omega.{arith}
use Rattle.univmon.specs.declared.Kind.{Kind}
use Rattle.univmon.specs.declared.Kind.TheVariants as kind
use Rattle.univmon.specs.Updates.{first_sent, many_sent}

pub sent-room : (k : Kind) (b n : ℕ) → b < n → first_sent k b + many_sent k b ≤ n
sent-room kind.Standard b n h = omega arith
sent-room kind.Terminal b n h = omega arith

pub first_below : (k : Kind) (b : ℕ) → first_sent k b ≤ b + 1
first_below kind.Standard b = omega arith
first_below kind.Terminal b = omega arith

pub many-some : (k : Kind) (b : ℕ) → 1 ≤ many_sent k b
many-some kind.Standard b = omega arith
many-some kind.Terminal b = omega arith

pub many-sent : (k : Kind) (b : ℕ) → b + 1 - first_sent k b ≡ many_sent k b
many-sent kind.Standard b = omega arith
many-sent kind.Terminal b = omega arith
