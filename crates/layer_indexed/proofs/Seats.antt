-- What a trial needs of the slices of a layer with an index. Assumes nothing.
use Prim.Native.Nat.{ℕ}
use native.Mathlib.Omega.{arith}
use Rattle.heap_index.proofs.Scanned.{index_bound}
use Rattle.heap_trial.specs.inner.Trials.{Small}
use Rattle.layer.specs.declared.Dims.{Dims}
use Rattle.layer_indexed.specs.inner.Needs.{Seated}

module _ (d : Dims) {nx nw ne nc ni len : ℕ} (s : Seated d nx nw ne nc ni len) where
  pub small_of : Small ni nc
  small_of = record { places = omega (arith, s.places, index_bound d.size s.housed.few); counts = omega (arith, s.housed.seats, s.housed.few) }
