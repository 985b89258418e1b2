-- `estimates::terminal::climb` meets its contract.
use mathlib.Core.Path.{ap, ◌∙◌}
use Prim.Native.Nat.{suc}
use native.Mathlib.Numerals.{add-one}
use Rattle.sums.specs.inner.Spaces.{space, entries_in}
use Rattle.sums.specs.Terminal.{gather_entries}
use Rattle.layer.specs.Layer.{Layer}
use Rattle.layout.specs.Slices.{view}
use Rattle.layout.specs.Lending.{lent_read}
use Rattle.ranks.specs.inner.Step.{up_of, close_of, level_place}
use Rattle.ranks.proofs.Levels.{step_is}
use Rattle.estimates.specs.Sums.{own_at, terminal_input}
use Rattle.estimates.specs.inner.Slices.{square_of}
use Rattle.estimates.proofs.Layers.{own-of, readable-of}
use Rattle.estimates.proofs.terminal.climb.Goals as goal

pub absorb-all-requires-clause-entries_readable : goal.absorb-all-requires-clause-entries_readable
absorb-all-requires-clause-entries_readable c =
    let y = c.layer-layer.ensures in
    readable-of (lent_read c.args.state) c.args.l c.layer-layer.result (record { housed = y.housed; words = y.entries_len }) y.layer y.dims c.requires.counts_ready c.requires.n_le_max_heap.1

pub returns-clause-result_value : goal.returns-clause-result_value
returns-clause-result_value c =
    let a = c.args in
    let r = lent_read a.state in
    let y = c.layer-layer.ensures in
    let all = c.absorb-all.result in
    let s₀ = space a.keys.now a.bottoms.now a.counts.now in
    let s₁ = space c.absorb-all.new.keys c.absorb-all.new.bottoms c.absorb-all.new.counts in
    let s₂ = space c.close.new.keys c.close.new.bottoms c.close.new.counts in
    let o = own-of r a.l c.layer-layer.result (record { housed = y.housed; words = y.entries_len }) y.layer y.dims in
    step_is a.ask (level_place (terminal_input (view r)) a.last a.l) (own_at (view r) a.l) s₀ s₁ s₂ a.below c.close.result all
    (c.absorb-all.ensures.result_value ∙ ap (gather_entries (entries_in s₀ 0 a.below.n)) o)
    (rw (c.square_of-square.ensures, add-one) at c.close.ensures.result_value
    ∙ ap (λ (w : Layer). close_of a.ask (record { flag = w.flag; square = square_of w; last = a.last; bit = suc a.l }) (entries_in s₁ 0 all) (up_of s₁ a.below)) y.layer)
