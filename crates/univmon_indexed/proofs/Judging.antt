-- What the tests of many layers need, of one layer and of those behind the first. Assumes nothing.
use mathlib.Core.Path.{◌≡◌}
use mathlib.Core.Bool.{true}
use mathlib.Core.List.{List}
use Prim.Native.Nat.{ℕ, ◌+◌, ◌-◌, ◌≤◌, ◌<◌}
use lib.IntN.{ℤ}
use Rattle.header.specs.declared.Header.{Header}
use Rattle.layout.specs.State.{all_layers}
use Rattle.layout.specs.Slices.{Lent, lent, view}
use Rattle.univmon.proofs.Judging as walk
use Rattle.univmon_indexed.specs.inner.Needs.{JudgeReadyIn, SendsReadyIn, fine_at}

pub judge-one_in : (r : Lent) (xs words : List ℕ) (w many first l : ℕ) → JudgeReadyIn r xs words w many first → l < many + first → JudgeReadyIn r xs words w 1 l
judge-one_in r xs words w many first l p h = record { judge = walk.judge-one r words w many first l p.judge h; tables = p.tables }

pub judge-behind_in : (r : Lent) (xs words : List ℕ) (w many first : ℕ) → JudgeReadyIn r xs words w many first → 1 ≤ many → JudgeReadyIn r xs words w (many - 1) (first + 1)
judge-behind_in r xs words w many first p h = record { judge = walk.judge-behind r words w many first p.judge h; tables = p.tables }

-- layers at which the update may be made may be sent to
pub fine_sends : (r : Lent) (xs words : List ℕ) (w many first : ℕ) → JudgeReadyIn r xs words w many first → all_layers (fine_at r.head.shape words w xs) many first (view r) ≡ true → SendsReadyIn r xs words w many first
fine_sends r xs words w many first p e = record { judge = p; fine = e }

-- slices that came back as they were
pub same-lent : (h : Header) (cs : List ℤ) (ws es : List ℕ) (ns : List ℤ) (es' : List ℕ) (ns' : List ℤ) → es' ≡ es → ns' ≡ ns → lent h cs ws es' ns' ≡ lent h cs ws es ns
same-lent h cs ws es ns es' ns' a b = λ i. lent h cs ws (a i) (b i)
