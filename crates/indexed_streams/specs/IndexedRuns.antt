-- "From states that pass the check, index included, the indexed and the walking candidates give the same answers and states over any calls lent what the last
-- ones left." The proof stands in proofs/IndexedRuns.antt, `indexed_runs`.
use Rattle.std.specs.Prelude.{ℕ, ◌≡◌, true, List}
use Rattle.state_check.specs.Reached.{Arrays}
use Rattle.indexed_state.specs.Check.{indexed_ok}
use Rattle.indexed_streams.specs.Runs.{Call, Indexed, walk_run, walk_told, seek_run, seek_told}

-- a state that passes the check, index included, in a header with its arrays
pub record PassingIn (z : Indexed) : Type 0 where
  pub arrays : Arrays z.lends.head
  pub ok : indexed_ok z.lends z.index ≡ true

-- what is claimed of a list of calls on relays that pass: the same answers and lists, the same headers and slices, and every relay passes again, so also after each call
pub record SameRuns (zs : ℕ → Indexed) (cs : List Call) : Type 0 where
  pub told : seek_told zs cs ≡ walk_told (λ i. (zs i).lends) cs
  pub lends : (i : ℕ) → (seek_run zs cs i).lends ≡ walk_run (λ j. (zs j).lends) cs i
  pub passing : (i : ℕ) → PassingIn (seek_run zs cs i)

abbrev pub Theorem : Type 0
Theorem = (zs : ℕ → Indexed) (cs : List Call) → ((i : ℕ) → PassingIn (zs i)) → SameRuns zs cs
