-- A run of calls with an index and the same run without one. Assumes nothing.
use mathlib.Core.Path.{◌≡◌, refl, ap, ap₂, ◌∙◌}
use mathlib.Core.Bool.{Bool, true, false, cond}
use mathlib.Core.List.{List, [], ◌∷◌}
use Prim.Native.Nat.{ℕ}
use lib.Dec.{eqb}
use Rattle.layout.specs.Slices.{Lent}
use Rattle.indexed_streams.specs.Runs.{Call, Told, Indexed, put, first_of, walk_call, walk_run, walk_told, seek_call, seek_run, seek_told}
use Rattle.indexed_streams.specs.IndexedRuns.{SameRuns, Theorem}
use Rattle.indexed_streams.proofs.Keeps.{Kept, kept_of, passing_of}
use Rattle.indexed_streams.proofs.Calls.{SameCall, ask-same, join-same}

-- headers and slices of relays
abbrev lends_of : (ℕ → Indexed) → ℕ → Lent
lends_of zs i = (zs i).lends

-- every relay passes
abbrev AllKept : (ℕ → Indexed) → Type 0
AllKept zs = (i : ℕ) → Kept (zs i).lends (zs i).index

call_same : (zs : ℕ → Indexed) (c : Call) → AllKept zs → SameCall (seek_call zs c) (walk_call (lends_of zs) c)
call_same zs (Call.ask i a) p = ask-same a (zs i) (p i)
call_same zs (Call.join i j list) p = join-same (zs i) (zs j).lends list (p i) (p j).passing

-- relay i replaced by one that passes
put-kept : (zs : ℕ → Indexed) (i : ℕ) (z : Indexed) → AllKept zs → Kept z.lends z.index → AllKept (put zs i z)
put-kept zs i z p k j = go (eqb j i)
  where
    go : (b : Bool) → Kept (cond b z (zs j)).lends (cond b z (zs j)).index
    go true = k
    go false = p j

-- and what is lent of relays then
put-lends : (zs : ℕ → Indexed) (i : ℕ) (z : Indexed) (r : Lent) → z.lends ≡ r → lends_of (put zs i z) ≡ put (lends_of zs) i r
put-lends zs i z r e = λ k j. go j (eqb j i) k
  where
    go : (j : ℕ) (b : Bool) → (cond b z (zs j)).lends ≡ cond b r (zs j).lends
    go j true = e
    go j false = refl

same_runs : (cs : List Call) (zs : ℕ → Indexed) → AllKept zs → SameRuns zs cs
unfolding seek_told walk_told seek_run walk_run
same_runs [] zs p = record { told = refl; lends = λ i. refl; passing = λ i. passing_of (zs i) (p i) }
same_runs (c ∷ cs) zs p =
    let one = call_same zs c p in
    let next = put zs (first_of c) (seek_call zs c).relay in
    let rest = same_runs cs next (put-kept zs (first_of c) (seek_call zs c).relay p one.kept) in
    let lent = put-lends zs (first_of c) (seek_call zs c).relay (walk_call (lends_of zs) c).lends one.lends in
    record {
      told = ap₂ (λ (t : Told) (ts : List Told). t ∷ ts) one.told (rest.told ∙ ap (λ (rs : ℕ → Lent). walk_told rs cs) lent);
      lends = λ i. rest.lends i ∙ ap (λ (rs : ℕ → Lent). walk_run rs cs i) lent;
      passing = rest.passing;
    }

pub indexed_runs : Theorem
indexed_runs zs cs p = same_runs cs zs (λ i. kept_of (zs i) (p i))
