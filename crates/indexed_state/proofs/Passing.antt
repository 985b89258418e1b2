-- An index that is built passes the check, where no layer holds a key twice. Assumes nothing.
use mathlib.Core.Path.{◌≡◌, refl, sym, ap, subst, ◌∙◌}
use mathlib.Core.Bool.{true}
use mathlib.Core.List.{List}
use Prim.Native.Nat.{ℕ, ◌*◌, ◌≤◌, ◌<◌}
use native.Mathlib.Omega.{arith}
use lib.ListN.{length, get_or, replicate, length-replicate}
use lib.IntN.{ℤ, pos}
use Rattle.words.specs.Num.{in_range}
use Rattle.words.specs.Parts.{part}
use Rattle.words.proofs.Lists.{get_d_all}
use Rattle.heap_moves.specs.Flat.{cands_of}
use Rattle.heap_moves.proofs.Views.{count_at_lem}
use Rattle.heap_index.specs.Index.{key_at, build, index_ok}
use Rattle.heap_index.specs.inner.Indexes.{Ranged}
use Rattle.heap_index.proofs.Walks.{key-read}
use Rattle.heap_index.proofs.Inserts.{holds-keys}
use Rattle.heap_index.proofs.Builds.{Distinct, build-holds}
use Rattle.heap_index.proofs.Checks.{holds_check}
use Rattle.heap_index.proofs.Scanned.{index-room}
use Rattle.layer.specs.Layer.{Layer}
use Rattle.layout.specs.State.{cand_off, layer_at}
use Rattle.layout.specs.Slices.{Lent, view}
use Rattle.layout.specs.inner.Needs.{Standing}
use Rattle.layout.proofs.Pieces.{seats-long}
use Rattle.layout.proofs.Views.{layer_here, layer-view}
use Rattle.layout_index.specs.Tables.{table_length, tables_in}
use Rattle.state_check.specs.Check.{state_ok}
use Rattle.state_check.proofs.WholeStates.{ok-standing, whole-at}
use Rattle.indexed_state.specs.Building.{built_table, built_index}
use Rattle.indexed_state.specs.Check.{table_ok, indexed_ok}
use Rattle.indexed_state.proofs.Parted.{indexed_whole}
use Rattle.indexed_state.proofs.Built.{built_length, built_at}

-- ---- one table: built with zeros for the counts, it passes beside the counts

module _ (es : List ℕ) (ns : List ℤ) (k : ℕ) (long : length ns ≡ k) (n : ℕ) (used : n ≤ k) where
  -- no key stands in the counts
  same_key : (j : ℕ) → j < n → key_at (cands_of es ns) j ≡ key_at (cands_of es (replicate k (pos 0))) j
  same_key j h =
      key-read es ns j (omega (arith, h, used, long)) ∙ sym (key-read es (replicate k (pos 0)) j (omega (arith, h, used, length-replicate {A = ℤ} k (pos 0))))

  zeros_ranged : Ranged n (cands_of es (replicate k (pos 0)))
  unfolding in_range
  zeros_ranged j h =
      ap in_range (count_at_lem es (replicate k (pos 0)) j (omega (arith, h, used, length-replicate {A = ℤ} k (pos 0))) ∙ get_d_all {A = ℤ} (pos 0) k j)

  pub zeros_pass : (m : ℕ) → n < m → Ranged n (cands_of es ns) → Distinct n (cands_of es ns) → index_ok (build m n (cands_of es (replicate k (pos 0)))) n (cands_of es ns) ≡ true
  zeros_pass m room ranged apart =
      let zs = cands_of es (replicate k (pos 0)) in
      let b = build-holds m n zs room zeros_ranged (λ i j hi hj e. apart i j hi hj (same_key i hi ∙ e ∙ sym (same_key j hj))) in
      holds_check (build m n zs) n (cands_of es ns) (holds-keys (length (build m n zs)) (build m n zs) n zs (cands_of es ns) n (λ j h o. same_key j h) b.0) ranged

-- ---- all tables

-- the keys of layer l's candidates differ
abbrev pub KeysDiffer : Lent → ℕ → Type 0
KeysDiffer r l = Distinct (layer_at (view r) l).table.len (layer_at (view r) l).table.cands

module _ (r : Lent) (e : state_ok r ≡ true) (l : ℕ) (h : l < r.head.shape.layers) where
  standing : Standing r
  standing = ok-standing r e

  here : layer_at (view r) l ≡ layer_here r l
  here = layer-view r standing.sizes l h

  built_ok : KeysDiffer r l → table_ok (built_table r.head r.entries l) (layer_here r l) ≡ true
  unfolding built_table
  built_ok apart =
      let sh = r.head.shape in
      let used = standing.lens l h in
      zeros_pass (part (4 * cand_off sh l) (4 * sh.heap_size) r.entries) (part (cand_off sh l) sh.heap_size r.counts) sh.heap_size (seats-long sh l h r.counts standing.sizes.counts)
      (get_or r.head.lens l 0) used (table_length sh) (omega (arith, used, index-room sh.heap_size standing.accepted.seats standing.accepted.small))
      (subst (λ (y : Layer). Ranged y.table.len y.table.cands) here (whole-at r e l h).counts)
      (subst (λ (y : Layer). Distinct y.table.len y.table.cands) here apart)

  pub layer_passes : KeysDiffer r l → table_ok (built_table r.head r.entries l) (layer_at (view r) l) ≡ true
  layer_passes apart = ap (table_ok (built_table r.head r.entries l)) here ∙ built_ok apart

-- the index that is built beside a state that passes, with no key twice in a layer, passes whatever stood in it
pub built_passes : (r : Lent) (xs : List ℕ) → state_ok r ≡ true → length xs ≡ tables_in r.head.shape → ((l : ℕ) → l < r.head.shape.layers → KeysDiffer r l)
    → indexed_ok r (built_index r.head r.entries xs) ≡ true
built_passes r xs e long apart =
    indexed_whole r (built_index r.head r.entries xs) e (built_length r.head r.entries xs long)
    (λ l h. ap (λ (ys : List ℕ). table_ok ys (layer_at (view r) l)) (built_at r.head r.entries xs long l h) ∙ layer_passes r e l h (apart l h))

-- so does the one beside a state without candidates
layer-len : (r : Lent) (l : ℕ) → (layer_at (view r) l).table.len ≡ get_or r.head.lens l 0
unfolding layer_at view
layer-len r l = refl

pub fresh_passes : (r : Lent) (xs : List ℕ) → state_ok r ≡ true → length xs ≡ tables_in r.head.shape → ((l : ℕ) → l < r.head.shape.layers → get_or r.head.lens l 0 ≡ 0)
    → indexed_ok r (built_index r.head r.entries xs) ≡ true
fresh_passes r xs e long none = built_passes r xs e long (λ l h i j hi hj q. absurd (omega (arith, hi, layer-len r l, none l h)))
