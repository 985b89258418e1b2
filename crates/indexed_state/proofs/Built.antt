-- The index that is built from the entries: each layer's table is its own, and one without candidates is empty and passes. Assumes nothing.
use mathlib.Core.Path.{◌≡◌, refl, sym, ap, subst, ◌∙◌}
use mathlib.Core.Bool.{true}
use mathlib.Core.List.{List, ◌∷◌}
use Prim.Native.Nat.{ℕ, zero, suc, ◌+◌, ◌*◌, ◌≤◌, ◌<◌}
use native.Mathlib.Omega.{arith}
use borrow.Author.Tests.{eq-eqb, ne_eqb, eqb-true, not-false}
use lib.ListN.{length, get_or, take, replicate, length-replicate}
use lib.IntN.{ℤ, pos}
use Rattle.words.specs.Parts.{part}
use Rattle.words.specs.Tests.{number}
use Rattle.words.proofs.Tests.{off_number}
use Rattle.heap_moves.specs.Cands.{Cand}
use Rattle.heap_moves.specs.Flat.{cands_of}
use Rattle.heap_index.specs.Index.{enter_all, build, index_ok}
use Rattle.heap_index.specs.inner.Indexes.{IndexesIn}
use Rattle.heap_index.proofs.Builds.{empty_holds}
use Rattle.heap_index.proofs.Checks.{holds_check}
use Rattle.heap_index.proofs.Scanned.{build-long}
use Rattle.header.specs.declared.Header.{Header}
use Rattle.header.proofs.Ranges.{ranged_of, len-few}
use Rattle.layout.specs.State.{cand_off}
use Rattle.layout.specs.Slices.{cands_in}
use Rattle.layout_index.specs.Tables.{table_length, tables_in, table_at, put_table, index_left}
use Rattle.layout_index.proofs.Turns.{OverTables, over-tables, TablesInTurn, tables_start, tables_on, tables_end}
use Rattle.indexed_state.specs.Building.{build_tests, built_table, built_index}
use Rattle.indexed_state.specs.inner.Needs.{Buildable}

-- ---- how long a table is that is built

pub built_long : (h : Header) (es : List ℕ) (l : ℕ) → length (built_table h es l) ≡ table_length h.shape
unfolding built_table
built_long h es l = build-long (table_length h.shape) (get_or h.lens l 0) _

-- ---- layer l's table, in a part of the index or in all of it

-- the first of many zeros
pub zeros_taken : (k n : ℕ) → k ≤ n → take k (replicate n (pos 0)) ≡ replicate k (pos 0)
zeros_taken zero n h = refl
zeros_taken (suc k) zero h = absurd (omega (arith, h))
zeros_taken (suc k) (suc n) h = ap (λ (zs : List ℤ). pos 0 ∷ zs) (zeros_taken k n (omega (arith, h)))

pub zeros_long : (k n : ℕ) → k ≤ n → length (take k (replicate n (pos 0))) ≡ k
zeros_long k n h = ap length (zeros_taken k n h) ∙ length-replicate {A = ℤ} k (pos 0)

-- what is built in m places from the layer's words and as many zeros as it has seats
pub built_here : (h : Header) (es : List ℕ) (l m : ℕ) (ys ws : List ℕ) (ns : List ℤ) → m ≡ table_length h.shape → ws ≡ part (4 * cand_off h.shape l) (4 * h.shape.heap_size) es
    → ns ≡ replicate h.shape.heap_size (pos 0) → ys ≡ build m (get_or h.lens l 0) (cands_of ws ns) → ys ≡ built_table h es l
unfolding built_table
built_here h es l m ys ws ns p q z e = e ∙ (λ i. build (p i) (get_or h.lens l 0) (cands_of (q i) (z i)))

module _ (h : Header) (es xs : List ℕ) (long : length xs ≡ tables_in h.shape) where
  over : OverTables h.shape (built_table h es) h.shape.layers 0 xs (built_index h es xs)
  unfolding built_index
  over = over-tables h.shape (built_table h es) (λ m k. built_long h es m) h.shape.layers 0 xs long (omega arith)

  pub built_length : length (built_index h es xs) ≡ tables_in h.shape
  built_length = over.long ∙ long

  pub built_at : (l : ℕ) → l < h.shape.layers → table_at h.shape (built_index h es xs) l ≡ built_table h es l
  built_at l k = over.inside l (omega arith) (omega (arith, k))

-- ---- the loop over layers

abbrev pub Built : Header → List ℕ → List ℕ → List ℕ → ℕ → Type 0
Built h es xs₀ xs l = TablesInTurn h.shape (built_table h es) h.shape.layers 0 xs₀ xs l

module _ (h : Header) (es xs₀ : List ℕ) where
  pub built_start : Built h es xs₀ xs₀ 0
  built_start = tables_start h.shape (built_table h es) h.shape.layers 0 xs₀

  pub built_on : (xs zs : List ℕ) (l : ℕ) → Built h es xs₀ xs l → length xs₀ ≡ tables_in h.shape → l < h.shape.layers → zs ≡ put_table h.shape xs l (built_table h es l) → Built h es xs₀ zs (l + 1)
  built_on xs zs l v long k q =
      tables_on h.shape (built_table h es) h.shape.layers 0 xs₀ xs l v long k (built_table h es l) refl (built_long h es l) zs q

  pub built_end : (xs : List ℕ) (l : ℕ) → Built h es xs₀ xs l → l ≡ h.shape.layers → xs ≡ built_index h es xs₀
  unfolding built_index
  built_end xs l v e = tables_end h.shape (built_table h es) h.shape.layers 0 xs₀ xs l v (omega (arith, e))

-- ---- the tests before it, and what the number leaves

-- where no test holds, header, entries and index fit together
pub buildable_of : (h : Header) (es : List ℕ) (n : ℕ) → number (build_tests h es n) ≡ 0 → Buildable h (length es) n
buildable_of h es n z =
    let o = off_number (build_tests h es n) refl z in
    let g = ranged_of h (not-false _ o.0) in
    record {
      accepted = g.accepted;
      entries = eqb-true (length es) (4 * cands_in h.shape) (not-false _ o.1.0);
      tables = eqb-true n (tables_in h.shape) (not-false _ o.1.1.0);
      lens = λ m k. len-few h g m k;
    }

pub index_kept : (n : ℕ) (made xs : List ℕ) → (n ≡ 0 → ⊥) → xs ≡ index_left n made xs
unfolding index_left
index_kept n made xs z = rw (ne_eqb n 0 z)

pub index-made : (n : ℕ) (made xs : List ℕ) → n ≡ 0 → made ≡ index_left n made xs
unfolding index_left
index-made n made xs z = rw (eq-eqb n 0 z)

-- ---- without candidates

pub build-none : (m : ℕ) (cs : List Cand) → build m 0 cs ≡ replicate m 0
unfolding build enter_all
build-none m cs = refl

-- a layer without candidates has an empty table
pub built_none : (h : Header) (es : List ℕ) (l : ℕ) → get_or h.lens l 0 ≡ 0 → built_table h es l ≡ replicate (table_length h.shape) 0
unfolding built_table
built_none h es l e = rw e (build-none (table_length h.shape) _)

-- and an empty table passes
pub empty_passes : (m : ℕ) (cs : List Cand) → index_ok (replicate m 0) 0 cs ≡ true
empty_passes m cs =
    holds_check (replicate m 0) 0 cs (subst (λ (k : ℕ). IndexesIn k (replicate m 0) 0 cs 0) (sym (length-replicate {A = ℕ} m 0)) (empty_holds m cs)) (λ j h. absurd (omega (arith, h)))
