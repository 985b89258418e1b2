-- The tests of a merge into a state with an index: those of the index first, then those without one. Assumes nothing.
use mathlib.Core.Path.{◌≡◌, refl, sym, ap, ◌∙◌}
use mathlib.Core.Bool.{Bool}
use mathlib.Core.List.{List, [], ◌∷◌, ◌++◌, append_assoc}
use Prim.Native.Nat.{ℕ}
use lib.ListN.{length}
use Rattle.words.specs.Tests.{number}
use Rattle.words.proofs.Tests.{off_number, off_first, number_first, number-rest}
use Rattle.header.specs.Header.{begun}
use Rattle.layout.specs.Slices.{Lent, lent, view, flat}
use Rattle.layout.specs.State.{layer_at}
use Rattle.layout.specs.Outcomes.{judge, left, left_by, lent_tests}
use Rattle.layout.specs.inner.Telling.{list_tests}
use Rattle.layout.proofs.Judged.{left-refused, left_done}
use Rattle.layout.proofs.ListCalls.{list-judge, list-before}
use Rattle.layout_index.specs.Tables.{tables_test, indexed_tests, over_tables, index_left}
use Rattle.layout_index.proofs.Fitting.{index-made}
use Rattle.univmon_merge.specs.Merges.{heads_tests, pair_tests, merge_tests, merged}
use Rattle.univmon_merge.proofs.MergeCalls.{least}
use Rattle.univmon_merge_indexed.specs.Merges.{merged_index, merge_tests_in, indexed_merge_call}
use Rattle.univmon_merge_indexed.proofs.Replacing.{tables_of}

module _ (r t : Lent) (xs : List ℕ) where
  -- the tests behind those of header, lengths and index
  abbrev rest : List (Bool × ℕ)
  rest = lent_tests t ++ (heads_tests r.head t.head ++ pair_tests r.head.shape.layers (view r) (view t))

  listed : (m : ℕ) → indexed_merge_call r xs t m ≡ judge (merge_tests_in r xs t ++ list_tests (least r t) m) (flat (merged (view r) (view t)))
  unfolding indexed_merge_call
  listed m = list-judge (least r t) m (merge_tests_in r xs t) (flat (merged (view r) (view t)))

  refused-by : (m n : ℕ) → n ≡ number (merge_tests_in r xs t ++ list_tests (least r t) m) → (n ≡ 0 → ⊥) → left n r ≡ left_by r (indexed_merge_call r xs t m)
  refused-by m n e k = left-refused (merge_tests_in r xs t ++ list_tests (least r t) m) r (flat (merged (view r) (view t))) n e k ∙ ap (left_by r) (sym (listed m))

  -- refused by header, lengths or index
  pub unfit_refused : (m n : ℕ) → n ≡ number (indexed_tests r xs) → (n ≡ 0 → ⊥) → left n r ≡ left_by r (indexed_merge_call r xs t m)
  unfolding merge_tests_in
  unfit_refused m n e k = refused-by m n (list-before (merge_tests_in r xs t) (least r t) m n (e ∙ sym (number_first (indexed_tests r xs) rest (λ z. k (e ∙ z)))) k) k

  module _ (z : number (indexed_tests r xs) ≡ 0) (m : ℕ) where
    -- where these refuse nothing, the number is that of a merge without an index
    same_number : number (merge_tests_in r xs t ++ list_tests (least r t) m) ≡ number (merge_tests r t ++ list_tests (least r t) m)
    unfolding merge_tests_in merge_tests
    same_number =
        let o = off_number (indexed_tests r xs) refl z in
        let after = list_tests (least r t) m in
        ap number (append_assoc (indexed_tests r xs) rest after) ∙ number-rest (indexed_tests r xs) (rest ++ after) o
        ∙ sym (ap number (append_assoc (lent_tests r) rest after) ∙ number-rest (lent_tests r) (rest ++ after) (off_first (lent_tests r) (tables_test r.head.shape (length xs) ∷ []) o))

    -- refused by another
    pub merge-refused_in : (n : ℕ) → n ≡ number (merge_tests r t ++ list_tests (least r t) m) → (n ≡ 0 → ⊥) → left n r ≡ left_by r (indexed_merge_call r xs t m)
    merge-refused_in n e k = refused-by m n (e ∙ sym same_number) k

    -- done
    pub merge_done_in : number (merge_tests r t ++ list_tests (least r t) m) ≡ 0 → left 0 (flat (merged (view r) (view t))) ≡ left_by r (indexed_merge_call r xs t m)
    unfolding merge_tests_in
    merge_done_in e = left_done (merge_tests_in r xs t ++ list_tests (least r t) m) r (flat (merged (view r) (view t))) refl (same_number ∙ e) ∙ ap (left_by r) (sym (listed m))

  -- the tables that are left, of a header with whatever totals and mode
  pub index_is_made : (out : List ℕ)
      → out ≡ over_tables r.head.shape (tables_of (lent (begun r.head t.head.totals t.head.mode) r.counters r.norms r.entries r.counts) t) r.head.shape.layers 0 xs
      → out ≡ index_left 0 (merged_index (view r) (view t) xs) xs
  unfolding merged_index view layer_at
  index_is_made out e = e ∙ index-made 0 (merged_index (view r) (view t) xs) xs refl
