-- The tests of a merge, stage by stage, and what the merge of the layers needs once none of them holds. Assumes nothing.
use mathlib.Core.Path.{◌≡◌, refl, sym, ap, ◌∙◌}
use mathlib.Core.Bool.{Bool, ◌&&◌}
use mathlib.Core.List.{List, ◌++◌}
use Prim.Native.Nat.{ℕ, zero, suc, ◌*◌, ◌≤◌}
use native.Mathlib.Omega.{arith}
use lib.ListN.{length}
use borrow.Author.Tests.{not-false}
use Rattle.words.specs.Tests.{number}
use Rattle.words.proofs.Tests.{Off, number_off, off_number, number_first, number-rest, off_first, off_rest}
use Rattle.header.specs.declared.Mode.{Mode}
use Rattle.header.specs.declared.Totals.{Totals}
use Rattle.header.specs.Totals.{totals_tests}
use Rattle.header.proofs.Shapes.{same_of}
use Rattle.header.specs.Header.{begun}
use Rattle.layer.specs.Layer.{Layer}
use Rattle.layout.specs.State.{layer_at, over_layers, all_layers}
use Rattle.layout.specs.Slices.{Lent, lent, view, flat}
use Rattle.layout.specs.Outcomes.{judge, left, left_by, lent_tests}
use Rattle.layout.specs.Answers.{layer_places, list_left}
use Rattle.layout.specs.inner.Telling.{list_tests, tell_layers}
use Rattle.layout.proofs.Judged.{left-refused, left_done}
use Rattle.layout.proofs.ListCalls.{list-judge, list-before, list-none}
use Rattle.layout.proofs.Telling.{told-all, list-told, length-layers}
use Rattle.layout.proofs.Lengths.{stands_of}
use Rattle.univmon_merge.specs.Merges.{heads_tests, pair_tests, merge_tests, merged, merge_answers, merge_call, merge_list_call}
use Rattle.univmon_merge.specs.inner.Pairs.{Paired, MergesReady, reads_with, fits_with, merges_with, answers_with}
use Rattle.univmon_merge.proofs.Pairing.{four}

-- ---- the headers

-- the tests of the layers look neither at the totals nor at the mode
all-begun : (p : ℕ → Layer → Bool) (k l : ℕ) (r : Lent) (w : Totals) (m : Mode) → all_layers p k l (view (lent (begun r.head w m) r.counters r.norms r.entries r.counts)) ≡ all_layers p k l (view r)
unfolding all_layers view layer_at
all-begun p zero l r w m = refl
all-begun p (suc k) l r w m = ap (λ (b : Bool). p l (layer_at (view r) l) && b) (all-begun p k (suc l) r w m)

module _ (r t : Lent) where
  -- ---- the number of each stage, where those before it refuse nothing

  abbrev heads : List (Bool × ℕ)
  heads = heads_tests r.head t.head

  abbrev pairs : List (Bool × ℕ)
  pairs = pair_tests r.head.shape.layers (view r) (view t)

  pub own-refused : (n : ℕ) → n ≡ number (lent_tests r) → (n ≡ 0 → ⊥) → n ≡ number (merge_tests r t)
  unfolding merge_tests
  own-refused n e h = e ∙ sym (number_first (lent_tests r) (lent_tests t ++ (heads ++ pairs)) (λ z. h (e ∙ z)))

  module _ (a : number (lent_tests r) ≡ 0) where
    own-passed : number (merge_tests r t) ≡ number (lent_tests t ++ (heads ++ pairs))
    unfolding merge_tests
    own-passed = number-rest (lent_tests r) (lent_tests t ++ (heads ++ pairs)) (off_number (lent_tests r) refl a)

    pub other-refused : (n : ℕ) → n ≡ number (lent_tests t) → (n ≡ 0 → ⊥) → n ≡ number (merge_tests r t)
    other-refused n e h = e ∙ sym (own-passed ∙ number_first (lent_tests t) (heads ++ pairs) (λ z. h (e ∙ z)))

    module _ (b : number (lent_tests t) ≡ 0) where
      both-passed : number (merge_tests r t) ≡ number (heads ++ pairs)
      both-passed = own-passed ∙ number-rest (lent_tests t) (heads ++ pairs) (off_number (lent_tests t) refl b)

      pub heads_refused : (n : ℕ) → n ≡ number heads → (n ≡ 0 → ⊥) → n ≡ number (merge_tests r t)
      heads_refused n e h = e ∙ sym (both-passed ∙ number_first heads pairs (λ z. h (e ∙ z)))

      module _ (e : number heads ≡ 0) where
        pub pairs-number : number pairs ≡ number (merge_tests r t)
        pairs-number = sym (both-passed ∙ number-rest heads pairs (off_number heads refl e))

        -- two states of one shape
        pub paired_of : Paired r t r.head.shape.layers 0
        paired_of =
            record {
              standing = stands_of r a;
              other = stands_of t b;
              same = same_of r.head.shape t.head.shape (not-false _ (off_number heads refl e).0);
              inside = omega arith;
            }

  -- ---- the list, behind the others

  abbrev pub least : ℕ
  least = 4 * r.head.shape.heap_size * r.head.shape.layers

  pub tests_refused : (m n : ℕ) → n ≡ number (merge_tests r t) → (n ≡ 0 → ⊥) → n ≡ number (merge_tests r t ++ list_tests least m)
  tests_refused = list-before (merge_tests r t) least

  -- ---- the call

  listed : (m : ℕ) → merge_list_call r t m ≡ judge (merge_tests r t ++ list_tests least m) (flat (merged (view r) (view t)))
  unfolding merge_list_call merge_call
  listed m = list-judge least m (merge_tests r t) (flat (merged (view r) (view t)))

  -- refused: the number, and nothing changed
  pub merge-refused : (m n : ℕ) → n ≡ number (merge_tests r t ++ list_tests least m) → (n ≡ 0 → ⊥) → left n r ≡ left_by r (merge_list_call r t m)
  merge-refused m n e k = left-refused (merge_tests r t ++ list_tests least m) r (flat (merged (view r) (view t))) n e k ∙ ap (left_by r) (sym (listed m))

  -- the state with its layers merged is the state after the merge
  pub merged_is : over_layers (merges_with r.head.shape (view t)) r.head.shape.layers 0 (view (lent (begun r.head t.head.totals t.head.mode) r.counters r.norms r.entries r.counts)) ≡ merged (view r) (view t)
  unfolding merged view
  merged_is = refl

  -- and the list is what the call leaves of it
  pub told_is : (list out : List ℕ) → least ≤ length list
      → out ≡ tell_layers (2 * r.head.shape.heap_size) (answers_with (view (lent (begun r.head t.head.totals t.head.mode) r.counters r.norms r.entries r.counts)) (view t)) r.head.shape.layers 0 list
      → out ≡ list_left 0 (merge_answers (view r) (view t)) list
  unfolding merge_answers view layer_at
  told_is list out h e =
      let n = 2 * r.head.shape.heap_size in
      let k = r.head.shape.layers in
      let f = answers_with (view r) (view t) in
      list-told (2 * n * k) (layer_places n f k 0) list out (length-layers n f k 0) (e ∙ told-all n f k list (rw (four r.head.shape.heap_size) h))

  module _ (m : ℕ) (z : number (merge_tests r t ++ list_tests least m) ≡ 0) where
    -- done
    pub merge_done : left 0 (flat (merged (view r) (view t))) ≡ left_by r (merge_list_call r t m)
    unfolding merge_tests
    merge_done = left_done (merge_tests r t ++ list_tests least m) r (flat (merged (view r) (view t))) refl z ∙ ap (left_by r) (sym (listed m))

    -- the list is long enough
    pub list-room : least ≤ m
    unfolding merge_tests
    list-room = (list-none (merge_tests r t) least m refl z).1

    -- no test holds
    none : Off (lent_tests r ++ (lent_tests t ++ (heads ++ pairs)))
    unfolding merge_tests
    none = off_number (merge_tests r t) refl (list-none (merge_tests r t) least m refl z).0

    others : Off (lent_tests t ++ (heads ++ pairs))
    others = off_rest (lent_tests r) (lent_tests t ++ (heads ++ pairs)) none

    inner : Off (heads ++ pairs)
    inner = off_rest (lent_tests t) (heads ++ pairs) others

    -- the totals may be added
    pub totals_fit : number (totals_tests r.head.totals t.head.totals) ≡ 0
    totals_fit = number_off (totals_tests r.head.totals t.head.totals) (off_first heads pairs inner).1.1

    -- what is not refused may be made, with whatever totals and mode
    pub merges_of : (w : Totals) (mode : Mode) → MergesReady (lent (begun r.head w mode) r.counters r.norms r.entries r.counts) t r.head.shape.layers
    merges_of w mode =
        let own = number_off (lent_tests r) (off_first (lent_tests r) (lent_tests t ++ (heads ++ pairs)) none) in
        let other = number_off (lent_tests t) (off_first (lent_tests t) (heads ++ pairs) others) in
        let q = paired_of own other (number_off heads (off_first heads pairs inner)) in
        let s = q.standing in
        let p = off_rest heads pairs inner in
        record {
          ready = record {
            paired = record { standing = record { accepted = s.accepted; sizes = s.sizes; lens = s.lens }; other = q.other; same = q.same; inside = q.inside };
            read = all-begun (reads_with (view t)) r.head.shape.layers 0 r w mode ∙ not-false _ p.0;
          };
          fit = all-begun (fits_with (view t)) r.head.shape.layers 0 r w mode ∙ not-false _ p.1.0;
        }
