-- What the panel answer says of a relay that is as its book says. Assumes nothing.
use mathlib.Core.Path.{◌≡◌, refl, sym, ap, ◌∙◌, subst}
use Prim.Native.Nat.{ℕ, zero, suc, ◌+◌, ◌*◌, ◌≤◌, ◌<◌}
use native.Mathlib.Omega.{arith}
use mathlib.Core.Bool.{true, false, ◌&&◌}
use mathlib.Core.List.{List, [], ◌∷◌}
use lib.ListN.{length, get_or, take, length-take}
use lib.Seq.{get_or-take}
use borrow.Author.Tests.{eq-eqb}
use Rattle.words.proofs.Bools.{and_right, never}
use Rattle.countsketch_l2_norm.specs.L2 as norm
use Rattle.countsketch_l2_norm.proofs.Merges.{length-row_norms}
use Rattle.header.specs.declared.Shape.{Shape}
use Rattle.header.specs.declared.Mode.{Mode}
use Rattle.header.specs.declared.Mode.TheVariants as mode
use Rattle.header.specs.Shape.{shape_refusal}
use Rattle.header.specs.inner.Accepted.{Accepted}
use Rattle.header.proofs.Refusals.{accepted_of}
use Rattle.layer.specs.declared.Dims.{Dims}
use Rattle.layer.specs.Layer.{Layer, counts_read}
use Rattle.layer.specs.Merge.{items}
use Rattle.layout.specs.State.{State, rows_at, cols_at, dims_at, layer_at}
use Rattle.layout.specs.Slices.{Lent, norms_in, view}
use Rattle.estimates.specs.Norms.{l2_of_state}
use Rattle.estimates.specs.Sums.{layer_reads, items_read}
use Rattle.estimates.specs.Answers.{Answer}
use Rattle.estimates.specs.declared.PanelAnswer.{PanelAnswer}
use Rattle.estimates.specs.Calls.{answer, norm_state, l2_reads, l1_call, l2_call, cardinality_call, panel_call}
use Rattle.shared_streams.specs.Books.{Book, book_keys, norm_by, flag_by, weight_of, distinct, OneRecord, sent}
use Rattle.shared_streams.specs.SharedStreams.{Claimed}
use Rattle.shared_streams.proofs.BookLaws.{sent-weights}
use Rattle.shared_streams.proofs.Layers.{sum-reads}
use Rattle.shared_streams.proofs.Relays.{wide, RelayBy}
use Rattle.shared_streams.proofs.Values.{layer-norm}
use Rattle.shared_streams.proofs.Calls.{LentBy, lent_view, lent-lengths}
use Rattle.shared_streams.proofs.Claims.{claimed}
use Rattle.panel_stream.specs.PanelStream.{whole, values_from, book_l2, book_flags}
use Rattle.panel_stream.proofs.Adds.{Standards, clear-mode}
use Rattle.panel_stream.proofs.Backs.{just}

-- ---- lists by their values

values-from : {A : Type 0} (d : A) (f : ℕ → A) (n k : ℕ) (xs : List A) → length xs ≡ n → ((i : ℕ) → i < n → get_or xs i d ≡ f (k + i)) → xs ≡ values_from f n k
unfolding values_from
values-from d f zero k [] e h = refl
values-from d f zero k (x ∷ xs) e h = absurd (omega (arith, e))
values-from d f (suc n) k [] e h = absurd (omega (arith, e))
values-from {A} d f (suc n) k (x ∷ xs) e h =
    λ i. (h 0 (omega arith) ∙ ap f add-zero) i ∷ values-from d f n (suc k) xs (omega (arith, e)) (λ j hj. h (suc j) (omega arith) ∙ ap f (move j)) i
  where
    add-zero : k + 0 ≡ k
    add-zero = omega arith

    move : (j : ℕ) → k + suc j ≡ suc k + j
    move j = omega arith

-- the same with the values from number 0 on
values_are : {A : Type 0} (d : A) (f : ℕ → A) (n : ℕ) (xs : List A) → length xs ≡ n → ((i : ℕ) → i < n → get_or xs i d ≡ f i) → xs ≡ values_from f n 0
values_are d f n xs e h = values-from d f n 0 xs e (λ i hi. h i hi ∙ ap f (from_zero i))
  where
    from_zero : (i : ℕ) → i ≡ 0 + i
    from_zero i = omega arith

-- ---- on a state

module _ (s : State) (b : Book) (v : shape_refusal s.head.shape ≡ 0) (r : RelayBy s.head.shape b s) where
  a : Accepted s.head.shape
  a = accepted_of s.head.shape v

  -- layer 0's norms are in range
  norms-of : norm.norms_in_range (dims_at s.head.shape 0).cols (layer_at s 0).sketch.norms ≡ true
  unfolding layer_reads
  norms-of =
      let d : Dims = dims_at s.head.shape 0 in
      let y : Layer = layer_at s 0 in
      and_right (counts_read y.table && items_read d y.sketch.cells (items y.table)) (norm.norms_in_range d.cols y.sketch.norms)
      (sum-reads d (wide s.head.shape a 0) a.seats true (sent s.head.shape.layers 0 b) y (omega (arith, sent-weights s.head.shape.layers 0 b, r.within.light)) (r.layers 0 a.some))

  -- layer 0's norms are the book's
  norms_are : (layer_at s 0).sketch.norms ≡ values_from (norm_by s.head.shape b 0) (rows_at s.head.shape 0) 0
  norms_are =
      values_are 0 (norm_by s.head.shape b 0) (rows_at s.head.shape 0) (layer_at s 0).sketch.norms
      (ap length (r.layers 0 a.some).sketch.kept ∙ length-row_norms (cols_at s.head.shape 0) (layer_at s 0).sketch.cells (rows_at s.head.shape 0) 0)
      (λ i h. layer-norm b s r 0 i a.some h)

  -- the flags are the book's
  flags_are : take s.head.shape.layers s.head.flags ≡ values_from (flag_by s.head.shape b) s.head.shape.layers 0
  unfolding layer_at
  flags_are =
      values_are false (flag_by s.head.shape b) s.head.shape.layers (take s.head.shape.layers s.head.flags)
      (omega (arith, length-take s.head.shape.layers s.head.flags, r.sized.flags, r.sized.few))
      (λ i h. get_or-take s.head.shape.layers s.head.flags i false h ∙ (r.layers i h).table.flagged)

-- ---- on header and slices

module _ (sh : Shape) (v : shape_refusal sh ≡ 0) (b : Book) (x : Lent) (by : LentBy sh b x) (std : Standards b) where
  state : RelayBy sh b (view x)
  state = lent_view sh b x by

  claim : Claimed sh (record { lends = x; book = b; retired = false })
  claim = claimed sh v (record { lends = x; book = b; retired = false }) by

  norms-ok : norm.norms_in_range (dims_at x.head.shape 0).cols (layer_at (view x) 0).sketch.norms ≡ true
  unfolding view
  norms-ok = subst (λ (z : Shape). shape_refusal z ≡ 0 → RelayBy z b (view x) → norm.norms_in_range (dims_at (view x).head.shape 0).cols (layer_at (view x) 0).sketch.norms ≡ true) state.shape (norms-of (view x) b) v state

  norms_is : (layer_at (view x) 0).sketch.norms ≡ values_from (norm_by sh b 0) (rows_at sh 0) 0
  norms_is = subst (λ (z : Shape). shape_refusal z ≡ 0 → RelayBy z b (view x) → (layer_at (view x) 0).sketch.norms ≡ values_from (norm_by z b 0) (rows_at z 0) 0) state.shape (norms_are (view x) b) v state

  reads : (m : Mode) → x.head.mode ≡ m → l2_reads m (norm_state x.head x.norms) ≡ true
  unfolding layer_at view
  reads mode.Unset e = norms-ok
  reads mode.Standard e = norms-ok
  reads mode.Terminal e = absurd (never (sym (clear-mode b mode.Terminal std (sym e ∙ claim.mode))))

  value : (m : Mode) → x.head.mode ≡ m → l2_of_state (norm_state x.head x.norms) ≡ book_l2 sh b
  unfolding l2_of_state layer_at view
  value mode.Unset e = rw e (ap norm.l2_of norms_is)
  value mode.Standard e = rw e (ap norm.l2_of norms_is)
  value mode.Terminal e = absurd (never (sym (clear-mode b mode.Terminal std (sym e ∙ claim.mode))))

  l1_is : l1_call x.head ≡ answer 0 (whole (weight_of b))
  unfolding l1_call
  l1_is = rw claim.formed.ranged (ap (λ (n : ℕ). answer 0 (whole n)) claim.holds.weight)

  l2-is : l2_call x.head x.norms ≡ answer 0 (book_l2 sh b)
  unfolding l2_call
  l2-is =
      rw (claim.formed.ranged, eq-eqb (length x.norms) (2 * norms_in x.head.shape) (just x (lent-lengths sh b x by)).norms, reads x.head.mode refl)
      (ap (answer 0) (value x.head.mode refl))

  -- the three answers
  pub panel_is : panel_call x ≡ record { l1 = whole (weight_of b); l2 = book_l2 sh b; cardinality = (cardinality_call x).value; refusal = 0 }
  unfolding panel_call
  panel_is = rw (l1_is, l2-is, claim.answered)

  pub panel_keys : OneRecord b → distinct (book_keys b) ≤ sh.heap_size → (panel_call x).cardinality ≡ whole (distinct (book_keys b))
  panel_keys one few = ap (λ (p : PanelAnswer). p.cardinality) panel_is ∙ ap (λ (z : Answer). z.value) (claim.counted one few).answered

  pub panel_flags : take x.head.shape.layers x.head.flags ≡ book_flags sh b
  unfolding view
  panel_flags =
      subst (λ (z : Shape). shape_refusal z ≡ 0 → RelayBy z b (view x) → take (view x).head.shape.layers (view x).head.flags ≡ values_from (flag_by z b) z.layers 0) state.shape (flags_are (view x) b) v state
