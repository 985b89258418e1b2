-- States whose headers and layers are alike are equal. Assumes nothing.
use mathlib.Core.Path.{◌≡◌, refl, sym, ap, ◌∙◌}
use mathlib.Core.Bool.{Bool, false}
use mathlib.Core.List.{List}
use Prim.Native.Nat.{ℕ, zero, suc, ◌+◌, ◌*◌, ◌<◌}
use native.Mathlib.Omega.{arith}
use native.Mathlib.Decide.{dec_lt}
use lib.ListN.{length, get_or, take}
use lib.Seq.{take-add, take_all, ext_get_or}
use lib.IntN.{ℤ}
use Rattle.words.specs.Parts.{part}
use Rattle.countsketch_l2_norm.specs.Merge.{sum_below}
use Rattle.heap_moves.specs.Cands.{Cand}
use Rattle.header.specs.declared.Shape.{Shape}
use Rattle.header.specs.declared.Mode.{Mode}
use Rattle.header.specs.declared.Totals.{Totals}
use Rattle.layer.specs.Layer.{Layer}
use Rattle.layout.specs.State.{State, dims_at, layer_at, cell_off, norm_off, cand_off}
use Rattle.layout.proofs.Replaced.{Sized, SameHead}

-- two lists that agree in each of the parts that they are made of
module _ {A : Type 0} (off size : ℕ → ℕ) (start : off 0 ≡ 0) (step : (l : ℕ) → off (suc l) ≡ off l + size l) (xs ys : List A) where
  fronts : (n : ℕ) → ((l : ℕ) → l < n → part (off l) (size l) xs ≡ part (off l) (size l) ys) → take (off n) xs ≡ take (off n) ys
  fronts zero h = rw start
  fronts (suc n) h = rw (step n, take-add (off n) (size n) xs, take-add (off n) (size n) ys, fronts n (λ l k. h l (omega arith)), h n (omega arith))

  pub by_parts : (n : ℕ) → length xs ≡ off n → length ys ≡ off n → ((l : ℕ) → l < n → part (off l) (size l) xs ≡ part (off l) (size l) ys) → xs ≡ ys
  by_parts n a b h = sym (take_all (off n) xs (omega (arith, a))) ∙ fronts n h ∙ take_all (off n) ys (omega (arith, b))

pub record SameParts (s t : State) : Type 0 where
  pub head : SameHead s t
  pub layers : (m : ℕ) → m < s.head.shape.layers → layer_at t m ≡ layer_at s m

whole_path : {a a' : Shape} {w w' : Totals} {ns ns' : List ℕ} {fs fs' : List Bool} {m m' : Mode} {c c' : List ℤ} {n n' : List ℕ} {k k' : List Cand} → a ≡ a' → w ≡ w' → ns ≡ ns' → fs ≡ fs' → m ≡ m' → c ≡ c' → n ≡ n' → k ≡ k'
    → ◌≡◌ {A = State} (record { head = record { shape = a; totals = w; lens = ns; flags = fs; mode = m }; counters = c; norms = n; cands = k })
    (record { head = record { shape = a'; totals = w'; lens = ns'; flags = fs'; mode = m' }; counters = c'; norms = n'; cands = k' })
whole_path p1 p2 p3 p4 p5 p6 p7 p8 = λ i. record { head = record { shape = p1 i; totals = p2 i; lens = p3 i; flags = p4 i; mode = p5 i }; counters = p6 i; norms = p7 i; cands = p8 i }

module _ (s t : State) (z : Sized s) (y : Sized t) (a : SameParts s t) where
  abbrev sh : Shape
  sh = s.head.shape

  same-counters : t.counters ≡ s.counters
  unfolding layer_at cell_off sum_below
  same-counters =
      by_parts (cell_off sh) (λ m. (dims_at sh m).rows * (dims_at sh m).cols) refl (λ l. refl) t.counters s.counters sh.layers
      (y.counters ∙ ap (λ (q : Shape). cell_off q q.layers) a.head.shape) z.counters
      (λ m h. sym (ap (λ (q : Shape). part (cell_off q m) ((dims_at q m).rows * (dims_at q m).cols) t.counters) a.head.shape) ∙ ap (λ (q : Layer). q.sketch.cells) (a.layers m h))

  same-norms : t.norms ≡ s.norms
  unfolding layer_at norm_off sum_below
  same-norms =
      by_parts (norm_off sh) (λ m. (dims_at sh m).rows) refl (λ l. refl) t.norms s.norms sh.layers
      (y.norms ∙ ap (λ (q : Shape). norm_off q q.layers) a.head.shape) z.norms
      (λ m h. sym (ap (λ (q : Shape). part (norm_off q m) (dims_at q m).rows t.norms) a.head.shape) ∙ ap (λ (q : Layer). q.sketch.norms) (a.layers m h))

  same-cands : t.cands ≡ s.cands
  unfolding layer_at cand_off sum_below
  same-cands =
      by_parts (cand_off sh) (λ m. (dims_at sh m).size) refl (λ l. refl) t.cands s.cands sh.layers
      (y.cands ∙ ap (λ (q : Shape). cand_off q q.layers) a.head.shape) z.cands
      (λ m h. sym (ap (λ (q : Shape). part (cand_off q m) (dims_at q m).size t.cands) a.head.shape) ∙ ap (λ (q : Layer). q.table.cands) (a.layers m h))

  same-lens : t.head.lens ≡ s.head.lens
  unfolding layer_at
  same-lens = ext_get_or 0 t.head.lens s.head.lens (y.lens ∙ sym z.lens) (λ m h. one m (dec_lt m sh.layers))
    where
      one : (m : ℕ) → Dec (m < sh.layers) → get_or t.head.lens m 0 ≡ get_or s.head.lens m 0
      one m (yes h) = ap (λ (q : Layer). q.table.len) (a.layers m h)
      one m (no h) = a.head.past_lens m (omega arith)

  same_flags : t.head.flags ≡ s.head.flags
  unfolding layer_at
  same_flags = ext_get_or false t.head.flags s.head.flags (y.flags ∙ sym z.flags) (λ m h. one m (dec_lt m sh.layers))
    where
      one : (m : ℕ) → Dec (m < sh.layers) → get_or t.head.flags m false ≡ get_or s.head.flags m false
      one m (yes h) = ap (λ (q : Layer). q.flag) (a.layers m h)
      one m (no h) = a.head.past_flags m (omega arith)

  pub alike : t ≡ s
  alike = whole_path a.head.shape a.head.totals same-lens same_flags a.head.mode same-counters same-norms same-cands
