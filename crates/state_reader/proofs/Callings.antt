-- The reader's answers, and the state that its slices are. Assumes nothing.
use mathlib.Core.Path.{◌≡◌, refl, sym, ap, subst, ◌∙◌}
use mathlib.Core.Bool.{true, false}
use mathlib.Core.List.{List, [], ◌∷◌}
use Prim.Native.Nat.{ℕ, zero, suc, ◌+◌, ◌≤◌, ◌<◌}
use native.Mathlib.Omega.{arith}
use lib.IntN.{ℤ}
use Rattle.std.specs.Prelude.{Ok, Err, Option, None, Some}
use Rattle.std.specs.Option.{ok_or}
use lib.ListN.{length, get_or, drop, replicate, length-drop}
use borrow.Author.Tests.{eq-eqb, ne_eqb}
use Rattle.words.specs.Num.{word_size}
use Rattle.text.specs.Decimals.{Word}
use Rattle.header.specs.declared.Shape.{Shape}
use Rattle.header.specs.declared.Header.{Header}
use Rattle.header.specs.Shape.{max_layers, shape_refusal}
use Rattle.header.specs.OneTier.{OneTiered}
use Rattle.header.specs.Header.{fresh_header}
use Rattle.header.proofs.Refusals.{accepted_of}
use Rattle.layer.specs.declared.Dims.{Dims}
use Rattle.layer.specs.inner.Needs.{Fits}
use Rattle.layout.specs.State.{State, dims_at, over_layers, new_state, with_head}
use Rattle.layout.specs.Slices.{Lent, lent, lengths_ok, view, flat}
use Rattle.layout.specs.inner.Needs.{Standing}
use Rattle.layout.proofs.Flatten.{lent_is}
use Rattle.layout.proofs.OneTier.{dims-alike}
use Rattle.layout.proofs.Lengths.{sizes_of, long-view}
use Rattle.layout.proofs.Replaced.{Sized, Over, over, head_sized}
use Rattle.state_check.proofs.KeptStates.{new-whole}
use Rattle.state_forms.specs.Formats.{Got, got, bad, then_read}
use Rattle.state_forms.specs.Grammar.{Page, Frame, page_format, pages_r, first_format, head_format}
use Rattle.state_forms.specs.Whole.{First, Others, wholly, others_r}
use Rattle.state_lines.specs.inner.Places.{forget}
use Rattle.state_forms.proofs.Exactness.{goes_on}
use Rattle.state_forms.proofs.Lines.{pages_exact}
use Rattle.state_lines.proofs.Known.{known, known_bad, stays_bad}
use Rattle.state_text.specs.Pages.{frame_of, shape_from, dims_of, no_page, layer_from, head_from, state_from}
use Rattle.layout.specs.Outcomes.{left}
use Rattle.state_text.specs.Calls.{unread, after_others, after_first, read_call}
use Rattle.state_text.proofs.PageLaws.{page_whole}
use Rattle.state_text.proofs.Alike.{alike}
use Rattle.state_text.proofs.Built.{pages_at, each}
use Rattle.state_text.proofs.Restored.{small}

-- ---- a place that a line was read to, or 15

pub some_of : {A B : Type 0} (o : Option A) (e : B) (x : A) → Ok x ≡ ok_or o e → o ≡ Some x
some_of None e x h = let z : ◌≡◌ {A = ℕ} 0 1 = cc in absurd (omega arith)
some_of (Some y) e x h = cc

pub none_of : {A B : Type 0} (o : Option A) (e f : B) → Err f ≡ ok_or o e → (o ≡ None) × (f ≡ e)
none_of None e f h = (refl, cc)
none_of (Some y) e f h = let z : ◌≡◌ {A = ℕ} 0 1 = cc in absurd (omega arith)

-- ---- the other lines

module _ (k : Frame) (n : ℕ) (s : List ℕ) where
  pub rest-head : head_format.read s ≡ bad → others_r k n s ≡ bad
  unfolding wholly
  rest-head e = ap wholly (stays_bad (head_format.read s) _ e)

  module _ (hd : ℕ × (ℕ × ℕ)) (t : List ℕ) (e : head_format.read s ≡ got hd t) where
    rest_is : others_r k n s ≡ wholly (then_read (pages_r k 0 n t) (λ ps u. got (hd, ps) u))
    rest_is = ap wholly (goes_on (head_format.read s) _ hd t e)

    pub rest_bad : bad ≡ forget (pages_r k 0 n t) → others_r k n s ≡ bad
    unfolding wholly then_read
    rest_bad q = rest_is ∙ ap (λ (g : Got (List Page)). wholly (then_read g (λ ps u. got (hd, ps) u))) (known_bad (pages_r k 0 n t) q)

    pub rest_more : (u : List ℕ) → 0 < length u → got tt u ≡ forget (pages_r k 0 n t) → others_r k n s ≡ bad
    unfolding wholly then_read
    rest_more u h q = rest_is ∙ ap (λ (g : Got (List Page)). wholly (then_read g (λ ps u. got (hd, ps) u))) (known (pages_r k 0 n t) u q).1 ∙ go (known (pages_r k 0 n t) u q).0 u h
      where
        go : (ps : List Page) (u : List ℕ) → 0 < length u → wholly {A = Others} (then_read (got ps u) (λ ps u. got (hd, ps) u)) ≡ bad
        go ps [] h = absurd (omega arith)
        go ps (x ∷ u) h = refl

    pub rest_got : (ps : List Page) → pages_r k 0 n t ≡ got ps [] → others_r k n s ≡ got (hd, ps) []
    unfolding wholly then_read
    rest_got ps q = rest_is ∙ ap (λ (g : Got (List Page)). wholly (then_read g (λ ps u. got (hd, ps) u))) q

pub some_left : (s : List ℕ) (i : ℕ) → i < length s → 0 < length (drop i s)
some_left s i h = omega (arith, length-drop i s)

-- ---- the call's ways out

module _ (t : List ℕ) (q : Lent) where
  pub call_first : first_format.read t ≡ bad → unread 15 q ≡ read_call t q
  unfolding read_call after_first
  call_first e = sym (ap (after_first q) e)

  module _ (f : First) (u : List ℕ) (e : first_format.read t ≡ got f u) where
    first_is : read_call t q ≡ after_first q (got f u)
    unfolding read_call
    first_is = ap (after_first q) e

    pub call_shape : (n : ℕ) → n ≡ shape_refusal (shape_from f) → (n ≡ 0 → ⊥) → unread n q ≡ read_call t q
    unfolding after_first
    call_shape n m h = sym (first_is ∙ rw (← m, ne_eqb n 0 h))

    module _ (v : shape_refusal (shape_from f) ≡ 0) where
      pub call_lengths : lengths_ok (shape_from f) (length q.counters) (length q.norms) (length q.entries) (length q.counts) ≡ false → unread 16 q ≡ read_call t q
      unfolding after_first
      call_lengths l = sym (first_is ∙ rw (eq-eqb (shape_refusal (shape_from f)) 0 v, l))

      module _ (l : lengths_ok (shape_from f) (length q.counters) (length q.norms) (length q.entries) (length q.counts) ≡ true) where
        pub call_rest : others_r (frame_of (dims_of (shape_from f))) f.1.1.1 u ≡ bad → unread 15 q ≡ read_call t q
        unfolding after_first after_others
        call_rest r = sym (first_is ∙ rw (eq-eqb (shape_refusal (shape_from f)) 0 v, l, r))

        pub call_done : (d : Others) → others_r (frame_of (dims_of (shape_from f))) f.1.1.1 u ≡ got d [] → left 0 (flat (state_from (shape_from f) d)) ≡ read_call t q
        unfolding after_first after_others
        call_done d r = sym (first_is ∙ rw (eq-eqb (shape_refusal (shape_from f)) 0 v, l, r))

-- ---- the state in the slices

module _ (sh : Shape) (v : shape_refusal sh ≡ 0) (hd : ℕ × (ℕ × ℕ)) where
  abbrev pub head-by : Header
  head-by = head_from (fresh_header sh) hd

  pub begins : (xs : List ℤ) (ws es : List ℕ) (ns : List ℤ) → lengths_ok sh (length xs) (length ws) (length es) (length ns) ≡ true → Standing (lent head-by xs ws es ns)
  unfolding fresh_header
  begins xs ws es ns l = record { accepted = accepted_of sh v; sizes = sizes_of sh (length xs) (length ws) (length es) (length ns) l; lens = λ k h. no_lens k }
    where
      zeros_at : (n k : ℕ) → get_or (replicate {A = ℕ} n 0) k 0 ≤ sh.heap_size
      zeros_at zero k = omega arith
      zeros_at (suc n) zero = omega arith
      zeros_at (suc n) (suc k) = zeros_at n k

      no_lens : (k : ℕ) → get_or (fresh_header sh).lens k 0 ≤ sh.heap_size
      no_lens k = zeros_at max_layers k

  base_sized : Sized (with_head (new_state sh) head-by)
  unfolding new_state fresh_header
  base_sized = let z = (new-whole sh v).sized in head_sized (new_state sh) z head-by refl z.flags z.lens

  lent_sized : (xs : List ℤ) (ws es : List ℕ) (ns : List ℤ) → Standing (lent head-by xs ws es ns) → Sized (view (lent head-by xs ws es ns))
  unfolding new_state fresh_header view
  lent_sized xs ws es ns y = let z = (new-whole sh v).sized in let g = long-view (lent head-by xs ws es ns) y in record { counters = g.counters; norms = g.norms; cands = g.cands; flags = z.flags; lens = z.lens; few = z.few }

  module _ (o : OneTiered sh) (ps : List Page) (fits : (i : ℕ) → i < sh.layers → (page_format (frame_of (dims_of sh)) 0).In (get_or ps i no_page)) where
    over_any : (s : State) → Sized s → s.head ≡ head-by → Over (each sh ps) sh.layers 0 s (over_layers (each sh ps) sh.layers 0 s)
    unfolding fresh_header
    over_any s z e =
        let k : s.head.shape ≡ sh = ap (λ (h : Header). h.shape) e in
        over (each sh ps) sh.layers 0 s z (omega (arith, ap (λ (x : Shape). x.layers) k)) (λ i p q. subst (λ (x : Dims). Fits x (layer_from (dims_of sh) (get_or ps i no_page))) (sym (ap (λ (x : Shape). dims_at x i) k ∙ dims-alike sh o i)) (page_whole (dims_of sh) 0 (get_or ps i no_page) (fits i (omega arith))).fits)

    -- whatever stood in the slices: each layer is replaced
    pub state_is : (xs : List ℤ) (ws es : List ℕ) (ns : List ℤ) → Standing (lent head-by xs ws es ns)
        → over_layers (each sh ps) sh.layers 0 (view (lent head-by xs ws es ns)) ≡ over_layers (each sh ps) sh.layers 0 (with_head (new_state sh) head-by)
    unfolding view fresh_header
    state_is xs ws es ns y =
        let a = over_any (view (lent head-by xs ws es ns)) (lent_sized xs ws es ns y) refl in
        let b = over_any (with_head (new_state sh) head-by) base_sized refl in
        alike (over_layers (each sh ps) sh.layers 0 (with_head (new_state sh) head-by)) (over_layers (each sh ps) sh.layers 0 (view (lent head-by xs ws es ns))) b.sized a.sized
        (record {
          head =
              record {
                shape = a.head.shape ∙ sym b.head.shape;
                totals = a.head.totals ∙ sym b.head.totals;
                mode = a.head.mode ∙ sym b.head.mode;
                past_lens = λ i h. let g : sh.layers ≤ i = subst (λ (x : Shape). x.layers ≤ i) b.head.shape h in a.head.past_lens i g ∙ sym (b.head.past_lens i g);
                past_flags = λ i h. let g : sh.layers ≤ i = subst (λ (x : Shape). x.layers ≤ i) b.head.shape h in a.head.past_flags i g ∙ sym (b.head.past_flags i g);
              };
          layers = λ i h. let g : i < sh.layers = subst (λ (x : Shape). i < x.layers) b.head.shape h in a.inside i (omega arith) (omega arith) ∙ sym (b.inside i (omega arith) (omega arith));
        })

-- the slices after an accepted reading
module _ (sh : Shape) (o : OneTiered sh) (v : shape_refusal sh ≡ 0) (hd : ℕ × (ℕ × ℕ)) (ps : List Page) (s : List ℕ) (e : pages_r (frame_of (dims_of sh)) 0 sh.layers s ≡ got ps []) where
  pages_fit : (i : ℕ) → i < sh.layers → (page_format (frame_of (dims_of sh)) 0).In (get_or ps i no_page)
  pages_fit i h =
      let a = small sh (accepted_of sh v) in
      let z : Word (0 + sh.layers) = omega (arith, a.1.1.0) in
      let x = (pages_exact (frame_of (dims_of sh)) a.0 a.1.0 0 sh.layers z).sound s ps [] e in
      pages_at (frame_of (dims_of sh)) 0 ps x.0.1 i (omega (arith, h, x.0.0))

  pub lends_are : (xs : List ℤ) (ws es : List ℕ) (ns : List ℤ) (r : Lent)
      → Standing (lent (head-by sh v hd) xs ws es ns)
      → view r ≡ over_layers (each sh ps) sh.layers 0 (view (lent (head-by sh v hd) xs ws es ns))
      → Standing r → ((k : ℕ) → get_or r.norms k 0 < word_size) → r ≡ flat (state_from sh (hd, ps))
  unfolding state_from new_state
  lends_are xs ws es ns r y g z k = lent_is r (state_from sh (hd, ps)) z k (g ∙ state_is sh v hd o ps pages_fit xs ws es ns y)
