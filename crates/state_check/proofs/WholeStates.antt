-- What the check asks of a state, as facts instead of tests, and layers that are replaced. Assumes nothing.
use mathlib.Core.Path.{◌≡◌, refl, sym, ap, ◌∙◌, subst}
use mathlib.Core.Bool.{Bool, true, false, not, ◌&&◌}
use Prim.Native.Nat.{ℕ, ◌+◌, ◌≤◌, ◌<◌}
use native.Mathlib.Omega.{arith}
use native.Mathlib.Decide.{dec_lt}
use mathlib.Core.List.{List}
use lib.ListN.{length, get_or}
use lib.Dec.{eqb}
use borrow.Author.Tests.{eq-eqb, eqb-true, lt-ltb, le-ltb, le-leb, not-true}
use Rattle.words.proofs.Bools.{and_left, and_right, both}
use Rattle.countsketch_l2_norm.proofs.Norms.{length-norms}
use Rattle.heap_moves.proofs.Views.{length-cands}
use Rattle.header.specs.declared.Shape.{Shape}
use Rattle.header.specs.declared.Header.{Header}
use Rattle.header.specs.declared.Mode.{Mode}
use Rattle.header.specs.Shape.{max_layers, shape_refusal}
use Rattle.header.specs.declared.Totals.{Totals}
use Rattle.header.specs.Totals.{totals_ok}
use Rattle.header.specs.Header as head
use Rattle.header.specs.Header.{header_ok, lens_from, with_mode, with_totals, with_flags}
use Rattle.header.specs.inner.Accepted.{Accepted}
use Rattle.header.proofs.Bounds.{Within, within-ok}
use Rattle.header.proofs.Ranges.{ranged_of}
use Rattle.header.proofs.Refusals.{accepted_of}
use Rattle.header.proofs.Steps.{lens-step, lens_none}
use Rattle.layer.specs.Layer.{Layer}
use Rattle.layout.specs.State.{State, dims_at, layer_at, put_layer, over_layers, all_layers, with_head}
use Rattle.layout.specs.Slices.{Lent, lent_ok, view, flat}
use Rattle.layout.specs.inner.Needs.{Standing}
use Rattle.layout.proofs.States as univmon
use Rattle.layout.proofs.Lengths.{standing_of, long-view}
use Rattle.layout.proofs.States.{layers-step, layers-none}
use Rattle.layout.proofs.Replaced.{Sized, Over, over, head_sized}
use Rattle.layout.proofs.Flatten.{view-flat, flat-lengths}
use Rattle.layout.proofs.Offsets.{shaped-at}
use Rattle.state_check.specs.Check.{layer_ok, layers_ok, state_ok}
use Rattle.state_check.specs.Reached.{Arrays}
use Rattle.state_check.proofs.Passed.{passed-at, passed-all}
use Rattle.state_check.proofs.Whole.{Whole, whole_of, whole_pass, past}

-- ---- what a passed check says

module _ (r : Lent) (e : state_ok r ≡ true) where
  pub ok-head : header_ok r.head ≡ true
  unfolding state_ok
  ok-head = and_left (header_ok r.head) (lent_ok r) (and_left (header_ok r.head && lent_ok r) (layers_ok (view r)) e)

  pub ok-lengths : lent_ok r ≡ true
  unfolding state_ok
  ok-lengths = and_right (header_ok r.head) (lent_ok r) (and_left (header_ok r.head && lent_ok r) (layers_ok (view r)) e)

  ok-layers : layers_ok (view r) ≡ true
  unfolding state_ok
  ok-layers = and_right (header_ok r.head && lent_ok r) (layers_ok (view r)) e

  pub ok-standing : Standing r
  ok-standing = standing_of r ok-head ok-lengths

  -- each layer is whole
  pub whole-at : (l : ℕ) → l < r.head.shape.layers → Whole (dims_at r.head.shape l) (layer_at (view r) l)
  unfolding view layer_at
  whole-at l h =
      let f = univmon.at-fits (view r) (long-view r ok-standing) l h in
      whole_of (dims_at r.head.shape l) (layer_at (view r) l) (shaped-at r.head.shape ok-standing.accepted l).some
      (record { cells = f.cells; norms = f.norms; cands = f.cands }) (ok-standing.lens l h)
      (passed-at (λ k i. all_layers (λ m y. layer_ok (dims_at r.head.shape m) y) k i (view r)) (λ i. layer_ok (dims_at r.head.shape i) (layer_at (view r) i))
      (layers-step (λ m y. layer_ok (dims_at r.head.shape m) y) (view r)) r.head.shape.layers 0 l (omega arith) (omega arith) ok-layers)

-- ---- a whole state

pub record WholeState (s : State) : Type 0 where
  pub sized : Sized s
  pub shape : shape_refusal s.head.shape ≡ 0
  pub totals : Within s.head.totals
  pub past_lens : (l : ℕ) → s.head.shape.layers ≤ l → get_or s.head.lens l 0 ≡ 0
  pub past_flags : (l : ℕ) → s.head.shape.layers ≤ l → get_or s.head.flags l false ≡ false
  pub layers : (l : ℕ) → l < s.head.shape.layers → Whole (dims_at s.head.shape l) (layer_at s l)

-- lengths and flags past the last layer
module _ (h : Header) (a : Arrays h) (e : header_ok h ≡ true) where
  past_both : (l : ℕ) → h.shape.layers ≤ l → l < max_layers → (eqb (get_or h.lens l 0) 0 && not (get_or h.flags l false)) ≡ true
  past_both l p q =
      rw (le-ltb l h.shape.layers p) at
      (passed-at (lens_from h.shape.layers h.shape.heap_size h.lens h.flags) (λ m. head.length_ok m h.shape.layers h.shape.heap_size (get_or h.lens m 0) (get_or h.flags m false))
      (lens-step h.shape.layers h.shape.heap_size h.lens h.flags) max_layers 0 l (omega arith) (omega arith) (ranged_of h e).lens)

  past-lens : (l : ℕ) → h.shape.layers ≤ l → get_or h.lens l 0 ≡ 0
  past-lens l p = go (dec_lt l max_layers)
    where
      go : Dec (l < max_layers) → get_or h.lens l 0 ≡ 0
      go (yes q) = eqb-true (get_or h.lens l 0) 0 (and_left (eqb (get_or h.lens l 0) 0) (not (get_or h.flags l false)) (past_both l p q))
      go (no q) = past 0 h.lens l (omega (arith, a.lens))

  past-flags : (l : ℕ) → h.shape.layers ≤ l → get_or h.flags l false ≡ false
  past-flags l p = go (dec_lt l max_layers)
    where
      go : Dec (l < max_layers) → get_or h.flags l false ≡ false
      go (yes q) = not-true (get_or h.flags l false) (and_right (eqb (get_or h.lens l 0) 0) (not (get_or h.flags l false)) (past_both l p q))
      go (no q) = past false h.flags l (omega (arith, a.flags))

  shape_good : shape_refusal h.shape ≡ 0
  unfolding header_ok
  shape_good =
      eqb-true (shape_refusal h.shape) 0
      (and_left (eqb (shape_refusal h.shape) 0) (totals_ok h.totals)
      (and_left (eqb (shape_refusal h.shape) 0 && totals_ok h.totals) (lens_from h.shape.layers h.shape.heap_size h.lens h.flags max_layers 0) e))

pub state-whole : (r : Lent) → Arrays r.head → state_ok r ≡ true → WholeState (view r)
unfolding view
state-whole r a e =
    record {
      sized = record { counters = z.sizes.cells; norms = length-norms r.norms _; cands = length-cands r.entries r.counts ∙ z.sizes.counts; flags = a.flags; lens = a.lens; few = z.accepted.few };
      shape = shape_good r.head a (ok-head r e);
      totals = (ranged_of r.head (ok-head r e)).totals;
      past_lens = past-lens r.head a (ok-head r e);
      past_flags = past-flags r.head a (ok-head r e);
      layers = whole-at r e;
    }
  where
    z : Standing r
    z = ok-standing r e

-- and back: the slices of a whole state pass

module _ (s : State) (w : WholeState s) where
  head_pass : header_ok s.head ≡ true
  unfolding header_ok layer_at
  head_pass =
      both (both (eq-eqb (shape_refusal s.head.shape) 0 w.shape) (within-ok s.head.totals w.totals))
      (passed-all (lens_from s.head.shape.layers s.head.shape.heap_size s.head.lens s.head.flags)
      (λ l. head.length_ok l s.head.shape.layers s.head.shape.heap_size (get_or s.head.lens l 0) (get_or s.head.flags l false))
      (lens-step s.head.shape.layers s.head.shape.heap_size s.head.lens s.head.flags) (lens_none s.head.shape.layers s.head.shape.heap_size s.head.lens s.head.flags) max_layers 0
      (λ l p q. one l (dec_lt l s.head.shape.layers)))
    where
      one : (l : ℕ) → Dec (l < s.head.shape.layers) → head.length_ok l s.head.shape.layers s.head.shape.heap_size (get_or s.head.lens l 0) (get_or s.head.flags l false) ≡ true
      one l (yes h) = rw (lt-ltb l s.head.shape.layers h) (le-leb (get_or s.head.lens l 0) s.head.shape.heap_size (w.layers l h).table.used)
      one l (no h) = rw (le-ltb l s.head.shape.layers (omega arith), w.past_lens l (omega arith), w.past_flags l (omega arith))

  layers_pass : layers_ok s ≡ true
  layers_pass =
      passed-all (λ k i. all_layers (λ m y. layer_ok (dims_at s.head.shape m) y) k i s) (λ i. layer_ok (dims_at s.head.shape i) (layer_at s i)) (layers-step (λ m y. layer_ok (dims_at s.head.shape m) y) s)
      (layers-none (λ m y. layer_ok (dims_at s.head.shape m) y) s) s.head.shape.layers 0 (λ l p q. whole_pass (dims_at s.head.shape l) (layer_at s l) (w.layers l (omega arith)))

  pub state-accepted : Accepted s.head.shape
  state-accepted = accepted_of s.head.shape w.shape

pub lent_pass : (r : Lent) → lent_ok r ≡ true → WholeState (view r) → state_ok r ≡ true
unfolding state_ok view
lent_pass r h w = both (both (head_pass (view r) w) h) (layers_pass (view r) w)

pub state_pass : (s : State) → WholeState s → state_ok (flat s) ≡ true
state_pass s w = lent_pass (flat s) (flat-lengths s w.sized) (subst WholeState (sym (view-flat s w.sized)) w)

-- ---- layers replaced

pub over_whole : (f : ℕ → Layer → Layer) (k l : ℕ) (s : State) → WholeState s → l + k ≤ s.head.shape.layers
    → ((m : ℕ) → l ≤ m → m < l + k → Whole (dims_at s.head.shape m) (layer_at s m) → Whole (dims_at s.head.shape m) (f m (layer_at s m)))
    → WholeState (over_layers f k l s)
over_whole f k l s w room g =
    record {
      sized = o.sized;
      shape = ap shape_refusal o.head.shape ∙ w.shape;
      totals = subst Within (sym o.head.totals) w.totals;
      past_lens = λ m h. o.head.past_lens m (here m h) ∙ w.past_lens m (here m h);
      past_flags = λ m h. o.head.past_flags m (here m h) ∙ w.past_flags m (here m h);
      layers = subst (λ (sh : Shape). (m : ℕ) → m < sh.layers → Whole (dims_at sh m) (layer_at t m)) (sym o.head.shape) (λ m h. at m h (dec_lt m l) (dec_lt m (l + k)));
    }
  where
    t : State
    t = over_layers f k l s

    new : (m : ℕ) → l ≤ m → m < l + k → Whole (dims_at s.head.shape m) (f m (layer_at s m))
    new m p q = g m p q (w.layers m (omega arith))

    o : Over f k l s (over_layers f k l s)
    o = over f k l s w.sized room (λ m p q. (new m p q).fits)

    here : (m : ℕ) → (over_layers f k l s).head.shape.layers ≤ m → s.head.shape.layers ≤ m
    here m h = subst (λ (sh : Shape). sh.layers ≤ m) o.head.shape h

    at : (m : ℕ) → m < s.head.shape.layers → Dec (m < l) → Dec (m < l + k) → Whole (dims_at s.head.shape m) (layer_at (over_layers f k l s) m)
    at m h (yes p) q = subst (Whole (dims_at s.head.shape m)) (sym (o.before m p h)) (w.layers m h)
    at m h (no p) (no q) = subst (Whole (dims_at s.head.shape m)) (sym (o.after m (omega arith) h)) (w.layers m h)
    at m h (no p) (yes q) = subst (Whole (dims_at s.head.shape m)) (sym (o.inside m (omega arith) q)) (new m (omega arith) q)

pub put_whole : (s : State) (l : ℕ) (y : Layer) → WholeState s → l < s.head.shape.layers → Whole (dims_at s.head.shape l) y → WholeState (put_layer s l y)
unfolding over_layers
put_whole s l y w h n =
    over_whole (λ m x. y) 1 l s w (omega arith)
    (λ m p q x. let e : l ≡ m = omega arith in
    subst (λ (i : ℕ). Whole (dims_at s.head.shape i) y) e n)

-- ---- other totals and another mode, other flags

pub head-whole : (s : State) (t : Totals) (m : Mode) → WholeState s → Within t → WholeState (with_head s (with_mode (with_totals s.head t) m))
unfolding layer_at
head-whole s t m w h =
    record {
      sized = head_sized s w.sized (with_mode (with_totals s.head t) m) refl w.sized.flags w.sized.lens;
      shape = w.shape;
      totals = h;
      past_lens = w.past_lens;
      past_flags = w.past_flags;
      layers = w.layers;
    }

pub flags-whole : (s : State) (fs : List Bool) → WholeState s → length fs ≡ max_layers → ((l : ℕ) → s.head.shape.layers ≤ l → get_or fs l false ≡ false) → WholeState (with_head s (with_flags s.head fs))
unfolding layer_at
flags-whole s fs w h p =
    record {
      sized = head_sized s w.sized (with_flags s.head fs) refl h w.sized.lens;
      shape = w.shape;
      totals = w.totals;
      past_lens = w.past_lens;
      past_flags = p;
      layers = λ l k. let y = w.layers l k in
          record { fits = record { cells = y.fits.cells; norms = y.fits.norms; cands = y.fits.cands }; cells = y.cells; norms = y.norms; table = y.table; counts = y.counts };
    }
