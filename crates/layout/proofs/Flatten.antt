-- A lent state that is viewed and laid flat again is the lent state; and a state that is laid flat is viewed as it was. Assumes nothing.
use mathlib.Core.Path.{◌≡◌, refl, sym, ap, ◌∙◌}
use mathlib.Core.Bool.{true}
use mathlib.Core.List.{List, [], ◌∷◌}
use Prim.Native.Nat.{ℕ, ◌*◌, ◌<◌}
use native.Mathlib.Omega.{arith}
use borrow.Author.Tests.{eq-eqb}
use lib.ListN.{length, get_or}
use lib.IntN.{ℤ}
use Rattle.words.specs.Num.{word_size}
use Rattle.words.proofs.Bools.{both}
use Rattle.countsketch_l2_norm.specs.Norms.{norms_of, words_of}
use Rattle.countsketch_l2_norm.proofs.Norms.{words-norms, norms-words}
use Rattle.heap_moves.specs.Cands.{Cand}
use Rattle.heap_moves.specs.Flat.{cands_of, entries_of, counts_of}
use Rattle.heap_moves.proofs.Rounds.{entries-cands, counts-cands, cands-entries, length-entries, length-counts}
use Rattle.header.specs.declared.Header.{Header}
use Rattle.header.specs.Header.{Headed}
use Rattle.layout.specs.State.{State}
use Rattle.layout.specs.Slices.{Lent, cells_in, norms_in, cands_in, lengths_ok, lent_ok, view, flat}
use Rattle.layout.specs.inner.Needs.{Standing}
use Rattle.layout.proofs.Lengths.{long-view}
use Rattle.layout.proofs.Replaced.{Sized}

-- nothing is lost, where each norm word is below 2 ^ 64
pub flat_view : (r : Lent) → Standing r → ((k : ℕ) → get_or r.norms k 0 < word_size) → flat (view r) ≡ r
unfolding view flat
flat_view r z w = λ i. record { head = r.head; counters = r.counters; norms = p i; entries = q i; counts = t i }
  where
    p : words_of (norms_of r.norms (norms_in r.head.shape)) ≡ r.norms
    p = words-norms r.norms (norms_in r.head.shape) z.sizes.norms w

    q : entries_of (cands_of r.entries r.counts) ≡ r.entries
    q = entries-cands r.entries r.counts (z.sizes.entries ∙ ap (λ (k : ℕ). 4 * k) (sym z.sizes.counts))

    t : counts_of (cands_of r.entries r.counts) ≡ r.counts
    t = counts-cands r.entries r.counts

-- so the slices are known from the state that they show
pub lent_is : (r : Lent) (s : State) → Standing r → ((k : ℕ) → get_or r.norms k 0 < word_size) → view r ≡ s → r ≡ flat s
lent_is r s z w e = sym (flat_view r z w) ∙ ap flat e

-- a lent state that stands, with 19 lengths and flags, shows a state of its shape's lengths
pub sized_view : (r : Lent) → Standing r → Headed r.head → Sized (view r)
unfolding view
sized_view r z h =
    let v = long-view r z in
    record { counters = v.counters; norms = v.norms; cands = v.cands; flags = h.flags; lens = h.lens; few = z.accepted.few }

-- ---- a state, laid flat

state_path : (h : Header) (c : List ℤ) {n n' : List ℕ} {k k' : List Cand} → n ≡ n' → k ≡ k'
    → ◌≡◌ {A = State} (record { head = h; counters = c; norms = n; cands = k }) (record { head = h; counters = c; norms = n'; cands = k' })
state_path h c p q = λ i. record { head = h; counters = c; norms = p i; cands = q i }

pub view-flat : (s : State) → Sized s → view (flat s) ≡ s
unfolding view flat
view-flat s z =
    state_path s.head s.counters (ap (norms_of (words_of s.norms)) (sym z.norms) ∙ norms-words s.norms) (cands-entries s.cands)

length-words : (ns : List ℕ) → length (words_of ns) ≡ 2 * length ns
unfolding words_of
length-words [] = refl
length-words (n ∷ ns) = omega (arith, length-words ns)

pub flat-lengths : (s : State) → Sized s → lent_ok (flat s) ≡ true
unfolding lengths_ok flat
flat-lengths s z =
    both (both (both (eq-eqb (length s.counters) (cells_in s.head.shape) z.counters)
    (eq-eqb (length (words_of s.norms)) (2 * norms_in s.head.shape) (length-words s.norms ∙ ap (λ (n : ℕ). 2 * n) z.norms)))
    (eq-eqb (length (entries_of s.cands)) (4 * cands_in s.head.shape) (length-entries s.cands ∙ ap (λ (n : ℕ). 4 * n) z.cands)))
    (eq-eqb (length (counts_of s.cands)) (cands_in s.head.shape) (length-counts s.cands ∙ z.cands))
