-- Norms as pairs of words: what stands at a place, and what a store does. Assumes nothing.
use mathlib.Core.Path.{◌≡◌, refl, sym, ap, ap₂, ◌∙◌}
use mathlib.Core.Bool.{Bool, true, false}
use Prim.Native.Nat.{ℕ, zero, suc, ◌+◌, ◌*◌, ◌/◌, ◌%◌, ◌≤◌, ◌<◌}
use native.Mathlib.Omega.{arith}
use mathlib.Core.List.{List, [], ◌∷◌}
use lib.ListN.{length, get_or, set, drop, length-set}
use lib.Seq.{get_or-set_same, get_or-set_other, get_or-drop, drop-drop, ext_get_or}
use lib.Dec.{eqb}
use borrow.Author.Tests.{eqb-true, eqb-false}
use Rattle.words.specs.Num.{word_size}
use Rattle.words.specs.Wide.{two_words}
use Rattle.countsketch_l2_norm.specs.Norms.{norms_of, words_of, norm_at}
use Rattle.countsketch_l2_norm.specs.inner.Needs.{set_norm}

pub length-norms : (ws : List ℕ) (n : ℕ) → length (norms_of ws n) ≡ n
unfolding norms_of
length-norms ws zero = refl
length-norms ws (suc n) = ap suc (length-norms (drop 2 ws) n)

pub norm-at : (ws : List ℕ) (n r : ℕ) → r < n → get_or (norms_of ws n) r 0 ≡ norm_at ws r
unfolding norms_of two_words
norm-at ws zero r h = absurd (omega arith)
norm-at ws (suc n) zero h = refl
norm-at ws (suc n) (suc r) h =
    norm-at (drop 2 ws) n r (omega arith)
    ∙ ap₂ (λ (a b : ℕ). a + word_size * b) (get_or-drop 2 ws (2 * r) 0 ∙ ap (λ (i : ℕ). get_or ws i 0) lo) (get_or-drop 2 ws (2 * r + 1) 0 ∙ ap (λ (i : ℕ). get_or ws i 0) hi)
  where
    lo : 2 + 2 * r ≡ 2 * suc r
    lo = omega arith

    hi : 2 + (2 * r + 1) ≡ 2 * suc r + 1
    hi = omega arith

pub whole : (n : ℕ) → two_words (n % word_size) (n / word_size) ≡ n
unfolding two_words
whole n = omega arith

pub set_same : (ws : List ℕ) (r x : ℕ) → 2 * r + 1 < length ws → norm_at (set_norm ws r x) r ≡ x
unfolding set_norm
set_same ws r x h =
    ap₂ two_words
    (get_or-set_other (set ws (2 * r) (x % word_size)) (2 * r + 1) (2 * r) (x / word_size) 0 (omega arith) ∙ get_or-set_same ws (2 * r) (x % word_size) 0 (omega arith))
    (get_or-set_same (set ws (2 * r) (x % word_size)) (2 * r + 1) (x / word_size) 0 (simp length-set (omega arith)))
    ∙ whole x

pub set_other : (ws : List ℕ) (r x i : ℕ) → (i ≡ r → ⊥) → norm_at (set_norm ws r x) i ≡ norm_at ws i
unfolding set_norm
set_other ws r x i n =
    ap₂ two_words
    (get_or-set_other (set ws (2 * r) (x % word_size)) (2 * r + 1) (2 * i) (x / word_size) 0 (omega arith) ∙ get_or-set_other ws (2 * r) (2 * i) (x % word_size) 0 (λ e. n (omega arith)))
    (get_or-set_other (set ws (2 * r) (x % word_size)) (2 * r + 1) (2 * i + 1) (x / word_size) 0 (λ e. n (omega arith)) ∙ get_or-set_other ws (2 * r) (2 * i + 1) (x % word_size) 0 (omega arith))

pub length-set_norm : (ws : List ℕ) (r x : ℕ) → length (set_norm ws r x) ≡ length ws
unfolding set_norm
length-set_norm ws r x = simp length-set

-- a norm stored in the words is a norm stored in the norms
pub norm-set : (ws : List ℕ) (n r x : ℕ) → r < n → 2 * n ≤ length ws → norms_of (set_norm ws r x) n ≡ set (norms_of ws n) r x
norm-set ws n r x h l =
    ext_get_or 0 (norms_of (set_norm ws r x) n) (set (norms_of ws n) r x) (length-norms (set_norm ws r x) n ∙ sym (length-norms ws n) ∙ sym (length-set (norms_of ws n) r x))
    (λ i k. norm-at (set_norm ws r x) n i (omega (arith, k, length-norms (set_norm ws r x) n)) ∙ go i (omega (arith, k, length-norms (set_norm ws r x) n)) (eqb i r) refl)
  where
    go : (i : ℕ) → i < n → (t : Bool) → eqb i r ≡ t → norm_at (set_norm ws r x) i ≡ get_or (set (norms_of ws n) r x) i 0
    go i k true e =
        let q : i ≡ r = eqb-true i r e in
        rw q (set_same ws r x (omega arith) ∙ sym (get_or-set_same (norms_of ws n) r x 0 (omega (arith, length-norms ws n))))
    go i k false e = set_other ws r x i (eqb-false i r e) ∙ sym (get_or-set_other (norms_of ws n) r i x 0 (eqb-false i r e) ∙ norm-at ws n i k)

-- the words of norms, and the norms of words: a slice's words at exit are `words_of` of its norms at exit
pub norms-words : (ns : List ℕ) → norms_of (words_of ns) (length ns) ≡ ns
unfolding norms_of words_of two_words
norms-words [] = refl
norms-words (n ∷ ns) = ap₂ (λ (x : ℕ) (l : List ℕ). x ∷ l) (whole n) (norms-words ns)

pub words-norms : (ws : List ℕ) (n : ℕ) → length ws ≡ 2 * n → ((k : ℕ) → get_or ws k 0 < word_size) → words_of (norms_of ws n) ≡ ws
unfolding norms_of words_of
words-norms [] zero h w = refl
words-norms (a ∷ ws) zero h w = absurd (omega arith)
words-norms [] (suc n) h w = absurd (omega arith)
words-norms (a ∷ []) (suc n) h w = absurd (omega arith)
words-norms (a ∷ b ∷ ws) (suc n) h w = both_words (words-norms ws n (omega arith) (λ k. w (suc (suc k))))
  where
    lo : (a + word_size * b) % word_size ≡ a
    lo = omega (arith, w 0)

    hi : (a + word_size * b) / word_size ≡ b
    hi = omega (arith, w 0)

    both_words : words_of (norms_of ws n) ≡ ws → ((a + word_size * b) % word_size) ∷ ((a + word_size * b) / word_size) ∷ words_of (norms_of ws n) ≡ a ∷ b ∷ ws
    both_words ih = λ i. lo i ∷ hi i ∷ ih i

-- the norms from row r on
pub norms_from : (ws : List ℕ) (n r : ℕ) → norms_of (drop (2 * r) ws) (suc n) ≡ norm_at ws r ∷ norms_of (drop (2 * suc r) ws) n
unfolding norms_of two_words
norms_from ws n r = ap₂ (λ (x : ℕ) (l : List ℕ). x ∷ l) (ap₂ two_words (get_or-drop (2 * r) ws 0 0 ∙ ap (λ (i : ℕ). get_or ws i 0) lo) (get_or-drop (2 * r) ws 1 0)) (ap (λ (l : List ℕ). norms_of l n) (drop-drop 2 (2 * r) ws ∙ ap (λ (i : ℕ). drop i ws) next))
  where
    lo : 2 * r + 0 ≡ 2 * r
    lo = omega arith

    next : 2 * r + 2 ≡ 2 * suc r
    next = omega arith

pub norms-none : (ws : List ℕ) → norms_of ws 0 ≡ []
unfolding norms_of
norms-none ws = refl
