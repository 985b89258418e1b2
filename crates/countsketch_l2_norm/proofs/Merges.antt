-- Norms worked out anew, and sums of two lists. Assumes nothing.
use mathlib.Core.Path.{◌≡◌, refl, sym, ap, ◌∙◌}
use mathlib.Core.Bool.{Bool, true, false, ◌&&◌}
use Prim.Native.Nat.{ℕ, zero, suc, ◌+◌, ◌-◌, ◌*◌, ◌≤◌, ◌<◌}
use native.Mathlib.Omega.{arith}
use native.Mathlib.Numerals.{add-one}
use mathlib.Core.List.{List, [], ◌∷◌, ◌++◌, append_assoc, append-nil}
use lib.ListN.{length, get_or, set, take, drop, length-set, drop_of_length-le}
use lib.Seq.{drop-cons, take-suc-set, drop-set-lt, take_all, ext_get_or}
use lib.IntN.{ℤ, pos, nat_abs, ◌+ℤ◌}
use lib.Dec.{eqb}
use Rattle.std.proofs.lemmas.List.{get_or-take, length-take, length-drop}
use lib.Seq.{get_or-drop}
use borrow.Author.Tests.{eqb-true, eqb-false}
use Rattle.words.specs.Num.{top, square_cap, in_range, all_in, capped}
use Rattle.words.proofs.Bools.{and_left, and_right}
use Rattle.words.proofs.Squares.{all-step, range_bound, capped_le}
use Rattle.countsketch_l2_norm.specs.Norms.{norms_of, norm_at}
use Rattle.countsketch_l2_norm.specs.inner.Needs.{set_norm}
use Rattle.countsketch_l2_norm.specs.Sketch.{cell_at}
use Rattle.countsketch_l2_norm.specs.Merge.{sum_below, squares_from, row_norm, row_norms, sums}
use Rattle.countsketch_l2_norm.proofs.Norms.{norm-at, length-norms, set_same, set_other, length-set_norm}

-- one more square
pub squares-none : (a : ℕ) (xs : List ℤ) → squares_from a 0 xs ≡ 0
unfolding squares_from sum_below
squares-none a xs = refl

pub squares_more : (a n : ℕ) (xs : List ℤ) → squares_from a (n + 1) xs ≡ squares_from a n xs + capped (cell_at xs (a + n))
unfolding squares_from sum_below
squares_more a n xs = rw add-one

-- the counters of a row as a part of all of them: as many as there are columns
pub row-length : (a cols : ℕ) (xs : List ℤ) → a + cols ≤ length xs → length (take (a + cols - a) (drop a xs)) ≡ cols
row-length a cols xs h = omega (arith, length-take (a + cols - a) (drop a xs), length-drop a xs)

pub row-cell : (a cols i : ℕ) (xs : List ℤ) → a + cols ≤ length xs → i < length (take (a + cols - a) (drop a xs)) → get_or (take (a + cols - a) (drop a xs)) i (pos 0) ≡ cell_at xs (a + i)
row-cell a cols i xs h k = get_or-take (a + cols - a) (drop a xs) i (pos 0) (omega (arith, k, row-length a cols xs h)) ∙ get_or-drop a xs i (pos 0)

-- "A norm's range is 0 to cols × 2^63."
pub squares-most : (a n : ℕ) (xs : List ℤ) → squares_from a n xs ≤ n * square_cap
unfolding squares_from sum_below
squares-most a zero xs = omega arith
squares-most a (suc n) xs = omega (arith, squares-most a n xs, capped_le (cell_at xs (a + n)))

-- the norms of the rows
pub length-row_norms : (cols : ℕ) (xs : List ℤ) (k r : ℕ) → length (row_norms cols xs k r) ≡ k
unfolding row_norms
length-row_norms cols xs zero r = refl
length-row_norms cols xs (suc k) r = ap suc (length-row_norms cols xs k (suc r))

row_norms-at : (cols : ℕ) (xs : List ℤ) (k r i : ℕ) → i < k → get_or (row_norms cols xs k r) i 0 ≡ row_norm cols xs (r + i)
unfolding row_norms
row_norms-at cols xs zero r i h = absurd (omega arith)
row_norms-at cols xs (suc k) r zero h = ap (row_norm cols xs) (omega arith)
row_norms-at cols xs (suc k) r (suc i) h =
    let e : suc r + i ≡ r + suc i = omega arith in
    row_norms-at cols xs k (suc r) i (omega arith) ∙ ap (row_norm cols xs) e

pub row_at : (cols : ℕ) (xs : List ℤ) (rows i : ℕ) → i < rows → get_or (row_norms cols xs rows 0) i 0 ≡ row_norm cols xs i
row_at cols xs rows i h =
    let z : 0 + i ≡ i = omega arith in
    row_norms-at cols xs rows 0 i h ∙ ap (row_norm cols xs) z

pub record Norming (rows cols : ℕ) (xs : List ℤ) (ws₀ ws : List ℕ) (r : ℕ) : Type 0 where
  pub low : r ≤ rows
  pub same : length ws ≡ length ws₀
  pub done : (k : ℕ) → k < r → norm_at ws k ≡ row_norm cols xs k

pub norm_on : (rows cols : ℕ) (xs : List ℤ) (ws₀ ws : List ℕ) (r : ℕ) (vs : List ℕ) → Norming rows cols xs ws₀ ws r → r < rows → 2 * rows ≤ length ws₀ → vs ≡ set_norm ws r (row_norm cols xs r) → Norming rows cols xs ws₀ vs (r + 1)
norm_on rows cols xs ws₀ ws r vs g l p e =
    record {
      low = omega arith;
      same = ap length e ∙ length-set_norm ws r (row_norm cols xs r) ∙ g.same;
      done = λ k h. ap (λ (z : List ℕ). norm_at z k) e ∙ go k h (eqb k r) refl;
    }
  where
    go : (k : ℕ) → k < r + 1 → (t : Bool) → eqb k r ≡ t → norm_at (set_norm ws r (row_norm cols xs r)) k ≡ row_norm cols xs k
    go k h true q =
        let z : k ≡ r = eqb-true k r q in
        rw z (set_same ws r (row_norm cols xs r) (omega (arith, g.same)))
    go k h false q =
        let n : k ≡ r → ⊥ = eqb-false k r q in
        set_other ws r (row_norm cols xs r) k n ∙ g.done k (omega arith)

pub norm_end : (rows cols : ℕ) (xs : List ℤ) (ws₀ ws : List ℕ) (r : ℕ) → Norming rows cols xs ws₀ ws r → rows ≤ r → norms_of ws rows ≡ row_norms cols xs rows 0
norm_end rows cols xs ws₀ ws r g l =
    ext_get_or 0 (norms_of ws rows) (row_norms cols xs rows 0) (length-norms ws rows ∙ sym (length-row_norms cols xs rows 0))
    (λ i h. let k : i < rows = omega (arith, h, length-norms ws rows) in
    norm-at ws rows i k ∙ g.done i (omega arith) ∙ sym (row_at cols xs rows i k))

-- ---- sums of two lists

pub length-sums : (xs ys : List ℤ) → length xs ≡ length ys → length (sums xs ys) ≡ length xs
unfolding sums
length-sums [] ys h = refl
length-sums (x ∷ xs) [] h = absurd (omega arith)
length-sums (x ∷ xs) (y ∷ ys) h = ap suc (length-sums xs ys (omega arith))

pub sums-step : (xs ys : List ℤ) (i : ℕ) → i < length xs → i < length ys
    → sums (drop i xs) (drop i ys) ≡ (get_or xs i (pos 0) +ℤ get_or ys i (pos 0)) ∷ sums (drop (i + 1) xs) (drop (i + 1) ys)
unfolding sums
sums-step xs ys i h k = rw (add-one, drop-cons xs i (pos 0) h, drop-cons ys i (pos 0) k)

-- two lists of counters that are walked together: what is left of them is in range and equally long
pub record Paired (xs ys : List ℤ) : Type 0 where
  pub in_xs : all_in xs ≡ true
  pub in_ys : all_in ys ≡ true
  pub same : length xs ≡ length ys

-- the pair in front
pub pair_front : {x y : ℤ} {xs ys us bs : List ℤ} → us ≡ x ∷ xs → bs ≡ y ∷ ys → Paired us bs → (nat_abs x ≤ top) × (nat_abs y ≤ top)
unfolding all_in
pair_front {x} {y} {xs} {ys} e f p =
    (range_bound x (and_left (in_range x) (all_in xs) (rw e at p.in_xs)), range_bound y (and_left (in_range y) (all_in ys) (rw f at p.in_ys)))

-- and those behind it
pub pair_next : {x y : ℤ} {xs ys us bs : List ℤ} → us ≡ x ∷ xs → bs ≡ y ∷ ys → Paired us bs → Paired xs ys
unfolding all_in
pair_next {x} {y} {xs} {ys} e f p =
    record {
      in_xs = and_right (in_range x) (all_in xs) (rw e at p.in_xs);
      in_ys = and_right (in_range y) (all_in ys) (rw f at p.in_ys);
      same = omega (arith, p.same, ap length e, ap length f);
    }

pub fit_on : {x y : ℤ} {xs ys us bs : List ℤ} → us ≡ x ∷ xs → bs ≡ y ∷ ys → all_in (sums us bs) ≡ in_range (x +ℤ y) && all_in (sums xs ys)
unfolding all_in sums
fit_on e f = rw (e, f)

pub fit_end : {us : List ℤ} (bs : List ℤ) → us ≡ [] → all_in (sums us bs) ≡ true
unfolding all_in sums
fit_end bs e = rw e

pub record Adding (xs₀ ys xs : List ℤ) (i : ℕ) : Type 0 where
  pub low : i ≤ length xs₀
  pub same : length xs ≡ length xs₀
  pub rest : all_in (drop i xs) ≡ true
  pub goes : take i xs ++ sums (drop i xs) (drop i ys) ≡ sums xs₀ ys

pub add_start : (xs ys : List ℤ) → all_in xs ≡ true → Adding xs ys xs 0
add_start xs ys e = record { low = omega arith; same = refl; rest = e; goes = refl }

pub add_in : (xs₀ ys xs : List ℤ) (i : ℕ) → Adding xs₀ ys xs i → i < length xs → nat_abs (get_or xs i (pos 0)) ≤ top
add_in xs₀ ys xs i g h = range_bound (get_or xs i (pos 0)) (and_left (in_range (get_or xs i (pos 0))) (all_in (drop (i + 1) xs)) (sym (all-step xs i h) ∙ g.rest))

pub add_on : (xs₀ ys xs : List ℤ) (i : ℕ) (z : ℤ) → Adding xs₀ ys xs i → i < length xs → i < length ys → z ≡ get_or xs i (pos 0) +ℤ get_or ys i (pos 0) → Adding xs₀ ys (set xs i z) (i + 1)
add_on xs₀ ys xs i z g h k e =
    record {
      low = omega (arith, g.same);
      same = length-set xs i z ∙ g.same;
      rest = rw (add-one, drop-set-lt (suc i) xs i z (omega arith), ← add-one) (and_right (in_range (get_or xs i (pos 0))) (all_in (drop (i + 1) xs)) (sym (all-step xs i h) ∙ g.rest));
      goes = rw (add-one, take-suc-set xs i z h, drop-set-lt (suc i) xs i z (omega arith), append_assoc, e) (sym (ap (λ (l : List ℤ). take i xs ++ l) (rw add-one at (sums-step xs ys i h k))) ∙ g.goes);
    }

pub add_end : (xs₀ ys xs : List ℤ) (i : ℕ) → Adding xs₀ ys xs i → length xs ≤ i → xs ≡ sums xs₀ ys
unfolding sums
add_end xs₀ ys xs i g h =
    let d : drop i xs ≡ [] = drop_of_length-le xs h in
    sym (append-nil xs) ∙ sym (ap (λ (l : List ℤ). l ++ []) (take_all i xs h)) ∙ sym (ap (λ (l : List ℤ). take i xs ++ sums l (drop i ys)) d) ∙ g.goes
