-- Rows cut out of a list and joined again; a table whose unused places are zero. Assumes nothing.
use mathlib.Core.Path.{◌≡◌, refl, sym, ap, ◌∙◌}
use mathlib.Core.Bool.{true}
use mathlib.Core.List.{List, [], ◌∷◌, ◌++◌}
use Prim.Native.Nat.{ℕ, zero, suc, ◌+◌, ◌-◌, ◌*◌, ◌≤◌, ◌<◌}
use native.Mathlib.Nat.{suc-mul}
use native.Mathlib.Omega.{arith}
use lib.ListN.{length, get_or, take, drop, replicate, take-append-drop, length-append, length-drop, length-replicate}
use lib.Seq.{length-take-le, take_at, drop_at, get_or-drop, ext_get_or}
use lib.IntN.{ℤ}
use Rattle.words.specs.Num.{in_range, all_in}
use Rattle.words.proofs.Bools.{and_left, and_right, both}
use Rattle.words.specs.Lists.{All}
use Rattle.words.proofs.Lists.{get_d_all}
use Rattle.words.proofs.Squares.{all_take}
use Rattle.state_check.proofs.Whole.{all_drop}
use Rattle.heap_moves.specs.Cands.{Cand, no_cand}
use Rattle.heap_moves.specs.inner.Order.{Rest}
use Rattle.heap.specs.Offer.{Table}
use Rattle.heap.specs.inner.Sound.{Sound}
use Rattle.state_forms.specs.Grammar.{RowIn, rows_of, join_rows}
use Rattle.state_forms.proofs.Rows.{InR}
use Rattle.state_text.specs.Pages.{table_from}

-- ---- tests over lists

all_of : (xs : List ℤ) → all_in xs ≡ true → All InR xs
unfolding all_in
all_of [] e = tt
all_of (x ∷ xs) e = (and_left (in_range x) (all_in xs) e, all_of xs (and_right (in_range x) (all_in xs) e))

all_is : (xs : List ℤ) → All InR xs → all_in xs ≡ true
unfolding all_in
all_is [] a = refl
all_is (x ∷ xs) a = both a.0 (all_is xs a.1)

in_append : (xs ys : List ℤ) → all_in xs ≡ true → all_in ys ≡ true → all_in (xs ++ ys) ≡ true
unfolding all_in
in_append [] ys e f = f
in_append (x ∷ xs) ys e f = both (and_left (in_range x) (all_in xs) e) (in_append xs ys (and_right (in_range x) (all_in xs) e) f)

nothing : {A : Type 0} (xs : List A) → length xs ≡ 0 → [] ≡ xs
nothing [] e = refl
nothing (x ∷ xs) e = absurd (omega arith)

-- ---- rows

pub rows_long : (cols n : ℕ) (xs : List ℤ) → length (rows_of cols n xs) ≡ n
unfolding rows_of
rows_long cols zero xs = refl
rows_long cols (suc n) xs = ap suc (rows_long cols n (drop cols xs))

pub join-rows : (cols n : ℕ) (xs : List ℤ) → length xs ≡ n * cols → join_rows (rows_of cols n xs) ≡ xs
unfolding rows_of join_rows
join-rows cols zero xs l = let z : 0 * cols ≡ 0 = omega arith in nothing xs (l ∙ z)
join-rows cols (suc n) xs l =
    let k : length (drop cols xs) ≡ n * cols = omega (arith, length-drop cols xs, l, suc-mul n cols) in
    ap (λ (z : List ℤ). take cols xs ++ z) (join-rows cols n (drop cols xs) k) ∙ take-append-drop cols xs

pub rows_in : (cols n : ℕ) (xs : List ℤ) → length xs ≡ n * cols → all_in xs ≡ true → All (RowIn cols) (rows_of cols n xs)
unfolding rows_of
rows_in cols zero xs l e = tt
rows_in cols (suc n) xs l e =
    let k : length (drop cols xs) ≡ n * cols = omega (arith, length-drop cols xs, l, suc-mul n cols) in
    let h : cols ≤ length xs = omega (arith, l, suc-mul n cols) in
    (record { long = length-take-le cols xs h; range = all_of (take cols xs) (all_take cols xs e) }, rows_in cols n (drop cols xs) k (all_drop cols xs e))

pub rows_join : (cols : ℕ) (rs : List (List ℤ)) → All (RowIn cols) rs → rows_of cols (length rs) (join_rows rs) ≡ rs
unfolding rows_of join_rows
rows_join cols [] a = refl
rows_join cols (r ∷ rs) a =
    rw (take_at r (join_rows rs) cols a.0.long, drop_at r (join_rows rs) cols a.0.long)
    (ap (λ (z : List (List ℤ)). r ∷ z) (rows_join cols rs a.1))

pub join-long : (cols : ℕ) (rs : List (List ℤ)) → All (RowIn cols) rs → length (join_rows rs) ≡ length rs * cols
unfolding join_rows
join-long cols [] a = let z : 0 * cols ≡ 0 = omega arith in sym z
join-long cols (r ∷ rs) a = omega (arith, length-append r (join_rows rs), a.0.long, join-long cols rs a.1, suc-mul (length rs) cols)

pub join-in : (cols : ℕ) (rs : List (List ℤ)) → All (RowIn cols) rs → all_in (join_rows rs) ≡ true
unfolding join_rows all_in
join-in cols [] a = refl
join-in cols (r ∷ rs) a = in_append r (join_rows rs) (all_is r a.0.range) (join-in cols rs a.1)

-- ---- tables

rest_zeros : (n : ℕ) (cs : List Cand) → Rest n cs → drop n cs ≡ replicate (length cs - n) no_cand
rest_zeros n cs r =
    ext_get_or no_cand (drop n cs) (replicate (length cs - n) no_cand) (length-drop n cs ∙ sym (length-replicate (length cs - n) no_cand))
    (λ i h. get_or-drop n cs i no_cand ∙ r (n + i) (omega arith) ∙ sym (get_d_all no_cand (length cs - n) i))

table_path : {c c' : List Cand} {k k' : ℕ} → c ≡ c' → k ≡ k' → ◌≡◌ {A = Table} (record { cands = c; len = k }) (record { cands = c'; len = k' })
table_path p q = λ i. record { cands = p i; len = q i }

pub table-back : (size : ℕ) (t : Table) → Sound size t → table_from size (take t.len t.cands) ≡ t
table-back size t s =
    let l : length (take t.len t.cands) ≡ t.len = length-take-le t.len t.cands (omega (arith, s.used, s.long)) in
    let k : size - length (take t.len t.cands) ≡ length t.cands - t.len = omega (arith, l, s.long) in
    table_path
    (ap (λ (n : ℕ). take t.len t.cands ++ replicate n no_cand) k ∙ ap (λ (z : List Cand). take t.len t.cands ++ z) (sym (rest_zeros t.len t.cands s.rest)) ∙ take-append-drop t.len t.cands)
    l

pub table-long : (size : ℕ) (cs : List Cand) → length cs ≤ size → length (table_from size cs).cands ≡ size
table-long size cs h = omega (arith, length-append cs (replicate (size - length cs) no_cand), length-replicate (size - length cs) no_cand)

-- what holds of the first n of a list
pub all_first : (P : Cand → Type 0) (n : ℕ) (cs : List Cand) → ((i : ℕ) → i < n → i < length cs → P (get_or cs i no_cand)) → All P (take n cs)
all_first P zero cs h = tt
all_first P (suc n) [] h = tt
all_first P (suc n) (c ∷ cs) h = (h 0 (omega arith) (omega arith), all_first P n cs (λ i k m. h (suc i) (omega arith) (omega arith)))
