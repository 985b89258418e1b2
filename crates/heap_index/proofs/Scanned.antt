-- The check's scans, an index's length by binary digits, and the building, as the code goes them.
use mathlib.Core.Path.{◌≡◌, refl, sym, ap, ◌∙◌, subst}
use mathlib.Core.Logic.{◌≢◌}
use mathlib.Core.Bool.{Bool, true, false, cond, ◌&&◌}
use mathlib.Core.List.{List}
use Prim.Native.Nat.{ℕ, zero, suc, ◌+◌, ◌-◌, ◌*◌, ◌/◌, max, ◌^◌, ◌≤◌, ◌<◌}
use native.Mathlib.Omega.{arith}
use native.Mathlib.Nat.{pow-suc, mul_assoc, mul_comm, mul-le-mul, le_refl, lt_of_not-le}
use native.Mathlib.Numerals.{add-one}
use lib.ListN.{length, set, replicate, length-set, length-replicate}
use native.Mathlib.Decide.{ℕ_discrete}
use lib.Dec.{eqb, leb, ltb}
use lib.Pow.{pow_pos, pow_mono}
use borrow.Author.Tests.{eq-eqb, ne_eqb, le-leb, lt-leb, leb-true, lt-ltb, le-ltb}
use Rattle.std.specs.Option.{option_eq}
use Rattle.std.proofs.Common.{Option, Some, None, IfSome, is_some, unwrap_or}
use Rattle.heap_moves.specs.Cands.{Cand}
use Rattle.heap_index.specs.declared.Lookup.{Lookup}
use Rattle.heap_index.specs.declared.Lookup.TheVariants.{Met, Vacant}
use Rattle.heap_index.specs.Index.{word, key_at, look, found_under, round_up, index_length, entries_ok, place_ok, places_ok, index_ok, enter_by, enter_all, build}

-- ---- the check

module _ (xs : List ℕ) (n : ℕ) (cs : List Cand) where
  pub entry-step : (k i p : ℕ) → p ≡ found_under xs n cs i → entries_ok (suc k) xs n cs i ≡ ltb p (length xs) && entries_ok k xs n cs (suc i)
  unfolding entries_ok
  entry-step k i p e = rw (← e)

  pub place-step : (k p : ℕ) → places_ok (suc k) xs n cs p ≡ place_ok xs n cs p && places_ok k xs n cs (suc p)
  unfolding places_ok
  place-step k p = refl

  pub none_left : (i : ℕ) → entries_ok 0 xs n cs i ≡ true
  unfolding entries_ok
  none_left i = refl

  pub no_place : (p : ℕ) → places_ok 0 xs n cs p ≡ true
  unfolding places_ok
  no_place p = refl

  pub place_empty : (p : ℕ) → word xs p ≡ 0 → true ≡ place_ok xs n cs p
  unfolding place_ok
  place_empty p e = rw (eq-eqb (word xs p) 0 e)

  pub place-many : (p : ℕ) → word xs p ≢ 0 → n < word xs p → false ≡ place_ok xs n cs p
  unfolding place_ok
  place-many p z h = rw (ne_eqb (word xs p) 0 z, lt-leb (word xs p) n h)

  pub place-named : (p q : ℕ) → word xs p ≢ 0 → word xs p ≤ n → q ≡ found_under xs n cs (word xs p - 1) → eqb q p ≡ place_ok xs n cs p
  unfolding place_ok
  place-named p q z h e = rw (ne_eqb (word xs p) 0 z, le-leb (word xs p) n h, ← e)

  pub index_no : entries_ok n xs n cs 0 ≡ false → false ≡ index_ok xs n cs
  unfolding index_ok
  index_no e = rw e

  pub index_by : (b : Bool) → entries_ok n xs n cs 0 ≡ true → b ≡ places_ok (length xs) xs n cs 0 → b ≡ index_ok xs n cs
  unfolding index_ok
  index_by b e q = rw e q

-- a place that was found is one of m
pub some_below : (o : Option ℕ) (m : ℕ) (b : Bool) → IfSome o (λ p. p < m) → is_some o ≡ b → ltb (unwrap_or o m) m ≡ b
some_below None m b h e = le-ltb m m (omega arith) ∙ e
some_below (Some p) m b h e = lt-ltb p m h ∙ e

-- and whether it is the place p
pub same_some : (o : Option ℕ) (m p : ℕ) → p < m → option_eq eqb o (Some p) ≡ eqb (unwrap_or o m) p
same_some None m p h = sym (ne_eqb m p (λ y. omega (arith, y)))
same_some (Some q) m p h = refl

-- ---- the length of an index

double_out : (p f : ℕ) → p * 2 ^ suc f ≡ 2 * p * 2 ^ f
double_out p f = ap (λ (x : ℕ). p * x) (pow-suc 2 f) ∙ sym (mul_assoc p (2 ^ f) 2) ∙ mul_comm (p * 2 ^ f) 2 ∙ sym (mul_assoc 2 p (2 ^ f))

-- where p reaches n nothing is doubled
round_first : (f p n : ℕ) → n ≤ p → round_up f p n ≡ p
unfolding round_up
round_first zero p n h = refl
round_first (suc f) p n h = rw (le-leb n p h)

-- p doubled k times is the first that reaches n
round_at : (k f p n : ℕ) → k ≤ f → n ≤ p * 2 ^ k → p * 2 ^ k < 2 * n → round_up f p n ≡ p * 2 ^ k
unfolding round_up
round_at zero f p n h a b = round_first f p n (omega (arith, a)) ∙ omega arith
round_at (suc k) zero p n h a b = absurd (omega (arith, h))
round_at (suc k) (suc f) p n h a b =
    let d : p * 2 ^ suc k ≡ 2 * p * 2 ^ k = double_out p k in
    let e : p * 2 ^ suc k ≡ p * 2 ^ k * 2 = ap (λ (x : ℕ). p * x) (pow-suc 2 k) ∙ sym (mul_assoc p (2 ^ k) 2) in
    let low : p * 1 ≤ p * 2 ^ k = mul-le-mul (le_refl p) (pow_pos k) in
    rw (lt-leb n p (omega (arith, b, e, low)))
    (round_at k f (2 * p) n (omega (arith, h)) (subst (λ (x : ℕ). n ≤ x) d a) (subst (λ (x : ℕ). x < 2 * n) d b) ∙ sym d)

-- no entry takes one place
pub none-length : (size : ℕ) → size ≡ 0 → 1 ≡ index_length size
none-length size e = sym (round_first 11 1 (2 * size) (omega (arith, e)))

-- the first power of two that is not below twice the size
pub length_power : (size r : ℕ) → size ≤ 1024 → (k : ℕ) × (r ≡ 2 ^ k) → 2 * size ≤ r → r / 2 < max 1 (2 * size) → r ≡ index_length size
length_power size r h p low high = go (ℕ_discrete size 0) p.0 p.1
  where
    go : Dec (size ≡ 0) → (k : ℕ) → r ≡ 2 ^ k → r ≡ index_length size
    go (yes z) k e = let some : 0 < 2 ^ k = pow_pos k in omega (arith, none-length size z, some)
    go (no z) zero e = let q = round_at 0 11 1 (2 * size) (omega arith) (omega (arith, e)) (omega arith) in omega (arith, e, q)
    go (no z) (suc k) e =
        let twice : 2 ^ suc k ≡ 2 ^ k * 2 = pow-suc 2 k in
        let few : k < 11 = lt_of_not-le (λ (g : 11 ≤ k). omega (arith, h, z, pow_mono g, twice)) in
        let q = round_at (suc k) 11 1 (2 * size) few (omega (arith, e)) (omega (arith, z, twice, e)) in omega (arith, e, q)

-- there is room for every entry
round_room : (f p n : ℕ) → n ≤ p * 2 ^ f → n ≤ round_up f p n
unfolding round_up
round_room zero p n h = omega (arith, h)
round_room (suc f) p n h = go (leb n p) refl (round_room f (2 * p) n (subst (λ (x : ℕ). n ≤ x) (double_out p f) h))
  where
    go : (b : Bool) → leb n p ≡ b → n ≤ round_up f (2 * p) n → n ≤ cond b p (round_up f (2 * p) n)
    go true e ih = leb-true n p e
    go false e ih = ih

pub index-room : (size : ℕ) → 0 < size → size ≤ 1024 → size < index_length size
index-room size z h = omega (arith, round_room 11 1 (2 * size) (omega arith))

-- no index is longer than the largest heap's
pow-most : (p f : ℕ) → p ≤ p * 2 ^ f
pow-most p zero = omega arith
pow-most p (suc f) = omega (arith, pow-most p f, double_out p f, mul_assoc 2 p (2 ^ f))

round_most : (f p n : ℕ) → round_up f p n ≤ p * 2 ^ f
unfolding round_up
round_most zero p n = omega arith
round_most (suc f) p n = go (leb n p) (subst (λ (x : ℕ). round_up f (2 * p) n ≤ x) (sym (double_out p f)) (round_most f (2 * p) n))
  where
    go : (b : Bool) → round_up f (2 * p) n ≤ p * 2 ^ suc f → cond b p (round_up f (2 * p) n) ≤ p * 2 ^ suc f
    go true ih = pow-most p (suc f)
    go false ih = ih

pub index_bound : (size : ℕ) → size ≤ 1024 → index_length size ≤ 2048
index_bound size h = omega (arith, round_most 11 1 (2 * size))

-- ---- building

-- what is left to enter gives the goal
pub record Entering (goal : List ℕ) (m n : ℕ) (xs : List ℕ) (cs : List Cand) (i : ℕ) : Type 0 where
  pub long : length xs ≡ m
  pub left : ℕ
  pub all : left + i ≡ n
  pub goes : enter_all left xs cs i ≡ goal

pub enter-start : (m n : ℕ) (xs : List ℕ) (cs : List Cand) → xs ≡ replicate m 0 → Entering (build m n cs) m n xs cs 0
unfolding build
enter-start m n xs cs e = record { long = ap length e ∙ length-replicate {A = ℕ} m 0; left = n; all = omega arith; goes = ap (λ (x : List ℕ). enter_all n x cs 0) e }

-- an entry that comes in leaves the table as long as it was
enter-long : (xs : List ℕ) (i : ℕ) (l : Option Lookup) → length (enter_by xs i l) ≡ length xs
enter-long xs i (Some (Met p d)) = refl
enter-long xs i (Some (Vacant p d)) = length-set xs p (suc i)
enter-long xs i None = refl

enter_all-long : (k : ℕ) (xs : List ℕ) (cs : List Cand) (i : ℕ) → length (enter_all k xs cs i) ≡ length xs
unfolding enter_all
enter_all-long zero xs cs i = refl
enter_all-long (suc k) xs cs i =
    enter_all-long k (enter_by xs i (look xs i cs (key_at cs i))) cs (suc i) ∙ enter-long xs i (look xs i cs (key_at cs i))

-- whatever the candidates, an index that is built has its m places
pub build-long : (m n : ℕ) (cs : List Cand) → length (build m n cs) ≡ m
unfolding build
build-long m n cs = enter_all-long n (replicate m 0) cs 0 ∙ length-replicate {A = ℕ} m 0

pub enter-next : (goal : List ℕ) (m n : ℕ) (xs ys : List ℕ) (cs : List Cand) (i : ℕ) → Entering goal m n xs cs i → i < n → ys ≡ enter_by xs i (look xs i cs (key_at cs i)) → Entering goal m n ys cs (i + 1)
unfolding enter_all
enter-next goal m n xs ys cs i v h e = go v.left v.all v.goes
  where
    go : (f : ℕ) → f + i ≡ n → enter_all f xs cs i ≡ goal → Entering goal m n ys cs (i + 1)
    go zero a g = absurd (omega (arith, a))
    go (suc f) a g =
        record {
          long = ap length e ∙ enter-long xs i (look xs i cs (key_at cs i)) ∙ v.long;
          left = f;
          all = omega (arith, a);
          goes = rw (add-one i) (ap (λ (x : List ℕ). enter_all f x cs (suc i)) e ∙ g);
        }

pub enter_end : (goal : List ℕ) (m n : ℕ) (xs : List ℕ) (cs : List Cand) (i : ℕ) → Entering goal m n xs cs i → n ≤ i → xs ≡ goal
unfolding enter_all
enter_end goal m n xs cs i v h = go v.left v.all v.goes
  where
    go : (f : ℕ) → f + i ≡ n → enter_all f xs cs i ≡ goal → xs ≡ goal
    go zero a g = g
    go (suc f) a g = absurd (omega (arith, a))

pub enter_is : (xs : List ℕ) (cs : List Cand) (i k : ℕ) (l : Option Lookup) → key_at cs i ≡ k → look xs i cs k ≡ l → enter_by xs i l ≡ enter_by xs i (look xs i cs (key_at cs i))
enter_is xs cs i k l e q = ap (enter_by xs i) (sym (ap (look xs i cs) e ∙ q))

-- where it comes in
module _ (xs : List ℕ) (cs : List Cand) (i k : ℕ) (q : key_at cs i ≡ k) where
  pub enter_vacant : (p d : ℕ) → look xs i cs k ≡ Some (Vacant p d) → set xs p (i + 1) ≡ enter_by xs i (look xs i cs (key_at cs i))
  enter_vacant p d e = ap (set xs p) (add-one i) ∙ enter_is xs cs i k (Some (Vacant p d)) q e

  pub enter_met : (l : Lookup) → look xs i cs k ≡ Some l → ((p d : ℕ) → l ≡ Vacant p d → ⊥) → xs ≡ enter_by xs i (look xs i cs (key_at cs i))
  enter_met (Met p d) e h = enter_is xs cs i k (Some (Met p d)) q e
  enter_met (Vacant p d) e h = absurd (h p d refl)

  pub enter-refused : look xs i cs k ≡ None → xs ≡ enter_by xs i (look xs i cs (key_at cs i))
  enter-refused e = enter_is xs cs i k None q e
