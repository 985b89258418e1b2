-- Decimals as texts: their last digit, their length, their first digit. Assumes nothing.
use Prim.Native.Nat.{ℕ, zero, suc, ◌+◌, ◌/◌, ◌%◌, ◌^◌, ◌≤◌, ◌<◌}
use mathlib.Core.Path.{◌≡◌, refl, ap, ◌∙◌}
use mathlib.Core.Bool.{Bool, true, false, cond}
use mathlib.Core.List.{List, [], ◌∷◌, ◌++◌}
use lib.ListN.{length, set, length-append}
use lib.Seq.{sets}
use lib.Dec.{ltb}
use native.Mathlib.Omega.{arith}
use borrow.Author.Tests.{lt-ltb, le-ltb, ltb-true, ltb-false}
use Rattle.text.specs.Decimals.{dec_in, dec}
use Rattle.text.proofs.Puts.{sets_last}

-- where n has at most f + 1 digits, allowing for more changes nothing
more : (f n : ℕ) → n < 10 ^ suc f → dec_in (suc f) n ≡ dec_in (suc (suc f)) n
unfolding dec_in
more zero n h = rw (lt-ltb n 10 h)
more (suc f) n h = go (more f) (ltb n 10) refl
  where
    go : ((m : ℕ) → m < 10 ^ suc f → dec_in (suc f) m ≡ dec_in (suc (suc f)) m) → (t : Bool) → ltb n 10 ≡ t
        → cond t ((48 + n) ∷ []) (dec_in (suc f) (n / 10) ++ ((48 + n % 10) ∷ [])) ≡ cond t ((48 + n) ∷ []) (dec_in (suc (suc f)) (n / 10) ++ ((48 + n % 10) ∷ []))
    go r true e = refl
    go r false e = rw (r (n / 10) (omega arith))

pub dec-small : (n : ℕ) → n < 10 → dec n ≡ (48 + n) ∷ []
unfolding dec dec_in
dec-small n h = rw (lt-ltb n 10 h)

top : (f n : ℕ) → 10 ≤ n → dec_in (suc f) n ≡ dec_in f (n / 10) ++ ((48 + n % 10) ∷ [])
unfolding dec_in
top f n h = rw (le-ltb n 10 h)

pub dec-step : (n : ℕ) → 10 ≤ n → n < 10 ^ 20 → dec n ≡ dec (n / 10) ++ ((48 + n % 10) ∷ [])
unfolding dec
dec-step n h k = top 19 n h ∙ ap (λ (l : List ℕ). l ++ ((48 + n % 10) ∷ [])) (more 18 (n / 10) (omega arith))

dec_in-length : (f n : ℕ) → length (dec_in f n) ≤ f
unfolding dec_in
dec_in-length zero n = omega arith
dec_in-length (suc f) n = go (dec_in-length f (n / 10)) (ltb n 10)
  where
    go : length (dec_in f (n / 10)) ≤ f → (t : Bool) → length (cond t ((48 + n) ∷ []) (dec_in f (n / 10) ++ ((48 + n % 10) ∷ []))) ≤ suc f
    go r true = omega arith
    go r false = simp length-append (omega arith)

pub dec-length : (n : ℕ) → length (dec n) ≤ 20
unfolding dec
dec-length n = dec_in-length 20 n

-- a number below 10 ^ (k + 1) has at most k + 1 digits
dec_in_digits : (f k n : ℕ) → n < 10 ^ suc k → length (dec_in f n) ≤ suc k
unfolding dec_in
dec_in_digits zero k n h = omega arith
dec_in_digits (suc f) k n h = go (dec_in_digits f) k h (ltb n 10) refl
  where
    go : ((j m : ℕ) → m < 10 ^ suc j → length (dec_in f m) ≤ suc j) → (j : ℕ) → n < 10 ^ suc j → (t : Bool) → ltb n 10 ≡ t
        → length (cond t ((48 + n) ∷ []) (dec_in f (n / 10) ++ ((48 + n % 10) ∷ []))) ≤ suc j
    go ih j l true e = omega arith
    go ih zero l false e = absurd (omega (arith, ltb-false n 10 e))
    go ih (suc j) l false e = simp length-append (omega (arith, ih j (n / 10) (omega arith)))

pub dec_digits : (k n : ℕ) → n < 10 ^ suc k → length (dec n) ≤ suc k
unfolding dec
dec_digits k n h = dec_in_digits 20 k n h

pub dec_grows : (n : ℕ) → 10 ≤ n → n < 10 ^ 20 → length (dec n) ≡ length (dec (n / 10)) + 1
dec_grows n h k = rw (dec-step n h k) (length-append (dec (n / 10)) ((48 + n % 10) ∷ []))

-- ---- how many digits there are: the last four and those before them

pub dec-one : (n : ℕ) → n < 10 → length (dec n) ≡ 1
dec-one n h = ap length (dec-small n h)

pub dec-two : (n : ℕ) → 10 ≤ n → n < 100 → length (dec n) ≡ 2
dec-two n l h = omega (arith, dec_grows n l (omega arith), dec-one (n / 10) (omega arith))

pub dec_three : (n : ℕ) → 100 ≤ n → n < 1000 → length (dec n) ≡ 3
dec_three n l h = omega (arith, dec_grows n (omega arith) (omega arith), dec-two (n / 10) (omega arith) (omega arith))

pub dec_four : (n : ℕ) → 1000 ≤ n → n < 10000 → length (dec n) ≡ 4
dec_four n l h = omega (arith, dec_grows n (omega arith) (omega arith), dec_three (n / 10) (omega arith) (omega arith))

pub dec_fours : (n : ℕ) → 10000 ≤ n → n < 10 ^ 20 → length (dec n) ≡ length (dec (n / 10000)) + 4
dec_fours n l h =
    let z : n / 10 / 10 / 10 / 10 ≡ n / 10000 = omega arith in
    let a = dec_grows n (omega arith) h in
    let b = dec_grows (n / 10) (omega arith) (omega arith) in
    let c = dec_grows (n / 10 / 10) (omega arith) (omega arith) in
    let d = dec_grows (n / 10 / 10 / 10) (omega arith) (omega arith) in
    omega (arith, a, b, c, d, ap (λ (m : ℕ). length (dec m)) z)

-- the last digit before the others
pub dec-put : (o : List ℕ) (a i d n : ℕ) → 10 ≤ n → n < 10 ^ 20 → i + 1 ≡ a + length (dec n) → d ≡ 48 + n % 10 → sets (set o i d) a (dec (n / 10)) ≡ sets o a (dec n)
dec-put o a i d n h k e g =
    let f : i ≡ a + length (dec (n / 10)) = omega (arith, dec_grows n h k) in
    rw (f, g, dec-step n h k) (sets_last o a (dec (n / 10)) (48 + n % 10))

-- the first digit of all, which is stored last
pub dec_done : (o : List ℕ) (a i d n : ℕ) → n < 10 → i + 1 ≡ a + length (dec n) → d ≡ 48 + n → set o i d ≡ sets o a (dec n)
dec_done o a i d n h e g =
    let f : i ≡ a = omega (arith, dec-one n h) in
    rw (f, g, dec-small n h)

-- the first digit, which is 0 for the number 0 alone
pub record Headed (n : ℕ) : Type 0 where
  pub first : ℕ
  pub rest : List ℕ
  pub is : dec n ≡ (48 + first) ∷ rest
  pub low : 1 ≤ n → 1 ≤ first
  pub high : first < 10

heads : (f n : ℕ) → n ≤ f → n < 10 ^ 20 → Headed n
heads zero n h k = record { first = n; rest = []; is = dec-small n (omega arith); low = λ o. o; high = omega arith }
heads (suc f) n h k = go (λ u. heads f (n / 10) (omega (arith, u)) (omega arith)) (ltb n 10) refl
  where
    go : (10 ≤ n → Headed (n / 10)) → (b : Bool) → ltb n 10 ≡ b → Headed n
    go r true e = record { first = n; rest = []; is = dec-small n (ltb-true n 10 e); low = λ o. o; high = ltb-true n 10 e }
    go r false e =
        let u = ltb-false n 10 e in
        let q = r u in
        record { first = q.first; rest = q.rest ++ ((48 + n % 10) ∷ []); is = dec-step n u k ∙ ap (λ (z : List ℕ). z ++ ((48 + n % 10) ∷ [])) q.is; low = λ o. q.low (omega (arith, u)); high = q.high }

pub dec-head : (n : ℕ) → n < 10 ^ 20 → Headed n
dec-head n k = heads n n (omega arith) k

pub dec_any : (n : ℕ) → n < 10 ^ 20 → 1 ≤ length (dec n)
dec_any n k = omega (arith, ap length (dec-head n k).is)
