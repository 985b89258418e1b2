-- With every key counted and g one, the float recursion is the whole-number recursion. Assumes nothing.
use Prim.Native.Nat.{ℕ, zero, suc, ◌+◌, ◌*◌, ◌/◌, ◌%◌, ◌^◌, ◌≤◌, ◌<◌}
use mathlib.Core.Path.{◌≡◌, refl, sym, ap, ◌∙◌}
use mathlib.Core.Bool.{Bool, true, false, cond}
use mathlib.Core.List.{List, [], ◌∷◌}
use native.Mathlib.Omega.{arith}
use lib.ListN.{length}
use lib.Pow.{pow_mono}
use native.Mathlib.Nat.{pow-suc}
use lib.IntN.{ℤ, pos, negsuc, nat_abs, ◌+ℤ◌, ◌*ℤ◌, +ℤ_assoc, +ℤ_idl, +ℤ_idr}
use lib.Dec.{eqb}
use lib.Ieee.{Float, binary64, add, sub, mul, of_int, of_bits}
use Rattle.words.proofs.Signed.{abs-add, abs-mul}
use Rattle.float64.specs.Values.{two}
use Rattle.float64.proofs.Ints.{add-int, term_int, step-int, one_is, nought_is}
use Rattle.sums.specs.Entries.{Entry}
use Rattle.sums.specs.Terms.{plus_zero, one, g_of, factor, counted, add_term, sum_over}
use Rattle.sums.specs.Layers.{rule_at, g_sum}
use Rattle.sums.specs.inner.Whole.{bit_off, bit_sum, key_sum}
use Rattle.sums.specs.declared.G.TheVariants.{One}

-- the factor of a bit that is 0, and of one that is 1
factor_off : sub binary64 one (mul binary64 two (of_int binary64 (pos 0))) ≡ of_int binary64 (pos 1)
unfolding sub mul add of_int of_bits
factor_off = refl

factor_on : sub binary64 one (mul binary64 two (of_int binary64 (pos 1))) ≡ of_int binary64 (negsuc 0)
unfolding sub mul add of_int of_bits
factor_on = refl

factor_is : (b l : ℕ) → factor b l ≡ of_int binary64 (cond (eqb (b / 2 ^ l % 2) 0) (pos 1) (negsuc 0))
unfolding factor
factor_is b l = go (b / 2 ^ l % 2) (omega arith)
  where
    go : (x : ℕ) → x < 2 → sub binary64 one (mul binary64 two (of_int binary64 (pos x))) ≡ of_int binary64 (cond (eqb x 0) (pos 1) (negsuc 0))
    go zero h = factor_off
    go (suc zero) h = factor_on
    go (suc (suc x)) h = absurd (omega arith)

abs_sign : (b : Bool) → nat_abs (cond b (pos 1) (negsuc 0)) ≡ 1
abs_sign true = refl
abs_sign false = refl

sign_one : (b : Bool) → cond b (pos 1) (negsuc 0) *ℤ pos 1 ≡ cond b (pos 1) (negsuc 0)
sign_one true = refl
sign_one false = refl

-- one candidate more, at a layer with signs and at the last
term_sign : (t : ℤ) (l b : ℕ) (a c : ℤ) → nat_abs a ≤ 2 ^ 53
    → add_term (rule_at One true t false l) (of_int binary64 a) b c ≡ of_int binary64 (a +ℤ cond (eqb (b / 2 ^ suc l % 2) 0) (pos 1) (negsuc 0))
unfolding add_term counted g_of
term_sign t l b a c h =
    let s = cond (eqb (b / 2 ^ suc l % 2) 0) (pos 1) (negsuc 0) in
    ap (λ (x : Float). add binary64 (of_int binary64 a) (mul binary64 x one)) (factor_is b (suc l))
    ∙ ap (λ (x : Float). add binary64 (of_int binary64 a) (mul binary64 (of_int binary64 s) x)) one_is
    ∙ term_int a s (pos 1) h (omega (arith, abs_sign (eqb (b / 2 ^ suc l % 2) 0))) (omega arith) (omega (arith, abs_sign (eqb (b / 2 ^ suc l % 2) 0)))
    ∙ ap (λ (z : ℤ). of_int binary64 (a +ℤ z)) (sign_one (eqb (b / 2 ^ suc l % 2) 0))

term_last : (t : ℤ) (l b : ℕ) (a c : ℤ) → nat_abs a ≤ 2 ^ 53 → add_term (rule_at One true t true l) (of_int binary64 a) b c ≡ of_int binary64 (a +ℤ pos 1)
unfolding add_term counted g_of
term_last t l b a c h = ap (add binary64 (of_int binary64 a)) one_is ∙ add-int a (pos 1) h (omega arith)

-- a whole layer
pub sum_signs : (t : ℤ) (l : ℕ) (a : ℤ) (es : List Entry) → nat_abs a + length es ≤ 2 ^ 53
    → sum_over (rule_at One true t false l) (of_int binary64 a) es ≡ of_int binary64 (a +ℤ bit_sum (suc l) es)
unfolding sum_over bit_sum
sum_signs t l a [] h = ap (of_int binary64) (sym (+ℤ_idr a))
sum_signs t l a (e ∷ es) h =
    let s = cond (bit_off (suc l) e) (pos 1) (negsuc 0) in
    ap (λ (x : Float). sum_over (rule_at One true t false l) x es) (term_sign t l e.bottom a e.count (omega arith))
    ∙ sum_signs t l (a +ℤ s) es (omega (arith, abs-add a s, abs_sign (bit_off (suc l) e)))
    ∙ ap (of_int binary64) (+ℤ_assoc a s (bit_sum (suc l) es))

pub sum_last : (t : ℤ) (l n : ℕ) (es : List Entry) → n + length es ≤ 2 ^ 53
    → sum_over (rule_at One true t true l) (of_int binary64 (pos n)) es ≡ of_int binary64 (pos (n + length es))
unfolding sum_over
sum_last t l n [] h = ap (λ (k : ℕ). of_int binary64 (pos k)) (omega arith)
sum_last t l n (e ∷ es) h =
    ap (λ (x : Float). sum_over (rule_at One true t true l) x es) (term_last t l e.bottom (pos n) e.count (omega arith))
    ∙ sum_last t l (n + 1) es (omega arith)
    ∙ ap (λ (k : ℕ). of_int binary64 (pos k)) (omega arith)

-- ---- how large the whole recursion grows

bits-size : (l : ℕ) (es : List Entry) → nat_abs (bit_sum l es) ≤ length es
unfolding bit_sum
bits-size l [] = omega arith
bits-size l (e ∷ es) =
    let s = cond (bit_off l e) (pos 1) (negsuc 0) in
    omega (arith, abs-add s (bit_sum l es), abs_sign (bit_off l e), bits-size l es)

double_size : (z : ℤ) → nat_abs (pos 2 *ℤ z) ≤ 2 * nat_abs z
double_size z = omega (arith, abs-mul (pos 2) z)

key-size : (cs : ℕ → ℕ → List Entry) (k l : ℕ) → ((k l : ℕ) → length (cs k l) ≤ 1024) → nat_abs (key_sum cs k l) + 1024 ≤ 2048 * 2 ^ k
unfolding key_sum
key-size cs zero l h = omega (arith, h 0 l)
key-size cs (suc k) l h =
    let y = key_sum cs k (suc l) in
    let t = bit_sum (suc l) (cs (suc k) l) in
    let p : 2 ^ suc k ≡ 2 ^ k * 2 = pow-suc 2 k in
    omega (arith, abs-add (pos 2 *ℤ y) t, double_size y, bits-size (suc l) (cs (suc k) l), h (suc k) l, key-size cs k (suc l) h, p)

-- The float recursion with every key counted as one is the whole one, for lists of at most 1,024 and at most 41 layers.
pub sum-whole : (ts : ℕ → ℕ → ℤ) (cs : ℕ → ℕ → List Entry) (k l : ℕ) → ((k l : ℕ) → length (cs k l) ≤ 1024) → k ≤ 40
    → g_sum One true ts cs k l ≡ of_int binary64 (key_sum cs k l)
unfolding g_sum key_sum
sum-whole ts cs zero l h b =
    ap (λ (x : Float). sum_over (rule_at One true (ts 0 l) true l) x (cs 0 l)) nought_is
    ∙ sum_last (ts 0 l) l 0 (cs 0 l) (omega (arith, h 0 l))
    ∙ ap (λ (n : ℕ). of_int binary64 (pos n)) (omega arith)
sum-whole ts cs (suc k) l h b =
    let y = key_sum cs k (suc l) in
    let t = bit_sum (suc l) (cs (suc k) l) in
    let p : 2 ^ k ≤ 2 ^ 40 = pow_mono {i = k} {j = 40} (omega arith) in
    let size = key-size cs k (suc l) h in
    ap (λ (x : Float). add binary64 (mul binary64 two x) (sum_over (rule_at One true (ts (suc k) l) false l) plus_zero (cs (suc k) l))) (sum-whole ts cs k (suc l) h (omega arith))
    ∙ ap (λ (x : Float). add binary64 (mul binary64 two (of_int binary64 y)) x)
    (ap (λ (x : Float). sum_over (rule_at One true (ts (suc k) l) false l) x (cs (suc k) l)) nought_is
    ∙ sum_signs (ts (suc k) l) l (pos 0) (cs (suc k) l) (omega (arith, h (suc k) l))
    ∙ ap (of_int binary64) (+ℤ_idl t))
    ∙ step-int y t (omega arith) (omega (arith, bits-size (suc l) (cs (suc k) l), h (suc k) l)) (omega (arith, double_size y))
