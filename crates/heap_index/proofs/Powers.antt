-- A number that has no binary digit in common with the one before it is a power of two, so that a mask gives the remainder. Assumes nothing.
use mathlib.Core.Path.{◌≡◌, sym, ap, ◌∙◌, subst}
use Prim.Native.Nat.{ℕ, suc, ◌-◌, ◌*◌, ◌/◌, ◌%◌, ◌^◌, ◌<◌}
use native.Mathlib.Omega.{arith}
use native.Mathlib.Nat.{pow-suc}
use native.Mathlib.Decide.{ℕ_discrete}
use lib.Arith.{bin_ind}
use lib.Bits.{bit_and, and_step, and_self, and_mask}

-- m is two to some power
pub record PowerOfTwo (m : ℕ) : Type 0 where
  pub power : ℕ
  pub is : m ≡ 2 ^ power

-- the double of a power
twice : (m : ℕ) → m % 2 ≡ 0 → PowerOfTwo (m / 2) → PowerOfTwo m
twice m e h =
    let d : m ≡ m / 2 * 2 = omega (arith, e) in
    record { power = suc h.power; is = d ∙ ap (λ (x : ℕ). x * 2) h.is ∙ sym (pow-suc 2 h.power) }

-- an even number's half has no digit in common with the one before it either
even_half : (m : ℕ) → 0 < m → m % 2 ≡ 0 → bit_and m (m - 1) ≡ 0 → bit_and (m / 2) (m / 2 - 1) ≡ 0
even_half m z e h =
    let half : (m - 1) / 2 ≡ m / 2 - 1 = omega (arith, z, e) in
    let step = and_step m (m - 1) in
    let all : bit_and (m / 2) ((m - 1) / 2) ≡ 0 = omega (arith, step, h) in
    ap (bit_and (m / 2)) (sym half) ∙ all

-- an odd number has the digits of its half in common with it, so the half is 0
odd_one : (m : ℕ) → m % 2 ≡ 1 → bit_and m (m - 1) ≡ 0 → m ≡ 1
odd_one m e h =
    let half : (m - 1) / 2 ≡ m / 2 = omega (arith, e) in
    let step = and_step m (m - 1) in
    let all : bit_and (m / 2) ((m - 1) / 2) ≡ 0 = omega (arith, step, h) in
    let none : m / 2 ≡ 0 = sym (and_self (m / 2)) ∙ ap (bit_and (m / 2)) (sym half) ∙ all in
    omega (arith, none, e)

pub power_of : (m : ℕ) → 0 < m → bit_and m (m - 1) ≡ 0 → PowerOfTwo m
power_of = bin_ind (λ (m : ℕ). 0 < m → bit_and m (m - 1) ≡ 0 → PowerOfTwo m) (λ z h. absurd (omega (arith, z))) (λ m ih z h. go m ih z h (ℕ_discrete (m % 2) 0))
  where
    go : (m : ℕ) → (0 < m / 2 → bit_and (m / 2) (m / 2 - 1) ≡ 0 → PowerOfTwo (m / 2)) → 0 < m → bit_and m (m - 1) ≡ 0 → Dec (m % 2 ≡ 0) → PowerOfTwo m
    go m ih z h (yes e) = twice m e (ih (omega (arith, z, e)) (even_half m z e h))
    go m ih z h (no e) = record { power = 0; is = odd_one m (omega (arith, e)) h }

-- the rest of a division by such a number
pub mask_rest : (m k : ℕ) → 0 < m → bit_and m (m - 1) ≡ 0 → bit_and k (m - 1) ≡ k % m
mask_rest m k z h = let p = power_of m z h in subst (λ (x : ℕ). bit_and k (x - 1) ≡ k % x) (sym p.is) (and_mask k p.power)
