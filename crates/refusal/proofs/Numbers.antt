-- Numbers of refusals. Assumes nothing.
use Rattle.std.proofs.Common.{◌≡◌, ℕ, Result, Ok, Err, true, false, cond, is_ok, eqb, refl, sym, ap, arith}
use Rattle.refusal.specs.declared.Refusal.{Refusal}
use Rattle.refusal.specs.declared.Refusal.TheVariants as refusal
use borrow.Author.Tests.{ne_eqb}
use Rattle.refusal.specs.Refusals.{number_of, refused}

-- no refusal has the number 0, which stands for none
pub number-ne0 : (e : Refusal) → number_of e ≡ 0 → ⊥
number-ne0 refusal.ZeroDimension h = omega (arith, h)
number-ne0 refusal.TooManyLayers h = omega (arith, h)
number-ne0 refusal.TooManyHashBits h = omega (arith, h)
number-ne0 refusal.AboveDomain h = omega (arith, h)
number-ne0 refusal.NegativeWeight h = omega (arith, h)
number-ne0 refusal.MixedModes h = omega (arith, h)
number-ne0 refusal.WeightAbove h = omega (arith, h)
number-ne0 refusal.OutsideShape h = omega (arith, h)
number-ne0 refusal.OutOfRange h = omega (arith, h)
number-ne0 refusal.ShapesDiffer h = omega (arith, h)
number-ne0 refusal.CounterAbove h = omega (arith, h)
number-ne0 refusal.RecordLength h = omega (arith, h)
number-ne0 refusal.Unreadable h = omega (arith, h)
number-ne0 refusal.UpdatesAbove h = omega (arith, h)
number-ne0 refusal.NotAText h = omega (arith, h)
number-ne0 refusal.TooShort h = omega (arith, h)

apart : true ≡ false → ⊥
apart h = let n : ◌≡◌ {A = ℕ} 1 0 = ap (λ b. cond b 1 0) h in absurd (omega (arith, n))

-- whether an answer is accepted, by its number
pub ok_is : {A : Type 0} (r : Result A Refusal) → is_ok r ≡ eqb (refused r) 0
ok_is (Ok a) = refl
ok_is (Err e) = sym (ne_eqb (number_of e) 0 (number-ne0 e))

pub ok_refused : {A : Type 0} (r : Result A Refusal) → is_ok r ≡ true → refused r ≡ 0
ok_refused (Ok a) h = refl
ok_refused (Err e) h = absurd (apart (sym h))

pub err_refused : {A : Type 0} (r : Result A Refusal) → is_ok r ≡ false → refused r ≡ 0 → ⊥
err_refused (Ok a) h = absurd (apart h)
err_refused (Err e) h = number-ne0 e
