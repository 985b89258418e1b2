-- A test that goes place by place is what `all` finds of the places. Assumes nothing.
use Rattle.std.proofs.Common.{◌≡◌, ℕ, zero, suc, ◌+◌, Bool, true, ◌&&◌, sym, ◌∙◌, ap, add-one}
use Rattle.std.specs.List.{range_with_len, list_all}

-- f k i tests k places from i on, t one of them
pub walked : (f : ℕ → ℕ → Bool) (t : ℕ → Bool) → ((k i : ℕ) → f (suc k) i ≡ t i && f k (suc i)) → ((i : ℕ) → f 0 i ≡ true) → (n i : ℕ) → list_all t (range_with_len i n) ≡ f n i
walked f t step none zero i = sym (none i)
walked f t step none (suc n) i = ap (λ (b : Bool). t i && b) (walked f t step none n (i + 1) ∙ ap (f n) (add-one i)) ∙ sym (step n i)
