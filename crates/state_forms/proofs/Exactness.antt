-- Formats that are put together from exact ones are exact. Assumes nothing.
use mathlib.Core.Path.{◌≡◌, refl, sym, ap, subst, ◌∙◌}
use mathlib.Core.Bool.{Bool, true, false, cond}
use mathlib.Core.List.{List, [], ◌∷◌, ◌++◌, append_assoc}
use Prim.Native.Nat.{ℕ}
use lib.Dec.{eqb}
use native.Mathlib.Omega.{arith}
use borrow.Author.Tests.{eq-eqb, eqb-true}
use Rattle.text.specs.Decimals.{dec, Word}
use Rattle.state_forms.specs.Formats.{Got, got, bad, then_read, Format, num, this, pair, after, before, such, via}
use Rattle.state_forms.specs.inner.Exact.{Exact, Any}

pub got_value : {A : Type 0} {a b : A} {t u : List ℕ} → got a t ≡ got b u → a ≡ b
got_value e = cc

pub got_left : {A : Type 0} {a b : A} {t u : List ℕ} → got a t ≡ got b u → t ≡ u
got_left e = cc

pub never_got : {A : Type 0} {a : A} {t : List ℕ} → bad ≡ got a t → ⊥
never_got e = let z : ◌≡◌ {A = ℕ} 0 1 = cc in omega arith

-- a reading in two steps
pub record Steps {A B : Type 0} (g : Got A) (f : A → List ℕ → Got B) (b : B) (u : List ℕ) : Type 0 where
  pub value : A
  pub left : List ℕ
  pub first : g ≡ got value left
  pub next : f value left ≡ got b u

pub steps : {A B : Type 0} (g : Got A) (f : A → List ℕ → Got B) (b : B) (u : List ℕ) → then_read g f ≡ got b u → Steps g f b u
unfolding then_read
steps (got a t) f b u e = record { value = a; left = t; first = refl; next = e }
steps bad f b u e = absurd (never_got e)

pub goes_on : {A B : Type 0} (g : Got A) (f : A → List ℕ → Got B) (a : A) (t : List ℕ) → g ≡ got a t → then_read g f ≡ f a t
unfolding then_read
goes_on g f a t e = rw e

-- a value that passed a test
pub tested : {A : Type 0} (c : Bool) (a b : A) (t u : List ℕ) → cond c (got a t) bad ≡ got b u → (c ≡ true) × (got a t ≡ got b u)
tested true a b t u e = (refl, e)
tested false a b t u e = absurd (never_got e)

module _ {A B : Type 0} {P Q : List ℕ → Type 0} (f : Format A) (g : Format B) (x : Exact P f) (y : Exact Q g) where
  -- what comes after the second may come after the first and the second
  pub pair-exact : ((b : B) (t : List ℕ) → g.In b → Q t → P (g.write b ++ t)) → Exact Q (pair f g)
  pair-exact link = record { reads = r; sound = k }
    where
      r : (p : A × B) (t : List ℕ) → (pair f g).In p → Q t → (pair f g).read ((pair f g).write p ++ t) ≡ got p t
      r p t i q =
          rw append_assoc
          (goes_on (f.read (f.write p.0 ++ (g.write p.1 ++ t))) _ p.0 (g.write p.1 ++ t) (x.reads p.0 (g.write p.1 ++ t) i.0 (link p.1 t i.1 q))
          ∙ goes_on (g.read (g.write p.1 ++ t)) _ p.1 t (y.reads p.1 t i.1 q))

      k : (s : List ℕ) (p : A × B) (t : List ℕ) → (pair f g).read s ≡ got p t → (pair f g).In p × (s ≡ (pair f g).write p ++ t)
      k s p t e =
          let m = steps (f.read s) _ p t e in
          let n = steps (g.read m.left) _ p t m.next in
          let v = x.sound s m.value m.left m.first in
          let w = y.sound m.left n.value n.left n.first in
          subst (λ (z : A × B). (pair f g).In z × (s ≡ (pair f g).write z ++ t)) (got_value n.next)
          ((v.0, w.0), v.1 ∙ ap (λ (z : List ℕ). f.write m.value ++ z) (w.1 ∙ ap (λ (z : List ℕ). g.write n.value ++ z) (got_left n.next)) ∙ sym (append_assoc (f.write m.value) (g.write n.value) t))

module _ {B : Type 0} {Q : List ℕ → Type 0} (f : Format (Unit {0})) (g : Format B) (x : Exact Any f) (y : Exact Q g) (here : f.In tt) where
  pub after-exact : Exact Q (after f g)
  after-exact = record { reads = r; sound = k }
    where
      r : (b : B) (t : List ℕ) → g.In b → Q t → (after f g).read ((after f g).write b ++ t) ≡ got b t
      r b t i q = rw append_assoc (goes_on (f.read (f.write tt ++ (g.write b ++ t))) _ tt (g.write b ++ t) (x.reads tt (g.write b ++ t) here tt) ∙ y.reads b t i q)

      k : (s : List ℕ) (b : B) (t : List ℕ) → (after f g).read s ≡ got b t → g.In b × (s ≡ (after f g).write b ++ t)
      k s b t e =
          let m = steps (f.read s) _ b t e in
          let v = x.sound s m.value m.left m.first in
          let w = y.sound m.left b t m.next in
          (w.0, v.1 ∙ ap (λ (z : List ℕ). f.write tt ++ z) w.1 ∙ sym (append_assoc (f.write tt) (g.write b) t))

module _ {A : Type 0} (f : Format A) (g : Format (Unit {0})) (x : Exact Any f) (y : Exact Any g) (here : g.In tt) where
  pub before-exact : Exact Any (before f g)
  before-exact = record { reads = r; sound = k }
    where
      r : (a : A) (t : List ℕ) → f.In a → Any t → (before f g).read ((before f g).write a ++ t) ≡ got a t
      r a t i q =
          rw append_assoc
          (goes_on (f.read (f.write a ++ (g.write tt ++ t))) _ a (g.write tt ++ t) (x.reads a (g.write tt ++ t) i tt)
          ∙ goes_on (g.read (g.write tt ++ t)) _ tt t (y.reads tt t here tt))

      k : (s : List ℕ) (a : A) (t : List ℕ) → (before f g).read s ≡ got a t → f.In a × (s ≡ (before f g).write a ++ t)
      k s a t e =
          let m = steps (f.read s) _ a t e in
          let n = steps (g.read m.left) _ a t m.next in
          let v = x.sound s m.value m.left m.first in
          let w = y.sound m.left n.value n.left n.first in
          subst (λ (z : A). f.In z × (s ≡ (before f g).write z ++ t)) (got_value n.next)
          (v.0, v.1 ∙ ap (λ (z : List ℕ). f.write m.value ++ z) (w.1 ∙ ap (λ (z : List ℕ). g.write tt ++ z) (got_left n.next)) ∙ sym (append_assoc (f.write m.value) (g.write tt) t))

module _ {A : Type 0} {Q : List ℕ → Type 0} (p : A → Bool) (f : Format A) (x : Exact Q f) where
  pub such-exact : Exact Q (such p f)
  such-exact = record { reads = r; sound = k }
    where
      r : (a : A) (t : List ℕ) → (such p f).In a → Q t → (such p f).read (f.write a ++ t) ≡ got a t
      r a t i q = goes_on (f.read (f.write a ++ t)) _ a t (x.reads a t i.0 q) ∙ rw i.1

      k : (s : List ℕ) (a : A) (t : List ℕ) → (such p f).read s ≡ got a t → (such p f).In a × (s ≡ f.write a ++ t)
      k s a t e =
          let m = steps (f.read s) _ a t e in
          let v = x.sound s m.value m.left m.first in
          let o = tested (p m.value) m.value a m.left t m.next in
          subst (λ (z : A). (such p f).In z × (s ≡ f.write z ++ t)) (got_value o.1) ((v.0, o.0), v.1 ∙ ap (λ (z : List ℕ). f.write m.value ++ z) (got_left o.1))

module _ {A B : Type 0} {Q : List ℕ → Type 0} (to : A → B) (from : B → A) (f : Format A) (x : Exact Q f) where
  pub via-exact : ((b : B) → to (from b) ≡ b) → ((a : A) → f.In a → from (to a) ≡ a) → Exact Q (via to from f)
  via-exact there back = record { reads = r; sound = k }
    where
      r : (b : B) (t : List ℕ) → f.In (from b) → Q t → (via to from f).read (f.write (from b) ++ t) ≡ got b t
      r b t i q = goes_on (f.read (f.write (from b) ++ t)) _ (from b) t (x.reads (from b) t i q) ∙ ap (λ (z : B). got z t) (there b)

      k : (s : List ℕ) (b : B) (t : List ℕ) → (via to from f).read s ≡ got b t → f.In (from b) × (s ≡ f.write (from b) ++ t)
      k s b t e =
          let m = steps (f.read s) _ b t e in
          let v = x.sound s m.value m.left m.first in
          let q : m.value ≡ from b = sym (back m.value v.0) ∙ ap from (got_value m.next) in
          subst (λ (z : A). f.In z × (s ≡ f.write z ++ t)) q (v.0, v.1 ∙ ap (λ (z : List ℕ). f.write m.value ++ z) (got_left m.next))

-- one number alone
pub this-exact : (n stop : ℕ) → Exact Any (num stop) → Exact Any (this n stop)
this-exact n stop x = record { reads = r; sound = k }
  where
    r : (a : Unit {0}) (t : List ℕ) → Word n → Any t → (this n stop).read ((dec n ++ (stop ∷ [])) ++ t) ≡ got tt t
    r a t i q = goes_on ((num stop).read ((dec n ++ (stop ∷ [])) ++ t)) _ n t (x.reads n t i tt) ∙ rw (eq-eqb n n refl)

    k : (s : List ℕ) (a : Unit {0}) (t : List ℕ) → (this n stop).read s ≡ got a t → Word n × (s ≡ (dec n ++ (stop ∷ [])) ++ t)
    k s a t e =
        let m = steps ((num stop).read s) _ a t e in
        let v = x.sound s m.value m.left m.first in
        let o = tested (eqb m.value n) tt a m.left t m.next in
        subst (λ (z : ℕ). Word z × (s ≡ (dec z ++ (stop ∷ [])) ++ t)) (eqb-true m.value n o.0) (v.0, v.1 ∙ ap (λ (z : List ℕ). (dec m.value ++ (stop ∷ [])) ++ z) (got_left o.1))
