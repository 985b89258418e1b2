-- Readings item by item into a list: what is left to read, and where it goes. Assumes nothing.
use mathlib.Core.Path.{◌≡◌, refl, sym, ap, subst, ◌∙◌}
use mathlib.Core.Bool.{true, false, ◌&&◌}
use mathlib.Core.List.{List, [], ◌∷◌, ◌++◌, append_assoc}
use Prim.Native.Nat.{ℕ, zero, suc, ◌+◌, ◌-◌, ◌≤◌, ◌<◌}
use native.Mathlib.Omega.{arith}
use native.Mathlib.Numerals.{add-one}
use lib.Dec.{leb, ltb}
use lib.ListN.{length, replicate, length-append, length-replicate}
use lib.Seq.{sets, length-sets}
use borrow.Author.Tests.{le-leb, lt-ltb}
use Rattle.text.proofs.Puts.{sets_append}
use Rattle.state_forms.specs.Formats.{Got, got, bad, then_read}
use Rattle.state_forms.specs.Sparse.{Listing, sparse_r}
use Rattle.state_lines.specs.inner.Places.{forget}
use Rattle.state_forms.proofs.Exactness.{never_got, got_value, got_left, steps}

pub forget_then : {A B : Type 0} (g : Got A) (f : A → B) → forget (then_read g (λ a t. got (f a) t)) ≡ forget g
unfolding forget then_read
forget_then (got a t) f = refl
forget_then bad f = refl

module _ {A B : Type 0} (spread : List A → List B) where
  -- the values that are left, put from place i of l on, are those of the whole, put from place i₀ of l₀ on; n stand already
  pub record Values (l₀ : List B) (i₀ : ℕ) (here : Got (List A)) (l : List B) (i n : ℕ) (xs : List A) (t : List ℕ) : Type 0 where
    pub some : List A
    pub reads : here ≡ got some t
    pub put : sets l i (spread some) ≡ sets l₀ i₀ (spread xs)
    pub many : n + length some ≡ length xs

  pub record Walk (whole : Got (List A)) (l₀ : List B) (i₀ : ℕ) (here : Got (List A)) (l : List B) (i n : ℕ) : Type 0 where
    pub rest : forget here ≡ forget whole
    pub values : (xs : List A) (t : List ℕ) → whole ≡ got xs t → Values l₀ i₀ here l i n xs t
    pub long : length l ≡ length l₀

  pub walk_start : (g : Got (List A)) (l : List B) (i : ℕ) → Walk g l i g l i 0
  walk_start g l i = record { rest = refl; values = λ xs t e. record { some = xs; reads = e; put = refl; many = omega arith }; long = refl }

  module _ {whole : Got (List A)} {l₀ : List B} {i₀ : ℕ} {here : Got (List A)} {l : List B} {i n : ℕ} (g : Walk whole l₀ i₀ here l i n) where
    pub walk_bad : here ≡ bad → bad ≡ forget whole
    unfolding forget
    walk_bad e = sym (ap forget e) ∙ g.rest

    pub walk_never : here ≡ bad → (xs : List A) (t : List ℕ) → whole ≡ got xs t → ⊥
    walk_never e xs t q = let v = g.values xs t q in never_got (sym e ∙ v.reads)

    module _ (ys : List A) (s : List ℕ) (e : here ≡ got ys s) where
      pub walk_left : got tt s ≡ forget whole
      unfolding forget
      walk_left = sym (ap forget e) ∙ g.rest

      pub walk_put : (l' : List B) → l' ≡ sets l i (spread ys) → (xs : List A) (t : List ℕ) → whole ≡ got xs t → l' ≡ sets l₀ i₀ (spread xs)
      walk_put l' q xs t w = let v = g.values xs t w in q ∙ ap (λ (z : List A). sets l i (spread z)) (got_value (sym e ∙ v.reads)) ∙ v.put

      pub walk_many : (xs : List A) (t : List ℕ) → whole ≡ got xs t → n + length ys ≡ length xs
      walk_many xs t w = let v = g.values xs t w in ap (λ (z : List A). n + length z) (got_value (sym e ∙ v.reads)) ∙ v.many

    -- an item v, with what stands before it
    module _ (hom : (xs ys : List A) → spread (xs ++ ys) ≡ spread xs ++ spread ys) (front : List A) (v : A) (next : Got (List A)) (e : here ≡ then_read next (λ xs u. got (front ++ (v ∷ xs)) u)) where
      pub walk_on : (l' : List B) (i' n' : ℕ) → l' ≡ sets l i (spread (front ++ (v ∷ []))) → i' ≡ i + length (spread (front ++ (v ∷ []))) → n' ≡ n + suc (length front) → Walk whole l₀ i₀ next l' i' n'
      walk_on l' i' n' p q r =
          record {
            rest = sym (forget_then next (λ xs. front ++ (v ∷ xs))) ∙ sym (ap forget e) ∙ g.rest;
            values = λ xs t w. one xs t (g.values xs t w);
            long = ap length p ∙ length-sets l i (spread (front ++ (v ∷ []))) ∙ g.long;
          }
        where
          one : (xs : List A) (t : List ℕ) → Values l₀ i₀ here l i n xs t → Values l₀ i₀ next l' i' n' xs t
          one xs t d =
              let a = steps next (λ xs u. got (front ++ (v ∷ xs)) u) d.some t (sym e ∙ d.reads) in
              let z = spread (front ++ (v ∷ [])) in
              let h : spread (front ++ (v ∷ a.value)) ≡ z ++ spread a.value = ap spread (sym (append_assoc front (v ∷ []) a.value)) ∙ hom (front ++ (v ∷ [])) a.value in
              let y : sets l' i' (spread a.value) ≡ sets l i (spread (front ++ (v ∷ a.value))) = rw (p, q) (sets_append l i z (spread a.value)) ∙ ap (sets l i) (sym h) in
              let m = ap length (got_value a.next) in
              record {
                some = a.value;
                reads = a.first ∙ ap (got a.value) (got_left a.next);
                put = y ∙ ap (λ (w : List A). sets l i (spread w)) (got_value a.next) ∙ d.put;
                many = omega (arith, d.many, m, r, length-append front (v ∷ a.value));
              }

-- ---- items with their places

-- what a reading that stops shows
abbrev pub StopsBad : {A B : Type 0} → (List A → List B) → Got (List A) → List B → ℕ → List B → Type 0
StopsBad {A} spread whole l₀ i₀ l' = (bad ≡ forget whole) × ((xs : List A) (t : List ℕ) → whole ≡ got xs t → l' ≡ sets l₀ i₀ (spread xs))

module _ {A B : Type 0} (m : Listing A) (spread : List A → List B) where
  -- the items from place r up to e are left; some fuel bounds their number
  pub record Unread (whole : Got (List A)) (l₀ : List B) (i₀ : ℕ) (s : List ℕ) (e : ℕ) (l : List B) (i r : ℕ) : Type 0 where
    pub fuel : ℕ
    pub more : e - r < fuel
    pub walk : Walk spread whole l₀ i₀ (sparse_r m fuel r e s) l i r

  pub unread-start : (l : List B) (i : ℕ) (s : List ℕ) (e : ℕ) → Unread (sparse_r m (suc e) 0 e s) l i s e l i 0
  unread-start l i s e = record { fuel = suc e; more = omega arith; walk = walk_start spread (sparse_r m (suc e) 0 e s) l i }

  -- one turn
  module _ (f r e : ℕ) (s : List ℕ) where
    none-begins : m.begins s ≡ false → sparse_r m (suc f) r e s ≡ got (replicate (e - r) m.zero-value) s
    unfolding sparse_r
    none-begins b = rw b

    form_bad : m.begins s ≡ true → m.form.read s ≡ bad → sparse_r m (suc f) r e s ≡ bad
    unfolding sparse_r then_read
    form_bad b q = rw (b, q)

    place_out : (j : ℕ) (v : A) (t : List ℕ) → m.begins s ≡ true → m.form.read s ≡ got (j, v) t → leb r j && ltb j e ≡ false → sparse_r m (suc f) r e s ≡ bad
    unfolding sparse_r then_read
    place_out j v t b q n = rw (b, q, n)

    place_in : (j : ℕ) (v : A) (t : List ℕ) → m.begins s ≡ true → m.form.read s ≡ got (j, v) t → leb r j && ltb j e ≡ true
        → sparse_r m (suc f) r e s ≡ then_read (sparse_r m f (suc j) e t) (λ xs u. got (replicate (j - r) m.zero-value ++ (v ∷ xs)) u)
    unfolding sparse_r then_read
    place_in j v t b q n = rw (b, q, n)

  module _ {whole : Got (List A)} {l₀ : List B} {i₀ : ℕ} {s : List ℕ} {e : ℕ} {l : List B} {i r : ℕ} (g : Unread whole l₀ i₀ s e l i r) (h : r ≤ e) where
    -- the fuel is not used up
    some : (f : ℕ) × (g.fuel ≡ suc f)
    some = go g.fuel g.more
      where
        go : (n : ℕ) → e - r < n → (f : ℕ) × (n ≡ suc f)
        go zero k = absurd (omega arith)
        go (suc f) k = (f, refl)

    here : {a : Got (List A)} → sparse_r m (suc some.0) r e s ≡ a → sparse_r m g.fuel r e s ≡ a
    here q = ap (λ (n : ℕ). sparse_r m n r e s) some.1 ∙ q

    stop : sparse_r m (suc some.0) r e s ≡ bad → (l' : List B) → StopsBad spread whole l₀ i₀ l'
    stop q l' = (walk_bad spread g.walk (here q), λ xs t w. absurd (walk_never spread g.walk (here q) xs t w))

    pub unread-none : m.begins s ≡ false → (l' : List B) → l' ≡ sets l i (spread (replicate (e - r) m.zero-value))
        → (got tt s ≡ forget whole) × ((xs : List A) (t : List ℕ) → whole ≡ got xs t → l' ≡ sets l₀ i₀ (spread xs))
    unread-none b l' q =
        let ys = replicate (e - r) m.zero-value in
        let n = here (none-begins some.0 r e s b) in
        (walk_left spread g.walk ys s n, λ xs t w. walk_put spread g.walk ys s n l' q xs t w)

    pub unread_bad : m.begins s ≡ true → m.form.read s ≡ bad → (l' : List B) → StopsBad spread whole l₀ i₀ l'
    unread_bad b q l' = stop (form_bad some.0 r e s b q) l'

    pub unread-out : (j : ℕ) (v : A) (t : List ℕ) → m.begins s ≡ true → m.form.read s ≡ got (j, v) t → leb r j && ltb j e ≡ false → (l' : List B) → StopsBad spread whole l₀ i₀ l'
    unread-out j v t b q n l' = stop (place_out some.0 r e s j v t b q n) l'

    pub unread_on : ((xs ys : List A) → spread (xs ++ ys) ≡ spread xs ++ spread ys) → (j : ℕ) (v : A) (t : List ℕ) → m.begins s ≡ true → m.form.read s ≡ got (j, v) t → r ≤ j → j < e
        → (l' : List B) (i' : ℕ) → l' ≡ sets l i (spread (replicate (j - r) m.zero-value ++ (v ∷ []))) → i' ≡ i + length (spread (replicate (j - r) m.zero-value ++ (v ∷ []))) → Unread whole l₀ i₀ t e l' i' (j + 1)
    unread_on hom j v t b q lo hi l' i' p k =
        let n : leb r j && ltb j e ≡ true = rw (le-leb r j lo, lt-ltb j e hi) in
        record {
          fuel = some.0;
          more = omega (arith, some.1, g.more, lo, hi);
          walk = subst (λ (x : ℕ). Walk spread whole l₀ i₀ (sparse_r m some.0 x e t) l' i' (j + 1)) (sym (add-one j))
              (walk_on spread g.walk hom (replicate (j - r) m.zero-value) v (sparse_r m some.0 (suc j) e t) (here (place_in some.0 r e s j v t b q n)) l' i' (j + 1) p k (omega (arith, length-replicate (j - r) m.zero-value, lo)));
        }
