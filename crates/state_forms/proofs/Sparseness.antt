-- Lists of which only some values are written are read back exactly. Assumes nothing.
use mathlib.Core.Path.{◌≡◌, refl, sym, ap, subst, ◌∙◌}
use mathlib.Core.Bool.{Bool, true, false, cond, ◌&&◌}
use mathlib.Core.List.{List, [], ◌∷◌, ◌++◌, append_assoc}
use Prim.Native.Nat.{ℕ, zero, suc, ◌+◌, ◌-◌, ◌≤◌, ◌<◌}
use lib.Dec.{leb, ltb}
use lib.ListN.{length, replicate, length-append, length-replicate}
use native.Mathlib.Omega.{arith}
use borrow.Author.Tests.{le-leb, lt-ltb, leb-true, ltb-true}
use Rattle.words.proofs.Bools.{and_left, and_right}
use Rattle.words.specs.Lists.{All}
use Rattle.words.proofs.Lists.{all_append}
use Rattle.text.specs.Decimals.{Word}
use Rattle.state_forms.specs.Formats.{Got, got, bad, then_read}
use Rattle.state_forms.specs.inner.Exact.{Exact, Any}
use Rattle.state_forms.specs.Sparse.{Listing, sparse_text, sparse_r}
use Rattle.state_forms.proofs.Exactness.{never_got, got_value, got_left, steps, goes_on}

-- what a listing has to be: exact, seen at the start of a text, and left out only where the value is the one zero
pub record Lawful {A : Type 0} (m : Listing A) (Good : A → Type 0) : Type 0 where
  pub exact : Exact Any m.form
  pub inward : (j : ℕ) (a : A) → Word j → Good a → m.none a ≡ false → m.form.In (j, a)
  pub outward : (j : ℕ) (a : A) → m.form.In (j, a) → Good a × (m.none a ≡ false)
  pub seen : (j : ℕ) (a : A) (t : List ℕ) → m.begins (m.form.write (j, a) ++ t) ≡ true
  pub only_zero : (a : A) → Good a → m.none a ≡ true → a ≡ m.zero-value
  pub zero-none : m.none m.zero-value ≡ true
  pub zero_good : Good m.zero-value

-- a test that held
taken : {A : Type 0} (c : Bool) (g : Got A) (a : A) (t : List ℕ) → cond c g bad ≡ got a t → (c ≡ true) × (g ≡ got a t)
taken true g a t e = (refl, e)
taken false g a t e = absurd (never_got e)

module _ {A : Type 0} (m : Listing A) (Good : A → Type 0) (w : Lawful m Good) where
  -- one value and the rest
  after_one : ℕ → ℕ → ℕ → ℕ × A → List ℕ → Got (List A)
  after_one f i e p t =
      cond (leb i p.0 && ltb p.0 e)
      (then_read (sparse_r m f (suc p.0) e t) (λ xs u. got (replicate (p.0 - i) m.zero-value ++ (p.1 ∷ xs)) u))
      bad

  one-step : (f i e : ℕ) (s : List ℕ) → sparse_r m (suc f) i e s ≡ cond (m.begins s) (then_read (m.form.read s) (after_one f i e)) (got (replicate (e - i) m.zero-value) s)
  unfolding sparse_r after_one
  one-step f i e s = refl

  -- what was read of one value and the rest
  record ReadOne (f i e : ℕ) (s : List ℕ) (xs : List A) (t : List ℕ) : Type 0 where
    place : ℕ
    value : A
    left : List ℕ
    rest : List A
    read : m.form.read s ≡ got (place, value) left
    low : i ≤ place
    high : place < e
    then_rest : sparse_r m f (suc place) e left ≡ got rest t
    whole : replicate (place - i) m.zero-value ++ (value ∷ rest) ≡ xs

  one_of : (f i e : ℕ) (s : List ℕ) (xs : List A) (t : List ℕ) → then_read (m.form.read s) (after_one f i e) ≡ got xs t → ReadOne f i e s xs t
  unfolding after_one
  one_of f i e s xs t q =
      let a = steps (m.form.read s) (after_one f i e) xs t q in
      let j = a.value.0 in
      let b = taken (leb i j && ltb j e) _ xs t a.next in
      let c = steps (sparse_r m f (suc j) e a.left) _ xs t b.1 in
      record {
        place = j;
        value = a.value.1;
        left = a.left;
        rest = c.value;
        read = a.first;
        low = leb-true i j (and_left (leb i j) (ltb j e) b.0);
        high = ltb-true j e (and_right (leb i j) (ltb j e) b.0);
        then_rest = c.first ∙ ap (got c.value) (got_left c.next);
        whole = got_value c.next;
      }

  -- and back
  one_is : (f i e : ℕ) (s : List ℕ) (xs : List A) (t : List ℕ) → ReadOne f i e s xs t → then_read (m.form.read s) (after_one f i e) ≡ got xs t
  unfolding after_one
  one_is f i e s xs t q =
      goes_on (m.form.read s) (after_one f i e) (q.place, q.value) q.left q.read
      ∙ rw (le-leb i q.place q.low, lt-ltb q.place e q.high)
      (goes_on (sparse_r m f (suc q.place) e q.left) _ q.rest t q.then_rest ∙ ap (λ (z : List A). got z t) q.whole)

  zeros_more : (k n : ℕ) → k ≡ suc n → replicate k m.zero-value ≡ m.zero-value ∷ replicate n m.zero-value
  zeros_more k n e = rw e

  -- a place that is left out before what was read
  pub one_more : (f i e : ℕ) (s : List ℕ) (xs : List A) (t : List ℕ) → i < e → sparse_r m f (suc i) e s ≡ got xs t → sparse_r m f i e s ≡ got (m.zero-value ∷ xs) t
  unfolding sparse_r
  one_more zero i e s xs t h q = absurd (never_got q)
  one_more (suc f) i e s xs t h q = rw (one-step f i e s) (go (m.begins s) refl (sym (one-step f (suc i) e s) ∙ q))
    where
      go : (b : Bool) → m.begins s ≡ b → cond (m.begins s) (then_read (m.form.read s) (after_one f (suc i) e)) (got (replicate (e - suc i) m.zero-value) s) ≡ got xs t
          → cond (m.begins s) (then_read (m.form.read s) (after_one f i e)) (got (replicate (e - i) m.zero-value) s) ≡ got (m.zero-value ∷ xs) t
      go true p r =
          let o = one_of f (suc i) e s xs t (rw p at r) in
          let k : o.place - i ≡ suc (o.place - suc i) = omega (arith, o.low) in
          rw p
          (one_is f i e s (m.zero-value ∷ xs) t
          (record {
            place = o.place;
            value = o.value;
            left = o.left;
            rest = o.rest;
            read = o.read;
            low = omega (arith, o.low);
            high = o.high;
            then_rest = o.then_rest;
            whole = rw (zeros_more (o.place - i) (o.place - suc i) k) (ap (λ (z : List A). m.zero-value ∷ z) o.whole);
          }))
      go false p r =
          let k : e - i ≡ suc (e - suc i) = omega arith in
          let r' : got (replicate (e - suc i) m.zero-value) s ≡ got xs t = rw p at r in
          rw (p, zeros_more (e - i) (e - suc i) k, got_value r', got_left r')

  -- ---- written, then read

  pub sparse_reads : (f i : ℕ) (xs : List A) (t : List ℕ) → All Good xs → m.begins t ≡ false → Word (i + length xs) → length xs < f → sparse_r m f i (i + length xs) (sparse_text m i xs ++ t) ≡ got xs t
  unfolding sparse_text
  sparse_reads zero i xs t g n k h = absurd (omega arith)
  sparse_reads (suc f) i [] t g n k h = let z : i + 0 - i ≡ 0 = omega arith in rw (one-step f i (i + 0) t, n, z)
  sparse_reads (suc f) i (x ∷ xs) t g n k h = go (m.none x) refl (sparse_reads (suc f) (suc i) xs t g.1 n (omega arith) (omega arith)) (sparse_reads f (suc i) xs t g.1 n (omega arith) (omega arith))
    where
      e : ℕ
      e = i + suc (length xs)

      same : suc i + length xs ≡ i + suc (length xs)
      same = omega arith

      go : (b : Bool) → m.none x ≡ b → sparse_r m (suc f) (suc i) (suc i + length xs) (sparse_text m (suc i) xs ++ t) ≡ got xs t → sparse_r m f (suc i) (suc i + length xs) (sparse_text m (suc i) xs ++ t) ≡ got xs t
          → sparse_r m (suc f) i (i + suc (length xs)) (cond (m.none x) (sparse_text m (suc i) xs) (m.form.write (i, x) ++ sparse_text m (suc i) xs) ++ t) ≡ got (x ∷ xs) t
      go true p r r' = rw p (one_more (suc f) i (i + suc (length xs)) (sparse_text m (suc i) xs ++ t) xs t (omega arith) (rw same at r) ∙ ap (λ (z : A). got (z ∷ xs) t) (sym (w.only_zero x g.0 p)))
      go false p r r' =
          let z : i - i ≡ 0 = omega arith in
          rw (p, append_assoc, one-step f i (i + suc (length xs)) (m.form.write (i, x) ++ (sparse_text m (suc i) xs ++ t)), w.seen i x (sparse_text m (suc i) xs ++ t))
          (one_is f i (i + suc (length xs)) (m.form.write (i, x) ++ (sparse_text m (suc i) xs ++ t)) (x ∷ xs) t
          (record {
            place = i;
            value = x;
            left = sparse_text m (suc i) xs ++ t;
            rest = xs;
            read = w.exact.reads (i, x) (sparse_text m (suc i) xs ++ t) (w.inward i x (omega arith) g.0 p) tt;
            low = omega arith;
            high = omega arith;
            then_rest = rw same at r';
            whole = rw z;
          }))

  -- ---- read, hence written

  text-skip : (k i : ℕ) (ys : List A) → sparse_text m i (replicate k m.zero-value ++ ys) ≡ sparse_text m (i + k) ys
  unfolding sparse_text
  text-skip zero i ys = let z : i + 0 ≡ i = omega arith in rw z
  text-skip (suc k) i ys = let z : i + suc k ≡ suc i + k = omega arith in rw (w.zero-none, z) (text-skip k (suc i) ys)

  text_zeros : (k i : ℕ) → sparse_text m i (replicate k m.zero-value) ≡ []
  unfolding sparse_text
  text_zeros zero i = refl
  text_zeros (suc k) i = rw w.zero-none (text_zeros k (suc i))

  all_zeros : (k : ℕ) → All Good (replicate k m.zero-value)
  all_zeros zero = tt
  all_zeros (suc k) = (w.zero_good, all_zeros k)

  text-one : (i j : ℕ) (a : A) (ys : List A) → i ≤ j → m.none a ≡ false → sparse_text m i (replicate (j - i) m.zero-value ++ (a ∷ ys)) ≡ m.form.write (j, a) ++ sparse_text m (suc j) ys
  unfolding sparse_text
  text-one i j a ys h n = let z : i + (j - i) ≡ j = omega arith in text-skip (j - i) i (a ∷ ys) ∙ rw (z, n)

  pub record Sparse (i e : ℕ) (s : List ℕ) (xs : List A) (t : List ℕ) : Type 0 where
    pub long : length xs ≡ e - i
    pub good : All Good xs
    pub text : s ≡ sparse_text m i xs ++ t

  pub sparse_sound : (f i e : ℕ) (s : List ℕ) (xs : List A) (t : List ℕ) → i ≤ e → sparse_r m f i e s ≡ got xs t → Sparse i e s xs t
  unfolding sparse_r
  sparse_sound zero i e s xs t h q = absurd (never_got q)
  sparse_sound (suc f) i e s xs t h q = go (m.begins s) refl (sym (one-step f i e s) ∙ q) (sparse_sound f)
    where
      go : (b : Bool) → m.begins s ≡ b → cond (m.begins s) (then_read (m.form.read s) (after_one f i e)) (got (replicate (e - i) m.zero-value) s) ≡ got xs t
          → ((i' e' : ℕ) (s' : List ℕ) (xs' : List A) (t' : List ℕ) → i' ≤ e' → sparse_r m f i' e' s' ≡ got xs' t' → Sparse i' e' s' xs' t') → Sparse i e s xs t
      go true p r ih =
          let o = one_of f i e s xs t (rw p at r) in
          let j = o.place in
          let v = w.exact.sound s (j, o.value) o.left o.read in
          let u = w.outward j o.value v.0 in
          let d = ih (suc j) e o.left o.rest t o.high o.then_rest in
          let l : length xs ≡ (j - i) + suc (length o.rest) = ap length (sym o.whole) ∙ length-append (replicate (j - i) m.zero-value) (o.value ∷ o.rest) ∙ rw (length-replicate (j - i) m.zero-value) in
          let x : sparse_text m i xs ≡ m.form.write (j, o.value) ++ sparse_text m (suc j) o.rest = ap (sparse_text m i) (sym o.whole) ∙ text-one i j o.value o.rest o.low u.1 in
          record {
            long = omega (arith, l, d.long, o.low, o.high);
            good = subst (All Good) o.whole (all_append Good (replicate (j - i) m.zero-value) (o.value ∷ o.rest) (all_zeros (j - i)) (u.0, d.good));
            text = v.1 ∙ ap (λ (z : List ℕ). m.form.write (j, o.value) ++ z) d.text ∙ sym (append_assoc (m.form.write (j, o.value)) (sparse_text m (suc j) o.rest) t) ∙ ap (λ (z : List ℕ). z ++ t) (sym x);
          }
      go false p r ih =
          let r' : got (replicate (e - i) m.zero-value) s ≡ got xs t = rw p at r in
          let v = got_value r' in
          record {
            long = ap length (sym v) ∙ length-replicate (e - i) m.zero-value;
            good = subst (All Good) v (all_zeros (e - i));
            text = got_left r' ∙ ap (λ (z : List ℕ). z ++ t) (sym (text_zeros (e - i) i) ∙ ap (sparse_text m i) v);
          }
