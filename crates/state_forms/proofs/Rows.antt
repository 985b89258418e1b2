-- The counters of a row, a row's line and all rows of a layer, written and read back exactly. Assumes nothing.
use mathlib.Core.Path.{◌≡◌, refl, sym, ap, subst, ◌∙◌}
use mathlib.Core.Bool.{Bool, true, false, cond, not, ◌&&◌}
use mathlib.Core.List.{List, [], ◌∷◌, ◌++◌, append_assoc}
use Prim.Native.Nat.{ℕ, zero, suc, ◌+◌}
use lib.IntN.{ℤ, pos, negsuc}
use lib.ListN.{length, replicate, length-replicate}
use native.Mathlib.Omega.{arith}
use borrow.Author.Tests.{leb-true, not-true}
use Rattle.words.specs.Num.{top, in_range}
use Rattle.words.proofs.Bools.{never, and_left, and_right, both}
use Rattle.words.specs.Lists.{All}
use Rattle.text.specs.Words.{bytes_of, is_prefix}
use Rattle.text.specs.Decimals.{dec, Word, is_digit}
use Rattle.text.specs.Signs.{SignedWord}
use Rattle.state_forms.proofs.Zeros.{zero_is}
use Rattle.state_forms.specs.Formats.{got, word_r, num_r, lit, num, int, this, pair, after}
use Rattle.state_forms.specs.inner.Exact.{Exact, Any}
use Rattle.state_forms.specs.Sparse.{sparse_text, sparse_r}
use Rattle.state_forms.specs.Grammar.{line_end, is_zero, all_zero, cell_format, cell_listing, RowIn, row_rest, row_format, row_listing, rows_format}
use Rattle.state_forms.proofs.Exactness.{got_value, got_left, steps, goes_on, pair-exact, after-exact, such-exact, this-exact}
use Rattle.state_forms.proofs.Numbers.{lit-exact, num-exact, int-exact, num-back, num_only}
use Rattle.state_forms.proofs.Sparseness.{Lawful, sparse_reads, sparse_sound}

pub space-stops : is_digit 32 ≡ false
unfolding is_digit
space-stops = refl

pub bracket_stops : is_digit 41 ≡ false
unfolding is_digit
bracket_stops = refl

-- ---- ` (C V)`

abbrev pub InR : ℤ → Type 0
InR z = in_range z ≡ true

pub cell-exact : Exact Any cell_format
cell-exact =
    such-exact (λ p. not (is_zero p.1) && in_range p.1) (after (lit (bytes_of " (")) (pair (num 32) (int 41)))
    (after-exact (lit (bytes_of " (")) (pair (num 32) (int 41)) (lit-exact (bytes_of " (")) (pair-exact (num 32) (int 41) (num-exact 32 space-stops) (int-exact 41 bracket_stops) (λ b t i q. tt)) tt)

pub word_of : (z : ℤ) → InR z → SignedWord z
unfolding in_range
word_of (pos n) e = omega (arith, leb-true n top e)
word_of (negsuc n) e = omega (arith, leb-true (suc n) top e)

pub cells_lawful : Lawful cell_listing InR
unfolding is_prefix is_zero in_range
cells_lawful =
    record {
      exact = cell-exact;
      inward = λ j a k g n. ((k, word_of a g), both (ap not n) g);
      outward = λ j a h. (and_right (not (is_zero a)) (in_range a) h.1, not-true (is_zero a) (and_left (not (is_zero a)) (in_range a) h.1));
      seen = λ j a t. refl;
      only_zero = λ a g e. zero_is a e;
      zero-none = refl;
      zero_good = refl;
    }

-- ---- `(row I R (C V) (C V))`

-- the text of counters that are not all zero begins with a space
headed : (i : ℕ) (xs : List ℤ) → all_zero xs ≡ false → (q : List ℕ) × (sparse_text cell_listing i xs ≡ 32 ∷ q)
unfolding all_zero sparse_text
headed i [] e = absurd (never (sym e))
headed i (x ∷ xs) e = go (is_zero x) e (headed (suc i) xs)
  where
    go : (b : Bool) → b && all_zero xs ≡ false → (all_zero xs ≡ false → (q : List ℕ) × (sparse_text cell_listing (suc i) xs ≡ 32 ∷ q)) → (q : List ℕ) × (cond b (sparse_text cell_listing (suc i) xs) (cell_format.write (i, x) ++ sparse_text cell_listing (suc i) xs) ≡ 32 ∷ q)
    go true p r = r p
    go false p r = ((40 ∷ ((num 32).write i ++ (int 41).write x)) ++ sparse_text cell_listing (suc i) xs, refl)

-- and that of zeros is empty
empty : (i : ℕ) (xs : List ℤ) → all_zero xs ≡ true → sparse_text cell_listing i xs ≡ []
unfolding all_zero sparse_text
empty i [] e = refl
empty i (x ∷ xs) e = rw (and_left (is_zero x) (all_zero xs) e) (empty (suc i) xs (and_right (is_zero x) (all_zero xs) e))

heads_differ : (t u : List ℕ) → ◌≡◌ {A = List ℕ} (32 ∷ t) (41 ∷ u) → ⊥
heads_differ t u e = let z : ◌≡◌ {A = ℕ} 32 41 = cc in omega arith

module _ (cols : ℕ) (small : Word cols) where
  row_reads : (p : ℕ × List ℤ) (t : List ℕ) → (row_rest cols).In p → (row_rest cols).read ((row_rest cols).write p ++ t) ≡ got p t
  unfolding is_prefix
  row_reads p t i =
      let r = p.0 in
      let xs = p.1 in
      let h = headed 0 xs i.1.1 in
      let tail = h.0 ++ (line_end ++ t) in
      let z : 0 + length xs ≡ cols = omega (arith, i.1.0.long) in
      let a : 32 ∷ tail ≡ sparse_text cell_listing 0 xs ++ (line_end ++ t) = rw h.1 in
      let b : sparse_r cell_listing (suc cols) 0 cols (32 ∷ tail) ≡ got xs (line_end ++ t) =
      rw (a, ← z) (sparse_reads cell_listing InR cells_lawful (suc (0 + length xs)) 0 xs (line_end ++ t) i.1.0.range refl (omega (arith, z)) (omega arith)) in
      let s : (dec r ++ (sparse_text cell_listing 0 xs ++ line_end)) ++ t ≡ dec r ++ (32 ∷ tail) = append_assoc (dec r) (sparse_text cell_listing 0 xs ++ line_end) t ∙ ap (λ (y : List ℕ). dec r ++ y) (append_assoc (sparse_text cell_listing 0 xs) line_end t ∙ sym a) in
      ap (row_rest cols).read s
      ∙ goes_on (num_r 32 (dec r ++ (32 ∷ tail))) _ r tail (num-back 32 space-stops r tail i.0)
      ∙ goes_on (sparse_r cell_listing (suc cols) 0 cols (32 ∷ tail)) _ xs (line_end ++ t) b
      ∙ goes_on (word_r line_end (line_end ++ t)) _ tt t ((lit-exact line_end).reads tt t tt tt)

  row-sound : (s : List ℕ) (p : ℕ × List ℤ) (t : List ℕ) → (row_rest cols).read s ≡ got p t → (row_rest cols).In p × (s ≡ (row_rest cols).write p ++ t)
  row-sound s p t e =
      let a = steps (num_r 32 s) _ p t e in
      let b = steps (sparse_r cell_listing (suc cols) 0 cols (32 ∷ a.left)) _ p t a.next in
      let c = steps (word_r line_end b.left) _ p t b.next in
      let r = a.value in
      let xs = b.value in
      let n = num_only 32 space-stops s r a.left a.first in
      let d = sparse_sound cell_listing InR cells_lawful (suc cols) 0 cols (32 ∷ a.left) xs b.left (omega arith) b.first in
      let w = (lit-exact line_end).sound b.left tt c.left c.first in
      let u : b.left ≡ line_end ++ t = w.1 ∙ ap (λ (y : List ℕ). line_end ++ y) (got_left c.next) in
      let l : length xs ≡ cols = omega (arith, d.long) in
      let x : 32 ∷ a.left ≡ sparse_text cell_listing 0 xs ++ (line_end ++ t) = d.text ∙ ap (λ (y : List ℕ). sparse_text cell_listing 0 xs ++ y) u in
      subst (λ (y : ℕ × List ℤ). (row_rest cols).In y × (s ≡ (row_rest cols).write y ++ t)) (got_value c.next) (
        (n.0, (record { long = l; range = d.good }, some a.left xs t x)),
        n.1 ∙ ap (λ (y : List ℕ). dec r ++ y) (x ∙ sym (append_assoc (sparse_text cell_listing 0 xs) line_end t)) ∙ sym (append_assoc (dec r) (sparse_text cell_listing 0 xs ++ line_end) t),
      )
    where
      some : (q : List ℕ) (xs : List ℤ) (t : List ℕ) → ◌≡◌ {A = List ℕ} (32 ∷ q) (sparse_text cell_listing 0 xs ++ (line_end ++ t)) → all_zero xs ≡ false
      some q xs t e = go (all_zero xs) refl
        where
          go : (b : Bool) → all_zero xs ≡ b → all_zero xs ≡ false
          go true p = absurd (heads_differ q (10 ∷ t) (e ∙ ap (λ (y : List ℕ). y ++ (line_end ++ t)) (empty 0 xs p)))
          go false p = p

  pub row-exact : (l : ℕ) → Word l → Exact Any (row_format l cols)
  row-exact l k =
      after-exact (lit (bytes_of "(row ")) (after (this l 32) (row_rest cols)) (lit-exact (bytes_of "(row "))
      (after-exact (this l 32) (row_rest cols) (this-exact l 32 (num-exact 32 space-stops)) (record { reads = λ p t i q. row_reads p t i; sound = row-sound }) k) tt

  -- ---- rows of zeros

  zeros_are : (n : ℕ) (xs : List ℤ) → length xs ≡ n → all_zero xs ≡ true → xs ≡ replicate n (pos 0)
  unfolding all_zero
  zeros_are zero [] l e = refl
  zeros_are zero (x ∷ xs) l e = absurd (omega arith)
  zeros_are (suc n) [] l e = absurd (omega arith)
  zeros_are (suc n) (x ∷ xs) l e = rw (zero_is x (and_left (is_zero x) (all_zero xs) e)) (ap (λ (y : List ℤ). pos 0 ∷ y) (zeros_are n xs (omega arith) (and_right (is_zero x) (all_zero xs) e)))

  zeros_zero : (n : ℕ) → all_zero (replicate n (pos 0)) ≡ true
  unfolding all_zero is_zero
  zeros_zero zero = refl
  zeros_zero (suc n) = zeros_zero n

  zeros_in : (n : ℕ) → All InR (replicate n (pos 0))
  unfolding in_range
  zeros_in zero = tt
  zeros_in (suc n) = (refl, zeros_in n)

  pub rows_lawful : (l : ℕ) → Word l → Lawful (row_listing l cols) (RowIn cols)
  unfolding is_prefix
  rows_lawful l k =
      record {
        exact = row-exact l k;
        inward = λ j a k g n. (k, (g, n));
        outward = λ j a h. (h.1.0, h.1.1);
        seen = λ j a t. refl;
        only_zero = λ a g e. zeros_are cols a g.long e;
        zero-none = zeros_zero cols;
        zero_good = record { long = length-replicate cols (pos 0); range = zeros_in cols };
      }

  -- ---- the rows of a layer, before a text that begins with no row

  abbrev pub NoRow : List ℕ → Type 0
  NoRow t = is_prefix (bytes_of "(row ") t ≡ false

  pub rows-exact : (l n : ℕ) → Word l → Word n → Exact NoRow (rows_format l n cols)
  rows-exact l n k h = record { reads = r; sound = o }
    where
      r : (rs : List (List ℤ)) (t : List ℕ) → (rows_format l n cols).In rs → NoRow t → (rows_format l n cols).read ((rows_format l n cols).write rs ++ t) ≡ got rs t
      r rs t i q =
          let z : 0 + length rs ≡ n = omega (arith, i.0) in
          subst (λ (m : ℕ). sparse_r (row_listing l cols) (suc m) 0 m (sparse_text (row_listing l cols) 0 rs ++ t) ≡ got rs t) z
          (sparse_reads (row_listing l cols) (RowIn cols) (rows_lawful l k) (suc (0 + length rs)) 0 rs t i.1 q (omega (arith, z, h)) (omega arith))

      o : (s : List ℕ) (rs : List (List ℤ)) (t : List ℕ) → (rows_format l n cols).read s ≡ got rs t → (rows_format l n cols).In rs × (s ≡ (rows_format l n cols).write rs ++ t)
      o s rs t e =
          let d = sparse_sound (row_listing l cols) (RowIn cols) (rows_lawful l k) (suc n) 0 n s rs t (omega arith) e in
          ((omega (arith, d.long), d.good), d.text)
