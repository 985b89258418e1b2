-- The rows of a layer, one by one. Assumes nothing.
use mathlib.Core.Path.{◌≡◌, refl, sym, ap, subst, ◌∙◌}
use mathlib.Core.Bool.{true, false, ◌&&◌}
use mathlib.Core.List.{List, [], ◌∷◌, ◌++◌, append_assoc}
use mathlib.Core.Logic.{◌⊎◌, inl, inr, ⊎_elim}
use Prim.Native.Nat.{ℕ, zero, suc, ◌+◌, ◌-◌, ◌*◌, ◌≤◌, ◌<◌}
use native.Mathlib.Omega.{arith}
use native.Mathlib.Nat.{add-mul, mul-le-mul}
use lib.Dec.{leb, ltb}
use lib.IntN.{ℤ, pos}
use lib.ListN.{length, replicate, length-replicate, length-append}
use lib.Seq.{sets}
use Rattle.text.proofs.Puts.{sets_append}
use Rattle.text.specs.Words.{bytes_of, is_prefix}
use Rattle.state_forms.specs.Formats.{Got, got, bad, then_read, word_r, num_r, this}
use Rattle.state_forms.specs.Sparse.{sparse_r}
use Rattle.state_forms.specs.Grammar.{line_end, cell_listing, row_format, row_listing, join_rows}
use Rattle.state_lines.specs.inner.Places.{most_side, forget, row_head_r}
use Rattle.state_forms.proofs.Rows.{cells_lawful}
use Rattle.state_forms.proofs.Sparseness.{sparse_sound}
use Rattle.state_lines.proofs.Known.{known_bad}
use Rattle.state_lines.proofs.Walks.{StopsBad, Unread, unread-start, unread-none, unread_bad, unread-out, unread_on}

-- ---- rows joined

pub join-append : (xs ys : List (List ℤ)) → join_rows (xs ++ ys) ≡ join_rows xs ++ join_rows ys
unfolding join_rows
join-append [] ys = refl
join-append (x ∷ xs) ys = rw (join-append xs ys) (sym (append_assoc x (join_rows xs) (join_rows ys)))

replicate-add : (m n : ℕ) (z : ℤ) → replicate m z ++ replicate n z ≡ replicate (m + n) z
replicate-add zero n z = let e : 0 + n ≡ n = omega arith in rw e
replicate-add (suc m) n z = let e : suc m + n ≡ suc (m + n) = omega arith in rw (e, replicate-add m n z)

mul-step : (n c : ℕ) → suc n * c ≡ c + n * c
mul-step n c = let e : suc n ≡ 1 + n = omega arith in let f : 1 * c ≡ c = omega arith in rw (e, add-mul 1 n c, f)

pub mul_on : (n c : ℕ) → (n + 1) * c ≡ n * c + c
mul_on n c = let f : 1 * c ≡ c = omega arith in rw (add-mul n 1 c, f)

pub mul_gap : (k r c : ℕ) → r ≤ k → (k - r) * c ≡ k * c - r * c
mul_gap k r c h = let e : k - r + r ≡ k = omega arith in let f : k * c ≡ (k - r) * c + r * c = ap (λ (z : ℕ). z * c) (sym e) ∙ add-mul (k - r) r c in omega (arith, f)

pub mul-le : (k r c : ℕ) → r ≤ k → r * c ≤ k * c
mul-le k r c h = let e : k - r + r ≡ k = omega arith in let f : k * c ≡ (k - r) * c + r * c = ap (λ (z : ℕ). z * c) (sym e) ∙ add-mul (k - r) r c in omega (arith, f)

pub join_zeros : (n cols : ℕ) → join_rows (replicate n (replicate cols (pos 0))) ≡ replicate (n * cols) (pos 0)
unfolding join_rows
join_zeros zero cols = let e : 0 * cols ≡ 0 = omega arith in rw e
join_zeros (suc n) cols = rw (join_zeros n cols, mul-step n cols) (replicate-add cols (n * cols) (pos 0))

pub join_one : (xs : List ℤ) → join_rows (xs ∷ []) ≡ xs
unfolding join_rows
join_one [] = refl
join_one (x ∷ xs) = ap (λ (z : List ℤ). x ∷ z) (join_one xs)

-- the counters of some rows of zeros and one row after them
pub join_front : (n cols : ℕ) (xs : List ℤ) → join_rows (replicate n (replicate cols (pos 0)) ++ (xs ∷ [])) ≡ replicate (n * cols) (pos 0) ++ xs
join_front n cols xs = join-append (replicate n (replicate cols (pos 0))) (xs ∷ []) ∙ rw (join_zeros n cols, join_one xs)

-- ---- one row's line

module _ (l cols : ℕ) (s : List ℕ) where
  row_read : (row_format l cols).read s ≡ then_read (row_head_r l s) (λ r t. then_read (sparse_r cell_listing (suc cols) 0 cols t) (λ xs u. then_read (word_r line_end u) (λ _ v. got (r, xs) v)))
  unfolding then_read row_head_r
  row_read = go (word_r (bytes_of "(row ") s)
    where
      last : ℕ → List ℕ → Got (ℕ × List ℤ)
      last r t = then_read (sparse_r cell_listing (suc cols) 0 cols (32 ∷ t)) (λ xs u. then_read (word_r line_end u) (λ _ v. got (r, xs) v))

      three : (g : Got ℕ) → then_read g (λ r t. last r t) ≡ then_read (then_read g (λ r w. got r (32 ∷ w))) (λ r t. then_read (sparse_r cell_listing (suc cols) 0 cols t) (λ xs u. then_read (word_r line_end u) (λ _ v. got (r, xs) v)))
      three (got r t) = refl
      three bad = refl

      two : (g : Got (Unit {0})) → then_read g (λ _ w. then_read (num_r 32 w) (λ r t. last r t))
          ≡ then_read (then_read g (λ _ u. then_read (num_r 32 u) (λ r w. got r (32 ∷ w)))) (λ r t. then_read (sparse_r cell_listing (suc cols) 0 cols t) (λ xs u. then_read (word_r line_end u) (λ _ v. got (r, xs) v)))
      two (got a u) = three (num_r 32 u)
      two bad = refl

      go : (g : Got (Unit {0})) → then_read g (λ _ t. then_read ((this l 32).read t) (λ _ w. then_read (num_r 32 w) (λ r t. last r t)))
          ≡ then_read (then_read g (λ _ t. then_read ((this l 32).read t) (λ _ u. then_read (num_r 32 u) (λ r w. got r (32 ∷ w))))) (λ r t. then_read (sparse_r cell_listing (suc cols) 0 cols t) (λ xs u. then_read (word_r line_end u) (λ _ v. got (r, xs) v)))
      go (got a t) = two ((this l 32).read t)
      go bad = refl

  -- a line whose number is known: its form is bad, or it has that number
  row_number : (k : ℕ) (t : List ℕ) → row_head_r l s ≡ got k t → ((row_format l cols).read s ≡ bad) ⊎ ((xs : List ℤ) × ((u : List ℕ) × ((row_format l cols).read s ≡ got (k, xs) u)))
  unfolding then_read
  row_number k t q = two (sparse_r cell_listing (suc cols) 0 cols t) (row_read ∙ rw q)
    where
      one : (xs : List ℤ) (g : Got (Unit {0})) → (row_format l cols).read s ≡ then_read g (λ _ v. got (k, xs) v) → ((row_format l cols).read s ≡ bad) ⊎ ((xs : List ℤ) × ((u : List ℕ) × ((row_format l cols).read s ≡ got (k, xs) u)))
      one xs (got a v) m = inr (xs, (v, m))
      one xs bad m = inl m

      two : (g : Got (List ℤ)) → (row_format l cols).read s ≡ then_read g (λ xs u. then_read (word_r line_end u) (λ _ v. got (k, xs) v)) → ((row_format l cols).read s ≡ bad) ⊎ ((xs : List ℤ) × ((u : List ℕ) × ((row_format l cols).read s ≡ got (k, xs) u)))
      two (got xs u) m = one xs (word_r line_end u) m
      two bad m = inl m

  row-form : row_head_r l s ≡ bad → (row_format l cols).read s ≡ bad
  unfolding then_read
  row-form q = row_read ∙ rw q

  module _ (k : ℕ) (t : List ℕ) (q : row_head_r l s ≡ got k t) where
    row-cells : sparse_r cell_listing (suc cols) 0 cols t ≡ bad → (row_format l cols).read s ≡ bad
    unfolding then_read
    row-cells b = row_read ∙ rw (q, b)

    row_end : (xs : List ℤ) (u : List ℕ) → sparse_r cell_listing (suc cols) 0 cols t ≡ got xs u → word_r line_end u ≡ bad → (row_format l cols).read s ≡ bad
    unfolding then_read
    row_end xs u c b = row_read ∙ rw (q, c, b)

    row_in : (xs : List ℤ) (u v : List ℕ) → sparse_r cell_listing (suc cols) 0 cols t ≡ got xs u → word_r line_end u ≡ got tt v → (row_format l cols).read s ≡ got (k, xs) v
    unfolding then_read
    row_in xs u v c b = row_read ∙ rw (q, c, b)

-- ---- what is left of a layer's rows

pub record RowsLeft (l cols rows : ℕ) (whole : Got (List (List ℤ))) (l₀ : List ℤ) (s : List ℕ) (cells : List ℤ) (r : ℕ) : Type 0 where
  pub left : Unread (row_listing l cols) join_rows whole l₀ 0 s rows cells (r * cols) r

pub rows_start : (l cols rows : ℕ) (cells : List ℤ) (s : List ℕ) → RowsLeft l cols rows (sparse_r (row_listing l cols) (suc rows) 0 rows s) cells s cells 0
rows_start l cols rows cells s =
    let z : 0 * cols ≡ 0 = omega arith in
    record { left = subst (λ (i : ℕ). Unread (row_listing l cols) join_rows (sparse_r (row_listing l cols) (suc rows) 0 rows s) cells 0 s rows cells i 0) (sym z) (unread-start (row_listing l cols) join_rows cells 0 s rows) }

module _ {l cols rows : ℕ} {whole : Got (List (List ℤ))} {l₀ : List ℤ} {s : List ℕ} {cells : List ℤ} {r : ℕ} (g : RowsLeft l cols rows whole l₀ s cells r) (h : r ≤ rows) where
  pub rows_end : is_prefix (bytes_of "(row ") s ≡ false → (l' : List ℤ) → l' ≡ sets cells (r * cols) (replicate (rows * cols - r * cols) (pos 0))
      → (got tt s ≡ forget whole) × ((xs : List (List ℤ)) (t : List ℕ) → whole ≡ got xs t → l' ≡ sets l₀ 0 (join_rows xs))
  rows_end e l' q =
      let z : join_rows (replicate (rows - r) (replicate cols (pos 0))) ≡ replicate (rows * cols - r * cols) (pos 0) = join_zeros (rows - r) cols ∙ ap (λ (m : ℕ). replicate m (pos 0)) (mul_gap rows r cols h) in
      unread-none (row_listing l cols) join_rows g.left h e l' (q ∙ ap (sets cells (r * cols)) (sym z))

  module _ (e : is_prefix (bytes_of "(row ") s ≡ true) where
    pub rows-form : row_head_r l s ≡ bad → (l' : List ℤ) → StopsBad join_rows whole l₀ 0 l'
    rows-form q l' = unread_bad (row_listing l cols) join_rows g.left h e (row-form l cols s q) l'

    module _ (k : ℕ) (t : List ℕ) (q : row_head_r l s ≡ got k t) where
      -- a number that may not stand there, whatever comes after it
      pub rows_out : leb r k && ltb k rows ≡ false → (l' : List ℤ) → StopsBad join_rows whole l₀ 0 l'
      rows_out n l' = ⊎_elim (λ b. unread_bad (row_listing l cols) join_rows g.left h e b l') (λ x. unread-out (row_listing l cols) join_rows g.left h k x.0 x.1.0 e x.1.1 n l') (row_number l cols s k t q)

      pub rows-cells : bad ≡ forget (sparse_r cell_listing (suc cols) 0 cols t) → (l' : List ℤ) → StopsBad join_rows whole l₀ 0 l'
      rows-cells n l' = unread_bad (row_listing l cols) join_rows g.left h e (row-cells l cols s k t q (known_bad (sparse_r cell_listing (suc cols) 0 cols t) n)) l'

      module _ (xs : List ℤ) (u : List ℕ) (c : sparse_r cell_listing (suc cols) 0 cols t ≡ got xs u) where
        pub rows-line : word_r line_end u ≡ bad → (l' : List ℤ) → StopsBad join_rows whole l₀ 0 l'
        rows-line b l' = unread_bad (row_listing l cols) join_rows g.left h e (row_end l cols s k t q xs u c b) l'

        pub rows_on : (v : List ℕ) → word_r line_end u ≡ got tt v → r ≤ k → k < rows → (l₁ l₂ : List ℤ) → l₁ ≡ sets cells (r * cols) (replicate (k * cols - r * cols) (pos 0)) → l₂ ≡ sets l₁ (k * cols) xs
            → RowsLeft l cols rows whole l₀ v l₂ (k + 1)
        rows_on v b lo hi l₁ l₂ p₁ p₂ = record { left = unread_on (row_listing l cols) join_rows g.left h join-append k xs v e (row_in l cols s k t q xs u v c b) lo hi l₂ ((k + 1) * cols) put place }
          where
            front : List (List ℤ)
            front = replicate (k - r) (replicate cols (pos 0))

            zeros : List ℤ
            zeros = replicate (k * cols - r * cols) (pos 0)

            long : length xs ≡ cols
            long = let d = sparse_sound cell_listing _ cells_lawful (suc cols) 0 cols t xs u (omega arith) c in omega (arith, d.long)

            joined : join_rows (front ++ (xs ∷ [])) ≡ zeros ++ xs
            joined = join_front (k - r) cols xs ∙ ap (λ (m : ℕ). replicate m (pos 0) ++ xs) (mul_gap k r cols lo)

            zeros_long : length zeros ≡ k * cols - r * cols
            zeros_long = length-replicate (k * cols - r * cols) (pos 0)

            put : l₂ ≡ sets cells (r * cols) (join_rows (front ++ (xs ∷ [])))
            put =
                let w : k * cols ≡ r * cols + length zeros = omega (arith, mul-le k r cols lo, zeros_long) in
                p₂ ∙ ap (λ (z : List ℤ). sets z (k * cols) xs) p₁ ∙ ap (λ (n : ℕ). sets (sets cells (r * cols) zeros) n xs) w ∙ sets_append cells (r * cols) zeros xs ∙ ap (sets cells (r * cols)) (sym joined)

            place : (k + 1) * cols ≡ r * cols + length (join_rows (front ++ (xs ∷ [])))
            place = omega (arith, mul_on k cols, ap length joined, length-append zeros xs, zeros_long, long, mul-le k r cols lo)

-- products of a shape's numbers are small
pub mul_small : (a b : ℕ) → a ≤ most_side → b ≤ most_side → a * b ≤ most_side * most_side
mul_small a b h k = mul-le-mul h k
