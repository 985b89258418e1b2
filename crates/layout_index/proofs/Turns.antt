-- The tables of layers, replaced one after the other. Assumes nothing.
use mathlib.Core.Path.{◌≡◌, refl, sym, ap, ◌∙◌}
use mathlib.Core.Logic.{◌≢◌}
use mathlib.Core.List.{List}
use Prim.Native.Nat.{ℕ, zero, suc, ◌+◌, ◌*◌, ◌≤◌, ◌<◌}
use native.Mathlib.Omega.{arith}
use native.Mathlib.Nat.{mul-le-mul, mul-suc, le_refl}
use native.Mathlib.Numerals.{add-one}
use native.Mathlib.Decide.{ℕ_discrete, dec_lt}
use lib.ListN.{length}
use Rattle.words.proofs.Parts.{length_part, length-put, put_same, put-before, put-after}
use Rattle.header.specs.declared.Shape.{Shape}
use Rattle.layout_index.specs.Tables.{table_length, tables_in, table_at, put_table, over_tables}

module _ (sh : Shape) where
  -- a layer's table ends before the next one begins
  pub table-next : (l m : ℕ) → l < m → table_length sh * l + table_length sh ≤ table_length sh * m
  table-next l m h = omega (arith, mul-suc (table_length sh) l, mul-le-mul (le_refl (table_length sh)) h)

  module _ (xs : List ℕ) (long : length xs ≡ tables_in sh) where
    pub table-room : (l : ℕ) → l < sh.layers → table_length sh * l + table_length sh ≤ length xs
    table-room l h = omega (arith, long, table-next l sh.layers h)

    pub table-long : (l : ℕ) → l < sh.layers → length (table_at sh xs l) ≡ table_length sh
    table-long l h = length_part (table_length sh * l) (table_length sh) xs (table-room l h)

    module _ (l : ℕ) (h : l < sh.layers) (ys : List ℕ) (e : length ys ≡ table_length sh) where
      pub put_table-long : length (put_table sh xs l ys) ≡ length xs
      put_table-long = length-put (table_length sh * l) (table_length sh) xs ys (table-room l h) e

      pub put_table-same : table_at sh (put_table sh xs l ys) l ≡ ys
      put_table-same = put_same (table_length sh * l) (table_length sh) xs ys (table-room l h) e

      pub put_table-other : (m : ℕ) → m ≢ l → table_at sh (put_table sh xs l ys) m ≡ table_at sh xs m
      put_table-other m n = go (dec_lt m l)
        where
          go : Dec (m < l) → table_at sh (put_table sh xs l ys) m ≡ table_at sh xs m
          go (yes q) = put-before (table_length sh * l) (table_length sh) (table_length sh * m) (table_length sh) xs ys (table-next m l q) (omega (arith, table-room l h))
          go (no q) = put-after (table_length sh * l) (table_length sh) (table_length sh * m) (table_length sh) xs ys (table-next l m (omega (arith, q, n))) (table-room l h) e

  -- ---- what is left of the tables after many were replaced

  pub record OverTables (f : ℕ → List ℕ) (k l : ℕ) (xs ys : List ℕ) : Type 0 where
    pub long : length ys ≡ length xs
    pub inside : (m : ℕ) → l ≤ m → m < k + l → table_at sh ys m ≡ f m
    pub outside : (m : ℕ) → (l ≤ m → m < k + l → ⊥) → table_at sh ys m ≡ table_at sh xs m

  pub over_touched : (f : ℕ → List ℕ) (k l : ℕ) → ((m : ℕ) → l ≤ m → m < k + l → length (f m) ≡ table_length sh) → (xs : List ℕ) → length xs ≡ tables_in sh → k + l ≤ sh.layers
      → OverTables f k l xs (over_tables sh f k l xs)
  unfolding over_tables
  over_touched f zero l fit xs long h = record { long = refl; inside = λ m a b. absurd (omega (arith, a, b)); outside = λ m a. refl }
  over_touched f (suc k) l fit xs long h =
      go (over_touched f k (suc l) (λ m a b. fit m (omega (arith, a)) (omega (arith, b))) (put_table sh xs l (f l)) (put_table-long xs long l at (f l) here ∙ long) (omega (arith, h)))
    where
      at : l < sh.layers
      at = omega (arith, h)

      here : length (f l) ≡ table_length sh
      here = fit l (omega arith) (omega arith)

      go : OverTables f k (suc l) (put_table sh xs l (f l)) (over_tables sh f k (suc l) (put_table sh xs l (f l))) → OverTables f (suc k) l xs (over_tables sh f k (suc l) (put_table sh xs l (f l)))
      go o =
          record {
            long = o.long ∙ put_table-long xs long l at (f l) here;
            inside = λ m a b. inner m a b (ℕ_discrete m l);
            outside = λ m a.
                o.outside m (λ b c. a (omega (arith, b)) (omega (arith, c)))
                ∙ put_table-other xs long l at (f l) here m (λ e. a (omega (arith, e)) (omega (arith, e)));
          }
        where
          inner : (m : ℕ) → l ≤ m → m < suc k + l → Dec (m ≡ l) → table_at sh (over_tables sh f k (suc l) (put_table sh xs l (f l))) m ≡ f m
          inner m a b (yes e) =
              o.outside m (λ c d. omega (arith, e, c)) ∙ ap (λ (z : ℕ). table_at sh (put_table sh xs l (f l)) z) e ∙ put_table-same xs long l at (f l) here ∙ ap f (sym e)
          inner m a b (no e) = o.inside m (omega (arith, a, e)) (omega (arith, b))

  pub over-tables : (f : ℕ → List ℕ) → ((m : ℕ) → m < sh.layers → length (f m) ≡ table_length sh) → (k l : ℕ) (xs : List ℕ) → length xs ≡ tables_in sh → k + l ≤ sh.layers
      → OverTables f k l xs (over_tables sh f k l xs)
  over-tables f fit k l xs long h = over_touched f k l (λ m a b. fit m (omega (arith, b, h))) xs long h

  -- ---- the loop over layers

  -- of many tables of xs₀ from the first on, those before layer l are replaced in xs
  pub record TablesInTurn (f : ℕ → List ℕ) (many first : ℕ) (xs₀ xs : List ℕ) (l : ℕ) : Type 0 where
    pub long : length xs ≡ length xs₀
    pub goes : (k : ℕ) → k + l ≡ many + first → over_tables sh f k l xs ≡ over_tables sh f many first xs₀
    pub ahead : (m : ℕ) → l ≤ m → table_at sh xs m ≡ table_at sh xs₀ m

  pub tables_start : (f : ℕ → List ℕ) (many first : ℕ) (xs : List ℕ) → TablesInTurn f many first xs xs first
  tables_start f many first xs =
      record { long = refl; goes = λ k q. let e : k ≡ many = omega arith in ap (λ (j : ℕ). over_tables sh f j first xs) e; ahead = λ m h. refl }

  pub tables_on : (f : ℕ → List ℕ) (many first : ℕ) (xs₀ xs : List ℕ) (l : ℕ) → TablesInTurn f many first xs₀ xs l → length xs₀ ≡ tables_in sh → l < sh.layers
      → (ys : List ℕ) → ys ≡ f l → length ys ≡ table_length sh → (zs : List ℕ) → zs ≡ put_table sh xs l ys → TablesInTurn f many first xs₀ zs (l + 1)
  unfolding over_tables
  tables_on f many first xs₀ xs l v long h ys is e zs q =
      record {
        long = ap length q ∙ put_table-long xs (v.long ∙ long) l h ys e ∙ v.long;
        goes = λ k p. rw (add-one l, q ∙ ap (put_table sh xs l) is) (v.goes (suc k) (omega arith));
        ahead = λ m p.
            ap (λ (z : List ℕ). table_at sh z m) q ∙ put_table-other xs (v.long ∙ long) l h ys e m (λ n. omega (arith, n)) ∙ v.ahead m (omega arith);
      }

  pub tables_end : (f : ℕ → List ℕ) (many first : ℕ) (xs₀ xs : List ℕ) (l : ℕ) → TablesInTurn f many first xs₀ xs l → l ≡ many + first → xs ≡ over_tables sh f many first xs₀
  unfolding over_tables
  tables_end f many first xs₀ xs l v h = v.goes 0 (omega arith)
