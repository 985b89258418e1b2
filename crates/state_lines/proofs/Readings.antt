-- A row's counters, one by one. Assumes nothing.
use mathlib.Core.Path.{◌≡◌, refl, ap, ◌∙◌}
use mathlib.Core.Bool.{true, false, ◌&&◌}
use mathlib.Core.List.{List, [], ◌∷◌}
use Prim.Native.Nat.{ℕ, suc, ◌+◌, ◌-◌, ◌≤◌, ◌<◌}
use native.Mathlib.Omega.{arith}
use native.Mathlib.Numerals.{add-one}
use lib.Dec.{leb, ltb}
use lib.IntN.{ℤ, pos}
use lib.ListN.{length, set, replicate, length-append, length-replicate}
use lib.Seq.{sets}
use Rattle.text.proofs.Puts.{sets_append}
use Rattle.text.specs.Words.{is_prefix}
use Rattle.state_forms.specs.Formats.{Got, got, bad}
use Rattle.state_forms.specs.Sparse.{sparse_r}
use Rattle.state_forms.specs.Grammar.{cell_format, cell_listing}
use Rattle.state_lines.specs.inner.Places.{forget}
use Rattle.state_lines.proofs.KeyWalk.{same}
use Rattle.state_lines.proofs.Walks.{StopsBad, Unread, unread-start, unread-none, unread_bad, unread-out, unread_on}

abbrev pub CellsLeft : Got (List ℤ) → List ℤ → ℕ → List ℕ → ℕ → List ℤ → ℕ → ℕ → Type 0
CellsLeft whole l₀ i₀ s cols l i c = Unread cell_listing same whole l₀ i₀ s cols l i c

pub start : (l : List ℤ) (i : ℕ) (s : List ℕ) (cols : ℕ) → CellsLeft (sparse_r cell_listing (suc cols) 0 cols s) l i s cols l i 0
start l i s cols = unread-start cell_listing same l i s cols

module _ {whole : Got (List ℤ)} {l₀ : List ℤ} {i₀ : ℕ} {s : List ℕ} {cols : ℕ} {l : List ℤ} {i c : ℕ} (g : Unread cell_listing same whole l₀ i₀ s cols l i c) (h : c ≤ cols) where
  pub ends : is_prefix (32 ∷ []) s ≡ false → (l' : List ℤ) → l' ≡ sets l i (replicate (cols - c) (pos 0))
      → (got tt s ≡ forget whole) × ((xs : List ℤ) (t : List ℕ) → whole ≡ got xs t → l' ≡ sets l₀ i₀ xs)
  ends e l' q = unread-none cell_listing same g h e l' q

  pub stops-form : is_prefix (32 ∷ []) s ≡ true → cell_format.read s ≡ bad → (l' : List ℤ) → StopsBad same whole l₀ i₀ l'
  stops-form e q l' = unread_bad cell_listing same g h e q l'

  pub stops-column : (j : ℕ) (v : ℤ) (t : List ℕ) → is_prefix (32 ∷ []) s ≡ true → cell_format.read s ≡ got (j, v) t → leb c j && ltb j cols ≡ false → (l' : List ℤ) → StopsBad same whole l₀ i₀ l'
  stops-column j v t e q n l' = unread-out cell_listing same g h j v t e q n l'

  pub goes : (j : ℕ) (v : ℤ) (t : List ℕ) → is_prefix (32 ∷ []) s ≡ true → cell_format.read s ≡ got (j, v) t → c ≤ j → j < cols → (l' : List ℤ) (i' : ℕ) → i' ≡ i + (j - c)
      → l' ≡ set (sets l i (replicate (j - c) (pos 0))) i' v → Unread cell_listing same whole l₀ i₀ t cols l' (i' + 1) (j + 1)
  goes j v t e q lo hi l' i' p n =
      let z : List ℤ = replicate (j - c) (pos 0) in
      let k : length z ≡ j - c = length-replicate (j - c) (pos 0) in
      let w : i' ≡ i + length z = omega (arith, p, k) in
      unread_on cell_listing same g h (λ xs ys. refl) j v t e q lo hi l' (i' + 1)
      (n ∙ ap (λ (x : ℕ). set (sets l i z) x v) w ∙ sets_append l i z (v ∷ [])) (omega (arith, w, length-append z (v ∷ [])))

pub zeros_step : (l : List ℤ) (i n : ℕ) → i < n → sets l i (replicate (n - i) (pos 0)) ≡ sets (set l i (pos 0)) (i + 1) (replicate (n - (i + 1)) (pos 0))
zeros_step l i n h = let e : n - i ≡ suc (n - (i + 1)) = omega arith in rw (e, add-one)
