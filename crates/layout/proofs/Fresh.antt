-- A fresh state: its layers, its lengths, and zeros in its slices. Assumes nothing.
use mathlib.Core.Path.{◌≡◌, refl, sym, ap, ◌∙◌}
use Prim.Native.Nat.{ℕ, zero, suc, ◌-◌, ◌*◌, ◌≤◌, ◌<◌}
use native.Mathlib.Omega.{arith}
use mathlib.Core.Bool.{true, false}
use mathlib.Core.List.{List, ◌∷◌}
use lib.ListN.{get_or, replicate, length-replicate, length-append, get_or-replicate, get_or-append}
use lib.Seq.{get_or-append-add}
use lib.IntN.{pos, ℤ}
use Rattle.words.specs.Parts.{part}
use Rattle.words.proofs.Lists.{get_d_all, part-all}
use Rattle.countsketch_l2_norm.specs.Merge.{sum_below}
use Rattle.countsketch_l2_norm.specs.Norms.{words_of}
use Rattle.heap_moves.specs.Cands.{no_cand}
use Rattle.heap_moves.specs.Flat.{entries_of, counts_of}
use Rattle.header.specs.declared.Shape.{Shape}
use Rattle.header.specs.Shape.{max_layers}
use Rattle.header.specs.Header.{fresh_flags, fresh_header}
use Rattle.header.specs.inner.Accepted.{Accepted}
use Rattle.layer.specs.inner.Needs.{no_layer}
use Rattle.layout.specs.State.{rows_at, cols_at, dims_at, cell_off, norm_off, cand_off, layer_at, new_state}
use Rattle.layout.proofs.Offsets.{off_step}
use Rattle.layout.specs.Slices.{norms_in, cands_in, flat, fresh_lent}
use Rattle.layout.proofs.Replaced.{Sized}

pub new-layer : (sh : Shape) → Accepted sh → (l : ℕ) → l < sh.layers → layer_at (new_state sh) l ≡ no_layer (dims_at sh l)
unfolding layer_at new_state fresh_header no_layer cell_off norm_off cand_off
new-layer sh v l h =
    λ i. record {
      sketch = record { cells = cells i; norms = norms i };
      table = record { cands = cands i; len = get_d_all {A = ℕ} 0 max_layers l i };
      flag = flag i;
    }
  where
    cells : part (sum_below l (λ m. rows_at sh m * cols_at sh m)) (rows_at sh l * cols_at sh l) (replicate (sum_below sh.layers (λ m. rows_at sh m * cols_at sh m)) (pos 0)) ≡ replicate (rows_at sh l * cols_at sh l) (pos 0)
    cells = part-all (pos 0) (sum_below sh.layers (λ m. rows_at sh m * cols_at sh m)) (sum_below l (λ m. rows_at sh m * cols_at sh m)) (rows_at sh l * cols_at sh l) (off_step (λ m. rows_at sh m * cols_at sh m) l sh.layers h)

    norms : part {A = ℕ} (sum_below l (λ m. rows_at sh m)) (rows_at sh l) (replicate (sum_below sh.layers (λ m. rows_at sh m)) 0) ≡ replicate (rows_at sh l) 0
    norms = part-all {A = ℕ} 0 (sum_below sh.layers (λ m. rows_at sh m)) (sum_below l (λ m. rows_at sh m)) (rows_at sh l) (off_step (λ m. rows_at sh m) l sh.layers h)

    cands : part (sum_below l (λ m. sh.heap_size)) sh.heap_size (replicate (sum_below sh.layers (λ m. sh.heap_size)) no_cand) ≡ replicate sh.heap_size no_cand
    cands = part-all no_cand (sum_below sh.layers (λ m. sh.heap_size)) (sum_below l (λ m. sh.heap_size)) sh.heap_size (off_step (λ m. sh.heap_size) l sh.layers h)

    flag : get_or (fresh_flags sh.layers) l false ≡ true
    flag = get_or-append (replicate sh.layers true) (replicate (max_layers - sh.layers) false) false l (omega (arith, length-replicate sh.layers true)) ∙ get_or-replicate sh.layers l true false h

pub new_sized : (sh : Shape) → Accepted sh → Sized (new_state sh)
unfolding new_state fresh_header
new_sized sh v =
    record {
      counters = length-replicate (cell_off sh sh.layers) (pos 0);
      norms = length-replicate {A = ℕ} (norm_off sh sh.layers) 0;
      cands = length-replicate (cand_off sh sh.layers) no_cand;
      flags = length-append (replicate sh.layers true) (replicate (max_layers - sh.layers) false)
          ∙ omega (arith, length-replicate sh.layers true, length-replicate (max_layers - sh.layers) false, v.few);
      lens = length-replicate {A = ℕ} max_layers 0;
      few = v.few;
    }

pub new-past_lens : (sh : Shape) (l : ℕ) → sh.layers ≤ l → get_or (new_state sh).head.lens l 0 ≡ 0
unfolding new_state fresh_header
new-past_lens sh l h = get_d_all {A = ℕ} 0 max_layers l

pub new-past_flags : (sh : Shape) (l : ℕ) → sh.layers ≤ l → get_or (new_state sh).head.flags l false ≡ false
unfolding new_state fresh_header
new-past_flags sh l h =
    ap (λ (z : ℕ). get_or (fresh_flags sh.layers) z false) (omega (arith, length-replicate sh.layers true))
    ∙ get_or-append-add (replicate sh.layers true) (replicate (max_layers - sh.layers) false) (l - sh.layers) false ∙ get_d_all false (max_layers - sh.layers) (l - sh.layers)

-- ---- in slices

zero-words : (n : ℕ) → words_of (replicate n 0) ≡ replicate (2 * n) 0
unfolding words_of
zero-words zero = refl
zero-words (suc n) = ap (λ (z : List ℕ). 0 ∷ 0 ∷ z) (zero-words n) ∙ ap (λ (m : ℕ). replicate m 0) two
  where
    two : suc (suc (2 * n)) ≡ 2 * suc n
    two = omega arith

zero-entries : (n : ℕ) → entries_of (replicate n no_cand) ≡ replicate (4 * n) 0
unfolding entries_of
zero-entries zero = refl
zero-entries (suc n) = ap (λ (z : List ℕ). 0 ∷ 0 ∷ 0 ∷ 0 ∷ z) (zero-entries n) ∙ ap (λ (m : ℕ). replicate m 0) four
  where
    four : suc (suc (suc (suc (4 * n)))) ≡ 4 * suc n
    four = omega arith

zero-counts : (n : ℕ) → counts_of (replicate n no_cand) ≡ replicate n (pos 0)
zero-counts zero = refl
zero-counts (suc n) = ap (λ (z : List ℤ). pos 0 ∷ z) (zero-counts n)

pub fresh-flat : (sh : Shape) → fresh_lent sh ≡ flat (new_state sh)
unfolding fresh_lent flat new_state fresh_header
fresh-flat sh =
    λ i. record {
      head = fresh_header sh;
      counters = (new_state sh).counters;
      norms = sym (zero-words (norms_in sh)) i;
      entries = sym (zero-entries (cands_in sh)) i;
      counts = sym (zero-counts (cands_in sh)) i;
    }
