-- Calls that change no candidate: those on the header alone, and `clear`, after which the index is built. Assumes nothing.
use mathlib.Core.Path.{◌≡◌, refl, sym, ap, ◌∙◌, subst}
use mathlib.Core.Bool.{Bool, true, false}
use mathlib.Core.List.{List}
use Prim.Native.Nat.{ℕ, ◌<◌}
use lib.ListN.{get_or}
use lib.Dec.{leb, ltb}
use Rattle.words.specs.Num.{top}
use Rattle.words.proofs.Lists.{get_d_all}
use Rattle.words.specs.Parts.{part}
use Rattle.header.specs.declared.Shape.{Shape}
use Rattle.header.specs.declared.Header.{Header}
use Rattle.header.specs.declared.Mode.TheVariants as mode
use Rattle.header.specs.Shape.{max_layers}
use Rattle.header.specs.Header.{clash, header_ok, fresh_header}
use Rattle.heap_moves.specs.Flat.{cands_of}
use Rattle.heap.specs.Offer.{Table}
use Rattle.heap_indexed.proofs.Runs.{Passes}
use Rattle.layout.specs.State.{dims_at, cand_off, layer_at}
use Rattle.layout.specs.Slices.{Lent, view, fresh_lent}
use Rattle.layout_index.specs.Tables.{tables_in, table_at}
use Rattle.univmon.specs.Calls.{weight_call, mark_call, mark_layer_call}
use Rattle.state_check.specs.Reached.{Passing, under}
use Rattle.state_check.proofs.NeverNine.{clear_done}
use Rattle.state_check.proofs.KeptCalls.{clear_kept, weight-kept, mark-kept, mark-layer-kept}
use Rattle.state_check.proofs.WholeStates.{ok-head}
use Rattle.indexed_state.specs.Building.{built_index}
use Rattle.indexed_state.proofs.Passing.{fresh_passes}
use Rattle.indexed_streams.proofs.Keeps.{Kept, kept_of}

module _ (r : Lent) (xs : List ℕ) (p : Kept r xs) where
  -- another header with the same shape and lengths
  head_keeps : (h : Header) → h.shape ≡ r.head.shape → h.lens ≡ r.head.lens → Passing (under r h) → Kept (under r h) xs
  unfolding layer_at view
  head_keeps h s l g =
      record {
        passing = g;
        long = p.long ∙ ap (λ (sh : Shape). tables_in sh) (sym s);
        tables = λ m b.
            subst (λ (t : Table). Passes h.shape.heap_size (table_at h.shape xs m) t) (sym (table_same m))
            (subst (λ (sh : Shape). Passes sh.heap_size (table_at sh xs m) (layer_at (view r) m).table) (sym s) (p.tables m (subst (λ (sh : Shape). m < sh.layers) s b)));
      }
    where
      table_same : (m : ℕ) → (layer_at (view (under r h)) m).table ≡ (layer_at (view r) m).table
      table_same m = λ i. record { cands = part (cand_off (s i) m) (dims_at (s i) m).size (cands_of r.entries r.counts); len = get_or (l i) m 0 }

  head_ok : header_ok r.head ≡ true
  head_ok = ok-head r p.passing.ok

  pub weigh_keeps : (w : ℕ) → Kept (under r (weight_call r.head w).header) xs
  unfolding weight_call
  weigh_keeps w = go (clash r.head.mode mode.Standard) (ltb top w) refl refl
    where
      go : (a b : Bool) → clash r.head.mode mode.Standard ≡ a → ltb top w ≡ b → Kept (under r (weight_call r.head w).header) xs
      go true b e f = rw (head_ok, e) p
      go false true e f = rw (head_ok, e, f) p
      go false false e f = head_keeps (weight_call r.head w).header (rw (head_ok, e, f)) (rw (head_ok, e, f)) (weight-kept r w p.passing (rw (head_ok, e, f)))

  pub mark_keeps : Kept (under r (mark_call r.head).header) xs
  unfolding mark_call
  mark_keeps = head_keeps (mark_call r.head).header (rw head_ok) (rw head_ok) (mark-kept r p.passing (rw head_ok))

  pub mark-layer_keeps : (l : ℕ) → Kept (under r (mark_layer_call r.head l).header) xs
  unfolding mark_layer_call
  mark-layer_keeps l = go (leb r.head.shape.layers l) refl
    where
      go : (b : Bool) → leb r.head.shape.layers l ≡ b → Kept (under r (mark_layer_call r.head l).header) xs
      go true e = rw (head_ok, e) p
      go false e = head_keeps (mark_layer_call r.head l).header (rw (head_ok, e)) (rw (head_ok, e)) (mark-layer-kept r l p.passing (rw (head_ok, e)))

  -- a cleared state has no candidates, and the index that is built is empty
  abbrev cleared : Lent
  cleared = fresh_lent r.head.shape

  pub clear-passing : Passing cleared
  clear-passing = clear_kept r cleared p.passing (clear_done r p.passing.ok)

  pub clear_keeps : Kept cleared (built_index (fresh_header r.head.shape) cleared.entries xs)
  unfolding fresh_lent fresh_header
  clear_keeps =
      kept_of (record { lends = cleared; index = built_index (fresh_header r.head.shape) cleared.entries xs })
      (record { arrays = clear-passing.arrays; ok = fresh_passes cleared xs clear-passing.ok p.long (λ l h. get_d_all 0 max_layers l) })
