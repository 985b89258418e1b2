-- A whole layer is what its page says, and a page that is in range is a whole layer's. Assumes nothing.
use mathlib.Core.Path.{◌≡◌, refl, sym, ap, ◌∙◌}
use mathlib.Core.Bool.{Bool, true, false}
use mathlib.Core.List.{List}
use Prim.Native.Nat.{ℕ, ◌-◌, ◌*◌, ◌<◌}
use native.Mathlib.Omega.{arith}
use lib.ListN.{length, get_or, take, replicate}
use lib.Seq.{length-take-le, take-append_seam}
use lib.IntN.{ℤ}
use Rattle.text.specs.Decimals.{Word}
use Rattle.countsketch_l2_norm.specs.Merge.{row_norms}
use Rattle.countsketch_l2_norm.proofs.Merges.{length-row_norms}
use Rattle.heap_moves.specs.Cands.{Cand, no_cand}
use Rattle.layer.specs.declared.Dims.{Dims}
use Rattle.layer.specs.Layer.{Layer}
use Rattle.layout.proofs.States.{layer_path}
use Rattle.state_check.specs.Check.{seats_ok}
use Rattle.state_check.proofs.Whole.{Whole, seats-sound, seats-counts, seats_pass}
use Rattle.state_forms.specs.Grammar.{rows_of, join_rows, Page, flag_format, key_format, page_format}
use Rattle.state_forms.proofs.Rows.{word_of}
use Rattle.state_text.specs.Pages.{table_from, page_of, layer_from, frame_of}
use Rattle.state_text.proofs.Cuts.{rows_long, join-rows, rows_in, rows_join, join-long, join-in, table-back, table-long, all_first}

-- an entry's words are words
pub record WordsOf (c : Cand) : Type 0 where
  pub key : Word c.item.key
  pub bottom : Word c.item.bottom
  pub high : Word c.item.high
  pub low : Word c.item.low

flag_in : (l : ℕ) (f : Bool) → (flag_format l).In f
flag_in l true = (omega arith, refl)
flag_in l false = (omega arith, refl)

module _ (d : Dims) (y : Layer) (w : Whole d y) where
  pub page_back : layer_from d (page_of d y) ≡ y
  page_back =
      let c = join-rows d.cols d.rows y.sketch.cells w.fits.cells in
      let t = table-back d.size y.table w.table in
      layer_path c (ap (λ (z : List ℤ). row_norms d.cols z d.rows 0) c ∙ sym w.norms) (ap (λ z. z.cands) t) (ap (λ z. z.len) t) refl

  pub page_of_in : (l : ℕ) → ((i : ℕ) → i < y.table.len → WordsOf (get_or y.table.cands i no_cand)) → (page_format (frame_of d) l).In (page_of d y)
  page_of_in l k =
      let cs = take y.table.len y.table.cands in
      let n : length cs ≡ y.table.len = length-take-le y.table.len y.table.cands (omega (arith, w.table.used, w.table.long)) in (
        (
          flag_in l y.flag,
          (
            (rows_long d.cols d.rows y.sketch.cells, rows_in d.cols d.rows y.sketch.cells w.fits.cells w.cells),
            (omega (arith, n, w.table.used), all_first (key_format l).In y.table.len y.table.cands (λ i h m. one i h)),
          ),
        ),
        ap (λ z. seats_ok z d.size 0) (table-back d.size y.table w.table) ∙ seats_pass d.size y.table w.table w.counts,
      )
    where
      one : (i : ℕ) → i < y.table.len → (key_format l).In (get_or y.table.cands i no_cand)
      one i h = let q = k i h in (q.key, (q.bottom, (q.high, (q.low, word_of (get_or y.table.cands i no_cand).count (w.counts i h)))))

page_path : {f : Bool} {r r' : List (List ℤ)} {k k' : List Cand} → r ≡ r' → k ≡ k' → ◌≡◌ {A = Page} (record { flag = f; rows = r; keys = k }) (record { flag = f; rows = r'; keys = k' })
page_path {f} p q = λ i. record { flag = f; rows = p i; keys = q i }

module _ (d : Dims) (l : ℕ) (p : Page) (h : (page_format (frame_of d) l).In p) where
  pub page_whole : Whole d (layer_from d p)
  page_whole =
      record {
        fits = record {
          cells = join-long d.cols p.rows h.0.1.0.1 ∙ ap (λ (n : ℕ). n * d.cols) h.0.1.0.0;
          norms = length-row_norms d.cols (join_rows p.rows) d.rows 0;
          cands = table-long d.size p.keys h.0.1.1.0;
        };
        cells = join-in d.cols p.rows h.0.1.0.1;
        norms = refl;
        table = seats-sound d.size (table_from d.size p.keys) (table-long d.size p.keys h.0.1.1.0) h.0.1.1.0 h.1;
        counts = seats-counts d.size (table_from d.size p.keys) h.0.1.1.0 h.1;
      }

  pub page_same : page_of d (layer_from d p) ≡ p
  page_same =
      page_path
      (ap (λ (n : ℕ). rows_of d.cols n (join_rows p.rows)) (sym h.0.1.0.0) ∙ rows_join d.cols p.rows h.0.1.0.1)
      (take-append_seam p.keys (replicate (d.size - length p.keys) no_cand))
