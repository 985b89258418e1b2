-- The program `panel`: what each line is answered, and what it leaves of the state. To be held beside the paper's paragraph
-- "The program `panel` reads lines and answers each line with one".
use Rattle.std.specs.Prelude.{ℕ, ◌+◌, Bool, cond, not, ◌&&◌, List, [], ◌∷◌, ◌++◌, length, take, drop, ℤ, eqb, ltb, leb}
use Rattle.std.proofs.lemmas.List.Edits.{sets}
use Rattle.std.specs.Float.{binary64}
use Rattle.std.specs.Float.Ieee.{to_bits}
use Rattle.header.specs.declared.Shape.{Shape}
use Rattle.header.specs.declared.Header.{Header}
use Rattle.header.specs.Shape.{max_layers, shape_refusal}
use Rattle.header.specs.OneTier.{one_tier}
use Rattle.layout.specs.declared.Extent.{Extent}
use Rattle.layout.specs.Slices.{Lent, lent, cells_in, cands_in, fresh_lent, extent_of}
use Rattle.layout.specs.Outcomes.{Outcome, Left, left, left_by}
use Rattle.univmon.specs.declared.Kind.TheVariants as kind
use Rattle.univmon.specs.Calls.{update_call}
use Rattle.estimates.specs.declared.PanelAnswer.{PanelAnswer}
use Rattle.estimates.specs.Calls.{panel_call}
use Rattle.panel_lines.specs.declared.line.Request.{Request}
use Rattle.panel_lines.specs.declared.line.Request.TheVariants as ask
use Rattle.panel_lines.specs.Line.{read_of}
use Rattle.panel_lines.specs.Split.{some_last, chunk_lines, chunk_held}
use Rattle.panel_lines.specs.Answers.{ok_text, refused_text, show_bytes, show_text}

-- ---- the state: a header, all zero before the first shape, and four slices, of which a shape uses the front

-- the header with the front parts that its shape uses
abbrev pub in_use : Lent → Lent
in_use r =
    let e : Extent = extent_of r.head.shape in
    lent r.head (take e.cells r.counters) (take e.norms r.norms) (take e.words r.entries) (take e.seats r.counts)

-- what a call left of the front parts of that extent, with the rest of the slices behind it
abbrev pub put_back : Extent → Lent → Lent → Lent
put_back e r t =
    lent t.head (t.counters ++ drop e.cells r.counters) (t.norms ++ drop e.norms r.norms)
    (t.entries ++ drop e.words r.entries) (t.counts ++ drop e.seats r.counts)

-- ---- "Shape: heap, rows, cols, layers; an accepted one starts afresh, a refused one changes nothing."

-- "Above 4,096 counters or 512 candidates over all layers it answers 4."
abbrev pub max_counters : ℕ
max_counters = 4096

abbrev pub max_candidates : ℕ
max_candidates = 512

-- slices of these lengths have room for the extent
unfoldable pub roomy : Extent → ℕ → ℕ → ℕ → ℕ → Bool
roomy e xs ws es ns = leb e.cells xs && (leb e.norms ws && (leb e.words es && leb e.seats ns))

-- the shape's own refusals come first; the lengths are those of the slices
unfoldable pub panel_refusal : Shape → ℕ → ℕ → ℕ → ℕ → ℕ
panel_refusal sh xs ws es ns =
    cond (not (eqb (shape_refusal sh) 0)) (shape_refusal sh)
    (cond (ltb max_counters (cells_in sh)) 4
    (cond (ltb max_candidates (cands_in sh)) 4
    (cond (roomy (extent_of sh) xs ws es ns) 0 4)))

-- in slices that have room for every shape within the bounds, as the program's own have (law `own-refusal`): the paper's words alone
unfoldable pub paper_refusal : Shape → ℕ
paper_refusal sh =
    cond (not (eqb (shape_refusal sh) 0)) (shape_refusal sh)
    (cond (ltb max_counters (cells_in sh)) 4
    (cond (ltb max_candidates (cands_in sh)) 4 0))

abbrev pub refusal_in : Lent → Shape → ℕ
refusal_in r sh = panel_refusal sh (length r.counters) (length r.norms) (length r.entries) (length r.counts)

unfoldable pub shape_call : Lent → Shape → Left
shape_call r sh = cond (eqb (refusal_in r sh) 0) (left 0 (put_back (extent_of sh) r (fresh_lent sh))) (left (refusal_in r sh) r)

-- the header has a shape that is accepted in these slices; where not, 13 "before a shape"
abbrev pub started : Lent → Bool
started r = eqb (refusal_in r r.head.shape) 0

-- ---- "Add is a standard update"; "too few or too many pairs are 12", which is the update's own refusal

-- what a call on the parts in use leaves of the whole
abbrev pub back_by : Lent → Outcome → Outcome
back_by r (Outcome.no n) = Outcome.no n
back_by r (Outcome.yes t) = Outcome.yes (put_back (extent_of r.head.shape) r t)

unfoldable pub add_call : Lent → List ℕ → ℤ → Left
add_call r words w = cond (started r) (left_by r (back_by r (update_call kind.Standard (in_use r) words w))) (left 13 r)

-- ---- "Show gives L1, L2 and cardinality as f64 bits, then each layer's flag from layer 0, 1 for complete.", then "(updates U), decimal"

unfoldable pub panel_text : Header → PanelAnswer → List ℕ
panel_text h a =
    cond (eqb a.refusal 0)
    (show_text (to_bits binary64 a.l1) (to_bits binary64 a.l2) (to_bits binary64 a.cardinality) (take h.shape.layers h.flags) h.totals.updates)
    (refused_text a.refusal)

unfoldable pub show_line : Lent → List ℕ
show_line r = cond (started r) (panel_text r.head (panel_call (in_use r))) (refused_text 13)

-- ---- "reads lines and answers each line with one; refusal N is `(refused N)`"

-- the state after a line, and the answer's bytes with its newline
pub record Reply : Type 0 where
  pub lends : Lent
  pub text : List ℕ

abbrev pub reply : Lent → List ℕ → Reply
reply r t = record { lends = r; text = t ++ (10 ∷ []) }

-- `(ok)` for 0
unfoldable pub reply_text : ℕ → List ℕ
reply_text n = cond (eqb n 0) ok_text (refused_text n)

abbrev pub replied : Left → Reply
replied l = reply l.lends (reply_text l.refusal)

-- "In the program 13 comes first.": an unreadable line looks at nothing else, and without a shape `add` and `show` do not either
unfoldable pub answer_to : Lent → Request → List ℕ → Reply
answer_to r (ask.Shape heap rows cols layers) words = replied (shape_call r (one_tier heap rows cols layers))
answer_to r (ask.Add weight n) words = replied (add_call r words weight)
answer_to r ask.Show words = reply r (show_line r)
answer_to r ask.Unreadable words = replied (left 13 r)

unfoldable pub answer_line : Lent → List ℕ → Reply
answer_line r line = answer_to r (read_of line).request (read_of line).words

-- lines one after another
unfoldable pub answers_of : Lent → List (List ℕ) → Reply
answers_of r [] = record { lends = r; text = [] }
answers_of r (l ∷ ls) =
    let a : Reply = answer_line r l in
    let b : Reply = answers_of a.lends ls in
    record { lends = b.lends; text = a.text ++ b.text }

-- ---- an answer is put into a lent slice

-- the state, how many bytes were written, and the slice that has them
pub record Found : Type 0 where
  pub lends : Lent
  pub len : ℕ
  pub out : List ℕ

abbrev pub found : Lent → ℕ → List ℕ → Found
found r n o = record { lends = r; len = n; out = o }

-- from the slice's start on; what is past the answer stays
abbrev pub put : Reply → List ℕ → Found
put a o = found a.lends (length a.text) (sets o 0 a.text)

-- from a place on, where answers stand before it
abbrev pub behind : ℕ → Reply → List ℕ → Found
behind at a o = found a.lends (at + length a.text) (sets o at a.text)

-- the digits of 2^52
abbrev pub updates_digits : ℕ
updates_digits = 16

-- `(show ..)` of the most layers and updates, and a newline
abbrev pub longest : ℕ
longest = show_bytes max_layers updates_digits + 1

-- nothing is done where the longest answer has no room
unfoldable pub answer_within : ℕ → Lent → List ℕ → Reply
answer_within room r line = cond (ltb room longest) (record { lends = r; text = [] }) (answer_line r line)

-- ---- the whole input, in chunks as they are read

-- The lines that end in a chunk are answered, and what is held of the next one goes on to the next chunk; "The last line needs no newline."
unfoldable pub run_of : Lent → List ℕ → List (List ℕ) → Reply
run_of r held [] = answers_of r (some_last held)
run_of r held (c ∷ cs) =
    let a : Reply = answers_of r (chunk_lines held c) in
    let b : Reply = run_of a.lends (chunk_held held c) cs in
    record { lends = b.lends; text = a.text ++ b.text }
