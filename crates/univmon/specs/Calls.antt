-- The public calls: what each answers, and what it leaves of the header and the slices that it is lent.
use Rattle.std.specs.Prelude.{ℕ, ◌*◌, Bool, false, cond, not, List, [], ◌∷◌, ◌++◌, length, set, replicate, ℤ, eqb, leb, ltb}
use Rattle.words.specs.Num.{top}
use Rattle.header.specs.declared.Shape.{Shape}
use Rattle.header.specs.declared.Mode.TheVariants as mode
use Rattle.header.specs.declared.Header.{Header}
use Rattle.header.specs.Answers.{Answered}
use Rattle.header.specs.Shape.{max_layers, shape_refusal}
use Rattle.header.specs.Totals.{set_weight}
use Rattle.header.specs.Header.{zero_header, with_totals, with_mode, with_flags, settled, clash, header_ok}
use Rattle.layout.specs.Slices.{Lent, lent, lengths_ok, view, flat, fresh_lent}
use Rattle.layout.specs.Outcomes.{Outcome, judge, Left, left, lent_tests}
use Rattle.layout.specs.Answers.{list_call}
use Rattle.univmon.specs.declared.Kind.{Kind}
use Rattle.univmon.specs.Updates.{update_tests, updated}

-- ---- the calls

-- "`new`: 1, 2, 3, 4, 9."; "a refused `new` gives an all-zero header", and the slices stay
unfoldable pub new_call : Shape → List ℤ → List ℕ → List ℕ → List ℤ → Left
new_call sh xs ws es ns =
    cond (not (eqb (shape_refusal sh) 0)) (left (shape_refusal sh) (lent zero_header xs ws es ns))
    (cond (not (lengths_ok sh (length xs) (length ws) (length es) (length ns))) (left 9 (lent zero_header xs ws es ns))
    (left 0 (fresh_lent sh)))

unfoldable pub update_call : Kind → Lent → List ℕ → ℤ → Outcome
update_call k r words w = judge (update_tests k r words w) (flat (updated k (view r) words w))

-- where a header's lengths and flags are lent beside the slices: both have 19 places, or 9 "wrong slice length"
abbrev pub place_tests : Header → List (Bool × ℕ)
place_tests h = (not (eqb (length h.lens) max_layers), 9) ∷ (not (eqb (length h.flags) max_layers), 9) ∷ []

unfoldable pub lent_update_call : Kind → Lent → List ℕ → ℤ → Outcome
lent_update_call k r words w = judge (place_tests r.head ++ update_tests k r words w) (flat (updated k (view r) words w))

-- both with a list of n words: "one place a layer", of two words
unfoldable pub update_list_call : Kind → Lent → List ℕ → ℤ → ℕ → Outcome
update_list_call k r words w n = list_call (2 * r.head.shape.layers) n (update_call k r words w)

unfoldable pub lent_update_list_call : Kind → Lent → List ℕ → ℤ → ℕ → Outcome
lent_update_list_call k r words w n = list_call (2 * r.head.shape.layers) n (lent_update_call k r words w)

-- "`clear` zeroes every slice", and the header is a fresh one
unfoldable pub clear_call : Lent → Outcome
clear_call r = judge (lent_tests r) (fresh_lent r.head.shape)

-- ---- the calls on the header alone

abbrev pub answered : ℕ → Header → Answered
answered n h = record { refusal = n; header = h }

-- 9, 6 "weight set in terminal mode", 7 "weight would pass 2^52"; an unset mode becomes standard
unfoldable pub weight_call : Header → ℕ → Answered
weight_call h w =
    cond (not (header_ok h)) (answered 9 h)
    (cond (clash h.mode mode.Standard) (answered 6 h)
    (cond (ltb top w) (answered 7 h)
    (answered 0 (with_mode (with_totals h (set_weight h.totals w)) (settled h.mode)))))

-- every flag falls
unfoldable pub mark_call : Header → Answered
mark_call h = cond (not (header_ok h)) (answered 9 h) (answered 0 (with_flags h (replicate max_layers false)))

-- one layer's flag falls; 8 for a layer outside
unfoldable pub mark_layer_call : Header → ℕ → Answered
mark_layer_call h l =
    cond (not (header_ok h)) (answered 9 h)
    (cond (leb h.shape.layers l) (answered 8 h)
    (answered 0 (with_flags h (set h.flags l false))))
