-- The header and its own steps. Only the functions of this page build a header.
use Rattle.std.specs.Prelude.{ℕ, zero, suc, ◌-◌, Bool, true, false, cond, not, ◌&&◌, List, ◌∷◌, ◌++◌, get_or, set, replicate, length, ℤ, nat_abs, eqb, ltb, leb, ◌≡◌}
use Rattle.std.specs.Int.Signed.{non_neg}
use Rattle.words.specs.Tests.{number}
use Rattle.header.specs.Shape.{max_layers, shape_refusal}
use Rattle.header.specs.OneTier.{one_tier}
use Rattle.header.specs.Totals.{no_totals, update_totals, add_totals, totals_ok, totals_tests}
use Rattle.header.specs.declared.Shape.{Shape}
use Rattle.header.specs.declared.Mode.{Mode}
use Rattle.header.specs.declared.Mode.TheVariants as mode
use Rattle.header.specs.declared.Totals.{Totals}
use Rattle.header.specs.declared.Header.{Header}
use Rattle.header.specs.declared.Scalars.{Scalars}
use Rattle.header.specs.Answers.{AnsweredLent}
use Rattle.header.specs.Answers.{Answered}

-- ---- headers from nothing

-- "a refused `new` gives an all-zero header (mode unset, flags false)"
abbrev pub zero_header : Header
zero_header =
    record {
      shape = one_tier 0 0 0 0;
      totals = no_totals;
      mode = mode.Unset;
      flags = replicate max_layers false;
      lens = replicate max_layers 0;
    }

-- true for the layers, false past the last
abbrev pub fresh_flags : ℕ → List Bool
fresh_flags layers = replicate layers true ++ replicate (max_layers - layers) false

unfoldable pub fresh_header : Shape → Header
fresh_header sh = record { shape = sh; totals = no_totals; mode = mode.Unset; flags = fresh_flags sh.layers; lens = replicate max_layers 0 }

-- ---- one field changed

abbrev pub with_totals : Header → Totals → Header
with_totals h t = record { shape = h.shape; totals = t; mode = h.mode; flags = h.flags; lens = h.lens }

abbrev pub with_mode : Header → Mode → Header
with_mode h m = record { shape = h.shape; totals = h.totals; mode = m; flags = h.flags; lens = h.lens }

abbrev pub with_flags : Header → List Bool → Header
with_flags h fs = record { shape = h.shape; totals = h.totals; mode = h.mode; flags = fs; lens = h.lens }

abbrev pub with_lens : Header → List ℕ → Header
with_lens h ns = record { shape = h.shape; totals = h.totals; mode = h.mode; flags = h.flags; lens = ns }

-- layer l's length and flag
abbrev pub with_layer : Header → ℕ → ℕ → Bool → Header
with_layer h l n b = with_lens (with_flags h (set h.flags l b)) (set h.lens l n)

-- all lengths and flags
abbrev pub with_layers : Header → List ℕ → List Bool → Header
with_layers h ns fs = with_lens (with_flags h fs) ns

-- the header that scalars, lengths and flags make
abbrev pub head_of : Scalars → List ℕ → List Bool → Header
head_of f ns fs = record { shape = f.shape; totals = f.totals; mode = f.mode; flags = fs; lens = ns }

-- a header without lengths and flags
abbrev pub scalars_of : Header → Scalars
scalars_of h = record { shape = h.shape; totals = h.totals; mode = h.mode }

-- ---- modes

-- "mode mixed in update or merge"
abbrev pub clash : Mode → Mode → Bool
clash mode.Unset m = false
clash mode.Standard mode.Unset = false
clash mode.Standard mode.Standard = false
clash mode.Standard mode.Terminal = true
clash mode.Terminal mode.Unset = false
clash mode.Terminal mode.Standard = true
clash mode.Terminal mode.Terminal = false

-- an unset mode takes the other's
abbrev pub joined : Mode → Mode → Mode
joined mode.Unset m = m
joined mode.Standard m = mode.Standard
joined mode.Terminal m = mode.Terminal

-- "an unset mode becomes standard" by a delta
abbrev pub settled : Mode → Mode
settled m = joined m mode.Standard

-- "M 0 unset, 1 standard, 2 terminal" (02, W2): in a text, and for C
abbrev pub mode_number : Mode → ℕ
mode_number mode.Unset = 0
mode_number mode.Standard = 1
mode_number mode.Terminal = 2

unfoldable pub mode_by : ℕ → Mode
mode_by n = cond (eqb n 1) mode.Standard (cond (eqb n 2) mode.Terminal mode.Unset)

-- ---- the totals and the mode of an update or of a second header come in

abbrev pub begun : Header → Totals → Mode → Header
begun h t m = with_mode (with_totals h (add_totals h.totals t)) (joined h.mode m)

-- the same without lengths and flags
abbrev pub begun_scalars : Scalars → Totals → Mode → Scalars
begun_scalars f t m = record { shape = f.shape; totals = add_totals f.totals t; mode = joined f.mode m }

-- an update: 5 "negative weight", 6 "mode mixed in update", then the totals
abbrev pub begin_tests : Scalars → ℤ → Mode → List (Bool × ℕ)
begin_tests f w m = (not (non_neg w), 5) ∷ (clash f.mode m, 6) ∷ totals_tests f.totals (update_totals (nat_abs w))

unfoldable pub begin_of : Scalars → ℤ → Mode → AnsweredLent
begin_of f w m =
    record {
      refusal = number (begin_tests f w m);
      scalars = cond (eqb (number (begin_tests f w m)) 0) (begun_scalars f (update_totals (nat_abs w)) m) f;
    }

-- "The header's own steps hand back the changed header.": the same of a whole header, whose lengths and flags stay
unfoldable pub begin_header : Header → ℤ → Mode → Answered
begin_header h w m =
    record { refusal = (begin_of (scalars_of h) w m).refusal; header = head_of (begin_of (scalars_of h) w m).scalars h.lens h.flags }

-- ---- "A header is in range if `new` accepts its dimensions, its weight is 0 to 2^52, each length is at most the heap size, and past the last layer
-- lengths are 0 and flags false."; its number of updates too is 0 to 2^52 (02, W1)

-- of layer l
abbrev pub length_ok : ℕ → ℕ → ℕ → ℕ → Bool → Bool
length_ok l layers size len flag = cond (ltb l layers) (leb len size) (eqb len 0 && not flag)

-- of k layers from l on
unfoldable pub lens_from : ℕ → ℕ → List ℕ → List Bool → ℕ → ℕ → Bool
lens_from layers size lens flags zero l = true
lens_from layers size lens flags (suc k) l = length_ok l layers size (get_or lens l 0) (get_or flags l false) && lens_from layers size lens flags k (suc l)

unfoldable pub header_ok : Header → Bool
header_ok h = eqb (shape_refusal h.shape) 0 && totals_ok h.totals && lens_from h.shape.layers h.shape.heap_size h.lens h.flags max_layers 0

-- lengths and flags have a place for each layer that a shape may have
pub record Headed (h : Header) : Type 0 where
  pub lens : length h.lens ≡ max_layers
  pub flags : length h.flags ≡ max_layers
