-- Between C's shapes and the library's: "When an answer is an enum, a definition specifies this paper's number and values for each of its cases."
use Rattle.std.specs.Prelude.{ℕ, Bool, cond, List, eqb, leb}
use Rattle.header.specs.declared.Header.{Header}
use Rattle.header.specs.Answers.{Answered}
use Rattle.header.specs.declared.Scalars.{Scalars}
use Rattle.header.specs.Answers.{AnsweredLent}
use Rattle.header.specs.OneTier.{one_tier}
use Rattle.header.specs.Header.{mode_number, mode_by}
use Rattle.refusal.specs.Refusals.{Answer as Judged}
use Rattle.univmon_delta.specs.declared.Fidelity.{Fidelity}
use Rattle.univmon_delta.specs.declared.Fidelity.TheVariants as fidelity
use Rattle.sums.specs.declared.G.{G}
use Rattle.sums.specs.declared.G.TheVariants as g
use Rattle.estimates.specs.Answers.{Answer}
use Rattle.estimates.specs.declared.PanelAnswer.{PanelAnswer}
use Rattle.state_text.specs.Calls.{Written}
use Rattle.univmon_c.specs.declared.CHeader.{CHeader}
use Rattle.univmon_c.specs.declared.CAnswered.{CAnswered}
use Rattle.univmon_c.specs.declared.CBottom.{CBottom}
use Rattle.univmon_c.specs.declared.CAnswer.{CAnswer}
use Rattle.univmon_c.specs.declared.CPanel.{CPanel}
use Rattle.univmon_c.specs.declared.CWritten.{CWritten}
use Rattle.univmon_c.specs.declared.CShape.{CShape}
use Rattle.univmon_c.specs.declared.CStep.{CStep}

-- ---- numbers for enums; a number that stands for nothing is refused with 9, "header out of range"

abbrev pub is_mode : ℕ → Bool
is_mode n = leb n 2

-- "Closures `g` become a choice of one, value or square."
abbrev pub is_g : ℕ → Bool
is_g n = leb n 2

unfoldable pub g_by : ℕ → G
g_by n = cond (eqb n 1) g.Value (cond (eqb n 2) g.Square g.One)

-- 0 every insert, 1 promoted only
abbrev pub is_fidelity : ℕ → Bool
is_fidelity n = leb n 1

unfoldable pub fidelity_of : ℕ → Fidelity
fidelity_of n = cond (eqb n 1) fidelity.PromotedOnly fidelity.EveryInsert

-- ---- headers: C's has the four dimensions of `UnivMon`

abbrev pub header_of : CHeader → Header
header_of h =
    record {
      shape = one_tier h.heap_size h.rows h.cols h.layers;
      totals = record { weight = h.weight; updates = h.updates };
      mode = mode_by h.mode;
      flags = h.flags;
      lens = h.lens;
    }

abbrev pub c_header : Header → CHeader
c_header h =
    record {
      heap_size = h.shape.heap_size;
      rows = h.shape.mouse_rows;
      cols = h.shape.mouse_cols;
      layers = h.shape.layers;
      weight = h.totals.weight;
      updates = h.totals.updates;
      mode = mode_number h.mode;
      lens = h.lens;
      flags = h.flags;
    }

-- C's header from shape, weight, updates, mode, and the lengths and flags that are lent; then what the library takes by value of it: all but lengths and flags
abbrev pub c_head : CShape → ℕ → ℕ → ℕ → List ℕ → List Bool → CHeader
c_head s w u m ns fs = record { heap_size = s.heap_size; rows = s.rows; cols = s.cols; layers = s.layers; weight = w; updates = u; mode = m; lens = ns; flags = fs }

abbrev pub c_scalars : CShape → ℕ → ℕ → ℕ → Scalars
c_scalars s w u m =
    record {
      shape = one_tier s.heap_size s.rows s.cols s.layers;
      totals = record { weight = w; updates = u };
      mode = mode_by m;
    }

-- ---- answers

abbrev pub c_step : AnsweredLent → CStep
c_step b = record { refusal = b.refusal; weight = b.scalars.totals.weight; updates = b.scalars.totals.updates; mode = mode_number b.scalars.mode }

abbrev pub c_answered : Answered → CAnswered
c_answered a = record { refusal = a.refusal; header = c_header a.header }

abbrev pub c_bottom : Judged ℕ → CBottom
c_bottom (Judged.yes l) = record { refusal = 0; layer = l }
c_bottom (Judged.no n) = record { refusal = n; layer = 0 }

abbrev pub c_answer : Answer → CAnswer
c_answer a = record { refusal = a.refusal; value = a.value }

abbrev pub c_written : Written → CWritten
c_written w = record { refusal = w.refusal; bytes = w.bytes }

abbrev pub c_panel : PanelAnswer → CPanel
c_panel a = record { refusal = a.refusal; l1 = a.l1; l2 = a.l2; cardinality = a.cardinality }
