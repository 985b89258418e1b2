-- The calls as C makes them: each is the library's own call on the header that C's stands for. A number that stands for nothing is refused with 9, and
-- then "Header and slices remain unchanged".
use Rattle.std.specs.Prelude.{ℕ, Bool, cond, ◌&&◌, List, ℤ}
use Rattle.header.specs.declared.Header.{Header}
use Rattle.header.specs.Answers.{Answered}
use Rattle.layout.specs.Slices.{Lent, lent}
use Rattle.layout.specs.Outcomes.{Outcome, Left, left_by}
use Rattle.estimates.specs.Answers.{Answer}
use Rattle.estimates.specs.declared.PanelAnswer.{PanelAnswer}
use Rattle.estimates.specs.Calls.{refused_by, no_panel}
use Rattle.state_text.specs.Calls.{Copied, not_copied}
use Rattle.univmon_c.specs.declared.CHeader.{CHeader}
use Rattle.univmon_c.specs.declared.CAnswered.{CAnswered}
use Rattle.univmon_c.specs.declared.CAnswer.{CAnswer}
use Rattle.univmon_c.specs.declared.CPanel.{CPanel}
use Rattle.univmon_c.specs.declared.CWritten.{CWritten}
use Rattle.univmon_c.specs.Crossing.{is_mode, header_of, c_header, c_answered, c_answer, c_written, c_panel}

-- ---- headers as C has them

-- what a type of headers is to the library: the number of a header's mode, the header that it stands for, and what stands for a header. `UnivMon`'s has four
-- dimensions and `UnivMonTwoTier`'s seven; all that is said of calls from C is said over such a face
pub record Face (H : Type 0) : Type 0 where
  pub mode : H → ℕ
  pub stands : H → Header
  pub back : Header → H

-- ---- a state as C lends it

pub record CLent (H : Type 0) : Type 0 where
  pub head : H
  pub counters : List ℤ
  pub norms : List ℕ
  pub entries : List ℕ
  pub counts : List ℤ

abbrev pub c_lent : {H : Type 0} → H → List ℤ → List ℕ → List ℕ → List ℤ → CLent H
c_lent h xs ws es ns = record { head = h; counters = xs; norms = ws; entries = es; counts = ns }

-- the state that it stands for, and back
abbrev pub lent_of : {H : Type 0} → Face H → CLent H → Lent
lent_of f r = lent (f.stands r.head) r.counters r.norms r.entries r.counts

abbrev pub of_lent : {H : Type 0} → Face H → Lent → CLent H
of_lent f r = c_lent (f.back r.head) r.counters r.norms r.entries r.counts

-- ---- the number that is answered, 0 for none, and what is left

pub record CLeft (H : Type 0) : Type 0 where
  pub refusal : ℕ
  pub lends : CLent H

abbrev pub c_left : {H : Type 0} → ℕ → CLent H → CLeft H
c_left n r = record { refusal = n; lends = r }

abbrev pub crossed : {H : Type 0} → Face H → Left → CLeft H
crossed f a = c_left a.refusal (of_lent f a.lends)

-- a call that changes a state; `ok` says whether the call's own numbers stand for something
unfoldable pub change_by : {H : Type 0} → Face H → Bool → (Lent → Outcome) → CLent H → CLeft H
change_by f ok g r = cond (is_mode (f.mode r.head) && ok) (crossed f (left_by (lent_of f r) (g (lent_of f r)))) (c_left 9 r)

-- a merge: both modes must be modes
unfoldable pub merge_by : {H : Type 0} → Face H → (Lent → Lent → Outcome) → CLent H → CLent H → CLeft H
merge_by f g r t = cond (is_mode (f.mode r.head) && is_mode (f.mode t.head)) (crossed f (left_by (lent_of f r) (g (lent_of f r) (lent_of f t)))) (c_left 9 r)

-- a call that answers with a float, on a header whose mode has the number m
unfoldable pub answer_by : Bool → ℕ → Answer → CAnswer
answer_by ok m a = cond (is_mode m && ok) (c_answer a) (c_answer (refused_by 9))

-- ---- of one tier

abbrev pub one_tier_face : Face CHeader
one_tier_face = record { mode = λ h. h.mode; stands = header_of; back = c_header }

-- a call on the header alone
unfoldable pub head_by : (Header → Answered) → CHeader → CAnswered
head_by f h = cond (is_mode h.mode) (c_answered (f (header_of h))) (record { refusal = 9; header = h })

-- the panel answer
unfoldable pub panel_by : CHeader → PanelAnswer → CPanel
panel_by h a = cond (is_mode h.mode) (c_panel a) (c_panel (no_panel 9))

-- a state's text, and the space that was lent for it
pub record CCopied : Type 0 where
  pub answer : CWritten
  pub out : List ℕ

abbrev pub c_copied : CWritten → List ℕ → CCopied
c_copied a o = record { answer = a; out = o }

abbrev pub crossed_copy : Copied → CCopied
crossed_copy a = c_copied (c_written a.answer) a.out

unfoldable pub write_by : (Lent → List ℕ → Copied) → CLent CHeader → List ℕ → CCopied
write_by f r o = cond (is_mode r.head.mode) (crossed_copy (f (lent_of one_tier_face r) o)) (crossed_copy (not_copied 9 o))

-- a yes or no on a whole state: no, where the mode's number stands for no mode
unfoldable pub check_by : (Lent → Bool) → CLent CHeader → Bool
check_by f r = is_mode r.head.mode && f (lent_of one_tier_face r)
