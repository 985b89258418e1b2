-- The two calls: writing a state, and reading one.
use Rattle.std.specs.Prelude.{ℕ, Bool, cond, not, ◌&&◌, List, length, eqb, ltb, Result}
use Rattle.std.proofs.lemmas.List.Edits.{sets}
use Rattle.header.specs.declared.Shape.{Shape}
use Rattle.header.specs.Shape.{shape_refusal}
use Rattle.header.specs.OneTier.{is_one_tier}
use Rattle.header.specs.Header.{zero_header}
use Rattle.layout.specs.Slices.{Lent, lent, lengths_ok, view, flat}
use Rattle.layout.specs.Outcomes.{Left, left}
use Rattle.state_check.specs.Check.{state_ok}
use Rattle.state_forms.specs.Formats.{Got, got, bad}
use Rattle.state_forms.specs.Grammar.{first_format}
use Rattle.state_forms.specs.Whole.{First, Others, others_r}
use Rattle.refusal.specs.declared.Refusal.{Refusal}
use Rattle.refusal.specs.Refusals.{refused, kept}
use Rattle.state_text.specs.Pages.{frame_of, dims_of, shape_from, state_from, text_of}

-- ---- "The writer refuses a state that fails the check with 9. The writer answers the number of bytes written; bytes past them remain."

-- a refusal's number, 0 for none, and the number of bytes
pub record Written : Type 0 where
  pub refusal : ℕ
  pub bytes : ℕ

abbrev pub written_by : Result ℕ Refusal → Written
written_by r = record { refusal = refused r; bytes = kept 0 r }

-- the answer, and the space that was lent
pub record Copied : Type 0 where
  pub answer : Written
  pub out : List ℕ

abbrev pub copied : Written → List ℕ → Copied
copied a o = record { answer = a; out = o }

-- "On a refusal, here and later, whatever is answered beside the number and the header is 0 or false."
abbrev pub not_copied : ℕ → List ℕ → Copied
not_copied n o = copied (record { refusal = n; bytes = 0 }) o

-- a state that has a text: it passes the check, and has one tier
abbrev pub has_text : Lent → Bool
has_text r = state_ok r && is_one_tier r.head.shape

-- "The writer gives 9, then 16"
unfoldable pub write_call : Lent → List ℕ → Copied
write_call r out =
    cond (not (has_text r)) (not_copied 9 out)
    (cond (ltb (length out) (length (text_of (view r)))) (not_copied 16 out)
    (copied (record { refusal = 0; bytes = length (text_of (view r)) }) (sets out 0 (text_of (view r)))))

-- ---- "the reader judges the first line (15, then 1 to 4), then 16, then the other lines (15)"

-- the lent slices, with a header "as a refused `new` does"
abbrev pub unread : ℕ → Lent → Left
unread n q = left n (lent zero_header q.counters q.norms q.entries q.counts)

unfoldable pub after_others : Lent → Shape → Got Others → Left
after_others q sh (got d t) = left 0 (flat (state_from sh d))
after_others q sh bad = unread 15 q

unfoldable pub after_first : Lent → Got First → Left
after_first q (got f t) =
    cond (not (eqb (shape_refusal (shape_from f)) 0)) (unread (shape_refusal (shape_from f)) q)
    (cond (not (lengths_ok (shape_from f) (length q.counters) (length q.norms) (length q.entries) (length q.counts))) (unread 16 q)
    (after_others q (shape_from f) (others_r (frame_of (dims_of (shape_from f))) f.1.1.1 t)))
after_first q bad = unread 15 q

-- a text, and the slices that are lent: the header of q is not looked at
unfoldable pub read_call : List ℕ → Lent → Left
read_call t q = after_first q (first_format.read t)
