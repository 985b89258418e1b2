-- What a call from C leaves is what the library's own call leaves, as C has it, and the next call on that is again the library's own. So the theorem on shared
-- streams holds of relays that are called from C too; of such a relay it also says that the update with lengths and flags lent is the one by value (`Claimed.lent`).
use Rattle.std.specs.Prelude.{◌≡◌, true, List, ℕ, ℤ}
use Rattle.header.specs.OneTier.{OneTiered}
use Rattle.layout.specs.Slices.{Lent}
use Rattle.layout.specs.Outcomes.{left_by}
use Rattle.univmon.specs.declared.Kind.{Kind}
use Rattle.univmon.specs.Calls.{update_list_call, lent_update_list_call}
use Rattle.univmon_merge.specs.Merges.{merge_list_call}
use Rattle.state_text.specs.Calls.{write_call}
use Rattle.univmon_c.specs.Calls.{Face, one_tier_face, lent_of, of_lent, crossed, change_by, merge_by, crossed_copy, write_by}

-- a state that is not changed by the way to C and back
abbrev pub Crosses : {H : Type 0} → Face H → Lent → Type 0
Crosses f r = lent_of f (of_lent f r) ≡ r

-- on r as C has it, an update by value, one with lengths and flags lent, and a merge of any other such state are the library's own calls
pub record SameCalls {H : Type 0} (f : Face H) (r : Lent) : Type 0 where
  pub update : (k : Kind) (words : List ℕ) (w : ℤ) (n : ℕ)
      → change_by f true (λ s. update_list_call k s words w n) (of_lent f r) ≡ crossed f (left_by r (update_list_call k r words w n))
  pub lent : (k : Kind) (words : List ℕ) (w : ℤ) (n : ℕ)
      → change_by f true (λ s. lent_update_list_call k s words w n) (of_lent f r) ≡ crossed f (left_by r (lent_update_list_call k r words w n))
  pub merge : (t : Lent) (n : ℕ) → Crosses f t → merge_by f (λ s u. merge_list_call s u n) (of_lent f r) (of_lent f t) ≡ crossed f (left_by r (merge_list_call r t n))

-- of one tier: nothing is lost on the way, and the writing of a state's text is the library's own call too
pub record FromC (r : Lent) : Type 0 where
  pub crosses : Crosses one_tier_face r
  pub same : SameCalls one_tier_face r
  pub write : (out : List ℕ) → write_by write_call (of_lent one_tier_face r) out ≡ crossed_copy (write_call r out)

abbrev pub OneTierFromC : Type 0
OneTierFromC = (r : Lent) → OneTiered r.head.shape → FromC r
