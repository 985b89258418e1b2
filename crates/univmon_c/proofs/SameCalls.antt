-- Calls from C on what the library left are the library's own: the statements stand in specs/SameCalls.antt. Assumes nothing.
use mathlib.Core.Path.{◌≡◌, refl, ap, ap₂, ◌∙◌}
use mathlib.Core.Bool.{true}
use mathlib.Core.List.{List}
use Prim.Native.Nat.{ℕ}
use Rattle.header.specs.declared.Mode.{Mode}
use Rattle.header.specs.declared.Mode.TheVariants as mode
use Rattle.header.specs.declared.Header.{Header}
use Rattle.header.specs.Header.{mode_number}
use Rattle.header.specs.OneTier.{OneTiered}
use Rattle.header.proofs.Modes.{mode-back}
use Rattle.layout.specs.Slices.{Lent, lent}
use Rattle.layout.specs.Outcomes.{Outcome, left_by}
use Rattle.univmon.specs.Calls.{update_list_call, lent_update_list_call}
use Rattle.univmon_merge.specs.Merges.{merge_list_call}
use Rattle.state_text.specs.Calls.{write_call}
use Rattle.univmon_c.specs.Crossing.{is_mode}
use Rattle.univmon_c.specs.Calls.{Face, one_tier_face, of_lent, crossed, change_by, merge_by, crossed_copy, write_by}
use Rattle.univmon_c.specs.SameCalls.{Crosses, SameCalls, OneTierFromC}

is-mode : (m : Mode) → is_mode (mode_number m) ≡ true
is-mode mode.Unset = refl
is-mode mode.Standard = refl
is-mode mode.Terminal = refl

-- ---- over any face that keeps the mode's number

module _ {H : Type 0} (f : Face H) (same : (h : Header) → f.mode (f.back h) ≡ mode_number h.mode) where
  its_mode : (r : Lent) → is_mode (f.mode (f.back r.head)) ≡ true
  its_mode r = ap is_mode (same r.head) ∙ is-mode r.head.mode

  change-same : (g : Lent → Outcome) (r : Lent) → Crosses f r → change_by f true g (of_lent f r) ≡ crossed f (left_by r (g r))
  unfolding change_by
  change-same g r e = rw (its_mode r) (ap (λ (z : Lent). crossed f (left_by z (g z))) e)

  merge-same : (g : Lent → Lent → Outcome) (r t : Lent) → Crosses f r → Crosses f t → merge_by f g (of_lent f r) (of_lent f t) ≡ crossed f (left_by r (g r t))
  unfolding merge_by
  merge-same g r t e d = rw (its_mode r, its_mode t) (ap₂ (λ (y z : Lent). crossed f (left_by y (g y z))) e d)

  pub same_calls : (r : Lent) → Crosses f r → SameCalls f r
  same_calls r e =
      record {
        update = λ k words w n. change-same (λ s. update_list_call k s words w n) r e;
        lent = λ k words w n. change-same (λ s. lent_update_list_call k s words w n) r e;
        merge = λ t n d. merge-same (λ s u. merge_list_call s u n) r t e d;
      }

-- ---- one tier

crosses : (r : Lent) → OneTiered r.head.shape → Crosses one_tier_face r
crosses r e =
    λ i. lent (record { shape = e i; totals = r.head.totals; mode = mode-back r.head.mode i; flags = r.head.flags; lens = r.head.lens }) r.counters r.norms r.entries r.counts

write_same : (r : Lent) → Crosses one_tier_face r → (out : List ℕ) → write_by write_call (of_lent one_tier_face r) out ≡ crossed_copy (write_call r out)
unfolding write_by
write_same r e out = rw (is-mode r.head.mode) (ap (λ (z : Lent). crossed_copy (write_call z out)) e)

pub one_tier_from_c : OneTierFromC
one_tier_from_c r e = record { crosses = crosses r e; same = same_calls one_tier_face (λ h. refl) r (crosses r e); write = write_same r (crosses r e) }
