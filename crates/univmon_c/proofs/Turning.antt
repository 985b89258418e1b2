-- An update from C on lent lengths and flags is the library's own on the header that C's stands for. Assumes nothing.
use Prim.Native.Nat.{ℕ, ◌≤◌}
use mathlib.Core.Path.{◌≡◌, refl, sym, ap, ◌∙◌}
use mathlib.Core.Bool.{Bool, true}
use mathlib.Core.List.{List}
use lib.IntN.{ℤ}
use borrow.Author.Tests.{le-leb}
use Rattle.header.specs.declared.Shape.{Shape}
use Rattle.layout.specs.Slices.{Lent}
use Rattle.layout.specs.Outcomes.{Outcome, Left, left, left_by}
use Rattle.univmon.specs.declared.Kind.{Kind}
use Rattle.univmon.specs.Calls.{lent_update_list_call}
use Rattle.univmon_c.proofs.Shapes.{update-shape}
use Rattle.univmon_c.specs.Calls.{Face, CLent, c_lent, lent_of, of_lent, c_left, crossed, change_by}

module _ {H : Type 0} (f : Face H) where
  changed : (ok : Bool) (g : Lent → Outcome) (r : CLent H) → f.mode r.head ≤ 2 → ok ≡ true → (n : ℕ) (t : Lent)
      → left n t ≡ left_by (lent_of f r) (g (lent_of f r)) → c_left n (of_lent f t) ≡ change_by f ok g r
  unfolding change_by
  changed ok g r h k n t e = ap (crossed f) e ∙ simp (le-leb _ _ h, k)

  -- what C has after an update on lent lengths and flags: a shape, and all else from t
  abbrev pub with_shape : Shape → Lent → CLent H
  with_shape sh t =
      c_lent (f.back (record { shape = sh; totals = t.head.totals; mode = t.head.mode; flags = t.head.flags; lens = t.head.lens })) t.counters t.norms t.entries t.counts

  -- the shape is C's own
  pub stepped : (k : Kind) (words : List ℕ) (w : ℤ) (m : ℕ) (r : CLent H) → f.mode r.head ≤ 2 → (n : ℕ) (t : Lent)
      → left n t ≡ left_by (lent_of f r) (lent_update_list_call k (lent_of f r) words w m)
      → c_left n (with_shape (lent_of f r).head.shape t) ≡ change_by f true (λ s. lent_update_list_call k s words w m) r
  stepped k words w m r h n t e = ap (λ (sh : Shape). c_left n (with_shape sh t)) (sym same) ∙ changed true (λ s. lent_update_list_call k s words w m) r h refl n t e
    where
      same : t.head.shape ≡ (lent_of f r).head.shape
      same = ap (λ (l : Left). l.lends.head.shape) e ∙ update-shape k (lent_of f r) words w m
