-- The weight that a line spells is a signed word. Assumes nothing.
use Prim.Native.Nat.{ℕ, ◌+◌, ◌*◌}
use mathlib.Core.Path.{◌≡◌, sym, ap, ◌∙◌, subst}
use mathlib.Core.List.{List}
use lib.IntN.{ℤ}
use lib.ListN.{length}
use native.Mathlib.Omega.{arith}
use mir.Syntax.{w64}
use mir.Val.{to_z, of_z}
use Rattle.text.specs.Signs.{SignedWord}
use Rattle.text.proofs.IntReads.{fits-back}
use Rattle.panel_lines.specs.declared.line.Request.TheVariants.{Shape, Add, Show, Unreadable}
use Rattle.panel_lines.specs.Line.{Reading, read_of}
use Rattle.panel_lines.specs.Ask.{Ask, shape, add, show, reading_of, Writes, Readable}
use Rattle.panel_lines.proofs.Readable.{read_is_written}

pub weight-back : (s : List ℕ) (w : ℤ) (n : ℕ) → (read_of s).request ≡ Add w n → to_z w64 (of_z w64 w) ≡ w
unfolding reading_of
weight-back s w n e = go found.0 found.1.0 found.1.1
  where
    reads : Readable s
    reads u = let q : Add w n ≡ Unreadable = sym e ∙ u in let z : ◌≡◌ {A = ℕ} 0 1 = cc in omega arith

    found : (q : Ask) × (Writes q s × (read_of s ≡ reading_of q))
    found = read_is_written s reads

    go : (q : Ask) → Writes q s → read_of s ≡ reading_of q → to_z w64 (of_z w64 w) ≡ w
    go (shape h r c l) a f = let q : Add w n ≡ Shape h r c l = sym e ∙ ap (λ (x : Reading). x.request) f in let z : ◌≡◌ {A = ℕ} 0 1 = cc in absurd (omega arith)
    go show a f = let q : Add w n ≡ Show = sym e ∙ ap (λ (x : Reading). x.request) f in let z : ◌≡◌ {A = ℕ} 0 1 = cc in absurd (omega arith)
    go (add k v b ps) a f =
        let q : Add w n ≡ Add v (2 + 2 * length ps) = sym e ∙ ap (λ (x : Reading). x.request) f in
        let m : w ≡ v = cc in
        fits-back w (subst SignedWord (sym m) a.range.1.0)
