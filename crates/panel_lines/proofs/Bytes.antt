-- One byte of a chunk: held, or the end of a line. Assumes nothing.
use Prim.Native.Nat.{ℕ, ◌+◌, ◌≤◌, ◌<◌}
use mathlib.Core.Path.{◌≡◌}
use mathlib.Core.Bool.{true, false}
use mathlib.Core.List.{List}
use lib.ListN.{length, get_or, set, take, drop, drop_of_length-le}
use lib.Seq.{drop-cons, take-suc-set, length-take-le}
use native.Mathlib.Omega.{arith}
use native.Mathlib.Numerals.{add-one}
use borrow.Author.Tests.{eq-eqb, ne_eqb, lt-ltb, le-ltb}
use Rattle.panel_lines.specs.Split.{most_held, push}
use Rattle.panel_lines.specs.inner.Steps.{step_of, stepped}

pub push-room : (l : List ℕ) (n b : ℕ) → n < most_held → most_held ≤ length l → take (n + 1) (set l n b) ≡ push (take n l) b
unfolding push
push-room l n b h k = rw (length-take-le n l (omega arith), lt-ltb n most_held h, add-one) (take-suc-set l n b (omega arith))

pub push_full : (l : List ℕ) (n b : ℕ) → most_held ≤ n → n ≤ length l → take n l ≡ push (take n l) b
unfolding push
push_full l n b h k = rw (length-take-le n l k, le-ltb n most_held h)

pub step_more : (s h : List ℕ) (i : ℕ) → i < length s → (get_or s i 0 ≡ 10 → ⊥) → step_of h i (drop i s) ≡ step_of (push h (get_or s i 0)) (i + 1) (drop (i + 1) s)
unfolding step_of
step_more s h i l e = rw (drop-cons s i 0 l, ne_eqb _ 10 e, add-one)

pub step_line : (s h : List ℕ) (i : ℕ) → i < length s → get_or s i 0 ≡ 10 → step_of h i (drop i s) ≡ stepped h (i + 1) true
unfolding step_of
step_line s h i l e = rw (drop-cons s i 0 l, eq-eqb _ 10 e, add-one)

pub step_end : (s h : List ℕ) (i : ℕ) → length s ≤ i → step_of h i (drop i s) ≡ stepped h i false
unfolding step_of
step_end s h i l = rw (drop_of_length-le s l)
