-- The end of an `add` line: its pairs, and the bracket that closes it. Assumes nothing.
use Prim.Native.Nat.{ℕ, ◌+◌, ◌-◌, ◌*◌, ◌/◌, ◌%◌, ◌<◌}
use mathlib.Core.Path.{◌≡◌, refl}
use mathlib.Core.Bool.{Bool, true, false, cond, not}
use mathlib.Core.List.{List}
use Rattle.std.specs.Prelude.{Some, None}
use lib.ListN.{length, get_or}
use lib.Dec.{eqb, leb}
use native.Mathlib.Omega.{arith}
use borrow.Author.Tests.{eq-eqb, lt-leb, leb-false, eqb-true}
use Rattle.panel_lines.specs.Line.{all_pairs, tail_at}

-- n pairs from i on, and the bracket that ends the line
pub record Tailed (s : List ℕ) (i n : ℕ) : Type 0 where
  pub long : length s ≡ i + 36 * n + 1
  pub pairs : all_pairs s i n ≡ true
  pub close : get_or s (i + 36 * n) 0 ≡ 41

clash : (n : ℕ) → None ≡ Some n → ⊥
clash n e = let z : ◌≡◌ {A = ℕ} 0 1 = cc in omega arith

pub tail_sound : (s : List ℕ) (i n : ℕ) → tail_at s i ≡ Some n → Tailed s i n
unfolding tail_at
tail_sound s i n e = go (leb (length s) i) refl (eqb (r % 36) 0) refl (all_pairs s i (r / 36)) refl (eqb (get_or s (length s - 1) 0) 41) refl e
  where
    r : ℕ
    r = length s - i - 1

    go : (a : Bool) → leb (length s) i ≡ a → (b : Bool) → eqb (r % 36) 0 ≡ b → (c : Bool) → all_pairs s i (r / 36) ≡ c → (d : Bool) → eqb (get_or s (length s - 1) 0) 41 ≡ d
        → cond a None (cond (not b) None (cond (not c) None (cond (not d) None (Some (r / 36))))) ≡ Some n → Tailed s i n
    go true ea b eb c ec d ed q = absurd (clash n q)
    go false ea false eb c ec d ed q = absurd (clash n q)
    go false ea true eb false ec d ed q = absurd (clash n q)
    go false ea true eb true ec false ed q = absurd (clash n q)
    go false ea true eb true ec true ed q =
        let m : r / 36 ≡ n = cc in
        let l : length s ≡ i + 36 * n + 1 = omega (arith, leb-false (length s) i ea, eqb-true (r % 36) 0 eb) in
        let z : length s - 1 ≡ i + 36 * n = omega (arith, l) in
        record { long = l; pairs = rw m at ec; close = rw z at (eqb-true (get_or s (length s - 1) 0) 41 ed) }

pub tail_reads : (s : List ℕ) (i n : ℕ) → Tailed s i n → tail_at s i ≡ Some n
unfolding tail_at
tail_reads s i n t =
    let l : length s ≡ i + 36 * n + 1 = t.long in
    let r : length s - i - 1 ≡ 36 * n = omega arith in
    let m : 36 * n % 36 ≡ 0 = omega arith in
    let d : 36 * n / 36 ≡ n = omega arith in
    let z : length s - 1 ≡ i + 36 * n = omega arith in
    rw (lt-leb (length s) i (omega arith), r, m, d, t.pairs, z, eq-eqb (get_or s (i + 36 * n) 0) 41 t.close)

pub tail_room : (s : List ℕ) (i n : ℕ) → tail_at s i ≡ Some n → i + 36 * n < length s
tail_room s i n e = omega (arith, (tail_sound s i n e).long)
