-- What a caller of `read_line` passes on after an `add`: the first n words, with the n of `Request::Add`, are the record that
-- the line spells, and there are no more than a line has room for. Assumes nothing.
use Prim.Native.Nat.{ℕ, suc, ◌+◌, ◌*◌, ◌≤◌}
use mathlib.Core.Path.{◌≡◌, refl, sym, ap, ◌∙◌}
use mathlib.Core.List.{List, [], ◌∷◌, ◌++◌}
use lib.IntN.{ℤ}
use lib.ListN.{length, take, drop, length-append}
use lib.Seq.{sets, sets-eq, take_at}
use native.Mathlib.Omega.{arith}
use Rattle.text.specs.Decimals.{dec}
use Rattle.text.specs.Signs.{signed_dec}
use Rattle.text.specs.Hex.{hex_digits}
use Rattle.text.proofs.Puts.{hex_length}
use Rattle.panel_lines.specs.declared.line.Request.TheVariants.{Shape, Add, Show, Unreadable}
use Rattle.panel_lines.specs.Line.{longest_line, line_words, Reading, read_of}
use Rattle.panel_lines.specs.Ask.{Ask, shape, add, show, Pair, pairs_text, pair_words, ask_text, reading_of, Writes, Readable}
use Rattle.panel_lines.proofs.Readable.{read_is_written}

pairs-length : (ps : List Pair) → length (pairs_text ps) ≡ 36 * length ps
unfolding pairs_text
pairs-length [] = refl
pairs-length (p ∷ ps) =
    let low = hex_digits 16 p.low in
    let high = hex_digits 16 p.high in
    omega (arith, pairs-length ps, hex_length 16 p.low, hex_length 16 p.high, length-append low (41 ∷ pairs_text ps), length-append high (32 ∷ (low ++ (41 ∷ pairs_text ps))))

words-length : (ps : List Pair) → length (pair_words ps) ≡ 2 * length ps
unfolding pair_words
words-length [] = refl
words-length (p ∷ ps) = omega (arith, words-length ps)

-- a short line has no room for more pairs
few-pairs : (k : ℕ) (w : ℤ) (b : ℕ) (ps : List Pair) → length (ask_text (add k w b ps)) ≤ longest_line → 2 + 2 * length ps ≤ line_words
unfolding ask_text
few-pairs k w b ps h =
    let t3 = pairs_text ps ++ (41 ∷ []) in
    let t2 = hex_digits 16 b ++ t3 in
    let t1 = signed_dec w ++ (32 ∷ t2) in
    omega (arith, h, length-append (dec k) (32 ∷ t1), length-append (signed_dec w) (32 ∷ t2), length-append (hex_digits 16 b) t3, hex_length 16 b, length-append (pairs_text ps) (41 ∷ []), pairs-length ps)

record Recorded (s : List ℕ) (n : ℕ) : Type 0 where
  many : length (read_of s).words ≡ n
  few : n ≤ line_words

recorded : (s : List ℕ) (w : ℤ) (n : ℕ) → (read_of s).request ≡ Add w n → Recorded s n
unfolding reading_of
recorded s w n e = go found.0 found.1.0 found.1.1
  where
    reads : Readable s
    reads u = let q : Add w n ≡ Unreadable = sym e ∙ u in let z : ◌≡◌ {A = ℕ} 0 1 = cc in omega arith

    found : (q : Ask) × (Writes q s × (read_of s ≡ reading_of q))
    found = read_is_written s reads

    go : (q : Ask) → Writes q s → read_of s ≡ reading_of q → Recorded s n
    go (shape h r c l) a f = let q : Add w n ≡ Shape h r c l = sym e ∙ ap (λ (x : Reading). x.request) f in let z : ◌≡◌ {A = ℕ} 0 1 = cc in absurd (omega arith)
    go show a f = let q : Add w n ≡ Show = sym e ∙ ap (λ (x : Reading). x.request) f in let z : ◌≡◌ {A = ℕ} 0 1 = cc in absurd (omega arith)
    go (add k v b ps) a f =
        let q : Add w n ≡ Add v (2 + 2 * length ps) = sym e ∙ ap (λ (x : Reading). x.request) f in
        let m : n ≡ 2 + 2 * length ps = cc in
        let l : length (read_of s).words ≡ suc (suc (length (pair_words ps))) = ap (λ (x : Reading). length x.words) f in
        let p = few-pairs k v b ps (rw a.text at a.short) in
        record { many = omega (arith, l, words-length ps, m); few = omega (arith, p, m) }

pub add_words : (s : List ℕ) (w : ℤ) (n : ℕ) → (read_of s).request ≡ Add w n → length (read_of s).words ≡ n
add_words s w n e = (recorded s w n e).many

pub add-few : (s : List ℕ) (w : ℤ) (n : ℕ) → (read_of s).request ≡ Add w n → n ≤ line_words
add-few s w n e = (recorded s w n e).few

pub record_is : (s ws : List ℕ) (w : ℤ) (n : ℕ) → line_words ≤ length ws → (read_of s).request ≡ Add w n → take n (sets ws 0 (read_of s).words) ≡ (read_of s).words
record_is s ws w n h e =
    let r = recorded s w n e in
    let l : 0 + length (read_of s).words ≤ length ws = omega (arith, r.many, r.few) in
    rw (sets-eq (read_of s).words ws 0 l) (take_at (read_of s).words (drop (0 + length (read_of s).words) ws) n r.many)
