-- Pairs ` (HI LO)`, both ways: what is written is read back, and what is read was written. Assumes nothing.
use Prim.Native.Nat.{ℕ, zero, suc, ◌+◌, ◌*◌}
use mathlib.Core.Path.{◌≡◌, refl, sym, ap, ◌∙◌}
use mathlib.Core.Bool.{Bool, true, false, ◌&&◌}
use mathlib.Core.List.{List, [], ◌∷◌, ◌++◌, append_assoc}
use lib.ListN.{length, get_or, drop}
use lib.Dec.{eqb}
use native.Mathlib.Omega.{arith}
use borrow.Author.Tests.{eqb-true}
use Rattle.words.proofs.Bools.{never, and_left, and_right}
use Rattle.text.specs.Decimals.{Word}
use Rattle.text.specs.Hex.{hex_digits, hex_ok_at, hex_at}
use Rattle.text.proofs.Spots.{here, byte_at}
use Rattle.text.proofs.HexTexts.{hex_ok-reads, hex_reads, hex_past, hex_sound, hex_word}
use Rattle.panel_lines.specs.Line.{pair_ok_at, all_pairs, halves}
use Rattle.panel_lines.specs.Ask.{Pair, PairsIn, pairs_text, pair_words}

-- the text of one pair, with t after it
abbrev pair_text : ℕ → ℕ → List ℕ → List ℕ
pair_text h l t = 32 ∷ (40 ∷ (hex_digits 16 h ++ (32 ∷ (hex_digits 16 l ++ (41 ∷ t)))))

-- ---- written, then read

-- the pair of halves h and l stands at place i, and t is what is left past it
record PairAt (s : List ℕ) (i h l : ℕ) (t : List ℕ) : Type 0 where
  ok : pair_ok_at s i ≡ true
  high : hex_at s (i + 2) ≡ h
  low : hex_at s (i + 19) ≡ l
  rest : drop (i + 36) s ≡ t

pair_ok : (s : List ℕ) (i : ℕ) → get_or s i 0 ≡ 32 → get_or s (i + 1) 0 ≡ 40 → hex_ok_at s (i + 2) ≡ true → get_or s (i + 18) 0 ≡ 32 → hex_ok_at s (i + 19) ≡ true → get_or s (i + 35) 0 ≡ 41 → pair_ok_at s i ≡ true
unfolding pair_ok_at
pair_ok s i a b c d e f = rw (a, b, c, d, e, f)

pair_reads : (s t : List ℕ) (i h l : ℕ) → Word h → Word l → drop i s ≡ pair_text h l t → PairAt s i h l t
pair_reads s t i h l wh wl e =
    let n1 : suc i ≡ i + 1 = omega arith in
    let n2 : suc (i + 1) ≡ i + 2 = omega arith in
    let n18 : i + 2 + 16 ≡ i + 18 = omega arith in
    let n19 : suc (i + 18) ≡ i + 19 = omega arith in
    let n35 : i + 19 + 16 ≡ i + 35 = omega arith in
    let n36 : suc (i + 35) ≡ i + 36 = omega arith in
    let low = hex_digits 16 l ++ (41 ∷ t) in
    let p0 = here s (40 ∷ (hex_digits 16 h ++ (32 ∷ low))) i 32 e in
    let p1 = here s (hex_digits 16 h ++ (32 ∷ low)) (i + 1) 40 (rw n1 at p0.rest) in
    let e2 : drop (i + 2) s ≡ hex_digits 16 h ++ (32 ∷ low) = rw n2 at p1.rest in
    let p18 = here s low (i + 18) 32 (rw n18 at (hex_past s (32 ∷ low) (i + 2) h e2)) in
    let e19 : drop (i + 19) s ≡ low = rw n19 at p18.rest in
    let p35 = here s t (i + 35) 41 (rw n35 at (hex_past s (41 ∷ t) (i + 19) l e19)) in
    record {
      ok = pair_ok s i p0.byte p1.byte (hex_ok-reads s (32 ∷ low) (i + 2) h e2) p18.byte (hex_ok-reads s (41 ∷ t) (i + 19) l e19) p35.byte;
      high = hex_reads s (32 ∷ low) (i + 2) h wh e2;
      low = hex_reads s (41 ∷ t) (i + 19) l wl e19;
      rest = rw n36 at p35.rest;
    }

-- the pairs ps stand from place i on, and t is what is left past them
pub record PairsAt (s : List ℕ) (i : ℕ) (ps : List Pair) (t : List ℕ) : Type 0 where
  pub ok : all_pairs s i (length ps) ≡ true
  pub words : halves s i (length ps) ≡ pair_words ps
  pub rest : drop (i + 36 * length ps) s ≡ t

pairs-cons : (p : Pair) (ps : List Pair) (t : List ℕ) → pairs_text (p ∷ ps) ++ t ≡ pair_text p.high p.low (pairs_text ps ++ t)
unfolding pairs_text
pairs-cons p ps t = simp append_assoc

pub pairs-reads : (ps : List Pair) (s t : List ℕ) (i : ℕ) → PairsIn ps → drop i s ≡ pairs_text ps ++ t → PairsAt s i ps t
unfolding all_pairs halves pair_words pairs_text
pairs-reads [] s t i r e = let z : i + 36 * 0 ≡ i = omega arith in record { ok = refl; words = refl; rest = rw z e }
pairs-reads (p ∷ ps) s t i r e =
    let a = pair_reads s (pairs_text ps ++ t) i p.high p.low r.0 r.1.0 (e ∙ pairs-cons p ps t) in
    let b = pairs-reads ps s t (i + 36) r.1.1 a.rest in
    let z : i + 36 * suc (length ps) ≡ i + 36 + 36 * length ps = omega arith in
    record { ok = rw a.ok b.ok; words = rw (a.high, a.low, b.words); rest = rw z b.rest }

-- ---- read, hence written

-- the pair that is read at place i
abbrev pair_at : List ℕ → ℕ → Pair
pair_at s i = record { high = hex_at s (i + 2); low = hex_at s (i + 19) }

record PairIs (s : List ℕ) (i : ℕ) : Type 0 where
  high : Word (hex_at s (i + 2))
  low : Word (hex_at s (i + 19))
  text : drop i s ≡ pair_text (hex_at s (i + 2)) (hex_at s (i + 19)) (drop (i + 36) s)

pair-text : (s : List ℕ) (i : ℕ) → get_or s i 0 ≡ 32 → get_or s (i + 1) 0 ≡ 40 → hex_ok_at s (i + 2) ≡ true → get_or s (i + 18) 0 ≡ 32 → hex_ok_at s (i + 19) ≡ true → get_or s (i + 35) 0 ≡ 41 → PairIs s i
pair-text s i a b c d e f =
    let n2 : i + 1 + 1 ≡ i + 2 = omega arith in
    let n18 : i + 2 + 16 ≡ i + 18 = omega arith in
    let n19 : i + 18 + 1 ≡ i + 19 = omega arith in
    let n35 : i + 19 + 16 ≡ i + 35 = omega arith in
    let n36 : i + 35 + 1 ≡ i + 36 = omega arith in
    let e35 : drop (i + 19 + 16) s ≡ 41 ∷ drop (i + 36) s = rw (n35, ← n36) (byte_at s (i + 35) 40 f) in
    let e19 : drop (i + 19) s ≡ hex_digits 16 (hex_at s (i + 19)) ++ (41 ∷ drop (i + 36) s) = hex_sound s (i + 19) e ∙ ap (λ (z : List ℕ). hex_digits 16 (hex_at s (i + 19)) ++ z) e35 in
    let e18 : drop (i + 2 + 16) s ≡ 32 ∷ drop (i + 19) s = rw (n18, ← n19) (byte_at s (i + 18) 31 d) in
    let e2 : drop (i + 2) s ≡ hex_digits 16 (hex_at s (i + 2)) ++ (32 ∷ (hex_digits 16 (hex_at s (i + 19)) ++ (41 ∷ drop (i + 36) s))) = hex_sound s (i + 2) c ∙ ap (λ (z : List ℕ). hex_digits 16 (hex_at s (i + 2)) ++ z) (e18 ∙ ap (λ (z : List ℕ). 32 ∷ z) e19) in
    let e1 : drop (i + 1) s ≡ 40 ∷ drop (i + 2) s = rw n2 at (byte_at s (i + 1) 39 b) in
    record { high = hex_word s (i + 2) c; low = hex_word s (i + 19) e; text = byte_at s i 31 a ∙ ap (λ (z : List ℕ). 32 ∷ z) (e1 ∙ ap (λ (z : List ℕ). 40 ∷ z) e2) }

pair-sound : (s : List ℕ) (i : ℕ) → pair_ok_at s i ≡ true → PairIs s i
unfolding pair_ok_at
pair-sound s i e = go (eqb (get_or s i 0) 32) refl (eqb (get_or s (i + 1) 0) 40) refl (hex_ok_at s (i + 2)) refl (eqb (get_or s (i + 18) 0) 32) refl (hex_ok_at s (i + 19)) refl (eqb (get_or s (i + 35) 0) 41) refl e
  where
    go : (a : Bool) → eqb (get_or s i 0) 32 ≡ a → (b : Bool) → eqb (get_or s (i + 1) 0) 40 ≡ b → (h : Bool) → hex_ok_at s (i + 2) ≡ h → (d : Bool) → eqb (get_or s (i + 18) 0) 32 ≡ d
        → (l : Bool) → hex_ok_at s (i + 19) ≡ l → (f : Bool) → eqb (get_or s (i + 35) 0) 41 ≡ f → a && (b && (h && (d && (l && f)))) ≡ true → PairIs s i
    go false ea b eb h eh d ed l el f ef q = absurd (never q)
    go true ea false eb h eh d ed l el f ef q = absurd (never q)
    go true ea true eb false eh d ed l el f ef q = absurd (never q)
    go true ea true eb true eh false ed l el f ef q = absurd (never q)
    go true ea true eb true eh true ed false el f ef q = absurd (never q)
    go true ea true eb true eh true ed true el false ef q = absurd (never q)
    go true ea true eb true eh true ed true el true ef q = pair-text s i (eqb-true (get_or s i 0) 32 ea) (eqb-true (get_or s (i + 1) 0) 40 eb) eh (eqb-true (get_or s (i + 18) 0) 32 ed) el (eqb-true (get_or s (i + 35) 0) 41 ef)

-- the n pairs that are read from place i on
pub pairs_from : List ℕ → ℕ → ℕ → List Pair
pairs_from s i zero = []
pairs_from s i (suc n) = pair_at s i ∷ pairs_from s (i + 36) n

pub record PairsAre (s : List ℕ) (i n : ℕ) (ps : List Pair) : Type 0 where
  pub range : PairsIn ps
  pub many : length ps ≡ n
  pub words : halves s i n ≡ pair_words ps
  pub text : drop i s ≡ pairs_text ps ++ drop (i + 36 * n) s

pub pairs-sound : (n : ℕ) (s : List ℕ) (i : ℕ) → all_pairs s i n ≡ true → PairsAre s i n (pairs_from s i n)
unfolding all_pairs halves pair_words pairs_text pairs_from
pairs-sound zero s i e = let z : i + 36 * 0 ≡ i = omega arith in record { range = tt; many = refl; words = refl; text = rw z }
pairs-sound (suc n) s i e =
    let a = pair-sound s i (and_left (pair_ok_at s i) (all_pairs s (i + 36) n) e) in
    let b = pairs-sound n s (i + 36) (and_right (pair_ok_at s i) (all_pairs s (i + 36) n) e) in
    let z : i + 36 * suc n ≡ i + 36 + 36 * n = omega arith in
    record {
      range = (a.high, (a.low, b.range));
      many = ap suc b.many;
      words = rw b.words;
      text = a.text ∙ ap (pair_text (hex_at s (i + 2)) (hex_at s (i + 19))) b.text ∙ sym (pairs-cons (pair_at s i) (pairs_from s (i + 36) n) (drop (i + 36 + 36 * n) s)) ∙ rw z;
    }
