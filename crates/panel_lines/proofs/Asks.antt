-- The requests one by one: a written one is read back, and one that is read was written. Assumes nothing.
use Prim.Native.Nat.{ℕ, suc, ◌+◌, ◌*◌, ◌≤◌}
use mathlib.Core.Path.{◌≡◌, refl, ap, ◌∙◌}
use mathlib.Core.Bool.{Bool, true, false, cond, not}
use mathlib.Core.List.{List, [], ◌∷◌, ◌++◌}
use lib.IntN.{ℤ}
use Rattle.std.specs.Prelude.{Option, Some, None}
use lib.ListN.{length, drop, drop_of_length-le}
use lib.Dec.{eqb}
use native.Mathlib.Omega.{arith}
use borrow.Author.Tests.{eq-eqb, eqb-true}
use Rattle.text.specs.Words.{is_prefix}
use Rattle.text.specs.Decimals.{Num, is_digit, dec, Word, field_at}
use Rattle.text.specs.Signs.{Int, signed_dec, SignedWord, int_at}
use Rattle.text.specs.Hex.{hex_digits, hex_ok_at, hex_at}
use Rattle.text.proofs.Spots.{past, at_end, word_is, byte_at}
use Rattle.text.proofs.DecReads.{field-reads}
use Rattle.text.proofs.DecSound.{Field, field-sound}
use Rattle.text.proofs.IntReads.{int-reads, IntField, int-sound}
use Rattle.text.proofs.HexTexts.{hex_ok-reads, hex_reads, hex_past, hex_sound, hex_word}
use Rattle.panel_lines.specs.declared.line.Request.TheVariants.{Shape, Add}
use Rattle.panel_lines.specs.Line.{longest_line, Reading, asked, unreadable, shape_word, add_word, then_num, then_int, then_tail, tail_at, halves, read_shape, read_add}
use Rattle.panel_lines.specs.Ask.{Ask, shape, add, Pair, pairs_text, PairsIn, pair_words, ask_text, reading_of, Writes}
use Rattle.panel_lines.proofs.Tails.{Tailed, tail_sound, tail_reads}
use Rattle.panel_lines.proofs.Pairs.{pairs-reads, pairs_from, pairs-sound}

-- neither a space nor a closing bracket is a digit
stop_space : is_digit 32 ≡ false
unfolding is_digit
stop_space = refl

stop_close : is_digit 41 ≡ false
unfolding is_digit
stop_close = refl

-- ---- written, then read

pub shape-reads : (s : List ℕ) (h r c l : ℕ) → Word h → Word r → Word c → Word l
    → drop 7 s ≡ dec h ++ (32 ∷ (dec r ++ (32 ∷ (dec c ++ (32 ∷ (dec l ++ (41 ∷ []))))))) → read_shape s ≡ asked (Shape h r c l)
unfolding read_shape
shape-reads s h r c l bh br bc bl w =
    let t3 = dec l ++ (41 ∷ []) in
    let t2 = dec c ++ (32 ∷ t3) in
    let t1 = dec r ++ (32 ∷ t2) in
    let i = suc (7 + length (dec h)) in
    let e1 : drop i s ≡ t1 = (past s (dec h) t1 7 32 w).rest in
    let j = suc (i + length (dec r)) in
    let e2 : drop j s ≡ t2 = (past s (dec r) t2 i 32 e1).rest in
    let k = suc (j + length (dec c)) in
    let e3 : drop k s ≡ t3 = (past s (dec c) t3 j 32 e2).rest in
    let z = past s (dec l) [] k 41 e3 in
    let e = at_end s (suc (k + length (dec l))) z.rest z.inside in
    rw (
      field-reads s t1 7 h 32 bh stop_space w,
      field-reads s t2 i r 32 br stop_space e1,
      field-reads s t3 j c 32 bc stop_space e2,
      field-reads s [] k l 41 bl stop_close e3,
      eq-eqb (suc (k + length (dec l))) (length s) e,
    )

-- the pairs and the bracket at the end of an `add`
tail_written : (s : List ℕ) (ps : List Pair) (i : ℕ) → PairsIn ps → drop i s ≡ pairs_text ps ++ (41 ∷ []) → (tail_at s i ≡ Some (length ps)) × (halves s i (length ps) ≡ pair_words ps)
tail_written s ps i r e =
    let a = pairs-reads ps s (41 ∷ []) i r e in
    let n = length ps in
    let p = past s [] [] (i + 36 * n) 41 a.rest in
    let z : i + 36 * n + 0 ≡ i + 36 * n = omega arith in
    let l = at_end s (suc (i + 36 * n + 0)) p.rest p.inside in
    (tail_reads s i n (record { long = omega (arith, l); pairs = a.ok; close = rw z at p.byte }), a.words)

pub add_reads_lem : (s : List ℕ) (k : ℕ) (w : ℤ) (b : ℕ) (ps : List Pair) → Word k → SignedWord w → Word b → PairsIn ps
    → drop 5 s ≡ dec k ++ (32 ∷ (signed_dec w ++ (32 ∷ (hex_digits 16 b ++ (pairs_text ps ++ (41 ∷ [])))))) → read_add s ≡ reading_of (add k w b ps)
unfolding read_add reading_of
add_reads_lem s k w b ps bk bw bb bp e =
    let t3 = pairs_text ps ++ (41 ∷ []) in
    let t2 = hex_digits 16 b ++ t3 in
    let t1 = signed_dec w ++ (32 ∷ t2) in
    let i = suc (5 + length (dec k)) in
    let e1 : drop i s ≡ t1 = (past s (dec k) t1 5 32 e).rest in
    let j = suc (i + length (signed_dec w)) in
    let e2 : drop j s ≡ t2 = (past s (signed_dec w) t2 i 32 e1).rest in
    let q = tail_written s ps (j + 16) bp (hex_past s t3 j b e2) in
    rw (
      field-reads s t1 5 k 32 bk stop_space e,
      int-reads s t2 i w 32 bw stop_space e1,
      hex_ok-reads s t3 j b e2,
      q.0,
      q.1,
      hex_reads s t3 j b bb e2,
    )

-- ---- read, hence written

-- what a reading r of s is: none, or that of a request of which s is the writing
pub data Seen (s : List ℕ) (r : Reading) : Type 0 where
  none : r ≡ unreadable → Seen s r
  some : (q : Ask) → Writes q s → r ≡ reading_of q → Seen s r

-- each step of a reading either fails or goes on
num_seen : (s : List ℕ) (m : Num) (f : ℕ → ℕ → Reading) → ((v i : ℕ) → m ≡ Some (v, i) → Seen s (f v i)) → Seen s (then_num m f)
num_seen s (Some (v, i)) f h = h v i refl
num_seen s None f h = none refl

int_seen : (s : List ℕ) (m : Int) (f : ℤ → ℕ → Reading) → ((z : ℤ) (i : ℕ) → m ≡ Some (z, i) → Seen s (f z i)) → Seen s (then_int m f)
int_seen s (Some (z, i)) f h = h z i refl
int_seen s None f h = none refl

tail_seen : (s : List ℕ) (m : Option ℕ) (f : ℕ → Reading) → ((n : ℕ) → m ≡ Some n → Seen s (f n)) → Seen s (then_tail m f)
tail_seen s (Some n) f h = h n refl
tail_seen s None f h = none refl

test_seen : (s : List ℕ) (t : Bool) (r : Reading) → (t ≡ true → Seen s r) → Seen s (cond (not t) unreadable r)
test_seen s true r h = h refl
test_seen s false r h = none refl

shape_last : (s : List ℕ) → length s ≤ longest_line → is_prefix shape_word s ≡ true → (h i r j c k l m : ℕ) → Field s 7 32 h i → Field s i 32 r j → Field s j 32 c k → Field s k 41 l m
    → (t : Bool) → eqb m (length s) ≡ t → Seen s (cond t (asked (Shape h r c l)) unreadable)
unfolding reading_of ask_text
shape_last s n p h i r j c k l m fh fr fc fl false q = none refl
shape_last s n p h i r j c k l m fh fr fc fl true q =
    let le : length s ≤ m = omega (arith, eqb-true m (length s) q) in
    let z : drop m s ≡ [] = drop_of_length-le s le in
    some (shape h r c l) (record {
      range = (fh.word, (fr.word, (fc.word, fl.word)));
      short = n;
      text = word_is shape_word s p ∙ rw (fh.text, fr.text, fc.text, fl.text, z);
    }) refl

pub shape_seen : (s : List ℕ) → length s ≤ longest_line → is_prefix shape_word s ≡ true → Seen s (read_shape s)
unfolding read_shape
shape_seen s n p =
    num_seen s (field_at s 7 32) _ (λ h i eh.
    num_seen s (field_at s i 32) _ (λ r j er.
    num_seen s (field_at s j 32) _ (λ c k ec.
    num_seen s (field_at s k 41) _ (λ l m el.
    shape_last s n p h i r j c k l m (field-sound s 7 32 h i eh) (field-sound s i 32 r j er) (field-sound s j 32 c k ec) (field-sound s k 41 l m el) (eqb m (length s)) refl))))

-- the text of the pairs and of the bracket
tail_text : (s : List ℕ) (i n : ℕ) → Tailed s i n → drop i s ≡ pairs_text (pairs_from s i n) ++ (41 ∷ [])
tail_text s i n t =
    let a = pairs-sound n s i t.pairs in
    let le : length s ≤ i + 36 * n + 1 = omega (arith, t.long) in
    let z : drop (i + 36 * n + 1) s ≡ [] = drop_of_length-le s le in
    let e : drop (i + 36 * n) s ≡ 41 ∷ [] = rw z at (byte_at s (i + 36 * n) 40 t.close) in
    a.text ∙ ap (λ (y : List ℕ). pairs_text (pairs_from s i n) ++ y) e

add_last : (s : List ℕ) → length s ≤ longest_line → is_prefix add_word s ≡ true → (k i : ℕ) (w : ℤ) (j n : ℕ) → Field s 5 32 k i → IntField s i 32 w j → hex_ok_at s j ≡ true → Tailed s (j + 16) n
    → Seen s (record { request = Add w (2 + 2 * n); words = k ∷ (hex_at s j ∷ halves s (j + 16) n) })
unfolding reading_of ask_text
add_last s m p k i w j n fk fw h t =
    let a = pairs-sound n s (j + 16) t.pairs in
    let ps = pairs_from s (j + 16) n in
    let b = hex_at s j in
    let e3 = hex_sound s j h ∙ ap (λ (y : List ℕ). hex_digits 16 b ++ y) (tail_text s (j + 16) n t) in
    let e2 = fw.text ∙ ap (λ (y : List ℕ). signed_dec w ++ (32 ∷ y)) e3 in
    let e1 = fk.text ∙ ap (λ (y : List ℕ). dec k ++ (32 ∷ y)) e2 in
    some (add k w b ps) (record {
      range = (fk.word, (fw.word, (hex_word s j h, a.range)));
      short = m;
      text = word_is add_word s p ∙ ap (λ (y : List ℕ). add_word ++ y) e1;
    }) (rw (a.many, a.words))

pub add_seen : (s : List ℕ) → length s ≤ longest_line → is_prefix add_word s ≡ true → Seen s (read_add s)
unfolding read_add
add_seen s m p =
    num_seen s (field_at s 5 32) _ (λ k i ek.
    int_seen s (int_at s i 32) _ (λ w j ew.
    test_seen s (hex_ok_at s j) _ (λ h.
    tail_seen s (tail_at s (j + 16)) _ (λ n et.
    add_last s m p k i w j n (field-sound s 5 32 k i ek) (int-sound s i 32 w j ew) h (tail_sound s (j + 16) n et)))))
