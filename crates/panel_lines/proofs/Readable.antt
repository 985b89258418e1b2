-- THE THEOREM ON LINES. `read_of` (specs/Line.antt) is what `read_line` answers; `ask_text` and `Writes` (specs/Ask.antt)
-- say how a request is written. A line is read as a request exactly if it is the writing of a request whose numbers
-- are in range, in at most 1,024 bytes; it is then that request, with its words; and there is one such request only.
-- Every other line is unreadable. A line is any list of numbers here, bytes or not. Assumes nothing.
use Prim.Native.Nat.{ℕ, ◌≤◌}
use mathlib.Core.Path.{◌≡◌, refl, sym, ap, ◌∙◌}
use mathlib.Core.Bool.{Bool, true, false}
use mathlib.Core.List.{List, [], ◌∷◌, ◌++◌}
use lib.ListN.{length, drop, drop_of_length-le}
use lib.Dec.{eqb, ltb}
use native.Mathlib.Omega.{arith}
use borrow.Author.Tests.{ltb-true, ltb-false, eqb-true, eqb-false}
use Rattle.text.specs.Words.{is_prefix}
use Rattle.text.specs.Decimals.{dec}
use Rattle.text.specs.Signs.{signed_dec}
use Rattle.text.specs.Hex.{hex_digits}
use Rattle.text.proofs.Spots.{word-reads, word_is}
use Rattle.panel_lines.specs.declared.line.Request.TheVariants.{Unreadable}
use Rattle.panel_lines.specs.Line.{longest_line, Reading, unreadable, shape_word, add_word, show_word, read_of}
use Rattle.panel_lines.specs.Ask.{Ask, shape, add, show, Pair, pairs_text, pair_words, ask_text, InRange, reading_of, Writes, Readable}
use Rattle.panel_lines.proofs.Cases.{read-long, read-shape, read-add, read-other, read-show, read_none}
use Rattle.panel_lines.proofs.Asks.{Seen, none, some, shape-reads, add_reads_lem, shape_seen, add_seen}

-- ---- a line that is the writing of a request is read as that request

no_shape : (t : List ℕ) → is_prefix shape_word (add_word ++ t) ≡ false
unfolding is_prefix
no_shape t = refl

reads-back : (q : Ask) → InRange q → length (ask_text q) ≤ longest_line → read_of (ask_text q) ≡ reading_of q
unfolding ask_text reading_of read_of is_prefix
reads-back (shape h r c l) b k =
    let t = dec h ++ (32 ∷ (dec r ++ (32 ∷ (dec c ++ (32 ∷ (dec l ++ (41 ∷ []))))))) in
    read-shape (shape_word ++ t) k (word-reads shape_word t) ∙ shape-reads (shape_word ++ t) h r c l b.0 b.1.0 b.1.1.0 b.1.1.1 refl
reads-back (add n w h ps) b k =
    let t = dec n ++ (32 ∷ (signed_dec w ++ (32 ∷ (hex_digits 16 h ++ (pairs_text ps ++ (41 ∷ [])))))) in
    read-add (add_word ++ t) k (no_shape t) (word-reads add_word t) ∙ add_reads_lem (add_word ++ t) n w h ps b.0 b.1.0 b.1.1.0 b.1.1.1 refl
reads-back show b k = refl

pub written_is_read : (q : Ask) (s : List ℕ) → Writes q s → read_of s ≡ reading_of q
written_is_read q s w = rw w.text (reads-back q w.range (rw w.text at w.short))

-- ---- a line that is read as a request is the writing of that request

seen : (s : List ℕ) → Seen s (read_of s)
unfolding ask_text reading_of
seen s = go (ltb longest_line (length s)) refl (is_prefix shape_word s) refl (is_prefix add_word s) refl (eqb (length s) 6) refl (is_prefix show_word s) refl
  where
    short : ltb longest_line (length s) ≡ false → length s ≤ longest_line
    short e = ltb-false longest_line (length s) e

    shown : length s ≡ 6 → is_prefix show_word s ≡ true → s ≡ show_word
    shown l e = let le : length s ≤ 6 = omega arith in let z : drop 6 s ≡ [] = drop_of_length-le s le in word_is show_word s e ∙ rw z

    go : (a : Bool) → ltb longest_line (length s) ≡ a → (b : Bool) → is_prefix shape_word s ≡ b → (c : Bool) → is_prefix add_word s ≡ c → (d : Bool) → eqb (length s) 6 ≡ d → (f : Bool) → is_prefix show_word s ≡ f → Seen s (read_of s)
    go true ea b eb c ec d ed f ef = none (read-long s (ltb-true longest_line (length s) ea))
    go false ea true eb c ec d ed f ef = rw (read-shape s (short ea) eb) (shape_seen s (short ea) eb)
    go false ea false eb true ec d ed f ef = rw (read-add s (short ea) eb ec) (add_seen s (short ea) ec)
    go false ea false eb false ec false ed f ef = none (read-other s (short ea) eb ec (eqb-false (length s) 6 ed))
    go false ea false eb false ec true ed false ef = none (read_none s (short ea) eb ec (eqb-true (length s) 6 ed) ef)
    go false ea false eb false ec true ed true ef =
        let l = eqb-true (length s) 6 ed in
        some show (record { range = tt; short = short ea; text = shown l ef }) (read-show s (short ea) eb ec l ef)

pub read_is_written : (s : List ℕ) → Readable s → (q : Ask) × (Writes q s × (read_of s ≡ reading_of q))
read_is_written s h = go (seen s)
  where
    go : Seen s (read_of s) → (q : Ask) × (Writes q s × (read_of s ≡ reading_of q))
    go (none e) = absurd (h (ap (λ (r : Reading). r.request) e))
    go (some q w e) = (q, (w, e))

-- ---- exactly

asks : (q : Ask) → (reading_of q).request ≡ Unreadable → ⊥
unfolding reading_of
asks (shape h r c l) e = let z : ◌≡◌ {A = ℕ} 0 1 = cc in omega arith
asks (add n w h ps) e = let z : ◌≡◌ {A = ℕ} 0 1 = cc in omega arith
asks show e = let z : ◌≡◌ {A = ℕ} 0 1 = cc in omega arith

pub readable_exactly : (s : List ℕ) → (Readable s → (q : Ask) × Writes q s) × ((q : Ask) × Writes q s → Readable s)
readable_exactly s = (
  λ h. let w = read_is_written s h in (w.0, w.1.0),
  λ w e. asks w.0 (sym (ap (λ (r : Reading). r.request) (written_is_read w.0 s w.1)) ∙ e),
)

pub unreadable_exactly : (s : List ℕ) → (read_of s ≡ unreadable → (q : Ask) → Writes q s → ⊥) × (((q : Ask) → Writes q s → ⊥) → read_of s ≡ unreadable)
unreadable_exactly s = (λ e q w. asks q (ap (λ (r : Reading). r.request) (sym (written_is_read q s w) ∙ e)), λ h. go h (seen s))
  where
    go : ((q : Ask) → Writes q s → ⊥) → Seen s (read_of s) → read_of s ≡ unreadable
    go h (none e) = e
    go h (some q w e) = absurd (h q w)

-- ---- one request only

pairs-one : (ps qs : List Pair) → pair_words ps ≡ pair_words qs → ps ≡ qs
unfolding pair_words
pairs-one [] [] e = refl
pairs-one [] (q ∷ qs) e = let z : ◌≡◌ {A = ℕ} 0 1 = cc in absurd (omega arith)
pairs-one (p ∷ ps) [] e = let z : ◌≡◌ {A = ℕ} 0 1 = cc in absurd (omega arith)
pairs-one (p ∷ ps) (q ∷ qs) e =
    let h : p.high ≡ q.high = cc in
    let l : p.low ≡ q.low = cc in
    let t : pair_words ps ≡ pair_words qs = cc in
    let r = pairs-one ps qs t in
    same p.high q.high p.low q.low ps qs h l r
  where
    same : (a b c d : ℕ) (xs ys : List Pair) → a ≡ b → c ≡ d → xs ≡ ys → ◌≡◌ {A = List Pair} (record { high = a; low = c } ∷ xs) (record { high = b; low = d } ∷ ys)
    same a b c d xs ys e f g = rw (e, f, g)

ask-one : (q r : Ask) → (reading_of q).request ≡ (reading_of r).request → (reading_of q).words ≡ (reading_of r).words → q ≡ r
unfolding reading_of
ask-one (shape h r c l) (shape h' r' c' l') e f = cc
ask-one (shape h r c l) (add n w b ps) e f = let z : ◌≡◌ {A = ℕ} 0 1 = cc in absurd (omega arith)
ask-one (shape h r c l) show e f = let z : ◌≡◌ {A = ℕ} 0 1 = cc in absurd (omega arith)
ask-one (add n w b ps) (shape h r c l) e f = let z : ◌≡◌ {A = ℕ} 0 1 = cc in absurd (omega arith)
ask-one (add n w b ps) (add n' w' b' ps') e f = let p : ps ≡ ps' = pairs-one ps ps' cc in cc
ask-one (add n w b ps) show e f = let z : ◌≡◌ {A = ℕ} 0 1 = cc in absurd (omega arith)
ask-one show (shape h r c l) e f = let z : ◌≡◌ {A = ℕ} 0 1 = cc in absurd (omega arith)
ask-one show (add n w b ps) e f = let z : ◌≡◌ {A = ℕ} 0 1 = cc in absurd (omega arith)
ask-one show show e f = refl

pub one-request : (q r : Ask) (s : List ℕ) → Writes q s → Writes r s → q ≡ r
one-request q r s a b =
    let e = sym (written_is_read q s a) ∙ written_is_read r s b in
    ask-one q r (ap (λ (x : Reading). x.request) e) (ap (λ (x : Reading). x.words) e)
