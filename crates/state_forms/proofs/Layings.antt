-- Texts laid one after another, and the loops that lay them. Assumes nothing.
use mathlib.Core.Path.{◌≡◌, refl, sym, ap, subst, ◌∙◌}
use mathlib.Core.Bool.{Bool, true, false, cond}
use mathlib.Core.List.{List, [], ◌∷◌, ◌++◌, append_assoc}
use Prim.Native.Nat.{ℕ, suc, ◌+◌, ◌-◌, ◌*◌, ◌≤◌, ◌<◌}
use native.Mathlib.Nat.{suc-mul}
use lib.IntN.{ℤ, pos}
use lib.ListN.{length, get_or, take, drop, length-append, drop_of_length-le}
use lib.Seq.{sets, length-sets, sets-eq, drop-cons, drop-drop, get_or-take, length-take-le, take-append_seam}
use native.Mathlib.Omega.{arith}
use native.Mathlib.Numerals.{add-one}
use Rattle.text.specs.Words.{bytes_of}
use Rattle.text.specs.Decimals.{dec}
use Rattle.text.specs.Signs.{signed_dec}
use Rattle.text.proofs.Puts.{sets_append}
use Rattle.heap_moves.specs.Cands.{Cand, no_cand}
use Rattle.heap_moves.specs.Flat.{cands_of, cand_of, item_of}
use Rattle.heap_moves.proofs.Views.{cand_at, length-cands}
use Rattle.state_forms.specs.Formats.{num}
use Rattle.state_forms.specs.Sparse.{Listing, sparse_text}
use Rattle.state_forms.specs.Grammar.{line_end, cell_format, cell_listing, row_format, row_listing, rows_of, key_format, keys_text, flag_number, flag_format, page_text}
use Rattle.state_forms.specs.inner.Laying.{TextRoom, LaidText, one_text}

pub laid_none : (l : List ℕ) (i : ℕ) → LaidText l i [] l i
laid_none l i = record { text = refl; place = omega arith }

pub laid_then : {l o p : List ℕ} {i j k : ℕ} {a b : List ℕ} → LaidText l i a o j → LaidText o j b p k → LaidText l i (a ++ b) p k
laid_then {l} {o} {p} {i} {j} {k} {a} {b} x y =
    record {
      text = y.text ∙ rw (x.text, x.place) (sets_append l i a b);
      place = omega (arith, x.place, y.place, length-append a b);
    }

pub laid_is : {l o : List ℕ} {i j : ℕ} {a b : List ℕ} → a ≡ b → LaidText l i a o j → LaidText l i b o j
laid_is {l} {o} {i} {j} e x = subst (λ (z : List ℕ). LaidText l i z o j) e x

pub laid_long : {l o : List ℕ} {i j : ℕ} {a : List ℕ} → LaidText l i a o j → length o ≡ length l
laid_long {l} {o} {i} {j} {a} x = ap length x.text ∙ length-sets l i a

-- a text that was put at the start of a list with room for it
pub put-part : (l a o : List ℕ) (k : ℕ) → length a ≤ length l → o ≡ sets l 0 a → k ≡ 0 + length a → take k o ≡ a
put-part l a o k h e f =
    let z : 0 + length a ≤ length l = omega arith in
    let y : k ≡ length a = omega (arith, f) in
    rw (y, e, sets-eq a l 0 z) (take-append_seam a (drop (0 + length a) l))

-- ---- a loop: what is left, laid from here on, gives the whole

pub record LaidSoFar (l : List ℕ) (i : ℕ) (a o : List ℕ) (p : ℕ) (rest : List ℕ) : Type 0 where
  pub text : sets o p rest ≡ sets l i a
  pub place : p + length rest ≡ i + length a
  pub long : length o ≡ length l

pub going_start : (l : List ℕ) (i : ℕ) (a rest : List ℕ) → rest ≡ a → LaidSoFar l i a l i rest
going_start l i a rest e = record { text = ap (sets l i) e; place = ap (λ (z : List ℕ). i + length z) e; long = refl }

pub going_on : {l o q : List ℕ} {i p k : ℕ} {a b rest more : List ℕ} → LaidSoFar l i a o p rest → rest ≡ b ++ more → LaidText o p b q k → LaidSoFar l i a q k more
going_on {l} {o} {q} {i} {p} {k} {a} {b} {rest} {more} g e x =
    record {
      text = rw (x.text, x.place) (sets_append o p b more ∙ ap (sets o p) (sym e) ∙ g.text);
      place = omega (arith, g.place, x.place, ap length e, length-append b more);
      long = laid_long x ∙ g.long;
    }

pub going_room : {l o : List ℕ} {i p : ℕ} {a rest : List ℕ} (b more : List ℕ) → LaidSoFar l i a o p rest → rest ≡ b ++ more → TextRoom i a → TextRoom p b
going_room {l} {o} {i} {p} {a} {rest} b more g e h = omega (arith, g.place, h, ap length e, length-append b more)

pub going_end : {l o : List ℕ} {i p : ℕ} {a rest : List ℕ} → LaidSoFar l i a o p rest → rest ≡ [] → LaidText l i a o p
going_end {l} {o} {i} {p} {a} {rest} g e =
    record { text = ap (sets o p) (sym e) ∙ g.text; place = omega (arith, g.place, ap length e) }

-- ---- what loops lay

pub byte_step : (w : List ℕ) (i : ℕ) → i < length w → drop i w ≡ (get_or w i 0 ∷ []) ++ drop (i + 1) w
byte_step w i h = rw add-one (drop-cons w i 0 h)

-- one value of a sparse list, then the others
pub one_text-step : {A : Type 0} (m : Listing A) (i : ℕ) (x : A) (xs : List A) → sparse_text m i (x ∷ xs) ≡ one_text m i x ++ sparse_text m (suc i) xs
unfolding sparse_text
one_text-step {A} m i x xs = go (m.none x)
  where
    go : (b : Bool) → cond b (sparse_text m (suc i) xs) (m.form.write (i, x) ++ sparse_text m (suc i) xs) ≡ cond b [] (m.form.write (i, x)) ++ sparse_text m (suc i) xs
    go true = refl
    go false = refl

pub sparse_step : {A : Type 0} (m : Listing A) (d : A) (xs : List A) (i : ℕ) → i < length xs → sparse_text m i (drop i xs) ≡ one_text m i (get_or xs i d) ++ sparse_text m (i + 1) (drop (i + 1) xs)
sparse_step m d xs i h = rw (drop-cons xs i d h, add-one) (one_text-step m i (get_or xs i d) (drop (suc i) xs))

pub sparse_end : {A : Type 0} (m : Listing A) (xs : List A) (i : ℕ) → length xs ≤ i → sparse_text m i (drop i xs) ≡ []
unfolding sparse_text
sparse_end m xs i h = rw (drop_of_length-le xs h)

-- ---- five and six texts, one after another

pub five_laid : {l o p q r s : List ℕ} {i j k m n t : ℕ} {a b c d e : List ℕ} (z : List ℕ) → (((a ++ b) ++ c) ++ d) ++ e ≡ z
    → LaidText l i a o j → LaidText o j b p k → LaidText p k c q m → LaidText q m d r n → LaidText r n e s t → LaidText l i z s t
five_laid z h x1 x2 x3 x4 x5 = laid_is h (laid_then (laid_then (laid_then (laid_then x1 x2) x3) x4) x5)

pub six_laid : {l o p q r s u : List ℕ} {i j k m n t v : ℕ} {a b c d e f : List ℕ} (z : List ℕ) → ((((a ++ b) ++ c) ++ d) ++ e) ++ f ≡ z
    → LaidText l i a o j → LaidText o j b p k → LaidText p k c q m → LaidText q m d r n → LaidText r n e s t → LaidText s t f u v → LaidText l i z u v
six_laid z h x1 x2 x3 x4 x5 x6 = laid_is h (laid_then (laid_then (laid_then (laid_then (laid_then x1 x2) x3) x4) x5) x6)

pub five_long : (a b c d e z : List ℕ) → (((a ++ b) ++ c) ++ d) ++ e ≡ z → length a + length b + length c + length d + length e ≡ length z
five_long a b c d e z h = simp length-append at (ap length h)

pub six_long : (a b c d e f z : List ℕ) → ((((a ++ b) ++ c) ++ d) ++ e) ++ f ≡ z → length a + length b + length c + length d + length e + length f ≡ length z
six_long a b c d e f z h = simp length-append at (ap length h)

-- the texts of the forms, as they are laid

pub cell_join : (c : ℕ) (v : ℤ) → (((bytes_of " (" ++ dec c) ++ (32 ∷ [])) ++ signed_dec v) ++ (41 ∷ []) ≡ cell_format.write (c, v)
cell_join c v = simp append_assoc

pub row-join : (l cols r : ℕ) (xs : List ℤ) → ((((bytes_of "(row " ++ dec l) ++ (32 ∷ [])) ++ dec r) ++ sparse_text cell_listing 0 xs) ++ line_end ≡ (row_format l cols).write (r, xs)
row-join l cols r xs = simp append_assoc

-- no text for a value that is left out
pub one_none : {A : Type 0} (m : Listing A) (i : ℕ) (x : A) → m.none x ≡ true → [] ≡ one_text m i x
one_none m i x e = rw e

pub one-some : {A : Type 0} (m : Listing A) (i : ℕ) (x : A) → m.none x ≡ false → m.form.write (i, x) ≡ one_text m i x
one-some m i x e = rw e

-- ---- lines of a layer

pub three_laid : {l o p q : List ℕ} {i j k m : ℕ} {a b c : List ℕ} (z : List ℕ) → (a ++ b) ++ c ≡ z → LaidText l i a o j → LaidText o j b p k → LaidText p k c q m → LaidText l i z q m
three_laid z h x1 x2 x3 = laid_is h (laid_then (laid_then x1 x2) x3)

pub four_laid : {l o p q r : List ℕ} {i j k m n : ℕ} {a b c d : List ℕ} (z : List ℕ) → ((a ++ b) ++ c) ++ d ≡ z
    → LaidText l i a o j → LaidText o j b p k → LaidText p k c q m → LaidText q m d r n → LaidText l i z r n
four_laid z h x1 x2 x3 x4 = laid_is h (laid_then (laid_then (laid_then x1 x2) x3) x4)

pub eight_laid : {l o p q r s u w x : List ℕ} {i j k m n t v y b' : ℕ} {a b c d e f g h : List ℕ} (z : List ℕ) → ((((((a ++ b) ++ c) ++ d) ++ e) ++ f) ++ g) ++ h ≡ z
    → LaidText l i a o j → LaidText o j b p k → LaidText p k c q m → LaidText q m d r n → LaidText r n e s t → LaidText s t f u v → LaidText u v g w y → LaidText w y h x b' → LaidText l i z x b'
eight_laid z q x1 x2 x3 x4 x5 x6 x7 x8 = laid_is q (laid_then (laid_then (six_laid _ refl x1 x2 x3 x4 x5 x6) x7) x8)

pub three_long : (a b c z : List ℕ) → (a ++ b) ++ c ≡ z → length a + length b + length c ≡ length z
three_long a b c z h = let l = length-append a b in sym (omega (arith, length-append (a ++ b) c, l, ap length h))

pub four_long : (a b c d z : List ℕ) → ((a ++ b) ++ c) ++ d ≡ z → length a + length b + length c + length d ≡ length z
four_long a b c d z h = simp length-append at (ap length h)

pub eight_long : (a b c d e f g h z : List ℕ) → ((((((a ++ b) ++ c) ++ d) ++ e) ++ f) ++ g) ++ h ≡ z → length a + length b + length c + length d + length e + length f + length g + length h ≡ length z
eight_long a b c d e f g h z q = simp length-append at (ap length q)

pub key-join : (l : ℕ) (c : Cand)
    → ((((((bytes_of "(key " ++ (num 32).write l) ++ (num 32).write c.item.key) ++ (num 32).write c.item.bottom) ++ (num 32).write c.item.high) ++ (num 32).write c.item.low) ++ signed_dec c.count) ++ line_end ≡ (key_format l).write c
key-join l c = simp append_assoc

pub flag-join : (l : ℕ) (f : Bool) → ((bytes_of "(flag " ++ (num 32).write l) ++ (num 41).write (flag_number f)) ++ (10 ∷ []) ≡ (flag_format l).write f
flag-join l f = simp append_assoc

pub page_join : (l : ℕ) (f : Bool) (rows cols : ℕ) (xs : List ℤ) (cs : List Cand) → ((flag_format l).write f ++ sparse_text (row_listing l cols) 0 (rows_of cols rows xs)) ++ keys_text l cs ≡ page_text l f rows cols xs cs
unfolding page_text
page_join l f rows cols xs cs = append_assoc ((flag_format l).write f) (sparse_text (row_listing l cols) 0 (rows_of cols rows xs)) (keys_text l cs)

-- row r, then the others; the row as a part of the list
pub rows_step : (l cols rows r : ℕ) (xs : List ℤ) → r < rows
    → sparse_text (row_listing l cols) r (rows_of cols (rows - r) (drop (r * cols) xs))
    ≡ one_text (row_listing l cols) r (take (r * cols + cols - r * cols) (drop (r * cols) xs)) ++ sparse_text (row_listing l cols) (r + 1) (rows_of cols (rows - (r + 1)) (drop ((r + 1) * cols) xs))
unfolding rows_of
rows_step l cols rows r xs h =
    let e : rows - r ≡ suc (rows - (r + 1)) = omega arith in
    let k : r * cols + cols - r * cols ≡ cols = omega arith in
    let m : (r + 1) * cols ≡ r * cols + cols = ap (λ (n : ℕ). n * cols) (add-one r) ∙ suc-mul r cols in
    let s : r + 1 ≡ suc r = add-one r in
    let d : drop ((r + 1) * cols) xs ≡ drop cols (drop (r * cols) xs) = rw m (sym (drop-drop cols (r * cols) xs)) in
    rw (e, k, d, s) (one_text-step (row_listing l cols) r (take cols (drop (r * cols) xs)) (rows_of cols (rows - suc r) (drop cols (drop (r * cols) xs))))

pub rows_none : (l cols rows r : ℕ) (xs : List ℤ) → rows ≤ r → sparse_text (row_listing l cols) r (rows_of cols (rows - r) xs) ≡ []
unfolding rows_of sparse_text
rows_none l cols rows r xs h = let e : rows - r ≡ 0 = omega arith in rw e

-- candidate i, then the others
pub keys_step : (l len i : ℕ) (es : List ℕ) (ns : List ℤ) → i < len → len ≤ length ns
    → keys_text l (drop i (take len (cands_of es ns))) ≡ (key_format l).write (cand_of (item_of es i) (get_or ns i (pos 0))) ++ keys_text l (drop (i + 1) (take len (cands_of es ns)))
unfolding keys_text
keys_step l len i es ns h k =
    let cs = cands_of es ns in
    let n : length cs ≡ length ns = length-cands es ns in
    let t : length (take len cs) ≡ len = length-take-le len cs (omega arith) in
    let g : get_or (take len cs) i no_cand ≡ cand_of (item_of es i) (get_or ns i (pos 0)) = get_or-take len cs i no_cand h ∙ cand_at es ns i (omega arith) in
    let s : i + 1 ≡ suc i = add-one i in
    let m : i < length (take len cs) = omega (arith, t, h) in
    rw s (ap (keys_text l) (drop-cons (take len cs) i no_cand m) ∙ ap (λ (c : Cand). (key_format l).write c ++ keys_text l (drop (suc i) (take len cs))) g)

pub keys_none : (l len i : ℕ) (es : List ℕ) (ns : List ℤ) → len ≤ i → len ≤ length ns → keys_text l (drop i (take len (cands_of es ns))) ≡ []
unfolding keys_text
keys_none l len i es ns h k =
    let n = length-cands es ns in
    let t : length (take len (cands_of es ns)) ≡ len = length-take-le len (cands_of es ns) (omega arith) in
    let m : length (take len (cands_of es ns)) ≤ i = omega (arith, t, h) in
    rw (drop_of_length-le (take len (cands_of es ns)) m)

pub rows_start : (l cols rows : ℕ) (xs : List ℤ) → sparse_text (row_listing l cols) 0 (rows_of cols (rows - 0) (drop (0 * cols) xs)) ≡ sparse_text (row_listing l cols) 0 (rows_of cols rows xs)
rows_start l cols rows xs = let z : 0 * cols ≡ 0 = omega arith in let y : rows - 0 ≡ rows = omega arith in rw (z, y)

pub page_long : (l : ℕ) (f : Bool) (rows cols : ℕ) (xs : List ℤ) (cs : List Cand)
    → length ((flag_format l).write f) + length (sparse_text (row_listing l cols) 0 (rows_of cols rows xs)) + length (keys_text l cs) ≡ length (page_text l f rows cols xs cs)
page_long l f rows cols xs cs = three_long ((flag_format l).write f) (sparse_text (row_listing l cols) 0 (rows_of cols rows xs)) (keys_text l cs) (page_text l f rows cols xs cs) (page_join l f rows cols xs cs)
