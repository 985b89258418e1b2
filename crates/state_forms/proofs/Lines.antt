-- Flags, keys, layers and the first lines, written and read back exactly. Assumes nothing.
use mathlib.Core.Path.{◌≡◌, refl, sym, ap, subst, ◌∙◌}
use mathlib.Core.Bool.{Bool, true, false, cond}
use mathlib.Core.List.{List, [], ◌∷◌, ◌++◌, append_assoc}
use Prim.Native.Nat.{ℕ, zero, suc, ◌+◌, ◌≤◌}
use lib.Dec.{eqb, leb}
use lib.IntN.{ℤ}
use lib.ListN.{length}
use native.Mathlib.Omega.{arith}
use borrow.Author.Tests.{leb-true}
use Rattle.words.specs.Num.{top}
use Rattle.words.specs.Lists.{All}
use Rattle.heap_moves.specs.Cands.{Cand}
use Rattle.text.specs.Words.{bytes_of, is_prefix}
use Rattle.text.specs.Decimals.{Word}
use Rattle.state_forms.specs.Formats.{got, bad, then_read, Format, lit, num, int, this, pair, after, before, such}
use Rattle.state_forms.specs.inner.Exact.{Exact, Any}
use Rattle.state_forms.specs.Grammar.{newline, Fields, cand_from, fields_of, key_format, key_begins, keys_text, keys_r, keys_format, flag_number, flag_format, Page, page_from, parts_of, Frame, page_format, pages_text, pages_r, PagesIn, pages_format, first_format, num_line, head_format, others_format, rows_format}
use Rattle.state_forms.proofs.Exactness.{never_got, got_value, got_left, steps, goes_on, pair-exact, after-exact, before-exact, such-exact, via-exact, this-exact}
use Rattle.state_forms.proofs.Numbers.{lit-exact, num-exact, int-exact}
use Rattle.state_forms.proofs.Rows.{space-stops, bracket_stops, rows-exact}

-- numbers that a space ends
n32 : Exact Any (num 32)
n32 = num-exact 32 space-stops

pub weaker : {A : Type 0} {P Q : List ℕ → Type 0} (f : Format A) → ((t : List ℕ) → Q t → P t) → Exact P f → Exact Q f
weaker f h x = record { reads = λ a t i q. x.reads a t i (h t q); sound = x.sound }

-- ---- keys

pub key-exact : (l : ℕ) → Word l → Exact Any (key_format l)
key-exact l k =
    via-exact cand_from fields_of (after (lit (bytes_of "(key ")) (after (this l 32) four))
    (after-exact (lit (bytes_of "(key ")) (after (this l 32) four) (lit-exact (bytes_of "(key "))
    (after-exact (this l 32) four (this-exact l 32 n32)
    (pair-exact (num 32) three n32
    (pair-exact (num 32) two n32
    (pair-exact (num 32) one n32
    (pair-exact (num 32) last n32 (before-exact (int 41) newline (int-exact 41 bracket_stops) (lit-exact (10 ∷ [])) tt) (λ b t i q. tt))
    (λ b t i q. tt)) (λ b t i q. tt)) (λ b t i q. tt)) k) tt)
    (λ b. refl) (λ a i. refl)
  where
    last : Format ℤ
    last = before (int 41) newline

    one : Format (ℕ × ℤ)
    one = pair (num 32) last

    two : Format (ℕ × (ℕ × ℤ))
    two = pair (num 32) one

    three : Format (ℕ × (ℕ × (ℕ × ℤ)))
    three = pair (num 32) two

    four : Format Fields
    four = pair (num 32) three

abbrev pub NoKey : List ℕ → Type 0
NoKey t = key_begins t ≡ false

key_seen : (l : ℕ) (c : Cand) (t : List ℕ) → key_begins ((key_format l).write c ++ t) ≡ true
unfolding is_prefix
key_seen l c t = refl

module _ (l : ℕ) (k : Word l) where
  keys-read : (n : ℕ) (cs : List Cand) (t : List ℕ) → length cs ≤ n → All (key_format l).In cs → NoKey t → keys_r l n (keys_text l cs ++ t) ≡ got cs t
  unfolding keys_r keys_text
  keys-read zero [] t h a q = rw q
  keys-read zero (c ∷ cs) t h a q = absurd (omega arith)
  keys-read (suc n) [] t h a q = rw q
  keys-read (suc n) (c ∷ cs) t h a q =
      rw (append_assoc, key_seen l c (keys_text l cs ++ t))
      (goes_on ((key_format l).read ((key_format l).write c ++ (keys_text l cs ++ t))) _ c (keys_text l cs ++ t) ((key-exact l k).reads c (keys_text l cs ++ t) a.0 tt)
      ∙ goes_on (keys_r l n (keys_text l cs ++ t)) _ cs t (keys-read n cs t (omega arith) a.1 q))

  keys_only : (n : ℕ) (s : List ℕ) (cs : List Cand) (t : List ℕ) → keys_r l n s ≡ got cs t → ((length cs ≤ n) × All (key_format l).In cs) × (s ≡ keys_text l cs ++ t)
  unfolding keys_r keys_text
  keys_only zero s cs t e = go (key_begins s) e
    where
      go : (b : Bool) → cond b bad (got [] s) ≡ got cs t → ((length cs ≤ 0) × All (key_format l).In cs) × (s ≡ keys_text l cs ++ t)
      go true r = absurd (never_got r)
      go false r = subst (λ (z : List Cand). ((length z ≤ 0) × All (key_format l).In z) × (s ≡ keys_text l z ++ t)) (got_value r) ((omega arith, tt), got_left r)
  keys_only (suc n) s cs t e = go (key_begins s) e (keys_only n)
    where
      go : (b : Bool) → cond b (then_read ((key_format l).read s) (λ c t. then_read (keys_r l n t) (λ cs u. got (c ∷ cs) u))) (got [] s) ≡ got cs t
          → ((s : List ℕ) (cs : List Cand) (t : List ℕ) → keys_r l n s ≡ got cs t → ((length cs ≤ n) × All (key_format l).In cs) × (s ≡ keys_text l cs ++ t))
          → ((length cs ≤ suc n) × All (key_format l).In cs) × (s ≡ keys_text l cs ++ t)
      go true r ih =
          let a = steps ((key_format l).read s) _ cs t r in
          let b = steps (keys_r l n a.left) _ cs t a.next in
          let v = (key-exact l k).sound s a.value a.left a.first in
          let w = ih a.left b.value b.left b.first in
          subst (λ (z : List Cand). ((length z ≤ suc n) × All (key_format l).In z) × (s ≡ keys_text l z ++ t)) (got_value b.next) (
            (omega (arith, w.0.0), (v.0, w.0.1)),
            v.1 ∙ ap (λ (z : List ℕ). (key_format l).write a.value ++ z) (w.1 ∙ ap (λ (z : List ℕ). keys_text l b.value ++ z) (got_left b.next)) ∙ sym (append_assoc ((key_format l).write a.value) (keys_text l b.value) t),
          )
      go false r ih = subst (λ (z : List Cand). ((length z ≤ suc n) × All (key_format l).In z) × (s ≡ keys_text l z ++ t)) (got_value r) ((omega arith, tt), got_left r)

  pub keys-exact : (size : ℕ) → Exact NoKey (keys_format l size)
  keys-exact size = record { reads = λ cs t i q. keys-read size cs t i.0 i.1 q; sound = λ s cs t e. keys_only size s cs t e }

-- ---- flags

pub flag-exact : (l : ℕ) → Word l → Exact Any (flag_format l)
flag-exact l k =
    via-exact (λ n. eqb n 1) flag_number (after (lit (bytes_of "(flag ")) (after (this l 32) end))
    (after-exact (lit (bytes_of "(flag ")) (after (this l 32) end) (lit-exact (bytes_of "(flag "))
    (after-exact (this l 32) end (this-exact l 32 n32)
    (before-exact (such (λ n. leb n 1) (num 41)) newline (such-exact (λ n. leb n 1) (num 41) (num-exact 41 bracket_stops)) (lit-exact (10 ∷ [])) tt) k) tt)
    there back
  where
    end : Format ℕ
    end = before (such (λ n. leb n 1) (num 41)) newline

    there : (b : Bool) → eqb (flag_number b) 1 ≡ b
    there true = refl
    there false = refl

    back : (n : ℕ) → Word n × (leb n 1 ≡ true) → flag_number (eqb n 1) ≡ n
    back zero i = refl
    back (suc zero) i = refl
    back (suc (suc n)) i = absurd (omega (arith, leb-true (suc (suc n)) 1 i.1))

-- ---- layers

-- what comes after a layer begins neither with a row nor with a key
pub record Ended (t : List ℕ) : Type 0 where
  pub row : is_prefix (bytes_of "(row ") t ≡ false
  pub key : key_begins t ≡ false

pub ended_end : Ended []
unfolding is_prefix
ended_end = record { row = refl; key = refl }

module _ (d : Frame) (wide : Word d.cols) (tall : Word d.rows) where
  row_link : (l : ℕ) (cs : List Cand) (t : List ℕ) → Ended t → is_prefix (bytes_of "(row ") (keys_text l cs ++ t) ≡ false
  unfolding keys_text is_prefix
  row_link l [] t q = q.row
  row_link l (c ∷ cs) t q = refl

  pub page_exact : (l : ℕ) → Word l → Exact Ended (page_format d l)
  page_exact l k =
      via-exact page_from parts_of (such (λ p. d.test p.1.1) (pair (flag_format l) both))
      (such-exact (λ p. d.test p.1.1) (pair (flag_format l) both)
      (pair-exact (flag_format l) both (flag-exact l k)
      (pair-exact (rows_format l d.rows d.cols) (keys_format l d.size) (rows-exact d.cols wide l d.rows k tall) (weaker (keys_format l d.size) (λ t q. q.key) (keys-exact l k d.size)) (λ cs t i q. row_link l cs t q))
      (λ b t i q. tt)))
      (λ b. refl) (λ a i. refl)
    where
      both : Format (List (List ℤ) × List Cand)
      both = pair (rows_format l d.rows d.cols) (keys_format l d.size)

  page_link : (l : ℕ) (ps : List Page) (t : List ℕ) → Ended t → Ended (pages_text d l ps ++ t)
  unfolding pages_text is_prefix
  page_link l [] t q = q
  page_link l (p ∷ ps) t q = record { row = refl; key = refl }

  pages_read : (n l : ℕ) (ps : List Page) (t : List ℕ) → Word (l + n) → length ps ≡ n → PagesIn d l ps → Ended t → pages_r d l n (pages_text d l ps ++ t) ≡ got ps t
  unfolding pages_r pages_text
  pages_read zero l [] t k h i q = refl
  pages_read zero l (p ∷ ps) t k h i q = absurd (omega arith)
  pages_read (suc n) l [] t k h i q = absurd (omega arith)
  pages_read (suc n) l (p ∷ ps) t k h i q =
      ap (λ (z : List ℕ). then_read ((page_format d l).read z) (λ p t. then_read (pages_r d (suc l) n t) (λ ps u. got (p ∷ ps) u))) (append_assoc ((page_format d l).write p) (pages_text d (suc l) ps) t)
      ∙ (goes_on ((page_format d l).read ((page_format d l).write p ++ (pages_text d (suc l) ps ++ t))) _ p (pages_text d (suc l) ps ++ t) ((page_exact l (omega arith)).reads p (pages_text d (suc l) ps ++ t) i.0 (page_link (suc l) ps t q))
      ∙ goes_on (pages_r d (suc l) n (pages_text d (suc l) ps ++ t)) _ ps t (pages_read n (suc l) ps t (omega arith) (omega arith) i.1 q))

  pages_only : (n l : ℕ) (s : List ℕ) (ps : List Page) (t : List ℕ) → Word (l + n) → pages_r d l n s ≡ got ps t → ((length ps ≡ n) × PagesIn d l ps) × (s ≡ pages_text d l ps ++ t)
  unfolding pages_r pages_text
  pages_only zero l s ps t k e = subst (λ (z : List Page). ((length z ≡ 0) × PagesIn d l z) × (s ≡ pages_text d l z ++ t)) (got_value e) ((refl, tt), got_left e)
  pages_only (suc n) l s ps t k e =
      let a = steps ((page_format d l).read s) _ ps t e in
      let b = steps (pages_r d (suc l) n a.left) _ ps t a.next in
      let v = (page_exact l (omega arith)).sound s a.value a.left a.first in
      let w = pages_only n (suc l) a.left b.value b.left (omega arith) b.first in
      subst (λ (z : List Page). ((length z ≡ suc n) × PagesIn d l z) × (s ≡ pages_text d l z ++ t)) (got_value b.next) (
        (omega (arith, w.0.0), (v.0, w.0.1)),
        v.1 ∙ ap (λ (z : List ℕ). (page_format d l).write a.value ++ z) (w.1 ∙ ap (λ (z : List ℕ). pages_text d (suc l) b.value ++ z) (got_left b.next)) ∙ sym (append_assoc ((page_format d l).write a.value) (pages_text d (suc l) b.value) t),
      )

  pub pages_exact : (l n : ℕ) → Word (l + n) → Exact Ended (pages_format d l n)
  pages_exact l n k = record { reads = λ ps t i q. pages_read n l ps t k i.0 i.1 q; sound = λ s ps t e. pages_only n l s ps t k e }

-- ---- the first lines

pub first_exact : Exact Any first_format
first_exact =
    after-exact (lit (bytes_of "(univmon ")) (pair (num 32) two) (lit-exact (bytes_of "(univmon "))
    (pair-exact (num 32) two n32
    (pair-exact (num 32) one n32
    (pair-exact (num 32) (before (num 41) newline) n32 (before-exact (num 41) newline (num-exact 41 bracket_stops) (lit-exact (10 ∷ [])) tt) (λ b t i q. tt)) (λ b t i q. tt)) (λ b t i q. tt)) tt
  where
    one : Format (ℕ × ℕ)
    one = pair (num 32) (before (num 41) newline)

    two : Format (ℕ × (ℕ × ℕ))
    two = pair (num 32) one

pub line-exact : (w : List ℕ) (most : ℕ) → Exact Any (num_line w most)
line-exact w most =
    after-exact (lit w) (before (such (λ n. leb n most) (num 41)) newline) (lit-exact w)
    (before-exact (such (λ n. leb n most) (num 41)) newline (such-exact (λ n. leb n most) (num 41) (num-exact 41 bracket_stops)) (lit-exact (10 ∷ [])) tt) tt

pub head-exact : Exact Any head_format
head-exact =
    pair-exact (num_line (bytes_of "(weight ") top) (pair (num_line (bytes_of "(updates ") top) (num_line (bytes_of "(mode ") 2)) (line-exact (bytes_of "(weight ") top)
    (pair-exact (num_line (bytes_of "(updates ") top) (num_line (bytes_of "(mode ") 2) (line-exact (bytes_of "(updates ") top) (line-exact (bytes_of "(mode ") 2) (λ b t i q. tt)) (λ b t i q. tt)

-- all lines after the first
pub others-exact : (d : Frame) (layers : ℕ) → Word d.cols → Word d.rows → Word layers → Exact Ended (others_format d layers)
others-exact d layers wide tall deep =
    let z : 0 + layers ≡ layers = omega arith in
    pair-exact head_format (pages_format d 0 layers) head-exact (pages_exact d wide tall 0 layers (omega (arith, z))) (λ b t i q. tt)
