-- Answers as they are put into a slice. Assumes nothing.
use Prim.Native.Nat.{ℕ, suc, ◌+◌, ◌≤◌, ◌<◌}
use native.Mathlib.Omega.{arith}
use mathlib.Core.Path.{◌≡◌, refl, sym, ap, ◌∙◌}
use mathlib.Core.Bool.{Bool, true, false}
use mathlib.Core.List.{List, [], ◌∷◌, ◌++◌, map}
use borrow.Author.Tests.{eq-eqb, ne_eqb, le-ltb, lt-ltb}
use lib.ListN.{length, take}
use lib.Seq.{sets}
use lib.IntN.{ℤ}
use lib.Ieee.{binary64, to_bits}
use Rattle.std.specs.Prelude.{Result, Ok, Err}
use Rattle.std.specs.Result.{result_unwrap_or}
use Rattle.refusal.specs.declared.Refusal.{Refusal}
use Rattle.refusal.specs.Refusals.{kept}
use Rattle.header.specs.OneTier.{one_tier}
use Rattle.header.specs.declared.Header.{Header}
use Rattle.header.specs.Header.{header_ok}
use Rattle.header.proofs.Ranges.{ranged_of}
use Rattle.layout.specs.Slices.{Lent, extent_of}
use Rattle.layout.specs.Outcomes.{Left, left}
use Rattle.layout.specs.declared.Extent.{Extent}
use Rattle.estimates.specs.declared.PanelAnswer.{PanelAnswer}
use Rattle.estimates.specs.Calls.{l1_call, panel_call}
use Rattle.text.specs.Decimals.{dec}
use Rattle.text.proofs.DecTexts.{dec_digits}
use Rattle.text.proofs.Puts.{joined}
use Rattle.panel_lines.specs.declared.line.Request.{Request}
use Rattle.panel_lines.specs.declared.line.Request.TheVariants as ask
use Rattle.panel_lines.specs.Line.{read_of}
use Rattle.panel_lines.specs.Answers.{ok_text, refused_text, show_text}
use Rattle.panel_step.proofs.Fronts.{parts_in}
use Rattle.panel_step.specs.Panel.{refusal_in, shape_call, add_call, panel_text, show_line, Reply, reply, reply_text, replied, answer_to, answer_line, Found, found, put, updates_digits, longest, answer_within}

-- a text and a newline behind it
pub ended : (l o p : List ℕ) (i j : ℕ) (a : List ℕ) → o ≡ sets l 0 a → i ≡ length a → p ≡ sets o i (10 ∷ []) → j ≡ i + 1 → (j ≡ length (a ++ (10 ∷ []))) × (p ≡ sets l 0 (a ++ (10 ∷ [])))
ended l o p i j a eo ei ep ej = let z = joined l o p i j a (10 ∷ []) (eo, ei) ep ej in (z.1, z.0)

pub reply-ok : ok_text ≡ reply_text 0
unfolding reply_text
reply-ok = refl

pub reply_no : (n : ℕ) → (n ≡ 0 → ⊥) → refused_text n ≡ reply_text n
unfolding reply_text
reply_no n k = rw (ne_eqb n 0 k)

-- the header that a call answers, or the old one
pub kept_is : {A : Type 0} (a : A) (r : Result A Refusal) → result_unwrap_or r a ≡ kept a r
kept_is a (Ok c) = refl
kept_is a (Err e) = refl

-- a call and its reply
pub reply-put : (l k : Left) (n : ℕ) (o p : List ℕ) → l ≡ k → n ≡ length (reply_text l.refusal ++ (10 ∷ [])) → p ≡ sets o 0 (reply_text l.refusal ++ (10 ∷ [])) → found l.lends n p ≡ put (replied k) o
reply-put l k n o p e en ep = rw (← e, en, ep)

pub text-put : (r : Lent) (t : List ℕ) (n : ℕ) (o p : List ℕ) → n ≡ length (t ++ (10 ∷ [])) → p ≡ sets o 0 (t ++ (10 ∷ [])) → found r n p ≡ put (reply r t) o
text-put r t n o p en ep = rw (en, ep)

-- ---- show

pub panel_refused : (h : Header) (a : PanelAnswer) → (a.refusal ≡ 0 → ⊥) → refused_text a.refusal ≡ panel_text h a
unfolding panel_text
panel_refused h a k = rw (ne_eqb a.refusal 0 k)

pub panel_shown : (h : Header) (a : PanelAnswer) → a.refusal ≡ 0
    → show_text (to_bits binary64 a.l1) (to_bits binary64 a.l2) (to_bits binary64 a.cardinality) (take h.shape.layers h.flags) h.totals.updates ≡ panel_text h a
unfolding panel_text
panel_shown h a e = rw (eq-eqb a.refusal 0 e)

-- what is shown has a header in range, so that its updates have no more digits than 2^52
pub digits_few : (r : Lent) → (panel_call r).refusal ≡ 0 → length (dec r.head.totals.updates) ≤ updates_digits
unfolding panel_call l1_call
digits_few r e = dec_digits 15 r.head.totals.updates (omega (arith, (ranged_of r.head (go (header_ok r.head) refl e)).totals.few))
  where
    go : (b : Bool) → header_ok r.head ≡ b → (panel_call r).refusal ≡ 0 → header_ok r.head ≡ true
    go true q z = q
    go false q z = absurd (omega (arith, rw q at z))

pub nothing_shown : (r : Lent) → (refusal_in r r.head.shape ≡ 0 → ⊥) → refused_text 13 ≡ show_line r
unfolding show_line
nothing_shown r k = rw (ne_eqb (refusal_in r r.head.shape) 0 k)

pub state_shown : (r : Lent) (e : Extent) → refusal_in r r.head.shape ≡ 0 → e ≡ extent_of r.head.shape → panel_text r.head (panel_call (parts_in e r.head r)) ≡ show_line r
unfolding show_line
state_shown r e z i = rw (i, eq-eqb (refusal_in r r.head.shape) 0 z)

-- ---- a line

pub no_room : (r : Lent) (line o : List ℕ) → length o < longest → found r 0 o ≡ put (answer_within (length o) r line) o
unfolding answer_within
no_room r line o h = rw (lt-ltb (length o) longest h)

-- a line is answered by what it asks
pub line-put : (r : Lent) (line o : List ℕ) (q : Request) → longest ≤ length o → q ≡ (read_of line).request → put (answer_to r q (read_of line).words) o ≡ put (answer_within (length o) r line) o
unfolding answer_within answer_line
line-put r line o q h e = rw (le-ltb (length o) longest h, ← e)

pub asks_shape : (r : Lent) (h k c l : ℕ) (words : List ℕ) → replied (shape_call r (one_tier h k c l)) ≡ answer_to r (ask.Shape h k c l) words
unfolding answer_to
asks_shape r h k c l words = refl

pub asks_add : (r : Lent) (w : ℤ) (n : ℕ) (words : List ℕ) → replied (add_call r words w) ≡ answer_to r (ask.Add w n) words
unfolding answer_to
asks_add r w n words = refl

pub asks_show : (r : Lent) (words : List ℕ) → reply r (show_line r) ≡ answer_to r ask.Show words
unfolding answer_to
asks_show r words = refl

pub asks_nothing : (r : Lent) (words : List ℕ) → replied (left 13 r) ≡ answer_to r ask.Unreadable words
unfolding answer_to
asks_nothing r words = refl

-- an add, of what the line spells
pub line_added : (r : Lent) (line o : List ℕ) (w v : ℤ) (n : ℕ) (words : List ℕ) (f : Found) → longest ≤ length o → (read_of line).request ≡ ask.Add w n → v ≡ w → words ≡ (read_of line).words
    → f ≡ put (replied (add_call r words v)) o → f ≡ put (answer_within (length o) r line) o
line_added r line o w v n words f h e i j k = k ∙ rw (i, j) (ap (λ (a : Reply). put a o) (asks_add r w n (read_of line).words) ∙ line-put r line o (ask.Add w n) h (sym e))

-- ---- an array's length, as its type gives it

pub as_many : (xs : List Bool) (n : ℕ) → length (map (λ (v : Bool). v) xs) ≡ n → length xs ≡ n
as_many xs n e = same xs ∙ e
  where
    same : (ys : List Bool) → length ys ≡ length (map (λ (v : Bool). v) ys)
    same [] = refl
    same (y ∷ ys) = ap suc (same ys)
