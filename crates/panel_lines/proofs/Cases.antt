-- What decides how a line is read: its length and the word it begins with. Assumes nothing.
use Prim.Native.Nat.{ℕ, ◌≤◌, ◌<◌}
use mathlib.Core.Path.{◌≡◌, refl}
use mathlib.Core.Bool.{Bool, true, false, cond}
use mathlib.Core.List.{List, []}
use Rattle.std.specs.Prelude.{Some, None}
use lib.ListN.{length}
use lib.Seq.{sets}
use lib.Dec.{eqb}
use borrow.Author.Tests.{eq-eqb, ne_eqb, lt-ltb, le-ltb}
use Rattle.text.specs.Words.{is_prefix}
use Rattle.text.specs.Decimals.{Num, field_at}
use Rattle.panel_lines.specs.declared.line.Request.{Request}
use Rattle.panel_lines.specs.declared.line.Request.TheVariants.{Shape, Show, Unreadable}
use Rattle.panel_lines.specs.Line.{longest_line, Reading, then_num, asked, unreadable, shape_word, add_word, show_word, read_shape, read_add, read_of}

pub read-long : (s : List ℕ) → longest_line < length s → read_of s ≡ unreadable
unfolding read_of
read-long s l = rw (lt-ltb longest_line (length s) l)

pub read-shape : (s : List ℕ) → length s ≤ longest_line → is_prefix shape_word s ≡ true → read_of s ≡ read_shape s
unfolding read_of
read-shape s l a = rw (le-ltb longest_line (length s) l, a)

pub read-add : (s : List ℕ) → length s ≤ longest_line → is_prefix shape_word s ≡ false → is_prefix add_word s ≡ true → read_of s ≡ read_add s
unfolding read_of
read-add s l a b = rw (le-ltb longest_line (length s) l, a, b)

pub read-other : (s : List ℕ) → length s ≤ longest_line → is_prefix shape_word s ≡ false → is_prefix add_word s ≡ false → (length s ≡ 6 → ⊥) → read_of s ≡ unreadable
unfolding read_of
read-other s l a b n = rw (le-ltb longest_line (length s) l, a, b, ne_eqb (length s) 6 n)

pub read-show : (s : List ℕ) → length s ≤ longest_line → is_prefix shape_word s ≡ false → is_prefix add_word s ≡ false → length s ≡ 6 → is_prefix show_word s ≡ true → read_of s ≡ asked Show
unfolding read_of
read-show s l a b n d = rw (le-ltb longest_line (length s) l, a, b, eq-eqb (length s) 6 n, d)

pub read_none : (s : List ℕ) → length s ≤ longest_line → is_prefix shape_word s ≡ false → is_prefix add_word s ≡ false → length s ≡ 6 → is_prefix show_word s ≡ false → read_of s ≡ unreadable
unfolding read_of
read_none s l a b n d = rw (le-ltb longest_line (length s) l, a, b, eq-eqb (length s) 6 n, d)

-- ---- what a call hands back: the request q, and the words ws' in the place of ws

pub handed : (r t : Reading) (ws ws' : List ℕ) (q : Request) → r ≡ t → q ≡ t.request → ws' ≡ sets ws 0 t.words → (q ≡ r.request) × (ws' ≡ sets ws 0 r.words)
handed r t ws ws' q e a b = (rw e a, rw e b)

pub refused : (r : Reading) (ws : List ℕ) → r ≡ unreadable → (Unreadable ≡ r.request) × (ws ≡ sets ws 0 r.words)
refused r ws e = handed r unreadable ws ws Unreadable e refl refl

-- a shape has no words
num-words : (m : Num) (f : ℕ → ℕ → Reading) → ((v i : ℕ) → (f v i).words ≡ []) → (then_num m f).words ≡ []
num-words (Some (v, i)) f h = h v i
num-words None f h = refl

pub shape-words : (s : List ℕ) → (read_shape s).words ≡ []
unfolding read_shape
shape-words s = num-words (field_at s 7 32) _ (λ h i. num-words (field_at s i 32) _ (λ r j. num-words (field_at s j 32) _ (λ c k. num-words (field_at s k 41) _ (λ l m. last h r c l (eqb m (length s))))))
  where
    last : (h r c l : ℕ) (t : Bool) → (cond t (asked (Shape h r c l)) unreadable).words ≡ []
    last h r c l true = refl
    last h r c l false = refl
