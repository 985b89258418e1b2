-- In the middle of a chunk: the answers so far are those to the lines of the part that was taken. Assumes nothing.
use Prim.Native.Nat.{ℕ, suc, min, ◌+◌, ◌≤◌, ◌<◌}
use mathlib.Core.Path.{◌≡◌, refl, sym, ap, ◌∙◌}
use mathlib.Core.Bool.{Bool, true, false, cond}
use mathlib.Core.List.{List, [], ◌∷◌, ◌++◌, append_assoc, append-nil}
use native.Mathlib.Omega.{arith}
use lib.Dec.{eqb}
use lib.ListN.{length, take, drop, take-append-drop, length-drop}
use lib.Seq.{take_all, take-add}
use Rattle.words.proofs.Bools.{never}
use Rattle.layout.specs.Slices.{Lent}
use Rattle.panel_lines.specs.Split.{most_held, push, chunk_lines, chunk_held}
use Rattle.panel_lines.specs.inner.Steps.{Stepped, step_of, stepped}
use Rattle.panel_lines.proofs.Chunks.{lines-append, held-append, step_open}
use Rattle.panel_step.specs.Panel.{longest, answer_line, answers_of, Found, found, put, behind}
use Rattle.panel_step.proofs.Runs.{first_behind, none-behind, more_behind}

-- ---- a line of a chunk

-- the part up to a newline has one line, and nothing is held after it
record Cut (bs h g : List ℕ) (i j : ℕ) : Type 0 where
  more : ℕ
  place : j ≡ i + suc more
  lines : chunk_lines h (take (suc more) bs) ≡ g ∷ []
  held : chunk_held h (take (suc more) bs) ≡ []

cut : (bs h g : List ℕ) (i j : ℕ) → step_of h i bs ≡ stepped g j true → Cut bs h g i j
unfolding step_of chunk_lines chunk_held
cut [] h g i j e = absurd (never (ap (λ (x : Stepped). x.ended) e))
cut (b ∷ bs) h g i j e =
    let z = go (eqb b 10) (cut bs (push h b) g (suc i) j) e in
    record { more = z.0; place = z.1.0; lines = z.1.1.0; held = z.1.1.1 }
  where
    go : (t : Bool) → (step_of (push h b) (suc i) bs ≡ stepped g j true → Cut bs (push h b) g (suc i) j)
        → cond t (stepped h (suc i) true) (step_of (push h b) (suc i) bs) ≡ stepped g j true
        → (m : ℕ) × ((j ≡ i + suc m) × ((cond t (h ∷ chunk_lines [] (take m bs)) (chunk_lines (push h b) (take m bs)) ≡ g ∷ []) × (cond t (chunk_held [] (take m bs)) (chunk_held (push h b) (take m bs)) ≡ [])))
    go true r q =
        let n : suc i ≡ j = ap (λ (x : Stepped). x.next) q in
        (0, (omega arith, (ap (λ (x : Stepped). x.bytes ∷ []) q, refl)))
    go false r q = let z = r q in (suc z.more, (omega (arith, z.place), (z.lines, z.held)))

-- ---- the loop's invariant

-- the slices keep their lengths
pub record Kept (r t : Lent) : Type 0 where
  pub counters : length t.counters ≡ length r.counters
  pub norms : length t.norms ≡ length r.norms
  pub entries : length t.entries ≡ length r.entries
  pub counts : length t.counts ≡ length r.counts

pub kept_on : (r s t : Lent) → Kept r s → Kept s t → Kept r t
kept_on r s t a b =
    record { counters = b.counters ∙ a.counters; norms = b.norms ∙ a.norms; entries = b.entries ∙ a.entries; counts = b.counts ∙ a.counts }

-- at place `at` of a chunk, of which no more than `end` is taken, with n bytes held of the line and len bytes of answers
pub record Chunked (chunk line₀ : List ℕ) (held : ℕ) (r₀ : Lent) (out₀ line : List ℕ) (r : Lent) (out : List ℕ) (at end n len : ℕ) : Type 0 where
  pub inside : at ≤ end
  pub within : end ≤ length chunk
  pub moved : min 1 (length chunk) ≤ end
  pub few : n ≤ most_held
  pub fits : len ≤ length out
  pub spare : at < end → (len + longest ≤ length out) × (end ≡ length chunk)
  pub long : length line ≡ length line₀
  pub room : length out ≡ length out₀
  pub kept : Kept r₀ r
  pub rest : take n line ≡ chunk_held (take held line₀) (take at chunk)
  pub goes : (ms : List (List ℕ)) → behind len (answers_of r ms) out ≡ put (answers_of r₀ (chunk_lines (take held line₀) (take at chunk) ++ ms)) out₀

pub chunk_start : (chunk line : List ℕ) (held : ℕ) (r : Lent) (out : List ℕ) → held ≤ most_held → longest ≤ length out → Chunked chunk line held r out line r out 0 (length chunk) held 0
unfolding chunk_lines chunk_held
chunk_start chunk line held r out h l =
    record {
      inside = omega arith;
      within = omega arith;
      moved = omega arith;
      few = h;
      fits = omega arith;
      spare = λ _. (omega (arith, l), refl);
      long = refl;
      room = refl;
      kept = record { counters = refl; norms = refl; entries = refl; counts = refl };
      rest = refl;
      goes = λ ms. first_behind (answers_of r ms) out;
    }

module _ (chunk line₀ : List ℕ) (held : ℕ) (r₀ : Lent) (out₀ line : List ℕ) (r : Lent) (out : List ℕ) (at end n len : ℕ) (z : Chunked chunk line₀ held r₀ out₀ line r out at end n len) where
  -- the lines that ended so far
  abbrev done : List (List ℕ)
  done = chunk_lines (take held line₀) (take at chunk)

  -- a line ended, of which k bytes were held, and it was answered; the chunk is left at once, or goes on where the longest answer has room
  pub chunk_ended : (line' : List ℕ) (k next end' : ℕ) → at < end → min (at + 1) (length chunk) ≤ next → next ≤ length chunk → length line' ≡ length line
      → stepped (take k line') next true ≡ step_of (take n line) at (drop at chunk)
      → (t : Lent) (m : ℕ) (p : List ℕ) → found t m p ≡ behind len (answer_line r (take k line')) out → m ≤ len + longest → length p ≡ length out → Kept r t
      → next ≤ end' → end' ≤ length chunk → (next < end' → (m + longest ≤ length out) × (end' ≡ length chunk))
      → Chunked chunk line₀ held r₀ out₀ line' t p next end' 0 m
  chunk_ended line' k next end' a b c d e t m p f g h i u v w =
      let x = cut (drop at chunk) (take n line) (take k line') at next (sym e) in
      let part = take (suc x.more) (drop at chunk) in
      let y : take next chunk ≡ take at chunk ++ part = ap (λ (q : ℕ). take q chunk) x.place ∙ take-add at (suc x.more) chunk in
      let ls : chunk_lines (take held line₀) (take next chunk) ≡ done ++ (take k line' ∷ []) =
      rw y (lines-append (take at chunk) part (take held line₀) ∙ ap (λ (h : List ℕ). done ++ chunk_lines h part) (sym z.rest) ∙ ap (λ (q : List (List ℕ)). done ++ q) x.lines) in
      let hs : chunk_held (take held line₀) (take next chunk) ≡ [] =
      rw y (held-append (take at chunk) part (take held line₀) ∙ ap (λ (h : List ℕ). chunk_held h part) (sym z.rest) ∙ x.held) in
      record {
        inside = u;
        within = v;
        moved = omega (arith, z.within);
        few = omega arith;
        fits = omega (arith, g, h, (z.spare a).0);
        spare = λ s. (omega (arith, (w s).0, h), (w s).1);
        long = d ∙ z.long;
        room = h ∙ z.room;
        kept = record {
          counters = i.counters ∙ z.kept.counters;
          norms = i.norms ∙ z.kept.norms;
          entries = i.entries ∙ z.kept.entries;
          counts = i.counts ∙ z.kept.counts;
        };
        rest = sym hs;
        goes = λ ms.
            more_behind r t (take k line') ms (take k line' ∷ ms) len m out p refl f ∙ z.goes (take k line' ∷ ms)
            ∙ ap (λ (q : List (List ℕ)). put (answers_of r₀ q) out₀) (sym (ap (λ (q : List (List ℕ)). q ++ ms) ls ∙ append_assoc done (take k line' ∷ []) ms));
      }

  -- the chunk is used up, and k bytes are held of a line that goes on
  pub chunk_open : (line' : List ℕ) (k next : ℕ) → at < end → next ≤ length chunk → k ≤ most_held → length line' ≡ length line
      → stepped (take k line') next false ≡ step_of (take n line) at (drop at chunk)
      → Chunked chunk line₀ held r₀ out₀ line' r out next end k len
  chunk_open line' k next a c d e f =
      let s = step_open chunk (take n line) (take k line') at next (omega (arith, z.within)) (sym f) in
      let y : take next chunk ≡ take at chunk ++ drop at chunk = take_all next chunk (omega (arith, s.1.1)) ∙ sym (take-append-drop at chunk) in
      let ls : chunk_lines (take held line₀) (take next chunk) ≡ done =
      rw y (lines-append (take at chunk) (drop at chunk) (take held line₀) ∙ ap (λ (h : List ℕ). done ++ chunk_lines h (drop at chunk)) (sym z.rest) ∙ ap (λ (q : List (List ℕ)). done ++ q) s.0 ∙ append-nil done) in
      let hs : chunk_held (take held line₀) (take next chunk) ≡ take k line' =
      rw y (held-append (take at chunk) (drop at chunk) (take held line₀) ∙ ap (λ (h : List ℕ). chunk_held h (drop at chunk)) (sym z.rest) ∙ s.1.0) in
      record {
        inside = omega (arith, (z.spare a).1);
        within = z.within;
        moved = z.moved;
        few = d;
        fits = z.fits;
        spare = λ _. z.spare a;
        long = e ∙ z.long;
        room = z.room;
        kept = z.kept;
        rest = sym hs;
        goes = λ ms. z.goes ms ∙ ap (λ (q : List (List ℕ)). put (answers_of r₀ (q ++ ms)) out₀) (sym ls);
      }

  pub chunk_end : found r len out ≡ put (answers_of r₀ done) out₀
  chunk_end = sym (none-behind r len out [] refl) ∙ z.goes [] ∙ ap (λ (q : List (List ℕ)). put (answers_of r₀ q) out₀) (append-nil done)

-- ---- part by part

-- lines in two lists leave what the second leaves after the first
lends-append : (r : Lent) (ls ms : List (List ℕ)) → (answers_of r (ls ++ ms)).lends ≡ (answers_of (answers_of r ls).lends ms).lends
unfolding answers_of
lends-append r [] ms = refl
lends-append r (l ∷ ls) ms = lends-append (answer_line r l).lends ls ms

-- up to place `from` the chunk's lines are answered, and their answers written
pub record Parted (chunk line₀ : List ℕ) (held : ℕ) (r₀ : Lent) (out₀ line : List ℕ) (r : Lent) (out : List ℕ) (from n : ℕ) : Type 0 where
  pub inside : from ≤ length chunk
  pub few : n ≤ most_held
  pub long : length line ≡ length line₀
  pub room : length out ≡ length out₀
  pub kept : Kept r₀ r
  pub rest : take n line ≡ chunk_held (take held line₀) (take from chunk)
  pub left : r ≡ (answers_of r₀ (chunk_lines (take held line₀) (take from chunk))).lends

pub part-start : (chunk line : List ℕ) (held : ℕ) (r : Lent) (out : List ℕ) → held ≤ most_held → Parted chunk line held r out line r out 0 held
unfolding chunk_lines chunk_held answers_of
part-start chunk line held r out h =
    record { inside = omega arith; few = h; long = refl; room = refl; kept = record { counters = refl; norms = refl; entries = refl; counts = refl }; rest = refl; left = refl }

module _ (chunk line₀ : List ℕ) (held : ℕ) (r₀ : Lent) (out₀ line : List ℕ) (r : Lent) (out : List ℕ) (from n : ℕ) (z : Parted chunk line₀ held r₀ out₀ line r out from n) where
  -- one part more
  pub part-next : (line' : List ℕ) (k next : ℕ) → next ≤ length (drop from chunk) → k ≤ most_held → length line' ≡ length line
      → take k line' ≡ chunk_held (take n line) (take next (drop from chunk))
      → (t : Lent) (m : ℕ) (p : List ℕ) → found t m p ≡ put (answers_of r (chunk_lines (take n line) (take next (drop from chunk)))) out → length p ≡ length out → Kept r t
      → Parted chunk line₀ held r₀ out₀ line' t p (from + next) k
  part-next line' k next a b c d t m p e f g =
      let part = take next (drop from chunk) in
      let y : take (from + next) chunk ≡ take from chunk ++ part = take-add from next chunk in
      let hs : chunk_held (take held line₀) (take (from + next) chunk) ≡ take k line' =
      rw y (held-append (take from chunk) part (take held line₀) ∙ ap (λ (h : List ℕ). chunk_held h part) (sym z.rest) ∙ sym d) in
      let done = chunk_lines (take held line₀) (take from chunk) in
      let ls : chunk_lines (take held line₀) (take (from + next) chunk) ≡ done ++ chunk_lines (take n line) part =
      rw y (lines-append (take from chunk) part (take held line₀) ∙ ap (λ (h : List ℕ). done ++ chunk_lines h part) (sym z.rest)) in
      let i : t ≡ (answers_of r (chunk_lines (take n line) part)).lends = ap (λ (x : Found). x.lends) e in
      record {
        inside = omega (arith, length-drop from chunk, z.inside);
        few = b;
        long = c ∙ z.long;
        room = f ∙ z.room;
        kept = kept_on _ _ _ z.kept g;
        rest = sym hs;
        left =
            i ∙ ap (λ (x : Lent). (answers_of x (chunk_lines (take n line) part)).lends) z.left ∙ sym (lends-append r₀ done (chunk_lines (take n line) part))
            ∙ ap (λ (q : List (List ℕ)). (answers_of r₀ q).lends) (sym ls);
      }

  pub part_end : length chunk ≤ from → (r ≡ (answers_of r₀ (chunk_lines (take held line₀) chunk)).lends) × (take n line ≡ chunk_held (take held line₀) chunk)
  part_end l =
      let y : take from chunk ≡ chunk = take_all from chunk l in
      (z.left ∙ ap (λ (q : List ℕ). (answers_of r₀ (chunk_lines (take held line₀) q)).lends) y, z.rest ∙ ap (chunk_held (take held line₀)) y)

-- ---- between two chunks: no more than 1,025 bytes are held, and the slices keep their lengths

pub record Between (chunk₀ line₀ : List ℕ) (r₀ : Lent) (out₀ chunk line : List ℕ) (r : Lent) (out : List ℕ) (held : ℕ) : Type 0 where
  pub few : held ≤ most_held
  pub chunks : length chunk ≡ length chunk₀
  pub lines : length line ≡ length line₀
  pub outs : length out ≡ length out₀
  pub kept : Kept r₀ r
