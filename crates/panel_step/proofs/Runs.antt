-- Lines one after another, and THE THEOREM ON THE PROGRAM'S INPUT: however the input is cut into chunks, the chunks' answers one
-- after another are the answers to the lines of the whole input (`run-whole`). Assumes nothing.
use Prim.Native.Nat.{ℕ, ◌+◌, ◌-◌, ◌≤◌}
use mathlib.Core.Path.{◌≡◌, refl, sym, ap, ◌∙◌}
use mathlib.Core.List.{List, [], ◌∷◌, ◌++◌, append_assoc, append-nil, map}
use native.Mathlib.Omega.{arith}
use borrow.Author.Tests.{le-ltb}
use lib.ListN.{length, take, drop, length-append, length-drop, drop_of_length-le}
use lib.Seq.{sets, sets-eq, drop-drop, take_all}
use Rattle.layout.specs.Slices.{Lent}
use Rattle.text.proofs.Puts.{sets_append}
use Rattle.panel_lines.specs.Line.{Reading}
use Rattle.panel_lines.specs.Split.{some_last, chunk_lines, chunk_held, lines, whole_of}
use Rattle.panel_lines.specs.inner.Steps.{held_of, run_lines, run_held, lines_of_chunks}
use Rattle.panel_lines.proofs.Chunks.{held_reads, chunks_make_lines}
use Rattle.panel_step.specs.Panel.{Reply, answer_to, answer_line, answers_of, Found, found, put, behind, longest, answer_within, run_of}

-- ---- answers behind each other in a slice

-- at the start
pub first_behind : (a : Reply) (o : List ℕ) → behind 0 a o ≡ put a o
first_behind a o = let z : 0 + length a.text ≡ length a.text = omega arith in rw z

-- no line is left
pub none-behind : (r : Lent) (n : ℕ) (o : List ℕ) (ls : List (List ℕ)) → ls ≡ [] → behind n (answers_of r ls) o ≡ found r n o
unfolding answers_of
none-behind r n o ls e = let z : n + 0 ≡ n = omega arith in rw (e, z)

-- a line more is answered
pub more_behind : (r t : Lent) (l : List ℕ) (ls ms : List (List ℕ)) (n m : ℕ) (o p : List ℕ) → ms ≡ l ∷ ls → found t m p ≡ behind n (answer_line r l) o
    → behind m (answers_of t ls) p ≡ behind n (answers_of r ms) o
unfolding answers_of
more_behind r t l ls ms n m o p e f =
    let a = answer_line r l in
    let b = answers_of a.lends ls in
    let i : t ≡ a.lends = ap (λ (x : Found). x.lends) f in
    let j : m ≡ n + length a.text = ap (λ (x : Found). x.len) f in
    let k : p ≡ sets o n a.text = ap (λ (x : Found). x.out) f in
    let z : n + length a.text + length b.text ≡ n + length (a.text ++ b.text) = omega (arith, length-append a.text b.text) in
    rw (e, i, j, k, z, sets_append o n a.text b.text)

-- a text that is put at the start of the part behind place n stands from place n on in the whole slice
pub end_put : (o t : List ℕ) (n : ℕ) → n + length t ≤ length o → take n o ++ sets (drop n o) 0 t ≡ sets o n t
end_put o t n h =
    let l : 0 + length t ≤ length (drop n o) = omega (arith, length-drop n o) in
    let z : 0 + length t ≡ length t = omega arith in
    rw (sets-eq t (drop n o) 0 l, sets-eq t o n h, z, drop-drop (length t) n o) (sym (append_assoc (take n o) t (drop (n + length t) o)))

-- a line that is answered into the end of a slice
pub reply_is : (r t : Lent) (l o q : List ℕ) (at n m : ℕ) → at + longest ≤ length o → n ≡ length o - at → m ≤ longest
    → found t m q ≡ put (answer_within (length (take n (drop at o))) r l) (take n (drop at o))
    → found t (at + m) (take at o ++ (q ++ drop n (drop at o))) ≡ behind at (answer_line r l) o
unfolding answer_within
reply_is r t l o q at n m h e k f =
    let d : length (drop at o) ≡ length o - at = length-drop at o in
    let whole : take n (drop at o) ≡ drop at o = take_all n (drop at o) (omega arith) in
    let u : length (drop at o) ≤ n = omega arith in
    let none : drop n (drop at o) ≡ [] = drop_of_length-le (drop at o) u in
    let g : found t m q ≡ put (answer_line r l) (drop at o) = rw (whole, le-ltb (length (drop at o)) longest (omega arith)) at f in
    let a = answer_line r l in
    let i : m ≡ length a.text = ap (λ (x : Found). x.len) g in
    let j : q ≡ sets (drop at o) 0 a.text = ap (λ (x : Found). x.out) g in
    let s : take at o ++ (q ++ drop n (drop at o)) ≡ sets o at a.text = rw (none, append-nil q, j) (end_put o a.text at (omega arith)) in
    rw (s, ap (λ (x : Found). x.lends) g, i)

-- ---- lines in two lists

abbrev then : Reply → Reply → Reply
then a b = record { lends = b.lends; text = a.text ++ b.text }

answers-append : (r : Lent) (ls ms : List (List ℕ)) → answers_of r (ls ++ ms) ≡ then (answers_of r ls) (answers_of (answers_of r ls).lends ms)
unfolding answers_of
answers-append r [] ms = refl
answers-append r (l ∷ ls) ms =
    let a = answer_line r l in
    let b = answers_of a.lends ls in
    let c = answers_of b.lends ms in
    rw (answers-append a.lends ls ms, append_assoc a.text b.text c.text)

-- a line that is held to its first 1,025 bytes is answered as the whole
held-answer : (r : Lent) (l : List ℕ) → answer_line r (held_of l) ≡ answer_line r l
unfolding answer_line
held-answer r l = ap (λ (x : Reading). answer_to r x.request x.words) (held_reads l)

held-answers : (r : Lent) (ls : List (List ℕ)) → answers_of r (map held_of ls) ≡ answers_of r ls
unfolding answers_of
held-answers r [] = refl
held-answers r (l ∷ ls) = rw (held-answer r l, held-answers (answer_line r l).lends ls)

-- ---- the theorem

run-lines : (r : Lent) (h : List ℕ) (cs : List (List ℕ)) → run_of r h cs ≡ answers_of r (run_lines h cs ++ some_last (run_held h cs))
unfolding run_of run_lines run_held
run-lines r h [] = refl
run-lines r h (c ∷ cs) =
    let a = answers_of r (chunk_lines h c) in
    let k = chunk_held h c in
    rw (append_assoc (chunk_lines h c) (run_lines k cs) (some_last (run_held k cs)), answers-append r (chunk_lines h c) (run_lines k cs ++ some_last (run_held k cs)), ← run-lines a.lends k cs)

pub run-whole : (r : Lent) (cs : List (List ℕ)) → run_of r [] cs ≡ answers_of r (lines (whole_of cs))
unfolding lines_of_chunks
run-whole r cs = run-lines r [] cs ∙ ap (answers_of r) (chunks_make_lines cs) ∙ held-answers r (lines (whole_of cs))
