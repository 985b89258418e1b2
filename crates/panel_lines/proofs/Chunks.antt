-- THE THEOREM ON CHUNKS. However the input is cut into chunks, the lines that `take_line` gives chunk by chunk are the
-- lines of the whole input (`lines`, specs/Split.antt), each held to its first 1,025 bytes; and they are read alike.
-- `step-ended` and `step_open` say what one call of `take_line`, which answers `step_of`, adds to that. Assumes nothing.
use Prim.Native.Nat.{ℕ, suc, ◌+◌, ◌≤◌, ◌<◌}
use mathlib.Core.Path.{◌≡◌, refl, sym, ap, ◌∙◌}
use mathlib.Core.Bool.{Bool, true, false, cond}
use mathlib.Core.List.{List, [], ◌∷◌, ◌++◌, map}
use lib.ListN.{length, drop, length-append, length-drop, drop_of_length-le}
use lib.Seq.{take_all, take-append-le, length-take-le}
use lib.Dec.{eqb, ltb}
use native.Mathlib.Omega.{arith}
use borrow.Author.Tests.{le-ltb, ltb-true, ltb-false}
use Rattle.words.proofs.Bools.{never}
use Rattle.text.proofs.Spots.{here}
use Rattle.panel_lines.specs.Line.{read_of}
use Rattle.panel_lines.specs.Split.{ended_lines, last_line, some_last, lines, most_held, push, chunk_lines, chunk_held, whole_of}
use Rattle.panel_lines.specs.inner.Steps.{held_of, Stepped, stepped, step_of, run_lines, run_held, lines_of_chunks}
use Rattle.panel_lines.proofs.Cases.{read-long}

-- ---- holding only 1,025 bytes changes no reading

pub held_reads : (l : List ℕ) → read_of (held_of l) ≡ read_of l
held_reads l = go (ltb most_held (length l)) refl
  where
    go : (t : Bool) → ltb most_held (length l) ≡ t → read_of (held_of l) ≡ read_of l
    go true e =
        let m : most_held < length l = ltb-true most_held (length l) e in
        let n : length (held_of l) ≡ most_held = length-take-le most_held l (omega arith) in
        read-long (held_of l) (omega arith) ∙ sym (read-long l (omega arith))
    go false e = rw (take_all most_held l (ltb-false most_held (length l) e))

-- ---- chunks one after another are one chunk

pub lines-append : (xs ys h : List ℕ) → chunk_lines h (xs ++ ys) ≡ chunk_lines h xs ++ chunk_lines (chunk_held h xs) ys
unfolding chunk_lines chunk_held
lines-append [] ys h = refl
lines-append (b ∷ xs) ys h = go (eqb b 10) (lines-append xs ys []) (lines-append xs ys (push h b))
  where
    go : (t : Bool) → chunk_lines [] (xs ++ ys) ≡ chunk_lines [] xs ++ chunk_lines (chunk_held [] xs) ys → chunk_lines (push h b) (xs ++ ys) ≡ chunk_lines (push h b) xs ++ chunk_lines (chunk_held (push h b) xs) ys
        → cond t (h ∷ chunk_lines [] (xs ++ ys)) (chunk_lines (push h b) (xs ++ ys)) ≡ cond t (h ∷ chunk_lines [] xs) (chunk_lines (push h b) xs) ++ chunk_lines (cond t (chunk_held [] xs) (chunk_held (push h b) xs)) ys
    go true p q = ap (λ (z : List (List ℕ)). h ∷ z) p
    go false p q = q

pub held-append : (xs ys h : List ℕ) → chunk_held h (xs ++ ys) ≡ chunk_held (chunk_held h xs) ys
unfolding chunk_held
held-append [] ys h = refl
held-append (b ∷ xs) ys h = go (eqb b 10) (held-append xs ys []) (held-append xs ys (push h b))
  where
    go : (t : Bool) → chunk_held [] (xs ++ ys) ≡ chunk_held (chunk_held [] xs) ys → chunk_held (push h b) (xs ++ ys) ≡ chunk_held (chunk_held (push h b) xs) ys
        → cond t (chunk_held [] (xs ++ ys)) (chunk_held (push h b) (xs ++ ys)) ≡ chunk_held (cond t (chunk_held [] xs) (chunk_held (push h b) xs)) ys
    go true p q = p
    go false p q = q

pub run-lines : (cs : List (List ℕ)) (h : List ℕ) → run_lines h cs ≡ chunk_lines h (whole_of cs)
unfolding run_lines whole_of chunk_lines
run-lines [] h = refl
run-lines (c ∷ cs) h = rw (lines-append c (whole_of cs) h, run-lines cs (chunk_held h c))

pub run-held : (cs : List (List ℕ)) (h : List ℕ) → run_held h cs ≡ chunk_held h (whole_of cs)
unfolding run_held whole_of chunk_held
run-held [] h = refl
run-held (c ∷ cs) h = rw (held-append c (whole_of cs) h) (run-held cs (chunk_held h c))

-- ---- one chunk gives the lines of the whole, as they are held

push-held : (h : List ℕ) (b : ℕ) → push (held_of h) b ≡ held_of (h ++ (b ∷ []))
unfolding push
push-held h b = go (ltb (length h) most_held) refl
  where
    go : (t : Bool) → ltb (length h) most_held ≡ t → cond (ltb (length (held_of h)) most_held) (held_of h ++ (b ∷ [])) (held_of h) ≡ held_of (h ++ (b ∷ []))
    go true e =
        let l : length h < most_held = ltb-true (length h) most_held e in
        let a : length (h ++ (b ∷ [])) ≤ most_held = omega (arith, length-append h (b ∷ [])) in
        rw (take_all most_held h (omega arith), e, take_all most_held (h ++ (b ∷ [])) a)
    go false e =
        let l : most_held ≤ length h = ltb-false (length h) most_held e in
        rw (le-ltb (length (held_of h)) most_held (omega (arith, length-take-le most_held h l)), take-append-le most_held h (b ∷ []) l)

held-lines : (bs h : List ℕ) → chunk_lines (held_of h) bs ≡ map held_of (ended_lines h bs)
unfolding chunk_lines ended_lines
held-lines [] h = refl
held-lines (b ∷ bs) h = go (eqb b 10) (held-lines bs []) (held-lines bs (h ++ (b ∷ [])))
  where
    go : (t : Bool) → chunk_lines [] bs ≡ map held_of (ended_lines [] bs) → chunk_lines (held_of (h ++ (b ∷ []))) bs ≡ map held_of (ended_lines (h ++ (b ∷ [])) bs)
        → cond t (held_of h ∷ chunk_lines [] bs) (chunk_lines (push (held_of h) b) bs) ≡ map held_of (cond t (h ∷ ended_lines [] bs) (ended_lines (h ++ (b ∷ [])) bs))
    go true p q = ap (λ (z : List (List ℕ)). held_of h ∷ z) p
    go false p q = rw (push-held h b) q

held_last : (bs h : List ℕ) → chunk_held (held_of h) bs ≡ held_of (last_line h bs)
unfolding chunk_held last_line
held_last [] h = refl
held_last (b ∷ bs) h = go (eqb b 10) (held_last bs []) (held_last bs (h ++ (b ∷ [])))
  where
    go : (t : Bool) → chunk_held [] bs ≡ held_of (last_line [] bs) → chunk_held (held_of (h ++ (b ∷ []))) bs ≡ held_of (last_line (h ++ (b ∷ [])) bs)
        → cond t (chunk_held [] bs) (chunk_held (push (held_of h) b) bs) ≡ held_of (cond t (last_line [] bs) (last_line (h ++ (b ∷ [])) bs))
    go true p q = p
    go false p q = rw (push-held h b) q

some-held : (l : List ℕ) → some_last (held_of l) ≡ map held_of (some_last l)
unfolding some_last
some-held [] = refl
some-held (b ∷ bs) = refl

map-append : (f : List ℕ → List ℕ) (xs ys : List (List ℕ)) → map f (xs ++ ys) ≡ map f xs ++ map f ys
map-append f [] ys = refl
map-append f (x ∷ xs) ys = ap (λ (z : List (List ℕ)). f x ∷ z) (map-append f xs ys)

-- ---- the theorem

pub chunks_make_lines : (cs : List (List ℕ)) → lines_of_chunks cs ≡ map held_of (lines (whole_of cs))
unfolding lines_of_chunks lines
chunks_make_lines cs =
    let w = whole_of cs in
    rw (run-lines cs [], run-held cs [], map-append held_of (ended_lines [] w) (some_last (last_line [] w)), ← some-held (last_line [] w), ← held_last w [], ← held-lines w [])

read_alike : (ls : List (List ℕ)) → map read_of (map held_of ls) ≡ map read_of ls
read_alike [] = refl
read_alike (l ∷ ls) = rw (held_reads l, read_alike ls)

pub chunks_read-alike : (cs : List (List ℕ)) → map read_of (lines_of_chunks cs) ≡ map read_of (lines (whole_of cs))
chunks_read-alike cs = rw (chunks_make_lines cs) (read_alike (lines (whole_of cs)))

-- ---- one call of `take_line` from place i of a chunk on

ended_walk : (bs s h g : List ℕ) (i j : ℕ) → drop i s ≡ bs → step_of h i bs ≡ stepped g j true
    → (chunk_lines h bs ≡ g ∷ chunk_lines [] (drop j s)) × (chunk_held h bs ≡ chunk_held [] (drop j s))
unfolding step_of chunk_lines chunk_held
ended_walk [] s h g i j d e = absurd (never (ap (λ (x : Stepped). x.ended) e))
ended_walk (b ∷ bs) s h g i j d e = go (eqb b 10) (ended_walk bs s (push h b) g (suc i) j (here s bs i b d).rest) e
  where
    go : (t : Bool) → (step_of (push h b) (suc i) bs ≡ stepped g j true → (chunk_lines (push h b) bs ≡ g ∷ chunk_lines [] (drop j s)) × (chunk_held (push h b) bs ≡ chunk_held [] (drop j s)))
        → cond t (stepped h (suc i) true) (step_of (push h b) (suc i) bs) ≡ stepped g j true
        → (cond t (h ∷ chunk_lines [] bs) (chunk_lines (push h b) bs) ≡ g ∷ chunk_lines [] (drop j s)) × (cond t (chunk_held [] bs) (chunk_held (push h b) bs) ≡ chunk_held [] (drop j s))
    go true r q =
        let a : h ≡ g = ap (λ (x : Stepped). x.bytes) q in
        let n : suc i ≡ j = ap (λ (x : Stepped). x.next) q in
        let z : drop j s ≡ bs = rw n at (here s bs i b d).rest in
        (rw (a, z), rw z)
    go false r q = r q

open_walk : (bs h g : List ℕ) (i j : ℕ) → step_of h i bs ≡ stepped g j false → (chunk_lines h bs ≡ []) × ((chunk_held h bs ≡ g) × (j ≡ i + length bs))
unfolding step_of chunk_lines chunk_held
open_walk [] h g i j e = let n : i ≡ j = ap (λ (x : Stepped). x.next) e in (refl, (ap (λ (x : Stepped). x.bytes) e, omega arith))
open_walk (b ∷ bs) h g i j e = go (eqb b 10) (open_walk bs (push h b) g (suc i) j) e
  where
    go : (t : Bool) → (step_of (push h b) (suc i) bs ≡ stepped g j false → (chunk_lines (push h b) bs ≡ []) × ((chunk_held (push h b) bs ≡ g) × (j ≡ suc i + length bs)))
        → cond t (stepped h (suc i) true) (step_of (push h b) (suc i) bs) ≡ stepped g j false
        → (cond t (h ∷ chunk_lines [] bs) (chunk_lines (push h b) bs) ≡ []) × ((cond t (chunk_held [] bs) (chunk_held (push h b) bs) ≡ g) × (j ≡ i + suc (length bs)))
    go true r q = absurd (never (sym (ap (λ (x : Stepped). x.ended) q)))
    go false r q = let z = r q in (z.0, (z.1.0, omega (arith, z.1.1)))

-- it ended a line: g is that line as it is held, and the chunk's other lines start at place j
pub step-ended : (s h g : List ℕ) (i j : ℕ) → step_of h i (drop i s) ≡ stepped g j true
    → (chunk_lines h (drop i s) ≡ g ∷ chunk_lines [] (drop j s)) × (chunk_held h (drop i s) ≡ chunk_held [] (drop j s))
step-ended s h g i j e = ended_walk (drop i s) s h g i j refl e

-- it ended none: the chunk is used up, and g is held of the line
pub step_open : (s h g : List ℕ) (i j : ℕ) → i ≤ length s → step_of h i (drop i s) ≡ stepped g j false
    → (chunk_lines h (drop i s) ≡ []) × ((chunk_held h (drop i s) ≡ g) × (j ≡ length s))
step_open s h g i j l e = let z = open_walk (drop i s) h g i j e in (z.0, (z.1.0, omega (arith, z.1.1, length-drop i s)))

-- past the chunk's end what is held stays
pub held_end : (s h : List ℕ) (i : ℕ) → length s ≤ i → chunk_held h (drop i s) ≡ h
unfolding chunk_held
held_end s h i l = rw (drop_of_length-le s l)
