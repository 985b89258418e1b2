-- The walks as the code goes them, on the words and counts.
use mathlib.Core.Path.{◌≡◌, refl, sym, ap, ◌∙◌, subst}
use mathlib.Core.Logic.{◌≢◌}
use mathlib.Core.Bool.{Bool, true, false, cond, not}
use mathlib.Core.List.{List}
use Prim.Native.Nat.{ℕ, zero, suc, ◌+◌, ◌-◌, ◌*◌, ◌≤◌, ◌<◌}
use native.Mathlib.Omega.{arith}
use native.Mathlib.Numerals.{add-one}
use native.Mathlib.Nat.{mod-lt}
use native.Mathlib.Decide.{ℕ_discrete}
use lib.ListN.{length, get_or, set, length-set}
use lib.IntN.{ℤ, pos}
use lib.Dec.{eqb, leb}
use borrow.Author.Tests.{eq-eqb, ne_eqb, le-leb, lt-leb, leb-true, lt-ltb, le-ltb}
use Rattle.std.proofs.Common.{Option, Some, None, IfSome, unwrap_or}
use Rattle.std.specs.Bool.{then_some}
use Rattle.words.specs.Num.{in_range}
use Rattle.words.proofs.Bools.{and_left}
use Rattle.heap_moves.specs.Cands.{Cand, count_at}
use Rattle.heap_moves.specs.Flat.{cands_of}
use Rattle.heap_moves.proofs.Views.{cand_at, count_at_lem}
use Rattle.heap_index.specs.declared.Lookup.{Lookup}
use Rattle.heap_index.specs.declared.Lookup.TheVariants.{Met, Vacant}
use Rattle.heap_index.specs.Index.{ends_at, home, next_place, dist, word, key_at, key_on, is_name, look_from, look, insert_at, insert, close, under_by, found_under, remove_at, remove, exchange_at, exchange, IndexStep, step_to, no_step}
use Rattle.heap_index.proofs.Circle.{next-lt}
use Rattle.heap_index.proofs.LookupEnds.{found_met}

-- ---- places

pub next_wraps : (m p : ℕ) → p + 1 ≡ m → 0 ≡ next_place m p
unfolding next_place
next_wraps m p e = rw (eq-eqb (p + 1) m e)

pub next_on : (m p : ℕ) → (p + 1 ≡ m → ⊥) → p + 1 ≡ next_place m p
unfolding next_place
next_on m p e = rw (ne_eqb (p + 1) m e)

pub dist_on : (m a b : ℕ) → a ≤ b → b - a ≡ dist m a b
unfolding dist
dist_on m a b h = rw (le-leb a b h)

pub dist_around : (m a b : ℕ) → b < a → m - a + b ≡ dist m a b
unfolding dist
dist_around m a b h = rw (lt-leb a b h)

-- ---- what a word names

pub name_no : (es : List ℕ) (ns : List ℤ) (n w : ℕ) → n < w → false ≡ is_name n (cands_of es ns) w
unfolding is_name
name_no es ns n w h = rw (lt-leb w n h)

pub name_is : (es : List ℕ) (ns : List ℤ) (n w : ℕ) (b : Bool) → w ≤ n → n ≤ length ns → 0 < w → b ≡ in_range (get_or ns (w - 1) (pos 0)) → b ≡ is_name n (cands_of es ns) w
unfolding is_name
name_is es ns n w b h l z e = rw (le-leb w n h, count_at_lem es ns (w - 1) (omega arith)) e

pub name_le : (n : ℕ) (cs : List Cand) (w : ℕ) → is_name n cs w ≡ true → w ≤ n
unfolding is_name
name_le n cs w e = leb-true w n (and_left (leb w n) (in_range (count_at cs (w - 1))) e)

-- the key that is read
pub key-read : (es : List ℕ) (ns : List ℤ) (i : ℕ) → i < length ns → key_at (cands_of es ns) i ≡ get_or es (4 * i) 0
key-read es ns i h = ap (λ (c : Cand). c.item.key) (cand_at es ns i h)

-- ---- a lookup

pub record LookInv (xs : List ℕ) (n : ℕ) (cs : List Cand) (k p d : ℕ) : Type 0 where
  pub here : p < length xs
  pub left : ℕ
  pub all : left + d ≡ length xs
  pub goes : look_from left xs n cs k p d ≡ look xs n cs k

module _ (xs : List ℕ) (n : ℕ) (cs : List Cand) (k : ℕ) where
  pub look_none : length xs ≡ 0 → None ≡ look xs n cs k
  unfolding look look_from
  look_none e = rw e

  pub look-start : (p : ℕ) → p ≡ home (length xs) k → p < length xs → LookInv xs n cs k p 0
  unfolding look
  look-start p e h = record { here = h; left = length xs; all = omega arith; goes = ap (λ (x : ℕ). look_from (length xs) xs n cs k x 0) e }

  pub look-next : (p p' d : ℕ) → LookInv xs n cs k p d → d < length xs → word xs p ≢ 0 → is_name n cs (word xs p) ≡ true → key_on xs cs p ≢ k → p' ≡ next_place (length xs) p → LookInv xs n cs k p' (d + 1)
  unfolding look_from
  look-next p p' d v h z w e q = go v.left v.all v.goes
    where
      go : (f : ℕ) → f + d ≡ length xs → look_from f xs n cs k p d ≡ look xs n cs k → LookInv xs n cs k p' (d + 1)
      go zero a g = absurd (omega arith)
      go (suc f) a g =
          record {
            here = subst (λ (x : ℕ). x < length xs) (sym q) (next-lt (length xs) p v.here);
            left = f;
            all = omega (arith, a);
            goes = ap (λ (x : ℕ). look_from f xs n cs k x (d + 1)) q ∙ (rw (ne_eqb (word xs p) 0 z, w, ne_eqb (key_on xs cs p) k e) at g);
          }

  pub look_vacant : (p d : ℕ) → LookInv xs n cs k p d → d < length xs → word xs p ≡ 0 → Some (Vacant p (d + 1)) ≡ look xs n cs k
  unfolding look_from
  look_vacant p d v h z = go v.left v.all v.goes
    where
      go : (f : ℕ) → f + d ≡ length xs → look_from f xs n cs k p d ≡ look xs n cs k → Some (Vacant p (d + 1)) ≡ look xs n cs k
      go zero a g = absurd (omega arith)
      go (suc f) a g = rw (eq-eqb (word xs p) 0 z) at g

  pub look_stray : (p d : ℕ) → LookInv xs n cs k p d → d < length xs → word xs p ≢ 0 → is_name n cs (word xs p) ≡ false → None ≡ look xs n cs k
  unfolding look_from
  look_stray p d v h z w = go v.left v.all v.goes
    where
      go : (f : ℕ) → f + d ≡ length xs → look_from f xs n cs k p d ≡ look xs n cs k → None ≡ look xs n cs k
      go zero a g = absurd (omega arith)
      go (suc f) a g = rw (ne_eqb (word xs p) 0 z, w) at g

  pub look-found : (p d : ℕ) → LookInv xs n cs k p d → d < length xs → word xs p ≢ 0 → is_name n cs (word xs p) ≡ true → key_on xs cs p ≡ k → Some (Met p (d + 1)) ≡ look xs n cs k
  unfolding look_from
  look-found p d v h z w e = go v.left v.all v.goes
    where
      go : (f : ℕ) → f + d ≡ length xs → look_from f xs n cs k p d ≡ look xs n cs k → Some (Met p (d + 1)) ≡ look xs n cs k
      go zero a g = absurd (omega arith)
      go (suc f) a g = rw (ne_eqb (word xs p) 0 z, w, eq-eqb (key_on xs cs p) k e) at g

  pub look_end : (p d : ℕ) → LookInv xs n cs k p d → length xs ≤ d → None ≡ look xs n cs k
  unfolding look_from
  look_end p d v h = go v.left v.all v.goes
    where
      go : (f : ℕ) → f + d ≡ length xs → look_from f xs n cs k p d ≡ look xs n cs k → None ≡ look xs n cs k
      go zero a g = g
      go (suc f) a g = absurd (omega arith)

  -- ---- where it ended is a place

  vacant_below : (f p d q e : ℕ) → p < length xs → look_from f xs n cs k p d ≡ Some (Vacant q e) → q < length xs
  unfolding look_from
  vacant_below zero p d q e h s = let z : ◌≡◌ {A = ℕ} 0 1 = cc in absurd (omega (arith, z))
  vacant_below (suc f) p d q e h s =
      go (vacant_below f (next_place (length xs) p) (d + 1) q e (next-lt (length xs) p h)) (eqb (word xs p) 0) (is_name n cs (word xs p)) (eqb (key_on xs cs p) k) s
    where
      go : (look_from f xs n cs k (next_place (length xs) p) (d + 1) ≡ Some (Vacant q e) → q < length xs) → (a b c : Bool)
          → cond a (Some (Vacant p (d + 1))) (cond (not b) None (cond c (Some (Met p (d + 1))) (look_from f xs n cs k (next_place (length xs) p) (d + 1)))) ≡ Some (Vacant q e) → q < length xs
      go ih true b c s = let y : p ≡ q = cc in omega (arith, y, h)
      go ih false false c s = let z : ◌≡◌ {A = ℕ} 0 1 = cc in absurd (omega (arith, z))
      go ih false true true s = let z : ◌≡◌ {A = ℕ} 0 1 = cc in absurd (omega (arith, z))
      go ih false true false s = ih s

  -- a lookup that was not refused has a table
  some : (l : Option Lookup) → look xs n cs k ≡ l → l ≢ None → 0 < length xs
  some l e ne = go (ℕ_discrete (length xs) 0)
    where
      go : Dec (length xs ≡ 0) → 0 < length xs
      go (yes z) = absurd (ne (sym e ∙ sym (look_none z)))
      go (no z) = omega (arith, z)

  pub found-place : (q e : ℕ) → look xs n cs k ≡ Some (Met q e) → q < length xs
  unfolding look
  found-place q e s =
      let h = some (Some (Met q e)) s (λ y. let z : ◌≡◌ {A = ℕ} 0 1 = cc in omega (arith, z)) in
      (found_met xs n cs k (length xs) (home (length xs) k) 0 q e (mod-lt k h) s).below

  -- and it holds the number of a candidate
  pub found_number : (q e : ℕ) → look xs n cs k ≡ Some (Met q e) → (0 < word xs q) × (word xs q ≤ n)
  unfolding look
  found_number q e s =
      let h = some (Some (Met q e)) s (λ y. let z : ◌≡◌ {A = ℕ} 0 1 = cc in omega (arith, z)) in
      let t = found_met xs n cs k (length xs) (home (length xs) k) 0 q e (mod-lt k h) s in
      (omega (arith, t.there), t.named)

  pub vacant_place : (q e : ℕ) → look xs n cs k ≡ Some (Vacant q e) → q < length xs
  unfolding look
  vacant_place q e s =
      let h = some (Some (Vacant q e)) s (λ y. let z : ◌≡◌ {A = ℕ} 0 1 = cc in omega (arith, z)) in vacant_below (length xs) (home (length xs) k) 0 q e (mod-lt k h) s

  -- ---- a key comes in there

  -- wherever it ended
  pub ends_place : (l : Lookup) → look xs n cs k ≡ Some l → ends_at l < length xs
  ends_place (Met q e) s = found-place q e s
  ends_place (Vacant q e) s = vacant_place q e s

  pub insert_is : (i : ℕ) (l : Option Lookup) → look xs n cs k ≡ l → insert xs n cs k i ≡ insert_at xs i l
  unfolding insert
  insert_is i l e = ap (insert_at xs i) e

-- ---- the place of an entry

pub place_is : (xs : List ℕ) (n : ℕ) (cs : List Cand) (i k : ℕ) (l : Option Lookup) → key_at cs i ≡ k → look xs n cs k ≡ l → found_under xs n cs i ≡ under_by xs i l
unfolding found_under
place_is xs n cs i k l q e = ap (under_by xs i) (ap (look xs n cs) q ∙ e)

-- where the key was met: whether its place bears the number i
pub place_told : (xs : List ℕ) (n : ℕ) (cs : List Cand) (i k p d : ℕ) (r : Option ℕ) → key_at cs i ≡ k → look xs n cs k ≡ Some (Met p d) → r ≡ then_some (eqb (word xs p) (i + 1)) p
    → (unwrap_or r (length xs) ≡ found_under xs n cs i) × IfSome r (λ j. j < length xs)
place_told xs n cs i k p d r q e s = rw (s, add-one i, place_is xs n cs i k (Some (Met p d)) q e) (go (eqb (word xs p) (suc i)))
  where
    go : (b : Bool) → (unwrap_or (then_some b p) (length xs) ≡ cond b p (length xs)) × IfSome (then_some b p) (λ j. j < length xs)
    go true = (refl, found-place xs n cs k p d e)
    go false = (refl, tt)

-- ---- closing a gap

-- a whole closing, by a name that the proof files do not have for themselves
abbrev pub closing : ℕ → List ℕ → ℕ → List Cand → ℕ → ℕ → IndexStep
closing many xs n cs g p = close many xs n cs g p

-- what is left to look at gives the goal
pub record CloseInv (goal : IndexStep) (m n : ℕ) (cs : List Cand) (xs : List ℕ) (g p left : ℕ) : Type 0 where
  pub long : length xs ≡ m
  pub gapped : g < length xs
  pub here : p < length xs
  pub goes : close left xs n cs g p ≡ goal

pub close-start : (many n : ℕ) (cs : List Cand) (xs : List ℕ) (g p : ℕ) → g < length xs → p < length xs → CloseInv (close many xs n cs g p) (length xs) n cs xs g p many
close-start many n cs xs g p hg hp = record { long = refl; gapped = hg; here = hp; goes = refl }

module _ (goal : IndexStep) (m n : ℕ) (cs : List Cand) (xs : List ℕ) (g p left : ℕ) (v : CloseInv goal m n cs xs g p left) where
  pub close_stop : 0 < left → word xs p ≡ 0 → step_to xs ≡ goal
  unfolding close
  close_stop h z = go left h v.goes
    where
      go : (f : ℕ) → 0 < f → close f xs n cs g p ≡ goal → step_to xs ≡ goal
      go zero h s = absurd (omega (arith, h))
      go (suc f) h s = rw (eq-eqb (word xs p) 0 z) at s

  pub close_stray : 0 < left → word xs p ≢ 0 → is_name n cs (word xs p) ≡ false → no_step xs ≡ goal
  unfolding close
  close_stray h z w = go left h v.goes
    where
      go : (f : ℕ) → 0 < f → close f xs n cs g p ≡ goal → no_step xs ≡ goal
      go zero h s = absurd (omega (arith, h))
      go (suc f) h s = rw (ne_eqb (word xs p) 0 z, w) at s

  pub close_end : left ≤ 0 → no_step xs ≡ goal
  unfolding close
  close_end h = go left h v.goes
    where
      go : (f : ℕ) → f ≤ 0 → close f xs n cs g p ≡ goal → no_step xs ≡ goal
      go zero h s = s
      go (suc f) h s = absurd (omega (arith, h))

  pub close-next : (h k g' p' : ℕ) (ys : List ℕ) → 0 < left → word xs p ≢ 0 → is_name n cs (word xs p) ≡ true → key_on xs cs p ≡ k → h ≡ home m k
      → g' ≡ cond (leb (dist (length xs) g p) (dist (length xs) h p)) p g
      → ys ≡ cond (leb (dist (length xs) g p) (dist (length xs) h p)) (set (set xs g (word xs p)) p 0) xs → p' ≡ next_place m p → CloseInv goal m n cs ys g' p' (left - 1)
  unfolding close
  close-next h k g' p' ys l z w ek eh₀ eg ey ep₀ = go left l v.goes
    where
      test : Bool
      test = leb (dist (length xs) g p) (dist (length xs) h p)

      sets : (b : Bool) → length (cond b (set (set xs g (word xs p)) p 0) xs) ≡ length xs
      sets true = simp length-set
      sets false = refl

      place : (b : Bool) → cond b p g < length xs
      place true = v.here
      place false = v.gapped

      lifts : (b : Bool) (f : ℕ)
          → cond b (close f (set (set xs g (word xs p)) p 0) n cs p (next_place (length xs) p)) (close f xs n cs g (next_place (length xs) p))
          ≡ close f (cond b (set (set xs g (word xs p)) p 0) xs) n cs (cond b p g) (next_place (length xs) p)
      lifts true f = refl
      lifts false f = refl

      eh : h ≡ home (length xs) k
      eh = eh₀ ∙ ap (λ (x : ℕ). home x k) (sym v.long)

      ep : p' ≡ next_place (length xs) p
      ep = ep₀ ∙ ap (λ (x : ℕ). next_place x p) (sym v.long)

      same : h ≡ home (length xs) (key_on xs cs p)
      same = eh ∙ ap (home (length xs)) (sym ek)

      long : length ys ≡ length xs
      long = ap length ey ∙ sets test

      go : (f : ℕ) → 0 < f → close f xs n cs g p ≡ goal → CloseInv goal m n cs ys g' p' (f - 1)
      go zero a s = absurd (omega (arith, a))
      go (suc f) a s =
          record {
            long = long ∙ v.long;
            gapped = subst (λ (x : ℕ). g' < x) (sym long) (subst (λ (x : ℕ). x < length xs) (sym eg) (place test));
            here = subst (λ (x : ℕ). p' < x) (sym long) (subst (λ (x : ℕ). x < length xs) (sym ep) (next-lt (length xs) p v.here));
            goes = ap (λ (x : ℕ). close x ys n cs g' p') less ∙ rw (ey, eg, ep) (sym (lifts test f) ∙ (rw (ne_eqb (word xs p) 0 z, w, ← same) at s));
          }
        where
          less : suc f - 1 ≡ f
          less = omega arith

-- ---- a key goes out, and two are exchanged

pub remove_is : (xs : List ℕ) (n : ℕ) (cs : List Cand) (i p : ℕ) → p ≡ found_under xs n cs i → remove xs n cs i ≡ remove_at xs n cs p
unfolding remove
remove_is xs n cs i p e = ap (remove_at xs n cs) (sym e)

pub remove_yes : (xs : List ℕ) (n : ℕ) (cs : List Cand) (i p : ℕ) → p ≡ found_under xs n cs i → p < length xs
    → remove xs n cs i ≡ close (length (set xs p 0)) (set xs p 0) n cs p (next_place (length (set xs p 0)) p)
unfolding remove_at
remove_yes xs n cs i p e h = remove_is xs n cs i p e ∙ rw (lt-ltb p (length xs) h, length-set)

pub remove_no : (xs : List ℕ) (n : ℕ) (cs : List Cand) (i p : ℕ) → p ≡ found_under xs n cs i → length xs ≤ p → remove xs n cs i ≡ no_step xs
unfolding remove_at
remove_no xs n cs i p e h = remove_is xs n cs i p e ∙ rw (le-ltb p (length xs) h)

module _ (xs : List ℕ) (n : ℕ) (cs : List Cand) (i j p q : ℕ) (ep : p ≡ found_under xs n cs i) (eq : q ≡ found_under xs n cs j) where
  pub exchange_yes : p < length xs → q < length xs → exchange xs n cs i j ≡ step_to (set (set xs p (j + 1)) q (i + 1))
  unfolding exchange exchange_at
  exchange_yes hp hq = rw (← ep, ← eq, lt-ltb p (length xs) hp, lt-ltb q (length xs) hq, add-one i, add-one j)

  pub exchange-left : length xs ≤ p → exchange xs n cs i j ≡ no_step xs
  unfolding exchange exchange_at
  exchange-left hp = rw (← ep, le-ltb p (length xs) hp)

  pub exchange-right : p < length xs → length xs ≤ q → exchange xs n cs i j ≡ no_step xs
  unfolding exchange exchange_at
  exchange-right hp hq = rw (← ep, ← eq, lt-ltb p (length xs) hp, le-ltb q (length xs) hq)

-- ---- both parts of a step

pub parts : (b : Bool) (xs : List ℕ) (s : IndexStep) → record { fine = b; table = xs } ≡ s → (b ≡ s.fine) × (xs ≡ s.table)
parts b xs s e = (ap (λ (x : IndexStep). x.fine) e, ap (λ (x : IndexStep). x.table) e)

-- ---- one entry and a gap

module _ (xs : List ℕ) (h g p a b : ℕ) (ea : a ≡ dist (length xs) g p) (eb : b ≡ dist (length xs) h p) where
  pub shift_yes : a ≤ b → (p ≡ cond (leb (dist (length xs) g p) (dist (length xs) h p)) p g)
      × (set (set xs g (word xs p)) p 0 ≡ cond (leb (dist (length xs) g p) (dist (length xs) h p)) (set (set xs g (word xs p)) p 0) xs)
  shift_yes l = let t = le-leb (dist (length xs) g p) (dist (length xs) h p) (omega (arith, ea, eb, l)) in (rw t, rw t)

  pub shift_no : b < a → (g ≡ cond (leb (dist (length xs) g p) (dist (length xs) h p)) p g)
      × (xs ≡ cond (leb (dist (length xs) g p) (dist (length xs) h p)) (set (set xs g (word xs p)) p 0) xs)
  shift_no l = let t = lt-leb (dist (length xs) g p) (dist (length xs) h p) (omega (arith, ea, eb, l)) in (rw t, rw t)

-- ---- an insertion, with the code's number

module _ (xs : List ℕ) (n : ℕ) (cs : List Cand) (k i : ℕ) where
  pub insert_ends : (l : Lookup) → look xs n cs k ≡ Some l → (true ≡ (insert xs n cs k i).fine) × (set xs (ends_at l) (i + 1) ≡ (insert xs n cs k i).table)
  insert_ends (Met p d) e = parts true (set xs p (i + 1)) (insert xs n cs k i) (rw (add-one i) (sym (insert_is xs n cs k i (Some (Met p d)) e)))
  insert_ends (Vacant p d) e = parts true (set xs p (i + 1)) (insert xs n cs k i) (rw (add-one i) (sym (insert_is xs n cs k i (Some (Vacant p d)) e)))

  pub insert-refused : look xs n cs k ≡ None → (false ≡ (insert xs n cs k i).fine) × (xs ≡ (insert xs n cs k i).table)
  insert-refused e = parts false xs (insert xs n cs k i) (sym (insert_is xs n cs k i None e))

-- ---- a removal, with the code's parts

module _ (xs : List ℕ) (n : ℕ) (cs : List Cand) (i p : ℕ) (e : p ≡ found_under xs n cs i) where
  pub remove_done : p < length xs → (q : ℕ) (b : Bool) (ys : List ℕ) → q ≡ next_place (length (set xs p 0)) p
      → b ≡ (close (length (set xs p 0)) (set xs p 0) n cs p q).fine → ys ≡ (close (length (set xs p 0)) (set xs p 0) n cs p q).table
      → (b ≡ (remove xs n cs i).fine) × (ys ≡ (remove xs n cs i).table)
  remove_done h q b ys eq x y =
      let r = ap (close (length (set xs p 0)) (set xs p 0) n cs p) eq ∙ sym (remove_yes xs n cs i p e h) in
      (x ∙ ap (λ (s : IndexStep). s.fine) r, y ∙ ap (λ (s : IndexStep). s.table) r)

  pub remove-refused : length xs ≤ p → (false ≡ (remove xs n cs i).fine) × (xs ≡ (remove xs n cs i).table)
  remove-refused h = parts false xs (remove xs n cs i) (sym (remove_no xs n cs i p e h))
