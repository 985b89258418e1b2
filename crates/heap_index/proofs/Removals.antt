-- A key goes out, and the gap is closed: what is left is held.
use mathlib.Core.Path.{◌≡◌, refl, sym, ap, ◌∙◌, subst}
use mathlib.Core.Logic.{◌≢◌, ◌⊎◌, inl, inr}
use mathlib.Core.Bool.{Bool, true, false}
use mathlib.Core.List.{List}
use Prim.Native.Nat.{ℕ, zero, suc, ◌-◌, ◌≤◌, ◌<◌}
use native.Mathlib.Omega.{arith}
use native.Mathlib.Nat.{mod-lt}
use native.Mathlib.Decide.{ℕ_discrete}
use lib.ListN.{length, set, length-set}
use lib.Seq.{get_or-set_same, get_or-set_other}
use lib.Dec.{leb}
use borrow.Author.Tests.{eq-eqb, ne_eqb, le-leb, lt-leb, leb-true, leb-false, lt-ltb}
use Rattle.heap_moves.specs.Cands.{Cand}
use Rattle.heap_index.specs.Index.{home, next_place, dist, word, key_at, key_on, is_name, close, remove_at, remove, step_to, IndexStep}
use Rattle.heap_index.specs.inner.Indexes.{home_on, IndexesIn, Indexes, Ranged}
use Rattle.heap_index.proofs.Circle.{dist_self, dist-lt, dist_pos, dist-zero, dist_same, dist-next, dist-after, next-lt, passes, passes_not, passes_on}
use Rattle.heap_index.proofs.LookupEnds.{names_is}
use Rattle.heap_index.proofs.Stands.{stands, room}
use Rattle.heap_index.proofs.Inserts.{Kept}

-- ---- one step of closing a gap, in a table of m places

module _ (m : ℕ) (xs : List ℕ) (n : ℕ) (cs : List Cand) (g p f : ℕ) (long : length xs ≡ m) where
  close_stop : word xs p ≡ 0 → close (suc f) xs n cs g p ≡ step_to xs
  unfolding close
  close_stop e = rw (eq-eqb (word xs p) 0 e)

  move_at : word xs p ≢ 0 → is_name n cs (word xs p) ≡ true → dist (length xs) g p ≤ dist (length xs) (home_on (length xs) xs cs p) p
      → close (suc f) xs n cs g p ≡ close f (set (set xs g (word xs p)) p 0) n cs p (next_place (length xs) p)
  unfolding close
  move_at z w h = rw (ne_eqb (word xs p) 0 z, w, le-leb (dist (length xs) g p) (dist (length xs) (home_on (length xs) xs cs p) p) h)

  skip_at : word xs p ≢ 0 → is_name n cs (word xs p) ≡ true → dist (length xs) (home_on (length xs) xs cs p) p < dist (length xs) g p
      → close (suc f) xs n cs g p ≡ close f xs n cs g (next_place (length xs) p)
  unfolding close
  skip_at z w h = rw (ne_eqb (word xs p) 0 z, w, lt-leb (dist (length xs) g p) (dist (length xs) (home_on (length xs) xs cs p) p) h)

  close_move : word xs p ≢ 0 → is_name n cs (word xs p) ≡ true → dist m g p ≤ dist m (home_on m xs cs p) p
      → close (suc f) xs n cs g p ≡ close f (set (set xs g (word xs p)) p 0) n cs p (next_place m p)
  close_move z w =
      subst (λ (m : ℕ). dist m g p ≤ dist m (home_on m xs cs p) p → close (suc f) xs n cs g p ≡ close f (set (set xs g (word xs p)) p 0) n cs p (next_place m p)) long (move_at z w)

  close-skip : word xs p ≢ 0 → is_name n cs (word xs p) ≡ true → dist m (home_on m xs cs p) p < dist m g p → close (suc f) xs n cs g p ≡ close f xs n cs g (next_place m p)
  close-skip z w =
      subst (λ (m : ℕ). dist m (home_on m xs cs p) p < dist m g p → close (suc f) xs n cs g p ≡ close f xs n cs g (next_place m p)) long (skip_at z w)

-- ---- the entry o is out, the gap is at g, and p is looked at; t is an empty place beyond

pub record Closing (m : ℕ) (xs : List ℕ) (n : ℕ) (cs : List Cand) (o g p t : ℕ) : Type 0 where
  pub long : length xs ≡ m
  pub gap : g < m
  pub here : p < m
  pub end : t < m
  pub past : p ≢ g
  pub apart : t ≢ g
  pub ahead : dist m g p ≤ dist m g t
  pub empty : word xs g ≡ 0
  pub clear : word xs t ≡ 0
  pub named : (q : ℕ) → q < m → word xs q ≤ n
  pub out : (q : ℕ) → q < m → word xs q ≢ suc o
  pub once : (q r : ℕ) → q < m → r < m → word xs q ≡ word xs r → word xs q ≢ 0 → q ≡ r
  pub at : (j : ℕ) → j < n → j ≢ o → (q : ℕ) × (q < m) × (word xs q ≡ suc j)
  pub keys : (i j : ℕ) → i < n → j < n → i ≢ o → j ≢ o → key_at cs i ≡ key_at cs j → i ≡ j
  -- from a key's home to its place only the gap is empty
  pub reach : (r q : ℕ) → r < m → q < m → word xs r ≢ 0 → q ≢ g → dist m (home_on m xs cs r) q < dist m (home_on m xs cs r) r → word xs q ≢ 0
  -- and for places before p not even that
  pub scanned : (r : ℕ) → r < m → word xs r ≢ 0 → dist m g r < dist m g p → dist m (home_on m xs cs r) g < dist m (home_on m xs cs r) r → ⊥

module _ (m : ℕ) (n : ℕ) (cs : List Cand) (o t : ℕ) where
  -- the walk has come to an empty place
  closed : (xs : List ℕ) (g p : ℕ) → Closing m xs n cs o g p t → word xs p ≡ 0 → IndexesIn m xs n cs o
  closed xs g p v e =
      record {
        named = v.named;
        out = v.out;
        once = v.once;
        at = v.at;
        reach = λ r q hr hq z l. by r q hr hq z l (ℕ_discrete q g);
        keys = v.keys;
      }
    where
      some : 0 < m
      some = omega (arith, v.gap)

      on : (r : ℕ) → r < m → word xs r ≢ 0 → dist m (home_on m xs cs r) g < dist m (home_on m xs cs r) r → Bool → ⊥
      on r hr z l b = go (leb (dist m g p) (dist m g r)) refl
        where
          go : (a : Bool) → leb (dist m g p) (dist m g r) ≡ a → ⊥
          go true q =
              v.reach r p hr v.here z v.past
              (passes_on m (home_on m xs cs r) g p r (mod-lt (key_on xs cs r) some) v.gap v.here hr (λ y. z (sym (ap (word xs) y) ∙ e)) l (leb-true _ _ q)) e
          go false q = v.scanned r hr z (leb-false _ _ q) l

      by : (r q : ℕ) → r < m → q < m → word xs r ≢ 0 → dist m (home_on m xs cs r) q < dist m (home_on m xs cs r) r → Dec (q ≡ g) → word xs q ≢ 0
      by r q hr hq z l (yes s) = absurd (on r hr z (subst (λ (x : ℕ). dist m (home_on m xs cs r) x < dist m (home_on m xs cs r) r) s l) true)
      by r q hr hq z l (no s) = v.reach r q hr hq z s l

  -- the entry at p stays
  skipped : (xs : List ℕ) (g p : ℕ) → Closing m xs n cs o g p t → word xs p ≢ 0 → dist m (home_on m xs cs p) p < dist m g p → Closing m xs n cs o g (next_place m p) t
  skipped xs g p v z h =
      record {
        long = v.long;
        gap = v.gap;
        here = next-lt m p v.here;
        end = v.end;
        past = λ y. omega (arith, after, ap (dist m g) y, dist_self m g);
        apart = v.apart;
        ahead = omega (arith, after, near);
        empty = v.empty;
        clear = v.clear;
        named = v.named;
        out = v.out;
        once = v.once;
        at = v.at;
        keys = v.keys;
        reach = v.reach;
        scanned = λ r hr y l k. by r hr y l k (ℕ_discrete (dist m g r) (dist m g p));
      }
    where
      near : dist m g p < dist m g t
      near = let ne : dist m g p ≢ dist m g t = λ y. z (ap (word xs) (dist_same m g p t v.gap v.here v.end y) ∙ v.clear) in omega (arith, ne, v.ahead)

      after : dist m g (next_place m p) ≡ suc (dist m g p)
      after = dist-after m g p t v.gap v.here v.end near

      by : (r : ℕ) → r < m → word xs r ≢ 0 → dist m g r < dist m g (next_place m p) → dist m (home_on m xs cs r) g < dist m (home_on m xs cs r) r → Dec (dist m g r ≡ dist m g p) → ⊥
      by r hr y l k (yes s) =
          let e : r ≡ p = dist_same m g r p v.gap hr v.here s in
          passes_not m (home_on m xs cs p) g p (mod-lt (key_on xs cs p) (omega (arith, v.gap))) v.gap v.here h
          (subst (λ (x : ℕ). dist m (home_on m xs cs x) g < dist m (home_on m xs cs x) x) e k)
      by r hr y l k (no s) = v.scanned r hr y (omega (arith, s, l, after)) k

  -- the entry at p moves into the gap, and leaves its own place as the gap
  module _ (xs : List ℕ) (g p : ℕ) (v : Closing m xs n cs o g p t) (z : word xs p ≢ 0) (h : dist m g p ≤ dist m (home_on m xs cs p) p) where
    now_empty : (q : ℕ) → q ≡ p → word (set (set xs g (word xs p)) p 0) q ≡ 0
    now_empty q s =
        ap (word (set (set xs g (word xs p)) p 0)) s ∙ get_or-set_same (set xs g (word xs p)) p 0 0 (subst (λ (x : ℕ). p < x) (sym (length-set xs g (word xs p) ∙ v.long)) v.here)

    now_filled : (q : ℕ) → q ≡ g → word (set (set xs g (word xs p)) p 0) q ≡ word xs p
    now_filled q s =
        ap (word (set (set xs g (word xs p)) p 0)) s ∙ get_or-set_other (set xs g (word xs p)) p g 0 0 (λ y. v.past (sym y))
        ∙ get_or-set_same xs g (word xs p) 0 (subst (λ (x : ℕ). g < x) (sym v.long) v.gap)

    now_same : (q : ℕ) → q ≢ p → q ≢ g → word (set (set xs g (word xs p)) p 0) q ≡ word xs q
    now_same q a b = get_or-set_other (set xs g (word xs p)) p q 0 0 a ∙ get_or-set_other xs g q (word xs p) 0 b

    -- where the word of q comes from
    record From (q : ℕ) : Type 0 where
      place : ℕ
      below : place < m
      same : word (set (set xs g (word xs p)) p 0) q ≡ word xs place
      which : (q ≡ place) ⊎ ((q ≡ g) × (place ≡ p))

    from : (q : ℕ) → q < m → q ≢ p → From q
    from q hq ne = by (ℕ_discrete q g)
      where
        by : Dec (q ≡ g) → From q
        by (yes s) = record { place = p; below = v.here; same = now_filled q s; which = inr (s, refl) }
        by (no s) = record { place = q; below = hq; same = now_same q ne s; which = inl refl }

    left : (q : ℕ) → word (set (set xs g (word xs p)) p 0) q ≢ 0 → q ≢ p
    left q y s = y (now_empty q s)

    m_named : (q : ℕ) → q < m → Dec (q ≡ p) → word (set (set xs g (word xs p)) p 0) q ≤ n
    m_named q hq (yes s) = omega (arith, now_empty q s)
    m_named q hq (no s) = let w = from q hq s in omega (arith, w.same, v.named w.place w.below)

    m_out : (q : ℕ) → q < m → Dec (q ≡ p) → word (set (set xs g (word xs p)) p 0) q ≢ suc o
    m_out q hq (yes s) = λ y. omega (arith, now_empty q s, y)
    m_out q hq (no s) = let w = from q hq s in λ y. v.out w.place w.below (sym w.same ∙ y)

    m_once : (q r : ℕ) → q < m → r < m → word (set (set xs g (word xs p)) p 0) q ≡ word (set (set xs g (word xs p)) p 0) r → word (set (set xs g (word xs p)) p 0) q ≢ 0 → q ≡ r
    m_once q r hq hr e y = by (from q hq (left q y)) (from r hr (left r (λ x. y (e ∙ x))))
      where
        by : From q → From r → q ≡ r
        by a b = which a.which b.which
          where
            s : a.place ≡ b.place
            s = v.once a.place b.place a.below b.below (sym a.same ∙ e ∙ b.same) (λ x. y (a.same ∙ x))

            which : (q ≡ a.place) ⊎ ((q ≡ g) × (a.place ≡ p)) → (r ≡ b.place) ⊎ ((r ≡ g) × (b.place ≡ p)) → q ≡ r
            which (inl x) (inl w) = x ∙ s ∙ sym w
            which (inl x) (inr w) = absurd (left q y (x ∙ s ∙ w.1))
            which (inr x) (inl w) = absurd (left r (λ u. y (e ∙ u)) (w ∙ sym s ∙ x.1))
            which (inr x) (inr w) = x.0 ∙ sym w.0

    m_at : (j : ℕ) → j < n → j ≢ o → (q : ℕ) × (q < m) × (word (set (set xs g (word xs p)) p 0) q ≡ suc j)
    m_at j hj ne = by (v.at j hj ne)
      where
        by : (q : ℕ) × (q < m) × (word xs q ≡ suc j) → (q : ℕ) × (q < m) × (word (set (set xs g (word xs p)) p 0) q ≡ suc j)
        by w = go (ℕ_discrete w.0 p)
          where
            go : Dec (w.0 ≡ p) → (q : ℕ) × (q < m) × (word (set (set xs g (word xs p)) p 0) q ≡ suc j)
            go (yes s) = (g, v.gap, now_filled g refl ∙ sym (ap (word xs) s) ∙ w.2)
            go (no s) = (w.0, w.1, now_same w.0 s (λ y. omega (arith, ap (word xs) y, v.empty, w.2)) ∙ w.2)

    m_reach : (r q : ℕ) → r < m → q < m → word (set (set xs g (word xs p)) p 0) r ≢ 0 → q ≢ p
        → dist m (home_on m (set (set xs g (word xs p)) p 0) cs r) q < dist m (home_on m (set (set xs g (word xs p)) p 0) cs r) r → Dec (q ≡ g) → Dec (r ≡ g)
        → word (set (set xs g (word xs p)) p 0) q ≢ 0
    m_reach r q hr hq y ne l (yes s) d = λ x. z (sym (now_filled q s) ∙ x)
    m_reach r q hr hq y ne l (no s) (yes d) =
        let k : key_on (set (set xs g (word xs p)) p 0) cs r ≡ key_on xs cs p = ap (λ (x : ℕ). key_at cs (x - 1)) (now_filled r d) in
        let l1 : dist m (home_on m xs cs p) q < dist m (home_on m xs cs p) r = subst (λ (x : ℕ). dist m (home m x) q < dist m (home m x) r) k l in
        let l2 : dist m (home_on m xs cs p) q < dist m (home_on m xs cs p) g = subst (λ (x : ℕ). dist m (home_on m xs cs p) q < dist m (home_on m xs cs p) x) d l1 in
        let l3 = passes m (home_on m xs cs p) g p (mod-lt (key_on xs cs p) (omega (arith, hr))) v.gap v.here (λ x. v.past (sym x)) h in
        λ x. v.reach p q v.here hq z s (omega (arith, l2, l3)) (sym (now_same q ne s) ∙ x)
    m_reach r q hr hq y ne l (no s) (no d) =
        let k : key_on (set (set xs g (word xs p)) p 0) cs r ≡ key_on xs cs r = ap (λ (x : ℕ). key_at cs (x - 1)) (now_same r (left r y) d) in
        λ x. v.reach r q hr hq (λ w. y (now_same r (left r y) d ∙ w)) s (subst (λ (x : ℕ). dist m (home m x) q < dist m (home m x) r) k l) (sym (now_same q ne s) ∙ x)

    beyond : t ≢ p
    beyond y = z (sym (ap (word xs) y) ∙ v.clear)

    one : dist m p (next_place m p) ≡ 1
    one = dist-after m p p t v.here v.here v.end (omega (arith, dist_self m p, dist_pos m p t v.here (λ y. beyond (sym y)))) ∙ ap suc (dist_self m p)

    moved : Closing m (set (set xs g (word xs p)) p 0) n cs o p (next_place m p) t
    moved =
        record {
          long = length-set (set xs g (word xs p)) p 0 ∙ length-set xs g (word xs p) ∙ v.long;
          gap = v.here;
          here = next-lt m p v.here;
          end = v.end;
          past = λ y. omega (arith, one, ap (dist m p) y, dist_self m p);
          apart = beyond;
          ahead = omega (arith, one, dist_pos m p t v.here (λ y. beyond (sym y)));
          empty = now_empty p refl;
          clear = now_same t beyond v.apart ∙ v.clear;
          named = λ q hq. m_named q hq (ℕ_discrete q p);
          out = λ q hq. m_out q hq (ℕ_discrete q p);
          once = m_once;
          at = m_at;
          keys = v.keys;
          reach = λ r q hr hq y ne l. m_reach r q hr hq y ne l (ℕ_discrete q g) (ℕ_discrete r g);
          scanned = λ r hr y l k. y (now_empty r (sym (dist-zero m p r v.here (omega (arith, l, one)))));
        }

  -- ---- all steps

  pub close-kept : (f : ℕ) (xs : List ℕ) (g p : ℕ) → Ranged n cs → Closing m xs n cs o g p t → dist m p t < f → Kept m (close f xs n cs g p) n cs o
  close-kept zero xs g p r v h = absurd (omega arith)
  close-kept (suc f) xs g p r v h = go (λ ys a b w l. close-kept f ys a b r w l) (ℕ_discrete (word xs p) 0)
    where
      Below : Type 0
      Below = (ys : List ℕ) (a b : ℕ) → Closing m ys n cs o a b t → dist m b t < f → Kept m (close f ys n cs a b) n cs o

      go : Below → Dec (word xs p ≡ 0) → Kept m (close (suc f) xs n cs g p) n cs o
      go ih (yes z) =
          subst (λ (s : IndexStep). Kept m s n cs o) (sym (close_stop m xs n cs g p f v.long z))
          (record { fine = refl; long = v.long; holds = subst (λ (l : ℕ). IndexesIn l xs n cs o) (sym v.long) (closed xs g p v z) })
      go ih (no z) = by (leb (dist m g p) (dist m (home_on m xs cs p) p)) refl
        where
          good : is_name n cs (word xs p) ≡ true
          good = names_is n cs (word xs p) r z (v.named p v.here)

          nearer : dist m (next_place m p) t < f
          nearer = omega (arith, h, dist-next m p t v.here v.end (λ y. z (ap (word xs) y ∙ v.clear)))

          by : (b : Bool) → leb (dist m g p) (dist m (home_on m xs cs p) p) ≡ b → Kept m (close (suc f) xs n cs g p) n cs o
          by true e =
              subst (λ (s : IndexStep). Kept m s n cs o) (sym (close_move m xs n cs g p f v.long z good (leb-true _ _ e)))
              (ih (set (set xs g (word xs p)) p 0) p (next_place m p) (moved xs g p v z (leb-true _ _ e)) nearer)
          by false e =
              subst (λ (s : IndexStep). Kept m s n cs o) (sym (close-skip m xs n cs g p f v.long z good (leb-false _ _ e)))
              (ih xs g (next_place m p) (skipped xs g p v z (leb-false _ _ e)) nearer)

-- ---- the whole removal

module _ (xs : List ℕ) (n : ℕ) (cs : List Cand) (v : Indexes xs n cs n) (r : Ranged n cs) (i : ℕ) (hi : i < n) (g : ℕ) (hg : g < length xs) (number : word xs g ≡ suc i)
    (t : ℕ) (ht : t < length xs) (clear : word xs t ≡ 0) where
  gone : (q : ℕ) → q ≡ g → word (set xs g 0) q ≡ 0
  gone q s = ap (word (set xs g 0)) s ∙ get_or-set_same xs g 0 0 hg

  stays : (q : ℕ) → q ≢ g → word (set xs g 0) q ≡ word xs q
  stays q s = get_or-set_other xs g q 0 0 s

  apart : t ≢ g
  apart y = omega (arith, ap (word xs) y, clear, number)

  first : dist (length xs) g (next_place (length xs) g) ≡ 1
  first =
      dist-after (length xs) g g t hg hg ht (omega (arith, dist_self (length xs) g, dist_pos (length xs) g t hg (λ y. apart (sym y)))) ∙ ap suc (dist_self (length xs) g)

  held : (q : ℕ) → word (set xs g 0) q ≢ 0 → q ≢ g
  held q y s = y (gone q s)

  r_named : (q : ℕ) → q < length xs → Dec (q ≡ g) → word (set xs g 0) q ≤ n
  r_named q hq (yes s) = omega (arith, gone q s)
  r_named q hq (no s) = omega (arith, stays q s, v.named q hq)

  r_out : (q : ℕ) → q < length xs → Dec (q ≡ g) → word (set xs g 0) q ≢ suc i
  r_out q hq (yes s) = λ y. omega (arith, gone q s, y)
  r_out q hq (no s) = λ y. s (v.once q g hq hg (sym (stays q s) ∙ y ∙ sym number) (λ x. omega (arith, stays q s, y, x)))

  pub opened : Closing (length xs) (set xs g 0) n cs i g (next_place (length xs) g) t
  opened =
      record {
        long = length-set xs g 0;
        gap = hg;
        here = next-lt (length xs) g hg;
        end = ht;
        past = λ y. omega (arith, first, ap (dist (length xs) g) y, dist_self (length xs) g);
        apart = apart;
        ahead = omega (arith, first, dist_pos (length xs) g t hg (λ y. apart (sym y)));
        empty = gone g refl;
        clear = stays t apart ∙ clear;
        named = λ q hq. r_named q hq (ℕ_discrete q g);
        out = λ q hq. r_out q hq (ℕ_discrete q g);
        once = λ q a hq ha e y. v.once q a hq ha (sym (stays q (held q y)) ∙ e ∙ stays a (held a (λ x. y (e ∙ x)))) (λ x. y (stays q (held q y) ∙ x));
        at = λ j hj ne. let w = v.at j hj (λ y. omega (arith, y, hj)) in (w.0, w.1, stays w.0 (λ y. ne (omega (arith, ap (word xs) y, w.2, number))) ∙ w.2);
        keys = λ a b ha hb oa ob e. v.keys a b ha hb (λ y. omega (arith, y, ha)) (λ y. omega (arith, y, hb)) e;
        reach = λ a q ha hq y ne l x.
            v.reach a q ha hq (λ u. y (stays a (held a y) ∙ u))
            (subst (λ (k : ℕ). dist (length xs) (home (length xs) k) q < dist (length xs) (home (length xs) k) a) (ap (λ (u : ℕ). key_at cs (u - 1)) (stays a (held a y))) l) (sym (stays q ne) ∙ x);
        scanned = λ a ha y l k. y (gone a (sym (dist-zero (length xs) g a hg (omega (arith, l, first)))));
      }

pub remove-kept : (xs : List ℕ) (n : ℕ) (cs : List Cand) (i : ℕ) → Indexes xs n cs n → Ranged n cs → i < n → n < length xs → Kept (length xs) (remove xs n cs i) n cs i
unfolding remove remove_at
remove-kept xs n cs i v r hi h =
    let s = stands xs n cs n v r i hi (omega (arith, hi)) in
    let t = room xs n cs n v r h in
    rw (s.found, lt-ltb s.place (length xs) s.below)
    (close-kept (length xs) n cs i t.0 (length xs) (set xs s.place 0) s.place (next_place (length xs) s.place) r
    (opened xs n cs v r i hi s.place s.below s.number t.0 t.1 t.2) (dist-lt (length xs) (next_place (length xs) s.place) t.0 (next-lt (length xs) s.place s.below) t.1))
