-- The first match, as the scan of `find` goes.
use mathlib.Core.Path.{◌≡◌, refl, sym, ap, ◌∙◌, subst}
use mathlib.Core.Logic.{◌≢◌}
use Prim.Native.Nat.{ℕ, zero, suc, ◌+◌, ◌*◌, ◌≤◌, ◌<◌}
use native.Mathlib.Omega.{arith}
use mathlib.Core.Bool.{true, false}
use mathlib.Core.List.{List, [], ◌∷◌}
use lib.ListN.{length, get_or, take}
use lib.Seq.{get_or-take, length-take-le}
use lib.IntN.{ℤ}
use borrow.Author.Tests.{eq-eqb, ne_eqb}
use Rattle.std.proofs.Common.{Option, Some, None, MatchOption, unwrap_or, IfSome, IsSomeAnd, option_map, ◌/◌, Bool, Bor}
use Rattle.std.specs.List.{IsSubsliceAt}
use Rattle.std.specs.Iterator.Runs.{Run, AllItemsBelow, AllItemsGive, IsFirstToGive, CallKeepsClosure, IsChunksExactRun}
use denote.Param.Members.{Mut, Called}
use Rattle.words.specs.inner.Fours.{four_other}
use Rattle.words.proofs.Missed.{Missed, missed_four}
use Rattle.heap_moves.specs.Cands.{Cand, no_cand}
use Rattle.heap_moves.specs.Flat.{cands_of}
use Rattle.heap_moves.proofs.Views.{length-cands, cand_at}
use Rattle.heap.specs.Offer.{find}

pub find_first : (k : ℕ) (cs : List Cand) (i : ℕ) → i < length cs → ((j : ℕ) → j < i → (get_or cs j no_cand).item.key ≢ k) → (get_or cs i no_cand).item.key ≡ k → i ≡ find k cs
unfolding find
find_first k [] i l m e = absurd (omega arith)
find_first k (c ∷ cs) zero l m e = rw (eq-eqb c.item.key k e)
find_first k (c ∷ cs) (suc i) l m e =
    rw (ne_eqb c.item.key k (m 0 (omega arith))) (ap suc (find_first k cs i (omega arith) (λ j h. m (suc j) (omega arith)) e))

pub find_none : (k : ℕ) (cs : List Cand) → ((j : ℕ) → j < length cs → (get_or cs j no_cand).item.key ≢ k) → length cs ≡ find k cs
unfolding find
find_none k [] m = refl
find_none k (c ∷ cs) m =
    rw (ne_eqb c.item.key k (m 0 (omega arith))) (ap suc (find_none k cs (λ j h. m (suc j) (omega arith))))

-- the key of entry j
abbrev pub entry_key : List ℕ → ℕ → ℕ
entry_key es j = get_or es (4 * j) 0

taken-key : (es : List ℕ) (ns : List ℤ) (n j : ℕ) → j < n → n ≤ length ns → (get_or (take n (cands_of es ns)) j no_cand).item.key ≡ entry_key es j
taken-key es ns n j h l =
    ap (λ (c : Cand). c.item.key) (get_or-take n (cands_of es ns) j no_cand h ∙ cand_at es ns j (omega arith))

taken-long : (es : List ℕ) (ns : List ℤ) (n : ℕ) → n ≤ length ns → length (take n (cands_of es ns)) ≡ n
taken-long es ns n l = length-take-le n (cands_of es ns) (subst (λ (z : ℕ). n ≤ z) (sym (length-cands es ns)) l)

pub find_at : (es : List ℕ) (ns : List ℤ) (k n i : ℕ) → i < n → n ≤ length ns → Missed (entry_key es) k i → entry_key es i ≡ k → i ≡ find k (take n (cands_of es ns))
find_at es ns k n i h l m e =
    find_first k (take n (cands_of es ns)) i (omega (arith, taken-long es ns n l))
    (λ j hj q. m j hj (sym (taken-key es ns n j (omega arith) l) ∙ q)) (taken-key es ns n i h l ∙ e)

pub find_end : (es : List ℕ) (ns : List ℤ) (k n : ℕ) → n ≤ length ns → Missed (entry_key es) k n → n ≡ find k (take n (cands_of es ns))
find_end es ns k n l m =
    sym (taken-long es ns n l)
    ∙ find_none k (take n (cands_of es ns)) (λ j hj q. m j (omega (arith, taken-long es ns n l)) (sym (taken-key es ns n j (omega (arith, taken-long es ns n l)) l) ∙ q))

-- four entries at once: their keys stand four words apart
pub missed_entries : (es : List ℕ) (k i : ℕ) → Missed (entry_key es) k i
    → four_other (get_or es (4 * i) 0) (get_or es (4 * i + 4) 0) (get_or es (4 * i + 8) 0) (get_or es (4 * i + 12) 0) k ≡ true → Missed (entry_key es) k (i + 4)
missed_entries es k i m t =
    let e1 : 4 * (i + 1) ≡ 4 * i + 4 = omega arith in
    let e2 : 4 * (i + 2) ≡ 4 * i + 8 = omega arith in
    let e3 : 4 * (i + 3) ≡ 4 * i + 12 = omega arith in
    missed_four (entry_key es) k i m (rw (e1, e2, e3) t)

missed_on : (key : ℕ → ℕ) (k i n : ℕ) → Missed key k i → ((j : ℕ) → i ≤ j → j < n → key j ≢ k) → Missed key k n
missed_on key k i n m f = λ j h q. grind (arith, m j, f j)

-- what a search of the places from i on answers, where the first i have not met the key
pub find_from : (es : List ℕ) (ns : List ℤ) (k n i : ℕ) (r : Option ℕ) → n ≤ length ns → Missed (entry_key es) k i
    → MatchOption r ((j : ℕ) → i ≤ j → j < n → entry_key es j ≢ k) (λ a. (i ≤ a) × (a < n) × (entry_key es a ≡ k) × ((j : ℕ) → i ≤ j → j < a → entry_key es j ≢ k))
    → unwrap_or r n ≡ find k (take n (cands_of es ns))
find_from es ns k n i None l m f = find_end es ns k n l (missed_on (entry_key es) k i n m f)
find_from es ns k n i (Some a) l m f = find_at es ns k n a f.1 l (missed_on (entry_key es) k i a m f.3) f.2

-- ---- four entries at a time

-- none of m times four entries has the key where each four says so
missed_fours : (es : List ℕ) (k m : ℕ) → ((b : ℕ) → b < m → four_other (get_or es (16 * b) 0) (get_or es (16 * b + 4) 0) (get_or es (16 * b + 8) 0) (get_or es (16 * b + 12) 0) k ≡ true)
    → Missed (entry_key es) k (4 * m)
missed_fours es k zero t = λ j h. absurd (omega arith)
missed_fours es k (suc m) t =
    let e0 : 4 * (4 * m) ≡ 16 * m = omega arith in
    let e4 : 4 * (4 * m) + 4 ≡ 16 * m + 4 = omega arith in
    let e8 : 4 * (4 * m) + 8 ≡ 16 * m + 8 = omega arith in
    let e12 : 4 * (4 * m) + 12 ≡ 16 * m + 12 = omega arith in
    let next : 4 * suc m ≡ 4 * m + 4 = omega arith in
    subst (λ (z : ℕ). Missed (entry_key es) k z) (sym next)
    (missed_entries es k (4 * m) (missed_fours es k m (λ b h. t b (omega arith))) (rw (e4, e8, e12, e0) (t m (omega arith))))

-- what a search of these blocks answers
module _ {S F : Type 0} {steps : S → Option (Bor (List ℕ)) → S → Type 0} (p : Run steps) (g : Mut F (Bor (List ℕ) × Unit {0}) Bool) (f : F) (es : List ℕ) (k : ℕ) (q : IsChunksExactRun p 16 es)
    (keeps : CallKeepsClosure g f) (told : (x : Bor (List ℕ)) → Called g f (x, tt) false f → four_other (get_or x.now 0 0) (get_or x.now 4 0) (get_or x.now 8 0) (get_or x.now 12 0) k ≡ true) where
  four-told : (m : ℕ) → AllItemsBelow p m (λ x. Called g f (x, tt) false f) → (b : ℕ) → b < m → four_other (get_or es (16 * b) 0) (get_or es (16 * b + 4) 0) (get_or es (16 * b + 8) 0) (get_or es (16 * b + 12) 0) k ≡ true
  four-told m a b h = go (p.at b) (a b h) (q.2 b)
    where
      go : (o : Option (Bor (List ℕ))) → IsSomeAnd o (λ x. Called g f (x, tt) false f) → IfSome o (λ x. (length x.now ≡ 16) × (b * 16 + 16 ≤ length es) × IsSubsliceAt 16 es (b * 16) x.now) → four_other (get_or es (16 * b) 0) (get_or es (16 * b + 4) 0) (get_or es (16 * b + 8) 0) (get_or es (16 * b + 12) 0) k ≡ true
      go None a i = absurd a
      go (Some x) a i =
          let at = i.2.2 in
          let word : (j : ℕ) → j < 16 → get_or es (16 * b + j) 0 ≡ get_or x.now j 0 = λ j l. place j ∙ sym (at j 0 l) in
          let w0 : get_or es (16 * b) 0 ≡ get_or x.now 0 0 = ap (λ (z : ℕ). get_or es z 0) nought ∙ word 0 (omega arith) in
          rw (w0, word 4 (omega arith), word 8 (omega arith), word 12 (omega arith)) (told x a)
        where
          place : (j : ℕ) → get_or es (16 * b + j) 0 ≡ get_or es (b * 16 + j) 0
          place j = ap (λ (z : ℕ). get_or es (z + j) 0) turned
            where
              turned : 16 * b ≡ b * 16
              turned = omega arith

          nought : 16 * b ≡ 16 * b + 0
          nought = omega arith

  pub front_missed : (o : Option ℕ) → MatchOption o ((p.whole ≡ true) × AllItemsGive p g f false) (λ i. (p.len ≡ i + 1) × IsFirstToGive p g f true false i)
      → (unwrap_or o (length es / 16) ≤ length es / 16) × Missed (entry_key es) k (4 * unwrap_or o (length es / 16))
  front_missed None r =
      let e : p.len ≡ length es / 16 = q.1 r.0 in
      (omega arith, missed_fours es k _ (four-told _ (λ b h. there (p.at b) (p.reads b (record { ref_ptr = (0, 0); now = [] }) (omega arith)) (r.1 keeps b))))
    where
      there : (o : Option (Bor (List ℕ))) {y : Bor (List ℕ)} → option_map (λ y. y) o ≡ Some y → IfSome o (λ x. Called g f (x, tt) false f) → IsSomeAnd o (λ x. Called g f (x, tt) false f)
      there None e i = cc
      there (Some x) e i = i
  front_missed (Some i) r = (omega arith, missed_fours es k i (four-told i (r.1 keeps).1))

-- and of the first n entries
pub front_of : (es : List ℕ) (k n r : ℕ) (o : Option ℕ) → 4 * n ≤ length es → r ≡ unwrap_or o (n / 4)
    → (unwrap_or o (length (take (4 * n) es) / 16) ≤ length (take (4 * n) es) / 16) × Missed (entry_key (take (4 * n) es)) k (4 * unwrap_or o (length (take (4 * n) es) / 16))
    → (4 * r ≤ n) × Missed (entry_key es) k (4 * r)
front_of es k n r o h e t =
    let long : length (take (4 * n) es) ≡ 4 * n = length-take-le (4 * n) es h in
    let fours : 4 * n / 16 ≡ n / 4 = omega arith in
    let u = rw (long, fours, ← e) at t in
    (omega arith, λ j l q. u.1 j l (get_or-take (4 * n) es (4 * j) 0 (omega arith) ∙ q))
