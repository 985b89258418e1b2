-- After any list of calls every relay is as its book says, whatever relays are fed and whatever a book says. Assumes nothing.
use mathlib.Core.Path.{◌≡◌, refl, sym, ap, ◌∙◌, subst}
use Prim.Native.Nat.{ℕ, ◌<◌}
use native.Mathlib.Omega.{arith}
use native.Mathlib.Decide.{ℕ_discrete}
use mathlib.Core.Bool.{Bool, true, false, cond, not, ◌&&◌}
use mathlib.Core.List.{List, [], ◌∷◌, ◌++◌, Memᴰ}
use lib.ListN.{length, get_or, set, length-set, length-map, length-replicate, get_or-replicate, get_or-map}
use lib.Seq.{get_or-set_same, get_or-set_other}
use lib.Dec.{eqb, ltb}
use borrow.Author.Tests.{ltb-true, eq-eqb, not-true}
use Rattle.words.proofs.Bools.{and_left, and_right, never}
use Rattle.words.specs.Lists.{All}
use Rattle.words.proofs.Lists.{all_append, all_left, all_right}
use Rattle.header.specs.declared.Shape.{Shape}
use Rattle.layout.specs.Slices.{Lent, fresh_lent}
use Rattle.layout.specs.Outcomes.{Outcome}
use Rattle.layout.proofs.ListCalls.{list_yes}
use Rattle.univmon_merge.specs.Merges.{merge_call, merge_list_call}
use Rattle.shared_streams.specs.Feeds.{Way, Relay, Call, feed, join, fresh_relay, start, relay_at, retirements, live, joinable, names, fed, joined_by, retire, joined_to, if_accepted, called, step, run, entered, accepted}

-- what a book says of a header and slices, and that calls keep it
pub record Keeps {A E : Type 0} (way : Way A E) (sh : Shape) (By : List E → Lent → Type 0) : Type 0 where
  pub fresh : By [] (fresh_lent sh)
  pub fed : (a : A) (b : List E) (r t : Lent) → By b r → way.act a r ≡ Outcome.yes t → By (b ++ (way.enter a ∷ [])) t
  pub joined : (a b : List E) (r s t : Lent) → By a r → By b s → merge_call r s ≡ Outcome.yes t → By (a ++ b) t

-- a relay that is as its book says, and whose book's entries meet P
pub record Good {E : Type 0} (By : List E → Lent → Type 0) (P : E → Type 0) (r : Relay E) : Type 0 where
  pub lent : By r.book r.lends
  pub all : All P r.book

-- ---- relays that are not retired

module _ {E : Type 0} (rs : List (Relay E)) where
  pub live-lt : (i : ℕ) → live (retirements rs) i ≡ true → i < length rs
  live-lt i e =
      subst (λ (n : ℕ). i < n) (length-map rs (λ (r : Relay E). r.retired))
      (ltb-true i (length (retirements rs)) (and_left (ltb i (length (retirements rs))) (not (get_or (retirements rs) i false)) e))

  pub live-not : (sh : Shape) (i : ℕ) → live (retirements rs) i ≡ true → (relay_at sh rs i).retired ≡ false
  live-not sh i e =
      sym (get_or-map (λ (r : Relay E). r.retired) rs i (fresh_relay sh))
      ∙ not-true (get_or (retirements rs) i false) (and_right (ltb i (length (retirements rs))) (not (get_or (retirements rs) i false)) e)

  -- the two relays of a merge that may be listed
  pub record Pair (i j : ℕ) : Type 0 where
    pub first : live (retirements rs) i ≡ true
    pub second : live (retirements rs) j ≡ true
    pub differ : i ≡ j → ⊥

  pub pair : (i j : ℕ) → joinable (retirements rs) i j ≡ true → Pair i j
  pair i j e =
      let both = and_left (live (retirements rs) i && live (retirements rs) j) (not (eqb i j)) e in
      record {
        first = and_left (live (retirements rs) i) (live (retirements rs) j) both;
        second = and_right (live (retirements rs) i) (live (retirements rs) j) both;
        differ = λ q. never (sym (not-true (eqb i j) (and_right (live (retirements rs) i && live (retirements rs) j) (not (eqb i j)) e)) ∙ eq-eqb i j q);
      }

-- ---- relays that are as their books say

abbrev pub Every : {E : Type 0} → (List E → Lent → Type 0) → (E → Type 0) → Shape → List (Relay E) → Type 0
Every By P sh rs = (i : ℕ) → i < length rs → Good By P (relay_at sh rs i)

module _ {A E : Type 0} (way : Way A E) (sh : Shape) (By : List E → Lent → Type 0) (keeps : Keeps way sh By) (P : E → Type 0) where
  set_good : (rs : List (Relay E)) (i : ℕ) (r : Relay E) → Every By P sh rs → Good By P r → Every By P sh (set rs i r)
  set_good rs i r h p j hj = go (ℕ_discrete j i)
    where
      lt : j < length rs
      lt = subst (λ (n : ℕ). j < n) (length-set rs i r) hj

      go : Dec (j ≡ i) → Good By P (get_or (set rs i r) j (fresh_relay sh))
      go (yes e) =
          subst (Good By P) (sym (ap (λ (z : ℕ). get_or (set rs i r) z (fresh_relay sh)) e ∙ get_or-set_same rs i r (fresh_relay sh) (subst (λ (z : ℕ). z < length rs) e lt))) p
      go (no f) = subst (Good By P) (sym (get_or-set_other rs i j r (fresh_relay sh) f)) (h j lt)

  -- ---- one call

  call_good : (rs : List (Relay E)) (c : Call A) → names (retirements rs) c ≡ true → All P (entered way sh rs c) → Every By P sh rs → Every By P sh (called way sh rs c)
  unfolding called merge_list_call
  call_good rs (feed i a) n p h = set_good rs i (fed r e (way.act a r.lends)) h (one (way.act a r.lends) refl p)
    where
      r : Relay E
      r = relay_at sh rs i

      e : E
      e = way.enter a

      own : Good By P (relay_at sh rs i)
      own = h i (live-lt rs i n)

      one : (o : Outcome) → way.act a (relay_at sh rs i).lends ≡ o → All P (if_accepted (way.enter a) o) → Good By P (fed (relay_at sh rs i) (way.enter a) o)
      one (Outcome.no m) q z = own
      one (Outcome.yes t) q z = record { lent = keeps.fed a r.book r.lends t own.lent q; all = all_append P r.book (e ∷ []) own.all z }
  call_good rs (join i j list) n p h = one (merge_list_call a.lends b.lends (length list)) refl
    where
      a : Relay E
      a = relay_at sh rs i

      b : Relay E
      b = relay_at sh rs j

      first : Good By P (relay_at sh rs i)
      first = h i (live-lt rs i (pair rs i j n).first)

      second : Good By P (relay_at sh rs j)
      second = h j (live-lt rs j (pair rs i j n).second)

      whole : (t : Lent) → merge_list_call (relay_at sh rs i).lends (relay_at sh rs j).lends (length list) ≡ Outcome.yes t → Good By P (joined_by (relay_at sh rs i) (relay_at sh rs j) t)
      whole t q =
          record {
            lent = keeps.joined a.book b.book a.lends b.lends t first.lent second.lent (list_yes _ (length list) (merge_call a.lends b.lends) t q).0;
            all = all_append P a.book b.book first.all second.all;
          }

      one : (o : Outcome) → merge_list_call (relay_at sh rs i).lends (relay_at sh rs j).lends (length list) ≡ o → Every By P sh (joined_to rs i j (relay_at sh rs i) (relay_at sh rs j) o)
      one (Outcome.no m) q = h
      one (Outcome.yes t) q = set_good (set rs j (retire b)) i (joined_by a b t) (set_good rs j (retire b) h (record { lent = second.lent; all = second.all })) (whole t q)

  pub step_good : (rs : List (Relay E)) (c : Call A) → All P (cond (names (retirements rs) c) (entered way sh rs c) []) → Every By P sh rs → Every By P sh (step way sh rs c)
  step_good rs c p h = go (names (retirements rs) c) refl p
    where
      go : (b : Bool) → names (retirements rs) c ≡ b → All P (cond b (entered way sh rs c) []) → Every By P sh (cond b (called way sh rs c) rs)
      go true q z = call_good rs c q z h
      go false q z = h

  -- ---- a list

  run_good : (cs : List (Call A)) (rs : List (Relay E)) → All P (accepted way sh rs cs) → Every By P sh rs → Every By P sh (run way sh rs cs)
  unfolding run accepted
  run_good [] rs p h = h
  run_good (c ∷ cs) rs p h =
      let first = cond (names (retirements rs) c) (entered way sh rs c) [] in
      run_good cs (step way sh rs c) (all_right P first (accepted way sh (step way sh rs c) cs) p) (step_good rs c (all_left P first (accepted way sh (step way sh rs c) cs) p) h)

  pub start_good : (n : ℕ) → Every By P sh (start {E = E} sh n)
  start_good n i hi =
      subst (Good By P) (sym (get_or-replicate n i (fresh_relay sh) (fresh_relay sh) (subst (λ (m : ℕ). i < m) (length-replicate n (fresh_relay sh)) hi))) (record { lent = keeps.fresh; all = tt })

-- ---- there are as many relays as at the start

module _ {A E : Type 0} (way : Way A E) (sh : Shape) where
  step-length : (rs : List (Relay E)) (c : Call A) → length (step way sh rs c) ≡ length rs
  unfolding called
  step-length rs (feed i a) = let c : Call A = feed i a in go (names (retirements rs) c)
    where
      go : (b : Bool) → length (cond b (called way sh rs (feed i a)) rs) ≡ length rs
      go true = simp length-set
      go false = refl
  step-length rs (join i j list) = let c : Call A = join i j list in go (names (retirements rs) c) (merge_list_call (relay_at sh rs i).lends (relay_at sh rs j).lends (length list))
    where
      go : (b : Bool) (o : Outcome) → length (cond b (joined_to rs i j (relay_at sh rs i) (relay_at sh rs j) o) rs) ≡ length rs
      go true (Outcome.no m) = refl
      go true (Outcome.yes t) = simp length-set
      go false o = refl

  pub run_length : (cs : List (Call A)) (rs : List (Relay E)) → length (run way sh rs cs) ≡ length rs
  unfolding run
  run_length [] rs = refl
  run_length (c ∷ cs) rs = run_length cs (step way sh rs c) ∙ step-length rs c

-- ---- together

among_self : {E : Type 0} (b c : List E) → ((e : E) → Memᴰ e b → Memᴰ e c) → All (λ e. Memᴰ e c) b
among_self [] c f = tt
among_self (e ∷ b) c f = (f e (Memᴰ.head refl), among_self b c (λ x m. f x (Memᴰ.tail m)))

-- every relay is as its book says, and its book has only what the list's accepted calls entered
pub run_by : {A E : Type 0} (way : Way A E) (sh : Shape) (By : List E → Lent → Type 0) → Keeps way sh By → (n : ℕ) (calls : List (Call A)) (i : ℕ) → i < n
    → Good By (λ e. Memᴰ e (accepted way sh (start sh n) calls)) (relay_at sh (run way sh (start sh n) calls) i)
run_by {A} {E} way sh By keeps n calls i h =
    let all : List E = accepted way sh (start sh n) calls in
    run_good way sh By keeps (λ e. Memᴰ e all) calls (start sh n) (among_self all all (λ e m. m)) (start_good way sh By keeps (λ e. Memᴰ e all) n) i
    (omega (arith, run_length way sh calls (start sh n), length-replicate n (fresh_relay {E = E} sh)))
