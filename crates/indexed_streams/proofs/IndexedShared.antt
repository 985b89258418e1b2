-- Demand 3 of relays with an index. Assumes nothing.
use mathlib.Core.Path.{◌≡◌, refl, sym, ap, ◌∙◌, subst}
use mathlib.Core.Bool.{true, false, cond, not, ◌&&◌}
use mathlib.Core.List.{List, [], ◌∷◌, map}
use Prim.Native.Nat.{ℕ, ◌<◌}
use native.Mathlib.Omega.{arith}
use native.Mathlib.Decide.{ℕ_discrete}
use lib.ListN.{length, get_or, set, replicate, length-replicate, length-set, length-map}
use lib.Seq.{get_or-set_same, get_or-set_other}
use lib.Dec.{eqb, ltb}
use borrow.Author.Tests.{eq-eqb, ne_eqb, ltb-true}
use Rattle.words.proofs.Bools.{and_left, and_right}
use Rattle.words.proofs.Lists.{get_d_all}
use Rattle.header.specs.declared.Shape.{Shape}
use Rattle.header.specs.Shape.{max_layers, shape_refusal}
use Rattle.header.specs.Header.{fresh_header}
use Rattle.layout.specs.Slices.{Lent, fresh_lent}
use Rattle.layout.specs.Outcomes.{Outcome, left_by}
use Rattle.layout_index.specs.Tables.{tables_in}
use Rattle.univmon_merge.specs.Merges.{merge_list_call}
use Rattle.shared_streams.specs.Feeds as feeds
use Rattle.shared_streams.specs.Feeds.{start, relay_at, fresh_relay, retirements, live, fed, joined_to, joined_by, retire, called, names}
use Rattle.shared_streams.specs.Relays as relays
use Rattle.shared_streams.specs.Relays.{Relay, updating, step, run, Listed}
use Rattle.shared_streams.specs.SharedStreams.{Claimed}
use Rattle.shared_streams.proofs.SharedStreams.{shared-streams}
use Rattle.state_check.proofs.KeptCalls.{fresh-passing}
use Rattle.indexed_state.proofs.Passing.{fresh_passes}
use Rattle.indexed_streams.specs.Runs.{put, first_of, walk_ask, walk_join, walk_call, walk_run}
use Rattle.indexed_streams.specs.IndexedRuns.{PassingIn, SameRuns}
use Rattle.indexed_streams.specs.IndexedShared.{asked, fresh_indexed, sought_after, Corollary}
use Rattle.indexed_streams.proofs.IndexedRuns.{indexed_runs}

-- what relays lend, by number
abbrev lent_by : Shape → List Relay → ℕ → Lent
lent_by sh rs i = (relay_at sh rs i).lends

-- ---- one relay of a list replaced

replaced_at : (sh : Shape) (rs : List Relay) (i : ℕ) (x : Relay) → i < length rs → (j : ℕ) → lent_by sh (set rs i x) j ≡ put (lent_by sh rs) i x.lends j
replaced_at sh rs i x h j = go (ℕ_discrete j i)
  where
    go : Dec (j ≡ i) → lent_by sh (set rs i x) j ≡ put (lent_by sh rs) i x.lends j
    go (yes e) = ap (λ (z : ℕ). (get_or (set rs i x) z (fresh_relay sh)).lends) e ∙ ap (λ (z : Relay). z.lends) (get_or-set_same rs i x (fresh_relay sh) h) ∙ sym (rw (eq-eqb j i e))
    go (no e) = ap (λ (z : Relay). z.lends) (get_or-set_other rs i j x (fresh_relay sh) e) ∙ sym (rw (ne_eqb j i e))

-- a relay that is put back as it was
put_same : (rs : ℕ → Lent) (i j : ℕ) → rs j ≡ put rs i (rs i) j
put_same rs i j = go (ℕ_discrete j i)
  where
    go : Dec (j ≡ i) → rs j ≡ put rs i (rs i) j
    go (yes e) = ap rs e ∙ sym (rw (eq-eqb j i e))
    go (no e) = sym (rw (ne_eqb j i e))

-- ---- what a listed call leaves of header and slices is what the call asked leaves

fed-lends : (r : Relay) (u : _) (o : Outcome) → (fed r u o).lends ≡ (left_by r.lends o).lends
fed-lends r u (Outcome.no n) = refl
fed-lends r u (Outcome.yes s) = refl

live_below : (rs : List Relay) (i : ℕ) → live (retirements rs) i ≡ true → i < length rs
live_below rs i e = subst (λ (n : ℕ). i < n) (length-map rs (λ (r : Relay). r.retired)) (ltb-true i (length (retirements rs)) (and_left (ltb i (length (retirements rs))) (not (get_or (retirements rs) i false)) e))

joined-lends : (sh : Shape) (rs : List Relay) (i j : ℕ) → i < length rs → j < length rs → (o : Outcome) (k : ℕ)
    → lent_by sh (joined_to rs i j (relay_at sh rs i) (relay_at sh rs j) o) k ≡ put (lent_by sh rs) i (left_by (lent_by sh rs i) o).lends k
joined-lends sh rs i j hi hj (Outcome.no n) k = put_same (lent_by sh rs) i k
joined-lends sh rs i j hi hj (Outcome.yes s) k =
    replaced_at sh (set rs j (retire (relay_at sh rs j))) i (joined_by (relay_at sh rs i) (relay_at sh rs j) s) (omega (arith, hi, length-set rs j (retire (relay_at sh rs j)))) k
    ∙ ap (λ (z : Lent). cond (eqb k i) s z) (replaced_at sh rs j (retire (relay_at sh rs j)) hj k ∙ sym (put_same (lent_by sh rs) j k))

step-lends : (sh : Shape) (rs : List Relay) (c : relays.Call) → names (retirements rs) c ≡ true → (k : ℕ)
    → lent_by sh (step sh rs c) k ≡ put (lent_by sh rs) (first_of (asked c)) (walk_call (lent_by sh rs) (asked c)).lends k
unfolding called walk_ask walk_join
step-lends sh rs (feeds.feed i f) e k =
    rw e
    (replaced_at sh rs i (fed (relay_at sh rs i) (updating.enter f) (updating.act f (relay_at sh rs i).lends)) (live_below rs i e) k
    ∙ ap (λ (z : Lent). put (lent_by sh rs) i z k) (fed-lends (relay_at sh rs i) (updating.enter f) (updating.act f (relay_at sh rs i).lends)))
step-lends sh rs (feeds.join i j list) e k =
    let both = and_left (live (retirements rs) i && live (retirements rs) j) (not (eqb i j)) e in
    rw e
    (joined-lends sh rs i j (live_below rs i (and_left (live (retirements rs) i) (live (retirements rs) j) both)) (live_below rs j (and_right (live (retirements rs) i) (live (retirements rs) j) both))
    (merge_list_call (relay_at sh rs i).lends (relay_at sh rs j).lends (length list)) k)

-- ---- and so after a list of calls

run-lends : (sh : Shape) (cs : List relays.Call) (rs : List Relay) → Listed sh rs cs → (k : ℕ) → walk_run (lent_by sh rs) (map asked cs) k ≡ lent_by sh (run sh rs cs) k
unfolding walk_run feeds.run feeds.Listed
run-lends sh [] rs l k = refl
run-lends sh (c ∷ cs) rs l k =
    ap (λ (f : ℕ → Lent). walk_run f (map asked cs) k) (λ i j. sym (step-lends sh rs c l.0 j) i) ∙ run-lends sh cs (step sh rs c) l.1 k

-- ---- fresh relays pass, index included

fresh-indexed : (sh : Shape) → shape_refusal sh ≡ 0 → PassingIn (fresh_indexed sh)
unfolding fresh_lent fresh_header
fresh-indexed sh e =
    let p = fresh-passing sh e in
    record { arrays = p.arrays; ok = fresh_passes (fresh_lent sh) (replicate (tables_in sh) 0) p.ok (length-replicate (tables_in sh) 0) (λ l h. get_d_all 0 max_layers l) }

pub indexed_shared : Corollary
indexed_shared sh e n calls l =
    record {
      lends = λ i h. same i;
      each = λ i h. subst (λ (z : Lent). Claimed sh (record { lends = z; book = (relay_at sh (run sh (start sh n) calls) i).book; retired = (relay_at sh (run sh (start sh n) calls) i).retired })) (sym (same i)) ((shared-streams sh e n calls).each i h);
      passing = runs.passing;
    }
  where
    runs : SameRuns (λ _. fresh_indexed sh) (map asked calls)
    runs = indexed_runs (λ _. fresh_indexed sh) (map asked calls) (λ _. fresh-indexed sh e)

    started : (i : ℕ) → fresh_lent sh ≡ lent_by sh (start sh n) i
    started i = sym (ap (λ (z : Relay). z.lends) (get_d_all (fresh_relay sh) n i))

    same : (i : ℕ) → (sought_after sh calls i).lends ≡ (relay_at sh (run sh (start sh n) calls) i).lends
    same i = runs.lends i ∙ ap (λ (f : ℕ → Lent). walk_run f (map asked calls) i) (λ k j. started j k) ∙ run-lends sh calls (start sh n) l i
