-- Under the premises no merge that may be listed is refused: weights and numbers of updates of the relays that are not retired add up to those of all accepted
-- updates. Assumes nothing.
use mathlib.Core.Path.{◌≡◌, refl, sym, ap, ◌∙◌, subst}
use mathlib.Core.Logic.{◌⊎◌, inl, inr}
use Prim.Native.Nat.{ℕ, zero, suc, ◌+◌, ◌≤◌, ◌<◌}
use native.Mathlib.Omega.{arith}
use mathlib.Core.Bool.{Bool, true, false, cond}
use mathlib.Core.List.Memᴰ
use mathlib.Core.List.{List, [], ◌∷◌, ◌++◌}
use lib.ListN.{length, get_or, set, length-set, length-replicate, length-append}
use lib.Seq.{get_or-set_other}
use Rattle.words.proofs.Lists.{all-at}
use Rattle.words.proofs.Tests.{number_off}
use Rattle.header.specs.declared.Shape.{Shape}
use Rattle.header.specs.Shape.{shape_refusal}
use Rattle.header.specs.Totals.{add_totals}
use Rattle.header.proofs.Bounds.{Within, totals_off}
use Rattle.layout.specs.Slices.{Lent}
use Rattle.layout.specs.Outcomes.{Outcome}
use Rattle.univmon_merge.specs.Merges.{merge_call, merge_list_call}
use Rattle.shared_streams.specs.Books.{Update, Book, Among, OneMode, weight_of, totals_of}
use Rattle.shared_streams.specs.Feeds.{fresh_relay, feed, join, start, relay_at, retirements, joinable, names, fed, joined_by, retire, joined_to, called, if_accepted, entered}
use Rattle.shared_streams.specs.Feeds as feeds
use Rattle.shared_streams.specs.Relays.{updating, Relay, Call, step, run, accepted}
use Rattle.shared_streams.specs.Ledger.{join_tests, join_number, join_places, Answers}
use Rattle.shared_streams.specs.SharedStreams.{Premises}
use Rattle.shared_streams.proofs.BookLaws.{books-clear, weight-append, no_weight}
use Rattle.shared_streams.proofs.Acceptance.{join-answers, merge-long}
use Rattle.shared_streams.proofs.FeedRuns.{Pair, live-lt, live-not, pair, run_length}
use Rattle.shared_streams.proofs.Runs.{Good, run_by}

-- ---- what the books of the relays that are not retired add up to, by a measure of books that adds up: the weight, and the number of updates

module _ (size : Book → ℕ) (empty : size [] ≡ 0) (append : (a b : Book) → size (a ++ b) ≡ size a + size b) where
  own : Relay → ℕ
  own r = cond r.retired 0 (size r.book)

  total : List Relay → ℕ
  total [] = 0
  total (r ∷ rs) = own r + total rs

  set-total : (rs : List Relay) (i : ℕ) (r d : Relay) → i < length rs → total (set rs i r) + own (get_or rs i d) ≡ total rs + own r
  unfolding total
  set-total [] i r d h = absurd (omega arith)
  set-total (x ∷ rs) zero r d h = omega arith
  set-total (x ∷ rs) (suc i) r d h = omega (arith, set-total rs i r d (omega arith))

  one-total : (rs : List Relay) (i : ℕ) (d : Relay) → i < length rs → own (get_or rs i d) ≤ total rs
  unfolding total
  one-total [] i d h = absurd (omega arith)
  one-total (x ∷ rs) zero d h = omega arith
  one-total (x ∷ rs) (suc i) d h = omega (arith, one-total rs i d (omega arith))

  retired-own : (r : Relay) → own (retire r) ≡ 0
  unfolding own
  retired-own r = refl

  live_own : (r : Relay) → r.retired ≡ false → own r ≡ size r.book
  unfolding own
  live_own r e = rw e

  two-total : (rs : List Relay) (i j : ℕ) (d : Relay) → i < length rs → j < length rs → (i ≡ j → ⊥) → own (get_or rs i d) + own (get_or rs j d) ≤ total rs
  two-total rs i j d h k f =
      let z : Relay = retire (get_or rs j d) in
      omega (
        arith,
        set-total rs j z d k,
        retired-own (get_or rs j d),
        subst (λ (r : Relay). own r ≤ total (set rs j z)) (get_or-set_other rs j i z d f) (one-total (set rs j z) i d (subst (λ (n : ℕ). i < n) (sym (length-set rs j z)) h)),
      )

  -- ---- it grows by what is accepted

  module _ (sh : Shape) where
    call_total : (rs : List Relay) (c : Call) → names (retirements rs) c ≡ true → total (called updating sh rs c) ≡ total rs + size (entered updating sh rs c)
    unfolding called
    call_total rs (feed i f) n = go (updating.act f (relay_at sh rs i).lends)
      where
        r : Relay
        r = relay_at sh rs i

        e : Update
        e = updating.enter f

        go : (o : Outcome) → total (set rs i (fed (relay_at sh rs i) (updating.enter f) o)) ≡ total rs + size (if_accepted (updating.enter f) o)
        go (Outcome.no m) = omega (arith, empty, set-total rs i r (fresh_relay sh) (live-lt rs i n))
        go (Outcome.yes t) =
            let s : Relay = record { lends = t; book = r.book ++ (e ∷ []); retired = r.retired } in
            omega (arith, append r.book (e ∷ []), live_own r (live-not rs sh i n), live_own s (live-not rs sh i n), set-total rs i s (fresh_relay sh) (live-lt rs i n))
    call_total rs (join i j list) n = go (merge_list_call a.lends b.lends (length list))
      where
        a : Relay
        a = relay_at sh rs i

        b : Relay
        b = relay_at sh rs j

        two : Pair rs i j
        two = pair rs i j n

        go : (o : Outcome) → total (joined_to rs i j (relay_at sh rs i) (relay_at sh rs j) o) ≡ total rs + size []
        go (Outcome.no m) = omega (arith, empty)
        go (Outcome.yes t) =
            let s : Relay = joined_by a b t in
            omega (
              arith,
              empty,
              append a.book b.book,
              live_own a (live-not rs sh i two.first),
              live_own b (live-not rs sh j two.second),
              live_own s (live-not rs sh i two.first),
              retired-own b,
              set-total rs j (retire b) (fresh_relay sh) (live-lt rs j two.second),
              set-total (set rs j (retire b)) i s (fresh_relay sh) (subst (λ (m : ℕ). i < m) (sym (length-set rs j (retire b))) (live-lt rs i two.first)),
              ap own (get_or-set_other rs j i (retire b) (fresh_relay sh) two.differ),
            )

    step-total : (rs : List Relay) (c : Call) → total (step sh rs c) ≡ total rs + size (cond (names (retirements rs) c) (entered updating sh rs c) [])
    step-total rs c = go (names (retirements rs) c) refl
      where
        go : (b : Bool) → names (retirements rs) c ≡ b → total (cond b (called updating sh rs c) rs) ≡ total rs + size (cond b (entered updating sh rs c) [])
        go true q = call_total rs c q
        go false q = omega (arith, empty)

    run-total : (cs : List Call) (rs : List Relay) → total (run sh rs cs) ≡ total rs + size (accepted sh rs cs)
    unfolding feeds.run feeds.accepted
    run-total [] rs = omega (arith, empty)
    run-total (c ∷ cs) rs =
        omega (arith, run-total cs (step sh rs c), step-total rs c, append (cond (names (retirements rs) c) (entered updating sh rs c) []) (accepted sh (step sh rs c) cs))

    start-total : (n : ℕ) → total (start sh n) ≡ 0
    unfolding total own
    start-total zero = refl
    start-total (suc n) = omega (arith, empty, start-total n)

    -- two relays that may be merged have together at most what was accepted
    two-accepted : (n : ℕ) (cs : List Call) (i j : ℕ) → joinable (retirements (run sh (start sh n) cs)) i j ≡ true
        → size (relay_at sh (run sh (start sh n) cs) i).book + size (relay_at sh (run sh (start sh n) cs) j).book ≤ size (accepted sh (start sh n) cs)
    two-accepted n cs i j e =
        let rs : List Relay = run sh (start sh n) cs in
        let two : Pair rs i j = pair rs i j e in
        omega (
          arith,
          run-total cs (start sh n),
          start-total n,
          live_own (relay_at sh rs i) (live-not rs sh i two.first),
          live_own (relay_at sh rs j) (live-not rs sh j two.second),
          two-total rs i j (fresh_relay sh) (live-lt rs i two.first) (live-lt rs j two.second) two.differ,
        )

-- ---- together

-- a call that is answered with 0 is accepted
accepts : (o : Outcome) → Answers o 0 → (u : Lent) × (o ≡ Outcome.yes u)
accepts (Outcome.no m) p = absurd (p.1 refl)
accepts (Outcome.yes t) p = (t, refl)

module _ (sh : Shape) (v : shape_refusal sh ≡ 0) (n : ℕ) (calls : List Call) (p : Premises (accepted sh (start sh n) calls)) (i j : ℕ)
    (e : joinable (retirements (run sh (start sh n) calls)) i j ≡ true) where
  abbrev rs : List Relay
  rs = run sh (start sh n) calls

  abbrev all : Book
  all = accepted sh (start sh n) calls

  two : Pair (run sh (start sh n) calls) i j
  two = pair rs i j e

  good : (m : ℕ) → m < length (run sh (start sh n) calls) → Good (λ z. Among z (accepted sh (start sh n) calls)) sh (relay_at sh (run sh (start sh n) calls) m)
  good m h = run_by sh v n calls m (subst (λ (z : ℕ). m < z) (run_length updating sh calls (start sh n) ∙ length-replicate n (fresh_relay sh)) h)

  x : Good (λ z. Among z (accepted sh (start sh n) calls)) sh (relay_at sh (run sh (start sh n) calls) i)
  x = good i (live-lt rs i two.first)

  y : Good (λ z. Among z (accepted sh (start sh n) calls)) sh (relay_at sh (run sh (start sh n) calls) j)
  y = good j (live-lt rs j two.second)

  abbrev a : Book
  a = (relay_at sh (run sh (start sh n) calls) i).book

  abbrev b : Book
  b = (relay_at sh (run sh (start sh n) calls) j).book

  one : OneMode (a ++ b)
  one f g m k = p.mode f g (was_accepted f (Memᴰ.append_cases a m)) (was_accepted g (Memᴰ.append_cases a k))
    where
      was_accepted : (z : Update) → Among z a ⊎ Among z b → Among z (accepted sh (start sh n) calls)
      was_accepted z (inl q) = all-at (λ u. Among u all) a x.all z q
      was_accepted z (inr q) = all-at (λ u. Among u all) b y.all z q

  within : Within (add_totals (totals_of a) (totals_of b))
  within =
      record {
        light = omega (arith, p.weights, two-accepted weight_of no_weight weight-append sh n calls i j e);
        few = omega (arith, p.updates, two-accepted length refl length-append sh n calls i j e);
      }

  none : join_number a b ≡ 0
  unfolding join_number
  none = number_off (join_tests a b) (books-clear a b one, totals_off (totals_of a) (totals_of b) within)

  took : (u : Lent) × (merge_call (relay_at sh (run sh (start sh n) calls) i).lends (relay_at sh (run sh (start sh n) calls) j).lends ≡ Outcome.yes u)
  took =
      accepts (merge_call (relay_at sh rs i).lends (relay_at sh rs j).lends)
      (subst (Answers (merge_call (relay_at sh rs i).lends (relay_at sh rs j).lends)) none (join-answers sh v a b (relay_at sh rs i).lends (relay_at sh rs j).lends x.lent y.lent))

  pub no_merge-refused : (list : List ℕ) → join_places sh ≤ length list
      → (u : Lent) × (merge_list_call (relay_at sh (run sh (start sh n) calls) i).lends (relay_at sh (run sh (start sh n) calls) j).lends (length list) ≡ Outcome.yes u)
  no_merge-refused list h = (took.0, merge-long sh a (relay_at sh rs i).lends (relay_at sh rs j).lends x.lent list h ∙ took.1)
