-- What a call on relays that are as their books say is answered with: the number that the books say. Assumes nothing.
use mathlib.Core.Path.{◌≡◌, refl, ap, ap₂, ◌∙◌, sym, subst}
use Prim.Native.Nat.{ℕ, ◌≤◌}
use native.Mathlib.Omega.{arith}
use mathlib.Core.Bool.{Bool, true, false, cond, not}
use mathlib.Core.List.{List, [], ◌∷◌, ◌++◌}
use lib.ListN.{length}
use lib.IntN.{ℤ, pos, negsuc}
use lib.Dec.{eqb, ltb}
use borrow.Author.Tests.{eq-eqb, ne_eqb, eqb-true, eqb-false}
use Rattle.words.specs.Tests.{number, numbered}
use Rattle.words.proofs.Bools.{never}
use Rattle.words.proofs.Tests.{Off, off_number, number-rest, number-alone}
use Rattle.header.specs.declared.Shape.{Shape}
use Rattle.header.specs.declared.Mode.{Mode}
use Rattle.header.specs.declared.Totals.{Totals}
use Rattle.header.specs.Shape.{shape_refusal, same_shape}
use Rattle.header.specs.Totals.{update_totals, totals_tests}
use Rattle.header.specs.Header.{scalars_of, clash, begin_tests}
use Rattle.header.proofs.Bounds.{totals_within}
use Rattle.layout.specs.Records.{record_length}
use Rattle.layout.specs.Slices.{Lent, view, flat}
use Rattle.layout.specs.Outcomes.{Outcome, judge, lent_tests}
use Rattle.layout.specs.Answers.{list_call}
use Rattle.layout.proofs.Judged.{passed, refused}
use Rattle.layout.proofs.ListCalls.{list-long}
use Rattle.univmon.specs.declared.Kind.{Kind}
use Rattle.univmon.specs.Updates.{mode_of, sent_tests, update_tests, updated}
use Rattle.univmon.specs.Calls.{update_call, update_list_call}
use Rattle.univmon_merge.specs.Merges.{pair_tests, merge_tests, merged, merge_call, merge_list_call}
use Rattle.shared_streams.specs.Books.{Book, book_mode}
use Rattle.shared_streams.specs.Relays.{Feed, updating}
use Rattle.shared_streams.specs.Ledger.{feed_tests, feed_number, join_tests, join_number, list_number, feed_places, join_places, answered_with, joined_with, Answers}
use Rattle.shared_streams.proofs.Relays.{RelayBy}
use Rattle.shared_streams.proofs.Calls.{LentBy, lent_view, lent_off, update-sent, merge-paired, shapes_same}

-- a call that is judged by tests is answered with their number, if no test has the number 0
judge-answers : (ts : List (Bool × ℕ)) (t : Lent) (n : ℕ) → numbered ts ≡ true → number ts ≡ n → Answers (judge ts t) n
judge-answers ts t n h e = go (eqb (number ts) 0) refl
  where
    go : (b : Bool) → eqb (number ts) 0 ≡ b → Answers (judge ts t) n
    go true q = subst (λ (o : Outcome). Answers o n) (sym (passed ts t (off_number ts h (eqb-true (number ts) 0 q)))) (sym e ∙ eqb-true (number ts) 0 q)
    go false q = subst (λ (o : Outcome). Answers o n) (sym (refused ts t (eqb-false (number ts) 0 q))) (e, λ z. eqb-false (number ts) 0 q (e ∙ z))

-- where the first tests are off, and the last ones are off if those between are, those between give the number
between : (us ts vs : List (Bool × ℕ)) → numbered ts ≡ true → Off us → (Off ts → Off vs) → number (us ++ (ts ++ vs)) ≡ number ts
between us ts vs h o f = number-rest us (ts ++ vs) o ∙ number-alone ts vs h f

-- with a list a call is answered as without one, or with 16
list-answers : (least asked n : ℕ) → least ≡ asked → (o : Outcome) (m : ℕ) → Answers o m → Answers (list_call least n o) (list_number asked n m)
unfolding list_number
list-answers least asked n e (Outcome.no k) m p = rw (ne_eqb m 0 p.1) p
list-answers least asked n e (Outcome.yes t) m p = rw (eq-eqb m 0 p, e) (go (ltb n asked))
  where
    go : (b : Bool) → Answers (cond b (Outcome.no 16) (Outcome.yes t)) (cond b 16 0)
    go true = (refl, λ z. omega (arith, z))
    go false = refl

-- ---- an update

pub feed_answers : (sh : Shape) → shape_refusal sh ≡ 0 → (b : Book) (r : Lent) → LentBy sh b r → (k : Kind) (words : List ℕ) (w : ℤ)
    → Answers (update_call k r words w) (feed_number sh b k words w)
unfolding update_call update_tests feed_number view
feed_answers sh v b r x k words w =
    judge-answers (update_tests k r words w) (flat (updated k (view r) words w)) (feed_number sh b k words w) refl
    (between (lent_tests r) front (sent_tests k (view r) words w) refl (lent_off sh v b r x) (sent w) ∙ by_book)
  where
    by : RelayBy sh b (view r)
    by = lent_view sh b r x

    -- the tests that stand between those of header and lengths and those of the layers
    front : List (Bool × ℕ)
    front = (not (eqb (length words) (record_length r.head.shape.layers)), 12) ∷ begin_tests (scalars_of r.head) w (mode_of k)

    sent : (z : ℤ) → Off ((not (eqb (length words) (record_length r.head.shape.layers)), 12) ∷ begin_tests (scalars_of r.head) z (mode_of k)) → Off (sent_tests k (view r) words z)
    sent (pos m) o = update-sent sh v k b r words m x (totals_within r.head.totals (update_totals m) o.1.1.1).light
    sent (negsuc m) o = absurd (never (sym o.1.0))

    by_book : number ((not (eqb (length words) (record_length r.head.shape.layers)), 12) ∷ begin_tests (scalars_of r.head) w (mode_of k)) ≡ number (feed_tests sh b k words w)
    by_book =
        ap (λ (z : Shape). number ((not (eqb (length words) (record_length z.layers)), 12) ∷ begin_tests (record { shape = z; totals = r.head.totals; mode = r.head.mode }) w (mode_of k))) by.shape
        ∙ ap₂ (λ (m : Mode) (t : Totals). number ((not (eqb (length words) (record_length sh.layers)), 12) ∷ begin_tests (record { shape = sh; totals = t; mode = m }) w (mode_of k))) by.mode by.totals

pub feed_list-answers : (sh : Shape) → shape_refusal sh ≡ 0 → (b : Book) (r : Lent) → LentBy sh b r → (f : Feed) → Answers (updating.act f r) (answered_with sh b f)
unfolding update_list_call view
feed_list-answers sh v b r x f =
    list-answers (feed_places r.head.shape) (feed_places sh) (length f.list) (ap feed_places (lent_view sh b r x).shape) (update_call f.kind r f.words f.weight)
    (feed_number sh b f.kind f.words f.weight) (feed_answers sh v b r x f.kind f.words f.weight)

-- ---- a merge

pub join-answers : (sh : Shape) → shape_refusal sh ≡ 0 → (a b : Book) (r t : Lent) → LentBy sh a r → LentBy sh b t → Answers (merge_call r t) (join_number a b)
unfolding merge_call merge_tests join_number view
join-answers sh v a b r t x y =
    judge-answers (merge_tests r t) (flat (merged (view r) (view t))) (join_number a b) refl
    (between (lent_tests r ++ (lent_tests t ++ ((not (same_shape r.head.shape t.head.shape), 10) ∷ []))) heads (pair_tests r.head.shape.layers (view r) (view t)) refl first paired ∙ by_books)
  where
    by : RelayBy sh a (view r)
    by = lent_view sh a r x

    to : RelayBy sh b (view t)
    to = lent_view sh b t y

    heads : List (Bool × ℕ)
    heads = (clash r.head.mode t.head.mode, 6) ∷ totals_tests r.head.totals t.head.totals

    first : Off (lent_tests r ++ (lent_tests t ++ ((not (same_shape r.head.shape t.head.shape), 10) ∷ [])))
    first =
        let p = lent_off sh v a r x in
        let q = lent_off sh v b t y in
        (p.0, (p.1.0, (q.0, (q.1.0, (ap not (shapes_same sh a b r t x y), tt)))))

    paired : Off ((clash r.head.mode t.head.mode, 6) ∷ totals_tests r.head.totals t.head.totals) → Off (pair_tests r.head.shape.layers (view r) (view t))
    paired o = merge-paired sh v a b r t x y (totals_within r.head.totals t.head.totals o.1).light

    by_books : number ((clash r.head.mode t.head.mode, 6) ∷ totals_tests r.head.totals t.head.totals) ≡ number (join_tests a b)
    by_books =
        ap₂ (λ (m n : Mode). number ((clash m n, 6) ∷ totals_tests r.head.totals t.head.totals)) by.mode to.mode
        ∙ ap₂ (λ (m n : Totals). number ((clash (book_mode a) (book_mode b), 6) ∷ totals_tests m n)) by.totals to.totals

pub join-list-answers : (sh : Shape) → shape_refusal sh ≡ 0 → (a b : Book) (r t : Lent) → LentBy sh a r → LentBy sh b t → (list : List ℕ)
    → Answers (merge_list_call r t (length list)) (joined_with sh a b list)
unfolding merge_list_call view
join-list-answers sh v a b r t x y list =
    list-answers (join_places r.head.shape) (join_places sh) (length list) (ap join_places (lent_view sh a r x).shape) (merge_call r t) (join_number a b) (join-answers sh v a b r t x y)

-- with a list that is long enough it is the same call
pub merge-long : (sh : Shape) (a : Book) (r t : Lent) → LentBy sh a r → (list : List ℕ) → join_places sh ≤ length list → merge_list_call r t (length list) ≡ merge_call r t
unfolding merge_list_call view
merge-long sh a r t x list h =
    list-long (join_places r.head.shape) (length list) (merge_call r t) (λ u e. subst (λ (z : Shape). join_places z ≤ length list) (sym (lent_view sh a r x).shape) h)
