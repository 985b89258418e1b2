-- The books of a run are those that the list of calls alone gives. Assumes nothing.
use mathlib.Core.Path.{◌≡◌, refl, sym, ap, ap₂, ◌∙◌, subst}
use Prim.Native.Nat.{ℕ}
use mathlib.Core.Bool.{Bool, true, false, cond}
use mathlib.Core.List.{List, [], ◌∷◌, ◌++◌, map}
use lib.ListN.{length, set, replicate, get_or-map}
use lib.Dec.{eqb}
use borrow.Author.Tests.{eq-eqb, ne_eqb}
use Rattle.words.specs.Lists.{All}
use Rattle.words.proofs.Lists.{map-set, map-replicate}
use Rattle.header.specs.declared.Shape.{Shape}
use Rattle.header.specs.Shape.{shape_refusal}
use Rattle.layout.specs.Outcomes.{Outcome}
use Rattle.univmon_merge.specs.Merges.{merge_list_call}
use Rattle.shared_streams.specs.Books.{Update, Book}
use Rattle.shared_streams.specs.Feeds.{fresh_relay, start, relay_at, feed, join, retirements, joinable, names, fed, joined_to, called, if_accepted}
use Rattle.shared_streams.specs.Feeds as feeds
use Rattle.shared_streams.specs.Relays.{Feed, updating, Relay, Call, step, run, accepted}
use Rattle.shared_streams.specs.Ledger.{answered_with, joined_with, Answers, Account, opened, account_of, account_at, with_entry, united, booked, gone, book_step, ledger, books, accepted_one, accepted_all}
use Rattle.shared_streams.proofs.FeedRuns.{live-lt, pair, step_good, start_good}
use Rattle.shared_streams.proofs.Runs.{kept_by_lem, Every}
use Rattle.shared_streams.proofs.Calls.{LentBy}
use Rattle.shared_streams.proofs.Acceptance.{feed_list-answers, join-list-answers}

map-map : (rs : List Relay) → gone (map account_of rs) ≡ retirements rs
map-map [] = refl
map-map (r ∷ rs) = ap (λ (z : List Bool). r.retired ∷ z) (map-map rs)

-- no condition on the updates of a book
abbrev Any : Update → Type 0
Any e = Unit {0}

any : (b : Book) → All Any b
any [] = tt
any (e ∷ b) = (tt, any b)

-- ---- one call

module _ (sh : Shape) (v : shape_refusal sh ≡ 0) where
  account-at : (rs : List Relay) (i : ℕ) → account_at (map account_of rs) i ≡ account_of (relay_at sh rs i)
  account-at rs i = get_or-map account_of rs i (fresh_relay sh)

  fed_account : (r : Relay) (e : Update) (o : Outcome) (n : ℕ) → Answers o n → account_of (fed r e o) ≡ with_entry n (account_of r) e
  fed_account r e (Outcome.no m) n p = rw (ne_eqb n 0 p.1) refl
  fed_account r e (Outcome.yes t) n p = rw (eq-eqb n 0 p) refl

  joined-accounts : (rs : List Relay) (i j : ℕ) (a b : Relay) (o : Outcome) (n : ℕ) → Answers o n
      → map account_of (joined_to rs i j a b o) ≡ united n (map account_of rs) i j (account_of a) (account_of b)
  joined-accounts rs i j a b (Outcome.no m) n p = rw (ne_eqb n 0 p.1) refl
  joined-accounts rs i j a b (Outcome.yes t) n p = rw (eq-eqb n 0 p) (map-set account_of (set rs j (record { lends = b.lends; book = b.book; retired = true })) i (record { lends = t; book = a.book ++ b.book; retired = a.retired }) ∙ ap (λ (z : List Account). set z i (record { book = a.book ++ b.book; retired = a.retired })) (map-set account_of rs j (record { lends = b.lends; book = b.book; retired = true })))

  entry_of : (e : Update) (o : Outcome) (n : ℕ) → Answers o n → if_accepted e o ≡ cond (eqb n 0) (e ∷ []) []
  entry_of e (Outcome.no m) n p = rw (ne_eqb n 0 p.1) refl
  entry_of e (Outcome.yes t) n p = rw (eq-eqb n 0 p) refl

  feeds_by : (rs : List Relay) → Every Any sh rs → (i : ℕ) (f : Feed) → names (retirements rs) (feed i f) ≡ true
      → Answers (updating.act f (relay_at sh rs i).lends) (answered_with sh (account_at (map account_of rs) i).book f)
  feeds_by rs h i f q =
      subst (λ (a : Account). Answers (updating.act f (relay_at sh rs i).lends) (answered_with sh a.book f)) (sym (account-at rs i))
      (feed_list-answers sh v (relay_at sh rs i).book (relay_at sh rs i).lends (h i (live-lt rs i q)).lent f)

  joins : (rs : List Relay) → Every Any sh rs → (i j : ℕ) (list : List ℕ) → joinable (retirements rs) i j ≡ true
      → Answers (merge_list_call (relay_at sh rs i).lends (relay_at sh rs j).lends (length list))
      (joined_with sh (account_at (map account_of rs) i).book (account_at (map account_of rs) j).book list)
  joins rs h i j list q =
      subst (λ (n : ℕ). Answers (merge_list_call (relay_at sh rs i).lends (relay_at sh rs j).lends (length list)) n)
      (sym (ap₂ (λ (a b : Account). joined_with sh a.book b.book list) (account-at rs i) (account-at rs j)))
      (join-list-answers sh v (relay_at sh rs i).book (relay_at sh rs j).book (relay_at sh rs i).lends (relay_at sh rs j).lends
      (h i (live-lt rs i (pair rs i j q).first)).lent (h j (live-lt rs j (pair rs i j q).second)).lent list)

  called-accounts : (rs : List Relay) → Every Any sh rs → (c : Call) → names (retirements rs) c ≡ true → map account_of (called updating sh rs c) ≡ booked sh (map account_of rs) c
  unfolding called booked
  called-accounts rs h (feed i f) q =
      let r : Relay = relay_at sh rs i in
      let e : Update = updating.enter f in
      let n : ℕ = answered_with sh (account_at (map account_of rs) i).book f in
      map-set account_of rs i (fed r e (updating.act f r.lends))
      ∙ ap (λ (a : Account). set (map account_of rs) i a) (fed_account r e (updating.act f r.lends) n (feeds_by rs h i f q) ∙ ap (λ (a : Account). with_entry n a e) (sym (account-at rs i)))
  called-accounts rs h (join i j list) q =
      let n : ℕ = joined_with sh (account_at (map account_of rs) i).book (account_at (map account_of rs) j).book list in
      joined-accounts rs i j (relay_at sh rs i) (relay_at sh rs j) (merge_list_call (relay_at sh rs i).lends (relay_at sh rs j).lends (length list)) n (joins rs h i j list q)
      ∙ ap₂ (united n (map account_of rs) i j) (sym (account-at rs i)) (sym (account-at rs j))

  called-accepted : (rs : List Relay) → Every Any sh rs → (c : Call) → names (retirements rs) c ≡ true → feeds.entered updating sh rs c ≡ accepted_one sh (map account_of rs) c
  called-accepted rs h (feed i f) q =
      entry_of (updating.enter f) (updating.act f (relay_at sh rs i).lends) (answered_with sh (account_at (map account_of rs) i).book f) (feeds_by rs h i f q)
  called-accepted rs h (join i j list) q = refl

  -- a choice by whether the call may be listed: relays and their accounts make it alike
  listed-alike : {A : Type 0} (rs : List Relay) (c : Call) (x y d e : A) → (names (retirements rs) c ≡ true → x ≡ y) → d ≡ e
      → cond (names (retirements rs) c) x d ≡ cond (names (gone (map account_of rs)) c) y e
  listed-alike {A} rs c x y d e p q = ap (λ (g : List Bool). cond (names g c) x d) (sym (map-map rs)) ∙ go (names (gone (map account_of rs)) c) (ap (λ (g : List Bool). names g c) (sym (map-map rs)))
    where
      go : (b : Bool) → names (retirements rs) c ≡ b → cond b x d ≡ cond b y e
      go true z = p z
      go false z = q

  step-accounts : (rs : List Relay) → Every Any sh rs → (c : Call) → map account_of (step sh rs c) ≡ book_step sh (map account_of rs) c
  step-accounts rs h c = inside (names (retirements rs) c) ∙ listed-alike rs c (map account_of (called updating sh rs c)) (booked sh (map account_of rs) c) (map account_of rs) (map account_of rs) (called-accounts rs h c) refl
    where
      inside : (b : Bool) → map account_of (cond b (called updating sh rs c) rs) ≡ cond b (map account_of (called updating sh rs c)) (map account_of rs)
      inside true = refl
      inside false = refl

  -- ---- a list

  pub run-accounts : (cs : List Call) (rs : List Relay) → Every Any sh rs → map account_of (run sh rs cs) ≡ ledger sh (map account_of rs) cs
  unfolding feeds.run ledger
  run-accounts [] rs h = refl
  run-accounts (c ∷ cs) rs h =
      run-accounts cs (step sh rs c) (step_good updating sh (LentBy sh) (kept_by_lem sh v) Any rs c (any (cond (names (retirements rs) c) (feeds.entered updating sh rs c) [])) h)
      ∙ ap (λ (xs : List Account). ledger sh xs cs) (step-accounts rs h c)

  pub run-accepted : (cs : List Call) (rs : List Relay) → Every Any sh rs → accepted sh rs cs ≡ accepted_all sh (map account_of rs) cs
  unfolding feeds.accepted accepted_all
  run-accepted [] rs h = refl
  run-accepted (c ∷ cs) rs h =
      ap₂ (λ (a b : Book). a ++ b) (listed-alike rs c (feeds.entered updating sh rs c) (accepted_one sh (map account_of rs) c) [] [] (called-accepted rs h c) refl)
      (run-accepted cs (step sh rs c) (step_good updating sh (LentBy sh) (kept_by_lem sh v) Any rs c (any (cond (names (retirements rs) c) (feeds.entered updating sh rs c) [])) h)
      ∙ ap (λ (xs : List Account). accepted_all sh xs cs) (step-accounts rs h c))

  -- ---- from the start

  pub start-accounts : (n : ℕ) (cs : List Call) → map account_of (run sh (start sh n) cs) ≡ books sh n cs
  start-accounts n cs = run-accounts cs (start sh n) (start_good updating sh (LentBy sh) (kept_by_lem sh v) Any n) ∙ ap (λ (xs : List Account). ledger sh xs cs) (map-replicate account_of n (fresh_relay sh))

  pub start-accepted : (n : ℕ) (cs : List Call) → accepted sh (start sh n) cs ≡ accepted_all sh (replicate n opened) cs
  start-accepted n cs = run-accepted cs (start sh n) (start_good updating sh (LentBy sh) (kept_by_lem sh v) Any n) ∙ ap (λ (xs : List Account). accepted_all sh xs cs) (map-replicate account_of n (fresh_relay sh))
