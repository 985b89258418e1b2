-- The claim about the program and its lines, proved: the statement stands in specs/PanelStream.antt. Assumes nothing.
use mathlib.Core.Path.{◌≡◌, refl, sym, ap, ◌∙◌, subst}
use Prim.Native.Nat.{ℕ, suc}
use native.Mathlib.Omega.{arith}
use mathlib.Core.Bool.{Bool, true, false, cond}
use mathlib.Core.List.{List, [], ◌∷◌, ◌++◌}
use lib.ListN.{length, length-append}
use lib.IntN.{ℤ}
use lib.Dec.{eqb}
use borrow.Author.Tests.{eqb-true, ne_eqb}
use Rattle.words.proofs.Bools.{never}
use Rattle.words.proofs.Lists.{all_append}
use Rattle.header.specs.OneTier.{one_tier}
use Rattle.header.specs.declared.Shape.{Shape}
use Rattle.header.specs.declared.Header.{Header}
use Rattle.header.specs.declared.Mode.TheVariants as mode
use Rattle.header.specs.Shape.{shape_refusal}
use Rattle.header.specs.Header.{zero_header}
use Rattle.layout.specs.Slices.{Lent, lent_ok, flat, fresh_lent, extent_of}
use Rattle.layout.specs.Outcomes.{Outcome, Left, left, left_by}
use Rattle.univmon.specs.declared.Kind.TheVariants as kind
use Rattle.univmon.specs.Calls.{update_call}
use Rattle.shared_streams.specs.Books.{Update}
use Rattle.shared_streams.specs.Relays.{update_by}
use Rattle.shared_streams.specs.Ledger.{feed_number, Answers}
use Rattle.shared_streams.specs.SharedStreams.{Claimed}
use Rattle.shared_streams.proofs.BookLaws.{OfMode}
use Rattle.shared_streams.proofs.Calls.{LentBy, lent-lengths, lent-fed, lent-fresh}
use Rattle.shared_streams.proofs.Acceptance.{feed_answers}
use Rattle.shared_streams.proofs.Claims.{claimed}
use Rattle.text.specs.Words.{is_prefix}
use Rattle.panel_lines.specs.declared.line.Request.{Request}
use Rattle.panel_lines.specs.declared.line.Request.TheVariants as ask
use Rattle.panel_lines.specs.Line.{read_of}
use Rattle.panel_lines.specs.Answers.{ok_text, refused_text}
use Rattle.panel_lines.specs.Split.{lines, whole_of}
use Rattle.panel_step.specs.Panel.{in_use, put_back, panel_refusal, paper_refusal, refusal_in, shape_call, started, back_by, add_call, panel_text, show_line, Reply, reply_text, answer_to, answer_line, answers_of, run_of}
use Rattle.panel_step.proofs.Rooms.{fit_of, own-refusal}
use Rattle.panel_step.proofs.Runs.{run-whole}
use Rattle.panel_stream.specs.PanelStream.{Log, blank, add_number, log_shaped, log_added, log_after, log_of, is_ok, fed_after, times_fed, relay_in, Shown, NextLine, Theorem, Own, Corollary}
use Rattle.panel_stream.proofs.Backs.{Just, just, back_in, back-room}
use Rattle.panel_stream.proofs.Adds.{Standards, not_six}
use Rattle.panel_stream.proofs.Shows.{panel_is, panel_keys, panel_flags}

-- ---- what every line keeps

-- what is in use is as a book of standard updates says
record Fed (r : Lent) (g : Log) : Type 0 where
  shape : r.head.shape ≡ g.shape
  good : shape_refusal g.shape ≡ 0
  by : LentBy g.shape g.book (in_use r)
  kinds : Standards g.book

-- f says what a shape is refused with, g what the lines said
record Kept (f : Shape → ℕ) (r : Lent) (g : Log) : Type 0 where
  room : (sh : Shape) → refusal_in r sh ≡ f sh
  begun : started r ≡ g.started
  fed : g.started ≡ true → Fed r g

own : (r : Lent) (sh : Shape) → refusal_in r sh ≡ 0 → shape_refusal sh ≡ 0
own r sh e = (fit_of sh (length r.counters) (length r.norms) (length r.entries) (length r.counts) e).own

-- where t is as the log's book says and r has room for its shape, t put back into r's slices has what every line keeps
back-kept : (f : Shape → ℕ) (r t : Lent) (g : Log) → ((z : Shape) → refusal_in r z ≡ f z) → refusal_in r g.shape ≡ 0 → LentBy g.shape g.book t → Standards g.book → g.started ≡ true
    → Kept f (put_back (extent_of g.shape) r t) g
unfolding flat
back-kept f r t g room e y a on =
    record {
      room = λ z. stays z ∙ room z;
      begun = ap (λ (z : Shape). eqb (refusal_in (put_back (extent_of g.shape) r t) z) 0) shape ∙ ap (λ (n : ℕ). eqb n 0) (stays g.shape ∙ e) ∙ sym on;
      fed = λ z. record { shape = shape; good = own r g.shape e; by = subst (LentBy g.shape g.book) (sym (back_in (extent_of g.shape) r t lengths)) y; kinds = a };
    }
  where
    shape : t.head.shape ≡ g.shape
    shape = ap (λ (z : Lent). z.head.shape) y.is ∙ y.by.shape

    lengths : lent_ok t ≡ true
    lengths = lent-lengths g.shape g.book t y

    stays : (z : Shape) → refusal_in (put_back (extent_of g.shape) r t) z ≡ refusal_in r z
    stays = back-room g.shape r t e (subst (λ (z : Shape). Just z t) shape (just t lengths))

-- ---- a shape

module _ (f : Shape → ℕ) (r : Lent) (g : Log) (k : Kept f r g) (sh : Shape) where
  abbrev shaped : ℕ → Left
  shaped n = cond (eqb n 0) (left 0 (put_back (extent_of sh) r (fresh_lent sh))) (left n r)

  next-shape : (shape_call r sh).refusal ≡ f sh
  unfolding shape_call
  next-shape = go (refusal_in r sh) ∙ k.room sh
    where
      go : (n : ℕ) → (shaped n).refusal ≡ n
      go n = two (eqb n 0) refl
        where
          two : (b : Bool) → eqb n 0 ≡ b → (cond b (left 0 (put_back (extent_of sh) r (fresh_lent sh))) (left n r)).refusal ≡ n
          two true q = sym (eqb-true n 0 q)
          two false q = refl

  shape-kept : Kept f (shape_call r sh).lends (log_shaped (f sh) g sh)
  unfolding shape_call log_shaped
  shape-kept = subst (λ (n : ℕ). Kept f (shaped n).lends (log_shaped (f sh) g sh)) (sym (k.room sh)) (go (eqb (f sh) 0) refl)
    where
      go : (b : Bool) → eqb (f sh) 0 ≡ b → Kept f (cond b (left 0 (put_back (extent_of sh) r (fresh_lent sh))) (left (f sh) r)).lends (cond b (record { started = true; shape = sh; book = [] }) g)
      go true q =
          let e : refusal_in r sh ≡ 0 = k.room sh ∙ eqb-true (f sh) 0 q in
          back-kept f r (fresh_lent sh) (record { started = true; shape = sh; book = [] }) k.room e (lent-fresh sh (own r sh e)) tt refl
      go false q = k

-- ---- an add

module _ (f : Shape → ℕ) (r : Lent) (g : Log) (k : Kept f r g) (words : List ℕ) (w : ℤ) where
  abbrev outcome : Outcome
  outcome = update_call kind.Standard (in_use r) words w

  abbrev entry : Update
  entry = update_by kind.Standard words w

  abbrev number : ℕ
  number = feed_number g.shape g.book kind.Standard words w

  abbrev after : Bool → Left
  after t = cond t (left_by r (back_by r outcome)) (left 13 r)

  answers : g.started ≡ true → Answers (update_call kind.Standard (in_use r) words w) (feed_number g.shape g.book kind.Standard words w)
  answers e = let x : Fed r g = k.fed e in feed_answers g.shape x.good g.book (in_use r) x.by kind.Standard words w

  next-add : (add_call r words w).refusal ≡ add_number g words w
  unfolding add_call add_number
  next-add = go g.started refl k.begun
    where
      two : (o : Outcome) → Answers o number → (left_by r (back_by r o)).refusal ≡ number
      two (Outcome.no n) p = p.0
      two (Outcome.yes t) p = sym p

      go : (b : Bool) → g.started ≡ b → started r ≡ b → (after (started r)).refusal ≡ cond b number 13
      go true e q = rw q (two outcome (answers e))
      go false e q = rw q refl

  add-alike : add_number g words w ≡ 6 → ⊥
  unfolding add_number
  add-alike = go g.started refl
    where
      go : (b : Bool) → g.started ≡ b → cond b number 13 ≡ 6 → ⊥
      go true e q = not_six g.shape g.book words w (k.fed e).kinds q
      go false e q = omega (arith, q)

  abbrev more : Log
  more = record { started = g.started; shape = g.shape; book = g.book ++ (update_by kind.Standard words w ∷ []) }

  one_added : log_added 0 g words w ≡ more
  unfolding log_added
  one_added = refl

  none_added : (n : ℕ) → (n ≡ 0 → ⊥) → log_added n g words w ≡ g
  unfolding log_added
  none_added n h = rw (ne_eqb n 0 h)

  added : (o : Outcome) → update_call kind.Standard (in_use r) words w ≡ o → (e : g.started ≡ true) → Answers o number → Kept f (left_by r (back_by r o)).lends (log_added number g words w)
  added (Outcome.no n) q e p = rw (none_added number p.1) k
  added (Outcome.yes t) q e p = rw (p, one_added) (subst (λ (z : Shape). Kept f (put_back (extent_of z) r t) more) (sym x.shape) kept)
    where
      x : Fed r g
      x = k.fed e

      has : refusal_in r g.shape ≡ 0
      has = ap (refusal_in r) (sym x.shape) ∙ eqb-true (refusal_in r r.head.shape) 0 (k.begun ∙ e)

      kept : Kept f (put_back (extent_of g.shape) r t) more
      kept =
          back-kept f r t more k.room has (lent-fed g.shape x.good kind.Standard g.book (in_use r) t words w x.by q)
          (all_append (OfMode mode.Standard) g.book (entry ∷ []) x.kinds (refl, tt)) e

  add_kept : Kept f (add_call r words w).lends (log_added (add_number g words w) g words w)
  unfolding add_call add_number
  add_kept = go g.started refl k.begun
    where
      go : (b : Bool) → g.started ≡ b → started r ≡ b → Kept f (after (started r)).lends (log_added (cond b number 13) g words w)
      go true e q = rw q (added outcome refl e (answers e))
      go false e q = rw (q, none_added 13 (λ z. omega (arith, z))) k

-- ---- lines

to_kept : (f : Shape → ℕ) (r : Lent) (g : Log) (q : Request) (words : List ℕ) → Kept f r g → Kept f (answer_to r q words).lends (log_after f g q words)
unfolding answer_to
to_kept f r g (ask.Shape heap rows cols layers) words k = shape-kept f r g k (one_tier heap rows cols layers)
to_kept f r g (ask.Add w n) words k = add_kept f r g k words w
to_kept f r g ask.Show words k = k
to_kept f r g ask.Unreadable words k = k

lines-kept : (f : Shape → ℕ) (ls : List (List ℕ)) (r : Lent) (g : Log) → Kept f r g → Kept f (answers_of r ls).lends (log_of f g ls)
unfolding answers_of answer_line log_of
lines-kept f [] r g k = k
lines-kept f (l ∷ ls) r g k = lines-kept f ls (answer_line r l).lends (log_after f g (read_of l).request (read_of l).words) (to_kept f r g (read_of l).request (read_of l).words k)

-- ---- how often the relay was fed

-- `(ok)` stands for 0 alone
ok-said : (n : ℕ) → is_ok (reply_text n ++ (10 ∷ [])) ≡ eqb n 0
unfolding reply_text refused_text is_prefix
ok-said n = go (eqb n 0)
  where
    go : (b : Bool) → is_ok (cond b ok_text (refused_text n) ++ (10 ∷ [])) ≡ b
    go true = refl
    go false = refl

to_fed : (f : Shape → ℕ) (r : Lent) (g : Log) (q : Request) (words : List ℕ) (n : ℕ) → Kept f r g → n ≡ length g.book
    → fed_after n q (answer_to r q words).text ≡ length (log_after f g q words).book
unfolding answer_to log_shaped log_added
to_fed f r g (ask.Shape heap rows cols layers) words n k e =
    ap (λ (b : Bool). cond b 0 n) (ok-said (shape_call r sh).refusal ∙ ap (λ (m : ℕ). eqb m 0) (next-shape f r g k sh)) ∙ go (eqb (f sh) 0)
  where
    sh : Shape
    sh = one_tier heap rows cols layers

    go : (b : Bool) → cond b 0 n ≡ length (cond b (record { started = true; shape = sh; book = [] }) g).book
    go true = refl
    go false = e
to_fed f r g (ask.Add w m) words n k e =
    ap (λ (b : Bool). cond b (suc n) n) (ok-said (add_call r words w).refusal ∙ ap (λ (i : ℕ). eqb i 0) (next-add f r g k words w)) ∙ go (eqb (add_number g words w) 0)
  where
    go : (b : Bool) → cond b (suc n) n ≡ length (cond b (more f r g k words w) g).book
    go true = omega (arith, e, length-append g.book (update_by kind.Standard words w ∷ []))
    go false = e
to_fed f r g ask.Show words n k e = e
to_fed f r g ask.Unreadable words n k e = e

lines-fed : (f : Shape → ℕ) (ls : List (List ℕ)) (r : Lent) (g : Log) (n : ℕ) → Kept f r g → n ≡ length g.book → times_fed r n ls ≡ length (log_of f g ls).book
unfolding times_fed answer_line log_of
lines-fed f [] r g n k e = e
lines-fed f (l ∷ ls) r g n k e =
    let q : Request = (read_of l).request in
    let words : List ℕ = (read_of l).words in
    lines-fed f ls (answer_to r q words).lends (log_after f g q words) (fed_after n q (answer_to r q words).text) (to_kept f r g q words k) (to_fed f r g q words n k e)

-- ---- what the next line is answered with

module _ (f : Shape → ℕ) (r : Lent) (g : Log) (n : ℕ) (k : Kept f r g) (times : n ≡ length g.book) where
  early : g.started ≡ false → show_line r ≡ refused_text 13
  unfolding show_line
  early e = rw (k.begun ∙ e) refl

  shown : g.started ≡ true → Shown r g.shape g.book n
  unfolding show_line panel_text
  shown e =
      record {
        claimed = claim;
        line = rw (k.begun ∙ e, panel_is g.shape x.good g.book (in_use r) x.by x.kinds, panel_flags g.shape x.good g.book (in_use r) x.by x.kinds, claim.holds.updates, times) refl;
        updates = times;
        keys = panel_keys g.shape x.good g.book (in_use r) x.by x.kinds;
      }
    where
      x : Fed r g
      x = k.fed e

      claim : Claimed g.shape (relay_in r g.book)
      claim = claimed g.shape x.good (relay_in r g.book) x.by

  next-line : NextLine f r g n
  next-line = record { shape = next-shape f r g k; add = next-add f r g k; alike = add-alike f r g k; early = early; show = shown }

-- ---- the theorem

not_yet : (r : Lent) → r.head ≡ zero_header → Kept (refusal_in r) r blank
unfolding panel_refusal shape_refusal
not_yet r e = record { room = λ sh. refl; begun = ap (λ (h : Header). eqb (refusal_in r h.shape) 0) e; fed = λ z. absurd (never z) }

pub panel-stream : Theorem
panel-stream r e ls =
    next-line (refusal_in r) (answers_of r ls).lends (log_of (refusal_in r) blank ls) (times_fed r 0 ls) (lines-kept (refusal_in r) ls r blank (not_yet r e))
    (lines-fed (refusal_in r) ls r blank 0 (not_yet r e) refl)

-- the program's own slices add nothing to the paper's words
own_is : (r : Lent) → Own r → refusal_in r ≡ paper_refusal
own_is r o = λ i sh. ((λ j. panel_refusal sh (o.counters j) (o.norms j) (o.entries j) (o.counts j)) ∙ own-refusal sh) i

pub of_any_input : Corollary
of_any_input r o cs =
    subst (λ (f : Shape → ℕ). NextLine f (run_of r [] cs).lends (log_of f blank (lines (whole_of cs))) (times_fed r 0 (lines (whole_of cs)))) (own_is r o)
    (subst (λ (a : Reply). NextLine (refusal_in r) a.lends (log_of (refusal_in r) blank (lines (whole_of cs))) (times_fed r 0 (lines (whole_of cs)))) (sym (run-whole r cs)) (panel-stream r o.head (lines (whole_of cs))))
