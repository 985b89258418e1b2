-- What is claimed of a relay that is as its book says. Assumes nothing.
use mathlib.Core.Path.{◌≡◌, refl, sym, ap, ◌∙◌, subst}
use Prim.Native.Nat.{ℕ, suc, ◌-◌, ◌≤◌, min}
use native.Mathlib.Omega.{arith}
use mathlib.Core.Bool.{Bool, true, false, cond, not, and-false, ◌&&◌}
use mathlib.Core.List.{List, []}
use lib.ListN.{length}
use lib.IntN.{ℤ, pos}
use lib.Dec.{eqb}
use lib.Ieee.{binary64, of_int}
use borrow.Author.Tests.{le-leb, eq-eqb}
use Rattle.words.proofs.Tests.{Off, number_off}
use Rattle.words.specs.Lists.{All}
use Rattle.words.proofs.Lists.{all-at, all_map}
use Rattle.float64.proofs.Ints.{int-value}
use Rattle.header.specs.declared.Shape.{Shape}
use Rattle.header.specs.declared.Mode.{Mode}
use Rattle.header.specs.declared.Mode.TheVariants as mode
use Rattle.header.specs.Shape.{max_layers, shape_refusal, bottom_of}
use Rattle.header.specs.inner.Accepted.{Accepted}
use Rattle.header.proofs.Refusals.{accepted_of}
use Rattle.header.proofs.Bounds.{Within}
use Rattle.header.specs.Header.{Headed}
use Rattle.layout.specs.State.{State}
use Rattle.layout.specs.Slices.{Lent, view, flat, fresh_lent}
use Rattle.layout.specs.Outcomes.{Outcome, lent_tests}
use Rattle.layout.proofs.Flatten.{flat-lengths}
use Rattle.layout.proofs.Replaced.{Sized}
use Rattle.univmon.specs.declared.Kind.{Kind}
use Rattle.univmon.specs.declared.Kind.TheVariants as kind
use Rattle.univmon.specs.Updates.{mode_of}
use Rattle.univmon.specs.Calls.{update_call, lent_update_call, update_list_call, lent_update_list_call}
use Rattle.sums.specs.Terminal.{terminal_sum, heavy}
use Rattle.sums.specs.Layers.{standard_sum}
use Rattle.sums.specs.declared.G.TheVariants as g
use Rattle.estimates.specs.Sums.{terminal_input, sum_by, header_alone, g_sum_of, sum_reads}
use Rattle.estimates.specs.inner.Slices.{cardinality_of}
use Rattle.estimates.specs.Answers.{Answer}
use Rattle.estimates.specs.Calls.{answer, sum_tests, sum_call, cardinality_call}
use Rattle.shared_streams.specs.Books.{Book, book_keys, keys_sent, times, distinct, OneRecord, Reordered, Holds, book_mode}
use Rattle.shared_streams.specs.Relays.{Relay, takes}
use Rattle.shared_streams.specs.SharedStreams.{Formed, SameValues, Alone, Claimed}
use Rattle.shared_streams.proofs.Keys.{distinct-same}
use Rattle.shared_streams.proofs.BookLaws.{Fitting, totals_append, OfMode}
use Rattle.shared_streams.proofs.Relays.{RelayBy}
use Rattle.shared_streams.proofs.Refusals.{ranged_by, sums-read}
use Rattle.shared_streams.proofs.Reorders.{reordered_all, reordered_totals}
use Rattle.shared_streams.proofs.Values.{holds_by}
use Rattle.shared_streams.proofs.Same.{holds_reordered, same_values}
use Rattle.shared_streams.proofs.Calls.{LentBy, lent_view, lent_off, lent-fresh}
use Rattle.shared_streams.proofs.Takes.{takes_all}
use Rattle.shared_streams.proofs.Acceptance.{feed_list-answers}
use Rattle.shared_streams.proofs.Sent.{Hashed, hashed, bot_by, sent-times}
use Rattle.shared_streams.proofs.Standard.{standard_counts}
use Rattle.shared_streams.proofs.Terminal.{terminal_counts}

-- ---- kinds and modes

same_kind : (j k : Kind) → mode_of j ≡ mode_of k → j ≡ k
same_kind kind.Standard kind.Standard e = refl
same_kind kind.Standard kind.Terminal e = cc
same_kind kind.Terminal kind.Standard e = cc
same_kind kind.Terminal kind.Terminal e = refl

kind_unset : (k : Kind) → mode_of k ≡ mode.Unset → k ≡ kind.Standard
kind_unset kind.Standard e = refl
kind_unset kind.Terminal e = cc

-- ---- cardinality

counts : (sh : Shape) → shape_refusal sh ≡ 0 → (b : Book) (s : State) → RelayBy sh b s → OneRecord b → distinct (book_keys b) ≤ sh.heap_size
    → cardinality_of s ≡ of_int binary64 (pos (distinct (book_keys b)))
unfolding g_sum_of standard_sum terminal_sum
counts sh w b s r one few = rw (and-false (eqb s.head.totals.weight 0)) (go s.head.mode refl)
  where
    v : Accepted sh
    v = accepted_of sh w

    h : ℕ → List ℕ
    h = (hashed b one).0

    c : Hashed h b
    c = (hashed b one).1

    at : s.head.shape.layers ≡ sh.layers
    at = ap (λ (z : Shape). z.layers) r.shape

    last : suc (s.head.shape.layers - 1) ≡ sh.layers
    last = omega (arith, at, v.some)

    kinds : (κ : Kind) (m : Mode) → s.head.mode ≡ m → ((k : Kind) → mode_of k ≡ m → k ≡ κ) → All (λ e. e.kind ≡ κ) b
    kinds κ m e q = all_map (OfMode (book_mode b)) (λ x. x.kind ≡ κ) b (λ x p. q x.kind (p ∙ sym r.mode ∙ e)) r.kinds

    -- every key is sent to layer 0
    all : All (λ e. e.kind ≡ kind.Standard) b → distinct (keys_sent sh 0 b) ≡ distinct (book_keys b)
    all a =
        distinct-same (keys_sent sh 0 b) (book_keys b)
        (λ k. ap (min 1) (sent-times h kind.Standard sh.layers 0 k b a c ∙ ap (λ (x : Bool). cond x (times k (book_keys b)) 0) (le-leb 0 (bottom_of (bot_by h k) sh.layers) (omega arith))))

    own : All (λ e. e.kind ≡ kind.Standard) b → sum_by mode.Standard g.One true s ≡ of_int binary64 (pos (distinct (book_keys b)))
    own a =
        standard_counts sh v h b s r a c (λ k l. pos 0) (s.head.shape.layers - 1) 0 (omega (arith, last)) (omega (arith, all a, few))
        ∙ ap (λ (n : ℕ). of_int binary64 (pos n)) (all a)

    go : (m : Mode) → s.head.mode ≡ m → sum_by m g.One true s ≡ of_int binary64 (pos (distinct (book_keys b)))
    go mode.Unset e = own (kinds kind.Standard mode.Unset e kind_unset)
    go mode.Standard e = own (kinds kind.Standard mode.Standard e (λ k. same_kind k kind.Standard))
    go mode.Terminal e = terminal_counts sh v h b s r (kinds kind.Terminal mode.Terminal e (λ k. same_kind k kind.Terminal)) c few (heavy (terminal_input s)) (s.head.shape.layers - 1) last

-- the call: nothing refuses it
card_call : (sh : Shape) → shape_refusal sh ≡ 0 → (b : Book) (r : Lent) → LentBy sh b r → cardinality_call r ≡ answer 0 (cardinality_of (view r))
unfolding sum_call view
card_call sh v b r x = rw (number_off (sum_tests r true) (off.0, (off.1.0, (none (header_alone (view r) true), tt))))
  where
    off : Off (lent_tests r)
    off = lent_off sh v b r x

    reads : sum_reads (view r) ≡ true
    reads =
        subst (λ (z : Shape). shape_refusal z ≡ 0 → RelayBy z b (view r) → sum_reads (view r) ≡ true) (lent_view sh b r x).shape (sums-read (view r) b) v (lent_view sh b r x)

    none : (c : Bool) → not c && not (sum_reads (view r)) ≡ false
    none true = refl
    none false = rw reads

-- ---- the header's form, and lengths and flags lent beside it

headed_by : (s : State) → Sized s → Headed s.head
headed_by s z = record { lens = z.lens; flags = z.flags }

formed_by : (sh : Shape) → shape_refusal sh ≡ 0 → (b : Book) (s : State) → RelayBy sh b s → Formed sh (flat s)
unfolding flat
formed_by sh v b s r =
    record {
      shape = r.shape;
      ranged = ranged_by sh s b v r;
      lengths = flat-lengths s r.sized;
      headed = headed_by s r.sized;
      past_lens = r.past_lens;
      past_flags = r.past_flags;
    }

lent_same : (k : Kind) (r : Lent) (words : List ℕ) (w : ℤ) (n : ℕ) → Headed r.head → lent_update_list_call k r words w n ≡ update_list_call k r words w n
unfolding lent_update_list_call update_list_call lent_update_call update_call
lent_same k r words w n h = rw (eq-eqb (length r.head.lens) max_layers h.lens, eq-eqb (length r.head.flags) max_layers h.flags) refl

-- ---- a fresh relay that takes the book in any order

module _ (sh : Shape) (v : shape_refusal sh ≡ 0) (r : Relay) (x : LentBy sh r.book r.lends) where
  alone : (b : Book) → Reordered r.book b → Alone sh r b
  alone b o =
      record {
        lends = took.0;
        accepted = took.1;
        holds = holds_reordered sh r.book b took.0 o (subst (Holds sh b) (sym took.2.is) (holds_by sh b took.2.state took.2.by));
        same = subst (λ (z : Lent). SameValues took.0 z) (sym x.is)
            (subst (λ (z : Lent). SameValues z (flat x.state)) (sym took.2.is) (same_values sh (accepted_of sh v) r.book b x.state took.2.state x.by took.2.by o));
      }
    where
      took : (t : Lent) × (takes (fresh_lent sh) b ≡ Outcome.yes t) × LentBy sh b t
      took =
          takes_all sh v (book_mode r.book) b [] (fresh_lent sh) (lent-fresh sh v) tt (reordered_all (OfMode (book_mode r.book)) o x.by.kinds) (reordered_all (Fitting sh) o x.by.words)
          (subst Within (reordered_totals o ∙ totals_append [] b) x.by.within)

  pub claimed : Claimed sh r
  unfolding flat
  claimed =
      record {
        formed = subst (Formed sh) (sym x.is) (formed_by sh v r.book x.state x.by);
        holds = subst (Holds sh r.book) (sym x.is) (holds_by sh r.book x.state x.by);
        mode = ap (λ (z : Lent). z.head.mode) x.is ∙ x.by.mode;
        alone = alone;
        feeds = feed_list-answers sh v r.book r.lends x;
        lent = λ f. lent_same f.kind r.lends f.words f.weight (length f.list) (subst (λ (z : Lent). Headed z.head) (sym x.is) (headed_by x.state x.by.sized));
        answered = ap (λ (a : Answer). a.refusal) call;
        counted = λ one few.
            record {
              answered = call ∙ ap (answer 0) (counts sh v r.book (view r.lends) by one few);
              exact = int-value (pos (distinct (book_keys r.book))) (omega (arith, few, (accepted_of sh v).small));
            };
        kinds = λ e f m n. same_kind e.kind f.kind (all-at (OfMode (book_mode r.book)) r.book by.kinds e m ∙ sym (all-at (OfMode (book_mode r.book)) r.book by.kinds f n));
        light = by.within.light;
        few = by.within.few;
      }
    where
      by : RelayBy sh r.book (view r.lends)
      by = lent_view sh r.book r.lends x

      call : cardinality_call r.lends ≡ answer 0 (cardinality_of (view r.lends))
      call = card_call sh v r.book r.lends x
