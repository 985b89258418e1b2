-- "A checked state is restored exactly, and the reader accepts only text that the writer gives.": the statements stand in specs/Restored.antt. Assumes nothing.
use mathlib.Core.Path.{◌≡◌, refl, sym, ap, subst, ◌∙◌}
use mathlib.Core.Bool.{Bool, true, false, cond, not}
use mathlib.Core.List.{List}
use Prim.Native.Nat.{ℕ, ◌+◌, ◌*◌, ◌≤◌, ◌<◌}
use native.Mathlib.Omega.{arith}
use native.Mathlib.Decide.{dec_lt}
use lib.ListN.{length, get_or, take}
use lib.Seq.{sets}
use lib.Dec.{eqb, ltb}
use lib.IntN.{ℤ}
use borrow.Author.Tests.{eq-eqb, eqb-true, le-leb, le-ltb, ltb-false}
use Rattle.words.specs.Num.{top, word_size}
use Rattle.words.proofs.Bools.{never, both}
use Rattle.words.proofs.Parts.{part_at}
use Rattle.text.specs.Decimals.{Word}
use Rattle.heap_moves.specs.Cands.{no_cand}
use Rattle.heap_moves.specs.Flat.{cands_of}
use Rattle.heap_moves.proofs.Views.{cand_at, length-cands}
use Rattle.header.specs.declared.Shape.{Shape}
use Rattle.header.specs.Shape.{shape_refusal}
use Rattle.header.specs.OneTier.{OneTiered}
use Rattle.header.specs.Header.{mode_number}
use Rattle.header.specs.inner.Accepted.{Accepted}
use Rattle.header.proofs.Modes.{mode-back, mode-few}
use Rattle.header.proofs.Refusals.{accepted_of}
use Rattle.header.proofs.OneTier.{is-one-tier}
use Rattle.layer.specs.declared.Dims.{Dims}
use Rattle.layout.specs.State.{cand_off, layer_at}
use Rattle.layout.specs.Slices.{Lent, lengths_ok, view, flat}
use Rattle.layout.specs.Outcomes.{Left, left}
use Rattle.layout.proofs.Flatten.{flat_view, view-flat}
use Rattle.layout.proofs.OneTier.{dims-alike}
use Rattle.state_check.specs.Reached.{Passing}
use Rattle.state_check.proofs.Whole.{Whole, past}
use Rattle.state_check.proofs.WholeStates.{WholeState, state-whole, state_pass, ok-lengths, ok-standing}
use Rattle.state_forms.specs.Formats.{Got, got, bad}
use Rattle.state_forms.specs.Grammar.{Frame, first_format, others_format}
use Rattle.state_forms.specs.Whole.{First, Others, others_r}
use Rattle.state_forms.proofs.Exactness.{got_value}
use Rattle.state_forms.proofs.Layings.{put-part}
use Rattle.state_forms.proofs.Docs.{first_back, others-back, doc_only}
use Rattle.state_text.specs.Pages.{page_of, layer_from, frame_of, first_of, shape_from, dims_of, others_of, text_of, state_from}
use Rattle.state_text.specs.Calls.{copied, not_copied, has_text, write_call, unread, after_others, after_first, read_call}
use Rattle.state_text.specs.Restored.{Checked, SameLengths, RestoredExactly, WrittenFor, OnlyWritten, TextsDiffer, CarriedHome, WrittenAgain}
use Rattle.state_text.proofs.PageLaws.{WordsOf, page_back, page_of_in}
use Rattle.state_text.proofs.Alike.{alike}
use Rattle.state_text.proofs.Built.{page_at, pages_long, pages_in, built_whole, built_shape, built_totals, built_mode, built_layer, built_text}

pub small : (sh : Shape) → Accepted sh → Word sh.mouse_cols × (Word sh.mouse_rows × (Word sh.layers × Word sh.heap_size))
small sh a = (omega (arith, a.mouse.wide), (omega (arith, a.mouse.few), (omega (arith, a.few), omega (arith, a.small))))

-- ---- only written texts are accepted

after-others : (q : Lent) (t u : List ℕ) (f : First) → first_format.read t ≡ got f u → shape_refusal (shape_from f) ≡ 0
    → (g : Got Others) → others_r (frame_of (dims_of (shape_from f))) f.1.1.1 u ≡ g → (after_others q (shape_from f) g).refusal ≡ 0 → WrittenFor t (after_others q (shape_from f) g).lends
unfolding after_others flat
after-others q t u f p v bad r e = absurd (omega (arith, e))
after-others q t u f p v (got d x) r e =
    let sh = shape_from f in
    let k = small sh (accepted_of sh v) in
    let o = doc_only (frame_of (dims_of sh)) f t u d x k.0 k.1.0 p r in
    let w = built_whole sh refl v d o.0 in
    record {
      tier = subst OneTiered (sym (built_shape sh refl v d o.0)) refl;
      passing = record { arrays = record { flags = w.sized.flags; lens = w.sized.lens }; ok = state_pass (state_from sh d) w };
      text = ap text_of (view-flat (state_from sh d) w.sized) ∙ built_text sh refl v d o.0 ∙ sym o.1;
    }

after_first_lem : (q : Lent) (t u : List ℕ) (f : First) → first_format.read t ≡ got f u → (after_first q (got f u)).refusal ≡ 0 → WrittenFor t (after_first q (got f u)).lends
unfolding after_first
after_first_lem q t u f p e = go (eqb (shape_refusal (shape_from f)) 0) refl (lengths_ok (shape_from f) (length q.counters) (length q.norms) (length q.entries) (length q.counts)) e
  where
    last : Left
    last = after_others q (shape_from f) (others_r (frame_of (dims_of (shape_from f))) f.1.1.1 u)

    go : (b : Bool) → eqb (shape_refusal (shape_from f)) 0 ≡ b → (c : Bool) → (cond (not b) (unread (shape_refusal (shape_from f)) q) (cond (not c) (unread 16 q) last)).refusal ≡ 0
        → WrittenFor t (cond (not b) (unread (shape_refusal (shape_from f)) q) (cond (not c) (unread 16 q) last)).lends
    go false z c e = absurd (never (sym z ∙ eq-eqb (shape_refusal (shape_from f)) 0 e))
    go true z false e = absurd (omega (arith, e))
    go true z true e = after-others q t u f p (eqb-true (shape_refusal (shape_from f)) 0 z) (others_r (frame_of (dims_of (shape_from f))) f.1.1.1 u) refl e

pub only_written : OnlyWritten
unfolding read_call after_first
only_written t q e = go (first_format.read t) refl e
  where
    go : (g : Got First) → first_format.read t ≡ g → (after_first q g).refusal ≡ 0 → WrittenFor t (after_first q g).lends
    go bad p e = absurd (omega (arith, e))
    go (got f u) p e = after_first_lem q t u f p e

-- ---- a written text is accepted, and gives its state

words-at : (es : List ℕ) (ns : List ℤ) → ((k : ℕ) → get_or es k 0 < word_size) → (j : ℕ) → WordsOf (get_or (cands_of es ns) j no_cand)
words-at es ns w j = go (dec_lt j (length ns))
  where
    go : Dec (j < length ns) → WordsOf (get_or (cands_of es ns) j no_cand)
    go (yes h) = subst WordsOf (sym (cand_at es ns j h)) (record { key = w (4 * j); bottom = w (4 * j + 1); high = w (4 * j + 2); low = w (4 * j + 3) })
    go (no h) =
        let l = length-cands es ns in
        subst WordsOf (sym (past no_cand (cands_of es ns) j (omega (arith, l, h)))) (record { key = omega arith; bottom = omega arith; high = omega arith; low = omega arith })

module _ (r : Lent) (b : Checked r) where
  abbrev sh : Shape
  sh = r.head.shape

  abbrev k : Frame
  k = frame_of (dims_of sh)

  whole : WholeState (view r)
  whole = state-whole r b.passing.arrays b.passing.ok

  good : shape_refusal sh ≡ 0
  unfolding view
  good = whole.shape

  -- its layers have the shape's rows and columns
  layer-whole : (m : ℕ) → m < sh.layers → Whole (dims_of sh) (layer_at (view r) m)
  unfolding view
  layer-whole m h = subst (λ (q : Dims). Whole q (layer_at (view r) m)) (dims-alike sh b.tier m) (whole.layers m h)

  layer-words : (m : ℕ) → m < sh.layers → (i : ℕ) → i < (layer_at (view r) m).table.len → WordsOf (get_or (layer_at (view r) m).table.cands i no_cand)
  unfolding layer_at view
  layer-words m h i q =
      let n : i < sh.heap_size = omega (arith, q, (whole.layers m h).table.used) in
      subst WordsOf (sym (part_at (cand_off sh m) sh.heap_size i (cands_of r.entries r.counts) no_cand n)) (words-at r.entries r.counts b.words.entries (cand_off sh m + i))

  others_in : (others_format k sh.layers).In (others_of (view r))
  unfolding others_of view
  others_in = (
    (
      (omega (arith, whole.totals.light), le-leb r.head.totals.weight top whole.totals.light),
      (
        (omega (arith, whole.totals.few), le-leb r.head.totals.updates top whole.totals.few),
        (omega (arith, mode-few r.head.mode), le-leb (mode_number r.head.mode) 2 (mode-few r.head.mode)),
      ),
    ),
    (
      pages_long (view r) sh.layers 0,
      pages_in k (view r) sh.layers 0 (λ m x y. page_of_in (dims_of sh) (layer_at (view r) m) (layer-whole m (omega arith)) m (layer-words m (omega arith))),
    ),
  )

  first_in : first_format.In (first_of sh)
  first_in = let a = small sh (accepted_of sh good) in (a.1.1.1, (a.1.0, (a.0, a.1.1.0)))

  rebuilt : state_from sh (others_of (view r)) ≡ view r
  unfolding others_of view
  rebuilt =
      let d = others_of (view r) in
      let n = built_whole sh b.tier good d others_in in
      let s = built_shape sh b.tier good d others_in in
      alike (view r) (state_from sh d) whole.sized n.sized
      (record {
        head =
            record {
              shape = s;
              totals = built_totals sh b.tier good d others_in;
              mode = built_mode sh b.tier good d others_in ∙ mode-back r.head.mode;
              past_lens = λ m h. n.past_lens m (omega (arith, h, ap (λ (q : Shape). q.layers) s)) ∙ sym (whole.past_lens m h);
              past_flags = λ m h. n.past_flags m (omega (arith, h, ap (λ (q : Shape). q.layers) s)) ∙ sym (whole.past_flags m h);
            };
        layers = λ m h. built_layer sh b.tier good d others_in m h ∙ ap (layer_from (dims_of sh)) (page_at (view r) sh.layers 0 m h ∙ zero-plus m) ∙ page_back (dims_of sh) (layer_at (view r) m) (layer-whole m h);
      })
    where
      zero-plus : (m : ℕ) → page_of (dims_of sh) (layer_at (view r) (0 + m)) ≡ page_of (dims_of sh) (layer_at (view r) m)
      zero-plus m = let z : 0 + m ≡ m = omega arith in ap (λ (n : ℕ). page_of (dims_of sh) (layer_at (view r) n)) z

  -- the first line gives the shape
  first-of : first_format.read (text_of (view r)) ≡ got (first_of sh) ((others_format k sh.layers).write (others_of (view r)))
  unfolding text_of view
  first-of = first_back k (first_of sh) (others_of (view r)) first_in

  restored : (q : Lent) → SameLengths r q → read_call (text_of (view r)) q ≡ left 0 r
  unfolding read_call after_first after_others
  restored q l =
      let a = small sh (accepted_of sh good) in
      let g : shape_refusal (shape_from (first_of sh)) ≡ 0 = ap shape_refusal b.tier ∙ good in
      let n : lengths_ok (shape_from (first_of sh)) (length q.counters) (length q.norms) (length q.entries) (length q.counts) ≡ true =
      ap (λ (x : Shape). lengths_ok x (length q.counters) (length q.norms) (length q.entries) (length q.counts)) b.tier ∙ l in
      rw (first-of, eq-eqb (shape_refusal (shape_from (first_of sh))) 0 g, n, others-back k sh.layers (others_of (view r)) a.0 a.1.0 a.1.1.0 others_in)
      (ap (left 0) (ap (λ (x : Shape). flat (state_from x (others_of (view r)))) b.tier ∙ ap flat rebuilt ∙ flat_view r (ok-standing r b.passing.ok) b.words.norms))

pub restored_exactly : RestoredExactly
restored_exactly r q b l = restored r b q l

-- ---- so two different checked states have different texts

pub texts_differ : TextsDiffer
texts_differ r q b c e =
    let f : first_of r.head.shape ≡ first_of q.head.shape = got_value (sym (first-of r b) ∙ ap (λ (t : List ℕ). first_format.read t) e ∙ first-of q c) in
    let s : r.head.shape ≡ q.head.shape = sym b.tier ∙ ap shape_from f ∙ c.tier in
    let l : SameLengths r q = subst (λ (sh : Shape). lengths_ok sh (length q.counters) (length q.norms) (length q.entries) (length q.counts) ≡ true) (sym s) (ok-lengths q c.passing.ok) in
    ap (λ (a : Left). a.lends) (sym (restored r b q l) ∙ ap (λ (t : List ℕ). read_call t q) e ∙ restored q c q (ok-lengths q c.passing.ok))

-- ---- the two calls, one after the other

has-text : (r : Lent) → OneTiered r.head.shape → Passing r → has_text r ≡ true
has-text r o p = both p.ok (is-one-tier r.head.shape o)

module _ (r : Lent) (out : List ℕ) (ok : has_text r ≡ true) where
  abbrev t : List ℕ
  t = text_of (view r)

  -- a state that has a text, and room for it
  room_writes : length t ≤ length out → write_call r out ≡ copied (record { refusal = 0; bytes = length t }) (sets out 0 t)
  unfolding write_call
  room_writes h = rw (ok, le-ltb (length out) (length t) h)

  -- the writer answers 0 only where there is room
  zero_room : (write_call r out).answer.refusal ≡ 0 → length t ≤ length out
  unfolding write_call
  zero_room e = go (ltb (length out) (length t)) refl (rw ok at e)
    where
      go : (b : Bool) → ltb (length out) (length t) ≡ b → (cond b (not_copied 16 out) (copied (record { refusal = 0; bytes = length t }) (sets out 0 t))).answer.refusal ≡ 0 → length t ≤ length out
      go true p e = absurd (omega (arith, e))
      go false p e = ltb-false (length out) (length t) p

  pub text-left : (write_call r out).answer.refusal ≡ 0 → take (write_call r out).answer.bytes (write_call r out).out ≡ t
  text-left e =
      let h = zero_room e in
      rw (room_writes h) (put-part out t (sets out 0 t) (length t) h refl (omega arith))

pub carried_home : CarriedHome
carried_home r q out b l e = ap (λ (t : List ℕ). read_call t q) (text-left r out (has-text r b.tier b.passing) e) ∙ restored r b q l

pub written_again : WrittenAgain
written_again t q out e h =
    let w = only_written t q e in
    subst (λ (s : List ℕ). write_call (read_call t q).lends out ≡ copied (record { refusal = 0; bytes = length s }) (sets out 0 s)) w.text
    (room_writes (read_call t q).lends out (has-text (read_call t q).lends w.tier w.passing) (subst (λ (s : List ℕ). length s ≤ length out) (sym w.text) h))
