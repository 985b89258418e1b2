-- No text of a state comes near 2^63 bytes. Assumes nothing.
use mathlib.Core.Path.{◌≡◌, ap}
use mathlib.Core.Bool.{Bool, true, false, cond}
use mathlib.Core.List.{List, [], ◌∷◌, ◌++◌, append_assoc}
use Prim.Native.Nat.{ℕ, zero, suc, ◌+◌, ◌*◌, ◌≤◌, ◌<◌}
use native.Mathlib.Nat.{suc-mul, mul-le-mul, min-le_left}
use native.Mathlib.Omega.{arith}
use lib.ListN.{length, take, drop, length-append, length-take}
use lib.IntN.{ℤ}
use Rattle.words.specs.Lists.{All}
use Rattle.text.specs.Words.{bytes_of}
use Rattle.text.specs.Decimals.{dec}
use Rattle.text.specs.Signs.{signed_dec}
use Rattle.text.proofs.DecTexts.{dec-length}
use Rattle.text.proofs.IntTexts.{signed-length}
use Rattle.heap_moves.specs.Cands.{Cand}
use Rattle.state_forms.specs.Formats.{num}
use Rattle.state_forms.specs.Sparse.{Listing, sparse_text}
use Rattle.state_forms.specs.Grammar.{line_end, cell_format, cell_listing, row_format, row_listing, rows_of, key_format, keys_text, flag_number, flag_format, Page, Frame, page_format, pages_text, first_format, num_line, head_format}
use Rattle.state_forms.specs.Whole.{First, doc_text}
use Rattle.state_forms.specs.inner.Laying.{TextRoom, one_text}
use Rattle.state_forms.proofs.Layings.{one_text-step, cell_join, five_long, row-join, six_long, key-join, eight_long, flag-join, three_long, four_long}
use Rattle.header.specs.Header.{mode_number}
use Rattle.layer.specs.declared.Dims.{Dims}
use Rattle.layout.specs.State.{layer_at}
use Rattle.layout.specs.Slices.{Lent, view}
use Rattle.layout.specs.inner.Needs.{Standing}
use Rattle.state_text.proofs.Cuts.{rows_long}
use Rattle.state_text.specs.Pages.{page_of, frame_of, dims_of, first_of, pages_of, others_of, text_of}

-- ---- one form

num-most : (stop n : ℕ) → length ((num stop).write n) ≤ 21
num-most stop n = omega (arith, length-append (dec n) (stop ∷ []), dec-length n)

cell-most : (c : ℕ) (v : ℤ) → length (cell_format.write (c, v)) ≤ 45
cell-most c v = omega (arith, five_long (bytes_of " (") (dec c) (32 ∷ []) (signed_dec v) (41 ∷ []) (cell_format.write (c, v)) (cell_join c v), dec-length c, signed-length v)

key-most : (l : ℕ) (c : Cand) → length ((key_format l).write c) ≤ 133
key-most l c =
    let n = num-most 32 in
    omega (
      arith,
      eight_long (bytes_of "(key ") ((num 32).write l) ((num 32).write c.item.key) ((num 32).write c.item.bottom) ((num 32).write c.item.high) ((num 32).write c.item.low) (signed_dec c.count) line_end ((key_format l).write c) (key-join l c),
      n l,
      n c.item.key,
      n c.item.bottom,
      n c.item.high,
      n c.item.low,
      signed-length c.count,
    )

flag-most : (l : ℕ) (f : Bool) → length ((flag_format l).write f) ≤ 49
flag-most l f = omega (arith, four_long (bytes_of "(flag ") ((num 32).write l) ((num 41).write (flag_number f)) (10 ∷ []) ((flag_format l).write f) (flag-join l f), num-most 32 l, num-most 41 (flag_number f))

-- ---- sparse lists

one-most : {A : Type 0} (m : Listing A) (i k : ℕ) (x : A) → length (m.form.write (i, x)) ≤ k → length (one_text m i x) ≤ k
one-most m i k x h = go (m.none x)
  where
    go : (b : Bool) → length (cond b [] (m.form.write (i, x))) ≤ k
    go true = omega arith
    go false = h

sparse_most : {A : Type 0} (m : Listing A) (Few : A → Type 0) (k : ℕ) → ((i : ℕ) (x : A) → Few x → length (m.form.write (i, x)) ≤ k) → (i : ℕ) (xs : List A) → All Few xs → length (sparse_text m i xs) ≤ length xs * k
unfolding sparse_text
sparse_most m Few k h i [] a = omega arith
sparse_most m Few k h i (x ∷ xs) a =
    omega (arith, ap length (one_text-step m i x xs), length-append (one_text m i x) (sparse_text m (suc i) xs), one-most m i k x (h i x a.0), sparse_most m Few k h (suc i) xs a.1, suc-mul (length xs) k)

free : (xs : List ℤ) → All (λ _. Unit {0}) xs
free [] = tt
free (x ∷ xs) = (tt, free xs)

row-most : (l cols r : ℕ) (xs : List ℤ) → length xs ≤ cols → length ((row_format l cols).write (r, xs)) ≤ 48 + cols * 45
row-most l cols r xs h =
    let c = sparse_most cell_listing (λ _. Unit {0}) 45 (λ i v u. cell-most i v) 0 xs (free xs) in
    let m : length xs * 45 ≤ cols * 45 = omega arith in
    omega (arith, six_long (bytes_of "(row ") (dec l) (32 ∷ []) (dec r) (sparse_text cell_listing 0 xs) line_end ((row_format l cols).write (r, xs)) (row-join l cols r xs), dec-length l, dec-length r, c, m)

rows_few : (cols n : ℕ) (xs : List ℤ) → All (λ r. length r ≤ cols) (rows_of cols n xs)
unfolding rows_of
rows_few cols zero xs = tt
rows_few cols (suc n) xs = (omega (arith, length-take cols xs, min-le_left cols (length xs)), rows_few cols n (drop cols xs))

pub rows-most : (l rows cols : ℕ) (xs : List ℤ) → length (sparse_text (row_listing l cols) 0 (rows_of cols rows xs)) ≤ rows * (48 + cols * 45)
rows-most l rows cols xs =
    let s = sparse_most (row_listing l cols) (λ r. length r ≤ cols) (48 + cols * 45) (λ i r h. row-most l cols i r h) 0 (rows_of cols rows xs) (rows_few cols rows xs) in
    omega (arith, s, ap (λ (n : ℕ). n * (48 + cols * 45)) (rows_long cols rows xs))

pub keys-most : (l : ℕ) (cs : List Cand) → length (keys_text l cs) ≤ length cs * 133
unfolding keys_text
keys-most l [] = omega arith
keys-most l (c ∷ cs) = omega (arith, length-append ((key_format l).write c) (keys_text l cs), key-most l c, keys-most l cs)

-- ---- the first lines

pub first_join : (f : First) → ((((bytes_of "(univmon " ++ (num 32).write f.0) ++ (num 32).write f.1.0) ++ (num 32).write f.1.1.0) ++ (num 41).write f.1.1.1) ++ (10 ∷ []) ≡ first_format.write f
first_join f = simp append_assoc

pub line-join : (w : List ℕ) (most n : ℕ) → (w ++ (num 41).write n) ++ (10 ∷ []) ≡ (num_line w most).write n
line-join w most n = simp append_assoc

pub head-join : (w u m : ℕ) → ((num_line (bytes_of "(weight ") 0).write w ++ (num_line (bytes_of "(updates ") 0).write u) ++ (num_line (bytes_of "(mode ") 0).write m ≡ head_format.write (w, (u, m))
head-join w u m = append_assoc ((num_line (bytes_of "(weight ") 0).write w) ((num_line (bytes_of "(updates ") 0).write u) ((num_line (bytes_of "(mode ") 0).write m)

pub first_long : (f : First) → 9 + length ((num 32).write f.0) + length ((num 32).write f.1.0) + length ((num 32).write f.1.1.0) + length ((num 41).write f.1.1.1) + 1 ≡ length (first_format.write f)
first_long f = six_long (bytes_of "(univmon ") ((num 32).write f.0) ((num 32).write f.1.0) ((num 32).write f.1.1.0) ((num 41).write f.1.1.1) (10 ∷ []) (first_format.write f) (first_join f)

pub line-long : (w : List ℕ) (n : ℕ) → length w + length ((num 41).write n) + 1 ≡ length ((num_line w 0).write n)
line-long w n = three_long w ((num 41).write n) (10 ∷ []) ((num_line w 0).write n) (line-join w 0 n)

pub head-long : (w u m : ℕ) → length ((num_line (bytes_of "(weight ") 0).write w) + length ((num_line (bytes_of "(updates ") 0).write u) + length ((num_line (bytes_of "(mode ") 0).write m) ≡ length (head_format.write (w, (u, m)))
head-long w u m = three_long ((num_line (bytes_of "(weight ") 0).write w) ((num_line (bytes_of "(updates ") 0).write u) ((num_line (bytes_of "(mode ") 0).write m) (head_format.write (w, (u, m))) (head-join w u m)

first_most : (f : First) → length (first_format.write f) ≤ 94
first_most f = omega (arith, first_long f, num-most 32 f.0, num-most 32 f.1.0, num-most 32 f.1.1.0, num-most 41 f.1.1.1)

head-most : (w u m : ℕ) → length (head_format.write (w, (u, m))) ≤ 100
head-most w u m = omega (arith, head-long w u m, line-long (bytes_of "(weight ") w, line-long (bytes_of "(updates ") u, line-long (bytes_of "(mode ") m, num-most 41 w, num-most 41 u, num-most 41 m)

-- ---- layers: up to 20 rows of 65,536 columns and 1,024 candidates

page_most : (k : Frame) (l rows cols len : ℕ) (f : Bool) (xs : List ℤ) (cs : List Cand) → rows ≤ 20 → cols ≤ 65536 → len ≤ 1024
    → length ((page_format k l).write (record { flag = f; rows = rows_of cols rows xs; keys = take len cs })) ≤ 49 + (rows * (48 + cols * 45) + length (take len cs) * 133)
    → length ((page_format k l).write (record { flag = f; rows = rows_of cols rows xs; keys = take len cs })) ≤ 100000000
page_most k l rows cols len f xs cs a b c h =
    let w : 48 + cols * 45 ≤ 2949168 = omega arith in
    let m : rows * (48 + cols * 45) ≤ 20 * 2949168 = mul-le-mul a w in
    let t : length (take len cs) ≤ 1024 = omega (arith, length-take len cs, min-le_left len (length cs)) in
    omega (arith, h, m, t)

page_parts : (k : Frame) (l : ℕ) (p : Page) → length ((page_format k l).write p) ≡ length ((flag_format l).write p.flag) + (length (sparse_text (row_listing l k.cols) 0 p.rows) + length (keys_text l p.keys))
page_parts k l p =
    omega (arith, length-append ((flag_format l).write p.flag) (sparse_text (row_listing l k.cols) 0 p.rows ++ keys_text l p.keys), length-append (sparse_text (row_listing l k.cols) 0 p.rows) (keys_text l p.keys))

module _ (r : Lent) (z : Standing r) where
  abbrev d : Dims
  d = dims_of r.head.shape

  layer-most : (l : ℕ) → l < r.head.shape.layers → length ((page_format (frame_of d) l).write (page_of d (layer_at (view r) l))) ≤ 100000000
  unfolding layer_at view
  layer-most l h =
      let y = layer_at (view r) l in
      page_most (frame_of d) l d.rows d.cols y.table.len y.flag y.sketch.cells y.table.cands z.accepted.mouse.few (omega (arith, z.accepted.mouse.wide)) (omega (arith, z.lens l h, z.accepted.small))
      (omega (arith, page_parts (frame_of d) l (page_of d y), flag-most l y.flag, rows-most l d.rows d.cols y.sketch.cells, keys-most l (take y.table.len y.table.cands)))

  layers-most : (n l : ℕ) → l + n ≤ r.head.shape.layers → length (pages_text (frame_of d) l (pages_of (view r) n l)) ≤ n * 100000000
  unfolding pages_text pages_of view
  layers-most zero l h = omega arith
  layers-most (suc n) l h =
      omega (
        arith,
        length-append ((page_format (frame_of d) l).write (page_of d (layer_at (view r) l))) (pages_text (frame_of d) (suc l) (pages_of (view r) n (suc l))),
        layer-most l (omega arith),
        layers-most n (suc l) (omega arith),
      )

  pub text-room : TextRoom 0 (text_of (view r))
  unfolding text_of others_of doc_text view
  text-room =
      let f = first_of r.head.shape in
      let w = r.head.totals.weight in
      let u = r.head.totals.updates in
      let m = mode_number r.head.mode in
      let ps = pages_of (view r) r.head.shape.layers 0 in
      omega (
        arith,
        length-append (first_format.write f) (head_format.write (w, (u, m)) ++ pages_text (frame_of d) 0 ps),
        length-append (head_format.write (w, (u, m))) (pages_text (frame_of d) 0 ps),
        first_most f,
        head-most w u m,
        layers-most r.head.shape.layers 0 (omega arith),
        z.accepted.few,
      )
