-- The tests of a shape, and what an accepted one holds. Assumes nothing.
use mathlib.Core.Path.{◌≡◌, refl, sym}
use mathlib.Core.Bool.{Bool, true, false, cond, ◌&&◌, ◌||◌}
use Prim.Native.Nat.{ℕ, ◌+◌, ◌*◌, ◌/◌, ◌≤◌}
use native.Mathlib.Nat.{mul-le-mul}
use native.Mathlib.Omega.{arith}
use borrow.Author.Tests.{eqb-true, eqb-false, ltb-false, ne_eqb, le-ltb, leb-true, ltb-true}
use lib.Dec.{eqb, leb, ltb}
use Rattle.matrix_storage.specs.Bits.{max_rows, max_cols, hash_bits, mask_bits}
use Rattle.matrix_storage.specs.Calls.{bits_refusal}
use Rattle.matrix_storage.specs.inner.Shaped.{Shaped}
use Rattle.matrix_storage.proofs.Log2.{mask_within}
use Rattle.matrix_storage.proofs.Refusals.{shaped_of}
use Rattle.words.proofs.Bools.{and_left, and_right, or-false, or_first}
use Rattle.header.specs.Shape.{max_layers, max_heap, empty_tier, bits_above, tier_above, shape_refusal, checked_shape}
use Rattle.header.specs.inner.Accepted.{Accepted}
use Rattle.header.specs.declared.Shape.{Shape}
use Rattle.refusal.specs.Refusals.{Answer}

-- ---- one tier's rows and columns

-- the hash bits of tiers that are alike are asked once
pub bits-once : (rows cols rows' cols' : ℕ) → (rows' ≡ rows) × (cols' ≡ cols) → bits_above rows' cols' ≡ false → false ≡ bits_above rows cols || bits_above rows' cols'
bits-once rows cols rows' cols' e b = or_first (bits_above rows cols) (bits_above rows' cols') false (sym (rw (e.0, e.1) at b)) b

some_eqb : (n : ℕ) → 1 ≤ n → eqb n 0 ≡ false
some_eqb n h = ne_eqb n 0 (λ e. omega arith)

-- rows and columns that no test refuses
tier-shaped : (rows cols : ℕ) → empty_tier rows cols ≡ false → bits_above rows cols ≡ false → tier_above rows cols ≡ false → Shaped rows cols
unfolding bits_refusal
tier-shaped rows cols none bits above = shaped_of rows cols (rw (none, bits, above))

-- and the other way: no test refuses rows and columns that are shaped
some-row-col : (rows cols : ℕ) → Shaped rows cols → empty_tier rows cols ≡ false
some-row-col rows cols s = rw (some_eqb rows s.tall, some_eqb cols s.some)

few_bits : (rows cols : ℕ) → Shaped rows cols → bits_above rows cols ≡ false
few_bits rows cols s = le-ltb hash_bits ((mask_bits cols + 1) * rows) s.bits

in_domain : (rows cols : ℕ) → Shaped rows cols → tier_above rows cols ≡ false
in_domain rows cols s = rw (le-ltb max_rows rows s.few, le-ltb max_cols cols s.wide)

-- columns of the domain take at most 12 bits and a sign in each row: as many rows as have the bits for that are shaped
abbrev most_usual : ℕ
most_usual = hash_bits / (12 + 1)

pub rows-shaped : (rows cols : ℕ) → ltb 0 rows && leb rows most_usual && ltb 0 cols && leb cols max_cols ≡ true → Shaped rows cols
rows-shaped rows cols t =
    let three = and_left (ltb 0 rows && leb rows most_usual && ltb 0 cols) (leb cols max_cols) t in
    let two = and_left (ltb 0 rows && leb rows most_usual) (ltb 0 cols) three in
    let few : rows ≤ most_usual = leb-true rows most_usual (and_right (ltb 0 rows) (leb rows most_usual) two) in
    let some : 1 ≤ cols = ltb-true 0 cols (and_right (ltb 0 rows && leb rows most_usual) (ltb 0 cols) three) in
    let wide : cols ≤ max_cols = leb-true cols max_cols (and_right (ltb 0 rows && leb rows most_usual && ltb 0 cols) (leb cols max_cols) t) in
    let bits : mask_bits cols + 1 ≤ 12 + 1 = omega (arith, mask_within 12 cols (omega arith) some wide) in
    record {
      tall = ltb-true 0 rows (and_left (ltb 0 rows) (leb rows most_usual) two);
      few = omega arith;
      some = some;
      wide = wide;
      bits = omega (arith, mul-le-mul bits few);
    }

-- ---- the four tests of a shape

module _ (sh : Shape) where
  abbrev elephants_none : Bool
  elephants_none = empty_tier sh.elephant_rows sh.elephant_cols

  abbrev mice_none : Bool
  mice_none = empty_tier sh.mouse_rows sh.mouse_cols

  abbrev pub zero_test : Bool
  zero_test = eqb sh.heap_size 0 || (eqb sh.layers 0 || (elephants_none || mice_none))

  abbrev pub layers_test : Bool
  layers_test = ltb max_layers sh.layers || ltb max_layers sh.elephant_layers

  abbrev pub bits_test : Bool
  bits_test = bits_above sh.elephant_rows sh.elephant_cols || bits_above sh.mouse_rows sh.mouse_cols

  abbrev mice_above : Bool
  mice_above = tier_above sh.mouse_rows sh.mouse_cols || ltb max_heap sh.heap_size

  abbrev pub domain_test : Bool
  domain_test = tier_above sh.elephant_rows sh.elephant_cols || mice_above

  -- no dimension is 0
  record NoZero : Type 0 where
    heap : eqb sh.heap_size 0 ≡ false
    layers : eqb sh.layers 0 ≡ false
    elephants : elephants_none ≡ false
    mice : mice_none ≡ false

  no_zero : zero_test ≡ false → NoZero
  no_zero e =
      let first = or-false (eqb sh.heap_size 0) (eqb sh.layers 0 || (elephants_none || mice_none)) e in
      let second = or-false (eqb sh.layers 0) (elephants_none || mice_none) first.1 in
      let third = or-false elephants_none mice_none second.1 in
      record { heap = first.0; layers = second.0; elephants = third.0; mice = third.1 }

  -- so no tier is without columns
  pub some-cols : zero_test ≡ false → (1 ≤ sh.elephant_cols) × (1 ≤ sh.mouse_cols)
  some-cols e =
      let n = no_zero e in (
        omega (arith, eqb-false sh.elephant_cols 0 (or-false (eqb sh.elephant_rows 0) (eqb sh.elephant_cols 0) n.elephants).1),
        omega (arith, eqb-false sh.mouse_cols 0 (or-false (eqb sh.mouse_rows 0) (eqb sh.mouse_cols 0) n.mice).1),
      )

  -- the first test that holds says the number
  pub refusal_is : (a b c d : Bool) → zero_test ≡ a → (a ≡ false → layers_test ≡ b) → (a || b ≡ false → bits_test ≡ c) → (a || b || c ≡ false → domain_test ≡ d)
      → cond a 1 (cond b 2 (cond c 3 (cond d 4 0))) ≡ shape_refusal sh
  unfolding shape_refusal
  refusal_is true b c d p q r s = rw p
  refusal_is false true c d p q r s = rw (p, q refl)
  refusal_is false false true d p q r s = rw (p, q refl, r refl)
  refusal_is false false false d p q r s = rw (p, q refl, r refl, s refl)

  none-holds : (a b c d : Bool) → ◌≡◌ {A = ℕ} (cond a 1 (cond b 2 (cond c 3 (cond d 4 0)))) 0 → (a ≡ false) × ((b ≡ false) × ((c ≡ false) × (d ≡ false)))
  none-holds true b c d z = absurd (omega arith)
  none-holds false true c d z = absurd (omega arith)
  none-holds false false true d z = absurd (omega arith)
  none-holds false false false true z = absurd (omega arith)
  none-holds false false false false z = (refl, (refl, (refl, refl)))

  pub accepted_of : shape_refusal sh ≡ 0 → Accepted sh
  unfolding shape_refusal
  accepted_of e =
      let n = none-holds zero_test layers_test bits_test domain_test e in
      let zeros = no_zero n.0 in
      let layers = or-false (ltb max_layers sh.layers) (ltb max_layers sh.elephant_layers) n.1.0 in
      let bits = or-false (bits_above sh.elephant_rows sh.elephant_cols) (bits_above sh.mouse_rows sh.mouse_cols) n.1.1.0 in
      let above = or-false (tier_above sh.elephant_rows sh.elephant_cols) mice_above n.1.1.1 in
      let mice = or-false (tier_above sh.mouse_rows sh.mouse_cols) (ltb max_heap sh.heap_size) above.1 in
      record {
        elephant = tier-shaped sh.elephant_rows sh.elephant_cols zeros.elephants bits.0 above.0;
        mouse = tier-shaped sh.mouse_rows sh.mouse_cols zeros.mice bits.1 mice.0;
        some = omega (arith, eqb-false sh.layers 0 zeros.layers);
        few = ltb-false max_layers sh.layers layers.0;
        seats = omega (arith, eqb-false sh.heap_size 0 zeros.heap);
        small = ltb-false max_heap sh.heap_size mice.1;
      }

  -- and the other way, where the border is within the layers that there may be
  pub not-refused : Accepted sh → sh.elephant_layers ≤ max_layers → shape_refusal sh ≡ 0
  not-refused a border =
      sym
      (refusal_is false false false false
      (rw (some_eqb sh.heap_size a.seats, some_eqb sh.layers a.some, some-row-col sh.elephant_rows sh.elephant_cols a.elephant, some-row-col sh.mouse_rows sh.mouse_cols a.mouse))
      (λ _. rw (le-ltb max_layers sh.layers a.few, le-ltb max_layers sh.elephant_layers border))
      (λ _. rw (few_bits sh.elephant_rows sh.elephant_cols a.elephant, few_bits sh.mouse_rows sh.mouse_cols a.mouse))
      (λ _. rw (in_domain sh.elephant_rows sh.elephant_cols a.elephant, in_domain sh.mouse_rows sh.mouse_cols a.mouse, le-ltb max_heap sh.heap_size a.small)))

  -- two tiers that are shaped, layers and heap size that are tested
  pub usual-accepted : (elephants mice : Bool) → (elephants ≡ true → Shaped sh.elephant_rows sh.elephant_cols) → (mice ≡ true → Shaped sh.mouse_rows sh.mouse_cols)
      → elephants && mice && (ltb 0 sh.layers && leb sh.layers max_layers && leb sh.elephant_layers max_layers) && (ltb 0 sh.heap_size && leb sh.heap_size max_heap) ≡ true
      → shape_refusal sh ≡ 0
  usual-accepted elephants mice first second t =
      let layers = ltb 0 sh.layers && leb sh.layers max_layers && leb sh.elephant_layers max_layers in
      let seats = ltb 0 sh.heap_size && leb sh.heap_size max_heap in
      let three = and_left (elephants && mice && layers) seats t in
      let tiers = and_left (elephants && mice) layers three in
      let layered = and_right (elephants && mice) layers three in
      let counted = and_left (ltb 0 sh.layers && leb sh.layers max_layers) (leb sh.elephant_layers max_layers) layered in
      let seated = and_right (elephants && mice && layers) seats t in
      not-refused
      (record {
        elephant = first (and_left elephants mice tiers);
        mouse = second (and_right elephants mice tiers);
        some = ltb-true 0 sh.layers (and_left (ltb 0 sh.layers) (leb sh.layers max_layers) counted);
        few = leb-true sh.layers max_layers (and_right (ltb 0 sh.layers) (leb sh.layers max_layers) counted);
        seats = ltb-true 0 sh.heap_size (and_left (ltb 0 sh.heap_size) (leb sh.heap_size max_heap) seated);
        small = leb-true sh.heap_size max_heap (and_right (ltb 0 sh.heap_size) (leb sh.heap_size max_heap) seated);
      })
      (leb-true sh.elephant_layers max_layers (and_right (ltb 0 sh.layers && leb sh.layers max_layers) (leb sh.elephant_layers max_layers) layered))

-- ---- what the constructor answers

-- a shape that it hands back is the one that was asked for, and is not refused
pub checked_good : (sh s : Shape) → checked_shape sh ≡ Answer.yes s → (shape_refusal sh ≡ 0) × (s ≡ sh)
unfolding checked_shape
checked_good sh s e = go (eqb (shape_refusal sh) 0) refl e
  where
    go : (b : Bool) → eqb (shape_refusal sh) 0 ≡ b → cond b (Answer.yes sh) (Answer.no (shape_refusal sh)) ≡ Answer.yes s → (shape_refusal sh ≡ 0) × (s ≡ sh)
    go true q z = (eqb-true (shape_refusal sh) 0 q, cc)
    go false q z = let w : ◌≡◌ {A = ℕ} 0 1 = cc in absurd (omega arith)

-- the number that it refuses with
pub checked_refused : (sh : Shape) (n : ℕ) → checked_shape sh ≡ Answer.no n → (shape_refusal sh ≡ n) × (shape_refusal sh ≡ 0 → ⊥)
unfolding checked_shape
checked_refused sh n e = go (eqb (shape_refusal sh) 0) refl e
  where
    go : (b : Bool) → eqb (shape_refusal sh) 0 ≡ b → cond b (Answer.yes sh) (Answer.no (shape_refusal sh)) ≡ Answer.no n → (shape_refusal sh ≡ n) × (shape_refusal sh ≡ 0 → ⊥)
    go true q z = let w : ◌≡◌ {A = ℕ} 0 1 = cc in absurd (omega arith)
    go false q z = (cc, eqb-false (shape_refusal sh) 0 q)
