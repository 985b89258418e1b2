-- `text::hex::hex_value` meets its contract.
use Prim.Native.Nat.{ℕ, suc, ◌+◌, ◌-◌, ◌*◌, ◌%◌, ◌^◌, ◌≤◌, ◌<◌}
use mathlib.Core.Path.{◌≡◌, sym, ◌∙◌}
use mathlib.Core.List.{List}
use lib.ListN.{length, get_or, drop, take}
use lib.Seq.{get_or-drop}
use Rattle.std.proofs.lemmas.List.{get_or-take}
use native.Mathlib.Omega.{arith}
use native.Mathlib.Numerals.{add-one}
use Rattle.text.specs.Hex.{nibble_of, hex_from}
use Rattle.text.proofs.Walks.{hex_step}
use native.Mathlib.Nat.{lt_of_lt_of_le, pow-le-pow_right, pow-succ'}
use Rattle.text.proofs.hex.hex_value.Goals as goal

value-step : (s : List ℕ) (a k v : ℕ) → k < 16 → a + 16 ≤ length s → hex_from v (16 - k) (drop (a + k) s) ≡ hex_from (v * 16 + nibble_of (get_or s (a + k) 0)) (16 - (k + 1)) (drop (a + (k + 1)) s)
value-step s a k v h l =
    let e : 16 - k ≡ suc (16 - (k + 1)) = omega arith in
    let f : a + (k + 1) ≡ suc (a + k) = omega arith in
    rw (e, f) (hex_step s v (a + k) (16 - (k + 1)) (omega arith))

pow-le : (a b : ℕ) → a ≤ b → 16 ^ a ≤ 16 ^ b
pow-le a b h = let p : 0 < 16 = omega arith in pow-le-pow_right p h

pub loop-b-preserved : goal.loop-b-preserved
loop-b-preserved c =
    let k = c.loop-b.b-index in
    let t : k < 16 = omega arith in
    let small : c.loop-b.v < 1152921504606846976 = lt_of_lt_of_le c.loop-b.invariant.small (pow-le k 15 (omega arith)) in
    let m : c.loop-b.v % 1152921504606846976 ≡ c.loop-b.v = omega arith in
    let p : 16 ^ (k + 1) ≡ 16 * 16 ^ k = rw add-one (pow-succ' 16 k) in
    let n = c.nibble.ensures in
    let d : get_or (take (c.args.at + 16 - c.args.at) (drop c.args.at c.args.s.now)) k 0 ≡ get_or c.args.s.now (c.args.at + k) 0 = get_or-take (c.args.at + 16 - c.args.at) _ k 0 (omega arith) ∙ get_or-drop c.args.at c.args.s.now k 0 in
    record { small = omega arith; so_far = rw (m, n.0, d) (sym (value-step c.args.s.now c.args.at k c.loop-b.v t c.requires) ∙ c.loop-b.invariant.so_far) }

pub returns : goal.returns
unfolding hex_from
returns c = let e : c.loop-b.b-index ≡ 16 = omega arith in rw e at c.loop-b.invariant.so_far
