-- `state_lines::keys::read_keys` meets its contract.
use Prim.Native.Nat.{ℕ, suc, ◌+◌, ◌-◌}
use mathlib.Core.Path.{◌≡◌, refl, sym, ap, ◌∙◌}
use mathlib.Core.List.{[]}
use lib.ListN.{set, drop}
use native.Mathlib.Omega.{arith}
use mir.Syntax.{w64}
use mir.Val.{to_z, of_z}
use Rattle.text.proofs.IntReads.{fits-back}
use Rattle.heap_moves.specs.Flat.{cands_of, cand_of}
use Rattle.state_forms.specs.Formats.{got}
use Rattle.state_forms.specs.Grammar.{keys_r}
use Rattle.state_forms.proofs.Lines.{key-exact}
use Rattle.state_lines.proofs.Walks.{walk_start, walk_bad, walk_never, walk_left, walk_put, walk_many, walk_on}
use Rattle.state_lines.proofs.KeyWalk.{same, no_key, key-many, key_bad, key_in, counts_to, counts_bad}
use Rattle.state_lines.proofs.keys.read_keys.Goals as goal

pub loop-i-init : goal.loop-i-init
loop-i-init c =
    let z : c.args.size - 0 ≡ c.args.size = omega arith in
    rw z (walk_start same (keys_r c.args.l c.args.size (drop c.args.at c.args.s.now)) (cands_of c.args.entries.now c.args.counts.now) 0)

pub returns-then-not-has_word : goal.returns-then-not-has_word
returns-then-not-has_word c =
    let n = no_key c.args.l (drop c.loop-i.p c.args.s.now) (c.args.size - c.loop-i.i) (sym c.has_word.ensures ∙ c.if-not-has_word.true) in record {
      result_value = counts_to (keys_r c.args.l c.args.size (drop c.args.at c.args.s.now)) c.loop-i.i (drop c.loop-i.p c.args.s.now) (walk_left same c.loop-i.invariant [] (drop c.loop-i.p c.args.s.now) n) (λ cs t w. let m = walk_many same c.loop-i.invariant [] (drop c.loop-i.p c.args.s.now) n cs t w in omega (arith, m));
      counts_after = λ cs t w. walk_put same c.loop-i.invariant [] (drop c.loop-i.p c.args.s.now) n (cands_of c.loop-i.entries c.loop-i.counts) refl cs t w;
    }

pub returns-in_err-item : goal.returns-in_err-item
returns-in_err-item c =
    let z : c.args.size - c.loop-i.i ≡ suc (c.args.size - (c.loop-i.i + 1)) = omega (arith, c.loop-i-test.true) in
    let n = key_bad c.args.l (drop c.loop-i.p c.args.s.now) (c.args.size - c.loop-i.i) (c.args.size - (c.loop-i.i + 1)) z (sym c.has_word.ensures ∙ c.if-not-has_word.false) (sym c.in_err-item.ensures) in
    record {
      result_value = rw c.from_residual.ensures (counts_bad (keys_r c.args.l c.args.size (drop c.args.at c.args.s.now)) (walk_bad same c.loop-i.invariant n));
      counts_after = λ cs t w. absurd (walk_never same c.loop-i.invariant n cs t w);
    }

pub loop-i-preserved : goal.loop-i-preserved
loop-i-preserved c =
    let z : c.args.size - c.loop-i.i ≡ suc (c.args.size - (c.loop-i.i + 1)) = omega (arith, c.loop-i-test.true) in
    let n = key_in c.args.l (drop c.loop-i.p c.args.s.now) (c.args.size - c.loop-i.i) (c.args.size - (c.loop-i.i + 1)) z (sym c.has_word.ensures ∙ c.if-not-has_word.false) (cand_of c.in_ok-item.item c.in_ok-item.count) (drop c.in_ok-item.next c.args.s.now) (sym c.in_ok-item.ensures) in
    let e : cands_of c.put_cand.new.entries c.put_cand.new.counts ≡ set (cands_of c.loop-i.entries c.loop-i.counts) c.loop-i.i (cand_of c.in_ok-item.item c.in_ok-item.count) = rw (let h-value : to_z w64 (of_z w64 c.in_ok-item.count) ≡ c.in_ok-item.count = let k = (key-exact c.args.l (omega (arith, c.ranges.l))).sound (drop c.loop-i.p c.args.s.now) (cand_of c.in_ok-item.item c.in_ok-item.count) (drop c.in_ok-item.next c.args.s.now) (sym c.in_ok-item.ensures) in
    fits-back c.in_ok-item.count k.0.1.1.1.1 in h-value) at c.put_cand.ensures in
    walk_on same c.loop-i.invariant (λ xs ys. refl) [] (cand_of c.in_ok-item.item c.in_ok-item.count) (keys_r c.args.l (c.args.size - (c.loop-i.i + 1)) (drop c.in_ok-item.next c.args.s.now)) n (cands_of c.put_cand.new.entries c.put_cand.new.counts) (c.loop-i.i + 1) (c.loop-i.i + 1) e (omega arith) (omega arith)

pub returns-then-has_word : goal.returns-then-has_word
returns-then-has_word c =
    let z : c.args.size - c.loop-i.i ≡ 0 = omega arith in
    let n = key-many c.args.l (drop c.loop-i.p c.args.s.now) (c.args.size - c.loop-i.i) z (sym c.has_word-2.ensures ∙ c.if-has_word.true) in
    record {
      result_value = counts_bad (keys_r c.args.l c.args.size (drop c.args.at c.args.s.now)) (walk_bad same c.loop-i.invariant n);
      counts_after = λ cs t w. absurd (walk_never same c.loop-i.invariant n cs t w);
    }

pub returns : goal.returns
returns c =
    let z : c.loop-i.i ≡ c.args.size = omega arith in
    let n = no_key c.args.l (drop c.loop-i.p c.args.s.now) (c.args.size - c.loop-i.i) (sym c.has_word-2.ensures ∙ c.if-has_word.false) in record {
      result_value = ap (λ (n : ℕ). got n (drop c.loop-i.p c.args.s.now)) (sym z) ∙ counts_to (keys_r c.args.l c.args.size (drop c.args.at c.args.s.now)) c.loop-i.i (drop c.loop-i.p c.args.s.now) (walk_left same c.loop-i.invariant [] (drop c.loop-i.p c.args.s.now) n) (λ cs t w. let m = walk_many same c.loop-i.invariant [] (drop c.loop-i.p c.args.s.now) n cs t w in omega (arith, m));
      counts_after = λ cs t w. walk_put same c.loop-i.invariant [] (drop c.loop-i.p c.args.s.now) n (cands_of c.loop-i.entries c.loop-i.counts) refl cs t w;
    }
