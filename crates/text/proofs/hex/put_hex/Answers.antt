-- `text::hex::put_hex` meets its contract.
use Rattle.std.proofs.Common.{◌≡◌, ◌-◌, ◌+◌, ◌∙◌, sym, arith}
use Rattle.text.proofs.Puts.{hex_put, hex_end}
use Rattle.text.proofs.hex.put_hex.Goals as goal

pub loop-i-preserved : goal.loop-i-preserved
loop-i-preserved c =
    let a : 16 - c.loop-i.i - 1 ≡ 15 - c.loop-i.i = omega arith in
    let b : 16 - (c.loop-i.i + 1) ≡ 15 - c.loop-i.i = omega arith in
    let p = hex_put c.loop-i.out (c.args.at + c.loop-i.i) (16 - c.loop-i.i) c.args.n (omega arith) in
    let d : c.args.at + (c.loop-i.i + 1) ≡ c.args.at + c.loop-i.i + 1 = omega arith in
    rw (b, c.hex_glyph.ensures, d) (sym (rw a at p) ∙ c.loop-i.invariant)

pub returns-clause-out_after : goal.returns-clause-out_after
returns-clause-out_after c = let e : c.loop-i.i ≡ 16 = omega arith in rw (hex_end c.args.n) at (rw e at c.loop-i.invariant)
