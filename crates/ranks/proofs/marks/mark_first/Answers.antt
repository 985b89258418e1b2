-- `ranks::marks::mark_first` meets its contract.
use Rattle.std.proofs.Common.{◌≡◌, arith, refl, sym, subst, get_or, get_or-take, take, length-take-le}
use Rattle.ranks.specs.inner.Spots.{Marked}
use Rattle.ranks.proofs.Spots.{mark-none, mark_on}
use Rattle.ranks.proofs.marks.mark_first.Goals as goal

pub loop-key-init : goal.loop-key-init
loop-key-init c = mark-none c.args.marks.now c.args.keys.now c.requires.spots_in_bounds

pub loop-key-preserved : goal.loop-key-preserved
loop-key-preserved c =
    let ks = c.args.keys.now in
    let n = c.args.n in
    let l = c.loop-key in
    let long = length-take-le n ks c.requires.n_in_bounds in
    mark_on l.marks _ ks ks l.key-index (get_or (take n ks) l.key-index 0) l.invariant c.set_mark.ensures (λ j h. refl) (sym (get_or-take n ks l.key-index 0 (omega (arith, long))))

pub returns : goal.returns
returns c =
    let long = length-take-le c.args.n c.args.keys.now c.requires.n_in_bounds in
    let z : c.loop-key.key-index ≡ c.args.n = omega (arith, long) in
    subst (Marked c.loop-key.marks c.args.keys.now) z c.loop-key.invariant
