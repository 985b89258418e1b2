-- `ranks::marks::find_marked` meets its contract.
use Rattle.ranks.proofs.Spots.{not_marked}
use Rattle.ranks.proofs.marks.find_marked.Goals as goal

pub returns-then-marks-key-ne1-clause-place : goal.returns-then-marks-key-ne1-clause-place
returns-then-marks-key-ne1-clause-place c = let a = c.args in not_marked a.marks.now a.keys.now a.n a.key c.requires.marked c.if-marks-key-ne1.true
