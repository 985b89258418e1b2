-- `heap::find` meets its contract.
use Rattle.std.proofs.Common.{arith, rules, tests, ◌≡◌}
use Rattle.std.proofs.lemmas.Iterator.{first_from_Range}
use Rattle.std.proofs.lemmas.List.{get_or_read}
use Rattle.heap.proofs.Matches.{entry_key, find_from}
use Rattle.heap.proofs.find.Goals as goal

pub returns-clause-first_match : goal.returns-clause-first_match
returns-clause-first_match c =
    let es = c.args.entries.now in
    let key = c.args.key in
    λ ns h.
    find_from es ns key c.args.n c.front_other-seen.result c.find.result h c.front_other-seen.ensures.1
    (first_from_Range _ _ _ _ (λ i. entry_key es i ≡ key) (λ i. entry_key es i ≡ key → ⊥) c.find.ensures.ran
    (λ x q k. grind (arith, tests, get_or_read))
    (λ x q k. (search rules, grind (arith, tests, get_or_read))))
