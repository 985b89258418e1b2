-- `heap::blocks::front_other` meets its contract.
use Rattle.std.proofs.Common.{rules, arith, tests, ℕ, ◌*◌, take, subst, ◌≡◌, List}
use Rattle.std.specs.Slice.Iter.{chunks_exact_size, chunks_exact_rest}
use Rattle.std.specs.Iterator.Runs.{IsChunksExactRun}
use Rattle.heap.proofs.Matches.{front_missed, front_of}
use Rattle.heap.proofs.blocks.front_other.Goals as goal

pub returns : goal.returns
returns c =
    let es = take (4 * c.args.n) c.args.entries.now in
    let r = c.position-fours.ensures.runs in
    let size : chunks_exact_size r.0.from ≡ 16 = rw r.1 c.chunks_exact.ensures.size in
    let rest : chunks_exact_rest r.0.from ≡ es = rw r.1 c.chunks_exact.ensures.rest in
    let q : IsChunksExactRun r.0 16 es = subst (λ (s : ℕ). IsChunksExactRun r.0 s es) size (subst (λ (x : List ℕ). IsChunksExactRun r.0 (chunks_exact_size r.0.from) x) rest (c.chunks_exact.ensures.runs r.0 r.0.seen (rw size (omega arith)))) in
    front_of _ _ _ _ c.position-fours.result c.requires c.unwrap_or.ensures
    (front_missed r.0 _ _ es c.args.key q (λ x r q k. search rules) (λ x k. search (rules, tests)) c.position-fours.result r.2)
