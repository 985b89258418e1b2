-- `layer_merge_indexed::candidates::merge_candidates` meets its contract.
use Rattle.std.proofs.Common.{◌≡◌, ◌∙◌, ◌++◌, ◌*◌, ◌≤◌, ℕ, ap, arith, length, length-append, pos, replicate, rules}
use Rattle.heap_index.specs.Index.{index_length}
use Rattle.layer.specs.inner.Gather.{items_of}
use Rattle.layer.proofs.Firsts.{items-many}
use Rattle.layer_merge_indexed.proofs.Takes.{both-taken}
use Rattle.layer_merge_indexed.proofs.Offerings.{index-left, table-left}
use Rattle.layer_merge_indexed.proofs.candidates.merge_candidates.Goals as goal

pub returns : goal.returns
returns c =
    let a = c.args in
    let s = c.requires.seats in
    let own = items_of a.entries.now a.len in
    let others = items_of a.other.now a.other_len in
    let few : length (own ++ others) ≤ 2 * a.d.size =
    omega (arith, length-append own others, items-many a.entries.now a.len 0, items-many a.other.now a.other_len 0, c.requires.len_le_size, c.requires.other_len_le_size.0) in
    let words : c.fill-2.new.self ≡ replicate (length a.entries.now) 0 = search rules in
    let counts : c.fill-3.new.self ≡ replicate (length a.counts.now) (pos 0) = search rules in
    let index : c.fill-4.new.self ≡ replicate (length a.index.now) 0 = search rules in
    let list : c.fill-5.new.self ≡ replicate (length c.take_firsts-both.new.seen) 0 = search rules in
    let words' : c.fill-2.new.self ≡ replicate (4 * a.d.size) 0 = words ∙ ap (λ (z : ℕ). replicate z 0) s.words in
    let counts' : c.fill-3.new.self ≡ replicate a.d.size (pos 0) = counts ∙ ap (λ (z : ℕ). replicate z (pos 0)) s.counts in
    let index' : c.fill-4.new.self ≡ replicate (index_length a.d.size) 0 = index ∙ ap (λ (z : ℕ). replicate z 0) c.requires.other_len_le_size.1.1 in
    let long : length c.take_firsts-both.new.seen ≡ 4 * a.d.size = omega (arith, c.take_firsts-both.auto.seen, c.take_firsts-own.auto.seen, c.fill.auto.self, c.requires.other_len_le_size.1.0) in
    let list' : c.fill-5.new.self ≡ replicate (4 * a.d.size) 0 = list ∙ ap (λ (z : ℕ). replicate z 0) long in
    let items = both-taken _ _ _ a.entries.now a.other.now _ _ a.len a.other_len c.take_firsts-own.ensures.result_after c.take_firsts-both.ensures.result_after in
    let o = c.offer_firsts in record {
      result_value = table-left a.d a.counters.now (own ++ others) _ _ _ _ s.some s.few c.requires.counters_read.read index' words' counts' list' _ _ items _ _ _ _ o.result o.ensures few;
      index_after = index-left a.d a.counters.now (own ++ others) _ _ _ _ s.some s.few c.requires.counters_read.read index' words' counts' list' _ _ items _ _ _ _ o.result o.ensures;
    }
