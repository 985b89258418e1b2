-- `layer::candidates::merge_candidates` meets its contract.
use Rattle.std.proofs.Common.{ap, ◌*◌, replicate, length, ℕ, pos, ◌≡◌, ◌∙◌, rules}
use Rattle.std.proofs.lemmas.List.{take_at}
use Rattle.layer.proofs.Gathers.{merge-two}
use Rattle.layer.proofs.candidates.merge_candidates.Goals as goal

pub returns : goal.returns
returns c =
    let front : length c.copy_from_slice.new.self ≡ 4 * c.args.len = search rules in
    let w : c.fill.new.self ≡ replicate (length c.args.entries.now) 0 = search rules in
    let n : c.fill-2.new.self ≡ replicate (length c.args.counts.now) (pos 0) = search rules in
    let l : c.fill-3.new.self ≡ replicate (length c.args.list.now) 0 = search rules in
    merge-two _ _ _ _ _ _ _ _ _ _ _ _ _ _ _ _ _ _ (take_at c.copy_from_slice.new.self _ (4 * c.args.len) front ∙ c.copy_from_slice.ensures.after)
    (w ∙ ap (λ (z : ℕ). replicate z 0) c.requires.seats.words)
    (n ∙ ap (λ (z : ℕ). replicate z (pos 0)) c.requires.seats.counts)
    (l ∙ ap (λ (z : ℕ). replicate z 0) c.requires.other_len_le_size.1) c.requires.len_le_size c.requires.other_len_le_size.0
    c.offer_firsts-g.ensures.0 c.offer_firsts.ensures.0
