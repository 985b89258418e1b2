-- `panel_step::step::answer_line` meets its contract.
use Prim.Native.Nat.{◌≤◌}
use mathlib.Core.Path.{◌≡◌, refl, sym, ap, ◌∙◌}
use lib.ListN.{length, take}
use lib.Seq.{length-take-le}
use native.Mathlib.Omega.{arith}
use Rattle.layout.specs.Slices.{Lent, lent}
use Rattle.layout.specs.Outcomes.{left}
use Rattle.panel_lines.specs.declared.line.Request.TheVariants as ask
use Rattle.panel_lines.specs.Line.{read_of}
use Rattle.panel_lines.proofs.Records.{add-few, record_is}
use Rattle.panel_step.specs.Panel.{Reply, put}
use Rattle.panel_step.proofs.Replies.{reply-put, no_room, line-put, asks_shape, line_added, asks_show, asks_nothing}
use Rattle.panel_step.proofs.Weights.{weight-back}
use Rattle.panel_step.proofs.step.answer_line.Goals as goal
use Rattle.panel_step.proofs.step.answer_line.Goals.{After-read_line-q, In-Add, Start}

-- the state that is lent
abbrev here : Start → Lent
here c = lent c.args.header c.args.counters.now c.args.norms.now c.args.entries.now c.args.counts.now

-- what the line asks
asks : (c : After-read_line-q) → c.read_line-q.result ≡ (read_of c.args.line.now).request
asks c = c.read_line-q.ensures.value

-- the record that an add spells
spells : (c : In-Add) → (read_of c.args.line.now).request ≡ ask.Add c.in-Add.weight c.in-Add.n
spells c = sym (asks (goal.at.In-Add c).After-read_line-q) ∙ c.in-Add.is

few : (c : In-Add) → c.in-Add.n ≤ length c.read_line-q.new.words
few c = omega (arith, add-few _ _ _ (spells c), c.words-2-1.given)

-- what was handed on is that record
handed : (c : In-Add) → take c.in-Add.n c.read_line-q.new.words ≡ (read_of c.args.line.now).words
handed c = ap (take c.in-Add.n) c.read_line-q.ensures.words_after ∙ record_is c.args.line.now _ _ _ (omega arith) (spells c)

pub returns-then-out-lt-LONGEST : goal.returns-then-out-lt-LONGEST
returns-then-out-lt-LONGEST c = record {
  out_after = no_room (here (goal.at.returns-then-out-lt-LONGEST c).Start) c.args.line.now c.args.out.now c.if-out-lt-LONGEST.true;
  len_le_longest = omega arith;
}

pub slice_bounds-words-end : goal.slice_bounds-words-end
slice_bounds-words-end c = few (goal.at.slice_bounds-words-end c).In-Add

pub slice_bounds-spelt-end : goal.slice_bounds-spelt-end
slice_bounds-spelt-end c = sym (length-take-le _ _ (few (goal.at.slice_bounds-spelt-end c).In-Add))

pub returns-in-Shape : goal.returns-in-Shape
returns-in-Shape c =
    let o = c.args.out.now in
    let w = (read_of c.args.line.now).words in
    record {
      out_after = rw c.one_tier-shape.ensures at c.answer_shape.ensures.out_after ∙ ap (λ (a : Reply). put a o) (asks_shape (here (goal.at.returns-in-Shape c).Start) _ _ _ _ w) ∙ line-put (here (goal.at.returns-in-Shape c).Start) c.args.line.now o _ c.if-out-lt-LONGEST.false (sym c.in-Shape.is ∙ asks (goal.at.returns-in-Shape c).After-read_line-q);
      len_le_longest = c.answer_shape.ensures.len_le_longest;
    }

pub returns-in-Add : goal.returns-in-Add
returns-in-Add c =
    let l = c.args.line.now in
    record {
      out_after = line_added (here (goal.at.returns-in-Add c).Start) l c.args.out.now c.in-Add.weight _ c.in-Add.n _ _ c.if-out-lt-LONGEST.false (spells (goal.at.returns-in-Add c).In-Add) (weight-back l _ _ (spells (goal.at.returns-in-Add c).In-Add)) (handed (goal.at.returns-in-Add c).In-Add) c.answer_add.ensures.out_after;
      len_le_longest = c.answer_add.ensures.len_le_longest;
    }

pub returns-in-Show : goal.returns-in-Show
returns-in-Show c =
    let o = c.args.out.now in
    let w = (read_of c.args.line.now).words in
    record {
      out_after = c.answer_show.ensures.out_after ∙ ap (λ (a : Reply). put a o) (asks_show (here (goal.at.returns-in-Show c).Start) w) ∙ line-put (here (goal.at.returns-in-Show c).Start) c.args.line.now o ask.Show c.if-out-lt-LONGEST.false (sym c.in-Show.is ∙ asks (goal.at.returns-in-Show c).After-read_line-q);
      len_le_longest = c.answer_show.ensures.len_le_longest;
    }

pub returns-in-Unreadable : goal.returns-in-Unreadable
returns-in-Unreadable c =
    let o = c.args.out.now in
    let w = (read_of c.args.line.now).words in
    record {
      out_after = reply-put (left 13 (here (goal.at.returns-in-Unreadable c).Start)) (left 13 (here (goal.at.returns-in-Unreadable c).Start)) _ o _ refl c.put_reply-len.ensures.value c.put_reply-len.ensures.out_after ∙ ap (λ (a : Reply). put a o) (asks_nothing (here (goal.at.returns-in-Unreadable c).Start) w) ∙ line-put (here (goal.at.returns-in-Unreadable c).Start) c.args.line.now o ask.Unreadable c.if-out-lt-LONGEST.false (sym c.in-Unreadable.is ∙ asks (goal.at.returns-in-Unreadable c).After-read_line-q);
      len_le_longest = c.put_reply-len.ensures.upper_bound;
    }
