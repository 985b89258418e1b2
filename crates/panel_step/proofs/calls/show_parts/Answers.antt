-- `panel_step::calls::show_parts` meets its contract.
use Prim.Native.Nat.{◌≤◌}
use mathlib.Core.Path.{◌≡◌, sym, ap, ◌∙◌}
use lib.ListN.{length, take}
use lib.Seq.{sets, length-take-le}
use native.Mathlib.Omega.{arith}
use Rattle.header.specs.Shape.{max_layers}
use Rattle.layout.specs.Slices.{Lent, lent}
use Rattle.estimates.specs.declared.PanelAnswer.{PanelAnswer}
use Rattle.text.specs.Decimals.{dec}
use Rattle.panel_step.specs.Panel.{panel_text, updates_digits}
use Rattle.panel_step.proofs.Replies.{panel_refused, panel_shown, digits_few}
use Rattle.panel_step.proofs.calls.show_parts.Goals as goal
use Rattle.panel_step.proofs.calls.show_parts.Goals.{Else-a-ne0, Start}

-- the state that is lent
abbrev here : Start → Lent
here c = lent c.args.header c.args.counters.now c.args.norms.now c.args.entries.now c.args.counts.now

-- the header has as many flags as its type says
many : (c : Start) → length c.args.header.flags ≡ max_layers
many c = c.well_formed.0.1.1.1.1.1.0.1.0.1

shown : (c : Start) → length (take c.args.header.shape.layers c.args.header.flags) ≡ c.args.header.shape.layers
shown c = length-take-le c.args.header.shape.layers c.args.header.flags (omega (arith, many c, c.requires.layers_le_max_layers))

-- the digits of the updates
digits : (c : Else-a-ne0) → length (dec c.args.header.totals.updates) ≤ updates_digits
digits c = digits_few (here (goal.at.Else-a-ne0 c).Start) (ap (λ (a : PanelAnswer). a.refusal) (sym c.panel_answer-a.ensures) ∙ c.if-a-ne0.false)

pub returns-then-a-ne0 : goal.returns-then-a-ne0
returns-then-a-ne0 c =
    let a = c.panel_answer-a in
    let t = panel_refused c.args.header a.result c.if-a-ne0.true ∙ ap (panel_text c.args.header) a.ensures in
    record {
      value = c.put_refused.ensures.value ∙ ap length t;
      out_after = c.put_refused.ensures.out_after ∙ ap (sets c.args.out.now 0) t;
      upper_bound = omega (arith, c.put_refused.ensures.upper_bound);
    }

pub slice_bounds-flags-end : goal.slice_bounds-flags-end
slice_bounds-flags-end c = omega (arith, many (goal.at.slice_bounds-flags-end c).Start, c.requires.layers_le_max_layers)

pub slice_bounds-put_show-end : goal.slice_bounds-put_show-end
slice_bounds-put_show-end c = sym (shown (goal.at.slice_bounds-put_show-end c).Start)

pub put_show-requires : goal.put_show-requires
put_show-requires c = omega (arith, shown (goal.at.put_show-requires c).Start, c.requires.layers_le_max_layers, c.requires.updates_digits_in_bounds, digits (goal.at.put_show-requires c).Else-a-ne0)

pub returns : goal.returns
returns c =
    let a = c.panel_answer-a in
    let h = c.args.header in
    let b = rw (c.to_bits-l1.ensures, c.to_bits-l2.ensures, c.to_bits-keys.ensures) at c.put_show.ensures.value in
    let d = rw (c.to_bits-l1.ensures, c.to_bits-l2.ensures, c.to_bits-keys.ensures) at c.put_show.ensures.out_after in
    let t = panel_shown h a.result c.if-a-ne0.false ∙ ap (panel_text h) a.ensures in
    record {
      value = b ∙ ap length t;
      out_after = d ∙ ap (sets c.args.out.now 0) t;
      upper_bound = omega (arith, c.put_show.ensures.value_2, shown (goal.at.returns c).Start, c.requires.layers_le_max_layers, digits (goal.at.returns c).Else-a-ne0);
    }
