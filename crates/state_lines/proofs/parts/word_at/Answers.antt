-- `state_lines::parts::word_at` meets its contract.
use Rattle.std.proofs.Common.{◌∙◌, sym, arith}
use Rattle.state_lines.proofs.Spots.{word_here, word_off, word_ends}
use Rattle.state_lines.proofs.parts.word_at.Goals as goal

pub returns-then-not-has_word : goal.returns-then-not-has_word
returns-then-not-has_word c = sym (word_off c.args.word.now c.args.s.now c.args.at (sym c.has_word.ensures ∙ c.if-not-has_word.true))

pub overflow_add-result : goal.overflow_add-result
overflow_add-result c = record { fits = omega (arith, c.well_formed.0, word_ends c.args.word.now c.args.s.now c.args.at c.requires (sym c.has_word.ensures ∙ c.if-not-has_word.false)) }

pub returns : goal.returns
returns c = sym (word_here c.args.word.now c.args.s.now c.args.at (sym c.has_word.ensures ∙ c.if-not-has_word.false))
