-- `panel_lines::line::read_line` meets its contract.
use mathlib.Core.Path.{refl, sym, ◌∙◌}
use Rattle.panel_lines.specs.Line.{read_shape, read_add, read_of, asked}
use Rattle.panel_lines.specs.declared.line.Request.TheVariants.{Show}
use Rattle.panel_lines.proofs.Cases.{refused, handed, shape-words, read-long, read-shape, read-add, read-other, read-show, read_none}
use Rattle.panel_lines.proofs.line.read_line.Goals as goal

pub returns-then-s-gt-LONGEST_LINE : goal.returns-then-s-gt-LONGEST_LINE
returns-then-s-gt-LONGEST_LINE c = let p = refused (read_of c.args.s.now) c.args.words.now (read-long c.args.s.now c.if-s-gt-LONGEST_LINE.true) in record { value = p.0; words_after = p.1 }

pub returns-then-has_word : goal.returns-then-has_word
returns-then-has_word c =
    let s = c.args.s.now in
    let e = read-shape s c.if-s-gt-LONGEST_LINE.false (sym c.has_word.ensures ∙ c.if-has_word.true) in
    let p = handed (read_of s) (read_shape s) c.args.words.now c.args.words.now _ e (c.unwrap_or.ensures ∙ c.shape_line.ensures) (rw (shape-words s)) in
    record { value = p.0; words_after = p.1 }

pub returns-then-has_word-2 : goal.returns-then-has_word-2
returns-then-has_word-2 c =
    let s = c.args.s.now in
    let e = read-add s c.if-s-gt-LONGEST_LINE.false (sym c.has_word.ensures ∙ c.if-has_word.false) (sym c.has_word-2.ensures ∙ c.if-has_word-2.true) in
    let p = handed (read_of s) (read_add s) c.args.words.now _ _ e (c.unwrap_or-then-has_word-2.ensures ∙ c.add_line.ensures.value) c.add_line.ensures.words_after in
    record { value = p.0; words_after = p.1 }

pub returns-then-s-ne6 : goal.returns-then-s-ne6
returns-then-s-ne6 c = let p = refused (read_of c.args.s.now) c.args.words.now (read-other c.args.s.now c.if-s-gt-LONGEST_LINE.false (sym c.has_word.ensures ∙ c.if-has_word.false) (sym c.has_word-2.ensures ∙ c.if-has_word-2.false) c.if-s-ne6.true) in record { value = p.0; words_after = p.1 }

pub returns-then-has_word-3 : goal.returns-then-has_word-3
returns-then-has_word-3 c =
    let s = c.args.s.now in
    let e = read-show s c.if-s-gt-LONGEST_LINE.false (sym c.has_word.ensures ∙ c.if-has_word.false) (sym c.has_word-2.ensures ∙ c.if-has_word-2.false) c.if-s-ne6.false (sym c.has_word-3.ensures ∙ c.if-has_word-3.true) in
    let p = handed (read_of s) (asked Show) c.args.words.now c.args.words.now _ e refl refl in
    record { value = p.0; words_after = p.1 }

pub returns : goal.returns
returns c = let p = refused (read_of c.args.s.now) c.args.words.now (read_none c.args.s.now c.if-s-gt-LONGEST_LINE.false (sym c.has_word.ensures ∙ c.if-has_word.false) (sym c.has_word-2.ensures ∙ c.if-has_word-2.false) c.if-s-ne6.false (sym c.has_word-3.ensures ∙ c.if-has_word-3.false)) in record { value = p.0; words_after = p.1 }
