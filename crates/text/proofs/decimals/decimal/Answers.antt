-- `text::decimals::decimal` meets its contract.
use Rattle.std.proofs.Common.{◌∙◌, sym, get_or}
use lib.Seq.{drop-cons}
use borrow.Author.Tests.{ne_eqb}
use Rattle.text.specs.Decimals.{dec_from}
use Rattle.text.proofs.Walks.{ascii-digit}
use Rattle.text.proofs.decimals.decimal.Goals as goal

pub returns-then-not-is_ascii_digit : goal.returns-then-not-is_ascii_digit
unfolding dec_from
returns-then-not-is_ascii_digit c = rw (drop-cons c.args.s.now c.args.at 0 c.if-s-at.false, ne_eqb _ _ c.if-b-eq-ZERO.false, sym (ascii-digit (get_or c.args.s.now c.args.at 0)) ∙ sym c.is_ascii_digit.ensures.value ∙ c.if-not-is_ascii_digit.true)

pub returns : goal.returns
unfolding dec_from
returns c = c.number.ensures ∙ rw (drop-cons c.args.s.now c.args.at 0 c.if-s-at.false, ne_eqb _ _ c.if-b-eq-ZERO.false, sym (ascii-digit (get_or c.args.s.now c.args.at 0)) ∙ sym c.is_ascii_digit.ensures.value ∙ c.if-not-is_ascii_digit.false)
