-- `state_text::write::lay_first` meets its contract.
use native.Mathlib.Omega.{arith}
use Rattle.state_forms.specs.Grammar.{first_format}
use Rattle.state_forms.proofs.Layings.{six_laid}
use Rattle.state_text.specs.Pages.{first_of}
use Rattle.state_text.proofs.Bounds.{first_join, first_long}
use Rattle.state_text.proofs.write.lay_first.Goals as goal

pub lay_word-a-requires : goal.lay_word-a-requires
lay_word-a-requires c = omega (arith, c.requires, first_long (first_of c.args.shape))

pub lay_number-b-requires : goal.lay_number-b-requires
lay_number-b-requires c = omega (arith, c.requires, first_long (first_of c.args.shape), c.lay_word-a.ensures.place)

pub lay_number-d-requires : goal.lay_number-d-requires
lay_number-d-requires c = omega (arith, c.requires, first_long (first_of c.args.shape), c.lay_word-a.ensures.place, c.lay_number-b.ensures.place)

pub lay_number-e-requires : goal.lay_number-e-requires
lay_number-e-requires c = omega (arith, c.requires, first_long (first_of c.args.shape), c.lay_word-a.ensures.place, c.lay_number-b.ensures.place, c.lay_number-d.ensures.place)

pub lay_number-f-requires : goal.lay_number-f-requires
lay_number-f-requires c = omega (arith, c.requires, first_long (first_of c.args.shape), c.lay_word-a.ensures.place, c.lay_number-b.ensures.place, c.lay_number-d.ensures.place, c.lay_number-e.ensures.place)

pub lay_word-requires : goal.lay_word-requires
lay_word-requires c = omega (arith, c.requires, first_long (first_of c.args.shape), c.lay_word-a.ensures.place, c.lay_number-b.ensures.place, c.lay_number-d.ensures.place, c.lay_number-e.ensures.place, c.lay_number-f.ensures.place)

pub returns : goal.returns
returns c =
    six_laid (first_format.write (first_of c.args.shape)) (first_join (first_of c.args.shape)) c.lay_word-a.ensures c.lay_number-b.ensures c.lay_number-d.ensures c.lay_number-e.ensures c.lay_number-f.ensures c.lay_word.ensures
