-- `state_forms::keys::lay_flag` meets its contract.
use mathlib.Core.Path.{◌∙◌}
use mathlib.Core.List.{[], ◌∷◌}
use native.Mathlib.Omega.{arith}
use Rattle.text.specs.Words.{bytes_of}
use Rattle.state_forms.specs.Formats.{num}
use Rattle.state_forms.specs.Grammar.{flag_number, flag_format}
use Rattle.state_forms.proofs.Layings.{four_laid, four_long, flag-join}
use Rattle.state_forms.proofs.Zeros.{flag_bits}
use Rattle.state_forms.proofs.keys.lay_flag.Goals as goal

pub lay_word-a-requires : goal.lay_word-a-requires
lay_word-a-requires c = omega (arith, c.requires, (four_long (bytes_of "(flag ") ((num 32).write c.args.l) ((num 41).write (flag_number c.args.flag)) (10 ∷ []) ((flag_format c.args.l).write c.args.flag) (flag-join c.args.l c.args.flag)))

pub lay_number-b-requires : goal.lay_number-b-requires
lay_number-b-requires c = omega (arith, c.requires, (four_long (bytes_of "(flag ") ((num 32).write c.args.l) ((num 41).write (flag_number c.args.flag)) (10 ∷ []) ((flag_format c.args.l).write c.args.flag) (flag-join c.args.l c.args.flag)), c.lay_word-a.ensures.place)

pub lay_number-c-requires : goal.lay_number-c-requires
lay_number-c-requires c = rw (c.from.ensures ∙ flag_bits c.args.flag) (omega (arith, c.requires, (four_long (bytes_of "(flag ") ((num 32).write c.args.l) ((num 41).write (flag_number c.args.flag)) (10 ∷ []) ((flag_format c.args.l).write c.args.flag) (flag-join c.args.l c.args.flag)), c.lay_word-a.ensures.place, c.lay_number-b.ensures.place))

pub lay_word-requires : goal.lay_word-requires
lay_word-requires c =
    let e = rw (c.from.ensures ∙ flag_bits c.args.flag) at c.lay_number-c.ensures.place in
    omega (arith, c.requires, (four_long (bytes_of "(flag ") ((num 32).write c.args.l) ((num 41).write (flag_number c.args.flag)) (10 ∷ []) ((flag_format c.args.l).write c.args.flag) (flag-join c.args.l c.args.flag)), c.lay_word-a.ensures.place, c.lay_number-b.ensures.place, e)

pub returns : goal.returns
returns c =
    four_laid ((flag_format c.args.l).write c.args.flag) (flag-join c.args.l c.args.flag) c.lay_word-a.ensures c.lay_number-b.ensures
    (rw (c.from.ensures ∙ flag_bits c.args.flag) at c.lay_number-c.ensures) c.lay_word.ensures
