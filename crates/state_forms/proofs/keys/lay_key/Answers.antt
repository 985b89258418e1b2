-- `state_forms::keys::lay_key` meets its contract.
use native.Mathlib.Omega.{arith}
use mir.Facts.{to_z-of_z}
use Rattle.heap_moves.specs.Flat.{cand_of}
use Rattle.text.specs.Words.{bytes_of}
use Rattle.text.specs.Signs.{signed_dec}
use Rattle.state_forms.specs.Formats.{num}
use Rattle.state_forms.specs.Grammar.{line_end, key_format}
use Rattle.state_forms.proofs.Layings.{eight_laid, eight_long, key-join}
use Rattle.state_forms.proofs.keys.lay_key.Goals as goal

pub lay_word-a-requires : goal.lay_word-a-requires
lay_word-a-requires c = omega (
  arith,
  c.requires,
  (eight_long (bytes_of "(key ") ((num 32).write c.args.l) ((num 32).write c.args.item.key) ((num 32).write c.args.item.bottom) ((num 32).write c.args.item.high) ((num 32).write c.args.item.low) (signed_dec c.args.count) line_end
      ((key_format c.args.l).write (cand_of c.args.item c.args.count)) (key-join c.args.l (cand_of c.args.item c.args.count))),
)

pub lay_number-b-requires : goal.lay_number-b-requires
lay_number-b-requires c = omega (
  arith,
  c.requires,
  (eight_long (bytes_of "(key ") ((num 32).write c.args.l) ((num 32).write c.args.item.key) ((num 32).write c.args.item.bottom) ((num 32).write c.args.item.high) ((num 32).write c.args.item.low) (signed_dec c.args.count) line_end
      ((key_format c.args.l).write (cand_of c.args.item c.args.count)) (key-join c.args.l (cand_of c.args.item c.args.count))),
  c.lay_word-a.ensures.place,
)

pub lay_number-c-requires : goal.lay_number-c-requires
lay_number-c-requires c = omega (
  arith,
  c.requires,
  (eight_long (bytes_of "(key ") ((num 32).write c.args.l) ((num 32).write c.args.item.key) ((num 32).write c.args.item.bottom) ((num 32).write c.args.item.high) ((num 32).write c.args.item.low) (signed_dec c.args.count) line_end
      ((key_format c.args.l).write (cand_of c.args.item c.args.count)) (key-join c.args.l (cand_of c.args.item c.args.count))),
  c.lay_word-a.ensures.place,
  c.lay_number-b.ensures.place,
)

pub lay_number-d-requires : goal.lay_number-d-requires
lay_number-d-requires c = omega (
  arith,
  c.requires,
  (eight_long (bytes_of "(key ") ((num 32).write c.args.l) ((num 32).write c.args.item.key) ((num 32).write c.args.item.bottom) ((num 32).write c.args.item.high) ((num 32).write c.args.item.low) (signed_dec c.args.count) line_end
      ((key_format c.args.l).write (cand_of c.args.item c.args.count)) (key-join c.args.l (cand_of c.args.item c.args.count))),
  c.lay_word-a.ensures.place,
  c.lay_number-b.ensures.place,
  c.lay_number-c.ensures.place,
)

pub lay_number-e-requires : goal.lay_number-e-requires
lay_number-e-requires c = omega (
  arith,
  c.requires,
  (eight_long (bytes_of "(key ") ((num 32).write c.args.l) ((num 32).write c.args.item.key) ((num 32).write c.args.item.bottom) ((num 32).write c.args.item.high) ((num 32).write c.args.item.low) (signed_dec c.args.count) line_end
      ((key_format c.args.l).write (cand_of c.args.item c.args.count)) (key-join c.args.l (cand_of c.args.item c.args.count))),
  c.lay_word-a.ensures.place,
  c.lay_number-b.ensures.place,
  c.lay_number-c.ensures.place,
  c.lay_number-d.ensures.place,
)

pub lay_number-f-requires : goal.lay_number-f-requires
lay_number-f-requires c = omega (
  arith,
  c.requires,
  (eight_long (bytes_of "(key ") ((num 32).write c.args.l) ((num 32).write c.args.item.key) ((num 32).write c.args.item.bottom) ((num 32).write c.args.item.high) ((num 32).write c.args.item.low) (signed_dec c.args.count) line_end
      ((key_format c.args.l).write (cand_of c.args.item c.args.count)) (key-join c.args.l (cand_of c.args.item c.args.count))),
  c.lay_word-a.ensures.place,
  c.lay_number-b.ensures.place,
  c.lay_number-c.ensures.place,
  c.lay_number-d.ensures.place,
  c.lay_number-e.ensures.place,
)

pub lay_signed-g-requires : goal.lay_signed-g-requires
lay_signed-g-requires c = rw (to_z-of_z c.ranges.count) (omega (
  arith,
  c.requires,
  (eight_long (bytes_of "(key ") ((num 32).write c.args.l) ((num 32).write c.args.item.key) ((num 32).write c.args.item.bottom) ((num 32).write c.args.item.high) ((num 32).write c.args.item.low) (signed_dec c.args.count) line_end
      ((key_format c.args.l).write (cand_of c.args.item c.args.count)) (key-join c.args.l (cand_of c.args.item c.args.count))),
  c.lay_word-a.ensures.place,
  c.lay_number-b.ensures.place,
  c.lay_number-c.ensures.place,
  c.lay_number-d.ensures.place,
  c.lay_number-e.ensures.place,
  c.lay_number-f.ensures.place,
))

pub lay_word-requires : goal.lay_word-requires
lay_word-requires c =
    let e = rw (to_z-of_z c.ranges.count) at c.lay_signed-g.ensures.place in
    omega (
      arith,
      c.requires,
      (eight_long (bytes_of "(key ") ((num 32).write c.args.l) ((num 32).write c.args.item.key) ((num 32).write c.args.item.bottom) ((num 32).write c.args.item.high) ((num 32).write c.args.item.low) (signed_dec c.args.count) line_end
          ((key_format c.args.l).write (cand_of c.args.item c.args.count)) (key-join c.args.l (cand_of c.args.item c.args.count))),
      c.lay_word-a.ensures.place,
      c.lay_number-b.ensures.place,
      c.lay_number-c.ensures.place,
      c.lay_number-d.ensures.place,
      c.lay_number-e.ensures.place,
      c.lay_number-f.ensures.place,
      e,
    )

pub returns : goal.returns
returns c =
    eight_laid ((key_format c.args.l).write (cand_of c.args.item c.args.count)) (key-join c.args.l (cand_of c.args.item c.args.count))
    c.lay_word-a.ensures c.lay_number-b.ensures c.lay_number-c.ensures c.lay_number-d.ensures c.lay_number-e.ensures c.lay_number-f.ensures
    (rw (to_z-of_z c.ranges.count) at c.lay_signed-g.ensures) c.lay_word.ensures
