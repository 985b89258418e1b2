-- `state_reader::judge::judge_page` meets its contract.
use Prim.Native.Nat.{◌*◌}
use mathlib.Core.Path.{sym}
use lib.ListN.{drop}
use lib.Seq.{length-take-le}
use Rattle.state_forms.specs.Grammar.{page_format}
use Rattle.state_text.specs.Pages.{frame_of}
use Rattle.state_reader.proofs.PageSteps.{forget_is, forget_bad}
use Rattle.state_reader.proofs.judge.judge_page.Goals as goal

pub slice_bounds-read_page-end-3 : goal.slice_bounds-read_page-end-3
slice_bounds-read_page-end-3 c = sym (length-take-le (4 * c.args.dims.size) c.args.words.now c.requires.size_in_bounds.0)

pub slice_bounds-read_page-end-5 : goal.slice_bounds-read_page-end-5
slice_bounds-read_page-end-5 c = sym (length-take-le c.args.dims.size c.args.seats.now c.requires.size_in_bounds.1)

pub read_page-requires : goal.read_page-requires
read_page-requires c = record { small = c.requires.small; words = length-take-le (4 * c.args.dims.size) c.args.words.now c.requires.size_in_bounds.0; counts = length-take-le c.args.dims.size c.args.seats.now c.requires.size_in_bounds.1 }

pub returns-in_err-end : goal.returns-in_err-end
returns-in_err-end c = rw c.from_residual.ensures (forget_bad ((page_format (frame_of c.args.dims) c.args.l).read (drop c.args.at c.args.s.now)) c.in_err-end.ensures.result_value)

pub returns : goal.returns
returns c = forget_is ((page_format (frame_of c.args.dims) c.args.l).read (drop c.args.at c.args.s.now)) _ _ (drop c.in_ok-end.end c.args.s.now) c.in_ok-end.ensures.result_value
