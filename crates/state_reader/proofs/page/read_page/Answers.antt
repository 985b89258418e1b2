-- `state_reader::page::read_page` meets its contract.
use Prim.Native.Nat.{suc}
use mathlib.Core.Path.{◌≡◌, sym, ap, ◌∙◌}
use mathlib.Core.List.{List}
use lib.ListN.{length, drop, length-replicate}
use lib.IntN.{ℤ, pos}
use native.Mathlib.Omega.{arith}
use Rattle.heap_moves.specs.Cands.{Cand}
use Rattle.heap_moves.specs.Flat.{cands_of}
use Rattle.state_check.specs.Check.{seats_ok}
use Rattle.state_forms.specs.Formats.{got}
use Rattle.state_forms.specs.Sparse.{sparse_r}
use Rattle.state_forms.specs.Grammar.{row_listing, keys_r, flag_format, page_format}
use Rattle.state_text.specs.Pages.{table_from, frame_of}
use Rattle.state_lines.proofs.Known.{known, known_bad, known_many, known_many_bad}
use Rattle.state_reader.proofs.PageSteps.{page_0, page_1, page_2, page_3, page_4, page_refused, page_given, cands-zero, keys-few, keys_kept, seats_are}
use Rattle.state_reader.proofs.page.read_page.Goals as goal
use Rattle.state_reader.proofs.page.read_page.Goals.{After-seats_ok, In_ok-flag, In_ok-q, In_ok-len}

flag-of : (c : In_ok-flag) → (flag_format c.args.l).read (drop c.args.at c.args.s.now) ≡ got c.in_ok-flag.flag (drop c.in_ok-flag.p c.args.s.now)
flag-of c = sym c.in_ok-flag.ensures

rows_of : (c : In_ok-q) → (rs : List (List ℤ)) × ((sparse_r (row_listing c.args.l c.args.dims.cols) (suc c.args.dims.rows) 0 c.args.dims.rows (drop c.in_ok-flag.p c.args.s.now)) ≡ got rs (drop c.in_ok-q.q c.args.s.now))
rows_of c = known (sparse_r (row_listing c.args.l c.args.dims.cols) (suc c.args.dims.rows) 0 c.args.dims.rows (drop c.in_ok-flag.p c.args.s.now)) (drop c.in_ok-q.q c.args.s.now) c.in_ok-q.ensures.result_value

keys_of : (c : In_ok-len) → (cs : List Cand) × (((keys_r c.args.l c.args.dims.size (drop c.in_ok-q.q c.args.s.now)) ≡ got cs (drop c.in_ok-len.end c.args.s.now)) × (c.in_ok-len.len ≡ length cs))
keys_of c = known_many (keys_r c.args.l c.args.dims.size (drop c.in_ok-q.q c.args.s.now)) c.in_ok-len.len (drop c.in_ok-len.end c.args.s.now) c.in_ok-len.ensures.result_value

cands-now : (c : In_ok-len) → cands_of c.read_keys.new.entries c.read_keys.new.counts ≡ (table_from c.args.dims.size (keys_of c).0).cands
cands-now c =
    let k = keys_of c in
    keys_kept c.args.dims.size k.0 (cands_of c.fill.new.self c.fill-2.new.self) (cands_of c.read_keys.new.entries c.read_keys.new.counts) (keys-few c.args.l c.args.dims.size (drop c.in_ok-q.q c.args.s.now) k.0 (drop c.in_ok-len.end c.args.s.now) (omega (arith, c.ranges.l)) k.1.0)
    (cands-zero c.args.dims.size c.args.entries.now c.fill.new.self c.args.counts.now c.fill-2.new.self (c.fill.ensures.after (λ y e. e)) (c.fill-2.ensures.after (λ y e. e)) c.requires.words c.requires.counts)
    (c.read_keys.ensures.counts_after k.0 (drop c.in_ok-len.end c.args.s.now) k.1.0)

seats : (c : After-seats_ok) → seats_ok (table_from c.args.dims.size (keys_of (goal.at.After-seats_ok c).In_ok-len).0) c.args.dims.size 0 ≡ c.seats_ok.result
seats c = seats_are c.args.dims.size c.in_ok-len.len (keys_of (goal.at.After-seats_ok c).In_ok-len).0 c.read_keys.new.entries c.read_keys.new.counts c.seats_ok.result (cands-now (goal.at.After-seats_ok c).In_ok-len) (keys_of (goal.at.After-seats_ok c).In_ok-len).1.1 c.seats_ok.ensures

pub returns-in_err-flag : goal.returns-in_err-flag
returns-in_err-flag c =
    let t = page_refused ((page_format (frame_of c.args.dims) c.args.l).read (drop c.args.at c.args.s.now)) _ (page_0 c.args.dims c.args.l (drop c.args.at c.args.s.now) (sym c.in_err-flag.ensures)) in
    record {
      result_value = rw c.from_residual.ensures t.0;
      cells_after = t.1;
    }

pub returns-in_err-q : goal.returns-in_err-q
returns-in_err-q c =
    let t = page_refused ((page_format (frame_of c.args.dims) c.args.l).read (drop c.args.at c.args.s.now)) _ (page_1 c.args.dims c.args.l (drop c.args.at c.args.s.now) (flag-of (goal.at.returns-in_err-q c).In_ok-flag) (known_bad (sparse_r (row_listing c.args.l c.args.dims.cols) (suc c.args.dims.rows) 0 c.args.dims.rows (drop c.in_ok-flag.p c.args.s.now)) c.in_err-q.ensures.result_value)) in
    record {
      result_value = rw c.from_residual-in_err-q.ensures t.0;
      cells_after = t.1;
    }

pub returns-in_err-len : goal.returns-in_err-len
returns-in_err-len c =
    let t = page_refused ((page_format (frame_of c.args.dims) c.args.l).read (drop c.args.at c.args.s.now)) _ (page_2 c.args.dims c.args.l (drop c.args.at c.args.s.now) (flag-of (goal.at.returns-in_err-len c).In_ok-flag) (rows_of (goal.at.returns-in_err-len c).In_ok-q).1 (known_many_bad (keys_r c.args.l c.args.dims.size (drop c.in_ok-q.q c.args.s.now)) c.in_err-len.ensures.result_value)) in
    record {
      result_value = rw c.from_residual-in_err-len.ensures t.0;
      cells_after = t.1;
    }

pub seats_ok-requires : goal.seats_ok-requires
seats_ok-requires c =
    let e = c.read_keys.auto.entries ∙ ap length (c.fill.ensures.after (λ y e. e)) ∙ length-replicate (length c.args.entries.now) 0 ∙ c.requires.words in
    let n = c.read_keys.auto.counts ∙ ap length (c.fill-2.ensures.after (λ y e. e)) ∙ length-replicate (length c.args.counts.now) (pos 0) ∙ c.requires.counts in
    record {
      size_in_bounds = (omega (arith, n), omega (arith, e));
      size_le_most_cands = c.requires.small.size;
    }

pub returns-then-not-seats_ok : goal.returns-then-not-seats_ok
returns-then-not-seats_ok c =
    let t = page_refused ((page_format (frame_of c.args.dims) c.args.l).read (drop c.args.at c.args.s.now)) _ (page_3 c.args.dims c.args.l (drop c.args.at c.args.s.now) (flag-of (goal.at.returns-then-not-seats_ok c).In_ok-flag) (rows_of (goal.at.returns-then-not-seats_ok c).In_ok-q).1 (keys_of (goal.at.returns-then-not-seats_ok c).In_ok-len).1.0 (seats (goal.at.returns-then-not-seats_ok c).After-seats_ok ∙ c.if-not-seats_ok.true)) in
    record {
      result_value = t.0;
      cells_after = t.1;
    }

pub returns : goal.returns
returns c =
    let r = rows_of (goal.at.returns c).In_ok-q in
    let k = keys_of (goal.at.returns c).In_ok-len in
    let t = page_given ((page_format (frame_of c.args.dims) c.args.l).read (drop c.args.at c.args.s.now)) _ (record { flag = c.in_ok-flag.flag; rows = r.0; keys = k.0 }) c.in_ok-len.len (drop c.in_ok-len.end c.args.s.now)
    (page_4 c.args.dims c.args.l (drop c.args.at c.args.s.now) (flag-of (goal.at.returns c).In_ok-flag) r.1 k.1.0 (seats (goal.at.returns c).After-seats_ok ∙ c.if-not-seats_ok.false)) k.1.1
    (c.read_rows.ensures.cells_after r.0 (drop c.in_ok-q.q c.args.s.now) r.1, cands-now (goal.at.returns c).In_ok-len) in
    record {
      result_value = t.0;
      cells_after = t.1;
    }
