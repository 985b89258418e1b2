-- `countsketch_l2_norm::straight::update_five` meets its contract.
use mir.Syntax.{w64}
use mathlib.Core.Path.{◌∙◌}
use native.Mathlib.Omega.{arith}
use borrow.Author.Rules.{sfits_of}
use mir.Facts.{to_z-of_z}
use Rattle.countsketch_l2_norm.proofs.Places.{place_asks}
use Rattle.countsketch_l2_norm.proofs.straight.update_five.Goals as goal

pub mask_bits-bits-requires : goal.mask_bits-bits-requires
mask_bits-bits-requires c = c.requires.shaped.some

pub place-a-requires : goal.place-a-requires
place-a-requires c =
    let t = place_asks 5 c.args.cols 0 _ c.requires.shaped (omega arith) c.mask_bits-bits.ensures in
    record {
      le_cols = t.0;
      r_lt_max_rows = t.1;
    }

pub place-b-requires : goal.place-b-requires
place-b-requires c =
    let t = place_asks 5 c.args.cols 1 _ c.requires.shaped (omega arith) c.mask_bits-bits.ensures in
    record {
      le_cols = t.0;
      r_lt_max_rows = t.1;
    }

pub place-c-requires : goal.place-c-requires
place-c-requires c =
    let t = place_asks 5 c.args.cols 2 _ c.requires.shaped (omega arith) c.mask_bits-bits.ensures in
    record {
      le_cols = t.0;
      r_lt_max_rows = t.1;
    }

pub place-d-requires : goal.place-d-requires
place-d-requires c =
    let t = place_asks 5 c.args.cols 3 _ c.requires.shaped (omega arith) c.mask_bits-bits.ensures in
    record {
      le_cols = t.0;
      r_lt_max_rows = t.1;
    }

pub place-e-requires : goal.place-e-requires
place-e-requires c =
    let t = place_asks 5 c.args.cols 4 _ c.requires.shaped (omega arith) c.mask_bits-bits.ensures in
    record {
      le_cols = t.0;
      r_lt_max_rows = t.1;
    }

pub update_five_at-requires : goal.update_five_at-requires
update_five_at-requires c = record {
  ready = c.requires;
  a_value = (c.place-a.ensures, (c.place-b.ensures, (c.place-c.ensures, (c.place-d.ensures, c.place-e.ensures))));
}

pub shape_of-counters : goal.shape_of-counters
shape_of-counters c = c.update_five_at.auto.counters

pub shape_of-norms : goal.shape_of-norms
shape_of-norms c = c.update_five_at.auto.norms

pub returns : goal.returns
returns c =
    let u = c.update_five_at in
    record {
      norms_after = u.ensures.norms_after;
      value = to_z-of_z {w = w64} (sfits_of u.type_inv) ∙ u.ensures.value;
    }
