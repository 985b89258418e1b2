-- `estimates::norms::norms_read_at` meets its contract.
use native.Mathlib.Omega.{arith}
use Rattle.layout.proofs.Offsets.{shaped-at}
use Rattle.layout.proofs.Pieces.{norms-long}
use Rattle.estimates.proofs.norms.norms_read_at.Goals as goal

pub norms_at-requires : goal.norms_at-requires
norms_at-requires c = record {
  accepted = c.requires.normed.accepted;
  l_lt_layers = c.requires.l_lt_layers;
  norms_len = c.requires.normed.words;
}

pub norms_in-requires : goal.norms_in-requires
norms_in-requires c =
    let a = c.args in
    rw (c.dims-dims.ensures, c.norms_at.ensures) ((shaped-at a.shape c.requires.normed.accepted a.l).few, omega (arith, norms-long a.shape a.l c.requires.l_lt_layers a.norms.now c.requires.normed.words))

pub returns : goal.returns
returns c = rw (c.dims-dims.ensures, c.norms_at.ensures) at c.norms_in.ensures
