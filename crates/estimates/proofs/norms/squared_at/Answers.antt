-- `estimates::norms::squared_at` meets its contract.
use native.Mathlib.Omega.{arith}
use Rattle.layout.proofs.Offsets.{shaped-at}
use Rattle.layout.proofs.Pieces.{norms-long}
use Rattle.estimates.proofs.norms.squared_at.Goals as goal

pub norms_at-requires : goal.norms_at-requires
norms_at-requires c = record {
  accepted = c.requires.normed.accepted;
  l_lt_layers = c.requires.l_lt_layers;
  norms_len = c.requires.normed.words;
}

pub l2_squared-requires : goal.l2_squared-requires
l2_squared-requires c =
    let a = c.args in
    let q = shaped-at a.shape c.requires.normed.accepted a.l in
    rw (c.dims-dims.ensures, c.norms_at.ensures) (q.tall, (q.few, omega (arith, norms-long a.shape a.l c.requires.l_lt_layers a.norms.now c.requires.normed.words)))

pub returns : goal.returns
returns c = rw (c.dims-dims.ensures, c.norms_at.ensures) at c.l2_squared.ensures
