-- A layer that is lent to be read, as a contract names it.
use Rattle.layer.specs.Layer.{Layer}
use Rattle.layer.specs.inner.Needs.{layer_of}
use Rattle.layout.specs.declared.lending.LentLayer.{LentLayer}

abbrev pub layer_read : LentLayer → Layer
layer_read y = layer_of y.dims y.cells.now y.norms.now y.entries.now y.counts.now y.len y.flag
