-- What the tactics leave open of `into_core`.
use Rattle.tiled_core.proofs.replica.TiledCore.into_core.Goals as goal

pub into_core-requires : goal.into_core-requires
into_core-requires c = rw c.into_rows.ensures c.self.invariant.stored

pub returns : goal.returns
returns c = rw (c.into_core.ensures, c.into_rows.ensures) c.self.view_is
