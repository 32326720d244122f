-- What the tactics leave open of `take_own`.
use Rattle.tiled_image.proofs.OwnRims.{own_taken}
use Rattle.tiled_image.proofs.rims.taking.take_own.Goals as goal

pub returns : goal.returns
returns c =
    let a = c.args in
    own_taken a.tiling.now a.image.now a.tile c.side.ensures.tiled c.requires.tile a.own.now c.take_edge.new.own
    c.take_edge-2.new.own c.take_edge-3.new.own c.take_edge-4.new.own c.take_edge.ensures c.take_edge-2.ensures
    c.take_edge-3.ensures c.take_edge-4.ensures
