use Rattle.std.proofs.Common.{◌+◌, ◌*◌, ◌/◌, ap, ◌∙◌, arith}
use Rattle.grid_core.specs.Tiles.{Tiles}
use Rattle.grid_core.proofs.Tilings.{tile_of-within}
use Rattle.grid_core.proofs.tiling.Tiling.tile_of.Goals as goal

pub returns-clause-within : goal.returns-clause-within
returns-clause-within c =
    let t = c.args.self.now in
    let p = c.args.p in
    let is = ap (λ s. p.y / s * c.columns.result + p.x / s) (ap (λ (t : Tiles). t.side) c.self.view_is)
    ∙ ap (λ n. p.y / t.side * n + p.x / t.side) c.columns.ensures.value in
    omega (arith, is, tile_of-within t p c.columns.ensures.tiled c.requires)
