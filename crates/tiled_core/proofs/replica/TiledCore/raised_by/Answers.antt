-- What the tactics leave open of `raised_by`.
use Rattle.std.proofs.Common.{subst, sym}
use Rattle.grid_core.specs.Raster.{Raster}
use Rattle.core_rules.specs.Sweeps.{tile_rect}
use Rattle.reset_core.specs.Parts.{IsPieceFor, IsRaisedPart}
use Rattle.tiled_core.proofs.StoredCore.{is_kept_tile, kept_tile_fits, of_core, of_kept}
use Rattle.tiled_core.proofs.replica.TiledCore.raised_by.Goals as goal

pub raised_part-requires-clause-tile : goal.raised_part-requires-clause-tile
raised_part-requires-clause-tile c =
    is_kept_tile c.self.inside c.args.self.now c.self.view_is c.self.invariant c.args.tile c.requires.is_tile

pub raised_part-requires-clause-piece : goal.raised_part-requires-clause-piece
raised_part-requires-clause-piece c =
    of_kept c.self.inside c.args.self.now c.self.view_is c.self.invariant
    (λ rect whole. IsPieceFor rect whole c.args.piece.now) c.args.tile (record {
      fits =
          kept_tile_fits c.self.inside c.args.self.now c.self.view_is c.self.invariant c.args.tile c.requires.is_tile;
      width = c.requires.width;
      height = c.requires.height;
    })

pub returns-clause-raised : goal.returns-clause-raised
returns-clause-raised c =
    subst (λ (part : Raster). IsRaisedPart (tile_rect c.args.self.now c.args.tile) c.args.self.now.image
    c.args.piece.now part) (sym c.in_ok-held.ensures.ok)
    (of_core c.self.inside c.args.self.now c.self.view_is c.self.invariant
    (λ rect whole. IsRaisedPart rect whole c.args.piece.now c.in_ok-raised.raised) c.args.tile c.in_ok-raised.ensures)
