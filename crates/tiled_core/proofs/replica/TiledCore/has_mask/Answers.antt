-- What the tactics leave open of `has_mask`.
use Rattle.std.proofs.Common.{sym, subst}
use Rattle.grid_core.specs.Rects.{IsPart}
use Rattle.reset_core.proofs.Masking.{shared_part, all_fits, part_by_cut, cut_by_part}
use Rattle.tiled_core.specs.Stored.{parts_of}
use Rattle.tiled_core.proofs.replica.TiledCore.has_mask.Goals.{In-Some}
use Rattle.tiled_core.proofs.replica.TiledCore.has_mask.Goals as goal

-- the mask that was cut out is the part of the mask in the tile's rectangle
is_cut : (c : In-Some) → IsPart c.rect-rect.result c.args.self.now.mask c.in-Some.mask.now
is_cut c =
    subst (λ r. IsPart r c.args.self.now.mask c.in-Some.mask.now) (sym c.rect-rect.ensures.rect)
    (shared_part (parts_of c.self.inside) c.args.self.now c.self.view_is c.self.invariant.stored c.args.tile
    c.in-Some.mask.now c.in-Some.ensures)

pub is_part-requires : goal.is_part-requires
is_part-requires c =
    all_fits c.rect-rect.result c.args.self.now.mask c.in-Some.mask.now (is_cut c) c.rect-rect.ensures.mask

pub returns-in-Some : goal.returns-in-Some
returns-in-Some c =
    let at = (goal.at.returns-in-Some c).In-Some in
    let rect = c.rect-rect.result in
    let mask = c.args.self.now.mask in
    let piece = c.args.piece.now in (
      λ yes. subst (λ r. IsPart r mask piece) c.rect-rect.ensures.rect
          (part_by_cut rect mask c.in-Some.mask.now (is_cut at) piece (c.is_part.ensures.0 yes)),
      λ is. c.is_part.ensures.1 (cut_by_part rect mask c.in-Some.mask.now (is_cut at) piece
          (subst (λ r. IsPart r mask piece) (sym c.rect-rect.ensures.rect) is)),
    )
