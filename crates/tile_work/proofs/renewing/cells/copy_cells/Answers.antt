-- What the tactics leave open of `copy_cells`.
use Rattle.std.proofs.Common.{◌≡◌, refl, slice_range}
use Rattle.std.proofs.{lemmas.Bool.Decides.Decides-eqb, lemmas.Slice.Eq.slice_eq-Decides}
use Rattle.tile_work.proofs.RenewingSpans.{copied_already}
use Rattle.tile_work.proofs.renewing.cells.copy_cells.Goals as goal

pub returns-then-eq : goal.returns-then-eq
returns-then-eq c =
    let same : slice_range c.args.image.now.cells c.args.from c.args.to
    ≡ slice_range c.args.marker.now.cells c.args.from c.args.to =
    rw (← c.cells-2.ensures.values, ← c.cells.ensures.values)
    ((slice_eq-Decides Decides-eqb _ _ _ c.if-eq.ensures).0 refl) in
    copied_already c.args.from c.args.to c.args.marker.now c.args.image.now same
