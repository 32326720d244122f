use Rattle.std.proofs.Common.{subst, IfSome}
use Rattle.raster_sweeps.specs.Growth.{IsClosedIn, rows_of}
use Rattle.raster_sweeps.specs.OpenBounds.{RiseWithin}
use Rattle.raster_sweeps.proofs.Grown.{grown_up, regrown}
use Rattle.raster_sweeps.proofs.growth.grow_rows_from_bounds.Goals as goal

pub returns-in-Some-clause-regrown : goal.returns-in-Some-clause-regrown
returns-in-Some-clause-regrown c =
    let mask = rows_of c.args.size c.args.mask.now in
    let after = rows_of c.args.size c.raise_from_bounds-risen.new.image in
    regrown c.requires.close.filled c.raise_from_bounds-risen.ensures.grown
    (subst (λ o. IfSome o (λ bounds. IsClosedIn c.args.conn c.args.rect mask after)) c.in-Some.is
    c.raise_from_bounds-risen.ensures.closed)

pub returns-in-Some-clause-rises : goal.returns-in-Some-clause-rises
returns-in-Some-clause-rises c =
    let before = rows_of c.args.size c.args.image.now in
    let after = rows_of c.args.size c.raise_from_bounds-risen.new.image in
    subst (λ o. IfSome o (λ bounds. RiseWithin c.args.rect before after c.args.bounds bounds)) c.in-Some.is
    c.raise_from_bounds-risen.ensures.rises

pub returns-clause-regrown : goal.returns-clause-regrown
returns-clause-regrown c =
    let twice = grown_up c.raise_from_bounds-risen.ensures.grown c.close.ensures in
    regrown c.requires.close.filled twice.grown twice.closed
