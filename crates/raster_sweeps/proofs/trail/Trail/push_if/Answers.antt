use Rattle.std.proofs.Common.{◌≡◌, ◌+◌, ◌*◌, ◌∷◌, ◌++◌, [], MatchBool, ap, arith, subst, set}
use Rattle.grid_core.specs.Raster.{index_of}
use Rattle.raster_sweeps.specs.Trail.{trail_of}
use mir.Val.{bool_byte}
use Rattle.raster_sweeps.proofs.Trails.{joins}
use Rattle.raster_sweeps.proofs.trail.Trail.push_if.Goals as goal

pub overflow_add-pixel : goal.overflow_add-pixel
overflow_add-pixel c =
    omega (arith, c.requires.column, c.requires.row, c.self.invariant.narrow, ap (λ t. t.width) c.self.view_is)

pub returns-clause-joined : goal.returns-clause-joined
returns-clause-joined c =
    let p = c.args.pixel in
    let after =
    trail_of c.self.inside.width (set c.self.inside.pixels.items c.self.inside.end (p.y * 65536 + p.x))
    c.self.inside.first (c.self.inside.end + bool_byte c.args.wanted) in
    subst (λ old. MatchBool c.args.wanted (after.cells ≡ old.cells ++ index_of old.width p ∷ []) (after ≡ old))
    c.self.view_is
    (joins c.args.wanted c.self.inside.width c.self.inside.pixels.items c.self.inside.first c.self.inside.end p
    c.self.invariant
    (omega (arith, c.requires.column, ap (λ t. t.width) c.self.view_is))
    (omega (arith, c.requires.room, ap (λ t. t.places) c.self.view_is)))
