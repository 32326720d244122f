use Rattle.std.proofs.Common.{arith, inr}
use Rattle.raster_sweeps.proofs.Beside.{can_stand, near_is, pixel_has_spread}
use Rattle.raster_sweeps.proofs.raising.spread_on.Goals as goal

pub raise_beside-requires-clause-at : goal.raise_beside-requires-clause-at
raise_beside-requires-clause-at c =
    can_stand c.requires.close c.requires.pixel c.requires.width 4 (omega (arith, c.requires.room))

pub raise_near-requires-clause-at : goal.raise_near-requires-clause-at
raise_near-requires-clause-at c =
    can_stand c.requires.close c.requires.pixel c.requires.width 9 (omega (arith, c.requires.room))

pub returns-in-Four-clause-spread : goal.returns-in-Four-clause-spread
returns-in-Four-clause-spread c =
    rw c.in-Four.is (pixel_has_spread c.requires.close c.requires.pixel c.requires.width c.requires.inside
    (λ q beside. inr beside) (λ q beside. beside) c.raise_beside.ensures)

pub returns-in-Eight-clause-spread : goal.returns-in-Eight-clause-spread
returns-in-Eight-clause-spread c =
    rw c.in-Eight.is (pixel_has_spread c.requires.close c.requires.pixel c.requires.width c.requires.inside
    (near_is c.args.pixel) (λ q beside. (beside.0, beside.1)) c.raise_near.ensures)
