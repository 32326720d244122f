use Rattle.std.proofs.Common.{◌∙◌, arith}
use Rattle.raster_sweeps.proofs.Beside.{can_join, from_row, on_at, on_twice, on_wide, stands_still, to_row}
use Rattle.raster_sweeps.proofs.raising.raise_three.Goals as goal

pub raise_left-requires : goal.raise_left-requires
raise_left-requires c = record {
  has = c.requires.has;
  inside = c.requires.inside;
  place = c.requires.place;
  room = omega (arith, c.requires.room);
}

pub raise_on-requires : goal.raise_on-requires
raise_on-requires c =
    let stands = stands_still c.requires 2 c.raise_left.ensures (omega arith) in
    can_join stands c.args.p stands.inside stands.place (omega arith)

pub raise_right-requires : goal.raise_right-requires
raise_right-requires c =
    stands_still (stands_still c.requires 2 c.raise_left.ensures (omega arith)) 1 c.raise_on.ensures (omega arith)

pub returns : goal.returns
returns c =
    let same = c.raise_on.ensures.width ∙ c.raise_left.ensures.width in
    on_at (on_twice (on_twice c.raise_left.ensures c.raise_on.ensures)
    (on_wide c.args.rect same c.raise_right.ensures))
    (to_row c.args.rect c.args.trail.now.width c.args.p c.requires.inside c.requires.place)
    (from_row c.args.rect c.args.trail.now.width c.args.p c.requires.inside c.requires.place)
