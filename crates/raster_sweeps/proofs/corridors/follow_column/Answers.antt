use Rattle.std.proofs.Common.{◌≡◌, ◌+◌, ◌-◌, ◌<◌, suc, length, arith, subst, sym}
use Rattle.grid_core.specs.declared.conn.Conn.TheVariants.{Four}
use Rattle.raster_sweeps.specs.{Corridors.IsFollowed, Corridors.IsWay, Growth.rows_of}
use Rattle.raster_sweeps.proofs.Growing.{can_close_on}
use Rattle.raster_sweeps.proofs.Ways.{followed_nowhere, followed_on, way_on, way_within}
use Rattle.raster_sweeps.proofs.corridors.follow_column.Goals as goal

pub loop-init : goal.loop-init
loop-init c =
    let size = c.args.size in
    record {
      followed = λ conn.
          followed_nowhere
          c.requires.close (c.requires.way.here, c.requires.way.here_inside, c.requires.way.here_cell);
      way =
          let all : c.args.count ≡ c.args.count - 0 = omega arith in
          subst (IsWay c.args.rect size.w c.args.behind c.args.cell) all c.requires.way;
      behind = c.requires.behind;
    }

pub raise_next-requires-clause-close : goal.raise_next-requires-clause-close
raise_next-requires-clause-close c = can_close_on c.requires.close (c.loop.invariant.followed Four).grown

pub returns-then-not-raise_next : goal.returns-then-not-raise_next
returns-then-not-raise_next c conn =
    let size = c.args.size in
    subst (λ cells. IsFollowed conn c.args.rect (rows_of size c.args.mask.now) (rows_of size c.args.image.now)
    (rows_of size cells) c.args.cell c.loop.at) (sym c.if-not-raise_next.ensures) (c.loop.invariant.followed conn)

-- the way goes on by a row at least
some_way : (c : goal.Else-not-raise_next)
    → IsWay c.args.rect c.args.size.w c.loop.last c.loop.at (suc (c.args.count - (c.loop.counter + 1)))
some_way c =
    let rest : c.args.count - c.loop.counter ≡ suc (c.args.count - (c.loop.counter + 1)) =
    omega (arith, c.loop-test.true) in
    subst (IsWay c.args.rect c.args.size.w c.loop.last c.loop.at) rest c.loop.invariant.way

-- the cell is one of the image, and lies before the one that is as far beyond it as the one behind
within_image : (c : goal.Else-not-raise_next)
    → (c.loop.at < length c.loop.image) × (c.loop.last < c.loop.at + c.loop.at)
within_image c =
    let fits = way_within (can_close_on c.requires.close (c.loop.invariant.followed Four).grown) (some_way c) in
    (fits.0, omega (arith, fits.1))

pub overflow_add-next : goal.overflow_add-next
overflow_add-next c =
    omega (
      arith,
      (within_image c).0,
      (c.loop.invariant.followed Four).grown.filled,
      c.requires.close.filled,
      c.requires.close.size.pixels_within,
    )

pub overflow_sub-next : goal.overflow_sub-next
overflow_sub-next c = omega (arith, (within_image c).1)

pub loop-preserved : goal.loop-preserved
loop-preserved c =
    let passed = c.if-not-raise_next.ensures in
    record {
      followed = λ conn. followed_on (c.loop.invariant.followed conn) (passed.followed conn);
      way = way_on (some_way c);
      behind = passed.shut;
    }
