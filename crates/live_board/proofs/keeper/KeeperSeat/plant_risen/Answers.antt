use Rattle.std.proofs.Common.{◌*◌, ◌+◌, arith, min, subst, sym, true, ℕ, ◌≡◌}
use Rattle.grid_core.specs.Raster.{IsBelow, Raster}
use Rattle.live_board.proofs.Planted.{all_known, all_planted, image_later, knows_of, planted_block, planted_none}
use Rattle.live_board.specs.{Planting.HasPlantedIn, Seats.ground_of, Seats.keeper_view, Words.size_of}
use Rattle.live_board.proofs.keeper.KeeperSeat.plant_risen.Goals as goal

pub loop-block-init : goal.loop-block-init
loop-block-init c =
    let base = ground_of c.args.board.now in
    let v = keeper_view c.args.self.now in
    let none : 0 ≡ min (size_of base) 0 = omega arith in
    (c.requires.keeper, subst (λ (n : ℕ). HasPlantedIn base 0 n v v) none (planted_none base 0 v))

pub loop-block-preserved : goal.loop-block-preserved
loop-block-preserved c =
    let base = ground_of c.args.board.now in
    let v = keeper_view c.args.self.now in
    let u = keeper_view c.loop-block.self in
    let w = keeper_view c.plant_block.new.self in
    let from : ℕ = c.loop-block.block * 256 in
    let size : c.size-size.result ≡ size_of base = c.size-size.ensures in
    let begins : min (size_of base) from ≡ from =
    omega (arith, size, c.div_ceil-block-end.ensures, c.loop-block-test.true) in
    let ends : c.min.result ≡ min (size_of base) ((c.loop-block.block + 1) * 256) =
    omega (arith, size, c.min.ensures) in (
      c.plant_block.ensures.keeper,
      subst (λ (n : ℕ). HasPlantedIn base 0 n v w) ends
          (planted_block base from c.min.result v u w
          (subst (λ (n : ℕ). HasPlantedIn base 0 n v u) begins c.loop-block.invariant.1) c.plant_block.ensures.planted),
    )

pub plant_block-requires-clause-before : goal.plant_block-requires-clause-before
plant_block-requires-clause-before c =
    subst (λ (r : Raster). IsBelow c.args.before.now r) (sym c.loop-block.invariant.1.marker) c.requires.before

pub plant_block-requires-clause-known : goal.plant_block-requires-clause-known
plant_block-requires-clause-known c =
    image_later (ground_of c.args.board.now) c.args.before.now (keeper_view c.args.self.now)
    (keeper_view c.loop-block.self) c.requires.known c.loop-block.invariant.1.generation c.loop-block.invariant.1.known

pub invariant_of-self-clause-known : goal.invariant_of-self-clause-known
invariant_of-self-clause-known c =
    let base = ground_of c.args.board.now in
    let w = keeper_view c.loop-block.self in
    all_known true w (knows_of base w c.loop-block.invariant.0.below
    (all_planted base (min (size_of base) (c.loop-block.block * 256)) (keeper_view c.args.self.now) w
    c.loop-block.invariant.1
    (omega (arith, c.size-size.ensures, c.div_ceil-block-end.ensures, c.loop-block-test.false))))

pub returns-clause-planted : goal.returns-clause-planted
returns-clause-planted c =
    let base = ground_of c.args.board.now in
    all_planted base (min (size_of base) (c.loop-block.block * 256)) (keeper_view c.args.self.now)
    (keeper_view c.loop-block.self) c.loop-block.invariant.1
    (omega (arith, c.size-size.ensures, c.div_ceil-block-end.ensures, c.loop-block-test.false))
