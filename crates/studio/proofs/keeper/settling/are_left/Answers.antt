use Rattle.std.proofs.Common.{arith, ◌≡◌, ◌≤◌, ◌↔◌, ◌+◌, ◌-◌, ℕ, suc, subst}
use Rattle.tile_work.proofs.HittingRects.{no_where, yes_where}
use Rattle.studio.specs.Left.{HasAtLeast, IsLeft}
use Rattle.studio.proofs.Left.{behind_least, from_zero, none_from, of_none}
use Rattle.studio.proofs.keeper.settling.are_left.Goals as goal

pub loop-tile-init : goal.loop-tile-init
loop-tile-init c = λ n is.
    let all : n ≡ c.args.count = omega (arith, is) in
    subst (λ (m : ℕ). HasAtLeast m (IsLeft c.args.core.now) ↔ HasAtLeast n (λ t. (0 ≤ t) × IsLeft c.args.core.now t))
    all (from_zero (IsLeft c.args.core.now) n)

pub returns-in_default : goal.returns-in_default
returns-in_default c =
    let n : ℕ = c.args.count - (c.loop-tile._tile + 1) in
    let is : suc n + c.loop-tile._tile ≡ c.args.count = omega (arith, c.loop-tile-test.true) in
    no_where (HasAtLeast c.args.count (IsLeft c.args.core.now)) (λ many.
    none_from (IsLeft c.args.core.now) c.loop-tile.from n c.in_default.ensures
    ((c.loop-tile.invariant (suc n) is).0 many))

pub loop-tile-preserved : goal.loop-tile-preserved
loop-tile-preserved c = λ n is.
    let (here, back) = c.loop-tile.invariant (suc n) (omega (arith, is)) in
    let (next, before) = behind_least (IsLeft c.args.core.now) c.loop-tile.from c.in-Some.tile c.in-Some.ensures n in
    (λ many. next (here many), λ rest. back (before rest))

pub returns : goal.returns
returns c =
    let is : 0 + c.loop-tile._tile ≡ c.args.count = omega arith in
    yes_where (HasAtLeast c.args.count (IsLeft c.args.core.now)) ((c.loop-tile.invariant 0 is).1 (of_none _))
