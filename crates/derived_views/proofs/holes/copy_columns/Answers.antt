use Rattle.std.proofs.Common.{◌≡◌, ◌+◌, ◌-◌, arith, inl, inr}
use Rattle.derived_views.proofs.holes.copy_columns.Goals as goal
use Rattle.std.proofs.lemmas.Bool.{cases_lt}
use Rattle.grid_core.proofs.Pixels.{same_pixel}
use Rattle.derived_views.proofs.Borders.{copies_both, copies_some}

pub loop-y-preserved : goal.loop-y-preserved
loop-y-preserved c =
    let width : c.width-last.result - 1 + 1 ≡ c.args.grid.now.width =
    omega (arith, c.width-last.ensures.value, c.width-last.ensures.sized.size) in
    copies_some (copies_both (copies_both c.loop-y.invariant c.copy_pixel.ensures) c.copy_pixel-in-loop-y.ensures)
    (λ p _ (below, side).
    elim (cases_lt p.y c.loop-y.y) [
      | inl earlier ↦ inl (inl (earlier, side))
      | inr here ↦ elim side [
        | inl left ↦ inl (inr (same_pixel p _ left (omega (arith, here, below))))
        | inr right ↦ inr (same_pixel p _ (omega (arith, right, width)) (omega (arith, here, below)))
      ]
    ])

pub returns : goal.returns
returns c =
    copies_some c.loop-y.invariant (λ p inside side. (
      omega (arith, inside.1, c.loop-y-test.false, c.loop-y.auto.y-end, c.height-y-end.ensures.value),
      side,
    ))
