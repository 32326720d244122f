use Rattle.std.proofs.Common.{◌≡◌, ◌+◌, ◌-◌, arith, inl, inr}
use Rattle.derived_views.proofs.holes.copy_rows.Goals as goal
use Rattle.std.proofs.lemmas.Bool.{cases_lt}
use Rattle.grid_core.proofs.Pixels.{same_pixel}
use Rattle.derived_views.proofs.Borders.{copies_both, copies_some}

pub loop-x-preserved : goal.loop-x-preserved
loop-x-preserved c =
    let height : c.height-last.result - 1 + 1 ≡ c.args.grid.now.height =
    omega (arith, c.height-last.ensures.value, c.height-last.ensures.sized.size) in
    copies_some (copies_both (copies_both c.loop-x.invariant c.copy_pixel.ensures) c.copy_pixel-in-loop-x.ensures)
    (λ p _ (before, side).
    elim (cases_lt p.x c.loop-x.x) [
      | inl earlier ↦ inl (inl (earlier, side))
      | inr here ↦ elim side [
        | inl top ↦ inl (inr (same_pixel p _ (omega (arith, here, before)) top))
        | inr bottom ↦ inr (same_pixel p _ (omega (arith, here, before)) (omega (arith, bottom, height)))
      ]
    ])

pub returns : goal.returns
returns c =
    copies_some c.loop-x.invariant (λ p inside side. (
      omega (arith, inside.0, c.loop-x-test.false, c.loop-x.auto.x-end, c.width-x-end.ensures.value),
      side,
    ))
