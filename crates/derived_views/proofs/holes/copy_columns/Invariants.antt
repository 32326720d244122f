use Rattle.std.proofs.Common.{◌≡◌, ◌+◌, ◌<◌, ◌⊎◌}
use Rattle.derived_views.proofs.holes.copy_columns.Given as goal
use Rattle.derived_views.specs.Rasters.{Copies}

-- the rows so far
abbrev pub invariant-loop-y : goal.invariant-loop-y
invariant-loop-y l =
    Copies (λ p. (p.y < l.y) × ((p.x ≡ 0) ⊎ (p.x + 1 ≡ l.grid.width))) l.grid l.fn.border l.border
