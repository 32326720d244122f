-- What the tactics leave open of `set_in_rows`.
use Rattle.std.proofs.Common.{ap, sym, ◌∙◌, if◌then◌else◌}
use Rattle.grid_core.specs.Raster.{with_value}
use Rattle.tiled_image.proofs.keeping.set_in_rows.Goals as goal

pub returns-then-not-contains : goal.returns-then-not-contains
returns-then-not-contains c =
    let rows = c.args.rows.now in
    c.set.ensures
    ∙ sym (ap (λ b. if b then rows else with_value rows c.args.p c.args.value)
    (sym c.contains.ensures ∙ c.if-not-contains.true))

pub returns-else-not-contains : goal.returns-else-not-contains
returns-else-not-contains c =
    let rows = c.args.rows.now in
    sym (ap (λ b. if b then rows else with_value rows c.args.p c.args.value)
    (sym c.contains.ensures ∙ c.if-not-contains.false))
