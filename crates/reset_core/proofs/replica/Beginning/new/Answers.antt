use Rattle.std.proofs.Common.{◌≡◌, ℕ, List, length, replicate, ap, ◌∙◌, rules}
use Rattle.core_rules.specs.Opening.{blank}
use Rattle.stroke_lattice.specs.State.{State, nothing}
use Rattle.grid_core.specs.Raster.{Raster}
use Rattle.reset_core.specs.Replica.{with_image}
use Rattle.reset_core.proofs.replica.Beginning.new.Goals as goal

pub returns-clause-value : goal.returns-clause-value
returns-clause-value c =
    let zeros : c.in_ok-cells.cells.items ≡ replicate (length c.args.mask.now.cells) 0 =
    c.in_ok-cells.ensures.items_if_clones_equal (λ y. search rules)
    ∙ ap (λ (cells : List ℕ). replicate (length cells) 0) c.cells.ensures.values in
    let image : c.from_cells-image.result ≡ blank c.args.mask.now = c.from_cells-image.ensures
    ∙ (λ i. record { width = c.width.ensures.value i; height = c.height.ensures.value i; cells = zeros i }) in
    let empty = c.in_ok-state.ensures.value in
    c.in_ok-with.ensures
    ∙ ap (λ (state : State). with_image state c.from_cells-image.result c.args.count c.args.first) empty
    ∙ ap (λ (r : Raster). with_image nothing r c.args.count c.args.first) image
