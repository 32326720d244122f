use Rattle.std.proofs.Common.{◌≡◌, ◌∙◌, ◌∷◌, ◌++◌, [], ap, arith, false, refl, true}
use Rattle.std.proofs.lemmas.Bool.{false≢true}
use Rattle.grid_core.specs.Raster.{index_of}
use Rattle.raster_sweeps.proofs.OpenCells.{cell_joined, lies_in_image, none_open_joined}
use Rattle.raster_sweeps.proofs.Trails.{last_joined}
use Rattle.raster_sweeps.proofs.open_cells.queue_if_open.Goals as goal

pub returns-then-not-can_raise-clause-joined : goal.returns-then-not-can_raise-clause-joined
returns-then-not-can_raise-clause-joined c =
    none_open_joined (λ p q raises here. false≢true (c.if-not-can_raise.ensures p q raises here))

pub returns-then-left-eq0-clause-joined : goal.returns-then-left-eq0-clause-joined
returns-then-left-eq0-clause-joined c = cell_joined false refl

pub pixel_of-requires : goal.pixel_of-requires
pixel_of-requires c = c.requires.close.size.some_width

pub push_if-requires-clause-column : goal.push_if-requires-clause-column
push_if-requires-clause-column c =
    let lies = lies_in_image c.requires.close c.requires.inside c.pixel_of.ensures in
    omega (arith, lies.0.0, c.requires.width)

pub push_if-requires-clause-row : goal.push_if-requires-clause-row
push_if-requires-clause-row c =
    let lies = lies_in_image c.requires.close c.requires.inside c.pixel_of.ensures in
    omega (arith, lies.0.1, c.requires.close.size.height_within)

pub returns-clause-joined : goal.returns-clause-joined
returns-clause-joined c =
    let lies = lies_in_image c.requires.close c.requires.inside c.pixel_of.ensures in
    let here : index_of c.args.trail.now.width c.pixel_of.result ≡ c.args.cell =
    ap (λ width. index_of width c.pixel_of.result) c.requires.width ∙ lies.1 in
    cell_joined true
    (last_joined (c.push_if.ensures.joined ∙ ap (λ cell. c.args.trail.now.cells ++ cell ∷ []) here))
