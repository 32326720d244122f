use Rattle.std.proofs.Common.{◌≡◌, ◌+◌, ◌≤◌, [], ◌∷◌, ◌++◌, length, get_or, ap, arith, ◌∙◌}
use Rattle.std.proofs.lemmas.List.Elements.{Contains-get_or}
use Rattle.grid_core.specs.{declared.pixel.Pixel.Pixel, Path.Inside, Path.domain_of, Raster.value_at, Raster.with_value}
use Rattle.raster_sweeps.specs.Flood.{missing}
use Rattle.raster_sweeps.proofs.Flood.Spreading.{neighbours_listed, spreading_marks, spreading_passes, spreading_ends}
use Rattle.raster_sweeps.proofs.thresholds.spread.Goals.{then-get-level+then-get-level-2+in_ok-mark, else-get-level}
use Rattle.raster_sweeps.proofs.thresholds.spread.Goals.{else-get-level-via-then-get-level+else-get-level-2}
use Rattle.raster_sweeps.proofs.thresholds.spread.Goals.{else-get-level-via-else-get-level}
use Rattle.raster_sweeps.proofs.thresholds.spread.Goals as goal

origin : Pixel
origin = record { x = 0; y = 0 }

pub get-requires : goal.get-requires
unfolding origin
get-requires c =
    let d = domain_of c.args.source.now.mask.now c.args.source.now.conn in
    let near = c.as_slice-beside-items.result.now in
    let listed =
    neighbours_listed d c.args.pixel c.width.result c.height.result c.neighbours-near.result near
    c.width.ensures.value c.height.ensures.value c.as_slice-beside-items.ensures.pixels
    c.neighbours-near.ensures.members in
    (listed.each (get_or near c.loop-beside.beside-index origin)
    (Contains-get_or near c.loop-beside.beside-index origin c.loop-beside-test.true)).1

pub get-requires-then-get-level : goal.get-requires-then-get-level
unfolding origin
get-requires-then-get-level c =
    let d = domain_of c.args.source.now.mask.now c.args.source.now.conn in
    let near = c.as_slice-beside-items.result.now in
    let listed =
    neighbours_listed d c.args.pixel c.width.result c.height.result c.neighbours-near.result near
    c.width.ensures.value c.height.ensures.value c.as_slice-beside-items.ensures.pixels
    c.neighbours-near.ensures.members in
    let inside : Inside d (get_or near c.loop-beside.beside-index origin) =
    (listed.each (get_or near c.loop-beside.beside-index origin)
    (Contains-get_or near c.loop-beside.beside-index origin c.loop-beside-test.true)).1 in (
      omega (arith, inside.0, c.loop-beside.invariant.sized.width),
      omega (arith, inside.1, c.loop-beside.invariant.sized.height),
    )

pub mark-requires : goal.mark-requires
unfolding origin
mark-requires c =
    let d = domain_of c.args.source.now.mask.now c.args.source.now.conn in
    let near = c.as_slice-beside-items.result.now in
    let listed =
    neighbours_listed d c.args.pixel c.width.result c.height.result c.neighbours-near.result near
    c.width.ensures.value c.height.ensures.value c.as_slice-beside-items.ensures.pixels
    c.neighbours-near.ensures.members in
    let inside : Inside d (get_or near c.loop-beside.beside-index origin) =
    (listed.each (get_or near c.loop-beside.beside-index origin)
    (Contains-get_or near c.loop-beside.beside-index origin c.loop-beside-test.true)).1 in (
      omega (arith, inside.0, c.loop-beside.invariant.sized.width),
      omega (arith, inside.1, c.loop-beside.invariant.sized.height),
    )

pub loop-beside-preserved : goal.loop-beside-preserved
unfolding origin
loop-beside-preserved c =
    let mask = c.args.source.now.mask.now in
    let marker = c.args.source.now.marker.now in
    let conn = c.args.source.now.conn in
    let level = c.args.level in
    let near = c.as_slice-beside-items.result.now in
    let count = c.loop-beside.beside-index in
    let bound = length c.args.waiting.now.items + missing level c.args.image.now.cells in
    let image = c.loop-beside.image in
    let waiting = c.loop-beside.waiting.items in
    let q = get_or near count origin in
    let listed =
    neighbours_listed (domain_of mask conn) c.args.pixel c.width.result c.height.result c.neighbours-near.result
    near c.width.ensures.value c.height.ensures.value c.as_slice-beside-items.ensures.pixels
    c.neighbours-near.ensures.members in
    elim c.if-get-level.branch [
      | then-get-level+then-get-level-2+in_ok-mark w ↦
          let marked =
          spreading_marks conn mask marker level c.args.pixel near bound count image waiting listed
          c.loop-beside.invariant origin c.loop-beside-test.true
          (omega (arith, c.get.ensures, w.if-get-level.true))
          (omega (arith, w.get-then-get-level.ensures, w.if-get-level-2.true)) in
          let drawn : c.if-get-level.image ≡ with_value image q level = w.image-is ∙ w.mark.ensures.image in
          let listed_now : c.if-get-level.waiting.items ≡ waiting ++ q ∷ [] =
          ap (λ v. v.items) w.waiting-is ∙ w.in_ok-mark.ensures.waiting in
          rw (drawn, listed_now) marked
      | else-get-level w ↦
          let drawn : c.if-get-level.image ≡ image = w.image-is in
          let listed_now : c.if-get-level.waiting.items ≡ waiting = ap (λ v. v.items) w.waiting-is in
          let has : level ≤ value_at mask q → level ≤ value_at image q = elim w.else-get-level.branch [
            | else-get-level-via-then-get-level+else-get-level-2 w' ↦
                λ high. omega (arith, w'.get-then-get-level.ensures, w'.if-get-level-2.false)
            | else-get-level-via-else-get-level w' ↦
                λ high. absurd (omega (arith, c.get.ensures, w'.if-get-level.false))
          ] in
          let passed =
          spreading_passes conn mask marker level c.args.pixel near bound count image waiting listed
          c.loop-beside.invariant origin c.loop-beside-test.true has in
          rw (drawn, listed_now) passed
    ]

pub returns-clause-flooding : goal.returns-clause-flooding
returns-clause-flooding c =
    let mask = c.args.source.now.mask.now in
    let conn = c.args.source.now.conn in
    let near = c.as_slice-beside-items.result.now in
    let listed =
    neighbours_listed (domain_of mask conn) c.args.pixel c.width.result c.height.result c.neighbours-near.result
    near c.width.ensures.value c.height.ensures.value c.as_slice-beside-items.ensures.pixels
    c.neighbours-near.ensures.members in
    record {
      below = c.requires.below;
      sized = c.loop-beside.invariant.sized;
      flooding =
          spreading_ends conn mask c.args.source.now.marker.now c.args.level c.args.pixel near
          (length c.args.waiting.now.items + missing c.args.level c.args.image.now.cells) c.loop-beside.beside-index
          c.loop-beside.image c.loop-beside.waiting.items listed c.loop-beside.invariant c.loop-beside-test.false;
    }
