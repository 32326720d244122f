-- What the tactics leave open of `shared_copy`.
use Rattle.std.proofs.Common.{ap, sym, ◌∙◌}
use Rattle.std.specs.Arc.{arc_value}
use Rattle.tiled_image.specs.TiledImage.{TiledRaster}
use Rattle.tiled_image.proofs.{AllKept.with_all, SharedCopies.kept_copies}
use Rattle.tiled_image.proofs.image.TiledImage.shared_copy.Goals as goal

pub invariant_of-self-2 : goal.invariant_of-self-2
invariant_of-self-2 c =
    let i = c.self.invariant in
    let next = c.in_ok-next_copy.ensures in
    with_all c.self.inside.raised i.kept i.shown i.count
    (kept_copies i.copies_are c.keep.new.self i.shown.of_tiling (arc_value c.in_ok-try_clone.field-0)
    (c.in_ok-try_clone.ensures ∙ c.in_ok-copy.ensures.ok ∙ next.copy
    ∙ sym (ap (λ (r : TiledRaster). r.image) (c.self.view_is ∙ next.same)))
    c.keep.ensures)
