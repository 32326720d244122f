-- What the tactics leave open of `get`.
use Rattle.std.proofs.Common.{◌<◌, ℕ, List, length, ap, sym, subst, ◌∙◌, slice_index, arith}
use Rattle.std.proofs.lemmas.List.{get_or_default}
use Rattle.grid_core.specs.{declared.rect.Rect.Rect, Rects.IsInRect}
use Rattle.tiled_image.specs.Rims.{strip_at}
use Rattle.tiled_image.proofs.rims.Rims.get.Goals as goal

pub returns : goal.returns
returns c whole are =
    let a = c.args in
    let edge = c.in-Some.edge in
    let place = c.place_of.result in
    let items = c.self.inside.values.items in
    let inside = subst (λ (r : Rect). IsInRect (strip_at edge r) a.p) c.requires.rect c.in-Some.ensures in
    let within : place < length items =
    omega (arith, c.place_of.ensures.room, c.requires.count, ap length c.self.view_is) in
    c.index.ensures ∙ sym (get_or_default items place 0 c.index.result.now within)
    ∙ ap (λ (xs : List ℕ). slice_index xs place) c.self.view_is ∙ ap (slice_index a.self.now) c.place_of.ensures.value
    ∙ are.values a.tile c.requires.tile edge a.p inside
