-- What the tactics leave open of `raise_at`.
use Rattle.std.proofs.Common.{◌≡◌, ℕ, List, length, set, vec_len, sym, subst, ◌∙◌, arith}
use Rattle.std.proofs.lemmas.List.{with_items_is}
use Rattle.grid_core.specs.{declared.rect.Rect.Rect, Rects.IsInRect}
use Rattle.tiled_image.specs.{RaisedTiles.LiesOnOne, Rims.IsRimChanged, Rims.place_of, Rims.strip_at}
use Rattle.tiled_image.proofs.{StripCopies.set_strip, TileRims.one_changed}
use Rattle.tiled_image.proofs.rims.Rims.raise_at.Goals as goal

pub returns-then-lies_on_one-clause-changed : goal.returns-then-lies_on_one-clause-changed
returns-then-lies_on_one-clause-changed c =
    let a = c.args in
    let tiling = a.tiling.now in
    let tiled = c.side.ensures.tiled in
    let old = a.self.now in
    let at = subst (λ (r : Rect). IsInRect (strip_at a.edge r) a.p) c.requires.rect c.requires.at in
    let on_one = subst (λ (r : Rect). LiesOnOne r a.edge a.p) c.requires.rect
    (c.lies_on_one.ensures c.if-lies_on_one.true) in
    let becomes = IsRimChanged tiling a.tile (λ q. q ≡ a.p) (λ _. a.value) old in
    subst (λ (xs : List ℕ). becomes (set xs c.place_of-place.result a.value)) (sym c.self.view_is)
    (subst (λ n. becomes (set old n a.value)) (sym c.place_of-place.ensures.value)
    (one_changed tiling tiled a.tile c.requires.tile a.edge a.p a.value old
    (set old (place_of tiling a.tile a.edge a.p) a.value) on_one
    (set_strip tiling a.tile tiled c.requires.tile a.edge a.p a.value old c.requires.count at)))

pub returns-clause-changed : goal.returns-clause-changed
returns-clause-changed c =
    let a = c.args in
    let new = c.set_rim.new.values in
    let long : length new ≡ vec_len c.self.inside.values =
    omega (arith, c.deref_mut.ensures.len, c.set_rim.ensures.count) in
    subst (IsRimChanged a.tiling.now a.tile (λ q. q ≡ a.p) (λ _. a.value) a.self.now)
    (sym (with_items_is c.self.inside.values new long))
    (subst (λ (old : List ℕ). IsRimChanged a.tiling.now a.tile (λ q. q ≡ a.p) (λ _. a.value) old new)
    (c.deref_mut.ensures.value ∙ c.self.view_is) c.set_rim.ensures)
