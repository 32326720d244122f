-- What the tactics leave open of `set`.
use Rattle.std.proofs.Common.{◌≡◌, ℕ, List, length, vec_len, sym, subst, ◌∙◌, arith}
use Rattle.std.proofs.lemmas.List.{with_items_is}
use Rattle.tiled_image.specs.Rims.{IsRimChanged}
use Rattle.tiled_image.proofs.rims.Rims.set.Goals as goal

pub returns : goal.returns
returns c =
    let a = c.args in
    let new = c.set_rim.new.values in
    let long : length new ≡ vec_len c.self.inside.values = omega (arith, c.deref_mut.ensures.len) in
    subst (IsRimChanged a.tiling.now a.tile (λ q. q ≡ a.p) (λ _. a.value) a.self.now)
    (sym (with_items_is c.self.inside.values new long))
    (subst (λ (old : List ℕ). IsRimChanged a.tiling.now a.tile (λ q. q ≡ a.p) (λ _. a.value) old new)
    (c.deref_mut.ensures.value ∙ c.self.view_is) c.set_rim.ensures)
