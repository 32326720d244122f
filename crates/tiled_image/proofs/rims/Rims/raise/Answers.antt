-- What the tactics leave open of `raise`.
use Rattle.std.proofs.Common.{◌≡◌, ℕ, List, length, vec_len, sym, subst, ◌∙◌, arith}
use Rattle.std.proofs.lemmas.List.{with_items_is}
use Rattle.std.specs.Prelude.{⊤}
use Rattle.tiled_image.specs.{Raising.greater_of, Rims.IsRimChanged, Rims.IsRimOf}
use Rattle.tiled_image.proofs.rims.Rims.raise.Goals as goal

pub returns : goal.returns
returns c image value is_rim has =
    let a = c.args in
    let new = c.raise_sides.new.values in
    let long : length new ≡ vec_len c.self.inside.values = omega (arith, c.deref_mut.ensures.len) in
    let same = c.deref_mut.ensures.value ∙ c.self.view_is in
    subst (IsRimChanged a.tiling.now a.tile (λ _. ⊤) (greater_of image value) a.self.now)
    (sym (with_items_is c.self.inside.values new long))
    (subst (λ (old : List ℕ). IsRimChanged a.tiling.now a.tile (λ _. ⊤) (greater_of image value) old new) same
    (c.raise_sides.ensures image value
    (subst (λ (rims : List ℕ). IsRimOf a.tiling.now image rims a.tile) (sym same) is_rim) has))
