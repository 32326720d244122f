-- Who belongs to a keeper.
use Rattle.std.specs.Prelude.{◌≡◌, List, All}
use Rattle.core_dispatch.specs.{declared.pen.Pen.Pen, Pens.AreOf, Pens.KeepsPens}
use Rattle.studio.specs.{declared.shots.eye.Eye.Eye, Words.eye_studio, declared.keeper.Keeper.Keeper}
use Rattle.studio.specs.Keeping.{books_of, studio_of}

-- each of the pens is one of the keeper's, and each of the eyes is of its studio
pub record IsCompany (keeper : Keeper) (pens : List Pen) (eyes : List Eye) : Type 0 where
  pub pens_are : AreOf pens (books_of keeper)
  pub eyes_are : All (λ eye. eye_studio eye ≡ studio_of keeper) eyes

-- each pen that was the keeper's is so still, finished or not, and each eye that was of its studio
pub record KeepsCompany (old new : Keeper) : Type 0 where
  pub pens : KeepsPens (books_of old) (books_of new)
  pub studio : studio_of new ≡ studio_of old
