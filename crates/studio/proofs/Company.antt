-- Whoever stands in a new studio is of its keeper, and stays so.
use Rattle.std.proofs.Common.{arith, ◌≡◌, ℕ, ◌<◌, List, [], length, get_or, refl, sym, ap, ◌∙◌, subst, All}
use Rattle.std.proofs.lemmas.List.Elements.{All-weaker}
use Rattle.std.proofs.lemmas.List.{get_or_default, length-map, length-replicate}
use Rattle.atomic_table.proofs.Lists.{at_index}
use mathlib.Core.Option.{some-injective}
use Rattle.stroke_lattice.specs.State.{State}
use Rattle.core_rules.specs.Work.{Core}
use Rattle.core_dispatch.specs.{declared.pen.Pen.Pen, Books.BooksView}
use Rattle.core_dispatch.specs.Pens.{submitted, IsOf, AreOf, HasItsDesk}
use Rattle.core_dispatch.proofs.{Rounds.pens_through, Taking.same_pens}
use Rattle.studio.specs.{declared.shots.eye.Eye.Eye, Words.eye_studio, declared.keeper.Keeper.Keeper}
use Rattle.studio.specs.{declared.opening.Studio.Studio, Company.IsCompany, Company.KeepsCompany, Keeping.books_of}
use Rattle.studio.specs.{Keeping.studio_of, Opening.IsEyeOf, Opening.IsOpened}

of_its_desk : (pens : List Pen) (books : BooksView) (k : ℕ) (d : Pen) → k < length pens
    → HasItsDesk pens books.desks k → IsOf (get_or pens k d) books
of_its_desk pens books k d within (pen, at, number, desk) =
    let same = get_or_default pens k d (get_or pens k d) within in
    subst (λ (p : Pen). IsOf p books)
    (some-injective pen (get_or pens k d) (sym at ∙ at_index pens k (get_or pens k d) within same)) desk

-- each pen is of its keeper's books
pub pens_of_opened : (core : Core) (pens hands eyes : ℕ) (studio : Studio) → IsOpened core pens hands eyes studio
    → AreOf studio.pens.items (books_of studio.keeper)
pens_of_opened core pens hands eyes studio opened = λ k d within.
    of_its_desk studio.pens.items (books_of studio.keeper) k d within (opened.desks k (few k within))
  where
    few : (i : ℕ) → i < length studio.pens.items → i < pens
    few i within =
        let none : List State = [] in
        let same = ap (λ (l : List (List State)). length l) opened.sent in
        omega (arith, same, length-map studio.pens.items submitted, length-replicate pens none)

-- each eye is of its studio
pub eyes_of_opened : (core : Core) (pens hands eyes : ℕ) (studio : Studio) → IsOpened core pens hands eyes studio
    → All (λ eye. eye_studio eye ≡ studio_of studio.keeper) studio.eyes.items
eyes_of_opened core pens hands eyes studio opened =
    All-weaker (λ (eye : Eye). IsEyeOf studio.keeper.publisher eye) (λ eye. eye_studio eye ≡ studio_of studio.keeper)
    (λ eye is. is.studio) studio.eyes.items opened.eyes_are.each

-- whoever stands in a new studio is of its keeper
pub company_of_opened : (core : Core) (pens hands eyes : ℕ) (studio : Studio) → IsOpened core pens hands eyes studio
    → IsCompany studio.keeper studio.pens.items studio.eyes.items
company_of_opened core pens hands eyes studio opened = record {
  pens_are = pens_of_opened core pens hands eyes studio opened;
  eyes_are = eyes_of_opened core pens hands eyes studio opened;
}

pub company_stays : (k : Keeper) → KeepsCompany k k
company_stays k = record { pens = same_pens _ _ refl; studio = refl }

pub company_through : (a b c : Keeper) → KeepsCompany a b → KeepsCompany b c → KeepsCompany a c
company_through a b c first second = record {
  pens = pens_through (books_of a) (books_of b) (books_of c) first.pens second.pens;
  studio = second.studio ∙ first.studio;
}
