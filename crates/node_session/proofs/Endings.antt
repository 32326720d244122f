-- The end of a pen, in a list.
use Rattle.std.proofs.Common.{◌≡◌, List, [], ◌∷◌, ◌++◌, sym, ap, ◌∙◌, subst, All, Bool, true, false, if◌then◌else◌}
use Rattle.std.proofs.lemmas.List.Elements.{All-nil, All-push}
use Rattle.core_dispatch.specs.{declared.pen.Pen.Pen, declared.pen.PenEnd.PenEnd, Books.BooksView, Closing.AreEndsOf}
use Rattle.core_dispatch.specs.Pens.{IsOf, IsEndOf, KeepsDeskAtEnd, submitted, all_submitted}

-- the ends are of the pen: they submitted what it did, and belong to its books
abbrev pub AreOfPen : Pen → List PenEnd → Type 0
AreOfPen pen ends =
    All (λ end. all_submitted end ≡ submitted pen) ends × ((books : BooksView) → IsOf pen books → AreEndsOf ends books)

pub no_ends : (pen : Pen) → AreOfPen pen []
no_ends pen = (
  All-nil (λ (e : PenEnd). all_submitted e ≡ submitted pen),
  λ books of. All-nil (λ (e : PenEnd). IsEndOf e books),
)

pub one_end : (pen : Pen) (end : PenEnd) (none ends : List PenEnd) (ok : Bool) → all_submitted end ≡ submitted pen
    → KeepsDeskAtEnd pen end → none ≡ [] → ends ≡ (if ok then none ++ end ∷ [] else none) → AreOfPen pen ends
one_end pen end none ends true same keeps empty is =
    subst (AreOfPen pen) (sym (is ∙ ap (λ (l : List PenEnd). l ++ end ∷ []) empty)) (
      All-push (λ (e : PenEnd). all_submitted e ≡ submitted pen) [] end (no_ends pen).0 same,
      λ books of. All-push (λ (e : PenEnd). IsEndOf e books) [] end ((no_ends pen).1 books of) (keeps.books books of),
    )
one_end pen end none ends false same keeps empty is = subst (AreOfPen pen) (sym (is ∙ empty)) (no_ends pen)
