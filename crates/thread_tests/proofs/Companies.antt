-- Who belongs to a keeper.
use Rattle.std.proofs.Common.{◌≡◌, List, [], ◌∷◌, ◌++◌, refl, sym, ap, ◌∙◌, subst, All, Bool, true, false}
use Rattle.std.proofs.Common.{if◌then◌else◌, Option, Some, IfSome, option_to_list}
use Rattle.std.proofs.lemmas.List.Elements.{All-nil, All-push, All-pop}
use Rattle.core_dispatch.specs.{declared.pen.Pen.Pen, declared.pen.PenEnd.PenEnd, Books.BooksView, Closing.AreEndsOf}
use Rattle.core_dispatch.specs.Pens.{IsOf, IsEndOf, KeepsDesk, KeepsDeskAtEnd, KeepsPens}
use Rattle.studio.specs.{declared.keeper.Keeper.Keeper, declared.shots.eye.Eye.Eye}
use Rattle.studio.specs.{Keeping.books_of, Keeping.studio_of, Words.eye_studio}
use Rattle.link_nodes.specs.{declared.node.Node.Node, Nodes.pen_of, Nodes.IsSameNode}
use Rattle.thread_tests.specs.{declared.company.Scene.Scene, Company.IsCompany}

-- the scene with another pen or keeper, to which the others belong still
pub pen_stays : (s : Scene) (pen : Pen) → IsCompany s → KeepsDesk s.pen pen → IsCompany (record s { pen = pen })
pen_stays s pen are keeps = record { pen = keeps.books (books_of s.keeper) are.pen; eye = are.eye }

pub keeper_stays : (s : Scene) (keeper : Keeper) → IsCompany s → KeepsPens (books_of s.keeper) (books_of keeper)
    → studio_of keeper ≡ studio_of s.keeper → IsCompany (record s { keeper = keeper })
keeper_stays s keeper are pens studio = record { pen = pens.pens s.pen are.pen; eye = are.eye ∙ sym studio }

pub shown_stays : (s : Scene) (keeper : Keeper) (eye : Eye) → IsCompany s → books_of keeper ≡ books_of s.keeper
    → eye_studio eye ≡ eye_studio s.eye → studio_of keeper ≡ studio_of s.keeper
    → IsCompany (record s { keeper = keeper; eye = eye })
shown_stays s keeper eye are books looks studio = record {
  pen = subst (λ (b : BooksView). IsOf s.pen b) (sym books) are.pen;
  eye = looks ∙ are.eye ∙ sym studio;
}

-- what was popped of a list is as all of it was
pub popped : {X : Type 0} (P : X → Type 0) (all left : List X) (r : Option X) (x : X) → All P all
    → all ≡ left ++ option_to_list r → r ≡ Some x → P x
popped P all left r x are is some_is =
    subst (λ o. IfSome o P) some_is (All-pop P all left r is are).1

-- of which books the pen is, of these are the ends
abbrev pub EndFrom : Pen → List PenEnd → Type 0
EndFrom pen ends = (books : BooksView) → IsOf pen books → AreEndsOf ends books

pub no_ends : (pen : Pen) → EndFrom pen []
no_ends pen = λ books of. All-nil (λ (e : PenEnd). IsEndOf e books)

-- the end of a pen, where there was a place for it in an empty list
pub one_end : (pen : Pen) (end : PenEnd) (none ends : List PenEnd) (ok : Bool) → KeepsDeskAtEnd pen end → none ≡ []
    → ends ≡ (if ok then none ++ end ∷ [] else none) → EndFrom pen ends
one_end pen end none ends true keeps empty is =
    subst (EndFrom pen) (sym (is ∙ ap (λ (l : List PenEnd). l ++ end ∷ []) empty))
    (λ books of. All-push (λ (e : PenEnd). IsEndOf e books) [] end (no_ends pen books of) (keeps.books books of))
one_end pen end none ends false keeps empty is = subst (EndFrom pen) (sym (is ∙ empty)) (no_ends pen)

-- which node it was through two calls
desk_through : (a b c : Pen) → KeepsDesk a b → KeepsDesk b c → KeepsDesk a c
desk_through a b c first second = record {
  number = second.number ∙ first.number;
  books = λ books is. second.books books (first.books books is);
}

pub same_through : (a b c : Node) → IsSameNode a b → IsSameNode b c → IsSameNode a c
same_through a b c first second = record {
  conn = second.conn ∙ first.conn;
  print = second.print ∙ first.print;
  desk = desk_through (pen_of a) (pen_of b) (pen_of c) first.desk second.desk;
  studio = second.studio ∙ first.studio;
}

pub same_node : (a : Node) → IsSameNode a a
same_node a = record {
  conn = refl;
  print = refl;
  desk = record { number = refl; books = λ books is. is };
  studio = refl;
}
