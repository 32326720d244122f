-- Who stands at a desk of a new studio of one pen and one eye.
use Rattle.std.proofs.Common.{◌≡◌, ℕ, List, [], ◌∷◌, ◌++◌, refl, sym, ap, ◌∙◌, subst, All, Option, Some, IfSome}
use Rattle.std.proofs.Common.{option_to_list, map}
use Rattle.std.proofs.lemmas.List.Elements.{All-nil, All-push, All-pop}
use Rattle.grid_core.specs.declared.conn.Conn.{Conn}
use Rattle.core_rules.specs.Work.{Core}
use Rattle.core_dispatch.specs.{declared.pen.Pen.Pen, Pens.submitted, Pens.IsOf}
use Rattle.studio.specs.{declared.shots.eye.Eye.Eye, Words.eye_studio, declared.opening.Studio.Studio, Opening.IsOpened}
use Rattle.studio.specs.Keeping.{core_of, books_of, studio_of}
use Rattle.studio.proofs.Company.{company_of_opened}
use Rattle.link_nodes.specs.{declared.node.Node.Node, Nodes.pen_of, Nodes.eye_of, Nodes.conn_of, Nodes.print_of}
use Rattle.node_session.specs.Working.{IsNewDesk}

-- the one that was popped, of a list of which all are so
popped_one : {X : Type 0} (P : X → Type 0) (l left : List X) (r : Option X) (x : X) → All P l
    → l ≡ left ++ option_to_list r → r ≡ Some x → P x
popped_one P l left r x all is some_is =
    subst (λ (o : Option _). IfSome o P) some_is (All-pop P l left r is all).1

-- one pen, which submitted nothing
none_sent : (pens : List Pen) → map submitted pens ≡ [] ∷ [] → All (λ pen. submitted pen ≡ []) pens
none_sent [] same = cc
none_sent (pen ∷ []) same =
    let is : submitted pen ≡ [] = cc in
    All-push (λ (p : Pen). submitted p ≡ []) [] pen (All-nil (λ (p : Pen). submitted p ≡ [])) is
none_sent (pen ∷ other ∷ pens) same = cc

pub new_desk : (core : Core) (hands : ℕ) (studio : Studio) → IsOpened core 1 hands 1 studio
    → (conn : Conn) (print : List ℕ) (node : Node) (pens : List Pen) (first : Option Pen) (pen : Pen) (eyes : List Eye)
    (found : Option Eye) (eye : Eye) → studio.pens.items ≡ pens ++ option_to_list first → first ≡ Some pen
    → studio.eyes.items ≡ eyes ++ option_to_list found → found ≡ Some eye → pen_of node ≡ pen → eye_of node ≡ eye
    → (conn_of node ≡ conn) × (print_of node ≡ print)
    → IsNewDesk (core_of studio.keeper) conn print (record { keeper = studio.keeper; node = node })
new_desk core hands studio opened conn print node pens first pen eyes found eye left is_pen rest is_eye pen_is eye_is
    image = record {
      core_is = refl;
      opening = opened.opening ∙ ap (λ (c : Core). c.state) (sym opened.core_is);
      studio =
          subst (λ (e : Eye). eye_studio e ≡ studio_of studio.keeper) (sym eye_is)
          (popped_one (λ (e : Eye). eye_studio e ≡ studio_of studio.keeper) studio.eyes.items eyes found eye
          (company_of_opened core 1 hands 1 studio opened).eyes_are rest is_eye);
      pen =
          subst (λ (p : Pen). IsOf p (books_of studio.keeper)) (sym pen_is)
          (popped_one (λ (p : Pen). IsOf p (books_of studio.keeper)) studio.pens.items pens first pen
          (company_of_opened core 1 hands 1 studio opened).pens_are left is_pen);
      image = image;
      submitted =
          subst (λ (p : Pen). submitted p ≡ []) (sym pen_is)
          (popped_one (λ (p : Pen). submitted p ≡ []) studio.pens.items pens first pen
          (none_sent studio.pens.items opened.sent) left is_pen);
    }
