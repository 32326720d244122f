-- A desk at work.
use Rattle.std.proofs.Common.{arith, ◌≡◌, ◌+◌, ℕ, suc, Bool, true, refl, sym, ap, ◌∙◌, subst}
use Rattle.byte_devices.specs.Device.{HasRisenBy}
use Rattle.core_dispatch.specs.{Books.BooksView, Growing.GrowsOn}
use Rattle.core_dispatch.proofs.{Around.rest_pens, Growing.grows_itself, Growing.grows_through, Growing.run_grows}
use Rattle.core_dispatch.proofs.{Taking.same_pens}
use Rattle.studio.specs.{declared.keeper.Keeper.Keeper, Keeping.core_of, Keeping.books_of, Keeping.studio_of}
use Rattle.studio.proofs.Company.{company_stays, company_through}
use Rattle.link_nodes.specs.{Links.LinkSeen, Nodes.pen_of, Nodes.IsSameNode}
use Rattle.link_nodes.proofs.SameNodes.{same_node, same_node_through}
use Rattle.node_session.specs.declared.desk.Desk.{Desk}
use Rattle.node_session.specs.Working.{IsOneStudio, HasItsPen, HasSettledFor, Stays, StaysSilent, WorksOn}
use Rattle.node_session.specs.Working.{AreTurns, IsTurnOf, TookIn, TookInEdits}
use Rattle.node_session.proofs.Meanwhile.{hears_nothing, hears_through, hears_from}

stays_itself : (d : Desk) → Stays d d
stays_itself d = record {
  opening = refl;
  grows = grows_itself (core_of d.keeper);
  company = company_stays d.keeper;
  node = same_node d.node;
}

stays_through : (a b c : Desk) → Stays a b → Stays b c → Stays a c
stays_through a b c first second = record {
  opening = second.opening ∙ first.opening;
  grows = grows_through (core_of a.keeper) (core_of b.keeper) (core_of c.keeper) first.grows second.grows;
  company = company_through a.keeper b.keeper c.keeper first.company second.company;
  node = same_node_through a.node b.node c.node first.node second.node;
}

-- node and keeper are of one studio still
pub studio_stays : (old new : Desk) → Stays old new → IsOneStudio old → IsOneStudio new
studio_stays old new stays is = stays.node.studio ∙ (is ∙ sym stays.company.studio)

-- and the node's pen is one of the keeper's
pub pen_stays : (old new : Desk) → Stays old new → HasItsPen old → HasItsPen new
pen_stays old new stays is =
    stays.company.pens.pens (pen_of new.node) (stays.node.desk.books (books_of old.keeper) is)

risen_by_none : (n : ℕ) → HasRisenBy 0 n n
risen_by_none n = omega arith

risen_by_both : (m n a b c : ℕ) → HasRisenBy m a b → HasRisenBy n b c → HasRisenBy (m + n) a c
risen_by_both m n a b c first second = omega arith

pub works_itself : (d : Desk) (link : LinkSeen) → WorksOn 0 d d link link
works_itself d link = record {
  stays = stays_itself d;
  hears = hears_nothing d.node link;
  polls = risen_by_none link.polls;
}

pub works_through : (m n : ℕ) (a b c : Desk) (x y z : LinkSeen) → WorksOn m a b x y → WorksOn n b c y z
    → WorksOn (m + n) a c x z
works_through m n a b c x y z first second = record {
  stays = stays_through a b c first.stays second.stays;
  hears =
      hears_through a.node b.node c.node x y z first.stays.node.conn first.stays.node.print first.hears second.hears;
  polls = risen_by_both m n x.polls y.polls z.polls first.polls second.polls;
}

pub silent_through : (a b c : Desk) → StaysSilent a b → StaysSilent b c → StaysSilent a c
silent_through a b c first second = (stays_through a b c first.0 second.0, second.1 ∙ first.1)

pub silent_itself : (d : Desk) → StaysSilent d d
silent_itself d = (stays_itself d, refl)

-- one turn more
pub one_more_turn : (n : ℕ) (a b c : Keeper) (busy : Bool) → AreTurns n a b → IsTurnOf b busy c → AreTurns (n + 1) a c
one_more_turn n a b c busy turns turn =
    let all : AreTurns (suc n) a c = (b, turns, (busy, turn)) in
    let more : suc n ≡ n + 1 = omega arith in
    subst (λ (k : ℕ). AreTurns k a c) more all

-- one edit more that was taken in
pub one_more_edit : (n : ℕ) (a b c : Keeper) → TookInEdits n a b → TookIn b true c → TookInEdits (n + 1) a c
one_more_edit n a b c edits took =
    let all : TookInEdits (suc n) a c = (b, edits, took) in
    let more : suc n ≡ n + 1 = omega arith in
    subst (λ (k : ℕ). TookInEdits k a c) more all

-- one turn more, of a desk at which it was taken
pub turn_at_desk : (n : ℕ) (a b c d : Desk) (busy : Bool) → StaysSilent a b → AreTurns n a.keeper b.keeper
    → StaysSilent b c → IsTurnOf b.keeper busy c.keeper → d ≡ c
    → StaysSilent a d × AreTurns (n + 1) a.keeper d.keeper × IsTurnOf b.keeper busy d.keeper
turn_at_desk n a b c d busy before turns silent turn same =
    subst (λ (e : Desk). StaysSilent a e × AreTurns (n + 1) a.keeper e.keeper × IsTurnOf b.keeper busy e.keeper)
    (sym same) (
      silent_through a b c before silent,
      one_more_turn n a.keeper b.keeper c.keeper busy turns turn,
      turn,
    )

-- work behind what was silent
pub works_behind : (n : ℕ) (a b c : Desk) (x y : LinkSeen) → StaysSilent a b → WorksOn n b c x y → WorksOn n a c x y
works_behind n a b c x y first second = record {
  stays = stays_through a b c first.0 second.stays;
  hears = hears_from a.node b.node c.node x y first.0.node.conn first.0.node.print first.1 second.hears;
  polls = second.polls;
}

-- the books are the same, and so is the studio, and the node is one of the same image and studio
pub stays_over : (old new : Desk) → books_of new.keeper ≡ books_of old.keeper
    → studio_of new.keeper ≡ studio_of old.keeper → IsSameNode old.node new.node → Stays old new
stays_over old new books studio same = record {
  opening = ap (λ (b : BooksView). b.opening) books;
  grows = subst (λ (b : BooksView). GrowsOn (core_of old.keeper) b.core) (sym books)
      (grows_itself (core_of old.keeper));
  company = record { pens = same_pens (books_of old.keeper) (books_of new.keeper) books; studio = studio };
  node = same;
}

-- the core settled for a slice
pub settled_stays : (jobs : ℕ) (old new : Desk) → HasSettledFor jobs (books_of old.keeper) (books_of new.keeper)
    → studio_of new.keeper ≡ studio_of old.keeper → IsSameNode old.node new.node → Stays old new
settled_stays jobs old new settled studio same =
    let (log, run, none) = settled.1.1.settled.worked_on in
    record {
      opening = ap (λ (b : BooksView). b.opening) settled.0;
      grows = run_grows (core_of old.keeper) log (core_of new.keeper) run;
      company = record {
        pens = rest_pens (books_of old.keeper) (books_of new.keeper) settled.0;
        studio = studio;
      };
      node = same;
    }
