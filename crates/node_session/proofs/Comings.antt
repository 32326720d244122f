-- Where the strokes of a core come from that was shared.
use Rattle.std.proofs.Common.{arith, ◌≡◌, ◌⊎◌, ℕ, ◌<◌, List, ◌++◌, length, get_or, sym, ap, ◌∙◌, subst, inl, inr, All}
use Rattle.std.proofs.Common.{map}
use Rattle.std.proofs.lemmas.List.{get_or_default, length-map}
use mathlib.Core.Option.{some, some-injective}
use lib.ListN.{get_elem?}
use Rattle.atomic_table.proofs.Lists.{at_index, at_map}
use Rattle.grid_core.specs.declared.conn.Conn.{Conn}
use Rattle.stroke_lattice.specs.State.{State, HasStroke, HasTombstone, IsBelow}
use Rattle.core_rules.specs.Work.{Core}
use Rattle.core_dispatch.specs.{declared.pen.PenEnd.PenEnd, Pens.all_submitted, Closing.IsAllTaken, Closing.AreAllTaken}
use Rattle.core_dispatch.specs.{Dispatching.books_by, Dispatching.core_by}
use Rattle.core_dispatch.specs.Books.{BooksView, Ledger, StandsAt, IsFaithful, IsKept, ledger, edits_of}
use Rattle.steal_pool.proofs.Deals.{below}
use Rattle.link_nodes.specs.{Links.LinkSeen, Nodes.submitted_by}
use Rattle.node_session.specs.declared.desk.Desk.{Desk}
use Rattle.node_session.specs.Given.{SomeSpells, ComesFrom}
use Rattle.node_session.specs.Working.{IsNewDesk, WorksOn, IsLeftBy, IsShared}

-- what holds of all holds of the one at a place
all_at : {X : Type 0} (P : X → Type 0) (l : List X) (i : ℕ) (x : X) → All P l → get_elem? l i ≡ some x → P x
all_at P l i x all at =
    let within = below l i x at in
    let one = get_or l i x in
    subst P (some-injective one x (sym (at_index l i one within (get_or_default l i x one within)) ∙ at))
    (all i x within)

-- an edit that was taken of a pen that ended: the pen submitted it, where all ends submitted the same
taken_of_it : (books : BooksView) (ends : List PenEnd) (said : List State)
    → All (λ end. all_submitted end ≡ said) ends → (pen n : ℕ) (delta : State) (edits : List State)
    → get_elem? (map edits_of books.desks) pen ≡ some edits → get_elem? edits n ≡ some delta
    → IsAllTaken books ends pen → get_elem? said n ≡ some delta
taken_of_it books ends said same pen n delta edits at stands (place, end, at_place, number, (desk, at_desk, all)) =
    let at_pen : get_elem? books.desks pen ≡ some desk =
    subst (λ (i : ℕ). get_elem? books.desks i ≡ some desk) number at_desk in
    let its : edits ≡ edits_of desk =
    some-injective edits (edits_of desk) (sym at ∙ at_map edits_of books.desks pen desk at_pen) in
    let is_said : all_submitted end ≡ said =
    all_at (λ (e : PenEnd). all_submitted e ≡ said) ends place end same at_place in
    subst (λ (l : List State). get_elem? l n ≡ some delta) (its ∙ all ∙ is_said) stands

-- an edit that was taken, at this place, of a pen: it was submitted, where all ends submitted the same
taken_is_submitted : (books : BooksView) (ends : List PenEnd) (said : List State) → AreAllTaken books ends
    → All (λ end. all_submitted end ≡ said) ends → (pen n : ℕ) (delta : State)
    → StandsAt (ledger books).taken pen n delta → get_elem? said n ≡ some delta
taken_is_submitted books ends said whole same pen n delta (edits, at, stands) =
    let within : pen < length books.desks = omega (
      arith,
      below (map edits_of books.desks) pen edits at,
      length-map books.desks edits_of,
    ) in
    taken_of_it books ends said same pen n delta edits at stands (whole pen within)

-- where a kept edit is in a frame that was given, so are its strokes and tombstones
module _ (conn : Conn) (print : List ℕ) (given : List (List ℕ)) (l : Ledger) (first : State)
    (opening : l.opening ≡ first)
    (spelled : (pen n : ℕ) (delta : State) → StandsAt l.taken pen n delta → SomeSpells conn print given delta)
  where
    from_given : (P : State → Type 0)
        → P l.opening ⊎ ((pen n : ℕ) × (delta : State) × IsKept l.taken l.refusals pen n delta × P delta)
        → P first ⊎ ((delta : State) × SomeSpells conn print given delta × P delta)
    from_given P (inl old) = inl (subst P opening old)
    from_given P (inr (pen, n, delta, (stands, unlisted), its)) = inr (delta, spelled pen n delta stands, its)

    comes_of : IsFaithful l → ComesFrom conn print given first l.core.state
    comes_of faithful = record {
      above = subst (λ (s : State). IsBelow s l.core.state) opening faithful.opening;
      strokes = λ tag seed has. from_given (λ s. HasStroke s tag seed) (faithful.strokes tag seed has);
      tombstones = λ tag has. from_given (λ s. HasTombstone s tag) (faithful.tombstones tag has);
    }

-- a new desk at which work went on, and that was closed
pub shared : (core : Core) (conn : Conn) (print : List ℕ) (ticks : ℕ) (new old : Desk) (link link' : LinkSeen)
    (left : Core) → IsNewDesk core conn print new → WorksOn ticks new old link link' → IsLeftBy old left
    → IsShared conn print ticks link link' core left
shared core conn print ticks new old link link' left is_new works end =
    let is_closed = end.closed.1 in
    let hears = works.hears in
    let books = books_by is_closed.last in
    let given = hears.given in
    let said : submitted_by old.node ≡ hears.more =
    hears.submits ∙ ap (λ (l : List State). l ++ hears.more) is_new.submitted in
    let spells : All (SomeSpells conn print given) hears.more =
    rw (← is_new.image.0, ← is_new.image.1) hears.each in
    let is_last : left ≡ core_by is_closed.last = end.closed.2 ∙ is_closed.core in
    record {
      given = given;
      gives = hears.gives;
      polls = works.polls;
      mask =
          ap (λ (c : Core). c.mask) is_last ∙ is_closed.taken.goes_on.grows.mask ∙ works.stays.grows.mask
          ∙ ap (λ (c : Core). c.mask) is_new.core_is;
      conn_is =
          ap (λ (c : Core). c.conn) is_last ∙ is_closed.taken.goes_on.grows.conn ∙ works.stays.grows.conn
          ∙ ap (λ (c : Core). c.conn) is_new.core_is;
      comes = subst (λ (c : Core). ComesFrom conn print given core.state c.state) (sym is_last)
          (comes_of conn print given (ledger books) core.state
          (is_closed.taken.goes_on.opening ∙ works.stays.opening ∙ is_new.opening)
          (λ pen n delta stands. all_at (SomeSpells conn print given) hears.more n delta spells
          (subst (λ (l : List State). get_elem? l n ≡ some delta) said
          (taken_is_submitted books end.ends (submitted_by old.node) is_closed.taken.all_taken end.submitted pen n delta
          stands))) is_closed.faithful);
    }
