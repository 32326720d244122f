-- What contracts see of an owner and of a hand.
use Rattle.std.specs.Prelude.{◌≡◌, ◌≤◌, ℕ, List, [], ◌∷◌, ◌++◌, length, map, All, Option, None, option_to_list}
use Rattle.std.specs.Prelude.{slice_set, slice_index_or}
use mathlib.Core.List.{IsPrefix}
use Rattle.tile_generations.specs.Jobs.{Job}
use Rattle.steal_pool.specs.declared.report.Report.{Report}

-- an owner: the jobs that it pushed, how many pushes surely succeed, what it collected of each hand, in order, and what
-- it has seen in the hand's ring and not collected yet; and which deque it has, and which ring of each hand
pub record OwnerView : Type 0 where
  pub pushed : List Job
  pub capacity : ℕ
  pub collected : List (List Report)
  pub waiting : List (List Report)
  pub deque : ℕ × ℕ
  pub rings : List (ℕ × (ℕ × ℕ))

-- a hand: the jobs that it got, each with its place among the pushed, the reports that it sent, and the one that it
-- still holds; how many free places it knows of in its ring; and which deque and which ring it has
pub record HandView : Type 0 where
  pub got : List (ℕ × Job)
  pub sent : List Report
  pub held : Option Report
  pub free : ℕ
  pub deque : ℕ × ℕ
  pub ring : ℕ × (ℕ × ℕ)

-- what a hand reported: the reports that it sent, and then the one that it holds
abbrev pub reports : HandView → List Report
reports hand = hand.sent ++ option_to_list hand.held

-- how many places a ring has: as many reports a hand surely sends before it is full
abbrev pub ring_room : ℕ
ring_room = 64

-- ---- who belongs together

-- a hand at this deque and with this ring that did nothing yet: all places of the ring are free
abbrev pub fresh : ℕ × ℕ → ℕ × (ℕ × ℕ) → HandView
fresh deque ring = record { got = []; sent = []; held = None; free = ring_room; deque = deque; ring = ring }

-- these are the hands of the owner: each steals from its deque, and sends into the ring that it reads for the hand of
-- this number. None of them did anything yet
abbrev pub AreFresh : OwnerView → List HandView → Type 0
AreFresh owner hands = hands ≡ map (fresh owner.deque) owner.rings

-- each ring that the owner reads has `ring_room` places. The first number of a ring's name is how many it has
abbrev pub HasRooms : OwnerView → Type 0
HasRooms owner = All (λ ring. ring.0 ≡ ring_room) owner.rings

-- the owner has the same hands as before: those at its deque, with its rings
pub record IsSamePool (old new : OwnerView) : Type 0 where
  pub deque : new.deque ≡ old.deque
  pub rings : new.rings ≡ old.rings

-- the hand is the one of the same owner and the same number as before
pub record IsSameHand (old new : HandView) : Type 0 where
  pub deque : new.deque ≡ old.deque
  pub ring : new.ring ≡ old.ring

-- ---- what is collected

-- the reports of this hand that the owner has seen and not collected
abbrev pub waiting_of : OwnerView → ℕ → List Report
waiting_of owner hand = slice_index_or owner.waiting hand []

-- how many places the ring has that the owner reads for this hand
abbrev pub places_of : OwnerView → ℕ → ℕ
places_of owner hand = (slice_index_or owner.rings hand (0, (0, 0))).0

-- of the hand's reports the owner has seen, and not collected, at most as many as its ring has places
abbrev pub FewWait : OwnerView → ℕ → Type 0
FewWait owner hand = length (waiting_of owner hand) ≤ places_of owner hand

-- this report was collected of the hand, and these are still seen in its ring
abbrev pub collecting : OwnerView → ℕ → Report → List Report → OwnerView
collecting owner hand report left =
    record owner {
      collected = slice_set owner.collected hand (slice_index_or owner.collected hand [] ++ report ∷ []);
      waiting = slice_set owner.waiting hand left;
    }

-- the report was collected of the hand, and put behind those that were. It is the oldest of those that had been seen,
-- if any had been, and the others of these are still there
pub record HasCollected (old : OwnerView) (hand : ℕ) (report : Report) (new : OwnerView) : Type 0 where
  pub left : List Report
  pub new_is : new ≡ collecting old hand report left
  pub oldest : IsPrefix (waiting_of old hand) (report ∷ left)
