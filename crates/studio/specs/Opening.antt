-- What a studio is when it is opened.
use Rattle.std.specs.Prelude.{◌≡◌, ℕ, ◌<◌, ◌≤◌, List, [], ◌∷◌, ◌++◌, length, map, replicate, All}
use Rattle.core_rules.specs.Work.{Core}
use Rattle.steal_pool.specs.Views.{OwnerView, AreFresh, HasRooms}
use Rattle.core_dispatch.specs.{Books.BooksView, Books.ledger, Pens.submitted, Pens.HasItsDesk}
use Rattle.core_dispatch.specs.{Dispatching.Dispatcher, Dispatching.core_by}
use Rattle.studio.specs.{declared.shots.eye.Eye.Eye, Shots.Shot, declared.shots.publisher.Publisher.Publisher}
use Rattle.studio.specs.{declared.keeper.Keeper.Keeper, declared.opening.Over.Over, declared.opening.Studio.Studio}
use Rattle.studio.specs.Words.{shown_by, last_by, publisher_studio, seen_by, learnt_by, eye_studio}
use Rattle.studio.specs.Keeping.{core_of, books_of, owner_of, chain_of, IsShotOf}

-- a studio may have so many pens, hands or eyes
abbrev pub IsCount : ℕ → Type 0
IsCount n = (1 ≤ n) × (n ≤ 16)

abbrev pub AreCounts : ℕ → ℕ → ℕ → Type 0
AreCounts pens hands eyes = IsCount pens × IsCount hands × IsCount eyes

-- the owner of a pool of so many hands has pushed, seen and collected nothing, its first 4,096 pushes succeed, and each
-- ring that it reads has 64 places
pub record IsNewOwner (hands : ℕ) (owner : OwnerView) : Type 0 where
  pub pushed : owner.pushed ≡ []
  pub capacity : owner.capacity ≡ 4096
  pub collected : owner.collected ≡ replicate hands []
  pub waiting : owner.waiting ≡ replicate hands []
  pub rings : length owner.rings ≡ hands
  pub rooms : HasRooms owner

-- the keeper showed the core once
abbrev pub HasShownOnce : Keeper → Core → Type 0
HasShownOnce keeper core = (shot : Shot) × IsShotOf core shot × (chain_of keeper ≡ shot ∷ [])

-- the eye has seen and learnt all that the publisher showed, and is of its studio
pub record IsEyeOf (publisher : Publisher) (eye : Eye) : Type 0 where
  pub seen : seen_by eye ≡ shown_by publisher
  pub learnt : learnt_by eye ≡ shown_by publisher
  pub studio : eye_studio eye ≡ publisher_studio publisher

-- these are so many eyes of the publisher
pub record AreEyesOf (publisher : Publisher) (count : ℕ) (eyes : List Eye) : Type 0 where
  pub count_is : length eyes ≡ count
  pub each : All (λ eye. IsEyeOf publisher eye) eyes

-- one eye of the publisher is behind the others
abbrev pub HasOneMore : Publisher → List Eye → List Eye → Type 0
HasOneMore publisher old new = (eye : Eye) × IsEyeOf publisher eye × (new ≡ old ++ eye ∷ [])

-- nothing was shown, and the studio is the same
pub record ShowsTheSame (old new : Publisher) : Type 0 where
  pub chain : shown_by new ≡ shown_by old
  pub last : last_by new ≡ last_by old
  pub studio : publisher_studio new ≡ publisher_studio old

-- the keeper works with this dispatcher, and showed its core once
pub record IsFirst (dispatcher : Dispatcher) (keeper : Keeper) : Type 0 where
  pub dispatcher_is : keeper.dispatcher ≡ dispatcher
  pub shown : HasShownOnce keeper (core_by dispatcher)

-- a studio over these books, without the pens
pub record IsOver (books : BooksView) (hands eyes : ℕ) (over : Over) : Type 0 where
  pub books_are : books_of over.keeper ≡ books
  pub owner : IsNewOwner hands (owner_of over.keeper)
  pub shown : HasShownOnce over.keeper books.core
  pub hands_are : AreFresh (owner_of over.keeper) over.hands.items
  pub eyes_are : AreEyesOf over.keeper.publisher eyes over.eyes.items

-- a studio of the core as it is, in which nobody did anything: no edit was submitted, taken or refused, each pen has
-- its desk, no job was pushed and no report sent, the hands are those of the keeper's pool, and the core was shown once
pub record IsOpened (core : Core) (pens hands eyes : ℕ) (studio : Studio) : Type 0 where
  pub core_is : core_of studio.keeper ≡ core
  pub opening : (books_of studio.keeper).opening ≡ core.state
  pub refusals : (books_of studio.keeper).refusals ≡ []
  pub taken : (ledger (books_of studio.keeper)).taken ≡ replicate pens []
  pub sent : map submitted studio.pens.items ≡ replicate pens []
  pub desks : (i : ℕ) → i < pens → HasItsDesk studio.pens.items (books_of studio.keeper).desks i
  pub owner : IsNewOwner hands (owner_of studio.keeper)
  pub hands_are : AreFresh (owner_of studio.keeper) studio.hands.items
  pub eyes_are : AreEyesOf studio.keeper.publisher eyes studio.eyes.items
  pub shown : HasShownOnce studio.keeper core
