-- The rule of what is published. It holds between any two steps of any threads.
use Rattle.std.specs.Prelude.{◌≡◌, ℕ, List, [], ◌∷◌, ◌++◌, All, Some, map}
use Rattle.std.specs.Arc.{arc_value}
use mathlib.Core.Option.{some}
use lib.ListN.{get_elem?}
use Rattle.logbook.specs.Pages.{Book}
use Rattle.studio.specs.{declared.shots.prefix.Prefix.Prefix, declared.shots.shown.Shown.Shown}
use Rattle.studio.specs.{declared.shots.shown.Published.Published, declared.shots.rule.ChainView.ChainView, Shots.Shot}
use Rattle.studio.specs.{Chains.IsChain, Chains.Begins, Chains.MayFollow, Chains.last_of, History.whole}

-- what is published, as clauses see it
abbrev pub published : Shown → Published
published x = record { shot = arc_value x.shot; prefix = x.prefix }

-- the chain up to the shot that is published
abbrev pub chain : Published → List Shot
chain p = whole p.prefix.reached.log

-- what a thread knows: beginnings of the history, and a chain that it has seen
abbrev pub view_of : List Prefix → List Shot → ChainView
view_of prefixes seen = record { prefixes = prefixes; seen = seen }

-- the histories that a thread knows: none or one
abbrev pub books : ChainView → List Book
books v = map (λ (p : Prefix). p.reached.book) v.prefixes

-- the view of a thread that knows nothing
abbrev pub newcomer : ChainView
newcomer = view_of [] []

-- the view of a thread that knows all that is published
abbrev pub informed : Published → ChainView
informed p = view_of (p.prefix ∷ []) (chain p)

-- what is published is of the history that the thread knows, and begins with all that the thread has seen
abbrev pub Fits : Published → ChainView → Type 0
Fits p v = All (λ b. b ≡ p.prefix.reached.book) (books v) × Begins (chain p) v.seen

-- the shot is the last of a chain, which begins with all that any thread has seen
pub record IsPublished (p : Published) (views : List ChainView) : Type 0 where
  pub sound : IsChain (chain p)
  pub last : last_of (chain p) ≡ Some p.shot
  pub each : (j : ℕ) (v : ChainView) → get_elem? views j ≡ some v → Fits p v

-- the same of what lies in memory
abbrev pub IsShown : Shown → List ChainView → Type 0
IsShown x views = IsPublished (published x) views

-- what a publication tells: the writer knows all that is published
abbrev pub Shows : ChainView → Shown → Shown → ChainView → Type 0
Shows v x y w = w ≡ informed (published y)

-- what a look tells: the shot is the last of a chain, which begins with all that was seen
pub record Looks (v : ChainView) (x y : Shown) (w : ChainView) : Type 0 where
  pub view : w ≡ view_of v.prefixes (chain (published y))
  pub sound : IsChain (chain (published y))
  pub last : last_of (chain (published y)) ≡ Some (arc_value y.shot)
  pub fits : Fits (published y) v

-- what is published once y is absorbed
abbrev pub taken : Published → Shown → Published
taken p y = published y

-- q may be published after p: it is of the same history, and its chain has one shot more, which may follow
pub record IsNext (p q : Published) : Type 0 where
  pub book : q.prefix.reached.book ≡ p.prefix.reached.book
  pub longer : chain q ≡ chain p ++ q.shot ∷ []
  pub follows : MayFollow p.shot q.shot
