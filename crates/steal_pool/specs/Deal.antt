-- Who got which of the pushed jobs: the rule of the deque. It holds between any two steps of any threads.
use Rattle.std.specs.Prelude.{◌≡◌, ℕ, ◌<◌, ◌≤◌, List, [], ◌∷◌, ◌++◌, length, drop}
use mathlib.Core.Option.{some}
use lib.ListN.{get_elem?}
use Rattle.tile_generations.specs.Jobs.{Job}
use Rattle.steal_pool.specs.declared.rule.EndView.{EndView}

-- what an end of the deque knows: the jobs that it pushed, and those that it got, each with its place among the pushed
abbrev pub view_of : List Job → List (ℕ × Job) → EndView
view_of pushed got = record { pushed = pushed; got = got }

-- an end that pushed nothing and got nothing
abbrev pub newcomer : EndView
newcomer = view_of [] []

-- where each place among the pushed jobs went: to which end, and as which of its jobs
abbrev pub Places : Type 0
Places = ℕ → ℕ × ℕ

-- each job that the end got is the one that was pushed at its place, which is before the front and went there alone
abbrev pub Holds : List Job → ℕ → Places → ℕ → EndView → Type 0
Holds pushed front places port v =
    (i k : ℕ) (x : Job) → get_elem? v.got i ≡ some (k, x)
    → (k < front) × (get_elem? pushed k ≡ some x) × (places k ≡ (port, i))

-- the job of the place is where the place went
abbrev pub IsFound : List EndView → Places → ℕ → Type 0
IsFound views places k =
    (v : EndView) × (x : Job) × (get_elem? views (places k).0 ≡ some v) × (get_elem? v.got (places k).1 ≡ some (k, x))

-- the first jobs that were pushed, up to the front, were got, each place by just one end; the others, in order, are in
-- the deque. The owner is the end 0
pub record IsDealt (items : List Job) (views : List EndView) : Type 0 where
  pub pushed : List Job
  pub front : ℕ
  pub places : Places
  pub left : drop front pushed ≡ items
  pub owner : (v : EndView) × (get_elem? views 0 ≡ some v) × (v.pushed ≡ pushed)
  pub held : (port : ℕ) (v : EndView) → get_elem? views port ≡ some v → Holds pushed front places port v
  pub found : (k : ℕ) → k < front → IsFound views places k
  pub within : front ≤ length pushed

-- an end got one job, with its place
abbrev pub Gets : EndView → List Job → EndView → Type 0
Gets v xs w = (k : ℕ) × (x : Job) × (xs ≡ x ∷ []) × (w ≡ view_of v.pushed (v.got ++ (k, x) ∷ []))

-- each job that the end got is the one that it pushed at its place
abbrev pub HasPushed : EndView → Type 0
HasPushed v = (i k : ℕ) (x : Job) → get_elem? v.got i ≡ some (k, x) → get_elem? v.pushed k ≡ some x
