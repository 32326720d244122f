-- The walk from marked tiles to those that are linked: what it keeps, and that it ends.
use Rattle.std.proofs.Common.{◌≡◌, ℕ, zero, suc, ◌+◌, ◌<◌, ◌≤◌, ◌⊎◌, inl, inr, Bool, true, false, cond, List, ◌∷◌, []}
use Rattle.std.proofs.Common.{length, get_or, set, refl, ap, sym, ◌∙◌, subst, arith, ◌↔◌}
use Rattle.std.proofs.{lemmas.Bool.cases_eq, lemmas.List.length-set}
use Rattle.tile_work.specs.{TileSet.Has, Marks.Adds}
use Rattle.core_rules.specs.Hits.{LeadFrom, IsReached}
use Rattle.tile_work.proofs.TileSets.{is_there, cases_has, taken_has, not_has_false}

-- ---- what is left

-- 0 at a tile that is marked and not in the queue, else 1
abbrev open_of : Bool → Bool → ℕ
open_of marked queued = cond marked (cond queued 1 0) 1

-- how many of the first tiles are not marked, or in the queue
pub unfinished : List Bool → List Bool → ℕ → ℕ
unfinished m q zero = 0
unfinished m q (suc n) = open_of (get_or m n false) (get_or q n false) + unfinished m q n

at_most_one : (a b : Bool) → open_of a b ≤ 1
at_most_one true true = omega arith
at_most_one true false = omega arith
at_most_one false b = omega arith

always_one : (a : Bool) → open_of a true ≡ 1
always_one true = refl
always_one false = refl

no_more_open : (a b c d : Bool) → (a ≡ true → b ≡ false → (c ≡ true) × (d ≡ false)) → open_of c d ≤ open_of a b
no_more_open true true c d keeps = at_most_one c d
no_more_open false b c d keeps = at_most_one c d
no_more_open true false c d keeps =
    let e = keeps refl refl in
    let none : open_of c d ≡ 0 = ap (λ x. open_of x d) e.0 ∙ ap (λ x. open_of true x) e.1 in
    omega (arith, none)

-- each tile that was finished still is
Keeps : List Bool → List Bool → List Bool → List Bool → Type 0
Keeps m q m1 q1 = (t : ℕ) → Has m t → (Has q t → ⊥) → Has m1 t × (Has q1 t → ⊥)

no_more_at : (m q m1 q1 : List Bool) → Keeps m q m1 q1 → (t : ℕ)
    → open_of (get_or m1 t false) (get_or q1 t false) ≤ open_of (get_or m t false) (get_or q t false)
unfolding Keeps
no_more_at m q m1 q1 keeps t =
    no_more_open (get_or m t false) (get_or q t false) (get_or m1 t false) (get_or q1 t false) (λ marked free.
    let after = keeps t (is_there m t marked) (λ has. let gone : true ≡ false = sym has.1 ∙ free in cc) in
    (after.0.1, not_has_false q1 t after.1))

no_more : (m q m1 q1 : List Bool) → Keeps m q m1 q1 → (n : ℕ) → unfinished m1 q1 n ≤ unfinished m q n
unfolding unfinished
no_more m q m1 q1 keeps zero = omega arith
no_more m q m1 q1 keeps (suc n) = omega (arith, no_more_at m q m1 q1 keeps n, no_more m q m1 q1 keeps n)

fewer : (m q m1 q1 : List Bool) → Keeps m q m1 q1 → (x : ℕ) → Has q x → Has m1 x → (Has q1 x → ⊥) → (n : ℕ) → x < n
    → unfinished m1 q1 n < unfinished m q n
unfolding unfinished
fewer m q m1 q1 keeps x was marked free zero below = absurd (omega arith)
fewer m q m1 q1 keeps x was marked free (suc n) below = elim (cases_eq x n) [
  | inl same ↦
      let before : open_of (get_or m n false) (get_or q n false) ≡ 1 =
      ap (λ b. open_of (get_or m n false) b) (ap (λ t. get_or q t false) (sym same) ∙ was.1)
      ∙ always_one (get_or m n false) in
      let after : open_of (get_or m1 n false) (get_or q1 n false) ≡ 0 =
      ap (λ a. open_of a (get_or q1 n false)) (ap (λ t. get_or m1 t false) (sym same) ∙ marked.1)
      ∙ ap (λ b. open_of true b) (ap (λ t. get_or q1 t false) (sym same) ∙ not_has_false q1 x free) in
      omega (arith, no_more m q m1 q1 keeps n, before, after)
  | inr other ↦
      omega (
        arith,
        no_more_at m q m1 q1 keeps n,
        fewer m q m1 q1 keeps x was marked free n (omega (arith, below, other)),
      )
]

-- ---- the walk

-- the tiles that are marked are reached, each tile at the start is marked, and links of a marked tile that is not in
-- the queue lead to marked ones
pub record IsWalk (P : ℕ → Type 0) (linked : ℕ → ℕ → Type 0) (n : ℕ) (m q : List Bool) : Type 0 where
  pub count : length m ≡ n
  pub queue_count : length q ≡ n
  pub sound : (t : ℕ) → Has m t → IsReached P linked t
  pub start : (t : ℕ) → P t → Has m t
  pub closed : (t u : ℕ) → Has m t → linked t u → Has q t ⊎ Has m u
  pub waiting : (t : ℕ) → Has q t → Has m t

module _ {P : ℕ → Type 0} {linked : ℕ → ℕ → Type 0} {n : ℕ} {m q m1 q1 : List Bool} (x : ℕ)
    (walk : IsWalk P linked n m q) (was : Has q x) (adds : Adds (linked x) m (set q x false) m1 q1) where
  taken_out : (t : ℕ) → Has (set q x false) t ↔ (Has q t × (t ≡ x → ⊥))
  taken_out = taken_has q x was.0

  walked_sound : (t : ℕ) → Has m1 t → IsReached P linked t
  walked_sound t has = elim ((adds.marked t).0 has) [
    | inl before ↦ walk.sound t before
    | inr link ↦ let reached = walk.sound x (walk.waiting x was) in (x ∷ reached.0, (reached.1, link))
  ]

  walked_closed : (t u : ℕ) → Has m1 t → linked t u → Has q1 t ⊎ Has m1 u
  walked_closed t u has link = elim (cases_has m t) [
    | inl before ↦ elim (walk.closed t u before link) [
      | inl waits ↦ elim (cases_eq t x) [
        | inl same ↦ inr ((adds.marked u).1 (inr (subst (λ s. linked s u) same link)))
        | inr other ↦ inl ((adds.grows.queued t).1 (inl ((taken_out t).1 (waits, other))))
      ]
      | inr marked ↦ inr (adds.grows.kept u marked)
    ]
    | inr new ↦ inl ((adds.grows.queued t).1 (inr (has, new)))
  ]

  walked_waiting : (t : ℕ) → Has q1 t → Has m1 t
  walked_waiting t has = elim ((adds.grows.queued t).0 has) [
    | inl before ↦ adds.grows.kept t (walk.waiting t ((taken_out t).0 before).0)
    | inr (marked, new) ↦ marked
  ]

  pub walk_goes_on : IsWalk P linked n m1 q1
  walk_goes_on = record {
    count = adds.grows.count ∙ walk.count;
    queue_count = adds.grows.queue_count ∙ length-set q x false ∙ walk.queue_count;
    sound = walked_sound;
    start = λ t p. adds.grows.kept t (walk.start t p);
    closed = walked_closed;
    waiting = walked_waiting;
  }

  keeps : Keeps m q m1 q1
  unfolding Keeps
  keeps t marked free = (
    adds.grows.kept t marked,
    λ has. elim ((adds.grows.queued t).0 has) [
      | inl before ↦ free ((taken_out t).0 before).0
      | inr (after, new) ↦ new marked
    ],
  )

  finished_now : Has q1 x → ⊥
  finished_now has = elim ((adds.grows.queued x).0 has) [
    | inl before ↦ ((taken_out x).0 before).1 refl
    | inr (after, new) ↦ new (walk.waiting x was)
  ]

  pub walk_shortens : unfinished m1 q1 (length m1) < unfinished m q (length m)
  walk_shortens =
      let marked = walk.waiting x was in
      subst (λ k. unfinished m1 q1 k < unfinished m q (length m)) (sym adds.grows.count)
      (fewer m q m1 q1 keeps x was (adds.grows.kept x marked) finished_now (length m) marked.0)

led_is_marked : (P : ℕ → Type 0) (linked : ℕ → ℕ → Type 0) (m : List Bool) → ((t : ℕ) → P t → Has m t)
    → ((t u : ℕ) → Has m t → linked t u → Has m u) → (before : List ℕ) (t : ℕ) → LeadFrom P linked before t → Has m t
led_is_marked P linked m start closed [] t p = start t p
led_is_marked P linked m start closed (u ∷ before) t (lead, link) =
    closed u t (led_is_marked P linked m start closed before u lead) link

pub walk_ends : {P : ℕ → Type 0} {linked : ℕ → ℕ → Type 0} {n : ℕ} {m q : List Bool} → IsWalk P linked n m q
    → ((t : ℕ) → Has q t → ⊥) → (t : ℕ) → Has m t ↔ IsReached P linked t
walk_ends {P} {linked} {m = m} walk none t = (
  walk.sound t,
  λ reached. led_is_marked P linked m walk.start
      (λ s u has link. elim (walk.closed s u has link) [ inl waits ↦ absurd (none s waits) | inr marked ↦ marked ])
      reached.0 t reached.1,
)
