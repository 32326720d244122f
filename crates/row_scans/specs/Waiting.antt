-- The cells that wait. Only the steps of growing have these words in their contracts.
use Rattle.std.specs.Prelude.{◌≡◌, ◌↔◌, ℕ, ◌+◌, ◌<◌, ◌⊎◌, List, [], ◌∷◌, length, Option, None, Some, All, Contains}
use Rattle.std.specs.Prelude.{HoldsAt, flat_map}
use Rattle.std.specs.{List.AllWithin, declared.collections.VecDeque.VecDeque}
use Rattle.std.specs.VecDeque.{deque_capacity, deque_items}

-- one list has the cells of the other, and one cell more
pub record AreOneMore (cell : ℕ) (fewer more : List ℕ) : Type 0 where
  pub each : (i : ℕ) → Contains more i ↔ (Contains fewer i ⊎ (i ≡ cell))
  pub count : length more ≡ length fewer + 1

-- the cell that comes next, if there is one, and the others
abbrev pub next_and : Option ℕ → List ℕ → List ℕ
next_and None others = others
next_and (Some cell) others = cell ∷ others

module _ {Z : Type 0} where
  -- the cells of the lists, one list after another
  abbrev pub cells_of : List (VecDeque ℕ Z) → List ℕ
  cells_of lists = flat_map deque_items lists

  -- each list has room for some cells
  abbrev pub HaveCapacity : List (VecDeque ℕ Z) → Type 0
  HaveCapacity lists = All (λ list. 0 < deque_capacity list) lists

  -- there is a list at the place that is served, and each has room for some cells
  pub record AreServed (lists : List (VecDeque ℕ Z)) (at : ℕ) : Type 0 where
    pub capacity : HaveCapacity lists
    pub within : at < length lists

  -- the lists from one place to before another have no cell
  abbrev pub AreEmptyWithin : List (VecDeque ℕ Z) → ℕ → ℕ → Type 0
  AreEmptyWithin lists start end = AllWithin (λ list. deque_items list ≡ []) lists start end

  -- no list has a cell
  abbrev pub AreAllEmpty : List (VecDeque ℕ Z) → Type 0
  AreAllEmpty lists = All (λ list. deque_items list ≡ []) lists

  -- so many lists, each with room for some cells, and with none
  pub record AreEmptyLists (lists : List (VecDeque ℕ Z)) (count : ℕ) : Type 0 where
    pub empty : AreAllEmpty lists
    pub capacity : HaveCapacity lists
    pub long : length lists ≡ count

  -- the list at this place has a cell
  pub record HasCellAt (lists : List (VecDeque ℕ Z)) (at : ℕ) : Type 0 where
    pub within : at < length lists
    pub some : HoldsAt (λ list. 0 < length (deque_items list)) lists at
