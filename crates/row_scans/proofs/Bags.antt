-- Lists of cells of which one has a cell more, and the cells of several lists.
use Rattle.std.proofs.Common.{◌≡◌, ℕ, zero, suc, ◌<◌, Bool, true, false, MatchBool, List, [], ◌∷◌, ◌++◌, length, get_or}
use Rattle.std.proofs.Common.{set, refl, sym, ◌∙◌, ap, subst, inl, inr, arith, length-append, length-set, Contains}
use Rattle.std.proofs.Common.{deque_capacity, deque_items}
use Rattle.std.proofs.lemmas.List.{set-get_or}
use Rattle.std.proofs.lemmas.List.Elements.{All-head, All-set, All-tail, Contains-append_cases, Contains-append_left}
use Rattle.std.proofs.lemmas.List.Elements.{Contains-append_right, Contains-push, Contains-push_cases}
use Rattle.std.specs.declared.collections.VecDeque.{VecDeque}
use Rattle.row_scans.specs.Waiting.{AreAllEmpty, AreOneMore, AreServed, HaveCapacity, cells_of}

-- a cell more at the end
pub one_more_last : (cell : ℕ) (xs : List ℕ) → AreOneMore cell xs (xs ++ cell ∷ [])
one_more_last cell xs = record {
  each = λ i. (
    λ has. elim (Contains-push_cases xs cell i has) [ inl was ↦ inl was | inr same ↦ inr (sym same) ],
    λ has. elim has [
      | inl was ↦ Contains-append_left xs (cell ∷ []) i was
      | inr same ↦ subst (Contains (xs ++ cell ∷ [])) (sym same) (Contains-push xs cell)
    ],
  );
  count = length-append xs (cell ∷ []);
}

-- a cell more at the begin
pub one_more_first : (cell : ℕ) (xs : List ℕ) → AreOneMore cell xs (cell ∷ xs)
one_more_first cell xs = record {
  each = λ i. (
    λ has. elim (Contains-append_cases (cell ∷ []) xs i has) [
      | inl first ↦ elim (Contains-push_cases [] cell i first) [
        | inl none ↦ absurd (let within : none.0 < 0 = none.1 in omega arith)
        | inr same ↦ inr (sym same)
      ]
      | inr was ↦ inl was
    ],
    λ has. elim has [
      | inl was ↦ Contains-append_right (cell ∷ []) xs i was
      | inr same ↦ subst (Contains (cell ∷ xs)) (sym same) (0, omega arith, refl)
    ],
  );
  count = omega (arith, length-append (cell ∷ []) xs);
}

module _ {cell : ℕ} {fewer more : List ℕ} (one : AreOneMore cell fewer more) (others : List ℕ) where
  -- a cell more before others
  pub one_more_before : AreOneMore cell (fewer ++ others) (more ++ others)
  one_more_before = record {
    each = λ i. (
      λ has. elim (Contains-append_cases more others i has) [
        | inl here ↦ elim ((one.each i).0 here) [
          | inl was ↦ inl (Contains-append_left fewer others i was)
          | inr same ↦ inr same
        ]
        | inr there ↦ inl (Contains-append_right fewer others i there)
      ],
      λ has. elim has [
        | inl was ↦ elim (Contains-append_cases fewer others i was) [
          | inl here ↦ Contains-append_left more others i ((one.each i).1 (inl here))
          | inr there ↦ Contains-append_right more others i there
        ]
        | inr same ↦ Contains-append_left more others i ((one.each i).1 (inr same))
      ],
    );
    count = omega (arith, length-append fewer others, length-append more others, one.count);
  }

  -- a cell more after others
  pub one_more_behind : AreOneMore cell (others ++ fewer) (others ++ more)
  one_more_behind = record {
    each = λ i. (
      λ has. elim (Contains-append_cases others more i has) [
        | inl there ↦ inl (Contains-append_left others fewer i there)
        | inr here ↦ elim ((one.each i).0 here) [
          | inl was ↦ inl (Contains-append_right others fewer i was)
          | inr same ↦ inr same
        ]
      ],
      λ has. elim has [
        | inl was ↦ elim (Contains-append_cases others fewer i was) [
          | inl there ↦ Contains-append_left others more i there
          | inr here ↦ Contains-append_right others more i ((one.each i).1 (inl here))
        ]
        | inr same ↦ Contains-append_right others more i ((one.each i).1 (inr same))
      ],
    );
    count = omega (arith, length-append others fewer, length-append others more, one.count);
  }

-- where a cell was put behind the one that comes next, if there was room for it, it was put into all of them
pub more_behind_next : (room : Bool) (cell next : ℕ) (fewer more all : List ℕ) → next ∷ fewer ≡ all
    → MatchBool room (AreOneMore cell fewer more) (more ≡ fewer)
    → MatchBool room (AreOneMore cell all (next ∷ more)) (next ∷ more ≡ all)
more_behind_next true cell next fewer more all same one =
    subst (λ old. AreOneMore cell old (next ∷ more)) same (one_more_behind one (next ∷ []))
more_behind_next false cell next fewer more all same one = ap (λ others. next ∷ others) one ∙ same

-- what has one cell more than a list has the cells of the list behind that cell, and no others
module _ {cell : ℕ} {fewer more : List ℕ} (one : AreOneMore cell fewer more) where
  pub behind_one : (i : ℕ) → Contains more i → Contains (cell ∷ fewer) i
  behind_one i has = ((one_more_first cell fewer).each i).1 ((one.each i).0 has)

  pub from_behind : (i : ℕ) → Contains (cell ∷ fewer) i → Contains more i
  from_behind i has = (one.each i).1 (((one_more_first cell fewer).each i).0 has)

module _ {Z : Type 0} where
  -- where no list has a cell, there is none in all of them
  pub no_cells : (lists : List (VecDeque ℕ Z)) → AreAllEmpty lists → cells_of lists ≡ []
  no_cells [] empty = refl
  no_cells (list ∷ lists) empty =
      ap (λ xs. xs ++ cells_of lists) (All-head (λ l. deque_items l ≡ []) list lists empty)
      ∙ no_cells lists (All-tail (λ l. deque_items l ≡ []) list lists empty)

  -- a list among others is replaced by one that has a cell more
  one_more_among : (cell : ℕ) (before after : VecDeque ℕ Z) (lists : List (VecDeque ℕ Z)) (at : ℕ)
      → at < length lists → AreOneMore cell (deque_items before) (deque_items after)
      → AreOneMore cell (cells_of (set lists at before)) (cells_of (set lists at after))
  one_more_among cell before after [] at within one = absurd (omega arith)
  one_more_among cell before after (list ∷ lists) zero within one =
      one_more_before one (cells_of lists)
  one_more_among cell before after (list ∷ lists) (suc at) within one =
      one_more_behind (one_more_among cell before after lists at (omega arith) one) (deque_items list)

  -- a list with a cell is put among others
  some_among : (list : VecDeque ℕ Z) (lists : List (VecDeque ℕ Z)) (at : ℕ) → at < length lists
      → 0 < length (deque_items list) → 0 < length (cells_of (set lists at list))
  some_among list [] at within some = absurd (omega arith)
  some_among list (first ∷ lists) zero within some =
      omega (arith, some, length-append (deque_items list) (cells_of lists))
  some_among list (first ∷ lists) (suc at) within some =
      omega (
        arith,
        some_among list lists at (omega arith) some,
        length-append (deque_items first) (cells_of (set lists at list)),
      )

  module _ (before after : VecDeque ℕ Z) (lists : List (VecDeque ℕ Z)) (at : ℕ)
      (within : at < length lists) (here : before ≡ get_or lists at before) where
    same_lists : set lists at before ≡ lists
    same_lists = ap (set lists at) here ∙ set-get_or lists at before

    room_kept : HaveCapacity lists → deque_capacity after ≡ deque_capacity before → 0 < deque_capacity after
    room_kept capacity same =
        let room : 0 < deque_capacity before =
        subst (λ l. 0 < deque_capacity l) (sym here) (capacity at before within) in
        omega (arith, same, room)

    -- a cell is put at the end of a list
    pub cell_pushed : (cell : ℕ) → deque_items after ≡ deque_items before ++ cell ∷ []
        → AreOneMore cell (cells_of lists) (cells_of (set lists at after))
    cell_pushed cell pushed =
        subst (λ ls. AreOneMore cell (cells_of ls) (cells_of (set lists at after))) same_lists
        (one_more_among cell before after lists at within
        (subst (AreOneMore cell (deque_items before)) (sym pushed) (one_more_last cell (deque_items before))))

    -- the first cell of a list is taken
    pub cell_popped : (cell : ℕ) → deque_items before ≡ cell ∷ deque_items after
        → AreOneMore cell (cells_of (set lists at after)) (cells_of lists)
    cell_popped cell popped =
        subst (λ ls. AreOneMore cell (cells_of (set lists at after)) (cells_of ls)) same_lists
        (one_more_among cell after before lists at within
        (subst (AreOneMore cell (deque_items after)) (sym popped) (one_more_first cell (deque_items after))))

    -- a list of the lists gets or loses cells, and one of them is served
    pub served_changed : (served : ℕ) → served < length lists → HaveCapacity lists
        → deque_capacity after ≡ deque_capacity before → AreServed (set lists at after) served
    served_changed served there capacity same = record {
      capacity = All-set (λ l. 0 < deque_capacity l) lists at after (room_kept capacity same) capacity;
      within = omega (arith, there, length-set lists at after);
    }

    -- where a list has a cell, all together have one
    pub some_cells : 0 < length (deque_items before) → 0 < length (cells_of lists)
    some_cells some =
        subst (λ ls. 0 < length (cells_of ls)) same_lists (some_among before lists at within some)
