-- Cells that are raised to one level, as far as the mask lets them, and the queue of those that rose.
use Rattle.std.proofs.Common.{◌≡◌, ℕ, ◌+◌, ◌<◌, ◌≤◌, ◌⊎◌, List, length, min, max, set, sym, ◌∙◌, subst, arith, inl, inr}
use Rattle.std.proofs.Common.{refl, get_or, Contains, ◌≢◌, ap, nat_lt, Bool, IsTrue, MatchBool, true, [], ◌∷◌, ◌++◌}
use Rattle.std.proofs.lemmas.Bool.{cases_eq, cases_lt, le-ltb, lt-ltb}
use Rattle.std.proofs.lemmas.List.{length-set, get_or-set_same, get_or-set_other, set-get_or}
use Rattle.grid_core.specs.Raster.{headroom, max_level}
use Rattle.grid_core.proofs.Headroom.{headroom_set}
use Rattle.raster_sweeps.specs.declared.neighbourhood.RowSpan.{RowSpan}
use Rattle.raster_sweeps.specs.Spans.{AreQueued, AreSpread, InSpan, IsRaised}
use Rattle.raster_sweeps.specs.Trail.{Trail}
use Rattle.raster_sweeps.proofs.Trails.{last_joined}
use Rattle.row_scans.specs.Waiting.{AreOneMore}

-- no cell is raised
pub raised_none : {at : ℕ → Type 0} {mask : List ℕ} {level : ℕ} {cells : List ℕ} → ((k : ℕ) → at k → ⊥)
    → IsRaised at mask level cells cells
raised_none none = record {
  filled = refl;
  raised = λ k here. absurd (none k here);
  each = λ k. inl refl;
}

-- the same cells, said in another way
pub raised_at : {at other : ℕ → Type 0} {mask : List ℕ} {level : ℕ} {before after : List ℕ}
    → IsRaised at mask level before after → ((k : ℕ) → at k → other k) → ((k : ℕ) → other k → at k)
    → IsRaised other mask level before after
raised_at raised to from = record {
  filled = raised.filled;
  raised = λ k here. raised.raised k (from k here);
  each = λ k. elim (raised.each k) [ inl same ↦ inl same | inr rose ↦ inr (to k rose.0, rose.1) ];
}

-- a cell is raised that lies lower
pub raised_one : (mask : List ℕ) (level : ℕ) (cells : List ℕ) (j : ℕ) → j < length cells
    → get_or cells j 0 < min level (get_or mask j 0)
    → IsRaised (λ k. k ≡ j) mask level cells (set cells j (min level (get_or mask j 0)))
raised_one mask level cells j within lower =
    let v : ℕ = min level (get_or mask j 0) in
    let new : List ℕ = set cells j v in
    let here : get_or new j 0 ≡ v = get_or-set_same cells j v 0 within in
    let rose : get_or new j 0 ≡ max (get_or cells j 0) (min level (get_or mask j 0)) = omega (arith, here, lower) in
    let at_j : (k : ℕ) → k ≡ j → get_or new k 0 ≡ max (get_or cells k 0) (min level (get_or mask k 0)) =
    λ k e. subst (λ i. get_or new i 0 ≡ max (get_or cells i 0) (min level (get_or mask i 0))) (sym e) rose in
    record {
      filled = length-set cells j v;
      raised = at_j;
      each = λ k. elim (cases_eq k j) [
        | inl e ↦ inr (e, at_j k e)
        | inr other ↦ inl (get_or-set_other cells j k v 0 other)
      ];
    }

-- a cell is not raised that lies as high
pub raised_not : {mask : List ℕ} {level : ℕ} {cells : List ℕ} (j : ℕ)
    → min level (get_or mask j 0) ≤ get_or cells j 0 → IsRaised (λ k. k ≡ j) mask level cells cells
raised_not {mask} {level} {cells} j high = record {
  filled = refl;
  raised = λ k e.
      subst (λ i. get_or cells i 0 ≡ max (get_or cells i 0) (min level (get_or mask i 0))) (sym e)
      (omega (arith, high));
  each = λ k. inl refl;
}

-- cells are raised, and then others
pub raised_twice : {at other : ℕ → Type 0} {mask : List ℕ} {level : ℕ} {before between after : List ℕ}
    → IsRaised at mask level before between → IsRaised other mask level between after
    → IsRaised (λ k. at k ⊎ other k) mask level before after
raised_twice {other} {mask} {level} {before} {between} {after} first second =
    let from_between : (k : ℕ) → get_or between k 0 ≡ max (get_or before k 0) (min level (get_or mask k 0))
    → get_or after k 0 ≡ max (get_or before k 0) (min level (get_or mask k 0)) =
    λ k e. elim (second.each k) [ inl same ↦ omega (arith, same, e) | inr rose ↦ omega (arith, rose.1, e) ] in
    let at_other : (k : ℕ) → other k → get_or after k 0 ≡ max (get_or before k 0) (min level (get_or mask k 0)) =
    λ k here. elim (first.each k) [
      | inl same ↦ omega (arith, same, second.raised k here)
      | inr rose ↦ omega (arith, rose.1, second.raised k here)
    ] in
    record {
      filled = second.filled ∙ first.filled;
      raised = λ k here. elim here [
        | inl at_first ↦ from_between k (first.raised k at_first)
        | inr at_second ↦ at_other k at_second
      ];
      each = λ k. elim (second.each k) [
        | inr rose ↦ inr (inr rose.0, at_other k rose.0)
        | inl same ↦ elim (first.each k) [
          | inl kept ↦ inl (same ∙ kept)
          | inr rose ↦ inr (inl rose.0, same ∙ rose.1)
        ]
      ];
    }

-- no cell that is raised falls
pub raised_rises : {at : ℕ → Type 0} {mask : List ℕ} {level : ℕ} {before after : List ℕ}
    → IsRaised at mask level before after → (k : ℕ) → get_or before k 0 ≤ get_or after k 0
raised_rises raised k =
    elim (raised.each k) [ inl same ↦ omega (arith, same) | inr rose ↦ omega (arith, rose.1) ]

-- no cell is queued
pub queued_none : {at : ℕ → Type 0} {mask : List ℕ} {level : ℕ} {cells waiting : List ℕ} → ((k : ℕ) → at k → ⊥)
    → AreQueued at mask level cells waiting waiting
queued_none none = record {
  kept = λ i waits. waits;
  added = λ k here lower. absurd (none k here);
}

-- the same cells, said in another way
pub queued_at : {at other : ℕ → Type 0} {mask : List ℕ} {level : ℕ} {cells old new : List ℕ}
    → AreQueued at mask level cells old new → ((k : ℕ) → other k → at k) → AreQueued other mask level cells old new
queued_at queued from = record {
  kept = queued.kept;
  added = λ k here. queued.added k (from k here);
}

-- a cell that is raised is queued
pub queued_one : {mask : List ℕ} {level : ℕ} {cells waiting new : List ℕ} {j : ℕ} → AreOneMore j waiting new
    → AreQueued (λ k. k ≡ j) mask level cells waiting new
queued_one one = record {
  kept = λ i has. (one.each i).1 (inl has);
  added = λ k e lower. (one.each k).1 (inr e);
}

-- a cell that is not raised need not be queued
pub queued_not : {mask : List ℕ} {level : ℕ} {cells waiting : List ℕ} (j : ℕ)
    → min level (get_or mask j 0) ≤ get_or cells j 0 → AreQueued (λ k. k ≡ j) mask level cells waiting waiting
queued_not {mask} {level} {cells} j high = record {
  kept = λ i waits. waits;
  added = λ k e lower.
      let low : get_or cells j 0 < min level (get_or mask j 0) =
      subst (λ i. get_or cells i 0 < min level (get_or mask i 0)) e lower in
      absurd (omega (arith, low, high));
}

-- cells are queued, and then others
pub queued_twice : {at other : ℕ → Type 0} {mask : List ℕ} {level : ℕ} {before between old middle new : List ℕ}
    → IsRaised at mask level before between → AreQueued at mask level before old middle
    → AreQueued other mask level between middle new → AreQueued (λ k. at k ⊎ other k) mask level before old new
queued_twice raised first second = record {
  kept = λ i waits. second.kept i (first.kept i waits);
  added = λ k here lower. elim here [
    | inl at_first ↦ second.kept k (first.added k at_first lower)
    | inr at_second ↦ elim (raised.each k) [
      | inl same ↦ second.added k at_second (omega (arith, same, lower))
      | inr rose ↦ second.kept k (first.added k rose.0 lower)
    ]
  ];
}

-- each cell that waited waits, and each that rose
pub queued_stays : {at : ℕ → Type 0} {mask : List ℕ} {level : ℕ} {before after old new : List ℕ}
    → IsRaised at mask level before after → AreQueued at mask level before old new → (k : ℕ)
    → Contains old k ⊎ (get_or after k 0 ≢ get_or before k 0)
    → Contains new k
queued_stays {mask} {level} {before} raised queued k why =
    elim why [
      | inl waited ↦ queued.kept k waited
      | inr changed ↦ elim (raised.each k) [
        | inl same ↦ absurd (changed same)
        | inr rose ↦ elim (cases_lt (get_or before k 0) (min level (get_or mask k 0))) [
          | inl lower ↦ queued.added k rose.0 lower
          | inr high ↦ absurd (changed (omega (arith, rose.1, high)))
        ]
      ]
    ]

-- cells are raised and queued, and then others
pub spread_twice : {at other : ℕ → Type 0} {mask : List ℕ} {level : ℕ} {before between after old middle new : List ℕ}
    → {First Second : Type 0} → AreSpread at mask level before between old middle First
    → AreSpread other mask level between after middle new Second
    → AreSpread (λ k. at k ⊎ other k) mask level before after old new (First × Second)
spread_twice first second = record {
  raised = raised_twice first.raised second.raised;
  inside = λ i waits. elim (second.inside i waits) [
    | inr here ↦ inr (inr here)
    | inl earlier ↦ elim (first.inside i earlier) [ inl was ↦ inl was | inr here ↦ inr (inl here) ]
  ];
  queued = λ both. queued_twice first.raised (first.queued both.0) (second.queued both.1);
  count = λ both. omega (arith, first.count both.0, second.count both.1);
  effort = λ both. omega (arith, first.effort both.0, second.effort both.1);
  fell = elim first.fell [
    | inr less ↦ inr (omega (arith, less, second.kept))
    | inl one ↦ elim second.fell [ inr less ↦ inr (omega (arith, less, first.kept)) | inl two ↦ inl (one, two) ]
  ];
  kept = omega (arith, first.kept, second.kept);
  less = λ k here lower. elim here [
    | inl at_first ↦ omega (arith, first.less k at_first lower, second.kept)
    | inr at_second ↦ elim (first.raised.each k) [
      | inl same ↦ omega (arith, second.less k at_second (omega (arith, same, lower)), first.kept)
      | inr rose ↦ omega (arith, first.less k rose.0 lower, second.kept)
    ]
  ];
}

-- the same, where there is room for all in another sense
pub spread_with : {at : ℕ → Type 0} {mask : List ℕ} {level : ℕ} {before after old new : List ℕ} {Room Other : Type 0}
    → AreSpread at mask level before after old new Room → (Other → Room) → (Room → Other)
    → AreSpread at mask level before after old new Other
spread_with spread from to = record {
  raised = spread.raised;
  inside = spread.inside;
  queued = λ other. spread.queued (from other);
  count = λ other. spread.count (from other);
  effort = λ other. spread.effort (from other);
  fell = elim spread.fell [ inl room ↦ inl (to room) | inr less ↦ inr less ];
  kept = spread.kept;
  less = spread.less;
}

-- a cell that lies lower is raised, and queued if there is room
pub spread_one : (mask : List ℕ) (level : ℕ) (cells : List ℕ) (j : ℕ) (old new : List ℕ) (Room : Type 0)
    → level ≤ max_level → j < length cells → get_or cells j 0 < min level (get_or mask j 0)
    → AreOneMore j old new ⊎ ((Room → ⊥) × (new ≡ old))
    → AreSpread (λ k. k ≡ j) mask level cells (set cells j (min level (get_or mask j 0))) old new Room
spread_one mask level cells j old new Room top within lower joined =
    let v : ℕ = min level (get_or mask j 0) in
    let less : headroom (set cells j v) < headroom cells = headroom_set cells j v within lower (omega (arith, top)) in
    let one : Room → AreOneMore j old new = λ room. elim joined [ inl one ↦ one | inr full ↦ absurd (full.0 room) ] in
    record {
      raised = raised_one mask level cells j within lower;
      inside = λ i waits. elim joined [
        | inl more ↦ (more.each i).0 waits
        | inr full ↦ inl (subst (λ xs. Contains xs i) full.1 waits)
      ];
      queued = λ room. queued_one (one room);
      count = λ room. omega (arith, (one room).count);
      effort = λ room. omega (arith, (one room).count, less);
      fell = inr less;
      kept = omega (arith, less);
      less = λ k here low. less;
    }

-- a cell that lies as high stays
pub spread_stays : {mask : List ℕ} {level : ℕ} {cells : List ℕ} {j : ℕ} {waiting : List ℕ} {Room : Type 0} → Room
    → min level (get_or mask j 0) ≤ get_or cells j 0
    → AreSpread (λ k. k ≡ j) mask level cells cells waiting waiting Room
spread_stays {mask} {level} {cells} {j} all high = record {
  raised = raised_not j high;
  inside = λ i waits. inl waits;
  queued = λ room. queued_not j high;
  count = λ room. omega arith;
  effort = λ room. omega arith;
  fell = inl all;
  kept = omega arith;
  less = λ k e low.
      let same : get_or cells j 0 < min level (get_or mask j 0) =
      subst (λ i. get_or cells i 0 < min level (get_or mask i 0)) e low in
      absurd (omega (arith, same, high));
}

-- a cell is raised if it lies lower, and has then joined the trail
pub spread_if : (mask : List ℕ) (level : ℕ) (cells : List ℕ) (j : ℕ) (old new : Trail) → level ≤ max_level
    → j < length cells
    → MatchBool (nat_lt (get_or cells j 0) (min level (get_or mask j 0))) (new.cells ≡ old.cells ++ j ∷ []) (new ≡ old)
    → AreSpread (λ k. k ≡ j) mask level cells (set cells j (max (get_or cells j 0) (min level (get_or mask j 0))))
    old.cells new.cells (IsTrue true)
spread_if mask level cells j old new top within joined =
    let now : ℕ = get_or cells j 0 in
    let v : ℕ = min level (get_or mask j 0) in
    let on : Bool → Type 0 = λ b. MatchBool b (new.cells ≡ old.cells ++ j ∷ []) (new ≡ old) in
    elim (cases_lt now v) [
      | inl lower ↦
          let is : max now v ≡ v = omega (arith, lower) in
          let last : new.cells ≡ old.cells ++ j ∷ [] = subst on (lt-ltb now v lower) joined in
          subst (λ x. AreSpread (λ k. k ≡ j) mask level cells (set cells j x) old.cells new.cells (IsTrue true))
          (sym is)
          (spread_one mask level cells j old.cells new.cells (IsTrue true) top within lower (inl (last_joined last)))
      | inr high ↦
          let is : max now v ≡ now = omega (arith, high) in
          let same : new ≡ old = subst on (le-ltb now v high) joined in
          let kept : set cells j (max now v) ≡ cells = ap (set cells j) is ∙ set-get_or cells j 0 in
          subst (λ xs. AreSpread (λ k. k ≡ j) mask level cells xs old.cells new.cells (IsTrue true)) (sym kept)
          (subst (λ t. AreSpread (λ k. k ≡ j) mask level cells cells old.cells t.cells (IsTrue true)) (sym same)
          (spread_stays refl high))
    ]

-- the same cells, said in another way
pub spread_at : {at other : ℕ → Type 0} {mask : List ℕ} {level : ℕ} {before after old new : List ℕ} {Room : Type 0}
    → AreSpread at mask level before after old new Room → ((k : ℕ) → at k → other k) → ((k : ℕ) → other k → at k)
    → AreSpread other mask level before after old new Room
spread_at spread to from = record {
  raised = raised_at spread.raised to from;
  inside = λ i waits. elim (spread.inside i waits) [ inl was ↦ inl was | inr here ↦ inr (to i here) ];
  queued = λ room. queued_at (spread.queued room) from;
  count = spread.count;
  effort = spread.effort;
  fell = spread.fell;
  kept = spread.kept;
  less = λ k here. spread.less k (from k here);
}

-- where there is no cell, all stays
pub spread_none : {at : ℕ → Type 0} {mask : List ℕ} {level : ℕ} {cells waiting : List ℕ} {Room : Type 0} → Room
    → ((k : ℕ) → at k → ⊥) → AreSpread at mask level cells cells waiting waiting Room
spread_none all none = record {
  raised = raised_none none;
  inside = λ i waits. inl waits;
  queued = λ room. queued_none none;
  count = λ room. omega arith;
  effort = λ room. omega arith;
  fell = inl all;
  kept = omega arith;
  less = λ k here low. absurd (none k here);
}

-- the span up to the next cell has the cells of the span, and that cell
abbrev pub span_to : ℕ → ℕ → RowSpan
span_to first end = record { first = first; end = end; row = 0 }

pub span_more : (first j k : ℕ) → first ≤ j → InSpan (span_to first j) k ⊎ (k ≡ j) → InSpan (span_to first (j + 1)) k
span_more first j k from here =
    elim here [
      | inl before ↦ (before.0, omega (arith, before.1))
      | inr last ↦ (omega (arith, last), omega (arith, last))
    ]

pub span_less : (first j k : ℕ) → InSpan (span_to first (j + 1)) k → InSpan (span_to first j) k ⊎ (k ≡ j)
span_less first j k here =
    elim (cases_lt k j) [ inl before ↦ inl (here.0, before) | inr last ↦ inr (omega (arith, here.1)) ]

module _ {mask : List ℕ} {level : ℕ} {before cells : List ℕ} (first j : ℕ) (from : first ≤ j)
    (within : j < length cells) (raised : IsRaised (InSpan (span_to first j)) mask level before cells) where
  -- the next cell of the span is raised
  pub next_raised : get_or cells j 0 < min level (get_or mask j 0)
      → IsRaised (InSpan (span_to first (j + 1))) mask level before (set cells j (min level (get_or mask j 0)))
  next_raised lower =
      raised_at (raised_twice raised (raised_one mask level cells j within lower))
      (λ k. span_more first j k from) (span_less first j)

  -- the next cell of the span lies as high
  pub next_not_raised : min level (get_or mask j 0) ≤ get_or cells j 0
      → IsRaised (InSpan (span_to first (j + 1))) mask level before cells
  next_not_raised high =
      raised_at (raised_twice raised (raised_not j high)) (λ k. span_more first j k from) (span_less first j)

  module _ {old waiting : List ℕ} (queued : AreQueued (InSpan (span_to first j)) mask level before old waiting) where
    -- the next cell of the span is raised and queued
    pub next_queued : {new : List ℕ} → AreOneMore j waiting new
        → AreQueued (InSpan (span_to first (j + 1))) mask level before old new
    next_queued one = queued_at (queued_twice raised queued (queued_one one)) (span_less first j)

    -- the next cell of the span lies as high, and need not be queued
    pub next_not_queued : min level (get_or mask j 0) ≤ get_or cells j 0
        → AreQueued (InSpan (span_to first (j + 1))) mask level before old waiting
    next_not_queued high = queued_at (queued_twice raised queued (queued_not j high)) (span_less first j)
