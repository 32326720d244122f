-- Hints of a tile that are handed over one after another, the last first.
use Rattle.std.proofs.Common.{◌≡◌, ◌≢◌, ℕ, suc, ◌-◌, ◌<◌, true, List, [], length, remove, refl, sym, ap, subst, ◌∙◌}
use Rattle.std.proofs.Common.{arith, inl, inr}
use Rattle.std.proofs.lemmas.Bool.{cases_lt}
use Rattle.std.proofs.lemmas.List.{length-set, nil_from_length, set_past}
use Rattle.std.proofs.lemmas.List.Edits.{length-remove}
use Rattle.std.proofs.lemmas.Option.{none-some, slice_get_cases}
use Rattle.grid_core.specs.{declared.rect.Rect.Rect, Tiles.tile_of}
use Rattle.border_queues.specs.{declared.hint.Hint.Hint, TileWork.TileWork, TileWork.work_of}
use Rattle.core_rules.specs.{declared.answers.Handed.Handed, Hints.IsHanded, Hints.raised, Hints.without_hint}
use Rattle.core_rules.specs.declared.answers.Handed.TheVariants.{Raised, Same, Stale, Nothing}
use Rattle.core_rules.specs.{Sweeps.tile_rect}
use Rattle.core_rules.specs.Work.{Core, IsTile, tiling, with_work, work_at}
use Rattle.core_rules.proofs.Cores.{field_kept, work_elsewhere, work_there}
use Rattle.core_rules.proofs.Handing.{left}
use Rattle.tiled_core.specs.Handing.{AreHandedOver}

-- ---- one hint

-- there are as many tiles, in the same places, and their inboxes are without this hint
record IsLeft (before : Core) (t i : ℕ) (after : Core) : Type 0 where
  pub count : length after.tiles ≡ length before.tiles
  pub rect : tile_rect after t ≡ tile_rect before t
  pub inboxes : (u : ℕ) → (work_at after u).inbox ≡ (work_at (without_hint before t i) u).inbox

lost_leaves : (before : Core) (t i : ℕ) → IsLeft before t i (without_hint before t i)
lost_leaves before t i = record {
  count = length-set before.tiles t (left before t i);
  rect = refl;
  inboxes = λ u. refl;
}

-- a tile that is dirty now has the hints that it had, and so has each other
dirty_keeps : (core : Core) (home u : ℕ)
    → (work_at (with_work core home (record (work_at core home) { dirty = true })) u).inbox ≡ (work_at core u).inbox
dirty_keeps core home u =
    let work : TileWork = record (work_at core home) { dirty = true } in
    elim (cases_lt home (length core.tiles)) [
      | inl within ↦ field_kept core home work (λ (w : TileWork). w.inbox) within refl u
      | inr past ↦ ap (λ (works : List TileWork). (work_of works u).inbox) (set_past core.tiles home work past)
    ]

raised_leaves : (before : Core) (t i : ℕ) (hint : Hint) → IsLeft before t i (raised (without_hint before t i) hint)
raised_leaves before t i hint =
    let lost = without_hint before t i in
    let home = tile_of (tiling lost) hint.to_pixel in
    record {
      count =
          length-set lost.tiles home (record (work_at lost home) { dirty = true })
          ∙ length-set before.tiles t (left before t i);
      rect = refl;
      inboxes = λ u. dirty_keeps lost home u;
    }

hand_leaves : (before : Core) (t i : ℕ) (handed : Handed) (after : Core) → i < length (work_at before t).inbox
    → IsHanded before t i handed after → IsLeft before t i after
hand_leaves before t i Nothing after within (none, same) = elim (slice_get_cases (work_at before t).inbox i).1 [
  | inl (hint, inside, there, read) ↦ absurd (none-some hint (sym none ∙ there))
  | inr (past, there) ↦ absurd (omega (arith, past, within))
]
hand_leaves before t i Stale after within (hint, there, absent, same) =
    subst (IsLeft before t i) (sym same) (lost_leaves before t i)
hand_leaves before t i Same after within (hint, there, present, low, same) =
    subst (IsLeft before t i) (sym same) (lost_leaves before t i)
hand_leaves before t i Raised after within (hint, there, present, above, same) =
    subst (IsLeft before t i) (sym same) (raised_leaves before t i hint)

-- ---- one after another

-- of the hints that waited at the tile, which has this rectangle, so many are left, the first; the others are handed
-- over, the last first. The other tiles have the hints that they had
pub record AreHandedDownTo (t : ℕ) (rect : Rect) (before : Core) (n : ℕ) (now : Core) : Type 0 where
  pub is_tile : IsTile now t
  pub rect_is : rect ≡ tile_rect now t
  pub count : length (work_at now t).inbox ≡ n
  pub others : (u : ℕ) → u ≢ t → (work_at now u).inbox ≡ (work_at before u).inbox
  pub leads : (after : Core) → AreHandedOver t n now after
      → AreHandedOver t (length (work_at before t).inbox) before after

pub none_over : (t : ℕ) (rect : Rect) (before : Core) (n : ℕ) → IsTile before t → rect ≡ tile_rect before t
    → n ≡ length (work_at before t).inbox → AreHandedDownTo t rect before n before
none_over t rect before n is_tile rect_is count = record {
  is_tile = is_tile;
  rect_is = rect_is;
  count = sym count;
  others = λ u other. refl;
  leads = λ after over. subst (λ k. AreHandedOver t k before after) count over;
}

next_over : (t : ℕ) (rect : Rect) (before : Core) (n : ℕ) (now : Core) (handed : Handed) (next : Core)
    → AreHandedDownTo t rect before (suc n) now → IsHanded now t n handed next → AreHandedDownTo t rect before n next
next_over t rect before n now handed next so_far happens =
    let inbox = (work_at now t).inbox in
    let within : n < length inbox = omega (arith, so_far.count) in
    let leaves = hand_leaves now t n handed next within happens in
    record {
      is_tile = subst (λ k. t < k) (sym leaves.count) so_far.is_tile;
      rect_is = so_far.rect_is ∙ sym leaves.rect;
      count =
          let here : (work_at next t).inbox ≡ remove inbox n =
          leaves.inboxes t ∙ ap (λ (w : TileWork). w.inbox) (work_there now t (left now t n) so_far.is_tile) in
          let long = ap length here in
          let fewer = length-remove inbox n within in
          omega (arith, long, fewer, so_far.count);
      others = λ u other.
          leaves.inboxes u ∙ ap (λ (w : TileWork). w.inbox) (work_elsewhere now t u (left now t n) other)
          ∙ so_far.others u other;
      leads = λ after over. so_far.leads after (handed, next, happens, over);
    }

-- the last of those that are left is handed over
pub one_more_over : (t : ℕ) (rect : Rect) (before : Core) (n : ℕ) (now : Core) (handed : Handed) (next : Core)
    → 0 < n → AreHandedDownTo t rect before n now → IsHanded now t (n - 1) handed next
    → AreHandedDownTo t rect before (n - 1) next
one_more_over t rect before n now handed next some so_far happens =
    let same : n ≡ suc (n - 1) = omega (arith, some) in
    next_over t rect before (n - 1) now handed next
    (subst (λ k. AreHandedDownTo t rect before k now) same so_far) happens

-- none is left
pub all_over : (t : ℕ) (rect : Rect) (before : Core) (n : ℕ) (after : Core) → n ≡ 0
    → AreHandedDownTo t rect before n after
    → AreHandedOver t (length (work_at before t).inbox) before after × ((work_at after t).inbox ≡ [])
all_over t rect before n after none so_far =
    let all = subst (λ k. AreHandedDownTo t rect before k after) none so_far in
    (all.leads after refl, nil_from_length (work_at after t).inbox all.count)
