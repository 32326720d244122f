-- The live strokes of a state, and the join of their placements.
use Rattle.std.proofs.Common.{◌≡◌, ℕ, Bool, true, false, not, cond, List, [], ◌∷◌, Option, Some, None, refl, ap, sym}
use Rattle.std.proofs.Common.{◌∙◌, inl, inr, Contains, Equal, nat_cmp}
use Rattle.std.specs.List.{AllByRecursion}
use Rattle.stroke_core.specs.Seed.{Seed}
use Rattle.stroke_lattice.specs.State.{State, IsJoinOf, SomeHasStroke, SomeHasTombstone}
use Rattle.stroke_lattice.specs.Walks.{AreLive}
use Rattle.stroke_lattice.proofs.{Growing.placed_has, Items.strokes_walk, Items.strokes_are}
use Rattle.stroke_lattice.proofs.{Joins.nothing_has_no_tombstone, Joins.no_seed}
use Rattle.grid_core.proofs.Common.{first_or_later, later, here, not_in_empty}
use Rattle.stroke_lattice.proofs.Lists.{all_from_members}
use Rattle.edit_lang.specs.Writing.{live_part, live_of, live_text, HasLiveAlone, IsHeld, LiveAreHeld, SpellsLive}
use Rattle.edit_lang.proofs.WrittenLines.{deltas_of, placements_read}
use Rattle.std.specs.FinMap as finmap
use Rattle.std.specs.FinSet as set

-- ---- the state of the live strokes

same_tag : (s : State) (tag other : ℕ) → nat_cmp tag other ≡ Equal
    → not (set.contains s.tombstones other) ≡ not (set.contains s.tombstones tag)
same_tag s tag other e =
    ap (λ (t : ℕ). not (set.contains s.tombstones t)) (sym (finmap.nat_cmp-IsAntisymmetric tag other e))

part_get : (s : State) (tag : ℕ)
    → finmap.get (live_part s).strokes tag ≡ cond (not (set.contains s.tombstones tag)) (finmap.get s.strokes tag) None
part_get s tag =
    finmap.get-retain_keys s.strokes (λ t. not (set.contains s.tombstones t)) tag (λ other e. same_tag s tag other e)

live_from : (b : Bool) (o : Option Seed) (seed : Seed) → cond (not b) o None ≡ Some seed
    → (o ≡ Some seed) × (b ≡ true → ⊥)
live_from true o seed e = absurd (no_seed seed e)
live_from false o seed e = (e, λ t. cc)

from_live : (b : Bool) (o : Option Seed) (seed : Seed) → o ≡ Some seed → (b ≡ true → ⊥)
    → cond (not b) o None ≡ Some seed
from_live true o seed e alive = absurd (alive refl)
from_live false o seed e alive = e

-- its strokes are the live ones, and no tag is withdrawn
pub part_is_alone : (s : State) → HasLiveAlone (live_part s) s
part_is_alone s = record {
  strokes = λ tag seed. (
    λ has. live_from (set.contains s.tombstones tag) (finmap.get s.strokes tag) seed (sym (part_get s tag) ∙ has),
    λ live. part_get s tag
        ∙ from_live (set.contains s.tombstones tag) (finmap.get s.strokes tag) seed live.0 live.1,
  );
  tombstones = nothing_has_no_tombstone;
}

-- a walk over the live strokes gives those of this state
pub live_are : (s : State) (entries : List (ℕ × Seed)) → AreLive s entries → entries ≡ live_of s
live_are s entries walk =
    let alone = part_is_alone s in
    strokes_are (live_part s) entries (record {
      each = λ tag seed. (
        λ has. (alone.strokes tag seed).1 ((walk.each tag seed).0 has),
        λ has. (walk.each tag seed).1 ((alone.strokes tag seed).0 has),
      );
      rise = walk.rise;
    })

-- ---- the join of placements

some_from_member : (entries : List (ℕ × Seed)) (tag : ℕ) (seed : Seed) → Contains entries (tag, seed)
    → SomeHasStroke (deltas_of entries) tag seed
some_from_member [] tag seed has = absurd (not_in_empty (tag, seed) has)
some_from_member (entry ∷ entries) tag seed has = elim (first_or_later entry entries (tag, seed) has) [
  | inl e ↦ inl ((placed_has entry.0 tag entry.1 seed).1
      (sym (ap (λ (p : ℕ × Seed). p.0) e), sym (ap (λ (p : ℕ × Seed). p.1) e)))
  | inr there ↦ inr (some_from_member entries tag seed there)
]

member_from_some : (entries : List (ℕ × Seed)) (tag : ℕ) (seed : Seed) → SomeHasStroke (deltas_of entries) tag seed
    → Contains entries (tag, seed)
member_from_some [] tag seed some = absurd some
member_from_some (entry ∷ entries) tag seed (inl this) =
    let same = (placed_has entry.0 tag entry.1 seed).0 this in
    here entry entries (tag, seed) (λ i. (sym same.0 i, sym same.1 i))
member_from_some (entry ∷ entries) tag seed (inr there) =
    later entry entries (tag, seed) (member_from_some entries tag seed there)

no_tombstone : (entries : List (ℕ × Seed)) (tag : ℕ) → SomeHasTombstone (deltas_of entries) tag → ⊥
no_tombstone [] tag some = some
no_tombstone (entry ∷ entries) tag (inl this) = nothing_has_no_tombstone tag this
no_tombstone (entry ∷ entries) tag (inr there) = no_tombstone entries tag there

-- the placements of the live strokes are joined to their state
part_is_join : (s : State) → IsJoinOf (deltas_of (live_of s)) (live_part s)
part_is_join s =
    let walk = strokes_walk (live_part s) in
    record {
      strokes = λ tag seed. (
        λ has. some_from_member (live_of s) tag seed ((walk.each tag seed).1 has),
        λ some. (walk.each tag seed).0 (member_from_some (live_of s) tag seed some),
      );
      tombstones = λ tag. (
        λ has. absurd (nothing_has_no_tombstone tag has),
        λ some. absurd (no_tombstone (live_of s) tag some),
      );
    }

-- ---- the text of the live strokes

-- where the live strokes can be written, their lines are read
pub live_read : (s : State) → AllByRecursion IsHeld (live_of s) → SpellsLive (live_text s) s
live_read s held = record {
  deltas = deltas_of (live_of s);
  join = live_part s;
  spelled = placements_read (live_of s) held;
  joined = part_is_join s;
  alone = part_is_alone s;
}

-- each entry can be written where each live stroke can
pub entries_held : (s : State) → LiveAreHeld s → AllByRecursion IsHeld (live_of s)
entries_held s held =
    all_from_members IsHeld (live_of s) (λ entry has.
    held entry.0 entry.1 (((part_is_alone s).strokes entry.0 entry.1).0
    (((strokes_walk (live_part s)).each entry.0 entry.1).0 has)))
