-- The parts of tiles as they are stored, and as contracts see them.
use Rattle.std.proofs.Common.{◌≡◌, ℕ, Bool, true, false, List, Option, Some, None, map, set, ap, sym, ◌∙◌, refl}
use Rattle.std.proofs.Common.{Bor, IfSome, MatchBool, MatchOption, slice_index_or}
use Rattle.std.proofs.lemmas.Bool.{MatchBool-at_false, MatchBool-at_true}
use Rattle.std.proofs.lemmas.List.{map-set, set-get_or}
use Rattle.std.specs.{Arc.arc_value, declared.sync.Arc.Arc}
use Rattle.grid_core.specs.{declared.pixel.Pixel.Pixel, Raster.Raster, Raster.with_value}
use Rattle.tile_generations.specs.CutMasks.{cut_mask}
use Rattle.tiled_image.specs.TileParts.{IsPartSet, IsSetAt}

-- ---- what is there

-- what is none of its values is none
pub none_when : {X : Type 0} (o : Option X) → ((x : X) → o ≡ Some x → ⊥) → o ≡ None
none_when None never = refl
none_when (Some x) never = absurd (never x refl)

-- what holds of each part that is there holds of the one that was found
pub if_found : (found : Option (Bor Raster)) (slot : Option Raster) (P : Raster → Type 0)
    → MatchOption found (slot ≡ None) (λ part. slot ≡ Some part.now) → ((m : Raster) → slot ≡ Some m → P m)
    → IfSome found (λ part. P part.now)
if_found None slot P is each = tt
if_found (Some part) slot P is each = each part.now is

pub if_there : (slot : Option Raster) (P : Raster → Type 0) → ((m : Raster) → slot ≡ Some m → P m) → IfSome slot P
if_there None P each = tt
if_there (Some m) P each = each m refl

-- ---- a value that is set, or not

pub either_way : (b : Bool) (P Q R S : Type 0) → (P → R) → (Q → S) → MatchBool b P Q → MatchBool b R S
either_way true P Q R S first second h = first h
either_way false P Q R S first second h = second h

module _ (is_set : Bool) (tile : ℕ) (p : Pixel) (v : ℕ) (old new : List (Option Raster))
    (says : MatchBool is_set (IsPartSet tile p v old new) (new ≡ old)) where
  pub was_set : is_set ≡ true → IsPartSet tile p v old new
  was_set is = MatchBool-at_true (IsPartSet tile p v old new) (new ≡ old) is says

  pub was_not : is_set ≡ false → new ≡ old
  was_not is = MatchBool-at_false (IsPartSet tile p v old new) (new ≡ old) is says

-- ---- what is stored

-- one part, of which a pixel was set or not
pub slot_set : {Z : Type 0} (slot : Option (Arc Raster Z)) (part new : Arc Raster Z) (p : Pixel) (v : ℕ) (is_set : Bool)
    → slot ≡ Some part
    → MatchBool is_set (arc_value new ≡ with_value (arc_value part) p v) (arc_value new ≡ arc_value part)
    → MatchBool is_set (IsSetAt p v (cut_mask slot) (cut_mask (Some new))) (cut_mask (Some new) ≡ cut_mask slot)
slot_set slot part new p v is_set there says =
    either_way is_set (arc_value new ≡ with_value (arc_value part) p v) (arc_value new ≡ arc_value part)
    (IsSetAt p v (cut_mask slot) (cut_mask (Some new))) (cut_mask (Some new) ≡ cut_mask slot)
    (λ same. record { part = arc_value part; was = ap cut_mask there; is = ap Some same })
    (λ same. ap Some same ∙ sym (ap cut_mask there)) says

module _ {Z : Type 0} (tiles : List (Option (Arc Raster Z))) (parts : List (Option Raster)) (t : ℕ)
    (view : map cut_mask tiles ≡ parts) where
  -- another part
  pub slot_stored : (slot : Option (Arc Raster Z)) → map cut_mask (set tiles t slot) ≡ set parts t (cut_mask slot)
  slot_stored slot = map-set cut_mask tiles t slot ∙ ap (λ (ps : List (Option Raster)). set ps t (cut_mask slot)) view

  -- the part of a tile, of which a pixel was set or not
  pub part_stored : (kept slot : Option (Arc Raster Z)) → slice_index_or parts t None ≡ cut_mask kept → (p : Pixel)
      → (v : ℕ) (is_set : Bool)
      → MatchBool is_set (IsSetAt p v (cut_mask kept) (cut_mask slot)) (cut_mask slot ≡ cut_mask kept)
      → MatchBool is_set (IsPartSet t p v parts (map cut_mask (set tiles t slot)))
      (map cut_mask (set tiles t slot) ≡ parts)
  part_stored kept slot at p v is_set says =
      either_way is_set (IsSetAt p v (cut_mask kept) (cut_mask slot)) (cut_mask slot ≡ cut_mask kept)
      (IsPartSet t p v parts (map cut_mask (set tiles t slot))) (map cut_mask (set tiles t slot) ≡ parts)
      (λ was. record {
        part = was.part;
        was = at ∙ was.was;
        is = slot_stored slot ∙ ap (set parts t) was.is;
      })
      (λ same. slot_stored slot ∙ ap (set parts t) (same ∙ sym at) ∙ set-get_or parts t None)
      says
