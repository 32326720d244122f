-- Which tiles a merge resets, that none is where no stroke dies, and which deltas are refused.
use Rattle.std.proofs.Common.{◌≡◌, ℕ, ◌+◌, ◌≤◌, max, List, [], ◌∷◌, refl, ap, subst, arith, inl, inr}
use Rattle.grid_core.specs.declared.pixel.Pixel.{Pixel}
use Rattle.stroke_lattice.specs.{State.State, Change.Turnover, Change.IsChange}
use Rattle.stroke_lattice.proofs.Joins.{one_join, compatible_join}
use Rattle.marker_tiles.specs.Marker.{IsMarker}
use Rattle.marker_tiles.proofs.Levels.{one_marker}
use Rattle.core_rules.specs.Work.{Core, domain, tiling, mask_at, image_at, IsTile, work_at}
use Rattle.core_rules.specs.Hits.{IsInTile, HoldsOne, LosesStroke, AreLinked, LeadFrom, IsHit}
use Rattle.core_rules.specs.declared.error.CoreError.{CoreError}
use Rattle.core_rules.specs.declared.error.CoreError.TheVariants.{OutOfImage, Conflict, GenerationsSpent, Memory}
use Rattle.core_rules.specs.declared.error.CoreError.TheVariants.{BadSide}
use Rattle.core_rules.specs.Merge.{IsMerged, IsRefused, IsAcceptable}
use Rattle.border_queues.specs.TileWork.{TileWork}
use Rattle.core_rules.proofs.Quiet.{none_in_nothing}

module _ (before after : Core) (delta : State) (turnover : Turnover) (merged : IsMerged before delta turnover after)
    (t : ℕ) (is_tile : IsTile before t) where
  pub hit_advances : IsHit before after.state t → (work_at after t).generation ≡ (work_at before t).generation + 1
  hit_advances hit = elim (merged.each t is_tile) [
    | inl (also, reset) ↦ ap (λ (w : TileWork). w.generation) reset.work
    | inr (spared, kept) ↦ absurd (spared hit)
  ]

  pub others_stay : (IsHit before after.state t → ⊥) → (work_at after t).generation ≡ (work_at before t).generation
  others_stay spared = elim (merged.each t is_tile) [
    | inl (hit, reset) ↦ absurd (spared hit)
    | inr (also, kept) ↦ ap (λ (w : TileWork). w.generation) kept.work
  ]

  pub others_rise : (IsHit before after.state t → ⊥) → (marker : Pixel → ℕ)
      → IsMarker (domain before) (mask_at before) after.state marker → (p : Pixel) → IsInTile (tiling before) t p
      → image_at after p ≡ max (image_at before p) (marker p)
  others_rise spared marker is_marker p in_tile = elim (merged.each t is_tile) [
    | inl (hit, reset) ↦ absurd (spared hit)
    | inr (also, kept) ↦
        subst (λ v. image_at after p ≡ max (image_at before p) v)
        (one_marker (domain before) (mask_at before) after.state merged.marker marker merged.is_marker is_marker p
        in_tile.inside) (kept.image p in_tile)
  ]

-- where no stroke dies, no list of tiles leads anywhere
none_leads : (before : Core) (after : State) (turnover : Turnover) → IsChange before.state after turnover
    → turnover.dead ≡ [] → (list : List ℕ) (t : ℕ)
    → LeadFrom (HoldsOne (tiling before) (LosesStroke before.state after))
    (AreLinked (tiling before) before.image before.conn) list t → ⊥
none_leads before after turnover change none [] t (p, in_tile, loses) =
    none_in_nothing loses.tag (rw none at ((change.dead loses.tag).1 ((loses.seed, loses.was), loses.is_dead)))
none_leads before after turnover change none (u ∷ list) t (lead, linked) =
    none_leads before after turnover change none list u lead

pub no_death_hits_none : (before : Core) (after : State) (turnover : Turnover)
    → IsChange before.state after turnover → turnover.dead ≡ [] → (t : ℕ) → IsHit before after t → ⊥
no_death_hits_none before after turnover change none t (list, lead) =
    none_leads before after turnover change none list t lead

-- ---- refusals

pub merged_is_acceptable : (before after : Core) (delta : State) (turnover : Turnover)
    → IsMerged before delta turnover after → IsAcceptable before delta
merged_is_acceptable before after delta turnover merged = record {
  fits = merged.fits;
  compatible = compatible_join before.state delta after.state merged.join;
  unspent = λ spent.
      let same : spent.joined ≡ after.state =
      one_join before.state delta spent.joined after.state spent.join merged.join in
      omega (arith, merged.unspent spent.t (subst (λ s. IsHit before s spent.t) same spent.hit), spent.spent);
}

pub refused_is_not_acceptable : (core : Core) (delta : State) (why : CoreError) → IsRefused core delta why
    → IsAcceptable core delta → ⊥
refused_is_not_acceptable core delta (OutOfImage tag) ((seed, has, unfit), least) acceptable =
    unfit (acceptable.fits tag seed has)
refused_is_not_acceptable core delta (Conflict tag) (fits, (clash, least)) acceptable = acceptable.compatible tag clash
refused_is_not_acceptable core delta GenerationsSpent (fits, spent) acceptable = acceptable.unspent spent
refused_is_not_acceptable core delta Memory refused acceptable = refused
refused_is_not_acceptable core delta BadSide refused acceptable = refused

same_tag : (a b : ℕ) → a ≤ b → b ≤ a → a ≡ b
same_tag a b low high = omega arith

pub one_refusal : (core : Core) (delta : State) (why other : CoreError) → IsRefused core delta why
    → IsRefused core delta other → why ≡ other
one_refusal core delta Memory other first second = absurd first
one_refusal core delta BadSide other first second = absurd first
one_refusal core delta _ Memory first second = absurd second
one_refusal core delta _ BadSide first second = absurd second
one_refusal core delta (OutOfImage t) (OutOfImage u) (outside, least) (other, least_other) =
    ap OutOfImage (same_tag t u (least u other) (least_other t outside))
one_refusal core delta (Conflict t) (Conflict u) (fits, (clash, least)) (again, (other, least_other)) =
    ap Conflict (same_tag t u (least u other) (least_other t clash))
one_refusal core delta GenerationsSpent GenerationsSpent first second = refl
one_refusal core delta (OutOfImage t) _ ((seed, has, unfit), least) second = absurd (unfit (second.0 t seed has))
one_refusal core delta _ (OutOfImage u) first ((seed, has, unfit), least) = absurd (unfit (first.0 u seed has))
one_refusal core delta (Conflict t) GenerationsSpent (fits, (clash, least)) (again, spent) =
    absurd (compatible_join core.state delta spent.joined spent.join t clash)
one_refusal core delta GenerationsSpent (Conflict u) (fits, spent) (again, (clash, least)) =
    absurd (compatible_join core.state delta spent.joined spent.join u clash)
