-- The reason why an edit is refused stands still: strokes are only joined, and generations only rise.
use Rattle.std.proofs.Common.{◌≡◌, ◌⊎◌, ℕ, ◌<◌, Bool, true, false, List, [], ◌∷◌, length, sym, refl, ap, ◌∙◌, subst}
use Rattle.std.proofs.Common.{inl, inr, ⊎_elim, arith, IsTrue}
use Rattle.stroke_lattice.specs.{State.State, State.HasTombstone, State.IsJoin, Change.Turnover}
use Rattle.stroke_lattice.proofs.Joins.{join_is_union}
use Rattle.tile_generations.specs.Generations.{max_generation}
use Rattle.core_rules.specs.{declared.error.CoreError.CoreError, Work.Core, Work.IsTile, Work.tiling, Work.work_at}
use Rattle.core_rules.specs.{Merge.IsMerged, Merge.IsRefused, Merge.IsReset, Merge.IsKept as IsKeptTile}
use Rattle.core_rules.specs.declared.error.CoreError.TheVariants.{OutOfImage, Conflict, GenerationsSpent, Memory}
use Rattle.core_rules.specs.declared.error.CoreError.TheVariants.{BadSide}
use Rattle.core_rules.specs.Hits.{LeadFrom, HoldsOne, LosesStroke, AreLinked, IsHit}
use Rattle.reset_core.specs.Answers.{IsNotMerged}
use Rattle.core_dispatch.specs.Books.{IsReason}
use Rattle.std.specs.FinSet as finset

by_bit : (b : Bool) → IsTrue b ⊎ (IsTrue b → ⊥)
by_bit true = inl refl
by_bit false = inr (λ h. absurd cc)

-- where a stroke dies, the delta has its tombstone
dies : (core : Core) (delta joined : State) → IsJoin core.state delta joined → (t : ℕ) (before : List ℕ)
    → LeadFrom (HoldsOne (tiling core) (LosesStroke core.state joined))
    (AreLinked (tiling core) core.image core.conn) before t
    → (tag : ℕ) × HasTombstone delta tag
dies core delta joined j t [] l =
    let u = join_is_union core.state delta joined j in
    let loss = l.2 in
    ⊎_elim
    (λ (buried : HasTombstone joined loss.tag). (
      loss.tag,
      ⊎_elim (λ (old : HasTombstone core.state loss.tag). absurd (loss.was.1 old))
          (λ (new : HasTombstone delta loss.tag). new) (u.tombstones loss.tag buried),
    ))
    (λ (alive : HasTombstone joined loss.tag → ⊥).
    absurd (loss.is_dead (loss.seed, (u.above_first.strokes loss.tag loss.seed loss.was.0, alive))))
    (by_bit (finset.contains joined.tombstones loss.tag))
dies core delta joined j t (u ∷ before) l = dies core delta joined j u before l.0

-- why a core refuses an edit is a reason
reason_of : (core : Core) (delta : State) (e : CoreError) → IsRefused core delta e → IsReason core delta e
reason_of core delta (OutOfImage tag) h = h.0
reason_of core delta (Conflict tag) h = h.1.0
reason_of core delta GenerationsSpent h =
    (dies core delta h.1.joined h.1.join h.1.t h.1.hit.0 h.1.hit.1, (h.1.t, h.1.is_tile, h.1.spent))
reason_of core delta Memory h = absurd h
reason_of core delta BadSide h = absurd h

-- so is want of memory
pub reason_not_merged : (core : Core) (delta : State) (e : CoreError) → IsNotMerged core delta e
    → IsReason core delta e
reason_not_merged core delta e (inl refused) = reason_of core delta e refused
reason_not_merged core delta e (inr (memory, fits)) = subst (λ (x : CoreError). IsReason core delta x) (sym memory) tt

still_spent : (core after : Core) (delta : State) (turnover : Turnover) → IsMerged core delta turnover after → (t : ℕ)
    → IsTile core t → (work_at core t).generation ≡ max_generation → (work_at after t).generation ≡ max_generation
still_spent core after delta turnover m t tile spent = ⊎_elim
    (λ (r : IsHit core after.state t
    × IsReset (tiling core) m.marker after.image (work_at core t) (work_at after t) t).
    absurd (let lt : (work_at core t).generation < max_generation = m.unspent t r.0 in omega arith))
    (λ (k : (IsHit core after.state t → ⊥) × IsKeptTile core m.marker after t).
    ap (λ w. w.generation) k.1.work ∙ spent)
    (m.each t tile)

-- a reason stands on while edits are merged
pub still : (core after : Core) (delta : State) (turnover : Turnover) → IsMerged core delta turnover after
    → (d : State) (e : CoreError) → IsReason core d e → IsReason after d e
still core after delta turnover m d (OutOfImage tag) h =
    subst (λ (c : Core). IsReason c d (OutOfImage tag)) (sym m.rest) h
still core after delta turnover m d (Conflict tag) h =
    let u = join_is_union core.state delta after.state m.join in
    record {
      seed = h.seed;
      other = h.other;
      in_first = u.above_first.strokes tag h.seed h.in_first;
      in_second = h.in_second;
      differ = h.differ;
    }
still core after delta turnover m d GenerationsSpent h =
    let tile : h.1.0 < length core.tiles = h.1.1 in
    let within : h.1.0 < length after.tiles =
    let e : length after.tiles ≡ length core.tiles = m.count in omega arith in
    (h.0, (h.1.0, within, still_spent core after delta turnover m h.1.0 h.1.1 h.1.2))
still core after delta turnover m d Memory h = h
still core after delta turnover m d BadSide h = h
