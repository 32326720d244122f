-- What becomes of a world when one of its replicas becomes another.
use Rattle.std.proofs.Common.{◌≡◌, ◌∙◌, ◌∷◌, ◌++◌, ◌<◌, ◌≤◌, [], ℕ, List, get_or, set, length, refl, sym, subst, ap}
use Rattle.std.proofs.Common.{suc, zero, All, Option}
use Rattle.std.proofs.{lemmas.List.length-set, lemmas.List.set-get_or, lemmas.List.Elements.All-set}
use Rattle.std.proofs.{lemmas.Option.slice_get_read, lemmas.Option.get_or_from_slice_get}
use Rattle.grid_core.specs.{declared.conn.Conn.Conn, Raster.Raster}
use Rattle.stroke_lattice.specs.{State.State, Change.Turnover}
use Rattle.tile_generations.specs.Jobs.{Job, Swept}
use Rattle.core_rules.specs.{Work.Core, Merge.IsMerged, Sweeps.IsTaken, Schedule.IsAdded}
use Rattle.core_rules.specs.Events.{Event as CoreEvent, Answer, Happens, Merge, Take, OfMerge, OfTake}
use Rattle.replica_world.specs.World.{Replica, World, nobody, core_at, with_replica, with_core}
use Rattle.replica_world.specs.Events.{IsTakenIn, MovesCore, IsTakenAndSwept}
use Rattle.replica_world.specs.Stored.{IsStored, IsOn, mask_of, world_of}
use Rattle.replica_world.proofs.Ground.{HaveSameGround, happens_on, serial_on}

-- what is read at a place of the list is read there whatever stands for a place beyond its end
pub read_at : {X : Type 0} (xs : List X) (i : ℕ) (x d : X) → i < length xs → x ≡ get_or xs i x → get_or xs i d ≡ x
read_at xs i x d within same =
    get_or_from_slice_get xs i x d (slice_get_read xs (length xs) i x refl within same)

-- the mask of the first replica, where a replica becomes another with that mask
mask_of_set : (rs : List Replica) (r : ℕ) (new : Replica) → new.core.mask ≡ mask_of rs
    → mask_of (set rs r new) ≡ mask_of rs
mask_of_set [] r new same = refl
mask_of_set (first ∷ rs) zero new same = same
mask_of_set (first ∷ rs) (suc r) new same = refl

module _ {conn : Conn} {print : List ℕ} {rs : List Replica} {ps : List (List ℕ)} {old : Replica} (r : ℕ)
    (stored : IsStored conn print rs ps) (within : r < length rs) (read : old ≡ get_or rs r old) where
  -- the replica of this number
  pub is_old : get_or rs r nobody ≡ old
  is_old = read_at rs r old nobody within read

  -- where the replica is as it was, so is the world
  pub unchanged : (new : Replica) (res : List Swept) (steps : ℕ) → new ≡ old
      → world_of conn print (set rs r new) ps res steps ≡ world_of conn print rs ps res steps
  unchanged new res steps same =
      let same_list : set rs r new ≡ rs = ap (set rs r) (same ∙ sym is_old) ∙ set-get_or rs r nobody in
      ap (λ replicas. world_of conn print replicas ps res steps) same_list

  -- the old replica is on the world's mask
  old_is_on : IsOn (mask_of rs) conn old
  old_is_on = subst (IsOn (mask_of rs) conn) is_old (stored.one_mask r nobody within)

  module _ (new : Replica) (ground : HaveSameGround old.core new.core) where
    new_mask : new.core.mask ≡ mask_of rs
    new_mask = ground.mask ∙ old_is_on.mask_is

    new_is_on : IsOn (mask_of rs) conn new
    new_is_on = record { mask_is = new_mask; conn_is = ground.conn ∙ old_is_on.conn_is }

    -- the world stays one that can be stored
    pub stored_with : IsStored conn print (set rs r new) ps
    stored_with = record {
      some = subst (λ n. 1 ≤ n) (sym (length-set rs r new)) stored.some;
      few = subst (λ n. n ≤ 16) (sym (length-set rs r new)) stored.few;
      one_mask =
          subst (λ mask. All (IsOn mask conn) (set rs r new)) (sym (mask_of_set rs r new new_mask))
          (All-set (IsOn (mask_of rs) conn) rs r new new_is_on stored.one_mask);
      frames = stored.frames;
    }

    -- and it is the world with that replica
    pub world_with : (res : List Swept) (steps : ℕ)
        → world_of conn print (set rs r new) ps res steps ≡ with_replica (world_of conn print rs ps res steps) r new
    world_with res steps =
        let on : Raster → World = λ mask. record {
          mask = mask;
          conn = conn;
          print = print;
          replicas = set rs r new;
          packets = ps;
          results = res;
          steps = steps;
        } in
        ap on (mask_of_set rs r new new_mask)

    -- the same, where the replica took what it took before
    pub world_with_core : (res : List Swept) (steps : ℕ) → new.took ≡ old.took
        → world_of conn print (set rs r new) ps res steps ≡ with_core (world_of conn print rs ps res steps) r new.core
    world_with_core res steps took =
        let with_took : List State → Replica = λ deltas. record { core = new.core; took = deltas } in
        let before = world_of conn print rs ps res steps in
        world_with res steps
        ∙ ap (λ deltas. with_replica before r (with_took deltas))
        (took ∙ sym (ap (λ (replica : Replica). replica.took) is_old))

  -- an event of the replica's core
  pub moved : (new : Replica) (res : List Swept) (steps : ℕ) (event : CoreEvent) (answer : Answer)
      → Happens old.core event answer new.core → new.took ≡ old.took
      → MovesCore (world_of conn print rs ps res steps) r event (world_of conn print (set rs r new) ps res steps)
  moved new res steps event answer happens took = (
    answer,
    new.core,
    subst (λ (replica : Replica). Happens replica.core event answer new.core) (sym is_old) happens,
    world_with_core new (happens_on old.core new.core event answer happens) res steps took,
  )

  -- a delta that the replica took
  pub taken_in : (new : Replica) (res : List Swept) (steps : ℕ) (delta : State) (turnover : Turnover)
      → IsMerged old.core delta turnover new.core → new.took ≡ old.took ++ delta ∷ []
      → IsTakenIn (world_of conn print rs ps res steps) r delta (world_of conn print (set rs r new) ps res steps)
  taken_in new res steps delta turnover merged took =
      let before = world_of conn print rs ps res steps in
      let with_took : List State → Replica = λ deltas. record { core = new.core; took = deltas } in
      let same_took = took ∙ sym (ap (λ (replica : Replica). replica.took ++ delta ∷ []) is_old) in (
        turnover,
        new.core,
        subst (λ (replica : Replica). IsMerged replica.core delta turnover new.core) (sym is_old) merged,
        world_with new (happens_on old.core new.core (Merge delta) (OfMerge turnover) merged) res steps
            ∙ ap (λ deltas. with_replica before r (with_took deltas)) same_took,
      )

  -- a tile that was taken and swept
  pub taken_and_swept : (new : Replica) (res after : List Swept) (steps t : ℕ) (job : Option Job) (more : List Swept)
      → IsTaken old.core t job new.core → IsAdded job more → after ≡ res ++ more → new.took ≡ old.took
      → IsTakenAndSwept (world_of conn print rs ps res steps) r t
      (world_of conn print (set rs r new) ps after steps)
  taken_and_swept new res after steps t job more taken added same took =
      let before = world_of conn print rs ps res steps in
      let with_results : World → List Swept → World = λ w results. record w { results = results } in
      let here = world_with_core new (happens_on old.core new.core (Take t) (OfTake job) taken) res steps took in (
        job,
        more,
        new.core,
        subst (λ (replica : Replica). IsTaken replica.core t job new.core) (sym is_old) taken,
        added,
        ap (with_results (world_of conn print (set rs r new) ps res steps)) same
            ∙ ap (λ w. with_results w (res ++ more)) here,
      )

  -- only a serial was spent
  pub serial_spent : (new : Replica) (res : List Swept) (steps : ℕ)
      → new.core ≡ record old.core { serial = new.core.serial } → new.took ≡ old.took
      → world_of conn print (set rs r new) ps res steps
      ≡ with_core (world_of conn print rs ps res steps) r
      (record (core_at (world_of conn print rs ps res steps) r) { serial = new.core.serial })
  serial_spent new res steps same took =
      let before = world_of conn print rs ps res steps in
      let spent : Core → Core = λ core. record core { serial = new.core.serial } in
      let ground : HaveSameGround old.core new.core =
      subst (HaveSameGround old.core) (sym same) (serial_on old.core new.core.serial) in
      world_with_core new ground res steps took
      ∙ ap (with_core before r) (same ∙ ap (λ (replica : Replica). spent replica.core) (sym is_old))
