-- A core that begins with strokes: it is sound, can be stored, and shows what one shows that took them and was settled.
use Rattle.std.proofs.Common.{◌≡◌, ℕ, ◌≤◌, List, [], ◌∷◌, length, replicate, false, None, refl, sym, ◌∙◌, ap, subst}
use Rattle.std.proofs.Common.{arith, Some, true, Contains}
use Rattle.std.proofs.lemmas.List.{length-replicate}
use Rattle.std.specs.List.{AllByRecursion}
use Rattle.grid_core.specs.{declared.conn.Conn.Conn, declared.pixel.Pixel.Pixel, Bounds.no_bounds, Path.Domain}
use Rattle.grid_core.specs.{Path.Inside, Path.IsPath, Path.domain_of, Path.end_of, Raster.Raster, Raster.IsFilled}
use Rattle.grid_core.specs.{Raster.IsOfSize, Raster.value_at, Reconstruction.IsOpen, Reconstruction.IsReconstruction}
use Rattle.grid_core.specs.{Reconstruction.IsSupported, Tiles.Tiles, Tiles.IsTiled, Tiles.count_of}
use Rattle.grid_core.proofs.{Cells.equal_images, Images.one_reconstruction, Images.reconstruction_is_closed}
use Rattle.grid_core.proofs.{Reach.reaches_here, Reach.reaches_within_mask}
use Rattle.stroke_lattice.specs.State.{State, StateFits, HasStroke, IsBelow, IsJoin, AreCompatible, nothing}
use Rattle.stroke_lattice.proofs.Joins.{below_itself, nothing_has_no_stroke, nothing_has_no_tombstone, same_state}
use Rattle.marker_tiles.specs.{Kept.Kept, Kept.IsMarkerOf, Marker.IsMarker}
use Rattle.raster_sweeps.specs.Regrowth.{IsRegrown}
use Rattle.tile_generations.specs.{Generations.max_generation, declared.ticket.Ticket.Ticket, Jobs.Swept}
use Rattle.border_queues.specs.{Laws.EdgesAreOpen, TileWork.fresh}
use Rattle.core_rules.specs.declared.answers.Back.TheVariants.{Joined, Again, Stale, Stranger}
use Rattle.core_rules.specs.declared.answers.Handed.TheVariants.{Raised, Same, Stale as Old, Nothing}
use Rattle.core_rules.specs.Events.{Event, Answer, Happens, Merge, Take, GiveBack, Abandon, Hand, OfTake, OfGiveBack}
use Rattle.core_rules.specs.Events.{OfHand}
use Rattle.core_rules.specs.{Invariant.IsSound, Invariant.HasReconstruction, Opening.opened, Hints.raised}
use Rattle.core_rules.specs.{Hints.without_hint, Sweeps.IsJoined, Sweeps.taken}
use Rattle.core_rules.specs.Runs.{Entry, IsNext, IsRun, IsSettled, IsWorkedOff, abandoned, tickets_out}
use Rattle.core_rules.specs.Work.{Core, domain, image_at, mask_at, tiling, with_work, work_at}
use Rattle.core_rules.proofs.{Merging.merge_keeps_sound, Opening.opened_is_quiet, Opening.opened_is_sound}
use Rattle.core_rules.proofs.{Quiet.none_in_nothing, Quiet.quiet_is_reconstruction, Running.run_keeps_sound}
use Rattle.core_rules.proofs.{Running.settled_is_run, Supporting.reach_at_most}
use Rattle.reset_core.specs.{Starting.BegunIsAsSettled, Starting.IsBeginningOf, Starting.IsBegunWith}
use Rattle.reset_core.specs.{Bounding.AreBounded, Bounding.AreBoundedOrTold, Replica.IsStored}
use Rattle.reset_core.specs.{declared.replica.Core.TheInside.Inside as Parts}
use Rattle.reset_core.specs.{Replica.begun, Replica.core_of, Replica.with_image, declared.replica.Beginning.Beginning}
use Rattle.reset_core.proofs.{BoundedOrTold.told_of_bounded, Bounding.closed_bounded, StartingTiles.settled_tiles}
use Rattle.reset_core.proofs.Storing.{none_cut, same_tiling}

-- ---- the reconstruction is supported

-- on a path that shows that a pixel reaches a level, the reconstruction is nowhere below the level
high_on_path : (d : Domain) (mask marker r : Pixel → ℕ) → IsReconstruction d mask marker r → (k : ℕ) (p : Pixel)
    (rest : List Pixel) → IsPath d p rest → AllByRecursion (λ q. k ≤ mask q) (p ∷ rest) → k ≤ marker (end_of p rest)
    → AllByRecursion (λ q. k ≤ r q) (p ∷ rest)
high_on_path d mask marker r recon k p [] path all end =
    (reach_at_most d mask marker r recon p k path ([], path, all, end), tt)
high_on_path d mask marker r recon k p (q ∷ rest) path all end = (
  reach_at_most d mask marker r recon p k path.0 (q ∷ rest, path, all, end),
  high_on_path d mask marker r recon k q rest path.2 all.1 end,
)

reconstruction_is_supported : (d : Domain) (mask marker r : Pixel → ℕ)
    → ((p : Pixel) → Inside d p → marker p ≤ mask p) → IsReconstruction d mask marker r
    → IsSupported d mask marker r
reconstruction_is_supported d mask marker r below recon p inside =
    let reach = (recon p inside).0 in (
      reach_at_most d mask marker r recon p (marker p) inside
          (reaches_here d mask marker p (marker p) inside (below p inside) (omega arith)),
      reaches_within_mask d mask marker p (r p) reach,
      (reach.0, reach.1, high_on_path d mask marker r recon (r p) p reach.0 reach.1 reach.2 reach.3, reach.3),
    )

-- ---- the core

module _ (mask : Raster) (conn : Conn) (side first : ℕ) (state : State) (marker image : Raster)
    (filled : IsFilled mask) (tiled : IsTiled (record { width = mask.width; height = mask.height; side = side }))
    (bound : first ≤ max_generation) (fits : StateFits mask.width mask.height state)
    (marks : IsMarkerOf mask state marker) (grown : IsRegrown conn mask marker image) where
  abbrev pub begun_core : Core
  begun_core = record (opened mask conn side first) { state = state; image = image }

  none_open : (p q : Pixel) → IsOpen (domain begun_core) (mask_at begun_core) (image_at begun_core) p q → ⊥
  none_open p q pair =
      let closed =
      reconstruction_is_closed (domain_of mask conn) (value_at mask) (value_at marker) (value_at image)
      grown.reconstruction p q pair.from_inside pair.to_inside pair.beside in
      omega (arith, closed, pair.lower)

  pub begun_is_sound : IsSound begun_core
  begun_is_sound =
      let blank = opened_is_sound mask conn side first filled tiled bound in
      let quiet = opened_is_quiet mask conn side first in
      record {
        shape = record {
          tiled = tiled;
          mask = filled;
          image = record { width = grown.width; height = grown.height; filled = grown.filled };
          tiles = blank.shape.tiles;
          strokes = fits;
          generations = blank.shape.generations;
        };
        marker = value_at marker;
        is_marker = marks conn;
        supported =
            reconstruction_is_supported (domain_of mask conn) (value_at mask) (value_at marker) (value_at image)
            (λ p inside. let top = marks conn p inside in omega (arith, top.2)) grown.reconstruction;
        hints = λ t hint within waits.
            absurd (none_in_nothing hint (subst (λ hs. Contains hs hint) (quiet t within).empty waits));
        work = λ p q pair. absurd (none_open p q pair);
      }

  pub begun_is_begun : IsBegunWith mask conn side first state begun_core
  begun_is_begun = record {
    tile_side = tiled.tile_side;
    core_is = refl;
    sound = begun_is_sound;
    quiet = opened_is_quiet mask conn side first;
    reconstruction =
        quiet_is_reconstruction begun_core begun_is_sound (opened_is_quiet mask conn side first);
  }

  pub begun_is_bounded : AreBounded begun_core (replicate (count_of (tiling begun_core)) no_bounds)
  begun_is_bounded = closed_bounded begun_core (count_of (tiling begun_core)) tiled refl none_open

-- ---- its parts

module _ (conn : Conn) (first : ℕ) (state : State) (markers : Kept) (beginning : Beginning)
    (begins : IsBeginningOf conn first state markers beginning) (bound : first ≤ max_generation)
    (fits : StateFits markers.mask.width markers.mask.height state) where
  abbrev tiles : Tiles
  tiles = record { width = markers.mask.width; height = markers.mask.height; side = markers.tiling.side }

  same_tiles : markers.tiling ≡ tiles
  same_tiles = same_tiling markers begins.width begins.height

  tiled : IsTiled tiles
  tiled = subst IsTiled same_tiles begins.tiled

  abbrev parts : Parts
  parts = begun (with_image state beginning.image (count_of markers.tiling) first) conn markers

  abbrev made : Core
  made = begun_core markers.mask conn markers.tiling.side first state markers.marker beginning.image begins.filled tiled
      bound fits begins.marks begins.grown

  are_made : core_of parts ≡ made
  are_made = ap (λ n. record made { tiles = replicate n (fresh first) }) (ap count_of same_tiles)

  count : length parts.work ≡ count_of markers.tiling
  count = length-replicate (count_of markers.tiling) (fresh first)

  parts_are_stored : IsStored parts
  parts_are_stored = record {
    sound =
        subst IsSound (sym are_made)
        (begun_is_sound markers.mask conn markers.tiling.side first state markers.marker beginning.image begins.filled
        tiled bound fits begins.marks begins.grown);
    bounded =
        subst (λ core. AreBoundedOrTold core parts.bounds) (sym are_made)
        (subst (λ n. AreBoundedOrTold made (replicate n no_bounds)) (sym (ap count_of same_tiles))
        (told_of_bounded made (replicate (count_of (tiling made)) no_bounds)
        (begun_is_bounded markers.mask conn markers.tiling.side first state markers.marker beginning.image
        begins.filled tiled bound fits begins.marks begins.grown)));
    marks = begins.marks;
    masks = none_cut markers.mask markers.tiling (sym begins.width) (sym begins.height);
    no_marks = ap (λ n. replicate n false) (sym count);
    none_queued = ap (λ n. replicate n false) (sym count);
  }

  pub begun_is_stored : IsStored (begun beginning conn markers)
  begun_is_stored = subst (λ b. IsStored (begun b conn markers)) (sym begins.rest) parts_are_stored

  pub stored_is_begun :
      IsBegunWith markers.mask conn markers.tiling.side first state (core_of (begun beginning conn markers))
  stored_is_begun =
      subst (λ b. IsBegunWith markers.mask conn markers.tiling.side first state (core_of (begun b conn markers)))
      (sym begins.rest)
      (subst (IsBegunWith markers.mask conn markers.tiling.side first state) (sym are_made)
      (begun_is_begun markers.mask conn markers.tiling.side first state markers.marker beginning.image begins.filled
      tiled bound fits begins.marks begins.grown))

-- ---- a core that took the strokes and was settled

-- image, work and serial may have changed, and nothing else
abbrev OnlyWorked : Core → Core → Type 0
OnlyWorked before after =
    after ≡ record before { image = after.image; tiles = after.tiles; serial = after.serial }

worked_to : (before other after : Core) → after ≡ other → OnlyWorked before other → OnlyWorked before after
worked_to before other after same worked = subst (OnlyWorked before) (sym same) worked

worked_on : (a b c : Core) → OnlyWorked a b → OnlyWorked b c → OnlyWorked a c
worked_on a b c first second =
    second ∙ ap (λ (core : Core). record core { image = c.image; tiles = c.tiles; serial = c.serial }) first

joined_works : (before after : Core) (swept : Swept) → IsJoined before swept after → OnlyWorked before after
joined_works before after swept joined =
    worked_to before (record before { image = after.image; tiles = after.tiles }) after joined.rest refl

give_back_works : (before after : Core) (swept : Swept) (answer : Answer)
    → Happens before (GiveBack swept) answer after → OnlyWorked before after
give_back_works before after swept (OfGiveBack Joined) (is_swept, (known, out, unchanged, joined)) =
    joined_works before after swept joined
give_back_works before after swept (OfGiveBack Again) (is_swept, (known, out, risen, joined)) =
    joined_works before after swept joined
give_back_works before after swept (OfGiveBack Stale) (is_swept, (known, not_out, same)) =
    worked_to before before after same refl
give_back_works before after swept (OfGiveBack Stranger) (is_swept, (why, same)) =
    worked_to before before after same refl
give_back_works before after swept _ happens = absurd happens

take_works : (before after : Core) (t : ℕ) (answer : Answer) → Happens before (Take t) answer after
    → OnlyWorked before after
take_works before after t (OfTake (Some job)) (ready, next, same) = worked_to before (taken before t) after same refl
take_works before after t (OfTake None) (unready, same) = worked_to before before after same refl
take_works before after t _ happens = absurd happens

hand_works : (before after : Core) (t place : ℕ) (answer : Answer) → Happens before (Hand t place) answer after
    → OnlyWorked before after
hand_works before after t place (OfHand Nothing) (none, same) = worked_to before before after same refl
hand_works before after t place (OfHand Old) (hint, there, old, same) =
    worked_to before (without_hint before t place) after same refl
hand_works before after t place (OfHand Raised) (hint, there, present, above, same) =
    worked_to before (raised (without_hint before t place) hint) after same refl
hand_works before after t place (OfHand Same) (hint, there, present, enough, same) =
    worked_to before (without_hint before t place) after same refl
hand_works before after t place _ happens = absurd happens

next_works : (before after : Core) (event : Event) (answer : Answer) → IsNext before event
    → Happens before event answer after → OnlyWorked before after
next_works before after (GiveBack swept) answer next happens = give_back_works before after swept answer happens
next_works before after (Hand t place) answer next happens = hand_works before after t place answer happens
next_works before after (Take t) answer next happens = take_works before after t answer happens
next_works before after (Merge delta) answer next happens = absurd next
next_works before after (Abandon ticket) answer next happens = absurd next

work_works : (before after : Core) (log : List Entry) → IsWorkedOff before log after → OnlyWorked before after
work_works before after [] same = worked_to before before after same refl
work_works before after (entry ∷ log) (is_next, (next, happens, rest)) =
    worked_on before next after (next_works before next entry.0 entry.1 is_next happens)
    (work_works next after log rest)

abandons_work : (before after : Core) (tickets : List Ticket) → IsRun before (abandoned tickets) after
    → OnlyWorked before after
abandons_work before after [] same = worked_to before before after same refl
abandons_work before after (ticket ∷ tickets) (next, (out, same), run) =
    worked_on before next after
    (worked_to before (with_work before ticket.tile (record (work_at before ticket.tile) { dirty = true; out = None }))
    next same refl)
    (abandons_work next after tickets run)

settled_works : (before after : Core) (log : List Entry) → IsSettled before log after → OnlyWorked before after
settled_works before after log settled =
    let settling = settled.settling in
    worked_on before settling.cleared after
    (abandons_work before settling.cleared (tickets_out 0 before.tiles) settling.clears)
    (work_works settling.cleared after settling.work settling.works)

nothing_is_below : (state : State) → IsBelow nothing state
nothing_is_below state = record {
  strokes = λ tag seed has. absurd (nothing_has_no_stroke tag seed has);
  tombstones = λ tag has. absurd (nothing_has_no_tombstone tag has);
}

-- the join of nothing and a state is the state
pub join_of_nothing : (state join : State) → IsJoin nothing state join → join ≡ state
join_of_nothing state join joined =
    same_state join state (joined.least state (nothing_is_below state) (below_itself state)) joined.second

-- so the join of the empty state and a state is a copy of it
pub is_copy : (empty state copy : State) → empty ≡ nothing → IsJoin empty state copy → copy ≡ state
is_copy empty state copy none joined =
    join_of_nothing state copy (subst (λ (s : State). IsJoin s state copy) none joined)

pub empty_is_compatible : (empty state : State) → empty ≡ nothing → AreCompatible empty state
empty_is_compatible empty state none tag clash =
    nothing_has_no_stroke tag clash.seed (subst (λ (s : State). HasStroke s tag clash.seed) none clash.in_first)

-- two cores with this mask, these neighbours and these strokes that show the reconstruction show the same image
one_image : (mask : Raster) (conn : Conn) (state : State) (marker : Pixel → ℕ) (a b : Raster)
    → IsMarker (domain_of mask conn) (value_at mask) state marker
    → IsOfSize mask a → IsOfSize mask b
    → IsReconstruction (domain_of mask conn) (value_at mask) marker (value_at a)
    → IsReconstruction (domain_of mask conn) (value_at mask) marker (value_at b) → a ≡ b
one_image mask conn state marker a b is_marker size_a size_b recon_a recon_b =
    equal_images a b size_a.filled size_b.filled (size_a.width ∙ sym size_b.width) (size_a.height ∙ sym size_b.height)
    (λ p inside.
    one_reconstruction (domain_of mask conn) (value_at mask) marker (value_at a) (value_at b) recon_a recon_b p
    (omega (arith, inside.0, size_a.width), omega (arith, inside.1, size_a.height)))

pub begun_is_as_settled : EdgesAreOpen → BegunIsAsSettled
begun_is_as_settled edges mask conn side first state turnover log merged settled begun bound merges settles begins =
    let as_begun : Core = record (opened mask conn side first) { state = state; image = begun.image } in
    let as_settled : Core =
    record (opened mask conn side first) {
      state = state;
      image = settled.image;
      tiles = settled.tiles;
      serial = settled.serial;
    } in
    let sound_begun : IsSound as_begun = subst IsSound begins.core_is begins.sound in
    let shape = sound_begun.shape in
    let sound : IsSound settled =
    run_keeps_sound edges merged settled log
    (merge_keeps_sound (opened mask conn side first) merged state turnover
    (opened_is_sound mask conn side first shape.mask shape.tiled bound) merges)
    (settled_is_run merged settled log settles) in
    let same_state : merged.state ≡ state = join_of_nothing state merged.state merges.join in
    let is_settled : settled ≡ as_settled =
    settled_works merged settled log settles
    ∙ ap (λ (core : Core). record core { image = settled.image; tiles = settled.tiles; serial = settled.serial })
    merges.rest
    ∙ ap (λ (s : State). record as_settled { state = s }) same_state in
    let recon_settled : HasReconstruction as_settled =
    subst HasReconstruction is_settled (quiet_is_reconstruction settled sound settles.quiet) in
    let recon_begun : HasReconstruction as_begun = subst HasReconstruction begins.core_is begins.reconstruction in
    let sound_settled : IsSound as_settled = subst IsSound is_settled sound in
    record {
      mask = ap (λ (core : Core). core.mask) is_settled ∙ sym (ap (λ (core : Core). core.mask) begins.core_is);
      conn = ap (λ (core : Core). core.conn) is_settled ∙ sym (ap (λ (core : Core). core.conn) begins.core_is);
      side = ap (λ (core : Core). core.side) is_settled ∙ sym (ap (λ (core : Core). core.side) begins.core_is);
      state = ap (λ (core : Core). core.state) is_settled ∙ sym (ap (λ (core : Core). core.state) begins.core_is);
      image =
          one_image mask conn state sound_begun.marker settled.image begun.image sound_begun.is_marker
          sound_settled.shape.image shape.image (recon_settled sound_begun.marker sound_begun.is_marker)
          (recon_begun sound_begun.marker sound_begun.is_marker);
      tiles =
          settled_tiles mask conn side first state turnover log merged settled merges settles
          ∙ sym (ap (λ (core : Core). core.tiles) begins.core_is);
    }
