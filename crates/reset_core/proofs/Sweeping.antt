-- Taking a tile, giving it back, abandoning a job and passing over a tile, as the stored core does them.
use Rattle.std.proofs.Common.{◌≡◌, ℕ, ◌+◌, ◌%◌, ◌^◌, ◌<◌, Bool, true, false, List, [], ◌∷◌, ◌++◌, length, refl, sym}
use Rattle.std.proofs.Common.{◌∙◌, ap, subst, arith, inl, inr, ◌⊎◌, ◌==◌, Contains, Some, None, filter, if◌then◌else◌}
use Rattle.std.proofs.Common.{slice_index_or, slice_set, All, ◌≤◌}
use Rattle.std.proofs.{lemmas.Bool.eqb-true, lemmas.Bool.Decides.eqb_tells}
use Rattle.std.proofs.lemmas.List.{length-set, get_or-set_same, get_or-set_other, append-nil}
use Rattle.std.proofs.lemmas.List.Elements.{Contains-get_or, All-contains}
use Rattle.grid_core.specs.{declared.pixel.Pixel.Pixel, declared.rect.Rect.Rect, Raster.Raster, Raster.IsInside}
use Rattle.grid_core.specs.{Raster.IsBelow, Raster.value_at, Path.Inside, Rects.RectFits, Rects.in_image, Tiles.Tiles}
use Rattle.grid_core.specs.{declared.bounds.Bounds.Bounds, Bounds.no_bounds}
use Rattle.grid_core.specs.Tiles.{IsTiled, count_of, tile_of}
use Rattle.grid_core.proofs.{Cells.each_pixel_below, Pixels.same_pixel}
use Rattle.grid_core.proofs.Tilings.{each_pixel_in_one_tile, tile_pixels, neighbours_lie_in_touching_tiles}
use Rattle.border_queues.specs.{declared.hint.Hint.Hint, Laws.EdgesAreOpen, Laws.SameImageSameEdges}
use Rattle.border_queues.specs.OpenEdges.{Sender, open_edges, from_corner, with_tile}
use Rattle.border_queues.specs.TileWork.{TileWork, idle, received}
use Rattle.tile_generations.specs.{declared.ticket.Ticket.Ticket, Jobs.Job, Jobs.Swept, Jobs.IsSwept}
use Rattle.core_rules.specs.{declared.answers.Back.TheVariants.Joined, declared.answers.Back.TheVariants.Again}
use Rattle.core_rules.specs.{Image.IsPart, Image.IsJoinedWith, Invariant.IsSound}
use Rattle.core_rules.specs.Work.{Core, domain, tiling, image_at, IsTile, work_at}
use Rattle.core_rules.specs.Sweeps.{tile_rect, IsReady, IsNextJob, IsOut, IsKnown, IsUnchanged, HasOnlyRisen, sender_of}
use Rattle.core_rules.specs.Sweeps.{hints_of, IsAbandoned, IsJoined, IsTaken}
use Rattle.core_rules.specs.Laws.{TakeKeepsSound, AbandonKeepsSound, GiveBackKeepsSound}
use Rattle.reset_core.specs.Parts.{AreBoundsAbove, IsBelowPiece, IsPieceFor, IsRaisedPart}
use Rattle.reset_core.specs.declared.replica.Core.TheInside.{Inside as Parts}
use Rattle.reset_core.specs.{Replica.core_of, Replica.IsStored}
use Rattle.tile_work.specs.{OpenBounds.bounds_for, WorkTable.IsToTouching, WorkTable.AreReceived}
use Rattle.reset_core.proofs.BoundedOrTold.{joined_bounded, told_alike}
use Rattle.reset_core.proofs.{Storing.stored_still, TellingOrder.told_by}
use Rattle.core_rules.proofs.{Cores.inside_image, Joining.base_at_most, Joining.in_rect_size, Joining.local}
use Rattle.core_rules.proofs.{Joining.placed, Taking.abandon_keeps_told, Taking.take_keeps_told}
use Rattle.core_rules.proofs.PassingOver.{is_passed_over, pass_keeps_sound, pass_keeps_told, with_next_serial}
use Rattle.core_rules.proofs.Removals.{passed_was_there, passed_test}

-- ---- what is stored

-- the work at a tile whose job goes out, is abandoned, or comes back
abbrev pub gone_out : TileWork → ℕ → TileWork
gone_out work serial = record work { dirty = false; out = Some serial }

abbrev pub let_go : TileWork → TileWork
let_go work = record work { dirty = true; out = None }

abbrev pub come_back : TileWork → TileWork
come_back work = record work { out = None }

pub taken_is_stored : TakeKeepsSound → (parts : Parts) (core : Core) (t : ℕ) (job : Job) (work : List TileWork)
    → core_of parts ≡ core → IsStored parts → IsReady core t → IsNextJob core t job
    → work ≡ slice_set parts.work t (gone_out (slice_index_or parts.work t idle) parts.serial)
    → IsStored (record parts { work = work; serial = (parts.serial + 1) % 2 ^ 64 })
taken_is_stored keeps parts core t job work view stored ready next is =
    let serial = (parts.serial + 1) % 2 ^ 64 in
    let old = core_of parts in
    let change = gone_out (slice_index_or parts.work t idle) parts.serial in
    let after = core_of (record parts { work = work; serial = serial }) in
    let happens : IsTaken old t (Some job) after = (
      subst (λ c. IsReady c t) (sym view) ready,
      subst (λ c. IsNextJob c t job) (sym view) next,
      λ i. record old { tiles = is i; serial = serial },
    ) in
    stored_still parts parts.image work parts.bounds serial stored (ap length is ∙ length-set parts.work t change)
    (told_alike old work serial parts.bounds stored.sound.shape.tiled stored.bounded
    (λ p q told. take_keeps_told old after t (Some job) p q stored.sound happens told))
    (keeps old after t (Some job) stored.sound happens)

pub abandoned_is_stored : AbandonKeepsSound → (parts : Parts) (core : Core) (ticket : Ticket) (work : List TileWork)
    → core_of parts ≡ core → IsStored parts → IsOut core ticket
    → work ≡ slice_set parts.work ticket.tile (let_go (slice_index_or parts.work ticket.tile idle))
    → IsStored (record parts { work = work })
abandoned_is_stored keeps parts core ticket work view stored out is =
    let old = core_of parts in
    let change = let_go (slice_index_or parts.work ticket.tile idle) in
    let after = core_of (record parts { work = work }) in
    let happens : IsAbandoned old ticket true after = (
      subst (λ c. IsOut c ticket) (sym view) out,
      λ i. record old { tiles = is i },
    ) in
    stored_still parts parts.image work parts.bounds parts.serial stored
    (ap length is ∙ length-set parts.work ticket.tile change)
    (told_alike old work parts.serial parts.bounds stored.sound.shape.tiled stored.bounded
    (λ p q told. abandon_keeps_told old after ticket true p q stored.sound happens told))
    (keeps old after ticket true stored.sound happens)

pub passed_is_stored : (parts : Parts) (core : Core) (t : ℕ) → core_of parts ≡ core → IsStored parts → IsReady core t
    → IsStored (record parts { serial = (parts.serial + 1) % 2 ^ 64 })
passed_is_stored parts core t view stored ready =
    let serial = (parts.serial + 1) % 2 ^ 64 in
    let old = core_of parts in
    let happens = is_passed_over old t (subst (λ c. IsReady c t) (sym view) ready) in
    stored_still parts parts.image parts.work parts.bounds serial stored refl
    (told_alike old parts.work serial parts.bounds stored.sound.shape.tiled stored.bounded
    (λ p q told. pass_keeps_told old (with_next_serial old) t p q stored.sound happens told))
    (pass_keeps_sound old (with_next_serial old) t stored.sound happens)

-- ---- the next job

-- the part of a sound core's image on a tile is below that of its mask
pub base_is_below : (core : Core) (t : ℕ) (base mask : Raster) → IsSound core → IsTile core t
    → IsPart (tile_rect core t) core.image base → IsPart (tile_rect core t) core.mask mask → IsBelow base mask
base_is_below core t base mask sound is_tile of_image of_mask =
    let within : t < count_of (tiling core) = omega (arith, is_tile, sound.shape.tiles) in
    let width = of_image.width in
    let height = of_image.height in
    each_pixel_below base mask of_image.filled (width ∙ sym of_mask.width) (height ∙ sym of_mask.height) (λ p inside.
    let in_rect : IsInside (tile_rect core t).w (tile_rect core t).h p =
    (omega (arith, inside.0, width), omega (arith, inside.1, height)) in
    let there = (tile_pixels (tiling core) t (in_image (tile_rect core t) p) sound.shape.tiled within).1
    (p, in_rect, refl) in
    let low = (sound.supported (in_image (tile_rect core t) p) there.0).1 in
    omega (arith, low, of_image.values p in_rect, of_mask.values p in_rect))

-- ---- a job that comes back

-- its base is nowhere above the tile, where that is as it was or has only risen since
pub base_is_low : (core : Core) (swept : Swept) → IsSound core → IsKnown core swept.job
    → IsUnchanged core swept.job ⊎ HasOnlyRisen core swept.job → (p : Pixel) → Inside (local swept) p
    → value_at swept.job.base p ≤ image_at core (placed core swept p)
base_is_low core swept sound known (inl unchanged) p inside =
    omega (arith, unchanged.base.values p (in_rect_size core swept sound known p inside))
base_is_low core swept sound known (inr risen) p inside =
    risen.base.values p (in_rect_size core swept sound known p inside)

-- ---- hints

-- hints of a tile's open edges are for tiles that touch it
pub edges_touch : EdgesAreOpen → (s : Sender) → IsTiled s.tiles → s.tile < count_of s.tiles
    → All (IsToTouching s.tiles s.tile) (open_edges s)
edges_touch edges_open s tiled within k d below =
    let there = Contains-get_or (open_edges s) k d below in
    let told = told_by edges_open neighbours_lie_in_touching_tiles each_pixel_in_one_tile s tiled within
    (slice_index_or (open_edges s) k d) there in
    record { inside = told.inside; touching = told.touching }

module _ (core after : Core) (t : ℕ) (pixels raised : Raster) (sound : IsSound core) (is_tile : IsTile core t)
    (is_raised : IsRaisedPart (tile_rect core t) core.image pixels raised)
    (joined : IsJoinedWith (tile_rect core t) pixels core.image after.image) where
  tile_within : t < count_of (tiling core)
  tile_within = omega (arith, is_tile, sound.shape.tiles)

  -- the raised part on the tile and the old image elsewhere are the image afterwards
  with_raised : (p : Pixel) → Inside (domain core) p
      → with_tile (tiling core) t (value_at raised) (image_at core) p ≡ image_at after p
  with_raised p inside =
      let rect = tile_rect core t in
      let there = value_at raised (from_corner rect p) in
      let in_one = (each_pixel_in_one_tile (tiling core) p sound.shape.tiled inside).1 t tile_within in
      elim (eqb_tells (tile_of (tiling core) p) t) [
        | inl (passes, same) ↦
            let found = in_one.1 same in
            let near : IsInside rect.w rect.h (from_corner rect p) = (omega (arith, found), omega (arith, found)) in
            let back : in_image rect (from_corner rect p) ≡ p =
            same_pixel (in_image rect (from_corner rect p)) p (omega (arith, found)) (omega (arith, found)) in
            ap (λ b. if b then there else image_at core p) passes ∙ is_raised.values (from_corner rect p) near
            ∙ sym (joined.within (from_corner rect p) near) ∙ ap (λ (q : Pixel). image_at after q) back
        | inr (fails, other) ↦
            ap (λ b. if b then there else image_at core p) fails
            ∙ sym (joined.beyond p (inside_image core p sound.shape inside) (λ found. other (in_one.0 found)))
      ]

  pub hints_once_joined : SameImageSameEdges → open_edges (record (sender_of core t) {
    image = with_tile (tiling core) t (value_at raised) (image_at core);
  }) ≡ hints_of core after t
  hints_once_joined same_edges =
      same_edges (record (sender_of core t) { image = with_tile (tiling core) t (value_at raised) (image_at core) })
      (image_at after) sound.shape.tiled tile_within with_raised

-- ---- tiles that are as they were

-- where a tile is as it was when its job was taken, it is nowhere above what the sweep gave
pub swept_is_above : (core : Core) (swept : Swept) → IsSwept swept → IsKnown core swept.job
    → IsUnchanged core swept.job → IsBelowPiece (tile_rect core swept.job.ticket.tile) core.image swept.pixels
swept_is_above core swept is_swept known unchanged p inside =
    let within : Inside (local swept) p = omega (arith, known.mask.width, known.mask.height) in
    omega (arith, base_at_most swept is_swept p within, unchanged.base.values p inside)

-- so that is the part of the image, as it is raised
pub swept_is_raised : (core : Core) (swept : Swept) (held : Raster) → held ≡ swept.pixels → IsSwept swept
    → IsKnown core swept.job → IsUnchanged core swept.job
    → IsRaisedPart (tile_rect core swept.job.ticket.tile) core.image swept.pixels held
swept_is_raised core swept held held_is is_swept known unchanged =
    subst (IsRaisedPart (tile_rect core swept.job.ticket.tile) core.image swept.pixels) (sym held_is) (record {
      width = is_swept.width ∙ known.mask.width;
      height = is_swept.height ∙ known.mask.height;
      filled = is_swept.filled;
      values = λ p inside. omega (arith, swept_is_above core swept is_swept known unchanged p inside);
    })

-- and a stored image is nowhere above it there
pub stored_below : (parts : Parts) (core : Core) (swept : Swept) (tile : ℕ) (rect : Rect) (held : Raster)
    → core_of parts ≡ core → tile ≡ swept.job.ticket.tile → rect ≡ tile_rect core tile → held ≡ swept.pixels
    → IsSwept swept → IsKnown core swept.job → IsUnchanged core swept.job → IsBelowPiece rect parts.image held
stored_below parts core swept tile rect held view tile_is rect_is held_is is_swept known unchanged =
    subst (λ r. IsBelowPiece r parts.image held) (sym (rect_is ∙ ap (tile_rect core) tile_is))
    (subst (IsBelowPiece (tile_rect core swept.job.ticket.tile) parts.image) (sym held_is)
    (subst (λ (c : Core). IsBelowPiece (tile_rect core swept.job.ticket.tile) c.image swept.pixels) (sym view)
    (swept_is_above core swept is_swept known unchanged)))

-- what a sweep gave has the size of its tile's rectangle
pub swept_is_piece : (parts : Parts) (core : Core) (swept : Swept) (tile : ℕ) (rect : Rect) (held : Raster)
    → core_of parts ≡ core → tile ≡ swept.job.ticket.tile → rect ≡ tile_rect core tile → held ≡ swept.pixels
    → RectFits core.image.width core.image.height rect → IsSwept swept → IsKnown core swept.job
    → IsPieceFor rect parts.image held
swept_is_piece parts core swept tile rect held view tile_is rect_is held_is fits is_swept known =
    let size : rect ≡ tile_rect core swept.job.ticket.tile = rect_is ∙ ap (tile_rect core) tile_is in
    record {
      fits = subst (λ (c : Core). RectFits c.image.width c.image.height rect) (sym view) fits;
      width =
          ap (λ (r : Raster). r.width) held_is ∙ is_swept.width ∙ known.mask.width
          ∙ sym (ap (λ (r : Rect). r.w) size);
      height =
          ap (λ (r : Raster). r.height) held_is ∙ is_swept.height ∙ known.mask.height
          ∙ sym (ap (λ (r : Rect). r.h) size);
    }

-- ---- join

-- a list without elements is empty
none_is_empty : {X : Type 0} (xs : List X) → ((x : X) → Contains xs x → ⊥) → xs ≡ []
none_is_empty [] none = refl
none_is_empty (x ∷ xs) none = absurd (none x (0, omega arith, refl))

module _ (core : Core) (swept : Swept) (image : Raster) (told done : List TileWork) (hints : List Hint)
    (is_tile : IsTile core swept.job.ticket.tile)
    (joined : IsJoinedWith (tile_rect core swept.job.ticket.tile) swept.pixels core.image image)
    (touching : All (IsToTouching (tiling core) swept.job.ticket.tile) hints)
    (receive : AreReceived (tiling core) hints core.tiles told)
    (done_is : done ≡ slice_set told swept.job.ticket.tile (come_back (slice_index_or told swept.job.ticket.tile idle)))
    (hints_are : hints ≡ hints_of core (record core { image = image; tiles = done }) swept.job.ticket.tile) where
  -- no hint is for the tile itself
  none_own : filter (λ hint. tile_of (tiling core) hint.to_pixel == swept.job.ticket.tile) hints ≡ []
  none_own =
      let own : Hint → Bool = λ hint. tile_of (tiling core) hint.to_pixel == swept.job.ticket.tile in
      none_is_empty (filter own hints) (λ hint there.
      (All-contains (IsToTouching (tiling core) swept.job.ticket.tile) hints hint touching
      (passed_was_there own hints hint there)).touching.other
      (sym (eqb-true (tile_of (tiling core) hint.to_pixel) swept.job.ticket.tile (passed_test own hints hint there))))

  joined_own : slice_index_or done swept.job.ticket.tile idle
      ≡ record (work_at core swept.job.ticket.tile) { out = None }
  joined_own =
      let t = swept.job.ticket.tile in
      let own = filter (λ hint. tile_of (tiling core) hint.to_pixel == t) hints in
      ap (λ ts. slice_index_or ts t idle) done_is
      ∙ get_or-set_same told t (come_back (slice_index_or told t idle)) idle (omega (arith, is_tile, receive.count))
      ∙ ap come_back (receive.each t is_tile) ∙ ap (λ hs. come_back (received (work_at core t) hs)) none_own
      ∙ ap (λ hs. record (work_at core t) { out = None; inbox = hs }) (append-nil (work_at core t).inbox)

  pub is_joined : IsJoined core swept (record core { image = image; tiles = done })
  is_joined =
      let t = swept.job.ticket.tile in
      let change = come_back (slice_index_or told t idle) in record {
        image = joined;
        own = joined_own;
        others = λ u within other. ap (λ ts. slice_index_or ts u idle) done_is
            ∙ get_or-set_other told t u change idle other ∙ receive.each u within
            ∙ ap
            (λ hs. received (work_at core u) (filter (λ hint. tile_of (tiling core) hint.to_pixel == u) hs)) hints_are;
        count = ap length done_is ∙ length-set told t change ∙ receive.count;
        rest = refl;
      }

-- joining keeps a core sound
pub join_keeps_sound : GiveBackKeepsSound → (before after : Core) (swept : Swept) → IsSound before → IsSwept swept
    → IsKnown before swept.job → IsOut before swept.job.ticket
    → IsUnchanged before swept.job ⊎ HasOnlyRisen before swept.job → IsJoined before swept after → IsSound after
join_keeps_sound keeps before after swept sound is_swept known out (inl unchanged) joined =
    keeps before after swept Joined sound is_swept (known, out, unchanged, joined)
join_keeps_sound keeps before after swept sound is_swept known out (inr risen) joined =
    keeps before after swept Again sound is_swept (known, out, risen, joined)

-- ---- the parts of a stored core

module _ (parts : Parts) (core : Core) (tiles : Tiles) (view : core_of parts ≡ core)
    (tiles_are : tiles ≡ parts.markers.tiling) (width : parts.markers.tiling.width ≡ parts.markers.mask.width)
    (height : parts.markers.tiling.height ≡ parts.markers.mask.height) where
  stored_tiling : tiles ≡ tiling (core_of parts)
  stored_tiling = tiles_are ∙ (λ i. record { width = width i; height = height i; side = parts.markers.tiling.side })

  pub tiling_is : tiles ≡ tiling core
  tiling_is = stored_tiling ∙ ap tiling view

  -- the hints that a walk along the tile's border gave
  pub told_are_edges : (t tile generation : ℕ) (mask raised : Raster) (before told : List Hint)
      → mask ≡ parts.markers.mask → tile ≡ t → generation ≡ (slice_index_or parts.work tile idle).generation
      → before ≡ [] → told ≡ before ++ open_edges (record {
        tiles = tiles;
        conn = parts.conn;
        mask = value_at mask;
        image = with_tile tiles tile (value_at raised) (value_at parts.image);
        tile = tile;
        generation = generation;
      }) → told ≡ open_edges (record (sender_of core t) {
        image = with_tile (tiling core) t (value_at raised) (image_at core);
      })
  told_are_edges t tile generation mask raised before told mask_is tile_is generation_is none told_is =
      let one : Sender = record {
        tiles = tiles;
        conn = parts.conn;
        mask = value_at mask;
        image = with_tile tiles tile (value_at raised) (value_at parts.image);
        tile = tile;
        generation = generation;
      } in
      let sender : Core → Sender =
      λ c. record (sender_of c t) { image = with_tile (tiling c) t (value_at raised) (image_at c) } in
      let of_tile = generation_is ∙ ap (λ n. (slice_index_or parts.work n idle).generation) tile_is in
      let stored : one ≡ sender (core_of parts) = λ i. record {
        tiles = stored_tiling i;
        conn = parts.conn;
        mask = value_at (mask_is i);
        image = with_tile (stored_tiling i) (tile_is i) (value_at raised) (value_at parts.image);
        tile = tile_is i;
        generation = of_tile i;
      } in
      told_is ∙ ap (λ hs. hs ++ open_edges one) none ∙ ap open_edges stored ∙ ap (λ c. open_edges (sender c)) view

module _ (parts : Parts) (core : Core) (swept : Swept) (tiles : Tiles) (tile : ℕ) (rect : Rect) (pixels image : Raster)
    (told done : List TileWork) (hints slice : List Hint) (view : core_of parts ≡ core)
    (tiles_are : tiles ≡ tiling core)
    (tile_is : tile ≡ swept.job.ticket.tile) (rect_is : rect ≡ tile_rect core tile) (pixels_are : pixels ≡ swept.pixels)
    (raise : IsJoinedWith rect pixels parts.image image)
    (touching : All (IsToTouching (tiling core) swept.job.ticket.tile) hints) (slice_is : slice ≡ hints)
    (receive : AreReceived tiles slice parts.work told)
    (done_is : done ≡ slice_set told tile (come_back (slice_index_or told tile idle)))
    (hints_are : (after : Core)
    → IsJoinedWith (tile_rect core swept.job.ticket.tile) swept.pixels core.image after.image
    → hints ≡ hints_of core after swept.job.ticket.tile) (is_tile : IsTile core swept.job.ticket.tile) where
  stored_joined : IsJoined core swept (record core { image = image; tiles = done })
  stored_joined =
      let t = swept.job.ticket.tile in
      let joined : IsJoinedWith (tile_rect core t) swept.pixels core.image image =
      subst (λ r. IsJoinedWith r swept.pixels core.image image) (rect_is ∙ ap (tile_rect core) tile_is)
      (subst (λ q. IsJoinedWith rect q core.image image) pixels_are
      (subst (λ (c : Core). IsJoinedWith rect pixels c.image image) view raise)) in
      let received_all : AreReceived (tiling core) hints core.tiles told =
      subst (λ (ts : Tiles). AreReceived ts hints core.tiles told) tiles_are
      (subst (λ hs. AreReceived tiles hs core.tiles told) slice_is
      (subst (λ (c : Core). AreReceived tiles slice c.tiles told) view receive)) in
      is_joined core swept image told done hints is_tile joined touching received_all
      (done_is ∙ ap (λ n. slice_set told n (come_back (slice_index_or told n idle))) tile_is)
      (hints_are (record core { image = image; tiles = done }) joined)

  pub parts_joined : IsJoined core swept (core_of (record parts { image = image; work = done }))
  parts_joined =
      subst (λ (c : Core). IsJoined core swept (record c { image = image; tiles = done })) (sym view) stored_joined

  pub joined_is_stored : GiveBackKeepsSound → EdgesAreOpen → (area : Bounds)
      → AreBoundsAbove rect rect.h parts.image pixels area → IsStored parts → IsSwept swept → IsKnown core swept.job
      → IsOut core swept.job.ticket → IsUnchanged core swept.job ⊎ HasOnlyRisen core swept.job
      → IsStored (record parts { image = image; work = done; bounds = slice_set parts.bounds tile area })
  joined_is_stored keeps edges_open area above stored is_swept known out base =
      let change = come_back (slice_index_or told tile idle) in
      let t = swept.job.ticket.tile in
      let old : Core = core_of parts in
      let after : Core = core_of (record parts { image = image; work = done }) in
      let new : List Bounds = slice_set parts.bounds tile area in
      let known_there : IsKnown old swept.job = subst (λ (c : Core). IsKnown c swept.job) (sym view) known in
      let base_there : IsUnchanged old swept.job ⊎ HasOnlyRisen old swept.job =
      subst (λ (c : Core). IsUnchanged c swept.job ⊎ HasOnlyRisen c swept.job) (sym view) base in
      let joined : IsJoined old swept after = subst (λ (c : Core). IsJoined c swept after) (sym view) parts_joined in
      let rect_at : rect ≡ tile_rect old t =
      rect_is ∙ ap (λ (c : Core). tile_rect c tile) (sym view) ∙ ap (tile_rect old) tile_is in
      let above_there : AreBoundsAbove (tile_rect old t) (tile_rect old t).h parts.image swept.pixels area =
      subst (λ (r : Rect). AreBoundsAbove r r.h parts.image swept.pixels area) rect_at
      (subst (λ (q : Raster). AreBoundsAbove rect rect.h parts.image q area) pixels_are above) in
      let within : tile < length parts.bounds =
      omega (
        arith,
        is_tile,
        ap (λ (c : Core). length c.tiles) view,
        tile_is,
        stored.sound.shape.tiles,
        stored.bounded.count,
      ) in
      stored_still parts image done new parts.serial stored
      (ap length done_is ∙ length-set told tile change ∙ receive.count)
      (joined_bounded old after swept stored.sound is_swept known_there joined edges_open
      (base_is_low old swept stored.sound known_there base_there) parts.bounds stored.bounded new area
      (length-set parts.bounds tile area)
      (λ u other. get_or-set_other parts.bounds tile u area no_bounds (λ same. other (same ∙ tile_is)))
      (subst (λ n. bounds_for new n ≡ area) tile_is (get_or-set_same parts.bounds tile area no_bounds within))
      above_there.lie
      (λ p inside high. above_there.above p (in_rect_size old swept stored.sound known_there p inside) high))
      (join_keeps_sound keeps core after swept (subst IsSound view stored.sound) is_swept known out base parts_joined)
