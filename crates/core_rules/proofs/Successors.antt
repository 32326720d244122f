-- An event has one answer, and leads to one core.
use Rattle.std.proofs.Common.{◌≡◌, ℕ, ◌<◌, Bool, true, false, max, List, refl, sym, ◌∙◌, ap, subst, arith, inl, inr}
use Rattle.std.proofs.Common.{◌⊎◌, IsTrue, Some, None, Option, Contains, ◌↔◌}
use Rattle.core_rules.specs.{Image.IsOfSize, Invariant.IsShaped, declared.answers.Back.Back}
use Rattle.core_rules.specs.{declared.answers.Handed.Handed, Image.IsPart, Hits.IsInTile, Hits.TouchesHit, Merge.IsKept}
use Rattle.core_rules.specs.{Merge.HasRisen, Merge.IsMerged, Hints.IsPresent, Hints.IsHanded, Hints.without_hint}
use Rattle.core_rules.specs.{Hints.raised, Invariant.IsSound}
use Rattle.std.proofs.{lemmas.Bool.cases_eq, lemmas.List.ext_get_or}
use Rattle.grid_core.specs.{declared.pixel.Pixel.Pixel, declared.rect.Rect.Rect, Raster.Raster, Raster.IsInside}
use Rattle.grid_core.specs.{Raster.value_at, Path.Inside, Rects.IsInRect, Tiles.tile_of}
use Rattle.grid_core.proofs.{Cells.equal_images, Tilings.each_pixel_in_one_tile}
use Rattle.stroke_lattice.specs.{State.State, Change.Turnover, Change.IsChange, Change.AreRising}
use Rattle.stroke_lattice.proofs.Joins.{one_join}
use Rattle.marker_tiles.proofs.Levels.{one_marker}
use Rattle.marker_tiles.specs.Marker.{IsMarker}
use Rattle.border_queues.specs.{OpenEdges.open_edges, TileWork.idle, TileWork.received}
use Rattle.tile_generations.specs.{declared.ticket.Ticket.Ticket, Jobs.Job, Jobs.Swept}
use Rattle.core_rules.specs.Work.{Core, domain, tiling, mask_at, image_at, IsTile, work_at}
use Rattle.core_rules.specs.Sweeps.{tile_rect, IsNextJob, IsTaken, IsKnown, IsJoined, IsGivenBack, IsAbandoned}
use Rattle.core_rules.specs.Sweeps.{sender_of, hints_of, hints_for}
use Rattle.core_rules.specs.Events.{Event, Answer, Happens, Merge, Take, GiveBack, Abandon, Hand, OfMerge, OfTake}
use Rattle.core_rules.specs.Events.{OfGiveBack, OfAbandon, OfHand}
use Rattle.core_rules.proofs.{Cores.inside_image, Cores.tile_of_pixel, Joining.from_image, Joining.in_rect_size}
use Rattle.core_rules.proofs.{Ordered.one_ordered, Ordered.less_one_way}
use Rattle.core_rules.specs.declared.answers.Back.TheVariants as back
use Rattle.core_rules.specs.declared.answers.Handed.TheVariants as handed

-- ---- hand

one_hand : (core a b : Core) (t place : ℕ) (x y : Handed) → IsHanded core t place x a → IsHanded core t place y b
    → (x ≡ y) × (a ≡ b)
one_hand core a b t place handed.Nothing handed.Nothing first second = (refl, first.1 ∙ sym second.1)
one_hand core a b t place handed.Stale handed.Stale first second = (refl, first.3 ∙ sym second.3)
one_hand core a b t place handed.Same handed.Same first second = (refl, first.4 ∙ sym second.4)
one_hand core a b t place handed.Raised handed.Raised first second =
    let hint : first.0 ≡ second.0 = cc in
    (refl, first.4 ∙ ap (raised (without_hint core t place)) hint ∙ sym second.4)
one_hand core a b t place handed.Nothing _ first second = absurd cc
one_hand core a b t place _ handed.Nothing first second = absurd cc
one_hand core a b t place handed.Stale _ first second =
    let hint : second.0 ≡ first.0 = cc in
    absurd (first.2 (subst (IsPresent core) hint second.2))
one_hand core a b t place _ handed.Stale first second =
    let hint : first.0 ≡ second.0 = cc in
    absurd (second.2 (subst (IsPresent core) hint first.2))
one_hand core a b t place handed.Same handed.Raised first second =
    let hint : first.0 ≡ second.0 = cc in
    absurd (omega (arith, rw hint at first.3, second.3))
one_hand core a b t place handed.Raised handed.Same first second =
    let hint : second.0 ≡ first.0 = cc in
    absurd (omega (arith, rw hint at second.3, first.3))

-- ---- take and abandon

-- two parts of one image in one rectangle are equal
same_part : (rect : Rect) (whole r s : Raster) → IsPart rect whole r → IsPart rect whole s → r ≡ s
same_part rect whole r s part_r part_s =
    equal_images r s part_r.filled part_s.filled (part_r.width ∙ sym part_s.width) (part_r.height ∙ sym part_s.height)
    (λ p inside.
    let within : IsInside rect.w rect.h p =
    (omega (arith, inside.0, part_r.width), omega (arith, inside.1, part_r.height)) in
    part_r.values p within ∙ sym (part_s.values p within))

same_job : (core : Core) (t : ℕ) (j k : Job) → IsNextJob core t j → IsNextJob core t k → j ≡ k
same_job core t j k next_j next_k =
    let ticket : j.ticket ≡ k.ticket = next_j.ticket ∙ sym next_k.ticket in
    let conn : j.conn ≡ k.conn = next_j.conn ∙ sym next_k.conn in
    let base : j.base ≡ k.base = same_part (tile_rect core t) core.image j.base k.base next_j.base next_k.base in
    let mask : j.mask ≡ k.mask = same_part (tile_rect core t) core.mask j.mask k.mask next_j.mask next_k.mask in
    λ i. record { ticket = ticket i; conn = conn i; base = base i; mask = mask i }

one_take : (core a b : Core) (t : ℕ) (x y : Option Job) → IsTaken core t x a → IsTaken core t y b → (x ≡ y) × (a ≡ b)
one_take core a b t (Some j) (Some k) (ready, next, same) (ready_too, next_too, same_too) =
    (ap Some (same_job core t j k next next_too), same ∙ sym same_too)
one_take core a b t None None (unready, same) (unready_too, same_too) = (refl, same ∙ sym same_too)
one_take core a b t (Some j) None (ready, next, same) (unready, same_too) = absurd (unready ready)
one_take core a b t None (Some k) (unready, same) (ready, next, same_too) = absurd (unready ready)

one_abandon : (core a b : Core) (ticket : Ticket) (x y : Bool) → IsAbandoned core ticket x a
    → IsAbandoned core ticket y b → (x ≡ y) × (a ≡ b)
one_abandon core a b ticket true true (out, same) (out_too, same_too) = (refl, same ∙ sym same_too)
one_abandon core a b ticket false false (not_out, same) (not_too, same_too) = (refl, same ∙ sym same_too)
one_abandon core a b ticket true false (out, same) (not_out, same_too) = absurd (not_out out)
one_abandon core a b ticket false true (not_out, same) (out, same_too) = absurd (not_out out)

-- ---- give back

-- a core in which image and work change is decided by them
same_core : (core a b : Core) → a ≡ record core { image = a.image; tiles = a.tiles }
    → b ≡ record core { image = b.image; tiles = b.tiles } → a.image ≡ b.image → a.tiles ≡ b.tiles → a ≡ b
same_core core a b rest_a rest_b image tiles =
    let middle : record core { image = a.image; tiles = a.tiles } ≡ record core { image = b.image; tiles = b.tiles } =
    λ i. record core { image = image i; tiles = tiles i } in
    rest_a ∙ middle ∙ sym rest_b

-- images as large as a core's are one where they are alike in its domain
same_image : (core : Core) (r s : Raster) → IsShaped core → IsOfSize core.image r → IsOfSize core.image s
    → ((p : Pixel) → Inside (domain core) p → value_at r p ≡ value_at s p) → r ≡ s
same_image core r s shape size_r size_s same =
    equal_images r s size_r.filled size_s.filled (size_r.width ∙ sym size_s.width) (size_r.height ∙ sym size_s.height)
    (λ p inside. same p (omega (arith, inside.0, inside.1, size_r.width, size_r.height, shape.image)))

module _ (core a b : Core) (swept : Swept) (sound : IsSound core) (known : IsKnown core swept.job)
    (join_a : IsJoined core swept a) (join_b : IsJoined core swept b) where
  joined_value : (p : Pixel) → Inside (domain core) p → image_at a p ≡ image_at b p
  joined_value p inside = elim (cases_eq (tile_of (tiling core) p) swept.job.ticket.tile) [
    | inl here ↦
        let (q, inside_q, is) = from_image core swept sound known p inside here in
        let within = in_rect_size core swept sound known q inside_q in
        subst (λ (r : Pixel). image_at a r ≡ image_at b r) is
        (join_a.image.within q within ∙ sym (join_b.image.within q within))
    | inr other ↦
        let in_one = each_pixel_in_one_tile (tiling core) p sound.shape.tiled inside in
        let outside : IsInRect (tile_rect core swept.job.ticket.tile) p → ⊥ = λ found.
        other ((in_one.1 swept.job.ticket.tile (omega (arith, known.is_tile, sound.shape.tiles))).0 found) in
        let at = inside_image core p sound.shape inside in
        join_a.image.beyond p at outside ∙ sym (join_b.image.beyond p at outside)
  ]

  joined_image : a.image ≡ b.image
  joined_image = same_image core a.image b.image sound.shape join_a.image.size join_b.image.size joined_value

  -- the hints are those of the same image
  joined_hints : hints_of core a swept.job.ticket.tile ≡ hints_of core b swept.job.ticket.tile
  joined_hints =
      ap (λ image. open_edges (record (sender_of core swept.job.ticket.tile) { image = value_at image })) joined_image

  joined_tiles : a.tiles ≡ b.tiles
  joined_tiles = ext_get_or idle a.tiles b.tiles (join_a.count ∙ sym join_b.count) (λ t within.
      let is_tile : IsTile core t = subst (λ n. t < n) join_a.count within in
      elim (cases_eq t swept.job.ticket.tile) [
        | inl here ↦ subst (λ u. work_at a u ≡ work_at b u) (sym here) (join_a.own ∙ sym join_b.own)
        | inr other ↦
            join_a.others t is_tile other
            ∙ ap (λ hints. received (work_at core t) (hints_for core t hints)) joined_hints
            ∙ sym (join_b.others t is_tile other)
      ])

  joined_core : a ≡ b
  joined_core = same_core core a b join_a.rest join_b.rest joined_image joined_tiles

one_give_back : (core a b : Core) (swept : Swept) (x y : Back) → IsSound core → IsGivenBack core swept x a
    → IsGivenBack core swept y b → (x ≡ y) × (a ≡ b)
one_give_back core a b swept back.Joined back.Joined sound first second =
    (refl, joined_core core a b swept sound first.0 first.3 second.3)
one_give_back core a b swept back.Again back.Again sound first second =
    (refl, joined_core core a b swept sound first.0 first.3 second.3)
one_give_back core a b swept back.Stale back.Stale sound first second = (refl, first.2 ∙ sym second.2)
one_give_back core a b swept back.Stranger back.Stranger sound first second = (refl, first.1 ∙ sym second.1)
one_give_back core a b swept back.Joined back.Again sound first second = absurd (cc (first.2.clean, second.2.dirty))
one_give_back core a b swept back.Again back.Joined sound first second = absurd (cc (first.2.dirty, second.2.clean))
one_give_back core a b swept back.Stale back.Stranger sound first second =
    absurd (elim second.0 [ inl unknown ↦ unknown first.0 | inr unfit ↦ first.1 unfit.1 ])
one_give_back core a b swept back.Stranger back.Stale sound first second =
    absurd (elim first.0 [ inl unknown ↦ unknown second.0 | inr unfit ↦ second.1 unfit.1 ])
one_give_back core a b swept back.Stale _ sound first second = absurd (first.1 second.1)
one_give_back core a b swept _ back.Stale sound first second = absurd (second.1 first.1)
one_give_back core a b swept back.Joined back.Stranger sound first second =
    absurd (elim second.0 [ inl unknown ↦ unknown first.0 | inr unfit ↦ unfit.2 first.2 ])
one_give_back core a b swept back.Stranger back.Joined sound first second =
    absurd (elim first.0 [ inl unknown ↦ unknown second.0 | inr unfit ↦ unfit.2 second.2 ])
one_give_back core a b swept back.Again back.Stranger sound first second =
    absurd (elim second.0 [ inl unknown ↦ unknown first.0 | inr unfit ↦ unfit.3 first.2 ])
one_give_back core a b swept back.Stranger back.Again sound first second =
    absurd (elim first.0 [ inl unknown ↦ unknown second.0 | inr unfit ↦ unfit.3 second.2 ])

-- ---- merge

same_bit : (a b : Bool) → (IsTrue a → IsTrue b) → (IsTrue b → IsTrue a) → a ≡ b
same_bit true true f g = refl
same_bit false false f g = refl
same_bit true false f g = sym (f refl)
same_bit false true f g = g refl

-- rising lists with the same tags are one
same_tags : (xs ys : List ℕ) → AreRising xs → AreRising ys → ((tag : ℕ) → Contains xs tag ↔ Contains ys tag) → xs ≡ ys
same_tags = one_ordered (λ (m n : ℕ). m < n) AreRising less_one_way (λ tag rest order. order)

same_turnover : (before after : State) (x y : Turnover) → IsChange before after x → IsChange before after y → x ≡ y
same_turnover before after x y change_x change_y =
    let born : x.born ≡ y.born = same_tags x.born y.born change_x.born_rise change_y.born_rise (λ tag. (
      λ there. (change_y.born tag).1 ((change_x.born tag).0 there),
      λ there. (change_x.born tag).1 ((change_y.born tag).0 there),
    )) in
    let dead : x.dead ≡ y.dead = same_tags x.dead y.dead change_x.dead_rise change_y.dead_rise (λ tag. (
      λ there. (change_y.dead tag).1 ((change_x.dead tag).0 there),
      λ there. (change_x.dead tag).1 ((change_y.dead tag).0 there),
    )) in
    λ i. record { born = born i; dead = dead i }

-- what makes a tile dirty in a merged core makes it dirty in another with the same strokes and the same image
dirty_too : (core a b : Core) (t : ℕ) → a.state ≡ b.state → a.image ≡ b.image
    → IsTrue (work_at core t).dirty ⊎ HasRisen (tiling core) t core.image a.image ⊎ TouchesHit core a.state t
    → IsTrue (work_at core t).dirty ⊎ HasRisen (tiling core) t core.image b.image ⊎ TouchesHit core b.state t
dirty_too core a b t state image why = rw (state, image) at why

module _ (core a b : Core) (delta : State) (x y : Turnover) (sound : IsSound core)
    (merged_a : IsMerged core delta x a) (merged_b : IsMerged core delta y b) where
  merged_state : a.state ≡ b.state
  merged_state = one_join core.state delta a.state b.state merged_a.join merged_b.join

  merged_turnover : x ≡ y
  merged_turnover =
      same_turnover core.state b.state x y (subst (λ s. IsChange core.state s x) merged_state merged_a.change)
      merged_b.change

  merged_marker : (p : Pixel) → Inside (domain core) p → merged_a.marker p ≡ merged_b.marker p
  merged_marker =
      one_marker (domain core) (mask_at core) b.state merged_a.marker merged_b.marker
      (subst (λ s. IsMarker (domain core) (mask_at core) s merged_a.marker) merged_state merged_a.is_marker)
      merged_b.is_marker

  merged_value : (p : Pixel) → Inside (domain core) p → image_at a p ≡ image_at b p
  merged_value p inside =
      let t = tile_of (tiling core) p in
      let in_tile : IsInTile (tiling core) (tile_of (tiling core) p) p = record { inside = inside; tile = refl } in
      let marker = merged_marker p inside in
      elim (merged_a.each t (tile_of_pixel core p sound.shape inside)) [
        | inl (hit_a, reset_a) ↦ elim (merged_b.each t (tile_of_pixel core p sound.shape inside)) [
          | inl (hit_b, reset_b) ↦ reset_a.image p in_tile ∙ marker ∙ sym (reset_b.image p in_tile)
          | inr (spared_b, kept_b) ↦ absurd (spared_b (rw merged_state at hit_a))
        ]
        | inr (spared_a, kept_a) ↦ elim (merged_b.each t (tile_of_pixel core p sound.shape inside)) [
          | inl (hit_b, reset_b) ↦ absurd (spared_a (rw (← merged_state) at hit_b))
          | inr (spared_b, kept_b) ↦
              kept_a.image p in_tile ∙ ap (λ m. max (image_at core p) m) marker ∙ sym (kept_b.image p in_tile)
        ]
      ]

  merged_image : a.image ≡ b.image
  merged_image = same_image core a.image b.image sound.shape merged_a.size merged_b.size merged_value

  kept_work : (t : ℕ) → IsKept core merged_a.marker a t → IsKept core merged_b.marker b t → work_at a t ≡ work_at b t
  kept_work t kept_a kept_b =
      let dirty : (work_at a t).dirty ≡ (work_at b t).dirty =
      same_bit (work_at a t).dirty (work_at b t).dirty
      (λ is_dirty. kept_b.dirty.1 (dirty_too core a b t merged_state merged_image (kept_a.dirty.0 is_dirty)))
      (λ is_dirty.
      kept_a.dirty.1 (dirty_too core b a t (sym merged_state) (sym merged_image) (kept_b.dirty.0 is_dirty))) in
      kept_a.work ∙ ap (λ d. record (work_at core t) { dirty = d }) dirty ∙ sym kept_b.work

  merged_tiles : a.tiles ≡ b.tiles
  merged_tiles = ext_get_or idle a.tiles b.tiles (merged_a.count ∙ sym merged_b.count) (λ t within.
      let is_tile : IsTile core t = subst (λ n. t < n) merged_a.count within in
      elim (merged_a.each t is_tile) [
        | inl (hit_a, reset_a) ↦ elim (merged_b.each t is_tile) [
          | inl (hit_b, reset_b) ↦ reset_a.work ∙ sym reset_b.work
          | inr (spared_b, kept_b) ↦ absurd (spared_b (rw merged_state at hit_a))
        ]
        | inr (spared_a, kept_a) ↦ elim (merged_b.each t is_tile) [
          | inl (hit_b, reset_b) ↦ absurd (spared_a (rw (← merged_state) at hit_b))
          | inr (spared_b, kept_b) ↦ kept_work t kept_a kept_b
        ]
      ])

  merged_core : a ≡ b
  merged_core =
      let middle : record core { state = a.state; image = a.image; tiles = a.tiles }
      ≡ record core { state = b.state; image = b.image; tiles = b.tiles } =
      λ i. record core { state = merged_state i; image = merged_image i; tiles = merged_tiles i } in
      merged_a.rest ∙ middle ∙ sym merged_b.rest

-- ---- all events

pub one_successor : (core a b : Core) (event : Event) (x y : Answer) → IsSound core → Happens core event x a
    → Happens core event y b → (x ≡ y) × (a ≡ b)
one_successor core a b (Merge delta) (OfMerge x) (OfMerge y) sound first second = (
  ap OfMerge (merged_turnover core a b delta x y sound first second),
  merged_core core a b delta x y sound first second,
)
one_successor core a b (Take t) (OfTake x) (OfTake y) sound first second =
    let (answer, same) = one_take core a b t x y first second in (ap OfTake answer, same)
one_successor core a b (GiveBack swept) (OfGiveBack x) (OfGiveBack y) sound first second =
    let (answer, same) = one_give_back core a b swept x y sound first.1 second.1 in (ap OfGiveBack answer, same)
one_successor core a b (Abandon ticket) (OfAbandon x) (OfAbandon y) sound first second =
    let (answer, same) = one_abandon core a b ticket x y first second in (ap OfAbandon answer, same)
one_successor core a b (Hand t place) (OfHand x) (OfHand y) sound first second =
    let (answer, same) = one_hand core a b t place x y first second in (ap OfHand answer, same)
one_successor core a b _ _ _ sound first second = absurd (assumption (first, second))
