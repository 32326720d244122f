-- Joining a swept tile keeps a core sound, and tells each open pair that leads out of the tile.
use Rattle.std.proofs.Common.{◌≡◌, ℕ, ◌<◌, ◌≤◌, max, List, length, map, refl, sym, ◌∙◌, ap, subst, arith, inl, inr, ◌⊎◌}
use Rattle.std.proofs.Common.{◌≢◌, ◌==◌, Contains, IsTrue, None}
use Rattle.std.proofs.lemmas.Bool.{cases_lt, cases_eq, eqb-true, eq-eqb}
use Rattle.std.proofs.lemmas.List.{get_or_past}
use Rattle.std.proofs.lemmas.List.Elements.{Contains-append_left, Contains-append_right, Contains-append_cases}
use Rattle.grid_core.specs.{declared.pixel.Pixel.Pixel, Raster.IsInside, Raster.value_at, Neighbours.AreNeighbours}
use Rattle.grid_core.specs.{Rects.in_image, Tiles.count_of, Tiles.tile_of}
use Rattle.grid_core.specs.Path.{Domain, domain_of, Inside, Reaches}
use Rattle.grid_core.proofs.{Cells.below_at_each_pixel, Reach.reaches_here, Reach.reaches_within_mask}
use Rattle.grid_core.proofs.{Tilings.each_pixel_in_one_tile, Tilings.tile_pixels}
use Rattle.border_queues.specs.{declared.hint.Hint.Hint, OpenEdges.Sender, OpenEdges.IsOpenEdge, OpenEdges.hint_to}
use Rattle.border_queues.specs.{Laws.EdgesAreOpen, TileWork.TileWork, TileWork.idle, TileWork.received}
use Rattle.core_rules.specs.{Image.IsOpen, Image.IsSupported, declared.answers.Back.Back}
use Rattle.core_rules.specs.declared.answers.Back.TheVariants.{Joined, Again, Stale, Stranger}
use Rattle.core_rules.specs.Work.{Core, domain, tiling, mask_at, image_at, IsTile, work_at}
use Rattle.core_rules.specs.Sweeps.{tile_rect, IsKnown, sender_of, hints_of, hints_for, IsJoined, IsGivenBack}
use Rattle.core_rules.specs.Invariant.{IsValid, HasHint, HasWork, IsSound}
use Rattle.tile_generations.specs.Jobs.{Swept, IsSwept}
use Rattle.core_rules.proofs.Cores.{inside_image, tile_of_pixel, changed, IsRise, sound_after, told_after, open_before}
use Rattle.core_rules.proofs.Removals.{passed_was_there, passed_test, passes_filter, in_map, from_map}
use Rattle.core_rules.proofs.Supporting.{reaches_above, reach_at_most, reconstruction_is_closed, neighbours_from_image}
use Rattle.core_rules.proofs.Supporting.{part_reaches}

-- where the images of a swept tile are defined
abbrev pub local : Swept → Domain
local swept = domain_of swept.job.mask swept.job.conn

-- the pixel of the image that a pixel of the swept tile is
abbrev pub placed : Core → Swept → Pixel → Pixel
placed core swept p = in_image (tile_rect core swept.job.ticket.tile) p

-- what a sweep gives is nowhere below its base
pub base_at_most : (swept : Swept) → IsSwept swept → (p : Pixel) → Inside (local swept) p
    → value_at swept.job.base p ≤ value_at swept.pixels p
base_at_most swept is_swept p inside =
    let base = value_at swept.job.base in
    let mask = value_at swept.job.mask in
    let there : IsInside swept.job.base.width swept.job.base.height p =
    omega (arith, is_swept.job.below.width, is_swept.job.below.height) in
    let below = below_at_each_pixel swept.job.base swept.job.mask is_swept.job.filled is_swept.job.below p there in
    reach_at_most (local swept) mask base (value_at swept.pixels) is_swept.is_reconstruction p (base p) inside
    (reaches_here (local swept) mask base p (base p) inside below (omega arith))

-- ---- the pixels of the tile

module _ (before : Core) (swept : Swept) (sound : IsSound before) (known : IsKnown before swept.job) where
  tile_within : swept.job.ticket.tile < count_of (tiling before)
  tile_within = omega (arith, known.is_tile, sound.shape.tiles)

  pub in_rect_size : (p : Pixel) → Inside (local swept) p
      → IsInside (tile_rect before swept.job.ticket.tile).w (tile_rect before swept.job.ticket.tile).h p
  in_rect_size p inside = (omega (arith, inside.0, known.mask.width), omega (arith, inside.1, known.mask.height))

  pub to_image : (p : Pixel) → Inside (local swept) p → Inside (domain before) (placed before swept p)
      × (tile_of (tiling before) (placed before swept p) ≡ swept.job.ticket.tile)
  to_image p inside =
      (tile_pixels (tiling before) swept.job.ticket.tile (placed before swept p) sound.shape.tiled tile_within).1
      (p, in_rect_size p inside, refl)

  pub from_image : (q : Pixel) → Inside (domain before) q → tile_of (tiling before) q ≡ swept.job.ticket.tile
      → (p : Pixel) × Inside (local swept) p × (placed before swept p ≡ q)
  from_image q inside same =
      let (p, within, is) =
      (tile_pixels (tiling before) swept.job.ticket.tile q sound.shape.tiled tile_within).0 (inside, same) in
      (p, (omega (arith, within.0, known.mask.width), omega (arith, within.1, known.mask.height)), is)

-- ---- the image afterwards

module _ (before after : Core) (swept : Swept) (sound : IsSound before) (is_swept : IsSwept swept)
    (known : IsKnown before swept.job) (joined : IsJoined before swept after) (edges_open : EdgesAreOpen)
    (below : (p : Pixel) → Inside (local swept) p
    → value_at swept.job.base p ≤ image_at before (placed before swept p)) where
  -- the tile, the core afterwards, the tile as it tells others then, the hints that it tells, and the tile of a pixel
  abbrev its_tile : ℕ
  its_tile = swept.job.ticket.tile

  abbrev now : Core
  now = changed before after.image after.tiles before.serial

  abbrev sender : Sender
  sender = record (sender_of before its_tile) { image = image_at after }

  abbrev hints : List Hint
  hints = hints_of before after its_tile

  abbrev home : Pixel → ℕ
  home p = tile_of (tiling before) p

  at_part : (p : Pixel) → Inside (local swept) p → image_at after (placed before swept p)
      ≡ max (image_at before (placed before swept p)) (value_at swept.pixels p)
  at_part p inside = joined.image.within p (in_rect_size before swept sound known p inside)

  elsewhere : (q : Pixel) → Inside (domain before) q → home q ≢ its_tile → image_at after q ≡ image_at before q
  elsewhere q inside other =
      let in_one = each_pixel_in_one_tile (tiling before) q sound.shape.tiled inside in
      joined.image.beyond q (inside_image before q sound.shape inside)
      (λ found. other ((in_one.1 its_tile (tile_within before swept sound known)).0 found))

  pub rises : (q : Pixel) → Inside (domain before) q → image_at before q ≤ image_at after q
  rises q inside = elim (cases_eq (home q) its_tile) [
    | inl here ↦
        let (p, inside_p, is) = from_image before swept sound known q inside here in
        subst (λ (r : Pixel). image_at before r ≤ image_at after r) is (omega (arith, at_part p inside_p))
    | inr other ↦ omega (arith, elsewhere q inside other)
  ]

  -- what is no matter of inboxes and of what is out stays
  field_stays : {X : Type 0} (f : TileWork → X) → ((work : TileWork) → f (record work { out = None }) ≡ f work)
      → ((work : TileWork) (hints : List Hint) → f (received work hints) ≡ f work)
      → (u : ℕ) → f (work_at after u) ≡ f (work_at before u)
  field_stays f without_out without_inbox u = elim (cases_lt u (length before.tiles)) [
    | inl within ↦ elim (cases_eq u its_tile) [
      | inl here ↦ rw here (ap f joined.own ∙ without_out (work_at before its_tile))
      | inr other ↦
          ap f (joined.others u within other) ∙ without_inbox (work_at before u) (hints_for before u hints)
    ]
    | inr past ↦
        ap f (get_or_past after.tiles u idle (omega (arith, past, joined.count))
        ∙ sym (get_or_past before.tiles u idle past))
  ]

  same_generation : (u : ℕ) → (work_at after u).generation ≡ (work_at before u).generation
  same_generation u = field_stays (λ (w : TileWork). w.generation) (λ w. refl) (λ w hints. refl) u

  pub same_dirty : (u : ℕ) → (work_at after u).dirty ≡ (work_at before u).dirty
  same_dirty u = field_stays (λ (w : TileWork). w.dirty) (λ w. refl) (λ w hints. refl) u

  rise : IsRise before after.image after.tiles
  rise = record { rises = rises; count = joined.count; generations = same_generation }

  supported : IsSupported (domain before) (mask_at before) sound.marker (image_at after)
  supported q inside = elim (cases_eq (home q) its_tile) [
    | inl here ↦
        let (p, inside_p, is) = from_image before swept sound known q inside here in
        let r = placed before swept p in
        let inside_r = (to_image before swept sound known p inside_p).0 in
        let e : image_at after r ≡ max (image_at before r) (value_at swept.pixels p) = at_part p inside_p in
        let recon = (is_swept.is_reconstruction p inside_p).0 in
        let within : value_at swept.pixels p ≤ value_at swept.job.mask p =
        reaches_within_mask (local swept) (value_at swept.job.mask) (value_at swept.job.base) p
        (value_at swept.pixels p) recon in
        let mask : value_at swept.job.mask p ≡ mask_at before r =
        known.mask.values p (in_rect_size before swept sound known p inside_p) in
        let was = sound.supported r inside_r in
        let reach : Reaches (domain before) (image_at after) sound.marker r (image_at after r) =
        elim (cases_lt (image_at before r) (value_at swept.pixels p)) [
          | inl less ↦
              let level : image_at after r ≡ value_at swept.pixels p = omega (arith, e, less) in
              subst (Reaches (domain before) (image_at after) sound.marker r) (sym level)
              (part_reaches (domain before) (local swept) (tile_rect before its_tile) sound.marker
              (image_at before) (image_at after) (value_at swept.job.mask) (value_at swept.job.base)
              (value_at swept.pixels) known.conn (λ s h. (to_image before swept sound known s h).0)
              is_swept.is_reconstruction below (λ s h. omega (arith, at_part s h)) rises
              (λ s h. (sound.supported s h).2) (value_at swept.pixels p) p recon.0 recon.1 recon.2 recon.3)
          | inr at_least ↦
              let level : image_at after r ≡ image_at before r = omega (arith, e, at_least) in
              subst (Reaches (domain before) (image_at after) sound.marker r) (sym level)
              (reaches_above (domain before) (image_at before) (image_at after) sound.marker rises r
              (image_at before r) was.2)
        ] in
        subst (λ (s : Pixel). (sound.marker s ≤ image_at after s) × (image_at after s ≤ mask_at before s)
        × Reaches (domain before) (image_at after) sound.marker s (image_at after s)) is
        (omega (arith, e, was.0), omega (arith, e, was.1, within, mask), reach)
    | inr other ↦
        let e = elsewhere q inside other in
        let was = sound.supported q inside in (
          omega (arith, e, was.0),
          omega (arith, e, was.1),
          subst (Reaches (domain before) (image_at after) sound.marker q) (sym e)
              (reaches_above (domain before) (image_at before) (image_at after) sound.marker rises q (image_at before q)
              was.2),
        )
  ]

  -- ---- the hints afterwards

  -- a hint that came is of an open edge
  came_from : (u : ℕ) (h : Hint) → Contains (hints_for before u hints) h → (pair : Pixel × Pixel)
      × IsOpenEdge sender pair.0 pair.1 × (hint_to sender (image_at after pair.0) pair.1 ≡ h)
  came_from u h came =
      let (pairs, are_hints) = edges_open sender sound.shape.tiled (tile_within before swept sound known) in
      let there = passed_was_there (λ hint. tile_of (tiling before) hint.to_pixel == u) hints h came in
      let make : Pixel × Pixel → Hint = λ a. hint_to sender (image_at after a.0) a.1 in
      let listed : Contains (map make pairs) h = subst (λ hs. Contains hs h) are_hints.hints there in
      let (pair, held, is) = from_map make pairs h (h.to_pixel, h.to_pixel) listed in
      (pair, (are_hints.edges pair.0 pair.1).0 held, is)

  came_valid : (u : ℕ) (h : Hint) → Contains (hints_for before u hints) h → IsValid now u h
  came_valid u h came =
      let (pair, edge, is) = came_from u h came in
      let to_u : tile_of (tiling before) h.to_pixel ≡ u =
      eqb-true (tile_of (tiling before) h.to_pixel) u (passed_test (λ hint. tile_of (tiling before) hint.to_pixel == u)
      hints h came) in
      subst (IsValid now u) is (record {
        to = record {
          inside = edge.to_inside;
          tile = subst (λ (k : Hint). tile_of (tiling before) k.to_pixel ≡ u) (sym is) to_u;
        };
        from = omega (arith, known.is_tile, joined.count);
        earlier = omega (arith, same_generation its_tile);
        holds = λ present. record {
          p = pair.0;
          from = record { inside = edge.from_inside; tile = edge.from_tile };
          beside = edge.beside;
          enough = omega arith;
        };
      })

  hints_after : (u : ℕ) (h : Hint) → IsTile now u → Contains (work_at now u).inbox h
      → Contains (work_at before u).inbox h ⊎ IsValid now u h
  hints_after u h within waits = elim (cases_eq u its_tile) [
    | inl here ↦ inl (rw here (rw (here, joined.own) at waits))
    | inr other ↦
        let is_tile = subst (λ n. u < n) joined.count within in
        let both = subst (λ (w : TileWork). Contains w.inbox h) (joined.others u is_tile other) waits in
        elim (Contains-append_cases (work_at before u).inbox (hints_for before u hints) h both) [
          | inl waited ↦ inl waited
          | inr came ↦ inr (came_valid u h came)
        ]
  ]

  -- a hint that waited waits still
  waits_still : (u : ℕ) (h : Hint) → IsTile before u → Contains (work_at before u).inbox h
      → Contains (work_at after u).inbox h
  waits_still u h is_tile waits = elim (cases_eq u its_tile) [
    | inl here ↦ rw (here, joined.own, ← here) waits
    | inr other ↦
        rw (joined.others u is_tile other) (Contains-append_left (work_at before u).inbox
        (hints_for before u hints) h waits)
  ]

  -- ---- what work is left afterwards

  -- an open pair that leads out of the tile has its hint
  pub told_outside : (p q : Pixel) → home p ≡ its_tile
      → home q ≢ its_tile → IsOpen (domain before) (mask_at before) (image_at after) p q → HasHint now p q
  told_outside p q from_here to_other pair =
      let (pairs, are_hints) = edges_open sender sound.shape.tiled (tile_within before swept sound known) in
      let make : Pixel × Pixel → Hint = λ a. hint_to sender (image_at after a.0) a.1 in
      let u = home q in
      let edge : IsOpenEdge sender p q = record {
        from_inside = pair.from_inside;
        from_tile = from_here;
        to_inside = pair.to_inside;
        to_other = to_other;
        beside = pair.beside;
        lower = pair.lower;
      } in
      let listed : Contains hints (make (p, q)) =
      rw are_hints.hints (in_map make pairs (p, q) ((are_hints.edges p q).1 edge)) in
      let came : Contains (hints_for before u hints) (make (p, q)) =
      passes_filter (λ hint. tile_of (tiling before) hint.to_pixel == u) hints (make (p, q)) (eq-eqb u u refl) listed in
      let is_tile = tile_of_pixel before q sound.shape pair.to_inside in
      record {
        hint = make (p, q);
        waits = subst (λ (w : TileWork). Contains w.inbox (make (p, q))) (sym (joined.others u is_tile to_other))
            (Contains-append_right (work_at before u).inbox (hints_for before u hints) (make (p, q)) came);
        from = sym from_here;
        to = refl;
        present = record {
          is_tile = omega (arith, known.is_tile, joined.count);
          generation = same_generation its_tile;
        };
        enough = omega arith;
      }

  -- a hint for a pair whose first pixel lies in another tile is as good as it was
  pub told_elsewhere : (p q : Pixel) → home p ≢ its_tile → Inside (domain before) p → Inside (domain before) q
      → HasHint before p q → HasHint now p q
  told_elsewhere p q other inside_p inside_q told =
      told_after before after.image after.tiles before.serial rise p q (elsewhere p inside_p other) told
      (waits_still (home q) told.hint (tile_of_pixel before q sound.shape inside_q) told.waits)

  -- and such a pair was open before
  pub open_elsewhere : (p q : Pixel) → home p ≢ its_tile
      → IsOpen (domain before) (mask_at before) (image_at after) p q
      → IsOpen (domain before) (mask_at before) (image_at before) p q
  open_elsewhere p q other pair =
      open_before before after.image after.tiles before.serial rise p q (elsewhere p pair.from_inside other) pair

  -- an open pair whose first pixel lies in another tile
  work_elsewhere : (p q : Pixel) → home p ≢ its_tile
      → IsOpen (domain before) (mask_at before) (image_at after) p q → HasWork before p q → HasWork now p q
  work_elsewhere p q other pair (inl dirty) = inl (subst IsTrue (sym (same_dirty (home p))) dirty)
  work_elsewhere p q other pair (inr (inl out)) =
      let is_tile = tile_of_pixel before p sound.shape pair.from_inside in
      inr (inl (rw (joined.others (home p) is_tile other) out))
  work_elsewhere p q other pair (inr (inr told)) =
      inr (inr (told_elsewhere p q other pair.from_inside pair.to_inside told))

  -- the core is sound once the tile's own open pairs have work
  joined_sound : ((p q : Pixel) → IsOpen (domain before) (mask_at before) (image_at after) p q
      → home p ≡ its_tile → home q ≡ its_tile → IsTrue (work_at before its_tile).dirty) → IsSound now
  joined_sound own =
      sound_after before after.image after.tiles before.serial rise sound (record {
        width = joined.image.size.width ∙ sound.shape.image.width;
        height = joined.image.size.height ∙ sound.shape.image.height;
        filled = joined.image.size.filled;
      }) supported hints_after (λ p q pair. elim (cases_eq (home p) its_tile) [
        | inl from_here ↦ elim (cases_eq (home q) its_tile) [
          | inl to_here ↦
              let dirty = own p q pair from_here to_here in
              inl (rw (from_here, same_dirty its_tile) dirty)
          | inr to_other ↦ inr (inr (told_outside p q from_here to_other pair))
        ]
        | inr from_other ↦
            work_elsewhere p q from_other pair (sound.work p q (open_elsewhere p q from_other pair))
      ])

  -- an open pair of the tile's pixels begins at one that was above what the sweep gave
  pub above_swept : (p q : Pixel) → IsOpen (domain before) (mask_at before) (image_at after) p q → home p ≡ its_tile
      → home q ≡ its_tile
      → (a : Pixel) × Inside (local swept) a × (placed before swept a ≡ p)
      × (value_at swept.pixels a < image_at before p)
  above_swept p q pair from_here to_here =
      let (a, inside_a, is_a) = from_image before swept sound known p pair.from_inside from_here in
      let (b, inside_b, is_b) = from_image before swept sound known q pair.to_inside to_here in
      let recon = is_swept.is_reconstruction in
      let beside : AreNeighbours swept.job.conn a b =
      neighbours_from_image swept.job.conn (tile_rect before its_tile) a b
      (subst (λ conn. AreNeighbours conn (placed before swept a) (placed before swept b)) (sym known.conn)
      (subst (λ (r : Pixel). AreNeighbours before.conn r (placed before swept b)) (sym is_a)
      (subst (λ (r : Pixel). AreNeighbours before.conn p r) (sym is_b) pair.beside))) in
      let closed = reconstruction_is_closed (local swept) (value_at swept.job.mask) (value_at swept.job.base)
      (value_at swept.pixels) recon a b inside_a inside_b beside in
      let mask_b : value_at swept.job.mask b ≡ mask_at before q =
      known.mask.values b (in_rect_size before swept sound known b inside_b)
      ∙ ap (λ (r : Pixel). mask_at before r) is_b in
      let at_a : image_at after p ≡ max (image_at before p) (value_at swept.pixels a) =
      subst (λ (r : Pixel). image_at after r ≡ max (image_at before r) (value_at swept.pixels a)) is_a
      (at_part a inside_a) in
      let at_b : image_at after q ≡ max (image_at before q) (value_at swept.pixels b) =
      subst (λ (r : Pixel). image_at after r ≡ max (image_at before r) (value_at swept.pixels b)) is_b
      (at_part b inside_b) in (
        a,
        inside_a,
        is_a,
        elim (cases_lt (value_at swept.pixels a) (image_at before p)) [
          | inl above ↦ above
          | inr low ↦ absurd (omega (arith, closed, mask_b, at_a, at_b, pair.lower, low))
        ],
      )

  -- where the image of the tile was the base, no pair of its pixels is open
  closed_inside : ((p : Pixel) → Inside (local swept) p
      → image_at before (placed before swept p) ≡ value_at swept.job.base p) → (p q : Pixel)
      → IsOpen (domain before) (mask_at before) (image_at after) p q → home p ≡ its_tile → home q ≡ its_tile → ⊥
  closed_inside same p q pair from_here to_here =
      let (a, inside_a, is_a, above) = above_swept p q pair from_here to_here in
      let at_base : image_at before p ≡ value_at swept.job.base a =
      subst (λ (r : Pixel). image_at before r ≡ value_at swept.job.base a) is_a (same a inside_a) in
      omega (arith, base_at_most swept is_swept a inside_a, at_base, above)

-- ---- give back

pub give_back_keeps_sound : EdgesAreOpen → (before after : Core) (swept : Swept) (back : Back) → IsSound before
    → IsSwept swept → IsGivenBack before swept back after → IsSound after
give_back_keeps_sound edges_open before after swept Joined sound is_swept (known, out, unchanged, joined) =
    let same : (p : Pixel) → Inside (local swept) p
    → image_at before (placed before swept p) ≡ value_at swept.job.base p = λ p inside.
    sym (unchanged.base.values p (in_rect_size before swept sound known p inside)) in
    let below : (p : Pixel) → Inside (local swept) p
    → value_at swept.job.base p ≤ image_at before (placed before swept p) = λ p inside.
    omega (arith, same p inside) in
    subst IsSound (sym joined.rest) (joined_sound before after swept sound is_swept known joined edges_open below
    (λ p q pair from_here to_here. absurd
    (closed_inside before after swept sound is_swept known joined edges_open below same p q pair from_here to_here)))
give_back_keeps_sound edges_open before after swept Again sound is_swept (known, out, risen, joined) =
    let below : (p : Pixel) → Inside (local swept) p
    → value_at swept.job.base p ≤ image_at before (placed before swept p) = λ p inside.
    risen.base.values p (in_rect_size before swept sound known p inside) in
    subst IsSound (sym joined.rest) (joined_sound before after swept sound is_swept known joined edges_open below
    (λ p q pair from_here to_here. risen.dirty))
give_back_keeps_sound edges_open before after swept Stale sound is_swept (known, not_out, same) = rw same sound
give_back_keeps_sound edges_open before after swept Stranger sound is_swept (why, same) = subst IsSound (sym same) sound
