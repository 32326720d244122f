-- Open edges of a tile of some rows of tiles that are taken as an image by themselves.
use Rattle.std.proofs.Common.{◌≡◌, ℕ, ◌+◌, ◌<◌, ◌≤◌, inl, inr, sym, ap, ◌∙◌, subst, arith, refl, List, []}
use Rattle.std.proofs.Common.{◌∷◌, map, min, Contains}
use Rattle.std.specs.List.{AllByRecursion}
use Rattle.grid_core.specs.{declared.conn.Conn.Conn, declared.pixel.Pixel.Pixel, Raster.IsInside}
use Rattle.grid_core.specs.{Neighbours.IsBefore, Rects.IsInRect}
use Rattle.grid_core.specs.Tiles.{Tiles, IsTiled, tile_of, rect_of}
use Rattle.grid_core.proofs.Common.{here, later, in_map, map_has}
use Rattle.grid_core.proofs.Pixels.{near}
use Rattle.grid_core.proofs.Tilings.{each_pixel_in_one_tile, tiles_lie_inside}
use Rattle.border_queues.specs.{Laws.EdgesAreOpen, Laws.IsPairBefore, Laws.AreInPairOrder}
use Rattle.border_queues.specs.OpenEdges.{Sender, sender_by, IsOpenEdge, hint_to, open_edges}
use Rattle.core_rules.proofs.Ordered.{one_ordered}
use Rattle.reset_core.specs.Bands.{IsBandOf, IsInner, rows_above, tiles_above, lowered, lowered_hint}
use Rattle.reset_core.specs.Bands.{lowered_rect}
use Rattle.reset_core.proofs.Bands.Tiles.{raised, lowered-raised, neighbours_lowered, neighbours_raised, inside_lowered}
use Rattle.reset_core.proofs.Bands.Tiles.{tile_of_lowered, rect_of_lowered, lowered-within, not_at_top, not_at_bottom}

-- ---- the order of pairs

abbrev pub lowered_pair : ℕ → Pixel × Pixel → Pixel × Pixel
lowered_pair rows a = (lowered rows a.0, lowered rows a.1)

before_lowered : (rows : ℕ) (p q : Pixel) → IsBefore p q → IsBefore (lowered rows p) (lowered rows q)
before_lowered rows p q before = elim before [
  | inl above ↦ inl (omega (arith, above))
  | inr beside ↦ inr (ap (λ y. rows + y) beside.0, beside.1)
]

pair_lowered : (rows : ℕ) (a b : Pixel × Pixel) → IsPairBefore a b
    → IsPairBefore (lowered_pair rows a) (lowered_pair rows b)
pair_lowered rows a b before = elim before [
  | inl first ↦ inl (before_lowered rows a.0 b.0 first)
  | inr second ↦ inr (ap (lowered rows) second.0, before_lowered rows a.1 b.1 second.1)
]

all_lowered : (rows : ℕ) (a : Pixel × Pixel) (rest : List (Pixel × Pixel)) → AllByRecursion (IsPairBefore a) rest
    → AllByRecursion (IsPairBefore (lowered_pair rows a)) (map (lowered_pair rows) rest)
all_lowered rows a [] all = tt
all_lowered rows a (b ∷ rest) all = (pair_lowered rows a b all.0, all_lowered rows a rest all.1)

order_lowered : (rows : ℕ) (pairs : List (Pixel × Pixel)) → AreInPairOrder pairs
    → AreInPairOrder (map (lowered_pair rows) pairs)
order_lowered rows [] order = tt
order_lowered rows (a ∷ rest) order = (all_lowered rows a rest order.0, order_lowered rows rest order.1)

not_before_itself : (p q : Pixel) → p ≡ q → IsBefore p q → ⊥
not_before_itself p q same before =
    let column = ap (λ (r : Pixel). r.x) same in
    let row = ap (λ (r : Pixel). r.y) same in
    elim before [
      | inl above ↦ omega (arith, above, row)
      | inr beside ↦ omega (arith, beside.1, column)
    ]

one_way : (p q : Pixel) → IsBefore p q → IsBefore q p → ⊥
one_way p q before after = elim before [
  | inl above ↦ elim after [
    | inl below ↦ omega (arith, above, below)
    | inr beside ↦ omega (arith, above, beside.0)
  ]
  | inr left ↦ elim after [
    | inl below ↦ omega (arith, left.0, below)
    | inr right ↦ omega (arith, left.1, right.1)
  ]
]

pairs_one_way : (a b : Pixel × Pixel) → IsPairBefore a b → IsPairBefore b a → ⊥
pairs_one_way a b before after = elim before [
  | inl first ↦ elim after [
    | inl other ↦ one_way a.0 b.0 first other
    | inr same ↦ not_before_itself a.0 b.0 (sym same.0) first
  ]
  | inr second ↦ elim after [
    | inl other ↦ not_before_itself b.0 a.0 (sym second.0) other
    | inr same ↦ one_way a.1 b.1 second.1 same.1
  ]
]

-- ---- open edges

module _ (edges_open : EdgesAreOpen) (whole : Tiles) (above : ℕ) (band : Tiles) (tiled : IsTiled whole)
    (band_tiled : IsTiled band) (of : IsBandOf whole above band) (t : ℕ) (inner : IsInner whole above band t)
    (conn : Conn) (mask image band_mask band_image : Pixel → ℕ) (generation : ℕ)
    (same_mask : (p : Pixel) → IsInside band.width band.height p → mask (lowered (rows_above whole above) p) ≡
    band_mask p)
    (same_image : (p : Pixel) → IsInside band.width band.height p
    → image (lowered (rows_above whole above) p) ≡ band_image p) where
  abbrev rows : ℕ
  rows = rows_above whole above

  -- the tile as a sender of the whole, and of the band
  abbrev wide : Sender
  wide = sender_by whole conn mask image (tiles_above whole above + t) generation

  abbrev narrow : Sender
  narrow = sender_by band conn band_mask band_image t generation

  edge_lowered : (p q : Pixel) → IsOpenEdge narrow p q → IsOpenEdge wide (lowered rows p) (lowered rows q)
  edge_lowered p q edge =
      let home = tile_of_lowered whole above band tiled band_tiled of p in
      let away = tile_of_lowered whole above band tiled band_tiled of q in
      record {
        from_inside = inside_lowered whole above band tiled band_tiled of p edge.from_inside;
        from_tile = home ∙ ap (λ n. tiles_above whole above + n) edge.from_tile;
        to_inside = inside_lowered whole above band tiled band_tiled of q edge.to_inside;
        to_other = λ same. edge.to_other (omega (arith, same, away));
        beside = neighbours_lowered conn rows p q edge.beside;
        lower = omega (
          arith,
          edge.lower,
          same_image p edge.from_inside,
          same_image q edge.to_inside,
          same_mask q edge.to_inside,
        );
      }

  module _ (p q : Pixel) (edge : IsOpenEdge wide p q) where
    in_wide : IsInRect (rect_of whole (tiles_above whole above + t)) p
    in_wide =
        let within = lowered-within whole above band tiled band_tiled of t inner.within in
        ((each_pixel_in_one_tile whole p tiled edge.from_inside).1 (tiles_above whole above + t) within).1
        edge.from_tile

    in_lowered : (rows + (rect_of band t).y ≤ p.y) × (p.y < rows + (rect_of band t).y + (rect_of band t).h)
        × ((rect_of band t).x ≤ p.x) × (p.x < (rect_of band t).x + (rect_of band t).w)
    in_lowered =
        let found : IsInRect (lowered_rect rows (rect_of band t)) p =
        subst (λ r. IsInRect r p) (rect_of_lowered whole above band tiled band_tiled of t inner.within) in_wide in
        (found.2, found.3, found.0, found.1)

    in_narrow : IsInRect (rect_of band t) (raised rows p)
    in_narrow = (in_lowered.2, in_lowered.3, omega (arith, in_lowered.0), omega (arith, in_lowered.0, in_lowered.1))

    near_rows : (p.y ≤ q.y + 1) × (q.y ≤ p.y + 1)
    near_rows = let rows_near = (near conn p q edge.beside).1 in (omega (arith, rows_near), omega (arith, rows_near))

    below : rows ≤ q.y
    below = elim (not_at_top whole above band tiled band_tiled of t inner (raised rows p) in_narrow) [
      | inl none ↦ omega (arith, none)
      | inr later ↦ omega (arith, later, near_rows.0)
    ]

    ends : q.y < rows + band.height
    ends = elim (not_at_bottom whole above band tiled band_tiled of t inner (raised rows p) in_narrow) [
      | inl last ↦ omega (arith, last, edge.to_inside.1)
      | inr earlier ↦ omega (arith, earlier, near_rows.1, in_lowered.0)
    ]

    from_below : rows ≤ p.y
    from_below = omega (arith, in_lowered.0)

    pub from_is : lowered rows (raised rows p) ≡ p
    from_is = lowered-raised rows p from_below

    pub to_is : lowered rows (raised rows q) ≡ q
    to_is = lowered-raised rows q below

    inside_from : IsInside band.width band.height (raised rows p)
    inside_from =
        let fits = tiles_lie_inside band t band_tiled inner.within in
        (omega (arith, edge.from_inside.0, of.width), omega (arith, in_lowered.0, in_lowered.1, fits.rows))

    inside_to : IsInside band.width band.height (raised rows q)
    inside_to = (omega (arith, edge.to_inside.0, of.width), omega (arith, ends, below))

    pub edge_raised : IsOpenEdge narrow (raised rows p) (raised rows q)
    edge_raised =
        let home = tile_of_lowered whole above band tiled band_tiled of (raised rows p) in
        let away = tile_of_lowered whole above band tiled band_tiled of (raised rows q) in
        let home_same : tile_of whole (lowered rows (raised rows p)) ≡ tile_of whole p = ap (tile_of whole) from_is in
        let away_same : tile_of whole (lowered rows (raised rows q)) ≡ tile_of whole q = ap (tile_of whole) to_is in
        let image_from = ap image (sym from_is) ∙ same_image (raised rows p) inside_from in
        let image_to = ap image (sym to_is) ∙ same_image (raised rows q) inside_to in
        let mask_to = ap mask (sym to_is) ∙ same_mask (raised rows q) inside_to in
        record {
          from_inside = inside_from;
          from_tile = omega (arith, home, home_same, edge.from_tile);
          to_inside = inside_to;
          to_other = λ same. edge.to_other (omega (arith, same, away, away_same));
          beside = neighbours_raised conn rows p q from_below below edge.beside;
          lower = omega (arith, edge.lower, image_from, image_to, mask_to);
        }

  -- ---- hints

  hint_lowered : (p q : Pixel) → IsInside band.width band.height p → IsInside band.width band.height q
      → hint_to wide (wide.image (lowered rows p)) (lowered rows q)
      ≡ lowered_hint whole above (hint_to narrow (narrow.image p) q)
  hint_lowered p q inside_p inside_q = λ i. record {
    from = tiles_above whole above + t;
    from_generation = generation;
    to_pixel = lowered rows q;
    value = min (same_image p inside_p i) (same_mask q inside_q i);
  }

  hints_lowered : (pairs : List (Pixel × Pixel)) → ((a : Pixel × Pixel) → Contains pairs a → IsOpenEdge narrow a.0 a.1)
      → map (λ a. hint_to wide (wide.image a.0) a.1) (map (lowered_pair rows) pairs)
      ≡ map (lowered_hint whole above) (map (λ a. hint_to narrow (narrow.image a.0) a.1) pairs)
  hints_lowered [] edges = refl
  hints_lowered (a ∷ rest) edges =
      let edge = edges a (here a rest a refl) in
      let first = hint_lowered a.0 a.1 edge.from_inside edge.to_inside in
      let others = hints_lowered rest (λ b there. edges b (later a rest b there)) in
      λ i. first i ∷ others i

  pub edges_lowered : open_edges wide ≡ map (lowered_hint whole above) (open_edges narrow)
  edges_lowered =
      let (many, wide_are) = edges_open wide tiled (lowered-within whole above band tiled band_tiled of t inner.within)
      in
      let (pairs, narrow_are) = edges_open narrow band_tiled inner.within in
      let same : many ≡ map (lowered_pair rows) pairs =
      one_ordered IsPairBefore AreInPairOrder pairs_one_way (λ a rest order. order) many
      (map (lowered_pair rows) pairs) wide_are.order (order_lowered rows pairs narrow_are.order) (λ z. (
        λ there.
            let edge = (wide_are.edges z.0 z.1).0 there in
            let found = (narrow_are.edges (raised rows z.0) (raised rows z.1)).1 (edge_raised z.0 z.1 edge) in
            let both : lowered_pair rows (raised rows z.0, raised rows z.1) ≡ z =
            λ i. (from_is z.0 z.1 edge i, to_is z.0 z.1 edge i) in
            subst (λ w. Contains (map (lowered_pair rows) pairs) w) both
            (map_has (lowered_pair rows) pairs (raised rows z.0, raised rows z.1) found),
        λ there.
            let (a, found, is) = in_map (lowered_pair rows) pairs z there in
            let edge = edge_lowered a.0 a.1 ((narrow_are.edges a.0 a.1).0 found) in
            subst (λ w. Contains many w) is ((wide_are.edges (lowered rows a.0) (lowered rows a.1)).1 edge),
      )) in
      wide_are.hints ∙ ap (map (λ a. hint_to wide (wide.image a.0) a.1)) same
      ∙ hints_lowered pairs (λ a there. (narrow_are.edges a.0 a.1).0 there)
      ∙ ap (map (lowered_hint whole above)) (sym narrow_are.hints)
