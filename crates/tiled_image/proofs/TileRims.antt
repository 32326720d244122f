-- Rims are still an image's where the rim of a tile changes as the image does.
use Rattle.std.proofs.Common.{◌≡◌, ℕ, ◌+◌, ◌<◌, ◌≤◌, ◌⊎◌, List, length, sym, subst, ◌∙◌, inl, inr}
use Rattle.std.proofs.Common.{arith, refl, ap}
use Rattle.std.specs.Prelude.{⊤}
use Rattle.std.proofs.lemmas.Bool.{both_ways, cases_Bool, cases_eq, cases_lt}
use Rattle.grid_core.specs.declared.pixel.Pixel.{Pixel}
use Rattle.grid_core.specs.Raster.{Raster, IsInside, index_of, value_at, with_value}
use Rattle.grid_core.specs.Rects.{IsInRect, IsPart}
use Rattle.grid_core.specs.Tiles.{Tiles, IsTiled, count_of, rect_of, tile_of}
use Rattle.grid_core.proofs.{Cells.set_is_read, Cells.set_keeps_others, Pixels.same_pixel_or_not}
use Rattle.border_queues.specs.TileWork.{TileWork, IsLeast, work_of}
use Rattle.tile_work.specs.WorkTable.{IsDirtyTile}
use Rattle.tiled_image.specs.{declared.rims.Edge.Edge, Shown.place_in}
use Rattle.tiled_image.specs.declared.rims.Edge.TheVariants as edges
use Rattle.tiled_image.specs.Rims.{AreRimsOf, AreTaken, IsRimChanged, IsRimOf, IsStripChanged, order_of, rank_of}
use Rattle.tiled_image.specs.Rims.{rim_value, start_of, strip_of}
use Rattle.tiled_image.specs.{RaisedTiles.LiesOnOne, Shown.value_in, TiledImage.IsOfTiling}
use Rattle.tiled_image.proofs.{KeptImages.inside_image, Places.value_in_part, RenewedTiles.HoldsBelow}
use Rattle.tiled_image.proofs.Strips.{in_strip_room, other_order, outside_strip, pixel_of_strip, same_edge}
use Rattle.tiled_image.proofs.Strips.{strip_in_tile}

module _ (tiling : Tiles) (tiled : IsTiled tiling) where
  -- ---- four strips

  module _ (tile : ℕ) (within : tile < count_of tiling) (P : Pixel → Type 0) (value : Pixel → ℕ) where
    -- another strip stays as it is
    past : (edge : Edge) (old new : List ℕ) → IsStripChanged tiling tile edge P value old new → (t : ℕ)
        → t < count_of tiling → (e : Edge) → (order_of t e ≡ order_of tile edge → ⊥) → (p : Pixel)
        → IsInRect (strip_of tiling t e) p → rim_value tiling new t e p ≡ rim_value tiling old t e p
    past edge old new changed t in_t e differ p inside =
        let k : ℕ = index_of (strip_of tiling t e).w (place_in (strip_of tiling t e) p) in
        elim (outside_strip tiling.side (order_of tile edge) (order_of t e) k differ
        (in_strip_room tiling t tiled in_t e p inside)) [
          | inl before ↦ changed.ahead (start_of tiling t e + k) before
          | inr after ↦ changed.behind (start_of tiling t e + k) after
        ]

    pub beside : (edge : Edge) (old new : List ℕ) → IsStripChanged tiling tile edge P value old new → (e : Edge)
        → (rank_of e ≡ rank_of edge → ⊥) → (p : Pixel) → IsInRect (strip_of tiling tile e) p
        → rim_value tiling new tile e p ≡ rim_value tiling old tile e p
    beside edge old new changed e differ p inside =
        past edge old new changed tile within e (λ same. differ (omega (arith, same))) p inside

    module _ (start top bottom left end : List ℕ) (top_done : IsStripChanged tiling tile edges.Top P value start top)
        (bottom_done : IsStripChanged tiling tile edges.Bottom P value top bottom)
        (left_done : IsStripChanged tiling tile edges.Left P value bottom left)
        (right_done : IsStripChanged tiling tile edges.Right P value left end) where
      by_bottom : (e : Edge) → (rank_of e ≡ 1 → ⊥) → (p : Pixel) → IsInRect (strip_of tiling tile e) p
          → rim_value tiling bottom tile e p ≡ rim_value tiling top tile e p
      by_bottom = beside edges.Bottom top bottom bottom_done

      by_left : (e : Edge) → (rank_of e ≡ 2 → ⊥) → (p : Pixel) → IsInRect (strip_of tiling tile e) p
          → rim_value tiling left tile e p ≡ rim_value tiling bottom tile e p
      by_left = beside edges.Left bottom left left_done

      by_right : (e : Edge) → (rank_of e ≡ 3 → ⊥) → (p : Pixel) → IsInRect (strip_of tiling tile e) p
          → rim_value tiling end tile e p ≡ rim_value tiling left tile e p
      by_right = beside edges.Right left end right_done

      by_top : (e : Edge) → (rank_of e ≡ 0 → ⊥) → (p : Pixel) → IsInRect (strip_of tiling tile e) p
          → rim_value tiling top tile e p ≡ rim_value tiling start tile e p
      by_top = beside edges.Top start top top_done

      four_here : (e : Edge) (p : Pixel) → IsInRect (strip_of tiling tile e) p → P p
          → rim_value tiling end tile e p ≡ value p
      four_here edges.Top p inside holds =
          by_right edges.Top (λ same. omega (arith, same)) p inside
          ∙ by_left edges.Top (λ same. omega (arith, same)) p inside
          ∙ by_bottom edges.Top (λ same. omega (arith, same)) p inside
          ∙ top_done.here p inside holds
      four_here edges.Bottom p inside holds =
          by_right edges.Bottom (λ same. omega (arith, same)) p inside
          ∙ by_left edges.Bottom (λ same. omega (arith, same)) p inside
          ∙ bottom_done.here p inside holds
      four_here edges.Left p inside holds =
          by_right edges.Left (λ same. omega (arith, same)) p inside ∙ left_done.here p inside holds
      four_here edges.Right p inside holds = right_done.here p inside holds

      four_kept : (e : Edge) (p : Pixel) → IsInRect (strip_of tiling tile e) p → (P p → ⊥)
          → rim_value tiling end tile e p ≡ rim_value tiling start tile e p
      four_kept edges.Top p inside spared =
          by_right edges.Top (λ same. omega (arith, same)) p inside
          ∙ by_left edges.Top (λ same. omega (arith, same)) p inside
          ∙ by_bottom edges.Top (λ same. omega (arith, same)) p inside
          ∙ top_done.kept p inside spared
      four_kept edges.Bottom p inside spared =
          by_right edges.Bottom (λ same. omega (arith, same)) p inside
          ∙ by_left edges.Bottom (λ same. omega (arith, same)) p inside
          ∙ bottom_done.kept p inside spared
          ∙ by_top edges.Bottom (λ same. omega (arith, same)) p inside
      four_kept edges.Left p inside spared =
          by_right edges.Left (λ same. omega (arith, same)) p inside
          ∙ left_done.kept p inside spared
          ∙ by_bottom edges.Left (λ same. omega (arith, same)) p inside
          ∙ by_top edges.Left (λ same. omega (arith, same)) p inside
      four_kept edges.Right p inside spared =
          right_done.kept p inside spared
          ∙ by_left edges.Right (λ same. omega (arith, same)) p inside
          ∙ by_bottom edges.Right (λ same. omega (arith, same)) p inside
          ∙ by_top edges.Right (λ same. omega (arith, same)) p inside

      pub four_changed : IsRimChanged tiling tile P value start end
      four_changed = record {
        count = right_done.count ∙ left_done.count ∙ bottom_done.count ∙ top_done.count;
        here = four_here;
        kept = four_kept;
        others = λ t in_t other e p inside.
            past edges.Right left end right_done t in_t e (other_order t tile e edges.Right other) p inside
            ∙ past edges.Left bottom left left_done t in_t e (other_order t tile e edges.Left other) p inside
            ∙ past edges.Bottom top bottom bottom_done t in_t e (other_order t tile e edges.Bottom other) p inside
            ∙ past edges.Top start top top_done t in_t e (other_order t tile e edges.Top other) p inside;
      }

  -- ---- one strip

  -- a pixel that lies on one edge alone changes in that strip alone
  pub one_changed : (tile : ℕ) → tile < count_of tiling → (edge : Edge) (p : Pixel) (v : ℕ) (old new : List ℕ)
      → LiesOnOne (rect_of tiling tile) edge p → IsStripChanged tiling tile edge (λ q. q ≡ p) (λ _. v) old new
      → IsRimChanged tiling tile (λ q. q ≡ p) (λ _. v) old new
  one_changed tile within edge p v old new on_one changed = record {
    count = changed.count;
    here = λ e q inside is.
        let at_p = subst (λ (r : Pixel). IsInRect (strip_of tiling tile e) r) is inside in
        let same : e ≡ edge = on_one e at_p in
        subst (λ (n : Edge). rim_value tiling new tile n q ≡ v) (sym same)
        (changed.here q (subst (λ (n : Edge). IsInRect (strip_of tiling tile n) q) same inside) is);
    kept = λ e q inside spared. elim (cases_eq (rank_of e) (rank_of edge)) [
      | inl rank ↦
          let same : e ≡ edge = same_edge e edge rank in
          subst (λ (n : Edge). rim_value tiling new tile n q ≡ rim_value tiling old tile n q) (sym same)
          (changed.kept q (subst (λ (n : Edge). IsInRect (strip_of tiling tile n) q) same inside) spared)
      | inr differ ↦ beside tile within (λ r. r ≡ p) (λ _. v) edge old new changed e differ q inside
    ];
    others = λ t in_t other e q inside.
        past tile within (λ r. r ≡ p) (λ _. v) edge old new changed t in_t e (other_order t tile e edge other) q inside;
  }

  -- ---- one tile of an image

  module _ (tile : ℕ) (within : tile < count_of tiling) (P : Pixel → Type 0) (value : Pixel → ℕ)
      (old new : List ℕ) (changed : IsRimChanged tiling tile P value old new) where
    pub changed_rims : (before after : Raster) → AreRimsOf tiling before old
        → ((p : Pixel) → P p ⊎ (P p → ⊥))
        → ((p : Pixel) → IsInRect (rect_of tiling tile) p → P p → value p ≡ value_at after p)
        → ((p : Pixel) → IsInside tiling.width tiling.height p → (tile_of tiling p ≡ tile → P p → ⊥)
        → value_at after p ≡ value_at before p)
        → AreRimsOf tiling after new
    changed_rims before after rims decide values same =
        let own_rim : IsRimOf tiling after new tile = λ e p inside. elim (decide p) [
          | inl holds ↦
              changed.here e p inside holds
              ∙ values p (strip_in_tile tiling tile tiled within e p inside) holds
          | inr spared ↦
              changed.kept e p inside spared ∙ rims.values tile within e p inside
              ∙ sym (same p (pixel_of_strip tiling tile tiled within e p inside).0 (λ own holds. spared holds))
        ] in
        record {
          count = changed.count ∙ rims.count;
          values = λ t in_t. elim (cases_eq t tile) [
            | inl is ↦ subst (λ n. IsRimOf tiling after new n) (sym is) own_rim
            | inr other ↦ λ e p inside.
                let (in_tiling, own) = pixel_of_strip tiling t tiled in_t e p inside in
                changed.others t in_t other e p inside ∙ rims.values t in_t e p inside
                ∙ sym (same p in_tiling (λ is holds. other (sym own ∙ is)))
          ];
        }

  -- ---- some tiles of an image

  pub none_taken : (P : ℕ → Type 0) (image : Raster) (rims : List ℕ) → ((t : ℕ) → P t → ⊥)
      → AreTaken P tiling image rims rims
  none_taken P image rims none = record {
    count = refl;
    taken = λ t in_t holds. absurd (none t holds);
    others = λ t in_t spared e p inside. refl;
  }

  -- one tile more
  pub one_more_taken : (P Q : ℕ → Type 0) (image : Raster) (value : Pixel → ℕ) (tile : ℕ) (old mid new : List ℕ)
      → tile < count_of tiling → AreTaken P tiling image old mid
      → IsRimChanged tiling tile (λ _. ⊤) value mid new
      → ((p : Pixel) → IsInRect (rect_of tiling tile) p → value p ≡ value_at image p) → Q tile
      → ((t : ℕ) → P t → Q t) → ((t : ℕ) → Q t → (t ≡ tile → ⊥) → P t) → AreTaken Q tiling image old new
  one_more_taken P Q image value tile old mid new within so_far changed values own more less = record {
    count = changed.count ∙ so_far.count;
    taken = λ t in_t holds. elim (cases_eq t tile) [
      | inl is ↦
          subst (λ n. IsRimOf tiling image new n) (sym is) (λ e p inside.
          changed.here e p inside tt ∙ values p (strip_in_tile tiling tile tiled within e p inside))
      | inr other ↦ λ e p inside.
          changed.others t in_t other e p inside ∙ so_far.taken t in_t (less t holds other) e p inside
    ];
    others = λ t in_t spared e p inside.
        changed.others t in_t (λ is. spared (subst Q (sym is) own)) e p inside
        ∙ so_far.others t in_t (λ had. spared (more t had)) e p inside;
  }

  -- where none is left, all are taken over
  pub all_taken : (P : ℕ → Type 0) (image : Raster) (next : ℕ) (old new : List ℕ)
      → AreTaken (HoldsBelow P next) tiling image old new → ((n : ℕ) → next ≤ n → P n → ⊥)
      → AreTaken P tiling image old new
  all_taken P image next old new so_far none = record {
    count = so_far.count;
    taken = λ t in_t holds. elim (cases_lt t next) [
      | inl earlier ↦ so_far.taken t in_t (holds, earlier)
      | inr from ↦ absurd (none t from holds)
    ];
    others = λ t in_t spared. so_far.others t in_t (λ was. spared was.0);
  }

  -- the next one that is least
  pub least_taken : (P : ℕ → Type 0) (image : Raster) (next tile : ℕ) (old mid new : List ℕ)
      → IsLeast (λ n. (next ≤ n) × P n) tile → tile < count_of tiling
      → AreTaken (HoldsBelow P next) tiling image old mid
      → IsRimChanged tiling tile (λ _. ⊤) (value_at image) mid new
      → AreTaken (HoldsBelow P (tile + 1)) tiling image old new
  least_taken P image next tile old mid new least within so_far changed =
      one_more_taken (HoldsBelow P next) (HoldsBelow P (tile + 1)) image (value_at image) tile old mid new within so_far
      changed (λ p inside. refl) (least.0.1, omega arith)
      (λ t was. (was.0, omega (arith, was.1, least.0.0)))
      (λ t holds other. elim (cases_lt t next) [
        | inl earlier ↦ (holds.0, earlier)
        | inr from ↦ absurd (omega (arith, holds.1, other, least.1 t (from, holds.0)))
      ])

  -- the image changes in these tiles alone
  pub taken_rims : (P : ℕ → Type 0) (before after : Raster) (old new : List ℕ) → AreRimsOf tiling before old
      → AreTaken P tiling after old new → ((t : ℕ) → P t ⊎ (P t → ⊥))
      → ((p : Pixel) → IsInside tiling.width tiling.height p → (P (tile_of tiling p) → ⊥)
      → value_at after p ≡ value_at before p)
      → AreRimsOf tiling after new
  taken_rims P before after old new rims taken decide same = record {
    count = taken.count ∙ rims.count;
    values = λ t in_t. elim (decide t) [
      | inl holds ↦ taken.taken t in_t holds
      | inr spared ↦ λ e p inside.
          let (in_tiling, own) = pixel_of_strip tiling t tiled in_t e p inside in
          taken.others t in_t spared e p inside ∙ rims.values t in_t e p inside
          ∙ sym (same p in_tiling (λ holds. spared (subst P own holds)))
    ];
  }

  -- ---- changes of an image in tiles

  -- one pixel gets another value
  pub set_rims : (tile v : ℕ) (p : Pixel) (whole : Raster) (old new : List ℕ) → tile < count_of tiling
      → IsOfTiling tiling whole → IsInside tiling.width tiling.height p → tile_of tiling p ≡ tile
      → IsRimChanged tiling tile (λ q. q ≡ p) (λ _. v) old new → AreRimsOf tiling whole old
      → AreRimsOf tiling (with_value whole p v) new
  set_rims tile v p whole old new within of_tiling inside own changed rims =
      let p_in = inside_image tiling whole of_tiling p inside in
      changed_rims tile within (λ q. q ≡ p) (λ _. v) old new changed whole (with_value whole p v) rims
      (λ q. same_pixel_or_not q p)
      (λ q in_rect is.
      sym (ap (λ (r : Pixel). value_at (with_value whole p v) r) is
      ∙ set_is_read whole p v of_tiling.sized.filled p_in))
      (λ q in_tiling other.
      set_keeps_others whole p q v p_in (inside_image tiling whole of_tiling q in_tiling)
      (λ is. other (ap (tile_of tiling) is ∙ own) is))

  -- a part is put in
  pub put_rims : (tile : ℕ) (part before after : Raster) (old new : List ℕ) → tile < count_of tiling
      → IsRimChanged tiling tile (λ _. ⊤) (value_in (rect_of tiling tile) part) old new
      → IsPart (rect_of tiling tile) after part
      → ((p : Pixel) → IsInside tiling.width tiling.height p → (tile_of tiling p ≡ tile → ⊥)
      → value_at after p ≡ value_at before p)
      → AreRimsOf tiling before old → AreRimsOf tiling after new
  put_rims tile part before after old new within changed is_part same rims =
      changed_rims tile within (λ _. ⊤) (value_in (rect_of tiling tile) part) old new changed before after rims
      (λ p. inl tt) (λ p in_rect holds. value_in_part (rect_of tiling tile) after part is_part p in_rect)
      (λ p inside other. same p inside (λ own. other own tt))

-- a tile is dirty or not
pub dirty_or_not : (works : List TileWork) (t : ℕ) → IsDirtyTile works t ⊎ (IsDirtyTile works t → ⊥)
dirty_or_not works t = elim (cases_lt t (length works)) [
  | inl within ↦ elim (cases_Bool (work_of works t).dirty) [
    | inl on ↦ inl (within, on)
    | inr off ↦ inr (λ dirty. both_ways (work_of works t).dirty off dirty.1)
  ]
  | inr past ↦ inr (λ dirty. omega (arith, past, dirty.0))
]
