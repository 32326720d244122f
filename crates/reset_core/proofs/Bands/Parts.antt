-- Bands as they are stored: which of their tiles are inner ones, one sweep more, and all bands together.
use Rattle.std.proofs.Common.{◌≡◌, ℕ, ◌+◌, ◌-◌, ◌*◌, ◌^◌, ◌<◌, ◌≤◌, ◌⊎◌, ◌↔◌, inl, inr, refl, sym, ap, ◌∙◌, subst}
use Rattle.std.proofs.Common.{arith, true, List, [], ◌∷◌, ◌++◌, length, take, drop, set, Contains}
use Rattle.std.proofs.lemmas.List.{length-append, length-take, take-append-drop, take_at, drop_at}
use Rattle.std.proofs.lemmas.Bool.{cases_lt}
use Rattle.std.proofs.lemmas.Nat.{div_below, le-div, mul-le}
use Rattle.grid_core.specs.declared.bounds.Bounds.{Bounds}
use Rattle.grid_core.specs.Tiles.{Tiles, IsTiled, columns_of, rows_of, count_of, row_of}
use Rattle.grid_core.proofs.Spans.{some_span, spans-le}
use Rattle.grid_core.proofs.Tilings.{some_side, some_columns}
use Rattle.border_queues.specs.{OpenEdges.room_for_edges, Waiting.places}
use Rattle.core_rules.specs.Work.{Core, tiling}
use Rattle.tile_work.specs.{TileSet.HasGained, WorkTable.CanBeTaken}
use Rattle.tile_work.proofs.TileSetUnions.{HasGained-one, HasGained-none}
use Rattle.reset_core.specs.declared.replica.bands.Band.{Band}
use Rattle.reset_core.specs.Bands.{AreSomewhere, IsSomewhere, IsBandOf, IsInner, IsSweptInBand, AreSweptInBand}
use Rattle.reset_core.specs.Bands.{AreAllSwept}
use Rattle.reset_core.specs.BandParts.{strip_of, strips_of, cells_in, IsReady, IsCounted, IsBandSwept}
use Rattle.reset_core.specs.BandParts.{AreTilesSwept, AreBandsSwept}
use Rattle.reset_core.proofs.Bands.Inside.{none_out}

-- ---- inner tiles

pub some_rows : (band : Tiles) → IsTiled band → 0 < rows_of band
some_rows band tiled = some_span band.height band.side (some_side band tiled) tiled.size.some_height

-- there is one row of tiles at least
pub columns-within : (band : Tiles) → IsTiled band → columns_of band ≤ count_of band
columns-within band tiled =
    let long = mul-le (columns_of band) 1 (columns_of band) (rows_of band) (omega arith) (some_rows band tiled) in
    omega (arith, long)

-- the tile is not in the first row, or not in the last
below_first_row : (band : Tiles) (t : ℕ) → IsTiled band → (columns_of band ≤ t) ↔ (0 < row_of band t)
below_first_row band t tiled = (
  λ long. le-div 1 t (columns_of band) (some_columns band tiled) (omega (arith, long)),
  λ row. elim (cases_lt t (columns_of band)) [
    | inl short ↦
        let none : row_of band t < 1 =
        div_below t (columns_of band) 1 (some_columns band tiled) (omega (arith, short)) in
        absurd (omega (arith, none, row))
    | inr long ↦ long
  ],
)

above_last_row : (band : Tiles) (t : ℕ) → IsTiled band
    → (t < count_of band - columns_of band) ↔ (row_of band t + 1 < rows_of band)
above_last_row band t tiled =
    let columns = columns_of band in
    let rows = rows_of band in
    let some = some_rows band tiled in
    let one_less : rows ≡ (rows - 1) + 1 = omega (arith, some) in
    let cut : columns * rows ≡ (rows - 1) * columns + columns = ap (λ n. columns * n) one_less ∙ omega arith in (
      λ short.
          let row : row_of band t < rows - 1 =
          div_below t columns (rows - 1) (some_columns band tiled) (omega (arith, short, cut)) in
          omega (arith, row),
      λ row. elim (cases_lt t (count_of band - columns)) [
        | inl short ↦ short
        | inr long ↦
            let last : rows - 1 ≤ row_of band t =
            le-div (rows - 1) t columns (some_columns band tiled) (omega (arith, long, cut)) in
            absurd (omega (arith, last, row))
      ],
    )

-- the tiles from the first one on and before the end are the inner ones
pub inner_between : (whole : Tiles) (above : ℕ) (band : Tiles) (first end t : ℕ) → IsTiled band
    → ((above ≡ 0) × (first ≡ 0)) ⊎ ((0 < above) × (first ≡ columns_of band))
    → ((above * whole.side + band.height ≡ whole.height) × (end ≡ count_of band))
    ⊎ (((above * whole.side + band.height ≡ whole.height) → ⊥) × (end ≡ count_of band - columns_of band))
    → ((first ≤ t) × (t < end)) ↔ IsInner whole above band t
inner_between whole above band first end t tiled top bottom =
    let few = columns-within band tiled in (
      λ between. record {
        within = elim bottom [
          | inl (_, is) ↦ omega (arith, between.1, is)
          | inr (_, is) ↦ omega (arith, between.1, is, few)
        ];
        top = elim top [
          | inl (none, _) ↦ inl none
          | inr (_, is) ↦ inr ((below_first_row band t tiled).0 (omega (arith, between.0, is)))
        ];
        bottom = elim bottom [
          | inl (last, _) ↦ inl last
          | inr (_, is) ↦ inr ((above_last_row band t tiled).0 (omega (arith, between.1, is)))
        ];
      },
      λ inner. (
        elim top [
          | inl (_, is) ↦ omega (arith, is)
          | inr (some, is) ↦ elim inner.top [
            | inl none ↦ absurd (omega (arith, none, some))
            | inr row ↦ omega (arith, is, (below_first_row band t tiled).1 row)
          ]
        ],
        elim bottom [
          | inl (_, is) ↦ omega (arith, is, inner.within)
          | inr (more, is) ↦ elim inner.bottom [
            | inl last ↦ absurd (more last)
            | inr row ↦ omega (arith, is, (above_last_row band t tiled).1 row)
          ]
        ],
      ),
    )

-- ---- one sweep more

-- after some tiles one more is swept
pub swept_more : (whole : Tiles) (above : ℕ) (before : Core) (table : List Bounds) (ts : List ℕ) (now : Core)
    (middle : List Bounds) (t : ℕ) (after : Core) (new : List Bounds)
    → AreSweptInBand whole above before table ts now middle → IsSweptInBand whole above now middle t after new
    → AreSweptInBand whole above before table (ts ++ t ∷ []) after new
swept_more whole above before table [] now middle t after new none one =
    let from_table : IsSweptInBand whole above now table t after new =
    subst (λ b. IsSweptInBand whole above now b t after new) none.1 one in
    (after, new, subst (λ core. IsSweptInBand whole above core table t after new) none.0 from_table, (refl, refl))
swept_more whole above before table (first ∷ ts) now middle t after new some one =
    let (next, between, swept, rest) = some in
    (next, between, swept, swept_more whole above next between ts now middle t after new rest one)

-- the band, of which nothing has been swept yet
pub none_swept : (whole : Tiles) (above : ℕ) (mask : List ℕ) (band : Band) (image : List ℕ)
    → AreTilesSwept whole above mask band image band image
none_swept whole above mask band image = record {
  ts = [];
  swept = (refl, refl);
  counted = record {
    gained = HasGained-none band.swept;
    jobs = omega arith;
    at_most = λ few. few;
    conn = refl;
    tiling = refl;
    limit = refl;
    least = refl;
    enough = omega arith;
  };
  cells = refl;
}

-- once one tile more is swept and counted
pub one_swept_more : (whole : Tiles) (above : ℕ) (mask : List ℕ) (before : Band) (old : List ℕ) (now : Band)
    (image : List ℕ) (t : ℕ) (after : Band) (new : List ℕ) → AreTilesSwept whole above mask before old now image
    → IsSweptInBand whole above (strip_of now mask image).core now.bounds t (strip_of after mask new).core after.bounds
    → length new ≡ length image → t < length now.swept → after.swept ≡ set now.swept t true
    → after.jobs ≡ now.jobs + 1 → now.jobs < now.limit → after.conn ≡ now.conn → after.tiling ≡ now.tiling
    → after.limit ≡ now.limit → after.least ≡ now.least → places now.told ≤ places after.told
    → AreTilesSwept whole above mask before old after new
one_swept_more whole above mask before old now image t after new so_far one cells within set_is jobs few conn tiling
    limit least enough =
    let counted = so_far.counted in
    record {
      ts = so_far.ts ++ t ∷ [];
      swept =
          swept_more whole above (strip_of before mask old).core before.bounds so_far.ts (strip_of now mask image).core
          now.bounds t (strip_of after mask new).core after.bounds so_far.swept one;
      counted = record {
        gained =
            subst (HasGained before.swept (Contains (so_far.ts ++ t ∷ []))) (sym set_is)
            (HasGained-one before.swept now.swept so_far.ts t within counted.gained);
        jobs = omega (arith, counted.jobs, jobs, length-append so_far.ts (t ∷ []));
        at_most = λ few_before. omega (arith, few, jobs, counted.limit);
        conn = conn ∙ counted.conn;
        tiling = tiling ∙ counted.tiling;
        limit = limit ∙ counted.limit;
        least = least ∙ counted.least;
        enough = omega (arith, enough, counted.enough);
      };
      cells = cells ∙ so_far.cells;
    }

-- the band is as ready as before
pub still_ready : (before : Band) (ts : List ℕ) (after : Band) → IsReady before → IsCounted before ts after
    → IsReady after
still_ready before ts after ready counted = record {
  enough =
      subst (λ tiles. room_for_edges tiles ≤ places after.told) (sym counted.tiling)
      (omega (arith, ready.enough, counted.enough));
  count = counted.gained.count ∙ ready.count ∙ ap count_of (sym counted.tiling);
}

-- the band is swept, where no tile from the first one on and before the end can be taken, or it may sweep no more, or
-- does not have to
pub swept_to_the_end : (whole : Tiles) (above : ℕ) (mask : List ℕ) (before : Band) (old : List ℕ) (now : Band)
    (image : List ℕ) (first end : ℕ) → AreTilesSwept whole above mask before old now image
    → IsSomewhere whole above (strip_of now mask image)
    → ((t : ℕ) → ((first ≤ t) × (t < end)) ↔ IsInner whole above before.tiling t)
    → (now.jobs < now.limit → now.jobs < now.least → (t : ℕ) → first ≤ t → t < end → CanBeTaken now.work t → ⊥)
    → IsBandSwept whole above mask before old now image
swept_to_the_end whole above mask before old now image first end so_far somewhere inner none = record {
  tiles = so_far;
  none_left = λ more few t is_inner dirty.
      let between = (inner t).1 is_inner in
      none more few t between.0 between.1 (dirty, none_out whole above (strip_of now mask image) somewhere t dirty.0);
}

-- ---- all bands

-- the rows of tiles above a band and in it are no more than the rows of pixels of the whole
rows-within : (whole : Tiles) (above : ℕ) (band : Tiles) → IsTiled band → IsBandOf whole above band
    → above + rows_of band ≤ whole.height
rows-within whole above band tiled of =
    let some = some_side band tiled in
    let rows = spans-le band.height band.side some in
    let long = mul-le above 1 above whole.side (omega arith) (omega (arith, some, of.side)) in
    omega (arith, rows, long, of.within)

-- so the row of tiles below the first band can be counted
pub few_rows : (whole : Tiles) (above : ℕ) (mask image : List ℕ) (bands : List Band) (band : Band) (rest : List Band)
    → bands ≡ band ∷ rest → AreSomewhere whole above (strips_of mask image bands)
    → above + rows_of band.tiling < 2 ^ 32
few_rows whole above mask image bands band rest parts all =
    let somewhere =
    (subst (λ (list : List Band). AreSomewhere whole above (strips_of mask image list)) parts all).0 in
    let few = rows-within (tiling somewhere.whole) above band.tiling somewhere.tiled somewhere.is.tiles in
    omega (arith, few, somewhere.sound.shape.tiled.size.height_within)

-- the first band stands where it is, with its parts of mask and image
pub first_somewhere : (whole : Tiles) (above : ℕ) (mask image : List ℕ) (bands : List Band) (band : Band)
    (rest : List Band) (n : ℕ) (mask_here here : List ℕ) → bands ≡ band ∷ rest → n ≡ cells_in band
    → mask_here ≡ take n mask → here ≡ take n image → AreSomewhere whole above (strips_of mask image bands)
    → IsSomewhere whole above (strip_of band mask_here here)
first_somewhere whole above mask image bands band rest n mask_here here parts cells mask_is here_is all =
    let first = (subst (λ (list : List Band). AreSomewhere whole above (strips_of mask image list)) parts all).0 in
    subst (λ (p : List ℕ × List ℕ). IsSomewhere whole above (strip_of band p.0 p.1))
    (λ i. (
      (ap (λ k. take k mask) (sym cells) ∙ sym mask_is) i,
      (ap (λ k. take k image) (sym cells) ∙ sym here_is) i,
    )) first

-- and so do those below it
pub rest_somewhere : (whole : Tiles) (above : ℕ) (mask image : List ℕ) (bands : List Band) (band : Band)
    (rest : List Band) (n rows : ℕ) (mask_below below : List ℕ) → bands ≡ band ∷ rest → n ≡ cells_in band
    → rows ≡ rows_of band.tiling → mask_below ≡ drop n mask → below ≡ drop n image
    → AreSomewhere whole above (strips_of mask image bands)
    → AreSomewhere whole (above + rows) (strips_of mask_below below rest)
rest_somewhere whole above mask image bands band rest n rows mask_below below parts cells rows_are mask_is below_is all =
    let others = (subst (λ (list : List Band). AreSomewhere whole above (strips_of mask image list)) parts all).1 in
    subst (λ (p : ℕ × List ℕ × List ℕ). AreSomewhere whole (above + p.0) (strips_of p.1 p.2 rest))
    (λ i. (
      sym rows_are i,
      (ap (λ k. drop k mask) (sym cells) ∙ sym mask_is) i,
      (ap (λ k. drop k image) (sym cells) ∙ sym below_is) i,
    )) others

-- the image has the cells of the first band
pub first_within : (whole : Tiles) (above : ℕ) (mask image : List ℕ) (bands : List Band) (band : Band)
    (rest : List Band) → bands ≡ band ∷ rest → AreSomewhere whole above (strips_of mask image bands)
    → cells_in band ≤ length image
first_within whole above mask image bands band rest parts all =
    let first = (subst (λ (list : List Band). AreSomewhere whole above (strips_of mask image list)) parts all).0 in
    let filled : length (take (cells_in band) image) ≡ cells_in band = first.is.fits.filled in
    omega (arith, filled, length-take (cells_in band) image)

-- the first band and those below it were swept, each in its part of mask and image
pub swept_parts : (whole : Tiles) (above : ℕ) (mask old : List ℕ) (bands : List Band) (band : Band) (rest : List Band)
    (n rows : ℕ) (mask_here mask_below here below new : List ℕ) (after : Band) (new_below : List ℕ)
    (others : List Band) → bands ≡ band ∷ rest → n ≡ cells_in band → rows ≡ rows_of band.tiling
    → mask_here ≡ take n mask → mask_below ≡ drop n mask → here ≡ take n old → below ≡ drop n old → length new ≡ n
    → IsBandSwept whole above mask_here band here after new
    → AreBandsSwept whole (above + rows) mask_below below rest new_below others
    → AreBandsSwept whole above mask old bands (new ++ new_below) (after ∷ others)
swept_parts whole above mask old bands band rest n rows mask_here mask_below here below new after new_below others parts
    cells rows_are mask_is mask_below_is is below_is long swept swept_below =
    let all = new ++ new_below in
    let first : IsBandSwept whole above (take n mask) band (take n old) after (take n all) =
    subst (IsBandSwept whole above (take n mask) band (take n old) after) (sym (take_at new new_below n long))
    (subst (λ cells. IsBandSwept whole above (take n mask) band cells after new) is
    (subst (λ cells. IsBandSwept whole above cells band here after new) mask_is swept)) in
    let others_swept : AreBandsSwept whole (above + rows_of band.tiling) (drop n mask) (drop n old) rest (drop n all)
    others =
    subst (λ cells. AreBandsSwept whole (above + rows_of band.tiling) (drop n mask) (drop n old) rest cells others)
    (sym (drop_at new new_below n long))
    (subst (λ cells. AreBandsSwept whole (above + rows_of band.tiling) (drop n mask) cells rest new_below others)
    below_is
    (subst (λ cells. AreBandsSwept whole (above + rows_of band.tiling) cells below rest new_below others) mask_below_is
    (subst (λ k. AreBandsSwept whole (above + k) mask_below below rest new_below others) rows_are swept_below))) in
    subst (λ list. AreBandsSwept whole above mask old list all (after ∷ others)) (sym parts)
    (subst (λ k. IsBandSwept whole above (take k mask) band (take k old) after (take k all)
    × AreBandsSwept whole (above + rows_of band.tiling) (drop k mask) (drop k old) rest (drop k all) others) cells
    (first, others_swept))

-- each of the bands has gained and counted its tiles
abbrev pub AreCounted : List Band → List (List ℕ) → List Band → Type 0
AreCounted [] [] [] = Unit {0}
AreCounted (before ∷ rest) (ts ∷ tss) (after ∷ others) = IsCounted before ts after × AreCounted rest tss others
AreCounted _ _ _ = ⊥

-- in each of the bands tiles were swept and counted, and there are as many bands and as many cells as before
pub record AreSweptTogether (whole : Tiles) (above : ℕ) (mask old : List ℕ) (bands : List Band) (new : List ℕ)
    (after : List Band) : Type 0 where
  pub tss : List (List ℕ)
  pub swept : AreAllSwept whole above (strips_of mask old bands) tss (strips_of mask new after)
  pub counted : AreCounted bands tss after
  pub count : length after ≡ length bands
  pub cells : length new ≡ length old

parts_count : (n : ℕ) (xs : List ℕ) → length (take n xs) + length (drop n xs) ≡ length xs
parts_count n xs = sym (length-append (take n xs) (drop n xs)) ∙ ap length (take-append-drop n xs)

-- bands that were swept were so together
pub all_swept : (whole : Tiles) (above : ℕ) (mask old : List ℕ) (bands : List Band) (new : List ℕ) (after : List Band)
    → AreBandsSwept whole above mask old bands new after → AreSweptTogether whole above mask old bands new after
all_swept whole above mask old [] new [] same =
    record { tss = []; swept = tt; counted = tt; count = refl; cells = ap length same }
all_swept whole above mask old (band ∷ rest) new (one ∷ others) swept =
    let here = swept.0 in
    let n = cells_in band in
    let below =
    all_swept whole (above + rows_of band.tiling) (drop n mask) (drop n old) rest (drop n new) others swept.1 in
    let size : n ≡ cells_in one = ap (λ (tiles : Tiles). tiles.width * tiles.height) (sym here.tiles.counted.tiling) in
    record {
      tss = here.tiles.ts ∷ below.tss;
      swept =
          subst (λ k. AreAllSwept whole above (strips_of mask old (band ∷ rest)) (here.tiles.ts ∷ below.tss)
          (strip_of one (take k mask) (take k new) ∷ strips_of (drop k mask) (drop k new) others)) size
          (here.tiles.swept, below.swept);
      counted = (here.tiles.counted, below.counted);
      count = omega (arith, below.count);
      cells = omega (arith, parts_count n new, parts_count n old, here.tiles.cells, below.cells);
    }
all_swept whole above mask old [] new (one ∷ others) swept = absurd swept
all_swept whole above mask old (band ∷ rest) new [] swept = absurd swept
