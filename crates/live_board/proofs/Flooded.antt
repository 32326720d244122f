-- Floods: rows that were read, grown and raised were flooded.
use Rattle.std.proofs.Common.{◌*◌, ◌+◌, ◌++◌, ◌-◌, ◌<◌, Contains, List, [], ap, arith, count_by, le_refl, min, refl}
use Rattle.std.proofs.Common.{IsTrue, slice_index, slice_index_or, subst, subst₂, sym, ℕ, ◌∙◌, ◌∷◌, ◌≡◌, ◌≤◌, ◌⊎◌}
use Rattle.std.proofs.Math.Nat.{le-div_iff_mul-le, mul-le-mul_left, mul_comm}
use Rattle.std.proofs.lemmas.Bool.{cases_lt}
use Rattle.std.proofs.lemmas.List.Sums.{get_or-le-sum_by}
use Rattle.std.proofs.lemmas.Nat.{div_below, mul-add-lt}
use Rattle.std.proofs.lemmas.List.Elements.{Contains-append_cases, Contains-append_left}
use Rattle.std.specs.List.{AllByRecursion}
use Rattle.grid_core.proofs.{Images.reconstruction_is_closed, Pixels.near, Pixels.same_pixel}
use Rattle.grid_core.proofs.Reach.{IsPath-ends_inside, reaches_by_step, reaches_here, reaches_lower, reaches_zero}
use Rattle.grid_core.specs.{Neighbours.AreNeighbours, Path.IsPath, Path.end_of, Raster.IsFilled, Raster.IsInside}
use Rattle.grid_core.specs.{Raster.Raster, Raster.index_of, Raster.value_at, Rects.domain_in, Rects.in_image}
use Rattle.grid_core.specs.{Rects.part}
use Rattle.grid_core.specs.declared.conn.Conn.{Conn}
use Rattle.grid_core.specs.declared.conn.Conn.TheVariants.{Eight, Four}
use Rattle.grid_core.specs.{declared.pixel.Pixel.Pixel, declared.rect.Rect.Rect}
use mathlib.Core.Logic.{⊎_elim}
use Rattle.live_board.proofs.Flooding.{IsLater, cell_is, cell_on, knows_later, later_by, touch_known}
use Rattle.live_board.proofs.Touching.{comes_after, rise_of, rises_both, touched_both}
use Rattle.live_board.specs.Flooding.{AreFounded, HasGivenOut, HasPassedOn, HasTakenIn, IsAround, IsFounded, IsReachOf}
use Rattle.live_board.specs.Flooding.{IsRowKnown, drawn_fact}
use Rattle.live_board.specs.Floods.{HasFlooded, HasFollowed, HasSpread, IsInRows, Knows, passed}
use Rattle.live_board.specs.Rounds.{HasTouched, Touch, has_risen, pixel_after}
use Rattle.live_board.specs.Seats.{HasStarted, IsBeside, IsOf, raised_fact}
use Rattle.live_board.specs.Words.{IsOn, Supports, domain, fact, mask_of, number}
use Rattle.live_board.specs.{declared.fact.Fact.Fact, declared.flood.Reach.Reach, declared.rule.Ground.Ground}
use Rattle.live_board.specs.declared.rule.SeatView.{SeatView}
use Rattle.raster_sweeps.specs.Regrowth.{IsRegrownIn}

-- ---- cells of rows

-- the cell of a pixel of the rows
pub row_cell : (base : Ground) (first end : ℕ) (p : Pixel) → IsOn base p → IsInRows first end p
    → ((mask_of base).width * first ≤ index_of (mask_of base).width p)
    × (index_of (mask_of base).width p < (mask_of base).width * end)
row_cell base first end p on rows =
    let w : ℕ = (mask_of base).width in
    let under : w * first ≤ w * p.y = mul-le-mul_left w rows.0 in
    (omega (arith, under, mul_comm w p.y), mul-add-lt p.y w p.x end rows.1 on.0)

-- neighbours in a rectangle and in the image
beside_in : (conn : Conn) (rect : Rect) (p q : Pixel) → AreNeighbours conn (in_image rect p) (in_image rect q)
    → AreNeighbours conn p q
beside_in Four rect p q h = omega (arith, h)
beside_in Eight rect p q h = (omega (arith, h.0), omega (arith, h.1), omega (arith, h.2))

beside_out : (conn : Conn) (rect : Rect) (p q : Pixel) → AreNeighbours conn p q
    → AreNeighbours conn (in_image rect p) (in_image rect q)
beside_out Four rect p q h = omega (arith, h)
beside_out Eight rect p q h = (omega (arith, h.0), omega (arith, h.1), omega (arith, h.2))

-- ---- what supports a value

pub founded_lower : (base : Ground) (v : SeatView) (p : Pixel) (n k : ℕ) → k ≤ n → IsFounded base v p n
    → IsFounded base v p k
founded_lower base v p n k low founded marker supported =
    reaches_lower (domain base) (value_at (mask_of base)) (value_at marker) p n k low (founded marker supported)

-- what is known is founded, and so is 0
pub known_founded : (base : Ground) (v : SeatView) (p : Pixel) (n : ℕ) → IsOn base p → (n ≡ 0) ⊎ Knows v p n
    → IsFounded base v p n
known_founded base v p n on known marker supported =
    let mask : Pixel → ℕ = value_at (mask_of base) in ⊎_elim
    (λ (zero : n ≡ 0).
    reaches_lower (domain base) mask (value_at marker) p 0 n (omega arith)
    (reaches_zero (domain base) mask (value_at marker) p on))
    (λ (knows : Knows v p n).
    let enough : n ≤ knows.known.value = knows.enough in
    reaches_lower (domain base) mask (value_at marker) p knows.known.value n (omega arith)
    (subst (λ (z : Pixel). Supports base marker z knows.known.value) knows.pixel
    (supported knows.known knows.is_known knows.generation)))
    known

-- ---- an image that has grown in rows

abbrev pub rows_rect : Ground → ℕ → ℕ → Rect
rows_rect base first end = record { x = 0; y = first; w = (mask_of base).width; h = end - first }

module _ (base : Ground) (first end : ℕ) (before after : Raster) (high : end ≤ (mask_of base).height)
    (grown : IsRegrownIn base.conn (rows_rect base first end) (mask_of base) before after) where
  abbrev rect : Rect
  rect = rows_rect base first end

  -- a pixel of the rows, counted from their first
  abbrev at : Pixel → Pixel
  at p = record { x = p.x; y = p.y - first }

  at_is : (p : Pixel) → first ≤ p.y → in_image rect (at p) ≡ p
  at_is p low = same_pixel (in_image rect (at p)) p (omega arith) (omega (arith, low))

  at_inside : (p : Pixel) → IsOn base p → IsInRows first end p → IsInside rect.w rect.h (at p)
  at_inside p on rows = (on.0, omega (arith, rows.0, rows.1))

  in_rows : (p : Pixel) → IsInside rect.w rect.h p → IsOn base (in_image rect p) × IsInRows first end (in_image rect p)
  in_rows p inside =
      ((omega (arith, inside.0), omega (arith, inside.1, high)), (omega arith, omega (arith, inside.1)))

  -- no pixel of the rows raises another of them
  pub closed : (p q : Pixel) → IsOn base p → IsOn base q → IsInRows first end p → IsInRows first end q
      → AreNeighbours base.conn p q → min (value_at after p) (value_at (mask_of base) q) ≤ value_at after q
  closed p q on_p on_q in_p in_q beside =
      subst₂ (λ (a b : Pixel). min (value_at after a) (value_at (mask_of base) b) ≤ value_at after b) (at_is p in_p.0)
      (at_is q in_q.0)
      (reconstruction_is_closed (domain_in rect base.conn) (part rect (value_at (mask_of base)))
      (part rect (value_at before)) (part rect (value_at after)) grown.reconstruction (at p) (at q)
      (at_inside p on_p in_p) (at_inside q on_q in_q)
      (beside_in base.conn rect (at p) (at q)
      (subst₂ (AreNeighbours base.conn) (sym (at_is p in_p.0)) (sym (at_is q in_q.0)) beside)))

  -- and none of them fell
  pub no_less : (p : Pixel) → IsOn base p → IsInRows first end p → value_at before p ≤ value_at (mask_of base) p
      → value_at before p ≤ value_at after p
  no_less p on rows below =
      let P : Pixel = in_image rect (at p) in
      let low : value_at before P ≤ value_at (mask_of base) P =
      subst (λ (z : Pixel). value_at before z ≤ value_at (mask_of base) z) (sym (at_is p rows.0)) below in
      let inside = at_inside p on rows in
      let there : value_at before P ≤ value_at after P = ⊎_elim
      (λ (less : value_at after P < value_at before P).
      absurd ((grown.reconstruction (at p) inside).1 (value_at before P) less
      (reaches_here (domain_in rect base.conn) (part rect (value_at (mask_of base))) (part rect (value_at before))
      (at p) (value_at before P) inside low (le_refl (value_at before P)))))
      (λ (at_least : value_at before P ≤ value_at after P). at_least)
      (cases_lt (value_at after P) (value_at before P)) in
      subst (λ (z : Pixel). value_at before z ≤ value_at after z) (at_is p rows.0) there

  -- a level flows back along a path in the rows
  walk : (marker : Raster) (k : ℕ) (p : Pixel) (rest : List Pixel) → IsPath (domain_in rect base.conn) p rest
      → AllByRecursion (λ q. k ≤ part rect (value_at (mask_of base)) q) (p ∷ rest)
      → Supports base marker (in_image rect (end_of p rest)) k → Supports base marker (in_image rect p) k
  walk marker k p [] path all ends = ends
  walk marker k p (q ∷ rest) path all ends =
      reaches_by_step (domain base) (value_at (mask_of base)) (value_at marker) (in_image rect p) (in_image rect q) k
      (in_rows p path.0).0 (beside_out base.conn rect p q path.1) all.0 (walk marker k q rest path.2 all.1 ends)

  -- what supported them before supports what the pixels have grown to
  pub founded : (v : SeatView)
      → ((q : Pixel) → IsOn base q → IsInRows first end q → IsFounded base v q (value_at before q))
      → (p : Pixel) → IsOn base p → IsInRows first end p → IsFounded base v p (value_at after p)
  founded v was p on rows marker supported =
      let mask : Pixel → ℕ = value_at (mask_of base) in
      let reach = (grown.reconstruction (at p) (at_inside p on rows)).0 in
      let k : ℕ = value_at after (in_image rect (at p)) in
      let e : Pixel = end_of (at p) reach.0 in
      let E : Pixel = in_image rect e in
      let lies = in_rows e (IsPath-ends_inside (domain_in rect base.conn) (at p) reach.0 reach.1) in
      let low : k ≤ value_at before E = reach.3 in
      let ends : Supports base marker E k =
      reaches_lower (domain base) mask (value_at marker) E (value_at before E) k low
      (was E lies.0 lies.1 marker supported) in
      subst (λ (z : Pixel). Supports base marker z (value_at after z)) (at_is p rows.0)
      (walk marker k (at p) reach.0 reach.1 reach.2 ends)

-- ---- cells of an image

-- the value of a pixel is that of its cell
pub cell_value : (base : Ground) (image : Raster) → image.width ≡ (mask_of base).width → (k : ℕ)
    → value_at image (pixel_after base k) ≡ slice_index image.cells k
cell_value base image wide k =
    ap (λ (i : ℕ). slice_index image.cells i)
    (ap (λ (z : ℕ). index_of z (pixel_after base k)) wide ∙ cell_is base k)

-- the pixel of a cell of the rows
pub cell_rows : (base : Ground) (first end k : ℕ) → 0 < (mask_of base).width → (mask_of base).width * first ≤ k
    → k < (mask_of base).width * end → IsInRows first end (pixel_after base k)
cell_rows base first end k some after before =
    let w : ℕ = (mask_of base).width in (
      (le-div_iff_mul-le {k = w} {x = first} {y = k} some).1 (omega (arith, after, mul_comm w first)),
      div_below k w end some (omega (arith, before, mul_comm w end)),
    )

-- what the cells have grown to is founded in what was read
pub cells_founded : (base : Ground) (first end : ℕ) (before after : Raster) (v u : SeatView)
    → IsFilled (mask_of base) → 0 < (mask_of base).width → end ≤ (mask_of base).height
    → before.width ≡ (mask_of base).width → after.width ≡ (mask_of base).width
    → IsRegrownIn base.conn (rows_rect base first end) (mask_of base) before after
    → HasTakenIn base ((mask_of base).width * first) ((mask_of base).width * end) before.cells v u
    → AreFounded base u ((mask_of base).width * first) ((mask_of base).width * end) after.cells
cells_founded base first end before after v u filled some high was_wide wide grown taken k after_first before_end =
    let w : ℕ = (mask_of base).width in
    let most : w * end ≤ w * (mask_of base).height = mul-le-mul_left w high in
    let on : IsOn base (pixel_after base k) = cell_on base k filled (omega (arith, before_end, most)) in
    let rows = cell_rows base first end k some after_first before_end in
    subst (IsFounded base u (pixel_after base k)) (cell_value base after wide k)
    (founded base first end before after high grown u
    (λ q on_q in_q.
    let i : ℕ = index_of w q in
    let lies = row_cell base first end q on_q in_q in
    known_founded base u q (value_at before q) on_q
    (subst (λ (z : Pixel). (value_at before z ≡ 0) ⊎ Knows u z (value_at before z)) (comes_after base q i on_q refl)
    (subst (λ (n : ℕ). (n ≡ 0) ⊎ Knows u (pixel_after base i) n) (sym (cell_value base before was_wide i))
    (taken.known i lies.0 lies.1))))
    (pixel_after base k) on rows)

-- what the pixels have that were raised is known
pub pixel_known : (base : Ground) (first end count : ℕ) (after : Raster) (v u : SeatView) (p : Pixel)
    → after.width ≡ (mask_of base).width → IsOn base p → IsInRows first end p
    → HasGivenOut base ((mask_of base).width * first) ((mask_of base).width * end) after.cells count v u
    → Contains u.facts (drawn_fact u.generation after p)
pixel_known base first end count after v u p wide on rows given =
    let k : ℕ = index_of (mask_of base).width p in
    let lies = row_cell base first end p on rows in
    subst (λ (z : Pixel). Contains u.facts (drawn_fact u.generation after z)) (comes_after base p k on refl)
    (subst (λ (n : ℕ). Contains u.facts (fact (pixel_after base k) u.generation n))
    (sym (cell_value base after wide k)) (given.known k lies.0 lies.1))

-- so is a row of them, and stays so
pub row_known : (base : Ground) (first end y count : ℕ) (after : Raster) (v u : SeatView)
    → after.width ≡ (mask_of base).width → end ≤ (mask_of base).height → first ≤ y → y < end
    → HasGivenOut base ((mask_of base).width * first) ((mask_of base).width * end) after.cells count v u
    → IsRowKnown base y after u
row_known base first end y count after v u wide high from before given x low =
    pixel_known base first end count after v u (record { x = x; y = y }) wide (low, omega (arith, before, high))
    (from, before) given

pub row_still_known : (base : Ground) (y : ℕ) (image : Raster) (v w : SeatView) → IsLater v w
    → IsRowKnown base y image v → IsRowKnown base y image w
row_still_known base y image v w later known x low =
    let p : Pixel = record { x = x; y = y } in
    subst (λ (g : ℕ). Contains w.facts (drawn_fact g image p)) (sym later.generation)
    (later.facts (drawn_fact v.generation image p) (known x low))

-- ---- a flood

-- where no step of some rose, none of them did
pub none_risen : (ts : List Touch) (t : Touch) → count_by has_risen ts ≡ 0 → Contains ts t → IsTrue (has_risen t) → ⊥
none_risen ts t none there rose =
    let most : rise_of (has_risen (slice_index_or ts there.0 t)) ≤ count_by has_risen ts =
    get_or-le-sum_by (λ (x : Touch). rise_of (has_risen x)) ts there.0 t there.1 in
    let one : rise_of (has_risen (slice_index_or ts there.0 t)) ≡ 1 =
    ap (λ (x : Touch). rise_of (has_risen x)) there.2 ∙ ap rise_of rose in
    omega arith

-- all that a flood did to its rows
pub record IsDone (base : Ground) (first end rose above below : ℕ) (before after : Raster)
    (old started read raised higher new : SeatView) : Type 0 where
  pub start : HasStarted old started
  pub filled : IsFilled (mask_of base)
  pub some_width : 0 < (mask_of base).width
  pub some : first < end
  pub high : end ≤ (mask_of base).height
  pub low : (p : Pixel) → IsOn base p → value_at before p ≤ value_at (mask_of base) p
  pub was_wide : before.width ≡ (mask_of base).width
  pub wide : after.width ≡ (mask_of base).width
  pub taken : HasTakenIn base ((mask_of base).width * first) ((mask_of base).width * end) before.cells started read
  pub grown : IsRegrownIn base.conn (rows_rect base first end) (mask_of base) before after
  pub given : HasGivenOut base ((mask_of base).width * first) ((mask_of base).width * end) after.cells rose read raised
  pub up : HasPassedOn base first (mask_of base).width after above raised higher
  pub down : HasPassedOn base (end - 1) (mask_of base).width after below higher new

module _ (base : Ground) (first end rose above below : ℕ) (before after : Raster)
    (old started read raised higher new : SeatView)
    (d : IsDone base first end rose above below before after old started read raised higher new) where
  abbrev w : ℕ
  w = (mask_of base).width

  abbrev mask : Pixel → ℕ
  mask = value_at (mask_of base)

  abbrev g : ℕ
  g = new.generation

  -- the same generation all along
  same_higher : g ≡ higher.generation
  same_higher = d.down.touched.generation

  same_raised : g ≡ raised.generation
  same_raised = same_higher ∙ d.up.touched.generation

  same_read : g ≡ read.generation
  same_read = same_raised ∙ d.given.touched.generation

  under : (k : ℕ) → k < w * end → IsOn base (pixel_after base k)
  under k less =
      cell_on base k d.filled (let most : w * end ≤ w * (mask_of base).height = mul-le-mul_left w d.high in
      omega (arith, less, most))

  -- what the pixels of the rows have at the end is known
  known_at : (p : Pixel) → IsOn base p → IsInRows first end p
      → Contains raised.facts (drawn_fact raised.generation after p)
  known_at p on rows = pixel_known base first end rose after read raised p d.wide on rows d.given

  later_higher : IsLater raised higher
  later_higher = later_by base d.up.touches raised higher d.up.touched

  later_new : IsLater higher new
  later_new = later_by base d.down.touches higher new d.down.touched

  knows_at : (p : Pixel) (n : ℕ) → IsOn base p → IsInRows first end p → n ≤ value_at after p → Knows new p n
  knows_at p n on rows le = record {
    known = drawn_fact raised.generation after p;
    is_known = later_new.facts (drawn_fact raised.generation after p)
        (later_higher.facts (drawn_fact raised.generation after p) (known_at p on rows));
    pixel = refl;
    generation = sym same_raised;
    enough = le;
  }

  -- what a step left in the rows is no more than the pixel has at the end
  abbrev IsMost : Touch → Type 0
  IsMost t = IsInRows first end t.0.pixel → t.0.generation ≡ g
      → IsOn base t.0.pixel × (min t.0.value (mask t.0.pixel) ≤ value_at after t.0.pixel)

  most_read : (t : Touch) → Contains d.taken.touches t → IsMost t
  most_read t there rows same =
      let l = d.taken.each t there in
      let on : IsOn base t.0.pixel = subst (IsOn base) (sym l.pixel) (under l.cell l.before) in
      let was : value_at before t.0.pixel ≡ slice_index before.cells l.cell =
      ap (value_at before) l.pixel ∙ cell_value base before d.was_wide l.cell in
      let limit : mask t.0.pixel ≡ slice_index (mask_of base).cells l.cell =
      ap mask l.pixel ∙ cell_value base (mask_of base) refl l.cell in
      let first_low : min t.0.value (slice_index (mask_of base).cells l.cell) ≤ slice_index before.cells l.cell =
      l.low (same ∙ same_read) in
      let up : value_at before t.0.pixel ≤ value_at after t.0.pixel =
      no_less base first end before after d.high d.grown t.0.pixel on rows (d.low t.0.pixel on) in
      (on, omega arith)

  most_given : (t : Touch) → Contains d.given.touches t → IsMost t
  most_given t there rows same =
      let l = d.given.each t there in
      let at : t.0.pixel ≡ pixel_after base l.cell = ap (λ (f : Fact). f.pixel) l.is in
      let value : t.0.value ≡ slice_index after.cells l.cell = ap (λ (f : Fact). f.value) l.is in
      let has : value_at after t.0.pixel ≡ slice_index after.cells l.cell =
      ap (value_at after) at ∙ cell_value base after d.wide l.cell in
      (subst (IsOn base) (sym at) (under l.cell l.before), omega arith)

  most_passed : (y n : ℕ) (v u : SeatView) → IsInRows first end (record { x = 0; y = y })
      → (passing : HasPassedOn base y w after n v u) → (t : Touch) → Contains passing.touches t → IsMost t
  most_passed y n v u row passing t there rows same =
      let l = passing.each t there in
      let at : t.0.pixel ≡ l.to = ap (λ (f : Fact). f.pixel) l.is in
      let value : t.0.value ≡ min (value_at after l.by) (mask l.to) = ap (λ (f : Fact). f.value) l.is in
      let to_rows : IsInRows first end l.to = subst (IsInRows first end) at rows in
      let by_rows : IsInRows first end l.by = (omega (arith, l.row, row.0), omega (arith, l.row, row.1)) in
      let by_on : IsOn base l.by = (l.within, omega (arith, by_rows.1, d.high)) in
      let less : min (value_at after l.by) (mask l.to) ≤ value_at after l.to =
      closed base first end before after d.high d.grown l.by l.to by_on l.beside.on by_rows to_rows l.beside.beside in
      subst (λ (z : Pixel). IsOn base z × (min t.0.value (mask z) ≤ value_at after z)) (sym at)
      (l.beside.on, omega arith)

  -- all steps together
  abbrev inner : List Touch
  inner = d.taken.touches ++ d.given.touches

  abbrev upper : List Touch
  upper = inner ++ d.up.touches

  abbrev all : List Touch
  all = upper ++ d.down.touches

  touched_upper : HasTouched base upper started higher
  touched_upper =
      touched_both base inner d.up.touches started raised higher
      (touched_both base d.taken.touches d.given.touches started read raised d.taken.touched d.given.touched)
      d.up.touched

  most : (t : Touch) → Contains all t → IsMost t
  most t there = ⊎_elim
      (λ (here : Contains upper t). ⊎_elim
      (λ (in_inner : Contains inner t).
      ⊎_elim (most_read t) (most_given t) (Contains-append_cases d.taken.touches d.given.touches t in_inner))
      (most_passed first above raised higher (omega arith, d.some) d.up t)
      (Contains-append_cases inner d.up.touches t here))
      (most_passed (end - 1) below higher new (omega (arith, d.some), omega (arith, d.some)) d.down t)
      (Contains-append_cases upper d.down.touches t there)

  -- what a pixel of the border has is passed on
  passed_on : (y n : ℕ) (v u : SeatView) (passing : HasPassedOn base y w after n v u) → IsLater u new
      → (p q : Pixel) → p.y ≡ y → IsOn base p → IsBeside base p q → Knows new q (min (value_at after p) (mask q))
  passed_on y n v u passing later p q row on beside =
      let f : Fact = raised_fact base (drawn_fact u.generation after p) q in
      let there = passing.all p q row on.0 beside in
      knows_later u new q (min (value_at after p) (mask q)) later (record {
        known = f;
        is_known = touch_known base passing.touches v u (f, there.0) passing.touched there.1;
        pixel = refl;
        generation = refl;
        enough = le_refl (min (value_at after p) (mask q));
      })

  later_same : IsLater new new
  later_same = record { facts = λ f known. known; generation = refl }

  -- neighbours lie in rows that are next to one another
  near_rows : (p q : Pixel) → AreNeighbours base.conn p q → (p.y ≤ q.y + 1) × (q.y ≤ p.y + 1)
  near_rows p q beside = let a = near base.conn p q beside in (omega (arith, a.1), omega (arith, a.1))

  spreads : (t : Touch) → Contains all t → IsInRows first end t.0.pixel → t.0.generation ≡ g → HasSpread base new t.0
  spreads t there rows same q beside =
      let p : Pixel = t.0.pixel in
      let has = most t there rows same in
      let near_q = near_rows p q beside.beside in
      let n : ℕ = min (value_at after p) (mask q) in
      let knows : Knows new q n = ⊎_elim
      (λ (above_them : q.y < first).
      passed_on first above raised higher d.up later_new p q (omega (arith, near_q.0, near_q.1, rows.0)) has.0 beside)
      (λ (not_above : first ≤ q.y). ⊎_elim
      (λ (inside : q.y < end).
      knows_at q n beside.on (not_above, inside)
      (closed base first end before after d.high d.grown p q has.0 beside.on rows (not_above, inside) beside.beside))
      (λ (under_them : end ≤ q.y).
      passed_on (end - 1) below higher new d.down later_same p q (omega (arith, near_q.0, near_q.1, rows.1)) has.0
      beside)
      (cases_lt q.y end))
      (cases_lt q.y first) in
      let less : passed base t.0 q ≤ n = (let low = has.1 in omega (arith, low)) in record {
        known = knows.known;
        is_known = knows.is_known;
        pixel = knows.pixel;
        generation = knows.generation;
        enough = (let enough = knows.enough in omega (arith, less, enough));
      }

  abbrev flooded_is : (count : ℕ) → count ≡ rose + above + below → HasFlooded base first end count old new
  flooded_is count is = record {
    started = started;
    start = d.start;
    touches = all;
    touched = touched_both base upper d.down.touches started higher new touched_upper d.down.touched;
    read = λ p on rows.
        let k : ℕ = index_of w p in
        let lies = row_cell base first end p on rows in
        let there = d.taken.read k lies.0 lies.1 in (
          there.0,
          subst (λ (z : Pixel). IsOf z there.0) (comes_after base p k on refl) there.1,
          Contains-append_left upper d.down.touches (there.0, number there.0)
              (Contains-append_left inner d.up.touches (there.0, number there.0)
              (Contains-append_left d.taken.touches d.given.touches (there.0, number there.0) there.2)),
        );
    spread = spreads;
    count_is =
        let a : count_by has_risen all ≡ count_by has_risen upper + count_by has_risen d.down.touches =
        rises_both upper d.down.touches in
        let b : count_by has_risen upper ≡ count_by has_risen inner + count_by has_risen d.up.touches =
        rises_both inner d.up.touches in
        let c : count_by has_risen inner
        ≡ count_by has_risen d.taken.touches + count_by has_risen d.given.touches =
        rises_both d.taken.touches d.given.touches in
        let none : count_by has_risen d.taken.touches ≡ 0 = d.taken.none_rose in
        let x : rose ≡ count_by has_risen d.given.touches = d.given.count_is in
        let y : above ≡ count_by has_risen d.up.touches = d.up.count_is in
        let z : below ≡ count_by has_risen d.down.touches = d.down.count_is in
        is ∙ omega arith;
  }

  -- what the flood came to, where its rows are these
  module _ (answer : Reach) (rose_is : answer.rose ≡ rose + above + below)
      (reach : IsReachOf first end (mask_of base).height above below answer) where
    -- what rose lies in the answer's rows
    abbrev IsNear : Touch → Type 0
    IsNear t = IsTrue (has_risen t) → IsInRows answer.first answer.end t.0.pixel

    near_rows_of : (t : Touch) (cell : ℕ) → w * first ≤ cell → cell < w * end → t.0.pixel ≡ pixel_after base cell
        → IsNear t
    near_rows_of t cell after_first before_end is rise =
        let rows : IsInRows first end t.0.pixel =
        subst (IsInRows first end) (sym is) (cell_rows base first end cell d.some_width after_first before_end) in
        (omega (arith, rows.0, reach.low), omega (arith, rows.1, reach.high))

    near_passed : (y n : ℕ) (v u : SeatView) (passing : HasPassedOn base y w after n v u)
        → (n ≡ 0) ⊎ IsAround y (mask_of base).height answer → (t : Touch) → Contains passing.touches t → IsNear t
    near_passed y n v u passing around t there rise =
        ⊎_elim
        (λ (none : n ≡ 0). absurd (none_risen passing.touches t (sym passing.count_is ∙ none) there rise))
        (λ (wide : IsAround y (mask_of base).height answer).
        let l = passing.each t there in
        let same_row : t.0.pixel.y ≡ l.to.y = ap (λ (f : Fact). f.pixel.y) l.is in
        let near_to = near_rows l.by l.to l.beside.beside in
        let row : l.by.y ≡ y = l.row in
        let on = l.beside.on in
        (omega (arith, near_to.0, wide.0), omega (arith, near_to.1, wide.1, on.1)))
        around

    near_all : (t : Touch) → Contains all t → IsNear t
    near_all t there = ⊎_elim
        (λ (here : Contains upper t). ⊎_elim
        (λ (in_inner : Contains inner t). ⊎_elim
        (λ (read_it : Contains d.taken.touches t).
        let l = d.taken.each t read_it in near_rows_of t l.cell l.after l.before l.pixel)
        (λ (gave_it : Contains d.given.touches t).
        let l = d.given.each t gave_it in
        near_rows_of t l.cell l.after l.before (ap (λ (f : Fact). f.pixel) l.is))
        (Contains-append_cases d.taken.touches d.given.touches t in_inner))
        (near_passed first above raised higher d.up reach.up t) (Contains-append_cases inner d.up.touches t here))
        (near_passed (end - 1) below higher new d.down reach.down t)
        (Contains-append_cases upper d.down.touches t there)

    pub followed_is : HasFollowed base first end answer old new
    followed_is = record {
      flooded = flooded_is answer.rose rose_is;
      low = reach.low;
      high = reach.high;
      within = reach.within;
      quiet = λ none. reach.quiet (omega (arith, none, rose_is)) (omega (arith, none, rose_is));
      followed = λ t there rise beyond. absurd (beyond (near_all t there rise));
    }
