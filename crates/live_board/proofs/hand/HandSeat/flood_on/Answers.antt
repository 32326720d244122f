use Rattle.std.proofs.Common.{◌*◌, ◌-◌, ◌<◌, List, arith, le_refl, subst, subst₂, sym, ℕ, ◌≡◌}
use Rattle.grid_core.proofs.Cells.{below_at_each_pixel}
use Rattle.grid_core.specs.Raster.{Raster}
use Rattle.live_board.proofs.Flooded.{cells_founded, followed_is, row_known, row_still_known, rows_rect}
use Rattle.live_board.proofs.Flooding.{later_by}
use Rattle.live_board.specs.Flooding.{AreFounded, HasGivenOut, HasTakenIn, IsReachOf}
use Rattle.live_board.specs.{Seats.ground_of, Seats.hand_view, Words.mask_of}
use Rattle.raster_sweeps.specs.Regrowth.{IsRegrownIn}
use Rattle.live_board.proofs.hand.HandSeat.flood_on.Goals as goal

pub give_out-rose-requires-clause-founded : goal.give_out-rose-requires-clause-founded
give_out-rose-requires-clause-founded c =
    let base = ground_of c.args.board.now in
    let w : ℕ = (mask_of base).width in
    let first : ℕ = c.args.first in
    let end : ℕ = c.args.end in
    let before : Raster = c.draw.new.image in
    let after : Raster = c.grow_within.new.image in
    let started = hand_view c.start.new.self in
    let read = hand_view c.draw.new.self in
    let whole = c.width-width.ensures.sized.sized in
    let grown : IsRegrownIn base.conn (rows_rect base first end) (mask_of base) before after =
    subst₂ (λ (r : Raster) (z : ℕ).
    IsRegrownIn base.conn (record { x = 0; y = first; w = z; h = end - first }) r before after)
    c.grid-mask.ensures.value c.width-width.ensures.value c.grow_within.ensures in
    let taken : HasTakenIn base (w * first) (w * end) before.cells started read =
    subst (λ (z : ℕ). HasTakenIn base (z * first) (z * end) before.cells started read) c.width-width.ensures.value
    c.draw.ensures.taken in
    subst₂ (λ (z : ℕ) (l : List ℕ). AreFounded base read (z * first) (z * end) l) (sym c.width-width.ensures.value)
    (sym c.cells.ensures.values)
    (cells_founded base first end before after started read whole.filled whole.size.some_width c.requires.rows.1
    c.draw.ensures.image.width grown.below.width grown taken)

pub pass_on-above-requires-clause-known : goal.pass_on-above-requires-clause-known
pass_on-above-requires-clause-known c =
    let base = ground_of c.args.board.now in
    let first : ℕ = c.args.first in
    let end : ℕ = c.args.end in
    let after : Raster = c.grow_within.new.image in
    let read = hand_view c.draw.new.self in
    let raised = hand_view c.give_out-rose.new.self in
    row_known base first end first c.give_out-rose.result after read raised
    (subst (λ (r : Raster). after.width ≡ r.width) c.grid-mask.ensures.value c.grow_within.ensures.below.width)
    c.requires.rows.1 (le_refl first) c.requires.rows.0
    (subst₂ (λ (z : ℕ) (l : List ℕ). HasGivenOut base (z * first) (z * end) l c.give_out-rose.result read raised)
    c.width-width.ensures.value c.cells.ensures.values c.give_out-rose.ensures.given)

pub pass_on-below-requires-clause-known : goal.pass_on-below-requires-clause-known
pass_on-below-requires-clause-known c =
    let base = ground_of c.args.board.now in
    let first : ℕ = c.args.first in
    let end : ℕ = c.args.end in
    let after : Raster = c.grow_within.new.image in
    let read = hand_view c.draw.new.self in
    let raised = hand_view c.give_out-rose.new.self in
    let higher = hand_view c.pass_on-above.new.self in
    let passed = c.pass_on-above.ensures.passed in
    row_still_known base (end - 1) after raised higher (later_by base passed.touches raised higher passed.touched)
    (row_known base first end (end - 1) c.give_out-rose.result after read raised
    (subst (λ (r : Raster). after.width ≡ r.width) c.grid-mask.ensures.value c.grow_within.ensures.below.width)
    c.requires.rows.1 (omega (arith, c.requires.rows.0)) (omega (arith, c.requires.rows.0))
    (subst₂ (λ (z : ℕ) (l : List ℕ). HasGivenOut base (z * first) (z * end) l c.give_out-rose.result read raised)
    c.width-width.ensures.value c.cells.ensures.values c.give_out-rose.ensures.given))

pub returns-clause-followed : goal.returns-clause-followed
returns-clause-followed c =
    let base = ground_of c.args.board.now in
    let w : ℕ = (mask_of base).width in
    let first : ℕ = c.args.first in
    let end : ℕ = c.args.end in
    let before : Raster = c.draw.new.image in
    let after : Raster = c.grow_within.new.image in
    let started = hand_view c.start.new.self in
    let read = hand_view c.draw.new.self in
    let raised = hand_view c.give_out-rose.new.self in
    let higher = hand_view c.pass_on-above.new.self in
    let new = hand_view c.pass_on-below.new.self in
    let is_wide = c.width-width.ensures.value in
    let below = c.draw.ensures.image in
    let grown : IsRegrownIn base.conn (rows_rect base first end) (mask_of base) before after =
    subst₂ (λ (r : Raster) (z : ℕ).
    IsRegrownIn base.conn (record { x = 0; y = first; w = z; h = end - first }) r before after)
    c.grid-mask.ensures.value is_wide c.grow_within.ensures in
    followed_is base first end c.give_out-rose.result c.pass_on-above.result c.pass_on-below.result before after
    (hand_view c.args.self.now) started read raised higher new (record {
      start = c.start.ensures.started;
      filled = c.width-width.ensures.sized.sized.filled;
      some_width = c.width-width.ensures.sized.sized.size.some_width;
      some = c.requires.rows.0;
      high = c.requires.rows.1;
      low = λ p on. below_at_each_pixel before (mask_of base) c.draw.ensures.filled below p
          (subst (λ (z : ℕ). p.x < z) (sym below.width) on.0, subst (λ (z : ℕ). p.y < z) (sym below.height) on.1);
      was_wide = below.width;
      wide = grown.below.width;
      taken = subst (λ (z : ℕ). HasTakenIn base (z * first) (z * end) before.cells started read) is_wide
          c.draw.ensures.taken;
      grown = grown;
      given = subst₂ (λ (z : ℕ) (l : List ℕ).
          HasGivenOut base (z * first) (z * end) l c.give_out-rose.result read raised) is_wide c.cells.ensures.values
          c.give_out-rose.ensures.given;
      up = c.pass_on-above.ensures.passed;
      down = c.pass_on-below.ensures.passed;
    }) c.told.result c.told.ensures.rose
    (subst (λ (z : ℕ). IsReachOf first end z c.pass_on-above.result c.pass_on-below.result c.told.result)
    c.height.ensures.value c.told.ensures.reach)
