use Rattle.std.proofs.Common.{◌≡◌, ℕ, List, [], ◌∷◌, ◌++◌, ◌∙◌, sym, ap, append_assoc, subst, flat_map, length}
use Rattle.std.proofs.lemmas.Result.{IfOk-from_err}
use Rattle.grid_core.specs.{declared.rect.Rect.Rect, Raster.Raster, Tiles.Tiles, Tiles.count_of}
use Rattle.pgm_codec.specs.Spelling.{line_feed}
use Rattle.stroke_lattice.specs.{State.State, Growth.AreTags}
use Rattle.core_rules.specs.Work.{tiling}
use Rattle.page_board.specs.{declared.news.News.News, Putting.PutsSamples, Stored.board_of, Strips.AreStrips}
use Rattle.page_board.specs.Board.{PageBoard, IsWhole, image_of, since_of, HasTurned, HasTurnedIn}
use Rattle.page_board.specs.Changes.{AreChanges, AreRectsSince, IsQuietDigit, numbers_line, rect_line, tag_line}
use Rattle.page_board.proofs.{Answer.fits_at, Told.strips_tell, Wholeness.image_graymap}
use Rattle.page_board.proofs.board.PageBoard.changes.Goals as goal

pub strips_since-requires : goal.strips_since-requires
strips_since-requires c =
    ap length c.deref.ensures.value ∙ c.self.invariant.whole.count ∙ c.self.invariant.whole.tiles
    ∙ sym (ap count_of c.tiling.ensures.value)

pub push_pixels-requires-clause-graymap : goal.push_pixels-requires-clause-graymap
push_pixels-requires-clause-graymap c =
    image_graymap (board_of c.self.inside) c.image.result.now c.below_keeps_maxval.ensures c.self.invariant.whole
    c.image.ensures

pub returns-in_err-rects-clause-changes : goal.returns-in_err-rects-clause-changes
returns-in_err-rects-clause-changes c = IfOk-from_err c.from_residual.result _ c.from_residual.ensures.0

pub returns-in_err-rects-clause-whole : goal.returns-in_err-rects-clause-whole
returns-in_err-rects-clause-whole c = subst IsWhole c.self.view_is c.self.invariant.whole

pub returns-in_err-tags-clause-changes : goal.returns-in_err-tags-clause-changes
returns-in_err-tags-clause-changes c =
    IfOk-from_err c.from_residual-in_err-tags.result _ c.from_residual-in_err-tags.ensures.0

pub returns-in_err-tags-clause-whole : goal.returns-in_err-tags-clause-whole
returns-in_err-tags-clause-whole c = subst IsWhole c.self.view_is c.self.invariant.whole

pub returns-in_err-out-clause-changes : goal.returns-in_err-out-clause-changes
returns-in_err-out-clause-changes c =
    IfOk-from_err c.from_residual-in_err-out.result _ c.from_residual-in_err-out.ensures.0

pub returns-in_err-out-clause-whole : goal.returns-in_err-out-clause-whole
returns-in_err-out-clause-whole c = subst IsWhole c.self.view_is c.self.invariant.whole

pub returns-in_err-push_rects-clause-changes : goal.returns-in_err-push_rects-clause-changes
returns-in_err-push_rects-clause-changes c =
    IfOk-from_err c.from_residual-in_err-push_rects.result _ c.from_residual-in_err-push_rects.ensures.0

pub returns-in_err-push_rects-clause-whole : goal.returns-in_err-push_rects-clause-whole
returns-in_err-push_rects-clause-whole c = subst IsWhole c.self.view_is c.self.invariant.whole

pub returns-in_err-push_tags-clause-changes : goal.returns-in_err-push_tags-clause-changes
returns-in_err-push_tags-clause-changes c =
    IfOk-from_err c.from_residual-in_err-push_tags.result _ c.from_residual-in_err-push_tags.ensures.0

pub returns-in_err-push_tags-clause-whole : goal.returns-in_err-push_tags-clause-whole
returns-in_err-push_tags-clause-whole c = subst IsWhole c.self.view_is c.self.invariant.whole

pub returns-in_err-push-clause-changes : goal.returns-in_err-push-clause-changes
returns-in_err-push-clause-changes c =
    IfOk-from_err c.from_residual-in_err-push.result _ c.from_residual-in_err-push.ensures.0

pub returns-in_err-push-clause-whole : goal.returns-in_err-push-clause-whole
returns-in_err-push-clause-whole c = subst IsWhole c.self.view_is c.self.invariant.whole

pub returns-in_err-reserve_exact-clause-changes : goal.returns-in_err-reserve_exact-clause-changes
returns-in_err-reserve_exact-clause-changes c =
    IfOk-from_err c.from_residual-in_err-reserve_exact.result _ c.from_residual-in_err-reserve_exact.ensures.0

pub returns-in_err-reserve_exact-clause-whole : goal.returns-in_err-reserve_exact-clause-whole
returns-in_err-reserve_exact-clause-whole c = subst IsWhole c.self.view_is c.self.invariant.whole

pub returns-in_err-push_pixels-clause-changes : goal.returns-in_err-push_pixels-clause-changes
returns-in_err-push_pixels-clause-changes c =
    IfOk-from_err c.from_residual-in_err-push_pixels.result _ c.from_residual-in_err-push_pixels.ensures.0

pub returns-in_err-push_pixels-clause-whole : goal.returns-in_err-push_pixels-clause-whole
returns-in_err-push_pixels-clause-whole c = subst IsWhole c.self.view_is c.self.invariant.whole

pub push_pixels-requires-clause-fit : goal.push_pixels-requires-clause-fit
push_pixels-requires-clause-fit c =
    fits_at c.self.inside.core c.tiling.result c.image.result.now c.in_ok-rects.rects.items c.deref-6.result.now
    c.image.ensures c.tiling.ensures.value c.deref-6.ensures.value c.in_ok-rects.ensures.fit

pub returns-clause-changes : goal.returns-clause-changes
returns-clause-changes c =
    let b : PageBoard = board_of c.self.inside in
    let rects = c.in_ok-rects.rects.items in
    let tags = c.in_ok-tags.tags.items in
    let out = c.push_pixels.new.out.items in
    let from = c.since_of-since.result in
    let from_is : from ≡ since_of b c.args.run c.args.since = c.since_of-since.ensures
    ∙ ap (λ (x : PageBoard). since_of x c.args.run c.args.since) (sym c.self.view_is) in
    let numbers = subst (λ (x : PageBoard). (digit : ℕ) × IsQuietDigit x.core digit
    × (c.in_ok-out.out.items ≡ numbers_line x digit)) (sym c.self.view_is) c.in_ok-out.ensures in
    let strips = subst (λ (steps : List ℕ). AreStrips (tiling b.core) steps from rects) c.deref.ensures.value
    (subst (λ (t : Tiles). AreStrips t c.deref.result.now from rects) c.tiling.ensures.value c.in_ok-rects.ensures) in
    let turned = subst (λ (news : List News). AreTags (HasTurnedIn news from) tags) c.deref-2.ensures.value
    c.in_ok-tags.ensures in
    let with_rects = c.in_ok-push_rects.ensures
    ∙ ap (λ (all : List Rect). c.in_ok-out.out.items ++ flat_map rect_line all) c.deref-3.ensures.value in
    let with_tags = c.in_ok-push_tags.ensures
    ∙ ap (λ (s : State). c.push_rects.new.out.items ++ flat_map (tag_line s) c.deref-4.result.now) c.state.ensures
    ∙ ap (λ (all : List ℕ). c.push_rects.new.out.items ++ flat_map (tag_line b.core.state) all)
    c.deref-4.ensures.value in
    let puts = subst (λ (text : List ℕ). PutsSamples (image_of b) rects text out) c.in_ok-reserve_exact.ensures.items
    (subst (λ (all : List Rect). PutsSamples (image_of b) all c.reserve_exact.new.self.items out)
    c.deref-6.ensures.value
    (subst (λ (r : Raster). PutsSamples (record { raster = r; maxval = b.maxval }) c.deref-6.result.now
    c.reserve_exact.new.self.items out) c.image.ensures.value c.in_ok-push_pixels.ensures)) in
    subst (λ (x : PageBoard). AreChanges x c.args.run c.args.since out) c.self.view_is (record {
      quiet = numbers.0;
      is_quiet = numbers.1;
      rects = rects;
      are_rects = subst (λ (n : ℕ). AreRectsSince b n rects) from_is
          (strips_tell c.each_pixel_in_one_tile.ensures b from rects c.self.invariant.whole strips);
      tags = tags;
      are_tags = subst (λ (n : ℕ). AreTags (HasTurned b n) tags) from_is turned;
      samples = puts.bytes;
      are_samples = puts.are_samples;
      parts =
          rw (puts.behind, c.in_ok-push.ensures.items, with_tags, with_rects, numbers.2)
          (append_assoc (numbers_line b numbers.0 ++ flat_map rect_line rects ++ flat_map (tag_line b.core.state) tags)
          (line_feed ∷ []) puts.bytes);
    })

pub returns-clause-whole : goal.returns-clause-whole
returns-clause-whole c = subst IsWhole c.self.view_is c.self.invariant.whole
