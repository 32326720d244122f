-- What the tactics leave open of `merge`.
use Rattle.std.proofs.Common.{◌≡◌, true, false, refl, sym, ap, ◌∙◌, subst, inl, inr, replicate, arith}
use Rattle.std.proofs.lemmas.Result.{err_from_is_err_and}
use Rattle.grid_core.specs.Tiles.{Tiles, count_of}
use Rattle.core_rules.specs.{Work.Core, Work.tiling, Merge.IsMerged, Merge.IsRefused, Merge.IsAcceptable}
use Rattle.reset_core.specs.{declared.replica.Core.TheInside.Inside as Parts}
use Rattle.reset_core.specs.Replica.{core_of}
use Rattle.reset_core.specs.MergeSteps.{IsMarked, IsGrown, IsRenewed}
use Rattle.reset_core.proofs.{Storing.unmarked_is_stored, Sweeping.tiling_is}
use Rattle.reset_core.proofs.MergeSteps.{hits_are_marked, join_fits, exactly_this, spent_is_refused}
use Rattle.reset_core.proofs.MergeSteps.{unspent_is_acceptable, marked_are_unspent, marker_below_image}
use Rattle.reset_core.proofs.MergeSteps.{renewed_is_merged, renewed_is_stored}
use Rattle.tiled_core.proofs.replica.TiledCore.merge.Goals.{After-mark_hits, After-clear, After-renew, After-into}
use Rattle.core_rules.proofs.Resets.{refused_is_not_acceptable}
use Rattle.core_rules.specs.declared.error.CoreError.TheVariants as errors
use Rattle.std.proofs.lemmas.Grind.{common_steps}
use Rattle.tiled_image.specs.TiledImage.{TiledRaster}
use Rattle.tiled_core.specs.Stored.{parts_of}
use Rattle.tiled_core.proofs.replica.TiledCore.merge.Goals as goal

-- the parts that the core was stored as
abbrev parts_before : After-mark_hits → Parts
parts_before c = parts_of c.self.inside

tiles_are : (c : After-mark_hits) → c.tiling-tiling.result ≡ tiling (core_of (parts_before c))
tiles_are c =
    let known = c.tiling-tiling.ensures in
    tiling_is (parts_before c) (core_of (parts_before c)) c.tiling-tiling.result refl known.value known.width
    known.height

is_marked : (c : After-mark_hits) → IsMarked (core_of (parts_before c)) c.args.delta.now c.mark_hits.new.marks
is_marked c =
    hits_are_marked (parts_before c) c.args.self.now c.tiling-tiling.result c.args.delta.now c.mark_hits.new.marks
    c.self.view_is (tiles_are c) c.in_ok-check.ensures.fits c.in_ok-check.ensures.compatible c.mark_hits.ensures.count
    (rw c.rows.ensures.rows at c.mark_hits.ensures.marks)

pub mark_hits-requires-clause-on_tiling : goal.mark_hits-requires-clause-on_tiling
mark_hits-requires-clause-on_tiling c =
    let image = c.self.invariant.stored.sound.shape.image in
    let known = c.tiling-tiling.ensures in
    rw c.rows.ensures.rows (record {
      width = image.width ∙ sym known.width ∙ ap (λ (ts : Tiles). ts.width) (sym known.value);
      height = image.height ∙ sym known.height ∙ ap (λ (ts : Tiles). ts.height) (sym known.value);
    })

pub mark_hits-requires-clause-marks : goal.mark_hits-requires-clause-marks
mark_hits-requires-clause-marks c =
    let parts = parts_of c.self.inside in
    let known = c.tiling-tiling.ensures in
    let tiles =
    tiling_is parts (core_of parts) c.tiling-tiling.result refl known.value known.width known.height in
    c.self.invariant.stored.no_marks
    ∙ ap (λ n. replicate n false) (c.self.invariant.stored.sound.shape.tiles ∙ ap count_of (sym tiles))

pub mark_hits-requires-clause-queue : goal.mark_hits-requires-clause-queue
mark_hits-requires-clause-queue c =
    let parts = parts_of c.self.inside in
    let known = c.tiling-tiling.ensures in
    let tiles =
    tiling_is parts (core_of parts) c.tiling-tiling.result refl known.value known.width known.height in
    c.self.invariant.stored.none_queued
    ∙ ap (λ n. replicate n false) (c.self.invariant.stored.sound.shape.tiles ∙ ap count_of (sym tiles))

-- ---- refusals

pub returns-in_err-check-clause-merged : goal.returns-in_err-check-clause-merged
returns-in_err-check-clause-merged c =
    let p = err_from_is_err_and c.from_residual.result c.from_residual.ensures.1 in
    rw p.1 tt

pub returns-in_err-check-clause-refused : goal.returns-in_err-check-clause-refused
returns-in_err-check-clause-refused c =
    let p = err_from_is_err_and c.from_residual.result c.from_residual.ensures.1 in
    rw (p.1, p.2) (inl c.in_err-check.ensures.refused)

pub returns-in_err-check-clause-err : goal.returns-in_err-check-clause-err
returns-in_err-check-clause-err c =
    let p = err_from_is_err_and c.from_residual.result c.from_residual.ensures.1 in
    rw p.1 refl

pub returns-in_err-check-clause-exactly : goal.returns-in_err-check-clause-exactly
returns-in_err-check-clause-exactly c =
    let p = err_from_is_err_and c.from_residual.result c.from_residual.ensures.1 in
    let refused = c.in_err-check.ensures.refused in
    rw (p.1, p.2) (exactly_this c.args.self.now c.args.delta.now c.in_err-check.field-0.0 refused)

is_refused : (c : After-clear) → IsRefused c.args.self.now c.args.delta.now errors.GenerationsSpent
is_refused c =
    let at = (goal.at.returns-then-is_one_spent-clause-refused c).After-mark_hits in
    subst (λ (core : Core). IsRefused core c.args.delta.now errors.GenerationsSpent) c.self.view_is
    (spent_is_refused (core_of (parts_before at)) c.args.delta.now c.mark_hits.new.marks c.self.invariant.stored.sound
    (is_marked at) (c.is_one_spent.ensures.0 c.if-is_one_spent.true))

pub returns-then-is_one_spent-clause-refused : goal.returns-then-is_one_spent-clause-refused
returns-then-is_one_spent-clause-refused c = inl (is_refused c)

pub returns-then-is_one_spent-clause-exactly : goal.returns-then-is_one_spent-clause-exactly
returns-then-is_one_spent-clause-exactly c =
    exactly_this c.args.self.now c.args.delta.now errors.GenerationsSpent (is_refused c)

pub returns-then-is_one_spent-clause-err : goal.returns-then-is_one_spent-clause-err
returns-then-is_one_spent-clause-err c = rw c.rows.follows.holds-at-none c.self.view_is

pub invariant_of-self : goal.invariant_of-self
invariant_of-self c =
    let at = (goal.at.returns-then-is_one_spent-clause-refused c).After-mark_hits in
    let stored = c.self.invariant.stored in
    rw c.rows.follows.holds-at-none (record {
      stored =
          unmarked_is_stored (parts_of c.self.inside) c.clear.new.self c.mark_hits.new.queue stored
          (c.clear.ensures ∙ ap (λ n. replicate n false) ((is_marked at).count ∙ sym stored.sound.shape.tiles))
          (c.mark_hits.ensures.queue ∙ stored.none_queued);
      tiling = c.self.invariant.tiling;
      beside = c.self.invariant.beside;
      room = c.self.invariant.room;
      mask_rims = c.self.invariant.mask_rims;
      limits_room = c.self.invariant.limits_room;
      states = c.self.invariant.states;
    })

is_acceptable : (c : After-into) → IsAcceptable c.args.self.now c.args.delta.now
is_acceptable c =
    let at = (goal.at.returns-in-Err-clause-refused c).After-mark_hits in
    subst (λ (core : Core). IsAcceptable core c.args.delta.now) c.self.view_is
    (unspent_is_acceptable (core_of (parts_before at)) c.args.delta.now c.mark_hits.new.marks
    c.self.invariant.stored.sound (is_marked at)
    (λ spent. let no : true ≡ false = sym (c.is_one_spent.ensures.1 spent) ∙ c.if-is_one_spent.false in cc))

pub returns-in-Err-clause-refused : goal.returns-in-Err-clause-refused
returns-in-Err-clause-refused c = inr (c.into.ensures, is_acceptable c)

pub returns-in-Err-clause-exactly : goal.returns-in-Err-clause-exactly
returns-in-Err-clause-exactly c = λ e refused.
    absurd (refused_is_not_acceptable c.args.self.now c.args.delta.now e refused (is_acceptable c))

pub returns-in-Err-clause-err : goal.returns-in-Err-clause-err
returns-in-Err-clause-err c = rw (c.in-Err.ensures.err, c.rows.follows.holds-at-none) c.self.view_is

pub invariant_of-self-in-Err : goal.invariant_of-self-in-Err
invariant_of-self-in-Err c =
    let at = (goal.at.returns-in-Err-clause-refused c).After-mark_hits in
    let stored = c.self.invariant.stored in
    rw (c.in-Err.ensures.err, c.rows.follows.holds-at-none) (record {
      stored =
          unmarked_is_stored (parts_of c.self.inside) c.clear-in-Err.new.self c.mark_hits.new.queue stored
          (c.clear-in-Err.ensures ∙ ap (λ n. replicate n false) ((is_marked at).count ∙ sym stored.sound.shape.tiles))
          (c.mark_hits.ensures.queue ∙ stored.none_queued);
      tiling = c.self.invariant.tiling;
      beside = c.self.invariant.beside;
      room = c.self.invariant.room;
      mask_rims = c.self.invariant.mask_rims;
      limits_room = c.self.invariant.limits_room;
      states = c.self.invariant.states;
    })

-- ---- what the calls require

pub join-requires : goal.join-requires
join-requires c =
    let at = (goal.at.join-requires c).After-mark_hits in
    (is_marked at).compatible

pub renew-requires-clause-renew : goal.renew-requires-clause-renew
renew-requires-clause-renew c =
    let at = (goal.at.renew-requires-clause-renew c).After-mark_hits in
    let tiles = ap count_of (sym (tiles_are at) ∙ c.tiling-tiling.ensures.value) in
    rw c.rows.follows.holds-at-none (record {
      fits =
          join_fits (core_of (parts_before at)) c.args.delta.now c.join.new.self c.self.invariant.stored.sound
          (is_marked at).fits c.in-Ok.ensures.join;
      known = record {
        before = c.self.inside.state;
        was = c.self.invariant.stored.marks;
        rises = c.in-Ok.ensures.join.first;
        changed = c.in-Ok.ensures.change;
      };
      on_tiling = record {
        width = c.self.invariant.stored.sound.shape.image.width ∙ sym c.tiling-tiling.ensures.width;
        height = c.self.invariant.stored.sound.shape.image.height ∙ sym c.tiling-tiling.ensures.height;
      };
      unspent = record {
        works = c.self.invariant.stored.sound.shape.tiles ∙ tiles;
        marked = (is_marked at).count ∙ tiles;
        unspent =
            marked_are_unspent (core_of (parts_before at)) c.args.delta.now c.mark_hits.new.marks
            c.self.invariant.stored.sound (is_marked at)
            (λ spent. let no : true ≡ false = sym (c.is_one_spent.ensures.1 spent) ∙ c.if-is_one_spent.false in cc);
      };
      low = λ marker is_marker p inside out.
          let image = c.self.invariant.stored.sound.shape.image in
          let grown : IsGrown (core_of (parts_before at)) c.args.delta.now c.in-Ok.change c.join.new.self marker =
          record { join = c.in-Ok.ensures.join; change = c.in-Ok.ensures.change; marker_is = is_marker } in
          marker_below_image (core_of (parts_before at)) c.args.delta.now c.in-Ok.change c.join.new.self marker
          c.self.invariant.stored.sound grown p
          (omega (arith, inside.0, image.width), omega (arith, inside.1, image.height)) out;
    })

pub renew-requires-clause-bounds : goal.renew-requires-clause-bounds
renew-requires-clause-bounds c =
    let at = (goal.at.renew-requires-clause-bounds c).After-mark_hits in
    c.self.invariant.stored.bounded.count ∙ ap count_of (sym (tiles_are at) ∙ c.tiling-tiling.ensures.value)

-- ---- what is merged

abbrev parts_after : After-renew → Parts
parts_after c = record (parts_of c.self.inside) {
  state = c.join.new.self;
  markers = c.renew.new.markers;
  image = c.renew.new.self.image;
  work = c.renew.new.work;
  bounds = c.renew.new.bounds;
  marks = c.renew.new.marks;
  queue = c.mark_hits.new.queue;
}

is_renewed : (c : After-renew)
    → IsRenewed (parts_before (goal.at.returns-in-Ok-clause-merged c).After-mark_hits) c.args.delta.now c.in-Ok.change
    (parts_after c)
is_renewed c =
    let at = (goal.at.returns-in-Ok-clause-merged c).After-mark_hits in
    let renewed = c.renew.ensures.renewed in
    let tiles = sym c.tiling-tiling.ensures.value ∙ tiles_are at in
    record {
      marks = c.mark_hits.new.marks;
      marked = is_marked at;
      none_spent = λ spent.
          let no : true ≡ false = sym (c.is_one_spent.ensures.1 spent) ∙ c.if-is_one_spent.false in cc;
      grown = record {
        join = c.in-Ok.ensures.join;
        change = c.in-Ok.ensures.change;
        marker_is = rw renewed.marker.mask at renewed.marker.marker;
      };
      image = rw (c.rows.follows.holds-at-none, tiles) at renewed.image_is;
      bounds = rw (c.rows.follows.holds-at-none, tiles) at (c.renew.ensures.bounds c.self.inside.conn);
      cleared = renewed.marks_are;
      queue = c.mark_hits.ensures.queue;
      mask = renewed.marker.mask;
      tiling_is = renewed.marker.tiling;
      conn = refl;
      masks = refl;
      serial = refl;
    }

pub invariant_of-self-in-Ok : goal.invariant_of-self-in-Ok
invariant_of-self-in-Ok c =
    let at = (goal.at.invariant_of-self-in-Ok c).After-mark_hits in
    let same = c.renew.ensures.renewed.marker.tiling in
    record {
      stored =
          renewed_is_stored (parts_before at) (parts_after c) c.args.delta.now c.in-Ok.change c.self.invariant.stored
          (is_renewed c);
      tiling =
          c.renew.ensures.tiling ∙ ap (λ (r : TiledRaster). r.tiling) c.rows.follows.holds-at-none
          ∙ c.self.invariant.tiling ∙ sym same;
      beside = c.forget.ensures ∙ rw same c.self.invariant.beside;
      room = rw same c.self.invariant.room;
      mask_rims = rw (same, c.renew.ensures.renewed.marker.mask) c.self.invariant.mask_rims;
      limits_room = rw same c.self.invariant.limits_room;
      states = c.mark.ensures c.self.inside.state c.join.new.self c.self.invariant.states c.in-Ok.ensures.join;
    }

pub returns-in-Ok-clause-merged : goal.returns-in-Ok-clause-merged
returns-in-Ok-clause-merged c =
    let at = (goal.at.returns-in-Ok-clause-merged c).After-mark_hits in
    subst (λ (core : Core). IsMerged core c.args.delta.now c.in-Ok.change (core_of (parts_after c))) c.self.view_is
    (renewed_is_merged (parts_before at) (parts_after c) c.args.delta.now c.in-Ok.change c.self.invariant.stored
    (is_renewed c))

pub is_one_spent-requires : goal.is_one_spent-requires
is_one_spent-requires c = grind (arith, common_steps)

pub returns-in-Ok-clause-exactly : goal.returns-in-Ok-clause-exactly
returns-in-Ok-clause-exactly c = λ e refused.
    let at = (goal.at.returns-in-Ok-clause-exactly c).After-mark_hits in
    absurd (refused_is_not_acceptable c.args.self.now c.args.delta.now e refused
    (subst (λ (core : Core). IsAcceptable core c.args.delta.now) c.self.view_is
    (unspent_is_acceptable (core_of (parts_before at)) c.args.delta.now c.mark_hits.new.marks
    c.self.invariant.stored.sound (is_marked at)
    (λ spent. let no : true ≡ false = sym (c.is_one_spent.ensures.1 spent) ∙ c.if-is_one_spent.false in cc))))
