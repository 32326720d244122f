use Rattle.std.proofs.Common.{◌≡◌, true, false, sym, ◌∙◌}
use Rattle.view_session.proofs.Sides.{answered_for_side, refused_for_side}
use Rattle.view_session.proofs.view.view_kept_by.Goals as goal

pub returns-then-not-is_tile_side : goal.returns-then-not-is_tile_side
returns-then-not-is_tile_side g c = refused_for_side _ _ _ _ _ c.args.source.now _ _ c.args.sink.now (λ is.
    let no : true ≡ false = sym (c.is_tile_side.ensures.1 is) ∙ c.if-not-is_tile_side.true in cc)

pub returns : goal.returns
returns g c = answered_for_side _ _ _ _ _ _ _ _ _ _ (c.is_tile_side.ensures.0 c.if-not-is_tile_side.false)
    c.respond.ensures
