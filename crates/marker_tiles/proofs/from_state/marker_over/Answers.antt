use Rattle.std.proofs.Common.{[], ◌∷◌}
use Rattle.marker_tiles.proofs.Marking.{marker_from_blank, below_from_blank, in_one}
use Rattle.marker_tiles.proofs.from_state.marker_over.Goals as goal

pub returns-clause-below : goal.returns-clause-below
returns-clause-below c =
    let whole = c.whole.result in
    below_from_blank c.args.state.now (whole ∷ []) c.args.mask.now c.args.blank c.raise_by_live.new.image
    (λ p inside. in_one whole p (c.whole.ensures.all p inside)) c.requires.blank c.raise_by_live.ensures

pub returns-clause-marks : goal.returns-clause-marks
returns-clause-marks c conn =
    let whole = c.whole.result in
    marker_from_blank c.args.state.now (whole ∷ []) c.args.mask.now c.args.blank c.raise_by_live.new.image
    (λ p inside. in_one whole p (c.whole.ensures.all p inside)) c.requires.blank c.raise_by_live.ensures
    conn
