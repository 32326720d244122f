-- What the tactics leave open of `cut`.
use Rattle.std.proofs.Common.{◌≡◌, ◌+◌, ◌-◌, ◌<◌, ◌≤◌, ◌⊎◌, List, [], ◌∷◌, ◌++◌, length, map}
use Rattle.std.proofs.Common.{slice_range, get_or, sym, ap, subst, ◌∙◌, arith}
use Rattle.std.proofs.lemmas.{List.get_or_default, List.map_more, List.take_all, Result.IfOk-from_err}
use Rattle.grid_core.specs.{declared.bounds.Bounds.Bounds, Bounds.AreEmpty, Bounds.no_bounds}
use Rattle.tile_work.specs.{Cutting.in_band, OpenBounds.bounds_for}
use Rattle.tile_work.proofs.Parts.{length_part, get_or_part}
use Rattle.tile_work.proofs.open_bounds.OpenBounds.cut.Goals as goal

-- the bounds that a slice has where it ends
abbrev none : Bounds
none = record { left = 0; right = 0; top = 0; bottom = 0 }

pub in_band-requires : goal.in_band-requires
in_band-requires c =
    let first = c.args.first in
    let end = c.args.end in
    let table = c.args.self.now in
    let i = c.loop-bounds.bounds-index in
    let same : c.deref.result.now ≡ table = c.deref.ensures.value ∙ c.self.view_is in
    let long = length_part table first end c.requires.order c.requires.within in
    let count = ap (λ (xs : List Bounds). length (slice_range xs first end)) same in
    let here : i < end - first = omega (arith, c.loop-bounds-test.true, long, count) in
    let is : get_or (slice_range c.deref.result.now first end) i none ≡ bounds_for table (first + i) =
    ap (λ (xs : List Bounds). get_or (slice_range xs first end) i none) same
    ∙ get_or_part table first end c.requires.order c.requires.within i none here
    ∙ get_or_default table (first + i) none no_bounds (omega (arith, here, c.requires.within)) in
    subst (λ (b : Bounds). AreEmpty b ⊎ (c.args.rows ≤ b.top)) (sym is)
    (c.requires.rows (first + i) (omega arith) (omega (arith, here)))

pub returns-in_err-tiles : goal.returns-in_err-tiles
returns-in_err-tiles c = IfOk-from_err _ _ c.from_residual.ensures.0

pub loop-bounds-init : goal.loop-bounds-init
loop-bounds-init c = c.in_ok-tiles.ensures.items

pub returns-in_err-push : goal.returns-in_err-push
returns-in_err-push c = IfOk-from_err _ _ c.from_residual-in_err-push.ensures.0

pub loop-bounds-preserved : goal.loop-bounds-preserved
loop-bounds-preserved c =
    let bounds = slice_range c.deref.result.now c.args.first c.args.end in
    let i = c.loop-bounds.bounds-index in
    c.in_ok-push.ensures.items
    ∙ ap (λ (b : Bounds). c.loop-bounds.tiles.items ++ b ∷ []) c.in_band.ensures
    ∙ ap (λ (bs : List Bounds). bs ++ in_band c.args.rows (get_or bounds i none) ∷ []) c.loop-bounds.invariant
    ∙ sym (map_more (in_band c.args.rows) bounds i none c.loop-bounds-test.true)

pub returns : goal.returns
returns c =
    let bounds = slice_range c.deref.result.now c.args.first c.args.end in
    c.loop-bounds.invariant
    ∙ ap (λ (bs : List Bounds). map (in_band c.args.rows) bs)
    (take_all c.loop-bounds.bounds-index bounds c.loop-bounds-test.false)
    ∙ ap (λ (bs : List Bounds). map (in_band c.args.rows) (slice_range bs c.args.first c.args.end))
    (c.deref.ensures.value ∙ c.self.view_is)
