use Rattle.std.proofs.Common.{◌≡◌, ◌*◌, ◌-◌, ◌<◌, ◌⊎◌, inl, inr, ap, arith}
use Rattle.grid_core.specs.Tiles.{columns_of}
use Rattle.reset_core.proofs.Bands.Parts.{columns-within, inner_between}
use Rattle.reset_core.proofs.replica.bands.inner_tiles.Goals.{then-above-eq0, else-above-eq0}
use Rattle.reset_core.proofs.replica.bands.inner_tiles.Goals as goal

pub overflow_sub-end : goal.overflow_sub-end
overflow_sub-end c =
    let few = columns-within c.args.band.now c.count.ensures.tiled in
    omega (arith, few, c.columns_of-columns.ensures, c.count.ensures.value)

pub returns-then-below-height : goal.returns-then-below-height
returns-then-below-height c =
    let band = c.args.band.now in
    let side = ap (λ n. c.args.above * n) c.side.ensures.value in
    let top : ((c.args.above ≡ 0) × (c.if-above-eq0.first ≡ 0))
    ⊎ ((0 < c.args.above) × (c.if-above-eq0.first ≡ columns_of band)) = elim c.if-above-eq0.branch [
      | then-above-eq0 w ↦ inl (omega arith, omega arith)
      | else-above-eq0 w ↦ inr (omega arith, omega arith)
    ] in
    record {
      inner = λ t.
          inner_between c.args.whole.now c.args.above band c.if-above-eq0.first c.count-end.result t
          c.count-end.ensures.tiled top (inl (omega (arith, side), c.count-end.ensures.value));
    }

pub returns-else-below-height : goal.returns-else-below-height
returns-else-below-height c =
    let band = c.args.band.now in
    let side = ap (λ n. c.args.above * n) c.side.ensures.value in
    let top : ((c.args.above ≡ 0) × (c.if-above-eq0.first ≡ 0))
    ⊎ ((0 < c.args.above) × (c.if-above-eq0.first ≡ columns_of band)) = elim c.if-above-eq0.branch [
      | then-above-eq0 w ↦ inl (omega arith, omega arith)
      | else-above-eq0 w ↦ inr (omega arith, omega arith)
    ] in
    record {
      inner = λ t.
          inner_between c.args.whole.now c.args.above band c.if-above-eq0.first
          (c.count.result - c.columns_of-columns.result) t c.count.ensures.tiled top
          (inr (λ last. absurd (omega (arith, last, side)), omega arith));
    }
