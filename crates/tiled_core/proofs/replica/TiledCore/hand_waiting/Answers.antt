-- What the tactics leave open of `hand_waiting`.
use Rattle.std.proofs.Common.{ap, arith, ◌∙◌}
use Rattle.grid_core.specs.Tiles.{Tiles, rect_of}
use Rattle.tiled_core.proofs.HandedOver.{all_over, none_over, one_more_over}
use Rattle.tiled_core.proofs.replica.TiledCore.hand_waiting.Goals as goal

pub loop-left-init : goal.loop-left-init
loop-left-init c =
    none_over c.args.tile c.rect-rect.result c.args.self.now c.waiting-count.result c.requires
    (c.rect-rect.ensures.value ∙ ap (λ (t : Tiles). rect_of t c.args.tile) c.tiling.ensures.value)
    c.waiting-count.ensures

pub loop-left-preserved : goal.loop-left-preserved
loop-left-preserved c =
    one_more_over c.args.tile c.rect-rect.result c.args.self.now c.loop-left.left c.loop-left.self
    c.hand_in-handed.result c.hand_in-handed.new.self (omega arith) c.loop-left.invariant c.hand_in-handed.ensures

pub returns-clause-handed : goal.returns-clause-handed
returns-clause-handed c =
    (all_over c.args.tile c.rect-rect.result c.args.self.now c.loop-left.left c.loop-left.self (omega arith)
    c.loop-left.invariant).0

pub returns-clause-none : goal.returns-clause-none
returns-clause-none c =
    (all_over c.args.tile c.rect-rect.result c.args.self.now c.loop-left.left c.loop-left.self (omega arith)
    c.loop-left.invariant).1
