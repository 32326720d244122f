use Rattle.std.proofs.Common.{subst}
use Rattle.core_rules.specs.{Work.IsQuiet, Invariant.HasLawfulImage, Invariant.HasReconstruction}
use Rattle.page_board.specs.{Board.PageBoard, Stored.board_of}
use Rattle.page_board.proofs.Wholeness.{image_graymap}
use Rattle.page_board.proofs.board.PageBoard.image_file.Goals as goal

pub raw_of-requires : goal.raw_of-requires
raw_of-requires c =
    image_graymap (board_of c.self.inside) c.image.result.now c.below_keeps_maxval.ensures c.self.invariant.whole
    c.image.ensures

pub returns-clause-lawful : goal.returns-clause-lawful
returns-clause-lawful c = subst (λ (b : PageBoard). HasLawfulImage b.core) c.self.view_is c.image.ensures.lawful

pub returns-clause-quiet : goal.returns-clause-quiet
returns-clause-quiet c =
    subst (λ (b : PageBoard). IsQuiet b.core → HasReconstruction b.core) c.self.view_is c.image.ensures.quiet
