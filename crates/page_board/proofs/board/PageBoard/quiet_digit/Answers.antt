use Rattle.std.proofs.Common.{◌≡◌, true, false, inl, inr, refl, sym, subst}
use Rattle.core_rules.specs.Work.{IsQuiet}
use Rattle.page_board.specs.Board.{PageBoard}
use Rattle.page_board.proofs.board.PageBoard.quiet_digit.Goals as goal

pub returns-then-is_quiet : goal.returns-then-is_quiet
returns-then-is_quiet c =
    inl (refl, subst (λ (b : PageBoard). IsQuiet b.core) c.self.view_is (c.is_quiet.ensures.0 c.if-is_quiet.true))

pub returns-else-is_quiet : goal.returns-else-is_quiet
returns-else-is_quiet c =
    inr (
      refl,
      λ quiet.
          let is : c.is_quiet.result ≡ true =
          c.is_quiet.ensures.1 (subst (λ (b : PageBoard). IsQuiet b.core) (sym c.self.view_is) quiet) in
          let is_not : c.is_quiet.result ≡ false = c.if-is_quiet.false in
          cc,
    )
