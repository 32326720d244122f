use Rattle.std.proofs.Common.{[], ◌∷◌, ap, arith, length, length-append}
use Rattle.std.proofs.lemmas.List.Elements.{All-nil, All-push, All-same}
use Rattle.std.proofs.lemmas.Result.{IfOk-from_err}
use Rattle.live_board.specs.Opening.{IsNewPeek}
use Rattle.live_board.proofs.opening.peeks_of.Goals as goal

pub returns-in_err-peeks : goal.returns-in_err-peeks
returns-in_err-peeks c = IfOk-from_err _ _ c.from_residual.ensures.0

pub loop-peek-init : goal.loop-peek-init
loop-peek-init c =
    let none = c.in_ok-peeks.ensures.items in
    (ap length none, All-same (IsNewPeek c.args.board.now) _ _ none (All-nil (IsNewPeek c.args.board.now)))

pub returns-in_err-push : goal.returns-in_err-push
returns-in_err-push c = IfOk-from_err _ _ c.from_residual-in_err-push.ensures.0

pub loop-peek-preserved : goal.loop-peek-preserved
loop-peek-preserved c =
    let pushed = c.in_ok-push.ensures.items in
    let so_far = c.loop-peek.invariant in (
      omega (arith, so_far.0, ap length pushed, length-append c.loop-peek.peeks.items (c.peek.result ∷ [])),
      All-same (IsNewPeek c.args.board.now) _ _ pushed
          (All-push (IsNewPeek c.args.board.now) _ _ so_far.1 c.peek.ensures),
    )

pub returns : goal.returns
returns c = (omega arith, c.loop-peek.invariant.1)
