use Rattle.std.proofs.Common.{[], ◌∷◌, ap, arith, length, length-append}
use Rattle.std.proofs.lemmas.List.Elements.{All-nil, All-push, All-same}
use Rattle.std.proofs.lemmas.Result.{IfOk-from_err}
use Rattle.live_board.specs.Opening.{IsNewHand}
use Rattle.live_board.proofs.opening.hands_of.Goals as goal

pub returns-in_err-hands : goal.returns-in_err-hands
returns-in_err-hands c = IfOk-from_err _ _ c.from_residual.ensures.0

pub loop-hand-init : goal.loop-hand-init
loop-hand-init c =
    let none = c.in_ok-hands.ensures.items in
    (ap length none, All-same (IsNewHand c.args.board.now) _ _ none (All-nil (IsNewHand c.args.board.now)))

pub returns-in_err-push : goal.returns-in_err-push
returns-in_err-push c = IfOk-from_err _ _ c.from_residual-in_err-push.ensures.0

pub loop-hand-preserved : goal.loop-hand-preserved
loop-hand-preserved c =
    let pushed = c.in_ok-push.ensures.items in
    let so_far = c.loop-hand.invariant in (
      omega (arith, so_far.0, ap length pushed, length-append c.loop-hand.hands.items (c.hand.result ∷ [])),
      All-same (IsNewHand c.args.board.now) _ _ pushed
          (All-push (IsNewHand c.args.board.now) _ _ so_far.1 c.hand.ensures),
    )

pub returns : goal.returns
returns c = (omega arith, c.loop-hand.invariant.1)
