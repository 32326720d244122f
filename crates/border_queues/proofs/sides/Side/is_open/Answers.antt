use Rattle.std.proofs.Common.{◌≡◌, ◌∙◌, ◌<◌, ℕ, List, false, arith, below_more, get_or, get_or-take}
use Rattle.std.proofs.Common.{max, min, take, nat_lt}
use Rattle.std.proofs.lemmas.{Bool.le-ltb, Bool.ltb-false, Bool.or_from, Bool.or_parts}
use Rattle.border_queues.specs.Sides.{level_at}
use Rattle.border_queues.proofs.sides.Side.is_open.Goals as goal

pub loop-i-preserved : goal.loop-i-preserved
loop-i-preserved c =
    let side = c.args.self.now in
    let i = c.loop-i.i in
    let any = c.loop-i.any in
    let so_far = c.loop-i.invariant in
    let within : i < c.args.count = omega arith in
    let read = λ (values : List ℕ). get_or-take c.args.count values i 0 within in
    let level : c.min.result ≡ level_at side i =
    c.min.ensures ∙ (λ k. min (c.max.ensures k) (read side.limits.now k))
    ∙ (λ k. min (max (read side.own.now k) (read side.risen.now k)) (get_or side.limits.now i 0)) in
    let beyond : ℕ = get_or (take c.args.count side.beyond.now) i 0 in
    let same : beyond ≡ get_or side.beyond.now i 0 = read side.beyond.now in (
      (λ shut.
          let none = or_parts any (nat_lt beyond c.min.result) shut in
          below_more _ _ (so_far.0 none.0) (omega (arith, ltb-false beyond c.min.result none.1, same, level))),
      (λ none.
          let before : any ≡ false = so_far.1 (λ k below. none k (omega arith)) in
          let here = none i (omega arith) in
          or_from any (nat_lt beyond c.min.result) before
          (le-ltb beyond c.min.result (omega (arith, here, same, level)))),
    )
