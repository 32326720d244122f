use Rattle.std.proofs.Common.{◌≡◌, ℕ, ◌+◌, arith, subst}
use Rattle.link_nodes.specs.Cursors.{IsPlaceOf}
use Rattle.link_nodes.proofs.Cursors.{place_behind}
use Rattle.link_nodes.proofs.cursor.Cursor.place_of.Goals as goal

pub returns-then-number-self-2 : goal.returns-then-number-self-2
returns-then-number-self-2 c =
    let cursor = c.args.self.now in
    let next : cursor.number + 1 ≡ c.args.number = omega (arith, c.if-number-gt0.true, c.if-number-self-2.true) in
    subst (λ (n : ℕ). IsPlaceOf c.args.state.now n cursor.behind) next
    (place_behind c.args.state.now cursor.number cursor.behind c.requires.behind c.requires.more)
