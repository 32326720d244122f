use Rattle.std.proofs.Common.{◌≡◌, ℕ, length, arith, refl, sym, ap, subst, ◌∙◌, IsTrue, nat_eq}
use Rattle.std.proofs.lemmas.Bool.Decides.{nat_tests}
use Rattle.stroke_lattice.specs.{State.State, Pieces.strokes_of, Pieces.tombstones_of}
use Rattle.link_nodes.specs.Cursors.{IsCursorOf}
use Rattle.link_nodes.proofs.cursor.Cursor.is_of.Goals as goal

same : (a b : ℕ) → IsTrue (nat_eq a b) → a ≡ b
same a b is = grind (arith, nat_tests)

pub returns-then-self-len : goal.returns-then-self-len
returns-then-self-len c = λ is.
    let s = c.args.state.now in
    let cursor = c.args.self.now in
    let lower = c.requires cursor refl in
    let strokes : length (strokes_of lower.0) ≡ length (strokes_of s) =
    sym lower.1.strokes ∙ c.if-self-len.true ∙ c.len.ensures.value
    ∙ ap length (c.walks_give_one_list.ensures.strokes s c.strokes.result c.strokes.ensures.strokes) in
    let tombstones : length (tombstones_of lower.0) ≡ length (tombstones_of s) =
    sym lower.1.tombstones ∙ same cursor.tombstones c.len-then-self-len.result is ∙ c.len-then-self-len.ensures.value
    ∙ ap length (c.walks_give_one_list.ensures.tombstones s c.tombstones.result c.tombstones.ensures.tombstones) in
    subst (λ (state : State). IsCursorOf state cursor)
    (c.counts_decide_a_higher_state.ensures lower.0 s lower.2 strokes tombstones) lower.1
