use Rattle.std.proofs.Common.{ℕ, List, ap, ◌∙◌}
use Rattle.stroke_core.specs.Seed.{Seed}
use Rattle.stroke_lattice.specs.Places.{items_in}
use Rattle.stroke_lattice.proofs.Placing.{from_everywhere, kept_items}
use Rattle.stroke_lattice.proofs.state.State.items.Goals as goal

pub returns-clause-items : goal.returns-clause-items
returns-clause-items c =
    let es = c.self.inside.strokes.entries in
    let ks = c.self.inside.tombstones.keys in
    c.new.ensures
    ∙ ap (λ (l : List (ℕ × Seed)). items_in l c.range-2.result) (c.range.ensures.between tt)
    ∙ ap (items_in _) (c.range-2.ensures.between tt)
    ∙ from_everywhere es ks
    ∙ kept_items es ks c.args.self.now c.self.view_is c.range.ensures.ordered c.range-2.ensures.ordered
