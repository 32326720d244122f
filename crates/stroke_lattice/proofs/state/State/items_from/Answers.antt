use Rattle.std.proofs.Common.{ℕ, List, sym, ap, ◌∙◌, filter}
use Rattle.stroke_core.specs.Seed.{Seed}
use Rattle.stroke_lattice.specs.Places.{items_in, items_from, is_from}
use Rattle.stroke_lattice.proofs.Placing.{from_stroke, from_tombstone, kept_items}
use Rattle.stroke_lattice.specs.declared.piece.Place.TheVariants as places
use Rattle.stroke_lattice.proofs.state.State.items_from.Goals as goal

pub returns-in-Stroke : goal.returns-in-Stroke
returns-in-Stroke c =
    let es = c.self.inside.strokes.entries in
    let ks = c.self.inside.tombstones.keys in
    c.new.ensures
    ∙ ap (λ (l : List (ℕ × Seed)). items_in l c.range-in-Stroke.result) (c.range.ensures.between tt)
    ∙ ap (items_in _) (c.range-in-Stroke.ensures.between tt)
    ∙ from_stroke c.in-Stroke.tag es ks
    ∙ ap (filter (is_from (places.Stroke c.in-Stroke.tag)))
    (kept_items es ks c.args.self.now c.self.view_is c.range.ensures.ordered c.range-in-Stroke.ensures.ordered)
    ∙ ap (items_from c.args.self.now) (sym c.in-Stroke.is)

pub returns-in-Tombstone : goal.returns-in-Tombstone
returns-in-Tombstone c =
    let es = c.self.inside.strokes.entries in
    let ks = c.self.inside.tombstones.keys in
    c.new-in-Tombstone.ensures
    ∙ ap (λ (l : List (ℕ × Seed)). items_in l c.range-in-Tombstone-2.result) (c.range-in-Tombstone.ensures.between tt)
    ∙ ap (items_in _) (c.range-in-Tombstone-2.ensures.between tt)
    ∙ from_tombstone c.in-Tombstone.tag es ks
    ∙ ap (filter (is_from (places.Tombstone c.in-Tombstone.tag)))
    (kept_items es ks c.args.self.now c.self.view_is c.range-in-Tombstone.ensures.ordered
    c.range-in-Tombstone-2.ensures.ordered)
    ∙ ap (items_from c.args.self.now) (sym c.in-Tombstone.is)
