use Rattle.std.proofs.Common.{subst}
use Rattle.stroke_lattice.specs.{Pieces.items_of, Places.item_of, Filling.AllBefore, declared.entries.Entry.Entry}
use Rattle.stroke_lattice.proofs.Items.{new_stroke, new_tombstone}
use Rattle.stroke_lattice.proofs.state.State.put_last.Goals as goal

pub insert-requires : goal.insert-requires
insert-requires c = new_stroke c.args.self.now c.in-Stroke.tag c.in-Stroke.stroke.now
    (subst (λ (e : Entry). AllBefore (items_of c.args.self.now) (item_of e)) c.in-Stroke.is c.requires)

pub bury-requires : goal.bury-requires
bury-requires c = new_tombstone c.args.self.now c.in-Tombstone.tag
    (subst (λ (e : Entry). AllBefore (items_of c.args.self.now) (item_of e)) c.in-Tombstone.is c.requires)
