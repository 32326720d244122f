-- What the tactics leave open of `mark_if_linked`.
use Rattle.std.proofs.Common.{◌≡◌, ℕ, ◌<◌, false, true, Bool, List, inl, inr, sym, subst, ◌∙◌, slice_index_or}
use Rattle.std.proofs.lemmas.Bool.{iff_false}
use Rattle.tile_work.specs.{Linking.IsLinkedBy, Marks.Adds, TileSet.Has}
use Rattle.tile_work.proofs.HittingMarks.{adds_same, grows_none}
use Rattle.tile_work.proofs.hits.links.Links.mark_if_linked.Goals as goal

-- these tiles are marked already
adds_none : {P : ℕ → Type 0} {m q : List Bool} → ((t : ℕ) → P t → Has m t) → Adds P m q m q
adds_none had = record {
  grows = grows_none;
  marked = λ t. (λ has. inl has, λ either. elim either [ inl has ↦ has | inr p ↦ had t p ]);
}

pub contains-requires : goal.contains-requires
contains-requires c = subst (λ n. c.args.other < n) (sym c.requires.parts.each_tile.count) c.requires.other

pub are_linked-requires-clause-on_tiling : goal.are_linked-requires-clause-on_tiling
are_linked-requires-clause-on_tiling c = c.requires.parts.on_tiling

pub are_linked-requires-clause-tile : goal.are_linked-requires-clause-tile
are_linked-requires-clause-tile c = c.requires.tile

pub are_linked-requires-clause-other : goal.are_linked-requires-clause-other
are_linked-requires-clause-other c = c.requires.other

pub mark-requires-clause-tile : goal.mark-requires-clause-tile
mark-requires-clause-tile c = subst (λ n. c.args.other < n) (sym c.requires.parts.each_tile.count) c.requires.other

pub mark-requires-clause-queue : goal.mark-requires-clause-queue
mark-requires-clause-queue c = c.requires.parts.each_tile.queue_count

pub returns-then-are_linked : goal.returns-then-are_linked
returns-then-are_linked c =
    adds_same c.mark.ensures (λ t linked. linked.0)
    (λ t same. (
      same,
      subst (λ u. IsLinkedBy c.args.self.now c.args.tile u) (sym same)
          (c.are_linked.ensures.0 c.if-are_linked.true),
    ))

pub returns-else-not-contains : goal.returns-else-not-contains
returns-else-not-contains c = elim c.else-not-contains.branch [
  | goal.else-not-contains-via-then-not-contains+else-are_linked w ↦
      adds_none (λ t linked.
      absurd (iff_false w.are_linked.ensures w.if-are_linked.false
      (subst (λ u. IsLinkedBy c.args.self.now c.args.tile u) linked.0 linked.1)))
  | goal.else-not-contains-via-else-not-contains w ↦
      let has : slice_index_or c.args.marks.now c.args.other false ≡ true =
      sym c.contains.ensures ∙ w.if-not-contains.false in
      adds_none (λ t linked.
      subst (λ u. Has c.args.marks.now u) (sym linked.0)
      (subst (λ n. c.args.other < n) (sym c.requires.parts.each_tile.count) c.requires.other, has))
]
