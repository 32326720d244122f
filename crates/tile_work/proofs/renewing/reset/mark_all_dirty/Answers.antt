-- What the tactics leave open of `mark_all_dirty`.
use Rattle.std.proofs.Common.{◌≡◌, ℕ, ◌+◌, ◌<◌, List, length, get_or, take, subst, sym, inl, inr}
use Rattle.std.proofs.Common.{true, [], ◌∷◌, ◌++◌, arith, Contains, slice_set}
use Rattle.std.proofs.lemmas.List.{take_all, take_more}
use Rattle.std.proofs.lemmas.List.Elements.{Contains-append_left, Contains-push}
use Rattle.border_queues.specs.TileWork.{TileWork, work_of}
use Rattle.tile_work.specs.Renewing.{AreDirtyWhere}
use Rattle.tile_work.proofs.RenewingBounds.{listed_or_last}
use Rattle.tile_work.proofs.RenewingWork.{all_dirty_join, all_dirty_stay, one_made_dirty}
use Rattle.tile_work.proofs.renewing.reset.mark_all_dirty.Goals as goal

-- one more tile of the list is dirty
one_more_dirty : (tiles : List ℕ) (i : ℕ) (before middle after : List TileWork) → i < length tiles
    → get_or tiles i 0 < length middle → AreDirtyWhere (Contains (take i tiles)) before middle
    → after ≡ slice_set middle (get_or tiles i 0) (record (work_of middle (get_or tiles i 0)) { dirty = true })
    → AreDirtyWhere (Contains (take (i + 1) tiles)) before after
one_more_dirty tiles i before middle after within there so_far is =
    all_dirty_join so_far
    (subst (λ (rows : List TileWork). AreDirtyWhere (λ t. t ≡ get_or tiles i 0) middle rows) (sym is)
    (one_made_dirty middle (get_or tiles i 0) there))
    (λ t _. (
      λ listed. listed_or_last tiles i t within listed,
      λ some.
          subst (λ (l : List ℕ). Contains l t) (sym (take_more tiles i 0 within))
          (elim some [
            | inl earlier ↦ Contains-append_left (take i tiles) _ t earlier
            | inr last ↦
                subst (λ u. Contains (take i tiles ++ (get_or tiles i 0 ∷ [])) u) (sym last)
                (Contains-push (take i tiles) (get_or tiles i 0))
          ]),
    ))

pub loop-tile-init : goal.loop-tile-init
loop-tile-init c = all_dirty_stay (λ t listed. omega (arith, listed.1))

pub mark_dirty-requires : goal.mark_dirty-requires
mark_dirty-requires c =
    omega (arith, c.requires c.loop-tile.tile-index c.loop-tile-test.true, c.loop-tile.invariant.count)

pub loop-tile-preserved : goal.loop-tile-preserved
loop-tile-preserved c =
    one_more_dirty c.args.tiles.now c.loop-tile.tile-index c.args.work.now c.loop-tile.work c.mark_dirty.new.self
    c.loop-tile-test.true
    (omega (arith, c.requires c.loop-tile.tile-index c.loop-tile-test.true, c.loop-tile.invariant.count))
    c.loop-tile.invariant c.mark_dirty.ensures

pub returns : goal.returns
returns c =
    subst (λ ts. AreDirtyWhere (Contains ts) c.args.work.now c.loop-tile.work)
    (take_all c.loop-tile.tile-index c.args.tiles.now c.loop-tile-test.false) c.loop-tile.invariant
