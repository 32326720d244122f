use Rattle.std.proofs.Common.{rules}
use Rattle.page_service.proofs.{Keepers.lost_after, Tracking.IsJoined-saved}
use Rattle.page_service.proofs.keeper.StateKeeper.keep.Goals as goal

pub returns-in-Ok-clause-joins : goal.returns-in-Ok-clause-joins
returns-in-Ok-clause-joins g c =
    λ tracked behind kept.
    let s = g.S.Kept in
    IsJoined-saved s.version s.spells s.has s.takes s.notes g.met.S.Kept.takes_count g.met.S.Kept.notes_count _ _
    (search rules) tracked

pub returns-in-Err-clause-settles : goal.returns-in-Err-clause-settles
returns-in-Err-clause-settles g c =
    let s = g.S.Kept in
    let did = c.in-Err.ensures in (
      search rules,
      lost_after s.spells s.has s.takes s.notes g.T.StateStore.seen c.args.self.now c.save-saved.new.keeper
          c.save-saved.new.self c.note-in-Err.new.self c.in-Err.why did.not_saved did.files c.note-in-Err.ensures,
    )
