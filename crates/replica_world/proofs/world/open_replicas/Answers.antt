use Rattle.std.proofs.Common.{◌≡◌, ◌+◌, ◌++◌, ◌∷◌, [], List, ap, arith, replicate, ◌∙◌, ℕ}
use Rattle.std.proofs.lemmas.{List.replicate_more, Result.IfOk-from_err}
use Rattle.replica_world.specs.{Opening.fresh_replica, World.Replica}
use Rattle.replica_world.proofs.world.open_replicas.Goals as goal

-- one more, at the end of so many that are the same
one_more : (replicas longer : List Replica) (replica fresh : Replica) (count : ℕ) → longer ≡ replicas ++ replica ∷ []
    → replicas ≡ replicate count fresh → replica ≡ fresh → longer ≡ replicate (count + 1) fresh
one_more replicas longer replica fresh count pushed all same = rw (pushed, all, same) (replicate_more count fresh)

pub returns-in_err-replicas : goal.returns-in_err-replicas
returns-in_err-replicas c = IfOk-from_err _ _ c.from_residual.ensures.0

pub loop-replica-init : goal.loop-replica-init
loop-replica-init c = c.in_ok-replicas.ensures.items

pub returns-in_err-push-in-Ok : goal.returns-in_err-push-in-Ok
returns-in_err-push-in-Ok c = IfOk-from_err _ _ c.from_residual-in_err-push-in-Ok.ensures.0

pub loop-replica-preserved : goal.loop-replica-preserved
loop-replica-preserved c = one_more _ _ _ _ _ c.in_ok-push-in-Ok.ensures.items c.loop-replica.invariant
    c.in-Ok.ensures.value

pub returns : goal.returns
returns c =
    let all : c.loop-replica._replica ≡ c.args.count = omega arith in
    c.loop-replica.invariant
    ∙ ap (λ (count : ℕ). replicate count (fresh_replica c.args.mask.now.raster c.args.conn)) all
