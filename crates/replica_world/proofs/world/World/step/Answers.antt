use Rattle.replica_world.proofs.world.World.step.Goals as goal

pub returns-in-Edit-clause-done : goal.returns-in-Edit-clause-done
returns-in-Edit-clause-done c = rw c.in-Edit.is c.edit.ensures.done

pub returns-in-Send-clause-done : goal.returns-in-Send-clause-done
returns-in-Send-clause-done c = rw c.in-Send.is c.send.ensures.done

pub returns-in-Deliver-clause-done : goal.returns-in-Deliver-clause-done
returns-in-Deliver-clause-done c = rw c.in-Deliver.is c.deliver.ensures.done

pub returns-in-Take-clause-done : goal.returns-in-Take-clause-done
returns-in-Take-clause-done c = rw c.in-Take.is c.take.ensures.done

pub returns-in-Hand-clause-done : goal.returns-in-Hand-clause-done
returns-in-Hand-clause-done c = rw c.in-Hand.is c.hand.ensures.done
