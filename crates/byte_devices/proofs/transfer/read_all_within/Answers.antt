use Rattle.std.proofs.Common.{◌≡◌, ◌+◌, take, sym, ap, ◌∙◌, subst, inl, inr, refl, arith, rules, length-drop}
use Rattle.std.proofs.{lemmas.Result.err_from_is_err_and, KnownBytes.Consumes-trans, lemmas.Grind.common_steps}
use Rattle.std.proofs.lemmas.List.{places, with_items_is}
use Rattle.std.specs.Io.KnownBytes.{Consumes}
use Rattle.byte_devices.proofs.Pieces.{filled_more}
use Rattle.byte_devices.proofs.transfer.read_all_within.Goals as goal

pub loop-pull-preserved : goal.loop-pull-preserved
loop-pull-preserved g c =
    let before = c.loop-pull.invariant in
    let pulled = c.in_ok-n.ensures in
    let n = c.in_ok-n.n in
    let filled = c.loop-pull.filled in
    let now = c.pull_behind.new.bytes in
    let items = with_items_is c.make_room.new.bytes now (search (rules, places)) in
    let front : take filled now ≡ take filled c.loop-pull.bytes.items =
    pulled.front ∙ ap (take filled) c.deref_mut.ensures.value ∙ c.in_ok-make_room.ensures.front in
    let room = c.in_ok-make_room.ensures.room in
    let len = c.deref_mut.ensures.len in
    record {
      consumed = subst (Consumes _ _) (filled_more c.loop-pull.bytes.items now filled n front
          ∙ ap (take (filled + n)) (sym items))
          (Consumes-trans _ _ _ _ _ before.consumed pulled.pulls.bytes.0);
      at_least = omega (arith, pulled.pulls.pulls);
      at_most = omega (arith, pulled.pulls.pulls);
      failures = pulled.pulls.failures ∙ before.failures;
      ends = pulled.pulls.ends.1 (omega arith) ∙ before.ends;
      filled = omega (arith, pulled.pulls.bound.0, length-drop filled now, pulled.len, len, room);
      room = omega (arith, room);
    }

pub overflow_add-filled : goal.overflow_add-filled
overflow_add-filled g c = grind (arith, common_steps)

pub returns-in_err-n-clause-to_end : goal.returns-in_err-n-clause-to_end
returns-in_err-n-clause-to_end g c =
    let p = err_from_is_err_and c.from_residual-in_err-n.result c.from_residual-in_err-n.ensures.1 in
    let before = c.loop-pull.invariant in
    let pulled = c.in_err-n.ensures.pulls in
    rw (p.1, p.2) (record {
      at_end = inr (inl refl);
      ended = inr (inl refl);
      steady = tt;
      in_time = omega (arith, before.at_most, pulled.pulls);
      device = λ _. inl (omega (arith, before.failures, pulled.failures));
      failure = λ _. refl;
    })
