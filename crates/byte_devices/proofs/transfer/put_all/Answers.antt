use Rattle.std.proofs.Common.{◌≡◌, ◌++◌, length, take, sym, ap, ◌∙◌, subst, take_at, refl, rules}
use Rattle.std.proofs.KnownBytes.{Appends-trans, Appends-kept}
use Rattle.std.specs.Io.KnownBytes.{Appends}
use Rattle.byte_devices.specs.Transfer.{AppendsFront}
use Rattle.byte_devices.proofs.{Pieces.moves_front, Shared.OnErr-always}
use Rattle.byte_devices.proofs.transfer.put_all.Goals as goal

pub returns-in_err-n : goal.returns-in_err-n
returns-in_err-n g c =
    let old = g.K.Sink.seen c.args.sink.now in
    let new = g.K.Sink.seen c.put.new.self in
    let (done, split, taken) = c.loop-rest.invariant.taken in
    let front : take (length done) c.args.bytes.now ≡ done = ap (take (length done)) split ∙ take_at _ _ _ refl in
    let kept : AppendsFront old.written new.written c.args.bytes.now =
    (length done, subst (Appends _ _) (sym front) (Appends-kept _ _ _ _ taken c.in_err-n.ensures.bytes)) in
    record {
      text = search rules;
      steady = search rules;
      fault = search rules;
      front = OnErr-always _ c.from_residual.result kept;
    }

pub loop-rest-preserved : goal.loop-rest-preserved
loop-rest-preserved g c =
    let (done, split, taken) = c.loop-rest.invariant.taken in
    let rest = c.loop-rest.rest.now in
    let n = c.in_ok-n.n in
    record {
      taken = (
        done ++ take n rest,
        moves_front _ done rest n split,
        Appends-trans _ _ _ _ _ taken
            c.in_ok-n.ensures.bytes,
      );
      failures = c.in_ok-n.ensures.failures ∙ c.loop-rest.invariant.failures;
    }
