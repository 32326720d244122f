use Rattle.std.proofs.Common.{◌≡◌, ◌++◌, ◌<◌, ◌≤◌, ◌^◌, inl, inr, refl, subst, ap, ◌∙◌, drop, take, length, arith, List}
use Rattle.std.proofs.Common.{ℕ}
use Rattle.std.proofs.lemmas.Result.{IfOk-from_err, err_from_is_err_and}
use Rattle.spd_codec.specs.{Faults.IsFault, Spelling.short}
use Rattle.spd_codec.specs.StateFile.{behind_length, too_long, cut_short, in_frame}
use Rattle.spd_codec.proofs.Files.{two_bytes, all_behind, taken_behind}
use Rattle.spd_codec.proofs.state_file.next_frame.Goals as goal

pub returns-then-long-gt-MAX_BYTES-clause-fault : goal.returns-then-long-gt-MAX_BYTES-clause-fault
returns-then-long-gt-MAX_BYTES-clause-fault c =
    let small : c.from-long.result < 2 ^ 16 = omega arith in
    let parts : c.args.bytes.now ≡ short c.from-long.result ++ drop 2 c.args.bytes.now =
    two_bytes c.args.bytes.now c.from-long.result c.in-len2-up.len_at_least c.type_inv.bytes
    (c.from-long.ensures ∙ c.from_be_bytes.ensures) in
    inr (behind_length c.from-long.result (drop 2 c.args.bytes.now) small parts (too_long (omega arith) refl))

pub returns-then-rest-long-clause-fault : goal.returns-then-rest-long-clause-fault
returns-then-rest-long-clause-fault c =
    let small : c.from-long.result < 2 ^ 16 = omega arith in
    let parts : c.args.bytes.now ≡ short c.from-long.result ++ drop 2 c.args.bytes.now =
    two_bytes c.args.bytes.now c.from-long.result c.in-len2-up.len_at_least c.type_inv.bytes
    (c.from-long.ensures ∙ c.from_be_bytes.ensures) in
    let short_of : length (drop 2 c.args.bytes.now) < c.from-long.result =
    rw (all_behind c.args.bytes.now) at c.if-rest-long.true in
    inr (behind_length c.from-long.result (drop 2 c.args.bytes.now) small parts
    (cut_short (omega arith) short_of refl))

pub returns-in_err-decode-clause-fault : goal.returns-in_err-decode-clause-fault
returns-in_err-decode-clause-fault c =
    let p = err_from_is_err_and c.from_residual.result c.from_residual.ensures.1 in
    let small : c.from-long.result < 2 ^ 16 = omega arith in
    let parts : c.args.bytes.now ≡ short c.from-long.result ++ drop 2 c.args.bytes.now =
    two_bytes c.args.bytes.now c.from-long.result c.in-len2-up.len_at_least c.type_inv.bytes
    (c.from-long.ensures ∙ c.from_be_bytes.ensures) in
    let enough : c.from-long.result ≤ length (drop 2 c.args.bytes.now) =
    rw (all_behind c.args.bytes.now) at c.if-rest-long.false in
    let text : c.split_at.result.0.now ≡ take c.from-long.result (drop 2 c.args.bytes.now) =
    c.split_at.ensures.front ∙ ap (take c.from-long.result) (all_behind c.args.bytes.now) in
    rw (p.1, p.2) (elim c.in_err-decode.ensures.fault [
      | inl e ↦ inl e
      | inr fault ↦ inr (behind_length c.from-long.result (drop 2 c.args.bytes.now) small parts
          (in_frame (omega arith) enough (subst (λ (t : List ℕ). IsFault t c.in_err-decode.field-0.0) text fault)))
    ])

pub returns-in_err-decode-clause-found : goal.returns-in_err-decode-clause-found
returns-in_err-decode-clause-found c = IfOk-from_err _ _ c.from_residual.ensures.0

pub returns-in_err-decode-clause-shorter : goal.returns-in_err-decode-clause-shorter
returns-in_err-decode-clause-shorter c = IfOk-from_err _ _ c.from_residual.ensures.0

pub returns-clause-found : goal.returns-clause-found
returns-clause-found c =
    let parts : c.args.bytes.now ≡ short c.from-long.result ++ drop 2 c.args.bytes.now =
    two_bytes c.args.bytes.now c.from-long.result c.in-len2-up.len_at_least c.type_inv.bytes
    (c.from-long.ensures ∙ c.from_be_bytes.ensures) in
    record {
      text = c.split_at.result.0.now;
      spells = c.in_ok-decode.ensures.found;
      parts = taken_behind _ _ _ _ _ _ parts (all_behind c.args.bytes.now) c.split_at.ensures.front
          c.split_at.ensures.back c.split_at.ensures.front_len;
    }
