-- What holds of an answer.
use Rattle.std.proofs.Common.{Result, Ok, Err, IfOk}

-- two facts of an `Ok` give what they imply together
pub ok_both : {T E : Type 0} (r : Result T E) (P Q R : T → Type 0) → ((x : T) → P x → Q x → R x) → IfOk r P → IfOk r Q →
    IfOk r R
ok_both (Ok x) P Q R f p q = f x p q
ok_both (Err e) P Q R f p q = tt
