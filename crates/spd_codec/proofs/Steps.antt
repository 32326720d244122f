-- What a step of reading answered, from what all of the reading did.
use Rattle.std.proofs.Common.{◌≡◌, Bool, true, false, cond, Option, Some, None, Result, Ok, Err, refl, ap, inl, inr}
use Rattle.std.proofs.Common.{◌⊎◌}
use Rattle.spd_codec.specs.{declared.error.SpdError.SpdError, Reading.◌>>=◌, Reading.judged}

-- a fault, where its type is to be said
abbrev pub failed : {A : Type 0} → SpdError → Result A SpdError
failed e = Err e

-- a value, likewise
abbrev pub done : {A : Type 0} → A → Result A SpdError
done x = Ok x

-- equal answers have equal values
pub ok_is : {A : Type 0} (x y : A) → done x ≡ done y → x ≡ y
ok_is x y e = cc

-- equal faults
pub err_is : {A : Type 0} (d e : SpdError) → failed {A = A} d ≡ failed e → d ≡ e
err_is d e h = cc

-- what is done has not failed
pub no_error : {A : Type 0} (x : A) (e : SpdError) → done x ≡ failed e → ⊥
no_error x e h = absurd cc

-- a step that did not fail
pub bind_ok : {A B : Type 0} (r : Result A SpdError) (f : A → Result B SpdError) (y : B) → (r >>= f) ≡ Ok y
    → (x : A) × (r ≡ Ok x) × (f x ≡ Ok y)
bind_ok (Ok x) f y e = (x, refl, e)
bind_ok (Err d) f y e = absurd cc

-- a step that failed, or one that did not and after which the rest failed
pub bind_err : {A B : Type 0} (r : Result A SpdError) (f : A → Result B SpdError) (d : SpdError)
    → (r >>= f) ≡ Err d → (r ≡ Err d) ⊎ ((x : A) × (r ≡ Ok x) × (f x ≡ Err d))
bind_err (Ok x) f d e = inr (x, refl, e)
bind_err {A} {B} (Err c) f d e = inl (ap (λ (x : SpdError). failed {A = A} x) (err_is {A = B} c d e))

-- a value with which nothing is wrong
pub judged_ok : {A : Type 0} (o : Option SpdError) (x y : A) → judged o x ≡ Ok y → (o ≡ None) × (x ≡ y)
judged_ok None x y e = (refl, ok_is x y e)
judged_ok (Some d) x y e = absurd cc

-- what is wrong with a value
pub judged_err : {A : Type 0} (o : Option SpdError) (x : A) (e : SpdError) → judged o x ≡ Err e → o ≡ Some e
judged_err None x e h = absurd cc
judged_err {A} (Some d) x e h = ap (λ (y : SpdError). Some y) (err_is {A = A} d e h)

-- a test that did not fail
pub guard_ok : {A : Type 0} (b : Bool) (d : SpdError) (x y : A) → cond b (Err d) (Ok x) ≡ Ok y → (b ≡ false) × (x ≡ y)
guard_ok true d x y e = absurd cc
guard_ok false d x y e = (refl, ok_is x y e)

-- a test that failed
pub guard_err : {A : Type 0} (b : Bool) (d e : SpdError) (x : A) → cond b (failed d) (Ok x) ≡ failed e
    → (b ≡ true) × (d ≡ e)
guard_err {A} true d e x h = (refl, err_is {A = A} d e h)
guard_err false d e x h = absurd cc
