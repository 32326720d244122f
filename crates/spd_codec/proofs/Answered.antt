-- What a reader that answers as reading does, or that memory ran out, tells of the bytes.
use Rattle.std.proofs.Common.{◌≡◌, ◌⊎◌, ℕ, ◌<◌, List, length, Result, Ok, Err, sym, ap, subst, ◌∙◌, inl, inr, IfOk}
use Rattle.std.proofs.Common.{IfErr, IsErrOf}
use Rattle.spd_codec.specs.{declared.error.SpdError.SpdError, declared.frame.Frame.Frame, Spelling.max_bytes}
use Rattle.spd_codec.specs.{Spelling.Spells, Faults.IsFault, Reading.GivesOrMemory, Reading.frame_at}
use Rattle.spd_codec.proofs.{Fields.IsBytes, Frames.found, Frames.refused, FrameLaws.again, FrameLaws.too_many}
use Rattle.spd_codec.proofs.Steps.{ok_is, err_is, done, failed, no_error}
use Rattle.spd_codec.specs.declared.error.SpdError.TheVariants as errors

-- what is found is spelled
pub is_found : (bytes : List ℕ) (r : Result Frame SpdError) → IsBytes bytes
    → GivesOrMemory (λ frame. frame) r (frame_at bytes)
    → IfOk r (λ frame. Spells bytes frame.conn frame.print frame.delta)
is_found bytes (Ok frame) small given = found bytes frame small given
is_found bytes (Err e) small given = tt

-- what is refused has the fault
pub is_refused : (bytes : List ℕ) (r : Result Frame SpdError) → IsBytes bytes
    → GivesOrMemory (λ frame. frame) r (frame_at bytes)
    → IfErr r (λ e. (e ≡ errors.Memory) ⊎ IsFault bytes e)
is_refused bytes (Ok frame) small given = tt
is_refused bytes (Err e) small (inl memory) = inl memory
is_refused bytes (Err e) small (inr given) = inr (refused bytes e small given)

-- what is refused as too long is too long
pub is_too_long : (bytes : List ℕ) (r : Result Frame SpdError) → IsBytes bytes
    → GivesOrMemory (λ frame. frame) r (frame_at bytes) → IsErrOf r errors.TooLong → max_bytes < length bytes
is_too_long bytes (Ok frame) small given is = absurd cc
is_too_long bytes (Err e) small (inl memory) is =
    let no : errors.Memory ≡ errors.TooLong = sym memory ∙ err_is {A = Frame} e errors.TooLong is in absurd cc
is_too_long bytes (Err e) small (inr given) is = too_many bytes
    (subst (IsFault bytes) (err_is {A = Frame} e errors.TooLong is) (refused bytes e small given))

-- what is spelled is found
pub is_only : (bytes : List ℕ) (r : Result Frame SpdError) → GivesOrMemory (λ frame. frame) r (frame_at bytes)
    → (frame : Frame) → Spells bytes frame.conn frame.print frame.delta → (r ≡ Ok frame) ⊎ IsErrOf r errors.Memory
is_only bytes (Ok other) given frame h =
    inl (ap (λ (f : Frame). done f) (ok_is other frame (sym given ∙ again bytes frame h)))
is_only bytes (Err e) (inl memory) frame h = inr (ap (λ (d : SpdError). failed {A = Frame} d) memory)
is_only bytes (Err e) (inr given) frame h = absurd (no_error frame e (sym (again bytes frame h) ∙ given))
