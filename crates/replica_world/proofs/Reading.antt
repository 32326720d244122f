-- Frames that are read from bytes that spell one.
use Rattle.std.proofs.Common.{◌≡◌, ◌⊎◌, inl, inr, Result, Ok, IsErrOf}
use Rattle.spd_codec.specs.{declared.error.SpdError.SpdError, declared.frame.Frame.Frame}
use Rattle.spd_codec.specs.declared.error.SpdError.TheVariants as errors

-- what is read is what is spelled
pub read_right : (result : Result Frame SpdError) (read frame : Frame) → result ≡ Ok read
    → (result ≡ Ok frame) ⊎ IsErrOf result errors.Memory → read ≡ frame
read_right result read frame is (inl same) = cc
read_right result read frame is (inr memory) = cc
