-- Which faults a field may have: neither want of memory nor too great a length.
use Rattle.std.proofs.Common.{◌≡◌, Bool, true, false, cond, Some, refl, ap, ◌∙◌}
use Rattle.spd_codec.specs.{declared.error.SpdError.SpdError, Faults.unless}
use Rattle.stroke_core.specs.declared.error.StrokeError.TheVariants as why
use Rattle.spd_codec.specs.declared.error.SpdError.TheVariants as errors

-- whether a field may have this fault: all but two
abbrev pub of_field : SpdError → Bool
of_field errors.TooLong = false
of_field errors.Memory = false
of_field _ = true

-- it is neither want of memory nor too great a length
abbrev pub IsReal : SpdError → Type 0
IsReal e = of_field e ≡ true

-- the reason of a test
pub unless_real : (b : Bool) (d e : SpdError) → IsReal d → unless b d ≡ Some e → IsReal e
unless_real true d e real h = absurd cc
unless_real false d e real h = let same : e ≡ d = cc in ap of_field same ∙ real

-- the faults of a number of runs
pub count_real : (a b : Bool) (e : SpdError)
    → cond a (Some (errors.BadStroke why.NoRuns)) (unless b (errors.BadStroke why.TooManyRuns)) ≡ Some e → IsReal e
count_real true b e h = unless_real false (errors.BadStroke why.NoRuns) e refl h
count_real false b e h = unless_real b (errors.BadStroke why.TooManyRuns) e refl h
