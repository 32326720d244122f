use Rattle.std.proofs.Common.{◌*◌}
use Rattle.band_growth.proofs.Joined.{halves_apart, halves_grown, lower_can_grow, parts_joined}
use Rattle.raster_sweeps.proofs.Grown.{grown_twice}
use Rattle.band_growth.proofs.bands.+bands.Goals as goal

pub grow_halves-grow_both-requires-clause-below : goal.grow_halves-grow_both-requires-clause-below
grow_halves-grow_both-requires-clause-below g t c κs within =
    let limits = c.args.limits.now in
    lower_can_grow limits.size c.args.cut c.requires.cut limits.mask.now c.args.image.now c.split_at.result.0.now
    c.split_at.result.1.now c.split_at_mut-upper.result.0.now c.split_at_mut-upper.result.1.now
    (parts_joined limits.mask.now c.split_at.result.0.now c.split_at.result.1.now (c.args.cut * limits.size.w)
    c.split_at.ensures.front c.split_at.ensures.back) c.split_at_mut-upper.ensures.value c.split_at.ensures.front_len
    c.split_at_mut-upper.ensures.front_len c.requires.close

pub grow_halves-returns : goal.grow_halves-returns
grow_halves-returns g t c =
    let limits = c.args.limits.now in
    let size = limits.size in
    let cut = c.args.cut in
    let mask = limits.mask.now in
    let image = c.args.image.now in
    let upper_mask = c.split_at.result.0.now in
    let lower_mask = c.split_at.result.1.now in
    let upper = c.split_at_mut-upper.result.0.now in
    let lower = c.split_at_mut-upper.result.1.now in
    let joined =
    parts_joined mask upper_mask lower_mask (cut * size.w) c.split_at.ensures.front c.split_at.ensures.back in
    let above = c.grow_both.ensures.above in
    let below = c.grow_both.ensures.below in
    record {
      grown =
          halves_grown size cut c.requires.cut mask image upper_mask lower_mask upper lower joined
          c.split_at_mut-upper.ensures.value c.split_at.ensures.front_len c.split_at_mut-upper.ensures.front_len
          c.requires.close limits.conn c.grow_both.new.upper c.grow_both.new.lower above.grown below.grown;
      apart = λ closed_above closed_below.
          halves_apart size cut c.requires.cut mask image upper_mask lower_mask upper lower joined
          c.split_at_mut-upper.ensures.value c.split_at.ensures.front_len c.split_at_mut-upper.ensures.front_len
          c.requires.close limits.conn c.grow_both.new.upper c.grow_both.new.lower above.grown below.grown
          (above.closed closed_above) (below.closed closed_below);
    }

pub grow_bands-returns-then-lower : goal.grow_bands-returns-then-lower
grow_bands-returns-then-lower g t c = record {
  grown = grown_twice c.grow_halves-upper.ensures.grown c.close_seam.ensures.grown;
  closed = λ yes. c.close_seam.ensures.closed;
}

pub grow_bands-returns-then-upper-2 : goal.grow_bands-returns-then-upper-2
grow_bands-returns-then-upper-2 g t c = record {
  grown = grown_twice c.grow_halves-upper.ensures.grown c.close_bands.ensures.grown;
  closed = λ yes. c.close_bands.ensures.closed;
}
