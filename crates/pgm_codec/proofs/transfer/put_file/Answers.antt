use Rattle.std.proofs.Common.{◌≡◌, ◌++◌, [], subst, refl, rules, flat_map}
use Rattle.std.proofs.KnownBytes.{Appends-nil}
use Rattle.byte_devices.specs.Transfer.{AppendsFront}
use Rattle.byte_devices.proofs.Shared.{OnErr-always}
use Rattle.pgm_codec.specs.Writing.{sample_bytes, raw_header, raw_text}
use Rattle.pgm_codec.proofs.{Blocks.front_behind, Blocks.puts_behind, Maxval.samples_are_within}
use Rattle.pgm_codec.proofs.transfer.put_file.Goals as goal

pub returns-in_err-put_all : goal.returns-in_err-put_all
unfolding raw_text
returns-in_err-put_all g c =
    let image = c.args.image.now in
    let raster = flat_map (sample_bytes image.maxval) image.raster.cells in
    let old = g.K.Sink.seen c.args.sink.now in
    let new = g.K.Sink.seen c.put_all.new.sink in
    let put = subst (AppendsFront old.written new.written) c.requires.header c.in_err-put_all.ensures.front in
    let kept : AppendsFront old.written new.written (raw_text image) =
    front_behind (raw_text image) [] (raw_header image) raster old.written old.written new.written refl
    (Appends-nil old.written) put in
    record {
      text = search rules;
      steady = search rules;
      fault = search rules;
      front = OnErr-always _ c.from_residual.result kept;
    }

pub returns : goal.returns
unfolding raw_text
returns g c =
    let image = c.args.image.now in
    let raster = flat_map (sample_bytes c.maxval-maxval.result) c.samples-samples.result.now in
    let old = g.K.Sink.seen c.args.sink.now in
    let mid = g.K.Sink.seen c.put_all.new.sink in
    let new = g.K.Sink.seen c.put_raster.new.sink in
    let put = c.in_ok-put_all.ensures in
    let parts : raw_text image ≡ c.args.header.now ++ raster =
    rw (c.requires.header, c.maxval-maxval.ensures.value, c.samples-samples.ensures.value) refl in
    puts_behind (raw_text image) c.args.header.now raster old mid new c.put_raster.result parts put.text put.steady
    c.put_raster.ensures

pub put_raster-requires-clause-within : goal.put_raster-requires-clause-within
put_raster-requires-clause-within g c = samples_are_within c.args.image.now c.samples-samples.result.now
    c.maxval-maxval.result c.samples-samples.ensures.is_graymap c.samples-samples.ensures.value
    c.maxval-maxval.ensures.value

pub put_raster-requires-clause-room : goal.put_raster-requires-clause-room
put_raster-requires-clause-room g c = c.requires.room
