use Rattle.std.proofs.Common.{ℕ, ◌≤◌, List, ◌++◌, ap, ◌∙◌, flat_map}
use Rattle.std.proofs.lemmas.List.Elements.{All-from_get_or}
use Rattle.pgm_codec.specs.{Graymap.Graymap, Writing.raw_header, Writing.raw_text, Writing.sample_bytes}
use Rattle.page_board.proofs.raw.raw_of.Goals as goal

pub push_samples-requires : goal.push_samples-requires
push_samples-requires c =
    rw c.cells-samples.ensures.values
    (All-from_get_or (λ s. s ≤ c.args.maxval) c.args.grid.now.cells 0 c.requires.samples_within)

pub returns : goal.returns
unfolding raw_text
returns c =
    let maxval = c.args.maxval in
    let g : Graymap = record { raster = c.args.grid.now; maxval = maxval } in
    c.in_ok-push_samples.ensures
    ∙ ap (λ (text : List ℕ). text ++ flat_map (sample_bytes maxval) c.cells-samples.result.now)
    (c.in_ok-extend_from_slice.ensures.items
    ∙ ap (λ (text : List ℕ). text ++ c.as_bytes.result.now) c.in_ok-out.ensures.items
    ∙ c.as_bytes.ensures.value ∙ c.in_ok-header.ensures)
    ∙ ap (λ (cells : List ℕ). raw_header g ++ flat_map (sample_bytes maxval) cells) c.cells-samples.ensures.values
