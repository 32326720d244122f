use Rattle.std.proofs.Common.{◌≡◌, ◌++◌, ap, ◌∙◌, length, List, ℕ, append_assoc, arith}
use Rattle.spd_codec.specs.{declared.version.Version.TheVariants.Second, Spelling.short, Spelling.frame_text}
use Rattle.spd_codec.proofs.Lengths.{frame_text_length}
use Rattle.spd_codec.proofs.state_file.put_piece.Goals as goal

pub returns : goal.returns
returns c =
    let text = frame_text Second c.args.conn c.args.print.now c.args.piece.now in
    let long = frame_text_length c.args.conn c.args.print.now c.args.piece.now
    c.in_ok-put_frame.ensures.spells.print_length in
    let count : c.frame_len.result ≡ length text = omega (arith, c.frame_len.ensures, c.requires.short) in
    record {
      text = c.in_ok-put_frame.ensures.text ∙ ap (λ (t : List ℕ). t ++ text) c.in_ok-put_number.ensures
          ∙ append_assoc c.args.out.now.items (short c.frame_len.result) text
          ∙ ap (λ (n : ℕ). c.args.out.now.items ++ (short n ++ text)) count;
      spells = c.in_ok-put_frame.ensures.spells;
    }
