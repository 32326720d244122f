use Rattle.std.proofs.Common.{Ok, Err}
use Rattle.edit_lang.specs.Lines.{lines_of}
use Rattle.edit_lang.proofs.Meaning.{lines_once, lines_mean, every_text}
use Rattle.edit_lang.proofs.text.one_meaning.Goals as goal

pub returns : goal.returns
returns c = record {
  one_list = λ text deltas others h k. let e =
      lines_once c.one_refusal.ensures 1 (lines_of text) (Ok deltas) (Ok others) h k in cc;
  no_fault = λ text deltas e h k. let e =
      lines_once c.one_refusal.ensures 1 (lines_of text) (Ok deltas) (Err e) h k in cc;
  one_fault = λ text d e h k. let e = lines_once c.one_refusal.ensures 1 (lines_of text) (Err d) (Err e) h k in cc;
  every_text = λ text. let m = lines_mean 1 (lines_of text) in every_text 1 (lines_of text) m.0 m.1;
}
