use Rattle.spd_codec.proofs.Files as files
use Rattle.spd_codec.proofs.state_file.one_file_fault.Goals as goal

pub returns : goal.returns
returns c = record {
  memory = files.memory_is_no_file_fault c.one_fault.ensures.memory;
  first = files.one_file_fault c.at_most_one_frame.ensures c.one_fault.ensures.first c.one_fault.ensures.none;
  none = files.no_file_fault c.at_most_one_frame.ensures c.one_fault.ensures.first c.one_fault.ensures.none;
}
