use Rattle.spd_codec.proofs.Files as files
use Rattle.spd_codec.proofs.state_file.one_file.Goals as goal

pub returns : goal.returns
returns c = λ bytes frames others a b.
    files.one_file c.at_most_one_frame.ensures c.one_fault.ensures.first c.one_fault.ensures.none frames others bytes a
    b
