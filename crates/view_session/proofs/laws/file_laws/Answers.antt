use Rattle.view_session.proofs.laws.file_laws.Goals as goal

pub returns : goal.returns
returns c = record {
  one_file = c.one_file.ensures;
  no_fault = c.one_file_fault.ensures.none;
  one_fault = c.one_file_fault.ensures.first;
}
