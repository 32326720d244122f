use Rattle.view_session.proofs.laws.reading_laws.Goals as goal

pub returns : goal.returns
returns c = record {
  one_list = c.one_meaning.ensures.one_list;
  no_edit_fault = c.one_meaning.ensures.no_fault;
  one_edit_fault = c.one_meaning.ensures.one_fault;
  one_image = c.one_image.ensures;
  no_pgm_fault = c.one_fault.ensures.none;
  one_pgm_fault = c.one_fault.ensures.first;
}
