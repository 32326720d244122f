use Rattle.std.proofs.{Common.inr, Common.refl, lemmas.Result.err_from_is_err_and}
use Rattle.view_session.proofs.KeptViews.{memory_behind}
use Rattle.view_session.proofs.showing.show_strokes.Goals as goal

pub returns-in_err-gathered-clause-refused : goal.returns-in_err-gathered-clause-refused
returns-in_err-gathered-clause-refused g c =
    let p = err_from_is_err_and c.from_residual.result c.from_residual.ensures.1 in
    rw (p.1, p.2) c.in_err-gathered.ensures.refused

pub reconstruction_in-requires : goal.reconstruction_in-requires
reconstruction_in-requires g c = c.in_ok-gathered.ensures.fits

pub returns-in_err-image-clause-refused : goal.returns-in_err-image-clause-refused
returns-in_err-image-clause-refused g c =
    let p = err_from_is_err_and c.from_residual-in_err-image.result c.from_residual-in_err-image.ensures.1 in
    let found = c.in_ok-gathered.gathered in
    rw (p.1, p.2) (inr (memory_behind c.args.conn c.args.old.now c.args.input.now found.mask found.state
    c.in_ok-gathered.ensures.gathered))

pub returns-clause-shown : goal.returns-clause-shown
returns-clause-shown g c =
    let found = c.in_ok-gathered.gathered in
    record {
      mask = found.mask;
      are_for = record {
        conn_is = refl;
        print_is = c.in_ok-gathered.ensures.print;
        width_is = c.width.ensures.value;
        height_is = c.height.ensures.value;
      };
      gathered = c.in_ok-gathered.ensures.gathered;
      shown = c.in_ok-image.ensures;
    }
