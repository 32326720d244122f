use Rattle.std.proofs.{Common.ap, Common.length, Common.sym, Common.◌∙◌, lemmas.Bool.eqb-false, lemmas.List.length-map}
use Rattle.command_line.proofs.Parsing.{read_by_clap, refused_by_clap}
use Rattle.command_line.proofs.words.read_words.Goals as goal

pub returns-in-Ok-try_get_matches_from-clause-reads :
    goal.returns-in-Ok-try_get_matches_from-clause-reads
returns-in-Ok-try_get_matches_from-clause-reads c =
    let words = c.args.words.now in
    let some = eqb-false (length words) 0 (sym c.is_empty.ensures ∙ c.if-is_empty.false) in
    let parsed = c.in-Ok-try_get_matches_from.ensures in
    read_by_clap _ c.in-Ok.ensures _ (λ none. some (sym (length-map words _) ∙ none)) _ parsed.kinds parsed.matches _
    c.call_of.ensures

pub returns-in-Ok-try_get_matches_from-clause-no_word :
    goal.returns-in-Ok-try_get_matches_from-clause-no_word
returns-in-Ok-try_get_matches_from-clause-no_word c none =
    absurd (eqb-false (length c.args.words.now) 0 (sym c.is_empty.ensures ∙ c.if-is_empty.false) (ap length none))

pub returns-in-Err-clause-reads : goal.returns-in-Err-clause-reads
returns-in-Err-clause-reads c =
    let words = c.args.words.now in
    let some = eqb-false (length words) 0 (sym c.is_empty.ensures ∙ c.if-is_empty.false) in
    refused_by_clap _ c.in-Ok.ensures _ (λ none. some (sym (length-map words _) ∙ none)) c.in-Err.error
    c.in-Err.ensures.kinds _ c.refusal_of.ensures

pub returns-in-Err-clause-no_word : goal.returns-in-Err-clause-no_word
returns-in-Err-clause-no_word c none =
    absurd (eqb-false (length c.args.words.now) 0 (sym c.is_empty.ensures ∙ c.if-is_empty.false) (ap length none))
