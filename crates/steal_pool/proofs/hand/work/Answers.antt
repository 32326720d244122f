use Rattle.steal_pool.proofs.Turns.{all_reported, one_more}
use Rattle.steal_pool.proofs.hand.work.Goals as goal

pub report-requires-clause-reported : goal.report-requires-clause-reported
report-requires-clause-reported g c =
    one_more c.args.desk.now c.steal.new.self c.in-Some.job c.sweep-turn.result.0 c.sweep-turn.result.1
    c.in-Some.ensures.got c.sweep-turn.ensures c.requires.reported

pub returns-then-report-clause-reported : goal.returns-then-report-clause-reported
returns-then-report-clause-reported g c =
    all_reported c.args.desk.now c.steal.new.self c.in-Some.job c.sweep-turn.result.0 c.sweep-turn.result.1
    c.in-Some.ensures.got c.sweep-turn.ensures c.requires.reported c.report.new.self c.report.ensures.got
    c.report.ensures.reports

pub returns-else-report-clause-reported : goal.returns-else-report-clause-reported
returns-else-report-clause-reported g c =
    all_reported c.args.desk.now c.steal.new.self c.in-Some.job c.sweep-turn.result.0 c.sweep-turn.result.1
    c.in-Some.ensures.got c.sweep-turn.ensures c.requires.reported c.report.new.self c.report.ensures.got
    c.report.ensures.reports
