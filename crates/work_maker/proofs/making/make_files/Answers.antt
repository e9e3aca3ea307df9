use Rattle.work_maker.proofs.Made.{whole, files_read}
use Rattle.work_maker.proofs.making.make_files.Goals as goal

pub returns-clause-contest : goal.returns-clause-contest
returns-clause-contest c =
    files_read c.args.number c.args.problems c.args.submissions _ c.requires.problems.0 c.requires.problems.1 c.requires.submissions.1
    (whole c.args.number c.args.problems c.args.submissions _ _ _ _ _ c.new-files.ensures c.new-draws.ensures c.in_ok-add_problems.ensures.files c.in_ok-add_problems.ensures.draws c.in_ok-add_submissions.ensures)
