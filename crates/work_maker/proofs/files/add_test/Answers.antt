use Rattle.std.proofs.Common.{refl}
use Rattle.work_maker.proofs.Appends.{file_put, two_more}
use Rattle.work_maker.proofs.files.add_test.Goals as goal

pub returns : goal.returns
returns c =
    two_more _ _ _ _ _
    (file_put _ _ _ _ _ _ c.in_ok-add_test_file.ensures refl c.in_ok-text.ensures)
    (file_put _ _ _ _ _ _ c.in_ok-add_test_file-2.ensures refl c.in_ok-answer.ensures)
