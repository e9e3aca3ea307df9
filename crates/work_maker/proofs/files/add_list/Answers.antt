use Rattle.work_maker.proofs.Appends.{file_put}
use Rattle.work_maker.proofs.files.add_list.Goals as goal

pub returns : goal.returns
returns c = file_put _ _ _ _ _ _ c.in_ok-add_file.ensures c.in_ok-path.ensures.ok c.from_vec.ensures
