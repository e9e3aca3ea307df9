use Rattle.std.proofs.Common.{refl, ap, ◌∙◌, rules}
use Rattle.work_maker.proofs.Appends.{file_put, two_more}
use Rattle.work_maker.proofs.files.add_settings.Goals as goal

pub returns : goal.returns
returns c =
    two_more _ _ _ _ _
    (file_put _ _ _ _ _ _ c.in_ok-add_problem_file.ensures refl (c.from_vec.ensures ∙ ap (λ v. v.items) c.into_bytes.ensures.value ∙ c.in_ok-yaml.ensures.ok))
    (file_put _ _ _ _ _ _ c.in_ok-add_problem_file-2.ensures refl (c.from_vec-2.ensures ∙ search rules))
