use Rattle.std.proofs.Common.{ℕ, ◌≡◌, ◌-◌, List, Some, None, Bool, true, false, cond, is_some, length, take, codes, refl, ◌∙◌}
use Rattle.std.proofs.lemmas.Str.Pattern.{ends_text}
use Rattle.package_notes.proofs.files.is_input.Goals as goal

some_if : (t : Bool) (text : List ℕ) → t ≡ is_some (cond t (Some text) None)
some_if true text = refl
some_if false text = refl

pub returns : goal.returns
returns c =
    let path = c.args.path.now in
    ends_text c.ends_with.result (codes ".in") path c.ends_with.ensures.cases ∙ some_if _ (take (length path - 3) path)
