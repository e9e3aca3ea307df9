use Rattle.std.proofs.Common.{subst, sym, Ok, List, ℕ}
use Rattle.std.specs.Prelude.{IfSome}
use Rattle.farm_tree.specs.Reading.{IsReadAnswer, file_at}
use Rattle.farm_cli.proofs.Hostings.{line_read}
use Rattle.farm_cli.proofs.hosting.read_login.Goals as goal

pub returns-in-Ok-clause-line : goal.returns-in-Ok-clause-line
returns-in-Ok-clause-line g c =
    let files = g.T.Tree.files c.args.tree.now in
    let path = c.args.login.password_file.now in
    let answer = subst (λ (bytes : List ℕ). IfSome files (λ held. IsReadAnswer (file_at held path) (Ok bytes))) (sym c.as_slice.ensures) c.in-Ok.ensures.answer in
    line_read files path c.args.login.user.now c.as_slice.result.now c.line_with.result answer c.line_with.ensures.line
