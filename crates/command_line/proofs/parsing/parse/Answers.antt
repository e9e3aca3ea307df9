use Rattle.std.proofs.Common.{◌≡◌, ◌≢◌, ◌⊎◌, [], true, false, length, map, string_bytes, sym, ap, ◌∙◌}
use Rattle.std.specs.Prelude.{◌==◌}
use Rattle.clap.specs.Words.{IsAmong, app_of, fault_of, is_simple, is_simple_and_free, kind_of, subcommand_of}
use Rattle.clap.specs.declared.error.kind.ErrorKind.TheVariants.{OutOfMemory}
use Rattle.command_line.specs.Commands.{farm}
use Rattle.command_line.specs.CommandLine.{is_accepted, named_command}
use Rattle.command_line.proofs.ParsingLemmas.{farm_is_simple, farm_is_simple_and_free, some_kind}
use Rattle.command_line.proofs.parsing.parse.Goals as goal

pub returns-in-Ok-clause-accepted : goal.returns-in-Ok-clause-accepted
unfolding is_accepted
returns-in-Ok-clause-accepted c =
    let words = map string_bytes c.args.words.now in
    let simple : is_simple_and_free (app_of c.in_ok-command.command) ≡ true = ap is_simple_and_free c.in_ok-command.ensures ∙ farm_is_simple_and_free in
    let none : fault_of (app_of c.in_ok-command.command) words ≡ [] = c.in-Ok.ensures.kinds simple in
    ap (λ kinds. length kinds == 0) (sym (ap (λ app. fault_of app words) c.in_ok-command.ensures) ∙ none)

pub returns-in-Ok-clause-named : goal.returns-in-Ok-clause-named
unfolding named_command
returns-in-Ok-clause-named c =
    let words = map string_bytes c.args.words.now in
    let simple : is_simple (app_of c.in_ok-command.command) ≡ true = ap is_simple c.in_ok-command.ensures ∙ farm_is_simple in
    (c.in-Ok.ensures.matches simple).1 ∙ ap (λ app. subcommand_of app words) c.in_ok-command.ensures

pub returns-clause-refused : goal.returns-clause-refused
unfolding is_accepted
returns-clause-refused c =
    let words = map string_bytes c.args.words.now in
    let simple : is_simple_and_free (app_of c.in_ok-command.command) ≡ true = ap is_simple_and_free c.in_ok-command.ensures ∙ farm_is_simple_and_free in
    let kinds = ap (λ app. fault_of app words) c.in_ok-command.ensures in
    let has : (kind_of c.in-Err.error ≡ OutOfMemory) ⊎ IsAmong (kind_of c.in-Err.error) (fault_of (app_of c.in_ok-command.command) words) = c.in-Err.ensures.kinds simple in
    let known : (kind_of c.in-Err.error ≡ OutOfMemory) ⊎ IsAmong (kind_of c.in-Err.error) (fault_of farm words) = rw (← kinds) has in
    let other : kind_of c.in-Err.error ≢ OutOfMemory = λ q. (let kind : c.kind.result ≡ OutOfMemory = c.kind.ensures ∙ q in let bad : false ≡ true = rw (kind) at c.if-eq.ensures in cc) in
    some_kind (fault_of farm words) (kind_of c.in-Err.error) other known
