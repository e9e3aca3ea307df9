use Rattle.std.proofs.Common.{◌≡◌, ◌⊎◌, [], true, map, string_bytes, sym, ap, ◌∙◌}
use Rattle.clap.specs.Words.{IsAmong, app_of, fault_of, is_simple_and_free, kind_of}
use Rattle.clap.specs.declared.error.kind.ErrorKind.TheVariants.{OutOfMemory}
use Rattle.command_line.specs.Helping.{answers_to}
use Rattle.command_line.proofs.AskingLemmas.{accepted_asks_nothing, asked_is_among, helping_is_simple, map_ok, other_is_not_asked}
use Rattle.command_line.proofs.asking.told.Goals as goal

pub returns-in_ok-unfit-in-Ok-clause-wrong : goal.returns-in_ok-unfit-in-Ok-clause-wrong
unfolding answers_to
returns-in_ok-unfit-in-Ok-clause-wrong c =
    let words = map string_bytes c.args.words.now in
    let simple : is_simple_and_free (app_of c.in_ok-program.program) ≡ true = ap is_simple_and_free c.in_ok-program.ensures ∙ helping_is_simple in
    let none : fault_of (app_of c.in_ok-program.program) words ≡ [] = c.in-Ok.ensures.kinds simple in
    λ _. accepted_asks_nothing (answers_to words) (sym (ap (λ app. fault_of app words) c.in_ok-program.ensures) ∙ none)

pub returns-in-Err-clause-help : goal.returns-in-Err-clause-help
unfolding answers_to
returns-in-Err-clause-help c =
    let words = map string_bytes c.args.words.now in
    let simple : is_simple_and_free (app_of c.in_ok-program.program) ≡ true = ap is_simple_and_free c.in_ok-program.ensures ∙ helping_is_simple in
    let kinds = ap (λ app. fault_of app words) c.in_ok-program.ensures in
    let has : (kind_of c.in-Err.error ≡ OutOfMemory) ⊎ IsAmong (kind_of c.in-Err.error) (fault_of (app_of c.in_ok-program.program) words) = c.in-Err.ensures.kinds simple in
    let known : (kind_of c.in-Err.error ≡ OutOfMemory) ⊎ IsAmong (kind_of c.in-Err.error) (answers_to words) = rw (← kinds) has in
    map_ok (λ asked said help. asked_is_among (answers_to words) (kind_of c.in-Err.error) known (said help)) c.answered.result c.answered.ensures.help

pub returns-in-Err-clause-wrong : goal.returns-in-Err-clause-wrong
unfolding answers_to
returns-in-Err-clause-wrong c =
    let words = map string_bytes c.args.words.now in
    let simple : is_simple_and_free (app_of c.in_ok-program.program) ≡ true = ap is_simple_and_free c.in_ok-program.ensures ∙ helping_is_simple in
    let kinds = ap (λ app. fault_of app words) c.in_ok-program.ensures in
    let has : (kind_of c.in-Err.error ≡ OutOfMemory) ⊎ IsAmong (kind_of c.in-Err.error) (fault_of (app_of c.in_ok-program.program) words) = c.in-Err.ensures.kinds simple in
    let known : (kind_of c.in-Err.error ≡ OutOfMemory) ⊎ IsAmong (kind_of c.in-Err.error) (answers_to words) = rw (← kinds) has in
    map_ok (λ asked said wrong. other_is_not_asked (answers_to words) (kind_of c.in-Err.error) known (said wrong)) c.answered.result c.answered.ensures.wrong
