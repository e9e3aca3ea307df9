use Rattle.std.proofs.Common.{◌+◌, Some, None, ◌∙◌, ap, sym}
use Rattle.remote_host.specs.declared.asks.Wrong.TheVariants as wrong
use Rattle.remote_host.specs.Bodies.{fetch_said}
use Rattle.remote_host.specs.Talk.{turns, fetch_next}
use Rattle.remote_host.proofs.Talking.{unread, said_as, said_wrong, first_is}
use Rattle.remote_host.proofs.talker.Talker.fetch.Goals as goal

pub returns-in-Err-clause-talks : goal.returns-in-Err-clause-talks
returns-in-Err-clause-talks g c = λ start claims fetched posted kept fine s. c.in-Err.ensures.talks start claims fetched posted (λ n a more. fetch_next c.args.caller.now (turns c.args.caller.now n) kept more (fetch_said a.body)) fine s

pub returns-in-Err-read_fetched-clause-talks : goal.returns-in-Err-read_fetched-clause-talks
returns-in-Err-read_fetched-clause-talks g c = λ start claims fetched posted kept fine s. unread _ start _ claims (fetched + 1) posted (λ n a more. fetch_next c.args.caller.now (turns c.args.caller.now n) kept more (fetch_said a.body)) None _ _ tt (c.in-Ok.ensures.fine ∙ fine) (c.in-Ok.ensures.talks start claims fetched posted (λ n a more. fetch_next c.args.caller.now (turns c.args.caller.now n) kept more (fetch_said a.body)) fine s)

pub returns-in-None-clause-talks : goal.returns-in-None-clause-talks
returns-in-None-clause-talks g c =
    λ start claims fetched posted kept fine s. said_wrong _ start _ claims (fetched + 1) posted None _ wrong.BadBody (c.meet.ensures.kept ∙ first_is _ _ (c.in-Ok.ensures.fine ∙ fine))
    (said_as _ start _ claims (fetched + 1) posted (λ n q more. fetch_next c.args.caller.now (turns c.args.caller.now n) kept more q) fetch_said None _ tt None (c.in-Ok.ensures.talks start claims fetched posted (λ n a more. fetch_next c.args.caller.now (turns c.args.caller.now n) kept more (fetch_said a.body)) fine s) (sym c.in-None.is ∙ c.in-Ok-read_fetched.ensures ∙ ap fetch_said c.body.ensures))

pub returns-in-Some-clause-talks : goal.returns-in-Some-clause-talks
returns-in-Some-clause-talks g c =
    λ start claims fetched posted kept fine s. said_as _ start _ claims (fetched + 1) posted (λ n q more. fetch_next c.args.caller.now (turns c.args.caller.now n) kept more q) fetch_said None _ tt (Some c.in-Some.said) (c.in-Ok.ensures.talks start claims fetched posted (λ n a more. fetch_next c.args.caller.now (turns c.args.caller.now n) kept more (fetch_said a.body)) fine s) (sym c.in-Some.is ∙ c.in-Ok-read_fetched.ensures ∙ ap fetch_said c.body.ensures)
