use Rattle.std.proofs.Common.{[], None, Ok, Err, ◌∙◌, ap, sym}
use Rattle.remote_host.specs.Bodies.{job_said}
use Rattle.remote_host.specs.Talk.{turns, job_next}
use Rattle.remote_host.proofs.Talking.{case_heard, case_asked, unread, said_as, said_wrong, first_is}
use Rattle.remote_host.proofs.talker.Talker.job.Goals as goal

pub returns-in-Err-clause-talks : goal.returns-in-Err-clause-talks
returns-in-Err-clause-talks g c =
    λ start claims fetched posted fine s.
    case_asked _ start _ _ claims fetched posted c.args.has c.args.task _ (case_heard c.args.caller.now c.args.has c.args.task) _ [] (Err c.in-Err.fault) c.case_ask.ensures (c.in-Err.ensures.talks start claims fetched posted (case_heard c.args.caller.now c.args.has c.args.task) fine) s

pub returns-in-NoMemory-clause-talks : goal.returns-in-NoMemory-clause-talks
returns-in-NoMemory-clause-talks g c =
    λ start claims fetched posted fine s.
    unread _ start _ claims fetched posted (case_heard c.args.caller.now c.args.has c.args.task) None _ _ tt (c.in-Ok.ensures.fine ∙ fine)
    (case_asked _ start _ _ claims fetched posted c.args.has c.args.task _ (case_heard c.args.caller.now c.args.has c.args.task) None _ (Ok tt) c.case_ask.ensures (c.in-Ok.ensures.talks start claims fetched posted (case_heard c.args.caller.now c.args.has c.args.task) fine) s)

pub returns-in-Wrong-clause-talks : goal.returns-in-Wrong-clause-talks
returns-in-Wrong-clause-talks g c =
    λ start claims fetched posted fine s.
    said_wrong _ start _ claims fetched posted None _ c.in-Wrong.wrong (c.meet.ensures.kept ∙ first_is _ _ (c.in-Ok.ensures.fine ∙ fine))
    (said_as _ start _ claims fetched posted (λ n q more. job_next (turns c.args.caller.now n) c.args.task more q) (job_said c.args.has c.args.task) None _ tt (Err c.in-Wrong.wrong)
    (case_asked _ start _ _ claims fetched posted c.args.has c.args.task _ (case_heard c.args.caller.now c.args.has c.args.task) None _ (Ok tt) c.case_ask.ensures (c.in-Ok.ensures.talks start claims fetched posted (case_heard c.args.caller.now c.args.has c.args.task) fine) s)
    (sym (c.in-Err-read_job_of.ensures.wrong c.in-Wrong.wrong (ap Err c.in-Wrong.is)) ∙ ap (job_said c.args.has c.args.task) c.body.ensures))

pub returns-in-Ok-read_job_of-clause-talks : goal.returns-in-Ok-read_job_of-clause-talks
returns-in-Ok-read_job_of-clause-talks g c =
    λ start claims fetched posted fine s.
    said_as _ start _ claims fetched posted (λ n q more. job_next (turns c.args.caller.now n) c.args.task more q) (job_said c.args.has c.args.task) None _ tt (Ok c.in-Ok-read_job_of.job.case)
    (case_asked _ start _ _ claims fetched posted c.args.has c.args.task _ (case_heard c.args.caller.now c.args.has c.args.task) None _ (Ok tt) c.case_ask.ensures (c.in-Ok.ensures.talks start claims fetched posted (case_heard c.args.caller.now c.args.has c.args.task) fine) s)
    (sym c.in-Ok-read_job_of.ensures.ok.0 ∙ ap (job_said c.args.has c.args.task) c.body.ensures)
