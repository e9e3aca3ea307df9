use Rattle.std.proofs.Common.{ap, refl, None, Err}
use Rattle.remote_host.specs.Halts.{head_wrong}
use Rattle.remote_host.proofs.Talking.{asked_ok, asked_err, err_same, link_rose, rose_some, memory_kept}
use Rattle.remote_host.proofs.talker.Talker.send.Goals as goal

pub returns-in-Ok-clause-talks : goal.returns-in-Ok-clause-talks
returns-in-Ok-clause-talks g c =
    λ start claims fetched posted f fine s. asked_ok _ start _ _ claims fetched posted c.args._ask f None _ _ c.in-Ok.ensures.ok.0 _ c.requires.request c.in-Ok.ensures.ok.1 s

pub returns-in-Err-clause-talks : goal.returns-in-Err-clause-talks
returns-in-Err-clause-talks g c =
    λ start claims fetched posted f fine s. asked_err _ start _ _ claims fetched posted c.args._ask f _ (head_wrong c.in-Err.halt) _ c.requires.request c.in-Err.ensures.err (c.refused.ensures.kept fine) s

pub returns-in-Err-clause-link : goal.returns-in-Err-clause-link
returns-in-Err-clause-link g c =
    λ q. link_rose _ _ _ _ c.in-Err.halt c.in-Err.ensures.later c.refused.ensures.later (λ f. c.in-Err.ensures.fault (ap Err f)) (c.refused.ensures.link (err_same c.refused.result _ (Err c.refused.result) refl q))

pub returns-in-Err-clause-failed : goal.returns-in-Err-clause-failed
returns-in-Err-clause-failed g c =
    λ q w. rose_some _ _ (c.in-Err.ensures.fault (ap Err (c.refused.ensures.failed (err_same c.refused.result _ (Err c.refused.result) refl q) w)))

pub returns-in-Ok-clause-kept : goal.returns-in-Ok-clause-kept
returns-in-Ok-clause-kept g c = λ _. c.in-Ok.ensures.kept (λ e. cc) (λ e. cc)

pub returns-in-Err-clause-kept : goal.returns-in-Err-clause-kept
returns-in-Err-clause-kept g c =
    λ other. memory_kept c.in-Err.halt _ _ (c.refused.ensures.memory (λ q. other (ap Err q))) c.in-Err.ensures.kept
