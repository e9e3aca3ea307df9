use Rattle.std.proofs.Common.{ap, arith}
use Rattle.judgehost.specs.declared.bench.BenchFault.TheVariants as fault
use Rattle.judgehost.specs.Hosts.{left_over}
use Rattle.remote_host.proofs.Working.{worked_heard, idle_is, died_is, refused_heard, ended_unfailed, first_same, second_same, third_same}
use Rattle.remote_host.proofs.host.round.Goals as goal

pub returns-clause-worked : goal.returns-clause-worked
returns-clause-worked g c =
    λ quits.
    let e = c.host_loop-end.ensures in
    let s = e.sound c.requires.bare c.requires.sound in
    let same = third_same _ _ e.fixed in (
      s.0,
      s.1,
      worked_heard _ _ _ _ c.args.fuel _ _ _ _ _ _ c.host_loop-end.result c.end_heard.result c.end_heard.ensures s.2 (omega (arith, e.claims, same, c.requires.before)) c.host_loop-end.new.bench.fewest quits e.idle e.refused e.unheard
          (λ q. omega (arith, e.spent q, same, c.requires.before)) (λ q. omega (arith, e.posts, ap left_over q, c.requires.posted)),
    )

pub returns-clause-sound : goal.returns-clause-sound
returns-clause-sound g c = c.host_loop-end.ensures.sound c.requires.bare c.requires.sound

pub returns-clause-idle : goal.returns-clause-idle
returns-clause-idle g c = λ q. c.host_loop-end.ensures.idle (idle_is _ _ _ c.end_heard.ensures q)

pub returns-clause-posted : goal.returns-clause-posted
returns-clause-posted g c = λ q. omega (arith, c.host_loop-end.ensures.posts, ap left_over (idle_is _ _ _ c.end_heard.ensures q), c.requires.posted)

pub returns-clause-asked : goal.returns-clause-asked
returns-clause-asked g c = λ q. c.host_loop-end.ensures.asked (idle_is _ _ _ c.end_heard.ensures q)

pub returns-clause-few : goal.returns-clause-few
returns-clause-few g c = omega (arith, c.host_loop-end.ensures.claims, third_same _ _ c.host_loop-end.ensures.fixed, c.requires.before)

pub returns-clause-before : goal.returns-clause-before
returns-clause-before g c = third_same _ _ c.host_loop-end.ensures.fixed

pub returns-clause-start : goal.returns-clause-start
returns-clause-start g c = first_same _ _ c.host_loop-end.ensures.fixed

pub returns-clause-caller : goal.returns-clause-caller
returns-clause-caller g c = second_same _ _ c.host_loop-end.ensures.fixed

pub returns-clause-died : goal.returns-clause-died
returns-clause-died g c = λ p t q. c.host_loop-end.ensures.died p t (died_is _ _ _ p t c.end_heard.ensures q)

pub returns-clause-failed : goal.returns-clause-failed
returns-clause-failed g c =
    λ q w. let s = c.host_loop-end.ensures.sound c.requires.bare c.requires.sound in
    s.3.failed (refused_heard _ _ _ fault.Link c.end_heard.ensures c.host_loop-end.ensures.refused q) w

pub returns-clause-kept : goal.returns-clause-kept
returns-clause-kept g c =
    λ other. let e = c.host_loop-end.ensures in let s = e.sound c.requires.bare c.requires.sound in
    (s.0, s.1, ended_unfailed _ _ _ _ _ c.host_loop-end.result _ c.end_heard.ensures other s.3 e.idle e.unheard e.refused (λ q. let u = e.no_memory q in (u.0, u.1, u.2)))
