use Rattle.std.proofs.Common.{◌+◌, ◌∙◌, ap, sym}
use Rattle.judgehost.specs.declared.bench.BenchFault.TheVariants as fault
use Rattle.remote_host.proofs.Working.{bench_is, refused_bench, entered_at, refused_entry, unfailed, start_same}
use Rattle.remote_host.proofs.host.enter_and_work.Goals as goal

pub returns-in-Err-clause-worked : goal.returns-in-Err-clause-worked
returns-in-Err-clause-worked g c =
    let e = c.in-Err.ensures in
    (e.entered.0, e.entered.1, refused_entry _ _ _ c.args.fuel _ _ _ c.in-Err.fault e.plain e.entered.2)

pub work-requires-clause-sound : goal.work-requires-clause-sound
work-requires-clause-sound g c =
    let e = c.in-Ok.ensures in
    let f = e.fresh in
    let same = start_same e.entered.0 c.args.bench.now.talker.conn (sym e.entered.1 ∙ ap (λ l. l.items) e.start ∙ c.requires.start) in (
      e.entered.0,
      e.entered.1,
      entered_at _ _ _ _ _ _ _ _ _ _ f.before f.claims f.posts f.kept f.job e.fine f.heard e.entered.2,
      unfailed _ _ _ _ _ f.heard (e.kept (λ q. cc) ∙ ap (λ n. g.N.Source.faults n + g.N.Sink.faults n) (sym same)),
    )

pub returns-in-Err-clause-failed : goal.returns-in-Err-clause-failed
returns-in-Err-clause-failed g c = λ q w. c.in-Err.ensures.failed (bench_is _ _ q) w

pub returns-in-Err-clause-kept : goal.returns-in-Err-clause-kept
returns-in-Err-clause-kept g c =
    λ other. let e = c.in-Err.ensures in
    let same = start_same e.entered.0 c.args.bench.now.talker.conn (sym e.entered.1 ∙ ap (λ l. l.items) e.start ∙ c.requires.start) in (
      e.entered.0,
      e.entered.1,
      e.kept (λ q. other (refused_bench c.in-Err.fault fault.Link q)) ∙ ap (λ n. g.N.Source.faults n + g.N.Sink.faults n) (sym same),
    )
