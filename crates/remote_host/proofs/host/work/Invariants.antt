use Rattle.std.proofs.Common.{◌≡◌, ◌+◌, ◌-◌, ◌≤◌, [], ◌∷◌, None}
use Rattle.judgehost.specs.Benches.{heard_at_claim}
use Rattle.remote_host.specs.Standing.{IsAt}
use Rattle.remote_host.specs.Benches.{pending_job, HasFailed}
use Rattle.remote_host.proofs.host.work.Given as goal

abbrev pub invariant-loop-end : goal.invariant-loop-end
invariant-loop-end g l =
    let b = l.bench in
    record {
      claims : b.claims ≡ 0;
      before : b.before ≤ l.fuel;
      posted : b.posts ≡ b.tasks;
      silent : heard_at_claim b.heard ≡ None;
      bare : pending_job b.job ≡ None;
      sound :
          (s : g.row.N.Denot) × (b.start.items ≡ (s, tt) ∷ []) × IsAt b.caller
          (record { held = g.N.Sink.held s; left = g.N.Source.left s; ahead = [] })
          (record { held = g.N.Sink.held b.talker.conn; left = g.N.Source.left b.talker.conn; ahead = b.talker.reader.ahead })
          (b.before + b.claims) b.posts b.kept (pending_job b.job) b.talker.wrong (heard_at_claim b.heard)
          × HasFailed (heard_at_claim b.heard) (pending_job b.job) b.talker.wrong (g.N.Source.faults s + g.N.Sink.faults s) (g.N.Source.faults b.talker.conn + g.N.Sink.faults b.talker.conn);
      start : b.start.items ≡ l.fn.bench.start.items;
      caller : b.caller ≡ l.fn.bench.caller;
    }

abbrev pub decreases-loop-end : goal.decreases-loop-end
decreases-loop-end g l = l.fuel - l.bench.before
