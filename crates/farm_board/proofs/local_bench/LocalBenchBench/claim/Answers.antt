use Rattle.std.proofs.Common.{rules}
use Rattle.farm_kinds.specs.declared.events.Event.TheVariants as event
use Rattle.farm_board.specs.Passes.{call_of}
use Rattle.farm_board.specs.Trusts.{is_value_of}
use Rattle.farm_board.specs.declared.entries.HistoryEntry.TheVariants as entry
use Rattle.farm_board.proofs.HostCalls.{own_more, claim_is_own}
use Rattle.farm_board.proofs.local_bench.LocalBenchBench.claim.Goals as goal

pub invariant_of-self-clause-own : goal.invariant_of-self-clause-own
invariant_of-self-clause-own g c =
    let self = c.args.self.now in
    let number = self.pass.number in
    own_more (λ task kind. is_value_of (g.C.Cases.case_at self.board.now.trust.cases task) kind) self.host self.pass c.step-reply.new.pass
    (entry.Call (call_of number (event.Claim self.host) c.step-reply.result)) c.step-reply.ensures.call.grows.mine self.own
    (claim_is_own (λ task kind. is_value_of (g.C.Cases.case_at self.board.now.trust.cases task) kind) self.host number c.step-reply.result)

pub invariant_of-self-in_default-clause-own : goal.invariant_of-self-in_default-clause-own
invariant_of-self-in_default-clause-own g c =
    let self = c.args.self.now in
    let number = self.pass.number in
    own_more (λ task kind. is_value_of (g.C.Cases.case_at self.board.now.trust.cases task) kind) self.host self.pass c.step-reply.new.pass
    (entry.Call (call_of number (event.Claim self.host) c.step-reply.result)) c.step-reply.ensures.call.grows.mine self.own
    (claim_is_own (λ task kind. is_value_of (g.C.Cases.case_at self.board.now.trust.cases task) kind) self.host number c.step-reply.result)

pub returns-clause-turn : goal.returns-clause-turn
returns-clause-turn g c = search rules
