use Rattle.std.proofs.Common.{◌≡◌, Option, Some, true, refl, sym, ap, ◌∙◌, subst}
use Rattle.farm_kinds.specs.declared.kinds.Kind.{Kind}
use Rattle.farm_kinds.specs.declared.outcomes.Task.{Task}
use Rattle.farm_kinds.specs.declared.events.Event.TheVariants as event
use Rattle.farm_kinds.specs.declared.events.Reply.TheVariants as replies
use Rattle.farm_model.specs.Judgings.{task_of}
use Rattle.case_run.specs.Cases.{TestCase}
use Rattle.case_run.specs.Values.{case_value}
use Rattle.farm_board.specs.Benches.{pending_case}
use Rattle.farm_board.specs.Passes.{call_of}
use Rattle.farm_board.specs.Trusts.{is_value_of}
use Rattle.farm_board.specs.declared.entries.HistoryEntry.TheVariants as entry
use Rattle.farm_board.proofs.Agreeing.{admits_one_value}
use Rattle.farm_board.proofs.HostCalls.{own_more, result_is_own, value_is_admitted, pending_is, posted_is}
use Rattle.farm_board.proofs.local_bench.LocalBenchBench.post.Goals as goal

-- what was run is the value of its task's case
admitted : (case_at : Task → Option TestCase) (pending : Option Task) (done task : Task) (given kind : Kind) (v : (c : TestCase) × (pending_case case_at pending ≡ Some (done, c)) × (given ≡ case_value c))
    → done ≡ task → given ≡ kind → is_value_of (case_at task) kind ≡ true
admitted case_at pending done task given kind v t k =
    subst (λ (q : Task). is_value_of (case_at q) kind ≡ true) t
    (subst (λ (q : Kind). is_value_of (case_at done) q ≡ true) k (value_is_admitted case_at done v.0 given (pending_is case_at pending done v.0 v.1) v.2))

pub step_and_keep-reply-requires-clause-admitted : goal.step_and_keep-reply-requires-clause-admitted
step_and_keep-reply-requires-clause-admitted g c task kind is =
    let self = c.args.self.now in
    let given : ◌≡◌ {A = Task × Kind} (task_of c.task-task.result.judging c.task-task.result.test, c.kind.result) (task, kind) = cc is in
    admitted (g.C.Cases.case_at self.board.now.trust.cases) self.pending c.args.done.task task c.args.done.kind kind c.requires.value
    (sym c.task-task.ensures ∙ ap (λ (p : Task × Kind). p.0) given) (sym c.kind.ensures ∙ ap (λ (p : Task × Kind). p.1) given)

pub invariant_of-self-clause-own : goal.invariant_of-self-clause-own
invariant_of-self-clause-own g c =
    let self = c.args.self.now in
    let number = self.pass.number in
    let task = c.task-task.result in
    own_more (λ task kind. is_value_of (g.C.Cases.case_at self.board.now.trust.cases task) kind) self.host self.pass c.step_and_keep-reply.new.pass
    (entry.Call (call_of number (event.Result self.host task.judging task.test c.kind.result) c.step_and_keep-reply.result)) c.step_and_keep-reply.ensures.call.grows.mine self.own
    (result_is_own (λ task kind. is_value_of (g.C.Cases.case_at self.board.now.trust.cases task) kind) self.host number task.judging task.test c.kind.result c.step_and_keep-reply.result
    (admitted (g.C.Cases.case_at self.board.now.trust.cases) self.pending c.args.done.task task c.args.done.kind c.kind.result c.requires.value (sym c.task-task.ensures) (sym c.kind.ensures)))

pub returns-clause-agrees : goal.returns-clause-agrees
returns-clause-agrees g c kept given is =
    let self = c.args.self.now in
    c.step_and_keep-reply.ensures.agrees (admits_one_value (g.C.Cases.case_at self.board.now.trust.cases)) (task_of c.task-task.result.judging c.task-task.result.test) c.kind.result kept given refl
    (posted_is c.step_and_keep-reply.result (replies.Differs kept given) (sym c.answer_to_result-answered.ensures ∙ is))
