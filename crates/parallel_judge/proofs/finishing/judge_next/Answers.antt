use Rattle.std.proofs.Common.{◌≡◌, Option, Some, None, sym, ap, ◌∙◌, subst}
use Rattle.std.specs.Prelude.{IsSome, IfSome}
use Rattle.std.specs.Option.{option_map}
use Rattle.farm_kinds.specs.declared.kinds.Kind.{Kind}
use Rattle.farm_kinds.specs.declared.outcomes.Task.{Task}
use Rattle.case_run.specs.Cases.{TestCase, test_case}
use Rattle.case_run.specs.Values.{case_value}
use Rattle.parallel_judge.specs.Working.{with_task}
use Rattle.parallel_judge.proofs.Turns.{has_case, turns}
use Rattle.parallel_judge.proofs.finishing.judge_next.Goals as goal

absent : (o : Option TestCase) → IsSome o → o ≡ None → ⊥
absent None h e = cc
absent (Some x) h e = cc

told : (o : Option Task) (task : Task) (P : Task → Type 0) → o ≡ Some task → IfSome o P → P task
told None task P e h = cc
told (Some t) task P e h = let same : t ≡ task = cc in subst P same h

value_is : (case_at : Task → Option TestCase) (task : Task) (case : TestCase) (kind : Kind) → case_at task ≡ Some case → kind ≡ case_value case → option_map case_value (case_at task) ≡ Some kind
value_is case_at task case kind there value = ap (option_map case_value) there ∙ ap (λ (k : Kind). Some k) (sym value)

pub returns-in_default-case_of-clause-ended : goal.returns-in_default-case_of-clause-ended
returns-in_default-case_of-clause-ended g c _ =
    let case_at = g.C.Cases.case_at c.args.cases.now in
    absurd (absent (case_at c.in-Some.task) (has_case case_at c.args.noted.now.farm c.args.host c.in-Some.task c.requires (sym c.in_ok-task.ensures.first ∙ c.in-Some.is)) c.in_default-case_of.ensures.none)

pub returns-in_err-enter-clause-journal : goal.returns-in_err-enter-clause-journal
returns-in_err-enter-clause-journal g c settings hosts kept =
    let case_at = g.C.Cases.case_at c.args.cases.now in
    c.enter.ensures.journal case_at (value_is case_at c.in-Some.task (test_case c.in-Some-case_of.case) c.in_ok-kind.kind c.in-Some-case_of.ensures.some c.in_ok-kind.ensures) settings hosts
    (c.claim.ensures.journal case_at settings hosts kept)

pub returns-clause-turned : goal.returns-clause-turned
returns-clause-turned g c _ =
    let case_at = g.C.Cases.case_at c.args.cases.now in
    turns case_at c.args.noted.now.farm c.claim.new.noted.farm c.enter.new.self.farm c.args.host c.in-Some.task c.in_ok-kind.kind (test_case c.in-Some-case_of.case)
    c.requires (sym c.in_ok-task.ensures.first ∙ c.in-Some.is)
    (told c.in_ok-task.field-0 c.in-Some.task (λ (task : Task). c.claim.new.noted.farm ≡ with_task c.args.noted.now.farm c.args.host task) c.in-Some.is c.in_ok-task.ensures.some)
    c.in-Some-case_of.ensures.some c.in_ok-kind.ensures c.in_ok-enter.ensures.state

pub returns-clause-journal : goal.returns-clause-journal
returns-clause-journal g c settings hosts kept =
    let case_at = g.C.Cases.case_at c.args.cases.now in
    c.enter.ensures.journal case_at (value_is case_at c.in-Some.task (test_case c.in-Some-case_of.case) c.in_ok-kind.kind c.in-Some-case_of.ensures.some c.in_ok-kind.ensures) settings hosts
    (c.claim.ensures.journal case_at settings hosts kept)
