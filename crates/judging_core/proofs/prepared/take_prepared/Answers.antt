-- What is popped has the number of tests that was asked for, and its class is set.
use Rattle.std.proofs.Common.{arith, ◌≡◌, Some, true}
use Rattle.std.proofs.lemmas.Grind.{common_steps}
use Rattle.std.proofs.lemmas.List.Elements.{All-pop}
use Rattle.judging_core.specs.JudgeValue.{starts_with}
use Rattle.judging_core.specs.JudgeShape.{reserved_of, IsPrepared, IsRuledBy}
use Rattle.judging_core.proofs.MadeAhead.{next_tests, used_as}
use Rattle.judging_core.proofs.prepared.take_prepared.Goals as goal

pub returns-clause-value : goal.returns-clause-value
returns-clause-value c =
    let at = c.args.prepared.now.items in
    let kept = c.in_ok-kept.kept in
    let starts : starts_with (reserved_of at) c.args.tests ≡ true = cc in
    let popped : IsPrepared kept = (All-pop IsPrepared at c.pop.new.self.items (Some kept) c.in_ok-kept.ensures.items c.requires).1 in
    used_as kept c.args.class c.args.tests c.args.mode c.args.asked popped (next_tests at c.pop.new.self.items kept c.args.tests c.in_ok-kept.ensures.items starts)

pub returns-clause-short : goal.returns-clause-short
returns-clause-short c =
    let kept = c.in_ok-kept.kept in
    let popped : IsPrepared kept = (All-pop IsPrepared c.args.prepared.now.items c.pop.new.self.items (Some kept) c.in_ok-kept.ensures.items c.requires).1 in
    record { cells = popped.short.cells; marks = popped.short.marks }

pub returns-clause-left : goal.returns-clause-left
returns-clause-left c = grind (arith, common_steps)

pub returns-clause-prepared : goal.returns-clause-prepared
returns-clause-prepared c = (All-pop IsPrepared c.args.prepared.now.items c.pop.new.self.items (Some c.in_ok-kept.kept) c.in_ok-kept.ensures.items c.requires).0

pub returns-clause-ruled : goal.returns-clause-ruled
returns-clause-ruled c = λ rule all. (All-pop (IsRuledBy rule) c.args.prepared.now.items c.pop.new.self.items (Some c.in_ok-kept.kept) c.in_ok-kept.ensures.items all).0

pub returns-clause-ruled_itself : goal.returns-clause-ruled_itself
returns-clause-ruled_itself c = λ rule all. (All-pop (IsRuledBy rule) c.args.prepared.now.items c.pop.new.self.items (Some c.in_ok-kept.kept) c.in_ok-kept.ensures.items all).1
