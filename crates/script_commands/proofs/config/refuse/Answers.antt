use Rattle.std.proofs.Common.{rules, List, ℕ, subst, ◌∙◌}
use Rattle.std.specs.Io.KnownBytes.{Appends}
use Rattle.script_commands.proofs.config.refuse.Goals as goal

pub returns-in-Done-clause-ends : goal.returns-in-Done-clause-ends
returns-in-Done-clause-ends g c = λ files found. record {
  fault = c.args.bad.now;
  found = found;
  wrote = subst (λ (t : List ℕ). Appends (g.K.Sink.held c.args.out.now) (g.K.Sink.held c.put.new.self) t)
      (c.as_slice.ensures.value ∙ c.in-Ok.ensures) c.in-Done.ensures.bytes;
}

pub returns-in-Ok-clause-ends : goal.returns-in-Ok-clause-ends
returns-in-Ok-clause-ends c = search rules
