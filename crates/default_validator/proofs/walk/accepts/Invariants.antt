use Rattle.std.proofs.Common.{◌≡◌, length}
use Rattle.default_validator.specs.Accepts.{accepts_of}
use Rattle.default_validator.proofs.walk.accepts.Given as goal

abbrev pub invariant-loop-accepted : goal.invariant-loop-accepted
invariant-loop-accepted l = accepts_of l.flags l.answer l.output ≡ accepts_of l.fn.flags l.fn.answer l.fn.output

abbrev pub decreases-loop-accepted : goal.decreases-loop-accepted
decreases-loop-accepted l = length l.answer
