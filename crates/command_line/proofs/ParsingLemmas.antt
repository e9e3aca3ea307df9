-- The grammar of the command line is one of whose answers all is known.
use Rattle.std.proofs.Common.{◌≡◌, ◌≢◌, ◌⊎◌, inl, inr, [], ◌∷◌, length, true, false, refl, arith}
use Rattle.std.specs.Prelude.{◌==◌}
use Rattle.std.proofs.lemmas.Bool.Decides.{nat_tests}
use Rattle.clap.specs.Words.{IsAmong, Kinds, is_simple, is_simple_and_free}
use Rattle.clap.specs.declared.error.kind.ErrorKind.{ErrorKind}
use Rattle.clap.specs.declared.error.kind.ErrorKind.TheVariants.{OutOfMemory}
use Rattle.command_line.specs.Commands.{farm}

pub farm_is_simple : is_simple farm ≡ true
farm_is_simple = refl

pub farm_is_simple_and_free : is_simple_and_free farm ≡ true
farm_is_simple_and_free = refl

-- where an answer is known that is no want of memory, there are some
pub some_kind : (kinds : Kinds) (k : ErrorKind) → k ≢ OutOfMemory → (k ≡ OutOfMemory) ⊎ IsAmong k kinds → (length kinds == 0) ≡ false
some_kind [] k other (inl memory) = absurd (other memory)
some_kind [] k other (inr among) = absurd among
some_kind (one ∷ kinds) k other known = grind (arith, nat_tests)
