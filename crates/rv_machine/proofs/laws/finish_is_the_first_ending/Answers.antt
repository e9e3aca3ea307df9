use Rattle.rv_machine.proofs.Repeating.{ends_as_finish, ends_in_time}
use Rattle.rv_machine.proofs.laws.finish_is_the_first_ending.Goals as goal

pub returns : goal.returns
returns c = record { first = ends_as_finish; in_time = ends_in_time }
