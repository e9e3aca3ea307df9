use Rattle.std.proofs.Common.{rules, refl}
use Rattle.http_door.proofs.Giving.{falls_in, reads_ended, reads_end}
use Rattle.http_door.proofs.Holding.{held_reader}
use Rattle.http_door.proofs.reader.HttpReader.next_request.Goals as goal

pub returns-in-Some-clause-reads : goal.returns-in-Some-clause-reads
returns-in-Some-clause-reads g c =
    rw (← c.self.view_is) (reads_ended _ _ _ c.in-Some.is c.self.invariant.readable)

pub returns-in-Some-clause-held : goal.returns-in-Some-clause-held
returns-in-Some-clause-held g c = rw (← c.self.view_is) (λ q. (refl, held_reader _ c.self.invariant.readable q))

pub returns-in-Err-clause-reads : goal.returns-in-Err-clause-reads
returns-in-Err-clause-reads g c =
    let r = rw c.drop_front.ensures at c.in-Err.ensures.reads in
    rw (← c.self.view_is) (reads_end _ _ _ _ _ _ _ r refl refl refl refl)

pub returns-in-Ok-clause-falls : goal.returns-in-Ok-clause-falls
returns-in-Ok-clause-falls g c =
    let r = rw c.drop_front.ensures at c.in-Ok.ensures.reads in
    λ _. rw (← c.self.view_is) (falls_in _ _ _ _ _ _ r c.in-Ok.ensures.few)

pub returns-in-Err-clause-ends : goal.returns-in-Err-clause-ends
returns-in-Err-clause-ends c = search rules
