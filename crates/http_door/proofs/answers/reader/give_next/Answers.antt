use Rattle.http_door.proofs.Windows.{Fills-more, Fills-trans}
use Rattle.http_door.proofs.AnswerGiving.{reads_answer, reads_end, reads_nothing}
use Rattle.http_door.proofs.answers.reader.give_next.Goals as goal

pub returns-in-Err-clause-reads : goal.returns-in-Err-clause-reads
returns-in-Err-clause-reads g c = reads_nothing _ _ _ c.grow.ensures.ahead

pub returns-in-Err-take_answer-clause-reads : goal.returns-in-Err-take_answer-clause-reads
returns-in-Err-take_answer-clause-reads g c =
    reads_end _ _ _ _ c.in-Err-take_answer.ending (Fills-trans _ _ _ _ _ _ (Fills-more _ _ _ c.grow.ensures.ahead c.grow.ensures.taken c.grow.ensures.more) c.in-Err-take_answer.ensures.fills) c.in-Err-take_answer.ensures.err

pub returns-in-Ok-clause-reads : goal.returns-in-Ok-clause-reads
returns-in-Ok-clause-reads g c =
    reads_answer _ _ _ c.take_answer.new.window _ c.in-Ok.whole (Fills-trans _ _ _ _ _ _ (Fills-more _ _ _ c.grow.ensures.ahead c.grow.ensures.taken c.grow.ensures.more) c.in-Ok.ensures.fills) c.in-Ok.ensures.ok c.drop_front.ensures
