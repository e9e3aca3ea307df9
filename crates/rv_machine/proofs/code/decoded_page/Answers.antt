use Rattle.rv_machine.proofs.code.decoded_page.Goals as goal

pub returns-in_ok-add-in-Err-clause-code : goal.returns-in_ok-add-in-Err-clause-code
returns-in_ok-add-in-Err-clause-code c = λ m w t e. c.add.ensures.code m w t e (c.in-Err.ensures.between w.ascending)
