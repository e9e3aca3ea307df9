use Rattle.contest_server.proofs.Finishing.{serves}
use Rattle.contest_server.proofs.contest.serve_named.Goals as goal

pub returns-in-Ok-clause-serves : goal.returns-in-Ok-clause-serves
returns-in-Ok-clause-serves g c events h =
    serves _ _ _ _ _ _ _ _ c.serve_board.result (c.serve_board.ensures.served g.J.Naming.start events c.args.own c.requires.opening c.requires.fresh.numbered h)
