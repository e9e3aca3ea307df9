use Rattle.std.proofs.Common.{◌∙◌, sym, subst}
use Rattle.std.specs.Prelude.{◌≡◌, ◌⊎◌}
use Rattle.exit_status.specs.declared.exit.Exit.{Exit}
use Rattle.exit_status.specs.declared.exit.Exit.TheVariants as exit
use Rattle.farm_cli.proofs.Servings.{does_listen, listens_first, served, write_failed, output_kept, door_failed, ends_of_serving}
use Rattle.farm_cli.proofs.serving.serve_roster.Goals as goal

pub serve_contest-requires-clause-listens : goal.serve_contest-requires-clause-listens
serve_contest-requires-clause-listens g c = λ κs outlive. does_listen (g.D.Door.state c.args.door.now) (g.D.Door.state c.listen.new.self) c.args.at c.in-Ok.ensures.listens

pub returns-clause-ends : goal.returns-clause-ends
returns-clause-ends g c files folder read =
    served files folder c.args.at c.args.lanes c.args.connections _ _ _ _ _ c.args.roster.now c.serve_contest.result c.exit_of.result c.exit_of.ensures read c.in-Ok.ensures.listens
    c.serve_contest.ensures.serves

pub returns-clause-write_fault : goal.returns-clause-write_fault
returns-clause-write_fault g c = λ q. write_failed _ _ _ _ c.serve_contest.result c.serve_contest.ensures.cause (sym c.exit_of.ensures ∙ q)

pub returns-clause-output : goal.returns-clause-output
returns-clause-output g c = λ other. output_kept _ _ _ _ c.serve_contest.result c.serve_contest.ensures.cause (λ is. other (c.exit_of.ensures ∙ is))

pub returns-clause-door_fault : goal.returns-clause-door_fault
returns-clause-door_fault g c = λ q. door_failed _ _ _ _ _ c.serve_contest.result c.listen.ensures.cause.later c.serve_contest.ensures.cause (sym c.exit_of.ensures ∙ q)

pub returns-clause-all : goal.returns-clause-all
returns-clause-all g c =
    subst (λ (z : Exit). (z ≡ exit.Done) ⊎ (z ≡ exit.DoorFault) ⊎ (z ≡ exit.WriteFault) ⊎ (z ≡ exit.Memory)) (sym c.exit_of.ensures) (ends_of_serving c.serve_contest.result)

pub returns-clause-first : goal.returns-clause-first
returns-clause-first g c =
    listens_first _ _ _ _ _ _ _ _ c.serve_contest.result c.exit_of.result c.exit_of.ensures
    (does_listen (g.D.Door.state c.args.door.now) (g.D.Door.state c.listen.new.self) c.args.at c.in-Ok.ensures.listens) c.serve_contest.ensures.serves

pub returns-in_default-clause-first : goal.returns-in_default-clause-first
returns-in_default-clause-first g c = λ memory. cc
