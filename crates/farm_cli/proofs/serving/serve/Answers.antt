use Rattle.judge_commands.proofs.NoContests.{fault_told}
use Rattle.farm_cli.proofs.Servings.{unserved, refused_complete}
use Rattle.std.proofs.Common.{Err, ap, refl, inl, inr, ⊎_elim, arith}
use Rattle.std.proofs.lemmas.Bool.{ltb-true, ltb-false}
use Rattle.farm_cli.proofs.serving.serve.Goals as goal

pub returns-in-Err-clause-ends : goal.returns-in-Err-clause-ends
returns-in-Err-clause-ends g c =
    let files = g.T.Tree.files c.args.tree.now in
    unserved files c.args.folder.now c.args.at c.args.lanes c.args.connections _ _ _ _ c.refuse.result refl
    (c.refuse.ensures.ends files c.args.folder.now (fault_told files c.args.folder.now c.in-Err.fault c.in-Err.ensures.contest))

pub returns-in-Err-clause-complete : goal.returns-in-Err-clause-complete
returns-in-Err-clause-complete g c =
    let files = g.T.Tree.files c.args.tree.now in
    refused_complete files c.args.folder.now _ _ _ _ _ _ c.refuse.result
    (c.refuse.ensures.ends files c.args.folder.now (fault_told files c.args.folder.now c.in-Err.fault c.in-Err.ensures.contest))
    (λ q. ⊎_elim (λ tree. c.in-Err.ensures.cause (ap Err tree)) (λ failed. let more = ltb-true _ _ failed in let before = c.fault_count-faults.ensures in let now = c.fault_count.ensures in omega (arith, more, before, now)) (c.refuse.ensures.tree q)) c.refuse.ensures.write_fault

pub returns-in-Ok-clause-first : goal.returns-in-Ok-clause-first
returns-in-Ok-clause-first g c = λ memory. inr (c.serve_roster.ensures.first memory)

pub returns-in-Err-clause-first : goal.returns-in-Err-clause-first
returns-in-Err-clause-first g c = λ memory.
    let none = ltb-false _ _ (c.refuse.ensures.first memory) in
    let before = c.fault_count-faults.ensures in
    let now = c.fault_count.ensures in
    let later = c.in-Err.ensures.later in
    inl (omega (arith, none, before, now, later), refl)
