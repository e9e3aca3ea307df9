use Rattle.std.proofs.Common.{◌≡◌, ◌+◌, Some, rules, sym, arith}
use Rattle.farm_model.specs.State.{problem_number}
use Rattle.farm_model.specs.Refusals.{version_of}
use Rattle.farm_core.proofs.Entering.{version_there, refuses_version, takes_version}
use Rattle.farm_core.proofs.contest.ContestState.replace_refusal.Goals as goal

pub returns-then-index-ge-MAX_VERSIONS-clause-refusal : goal.returns-then-index-ge-MAX_VERSIONS-clause-refusal
returns-then-index-ge-MAX_VERSIONS-clause-refusal c =
    let found : problem_number c.args.self.now.problems c.args.name ≡ Some (c.in-Some.place + 1) = search rules in
    let version : version_of c.args.self.now.problems (c.in-Some.place + 1) ≡ c.index.result.now.version
    = version_there c.args.self.now.problems c.in-Some.place c.index.result.now (search rules) (search rules) in
    sym (refuses_version c.args.self.now.problems c.args.name c.args.tests c.in-Some.place found (omega arith) (omega arith) (omega arith))

pub returns-clause-refusal : goal.returns-clause-refusal
returns-clause-refusal c =
    let found : problem_number c.args.self.now.problems c.args.name ≡ Some (c.in-Some.place + 1) = search rules in
    let version : version_of c.args.self.now.problems (c.in-Some.place + 1) ≡ c.index.result.now.version
    = version_there c.args.self.now.problems c.in-Some.place c.index.result.now (search rules) (search rules) in
    sym (takes_version c.args.self.now.problems c.args.name c.args.tests c.in-Some.place found (omega arith) (omega arith) (omega arith))
