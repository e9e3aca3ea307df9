use Rattle.std.proofs.Common.{◌≡◌, ◌+◌, ◌∷◌, ◌++◌, [], List, ℕ, Result, Ok, Err, All, Contains, drop, take, string_bytes, sym, ap, subst, ◌∙◌, rules, add-one, arith}
use Rattle.std.proofs.lemmas.Grind.{common_steps}
use Rattle.std.proofs.lemmas.List.{map-append}
use Rattle.std.proofs.lemmas.List.Elements.{All-push}
use Rattle.package_folder.specs.Package.{IsPackage}
use Rattle.package_folder.specs.Paths.{texts}
use Rattle.package_folder.proofs.Strings.{drop_text, take_text, text_among}
use Rattle.contest_folder.specs.declared.roster.Problem.{Problem}
use Rattle.contest_folder.specs.declared.faults.ContestFault.{ContestFault}
use Rattle.contest_folder.specs.RosterShape.{names_of}
use Rattle.contest_folder.specs.Telling.{and_then, with_first}
use Rattle.contest_folder.specs.Problems.{packages_in, problem_at, is_bad_name}
use Rattle.contest_folder.proofs.Folders.{none_among}
use Rattle.contest_folder.proofs.Steps.{behind, behind_more}
use Rattle.contest_folder.proofs.problems.read_packages.Goals as goal

pub read_problem-requires : goal.read_problem-requires
read_problem-requires g c =
    let item = c.short-item.result in
    let among : Contains (texts c.args.shorts.now) (string_bytes item) = text_among c.args.shorts.now c.loop-short.short-index item c.loop-short-test.true c.short-item.is in
    rw c.as_str.ensures.value (none_among is_bad_name (texts c.args.shorts.now) (string_bytes item) c.requires among)

pub returns-in_err-problem-clause-problems : goal.returns-in_err-problem-clause-problems
returns-in_err-problem-clause-problems g c = λ files told going.
    let item = c.short-item.result in
    let shorts = c.args.shorts.now in
    let at = c.loop-short.short-index in
    let folder = c.args.folder.now in
    let name = c.as_str.result.now in
    let e = c.in_err-problem.field-0.0 in
    let es = c.loop-short.problems.items in
    let is : c.from_residual.result ≡ Err e = search rules in
    let cut : drop at (texts shorts) ≡ name ∷ drop (at + 1) (texts shorts) =
    rw (c.as_str.ensures.value, add-one) (drop_text shorts at item c.loop-short-test.true c.short-item.is) in
    let next : Problem → Result (List Problem) ContestFault = λ (p : Problem). with_first p (packages_in files folder c.args.ips (drop (at + 1) (texts shorts))) in
    let stop : Err e ≡ problem_at files folder c.args.ips name = c.in_err-problem.ensures.problem files (c.loop-short.invariant.same ∙ told) (rw is at going) in
    rw is (ap (λ (r : Result Problem ContestFault). behind es (and_then next r)) stop
    ∙ ap (λ (ns : List (List ℕ)). behind es (packages_in files folder c.args.ips ns)) (sym cut) ∙ c.loop-short.invariant.problems files told)

pub loop-short-preserved : goal.loop-short-preserved
loop-short-preserved g c =
    let item = c.short-item.result in
    let shorts = c.args.shorts.now in
    let at = c.loop-short.short-index in
    let folder = c.args.folder.now in
    let name = c.as_str.result.now in
    let es = c.loop-short.problems.items in
    let problem = c.in_ok-problem.problem in
    let pushed : c.push.new.self.items ≡ es ++ problem ∷ [] = search rules in
    let cut : drop at (texts shorts) ≡ name ∷ drop (at + 1) (texts shorts) =
    rw (c.as_str.ensures.value, add-one) (drop_text shorts at item c.loop-short-test.true c.short-item.is) in
    let taken : take (at + 1) (texts shorts) ≡ take at (texts shorts) ++ name ∷ [] =
    rw (c.as_str.ensures.value, add-one) (take_text shorts at item c.loop-short-test.true c.short-item.is) in
    record {
      problems = λ files told.
          let rest = packages_in files folder c.args.ips (drop (at + 1) (texts shorts)) in
          let next : Problem → Result (List Problem) ContestFault = λ (p : Problem). with_first p rest in
          let got : Ok problem ≡ problem_at files folder c.args.ips name = c.in_ok-problem.ensures.problem files (c.loop-short.invariant.same ∙ told) (λ stop. stop) in
          ap (λ (ps : List Problem). behind ps rest) pushed ∙ sym (behind_more es problem rest)
          ∙ ap (λ (r : Result Problem ContestFault). behind es (and_then next r)) got
          ∙ ap (λ (ns : List (List ℕ)). behind es (packages_in files folder c.args.ips ns)) (sym cut) ∙ c.loop-short.invariant.problems files told;
      named = ap names_of pushed ∙ map-append (λ (p : Problem). p.name) es (problem ∷ [])
          ∙ ap (λ (ns : List (List ℕ)). ns ++ problem.name ∷ []) c.loop-short.invariant.named
          ∙ ap (λ (n : List ℕ). take at (texts shorts) ++ n ∷ []) c.in_ok-problem.ensures.named ∙ sym taken;
      packages = subst (λ (ps : List Problem). All (λ (p : Problem). IsPackage p.contents) ps) (sym pushed)
          (All-push (λ (p : Problem). IsPackage p.contents) es problem c.loop-short.invariant.packages c.in_ok-problem.ensures.sound);
      same = c.in_ok-problem.ensures.same ∙ c.loop-short.invariant.same;
      first = c.in_ok-problem.ensures.first (λ e. cc) ∙ c.loop-short.invariant.first;
    }

pub returns-clause-problems : goal.returns-clause-problems
returns-clause-problems g c = grind (arith, common_steps)

pub returns-clause-named : goal.returns-clause-named
returns-clause-named g c = grind (arith, common_steps)
