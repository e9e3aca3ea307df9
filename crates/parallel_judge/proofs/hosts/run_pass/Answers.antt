use Rattle.std.proofs.Common.{ℕ, ◌≡◌, true, Option, refl, sym, ap, ◌∙◌, subst}
use Rattle.std.specs.List.{list_all}
use Rattle.farm_kinds.specs.declared.outcomes.Task.{Task}
use Rattle.case_run.specs.Cases.{TestCase}
use Rattle.contest_folder.specs.JudgingCases.{case_at}
use Rattle.farm_board.specs.Benches.{BenchIdentity, is_host_entry}
use Rattle.farm_board.specs.Passes.{BoardId, PassValue}
use Rattle.parallel_judge.specs.Hosts.{admits_of, EachEntry, IsHostEntry, IsReadyPass, IsDoneFrom}
use Rattle.parallel_judge.specs.UnderWay.{IsNamed}
use Rattle.parallel_judge.proofs.BenchEntries.{host_entries}
use Rattle.parallel_judge.proofs.hosts.run_pass.Goals as goal

-- the host has done nothing
nothing_done : (at : Task → Option TestCase) (board : BoardId) (pass : PassValue) → IsReadyPass board pass → IsDoneFrom at board pass pass
nothing_done at board pass ready = (refl, record { board_is = ready.board_is; entries = subst (EachEntry (IsHostEntry at pass.number)) (sym ready.fresh) tt; spare = ready.spare })

-- no host has the pass's number
pub returns-in_default : goal.returns-in_default
returns-in_default g c = nothing_done _ _ _ c.requires

-- there was no memory for what runs the cases
pub returns-in_default-new : goal.returns-in_default-new
returns-in_default-new g c = nothing_done _ _ _ c.requires

pub returns : goal.returns
returns g c =
    let bench = c.host_loop.new.bench in
    let same = c.host_loop.ensures.fixed in
    let begun = c.new-bench.ensures.pass in
    let cases = ap (λ (b : BenchIdentity). b.case_at) same ∙ ap (λ b. λ (task : Task). case_at b.trust.cases.now task) c.new-bench.ensures.board in
    let numbered : c.end.result.number ≡ c.args.pass.number =
    ap (λ (p : PassValue). p.number) c.end.ensures.pass ∙ ap (λ (b : BenchIdentity). b.number) same ∙ ap (λ (p : PassValue). p.number) begun in
    let hosted = ap (λ (b : BenchIdentity). b.host) same ∙ c.new-bench.ensures.host in
    let named : IsNamed c.end.result.number bench.host =
    subst (λ (n : ℕ). IsNamed n bench.host) (c.in-Some.ensures.0 ∙ c.number.ensures ∙ sym numbered) (subst (IsNamed c.in-Some.number) (sym hosted) c.host_name.ensures) in (
      numbered,
      record {
        board_is = c.end.ensures.board ∙ ap (λ (b : BenchIdentity). b.board) same ∙ ap (λ b. b.id) c.new-bench.ensures.board;
        entries = host_entries (case_at c.args.board.now.trust.cases.now) c.end.result.number bench.host c.end.result.mine named
            (subst (λ (at : Task → Option TestCase). list_all (is_host_entry (admits_of at) bench.host) c.end.result.mine ≡ true) cases c.end.ensures.own);
        spare = ap (λ (p : PassValue). p.spare) c.end.ensures.pass ∙ ap (λ (b : BenchIdentity). b.spare) same ∙ ap (λ (p : PassValue). p.spare) begun ∙ c.requires.spare;
      },
    )
