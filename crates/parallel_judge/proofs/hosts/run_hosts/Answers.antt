use Rattle.std.proofs.Common.{ℕ, ◌≡◌, ◌+◌, ◌-◌, ◌≤◌, ◌++◌, [], List, Bool, refl, sym, ap, ◌∙◌, subst, arith, All, map, Option}
use Rattle.std.specs.Prelude.{is_some}
use denote.Ref.{Bor}
use Rattle.farm_kinds.specs.declared.kinds.Kind.{Kind}
use Rattle.farm_kinds.specs.declared.outcomes.Task.{Task}
use Rattle.farm_model.specs.State.{State, start}
use Rattle.case_run.specs.Cases.{TestCase}
use Rattle.contest_folder.specs.RosterValue.{RosterValue}
use Rattle.contest_folder.specs.JudgingCases.{case_at}
use Rattle.farm_board.specs.BoardState.{BoardState}
use Rattle.farm_board.specs.Histories.{IsOpening, opening_board, effective_calls}
use Rattle.farm_board.specs.Passes.{BoardId, PassValue, opening_pass}
use Rattle.farm_board.specs.declared.entries.Call.{Call}
use Rattle.farm_board.specs.Trusts.{is_value_of}
use Rattle.farm_board.specs.declared.trust.Proved.{Proved}
use Rattle.parallel_judge.specs.Hosts.{host_names, with_hosts, HasEntered, IsBeside, IsDonePass, pass_numbers}
use Rattle.parallel_judge.specs.Journal.{KeepsJournal}
use Rattle.parallel_judge.specs.Table.{tests_for, named_problem, named_submission}
use Rattle.parallel_judge.specs.UnderWay.{IsUnderWay}
use Rattle.parallel_judge.proofs.Beside.{nothing_beside, all_turned}
use Rattle.parallel_judge.proofs.Closing.{closed_under_way, closed_journal, journal_kept}
use Rattle.parallel_judge.proofs.Opening.{nothing_entered}
use Rattle.parallel_judge.proofs.Rosters.{roster_starts}
use Rattle.parallel_judge.proofs.Whole.{same_numbers}
use Rattle.parallel_judge.proofs.hosts.run_hosts.Given.{Over}
use Rattle.parallel_judge.proofs.hosts.run_hosts.Goals as goal
use Rattle.parallel_judge.proofs.hosts.run_hosts.Goals.{After-is_alone, After-close-farm}

pub new-requires-2-clause-named : goal.new-requires-2-clause-named
new-requires-2-clause-named g c =
    c.requires.named ∙ ap {B = Task → Kind → Bool} (λ (cases : Bor RosterValue) (task : Task) (kind : Kind). is_value_of (case_at cases.now task) kind) (sym c.new.ensures)

-- ---- what the opening pass knows in the end

-- a pass that was opened over the farm of these settings, that has entered the contest, split off passes, and taken
-- them in
record Known (roster : RosterValue) (hosts : ℕ) (journal : Bool) (entered pass : PassValue) : Type 0 where
  has : HasEntered (opening_board (start roster.settings) (hosts + 1) journal) (with_hosts roster hosts) entered
  numbers : List ℕ
  beside : IsBeside (case_at roster) (opening_board (start roster.settings) (hosts + 1) journal) has.calls numbers numbers pass

known : (roster : RosterValue) (hosts : ℕ) (journal : Bool) (board : BoardId) (farm : State) (pass0 entered split pass : PassValue) (started passes : List PassValue)
    → hosts ≤ 16 → farm ≡ start roster.settings → pass0 ≡ opening_pass board (opening_board farm (hosts + 1) journal)
    → ((s : BoardState) → IsOpening s → HasEntered s [] pass0 → HasEntered s (with_hosts roster hosts) entered)
    → ((s : BoardState) (calls : List Call) → IsBeside (case_at roster) s calls [] [] entered → IsBeside (case_at roster) s calls (pass_numbers started) [] split)
    → ((s : BoardState) (calls : List Call) (ns joined : List ℕ) → IsOpening s → IsBeside (case_at roster) s calls ns joined split
    → IsBeside (case_at roster) s calls ns (joined ++ pass_numbers passes) pass)
    → pass_numbers passes ≡ pass_numbers started → Known roster hosts journal entered pass
known roster hosts journal board farm pass0 entered split pass started passes few same opened enters splits joins numbers =
    let s : BoardState = opening_board (start roster.settings) (hosts + 1) journal in
    let o : IsOpening s = record { out = refl; given = refl; seats = omega (arith, few) } in
    let begun : pass0 ≡ opening_pass board s = opened ∙ ap (λ (f : State). opening_pass board (opening_board f (hosts + 1) journal)) same in
    let nothing : HasEntered s [] pass0 = nothing_entered s pass0 (ap (λ (p : PassValue). p.seen) begun) (ap (λ (p : PassValue). p.mine) begun) (ap (λ (p : PassValue). p.number) begun) (ap (λ (p : PassValue). p.start) begun) in
    let has = enters s o nothing in
    let alone = nothing_beside (case_at roster) s (with_hosts roster hosts) entered has in
    let out = splits s has.calls alone in
    let back = joins s has.calls (pass_numbers started) [] o out in
    record {
      has = has;
      numbers = pass_numbers started;
      beside = subst (λ (ns : List ℕ). IsBeside (case_at roster) s has.calls (pass_numbers started) ns pass) numbers back;
    }

-- ---- the calls of this function

-- the board trusts the values of the roster's cases
same_cases : (cases : Bor RosterValue) (roster : Bor RosterValue) → cases ≡ roster → (passes : List PassValue) (board : BoardId)
    → All (IsDonePass (case_at cases.now) board) passes → All (IsDonePass (case_at roster.now) board) passes
same_cases cases roster same passes board h = subst (λ (r : Bor RosterValue). All (IsDonePass (case_at r.now) board) passes) same h

-- what the calls before the closing tell
ended : (g : Over) (c : After-is_alone g) → Known c.args.roster.now c.args.hosts c.args.journal c.enter_contest.new.pass c.join_passes.new.pass
ended g c =
    let roster = c.args.roster.now in
    let at = case_at roster in
    let done = same_cases c.in_ok-board.board.trust.cases c.args.roster (ap (λ (t : Proved (Bor RosterValue)). t.cases) c.in_ok-board.ensures.trust ∙ c.new.ensures)
    c.in_ok-ended.ended.items c.in_ok-board.board.id c.in_ok-ended.ensures.passes in
    let len = c.in_ok-ended.ensures.len in
    let begun = c.in_ok-begun.begun.ok in
    let ended = c.in_ok-ended.ended.ok in
    known roster c.args.hosts c.args.journal c.in_ok-board.board.id c.new-farm.result c.in_ok-board.pass c.enter_contest.new.pass c.split_passes.new.pass c.join_passes.new.pass
    c.in_ok-begun.begun.items c.in_ok-ended.ended.items c.requires.hosts (c.new-farm.ensures ∙ ap start (c.in_ok-copy.ensures ∙ c.settings.ensures.settings)) c.in_ok-board.ensures.pass
    (λ s o h. c.in_ok-enter_contest.ensures.entered s o h)
    (λ s calls b. c.in_ok-begun.ensures.beside at s calls b)
    (λ s calls ns joined o b. c.join_passes.ensures.beside at s calls ns joined o done b)
    (same_numbers c.in_ok-ended.ended.items c.in_ok-begun.begun.items (omega (arith, len, begun, ended)) c.in_ok-ended.ensures.numbers)

-- the same once the board is closed
closed : (g : Over) (c : After-close-farm g) → Known c.args.roster.now c.args.hosts c.args.journal c.enter_contest.new.pass c.join_passes.new.pass
closed g c =
    let roster = c.args.roster.now in
    let at = case_at roster in
    let done = same_cases c.in_ok-board.board.trust.cases c.args.roster (ap (λ (t : Proved (Bor RosterValue)). t.cases) c.in_ok-board.ensures.trust ∙ c.new.ensures)
    c.in_ok-ended.ended.items c.in_ok-board.board.id c.in_ok-ended.ensures.passes in
    let len = c.in_ok-ended.ensures.len in
    let begun = c.in_ok-begun.begun.ok in
    let ended = c.in_ok-ended.ended.ok in
    known roster c.args.hosts c.args.journal c.in_ok-board.board.id c.new-farm.result c.in_ok-board.pass c.enter_contest.new.pass c.split_passes.new.pass c.join_passes.new.pass
    c.in_ok-begun.begun.items c.in_ok-ended.ended.items c.requires.hosts (c.new-farm.ensures ∙ ap start (c.in_ok-copy.ensures ∙ c.settings.ensures.settings)) c.in_ok-board.ensures.pass
    (λ s o h. c.in_ok-enter_contest.ensures.entered s o h)
    (λ s calls b. c.in_ok-begun.ensures.beside at s calls b)
    (λ s calls ns joined o b. c.join_passes.ensures.beside at s calls ns joined o done b)
    (same_numbers c.in_ok-ended.ended.items c.in_ok-begun.begun.items (omega (arith, len, begun, ended)) c.in_ok-ended.ensures.numbers)

no_spare : (board : BoardId) (at : Task → Option TestCase) (passes : List PassValue) → All (IsDonePass at board) passes → All (λ (p : PassValue). p.spare ≡ 0) passes
no_spare board at passes h = all_turned (IsDonePass at board) (λ (p : PassValue). p.spare ≡ 0) (λ p d. d.spare) passes h

pub close-farm-requires-clause-alone : goal.close-farm-requires-clause-alone
close-farm-requires-clause-alone g c =
    let e = ended g c in
    let seats : c.join_passes.new.pass.start.seats ≡ c.args.hosts + 1 = ap (λ (s : BoardState). s.seats) e.beside.begins in
    let opened : c.in_ok-board.pass.spare ≡ c.args.hosts + 1 - 1 = ap (λ (p : PassValue). p.spare) c.in_ok-board.ensures.pass in
    let entered = c.enter_contest.ensures.spare in
    let split = c.in_ok-begun.ensures.spare in
    let begun = c.in_ok-begun.ensures.len in
    let ended = c.in_ok-ended.ensures.len in
    let joined = c.join_passes.ensures.spare (no_spare _ _ c.in_ok-ended.ended.items c.in_ok-ended.ensures.passes) in
    c.is_alone.ensures.alone (c.is_alone.ensures.spare (omega (arith, seats, opened, entered, split, begun, ended, joined)))

pub returns-clause-under_way : goal.returns-clause-under_way
returns-clause-under_way g c =
    let roster = c.args.roster.now in
    let cells = map (tests_for roster) roster.submissions in
    let e = closed g c in
    subst (IsUnderWay roster.settings (case_at roster) cells [] (host_names c.args.hosts)) (sym c.close-farm.ensures.farm)
    (closed_under_way roster.settings (case_at roster) cells (host_names c.args.hosts) (opening_board (start roster.settings) (c.args.hosts + 1) c.args.journal) (with_hosts roster c.args.hosts)
    c.enter_contest.new.pass c.join_passes.new.pass e.numbers refl refl (roster_starts roster c.args.hosts c.settings.ensures.contest) e.has e.beside)

pub returns-clause-journal : goal.returns-clause-journal
returns-clause-journal g c =
    let roster = c.args.roster.now in
    let e = closed g c in
    subst (λ (s : State). KeepsJournal roster.settings (case_at roster) c.args.hosts s c.close-farm.result.1) (sym c.close-farm.ensures.farm)
    (closed_journal roster.settings (case_at roster) c.args.hosts c.args.journal (map named_problem roster.problems) (map named_submission roster.submissions) (host_names c.args.hosts)
    c.enter_contest.new.pass c.join_passes.new.pass e.numbers c.close-farm.result.1 e.has e.beside c.close-farm.ensures.journal)

pub returns-clause-kept : goal.returns-clause-kept
returns-clause-kept g c =
    let e = closed g c in
    ap is_some c.close-farm.ensures.journal
    ∙ journal_kept c.args.journal c.join_passes.new.pass.start (start c.args.roster.now.settings) (c.args.hosts + 1) (effective_calls c.join_passes.new.pass.seen) e.beside.begins
