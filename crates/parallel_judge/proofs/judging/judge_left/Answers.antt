use Rattle.std.proofs.Common.{◌≡◌, [], List, ℕ, Result, Ok, Err, IfOk, map, sym, ap, ◌∙◌, subst}
use Rattle.farm_model.specs.Judge.{first_open}
use Rattle.farm_model.specs.State.{State}
use Rattle.contest_folder.specs.RosterValue.{RosterValue}
use Rattle.contest_folder.specs.JudgingCases.{case_at}
use Rattle.farm_kinds.specs.declared.events.Event.TheVariants as event
use Rattle.farm_model.specs.Farm.{farm_step}
use Rattle.parallel_judge.specs.Hosts.{host_names}
use Rattle.parallel_judge.specs.Table.{tests_for}
use Rattle.parallel_judge.specs.UnderWay.{IsUnderWay}
use Rattle.parallel_judge.specs.Working.{IsEntered, IsFinished}
use Rattle.parallel_judge.proofs.Deaths.{caller_enters}
use Rattle.parallel_judge.proofs.Rosters.{each_shown_final}
use Rattle.parallel_judge.proofs.Starting.{names_few}
use Rattle.parallel_judge.proofs.judging.judge_left.Goals as goal

-- all hosts are down, and the caller is up
entered : (roster : RosterValue) (hosts : ℕ) (name : List ℕ) (s t : State) → IsUnderWay roster.settings (case_at roster) (map (tests_for roster) roster.submissions) (host_names hosts) [] s
    → t ≡ (farm_step s (event.Host name)).0 → IsEntered roster.settings (case_at roster) (map (tests_for roster) roster.submissions) name t
entered roster hosts name s t down is =
    let cells = map (tests_for roster) roster.submissions in
    subst (IsEntered roster.settings (case_at roster) cells name) (sym is) (caller_enters roster.settings (case_at roster) cells (host_names hosts) name s down (names_few hosts))

-- what follows where a call went well, from what then holds
where_ok : {A E P Q : Type 0} (r : Result A E) → IfOk r (λ x. P) → (P → Q) → IfOk r (λ x. Q)
where_ok (Ok x) p f = f p
where_ok (Err e) p f = tt

pub finish-finished-requires : goal.finish-finished-requires
finish-finished-requires g c =
    let roster = c.args.roster.now in
    (entered roster c.args.hosts c.caller-host.result c.bring_down.new.noted.farm c.enter.new.self.farm
    (c.in_ok-bring_down.ensures.down roster.settings (case_at roster) (map (tests_for roster) roster.submissions) c.requires.under_way) c.in_ok-enter.ensures.state).ready

pub read_table-requires : goal.read_table-requires
read_table-requires g c =
    let roster = c.args.roster.now in
    let e = entered roster c.args.hosts c.caller-host.result c.bring_down.new.noted.farm c.enter.new.self.farm
    (c.in_ok-bring_down.ensures.down roster.settings (case_at roster) (map (tests_for roster) roster.submissions) c.requires.under_way) c.in_ok-enter.ensures.state in
    record {
      host = c.caller-host.result;
      entered = record {
        ready = c.in_ok-finished.ensures.ready;
        honest = c.in_ok-finished.ensures.honest roster.settings e.honest;
        lengths = c.in_ok-finished.ensures.lengths ∙ e.lengths;
      };
      ended = c.in_ok-finished.ensures.ended;
    }

pub returns-clause-journal : goal.returns-clause-journal
returns-clause-journal g c = where_ok c.read_table.result c.read_table.ensures.same (λ same. λ calls is.
    let roster = c.args.roster.now in
    let e = entered roster c.args.hosts c.caller-host.result c.bring_down.new.noted.farm c.enter.new.self.farm
    (c.in_ok-bring_down.ensures.down roster.settings (case_at roster) (map (tests_for roster) roster.submissions) c.requires.under_way) c.in_ok-enter.ensures.state in
    let done : IsFinished roster.settings (case_at roster) (map (tests_for roster) roster.submissions) c.read_table.new.noted.farm = record {
      host = c.caller-host.result;
      entered = subst (IsEntered roster.settings (case_at roster) (map (tests_for roster) roster.submissions) c.caller-host.result) (sym same) (record {
        ready = c.in_ok-finished.ensures.ready;
        honest = c.in_ok-finished.ensures.honest roster.settings e.honest;
        lengths = c.in_ok-finished.ensures.lengths ∙ e.lengths;
      });
      ended = ap (λ (s : State). first_open s.judge) same ∙ c.in_ok-finished.ensures.ended;
    } in
    let kept = c.read_table.ensures.journal (case_at roster) roster.settings c.args.hosts
    (c.finish-finished.ensures.journal roster.settings c.args.hosts
    (c.enter.ensures.journal (case_at roster) tt roster.settings c.args.hosts
    (c.bring_down.ensures.journal (case_at roster) roster.settings c.args.hosts c.requires.journal))) in
    record {
      end = c.read_table.new.noted.farm;
      kept = kept calls is;
      none_open = done.ended;
      verdicts = each_shown_final roster c.read_table.new.noted.farm done;
    })
