-- The farm and the journal once the board is closed.
use Rattle.std.proofs.Common.{◌≡◌, ℕ, ◌+◌, Bool, true, false, List, [], ◌∷◌, ◌++◌, Option, Some, None, map, refl, sym, ap, ◌∙◌, subst}
use Rattle.std.specs.Prelude.{is_some}
use Rattle.std.proofs.lemmas.List.{append-nil}
use Rattle.farm_kinds.specs.declared.outcomes.NamedMode.{NamedMode}
use Rattle.farm_kinds.specs.declared.outcomes.Task.{Task}
use Rattle.farm_kinds.specs.declared.events.Event.{Event}
use Rattle.farm_kinds.specs.declared.events.Event.TheVariants as event
use Rattle.farm_model.specs.State.{State, SettingsValue, start}
use Rattle.farm_model.specs.Replay.{state_after}
use Rattle.farm_laws.specs.Laws.{reached}
use Rattle.farm_laws.proofs.Each.{Each, each_append}
use Rattle.case_run.specs.Cases.{TestCase}
use Rattle.farm_board.specs.BoardState.{BoardState}
use Rattle.farm_board.specs.Histories.{is_no_memory, opening_board, empty_journal, board_after, call_unless, effective_calls, journal_with_calls}
use Rattle.farm_board.specs.Passes.{PassValue, board_seen}
use Rattle.farm_board.specs.declared.entries.Call.{Call}
use Rattle.farm_board.specs.declared.entries.HistoryEntry.{HistoryEntry}
use Rattle.farm_board.specs.declared.entries.HistoryEntry.TheVariants as entry
use Rattle.farm_board.proofs.Histories.{board_after_append}
use Rattle.parallel_judge.specs.Entering.{NamedProblem, NamedSubmission, problem_event, submission_event, ask_event, waiting, contest_events}
use Rattle.parallel_judge.specs.Hosts.{as_entries, HasEntered, IsBeside}
use Rattle.parallel_judge.specs.Journal.{events_in, IsJudgingEvent, AreCallers, AreJudging, AreNamed, IsKept, KeepsJournal}
use Rattle.parallel_judge.specs.UnderWay.{IsUnderWay}
use Rattle.parallel_judge.proofs.Opening.{entered_state}
use Rattle.parallel_judge.proofs.Replies.{legal_answers}
use Rattle.parallel_judge.proofs.Whole.{all_known, entries_under_way, call_named, entries_judging, entries_named}

-- ---- the events of a contest and its hosts

abbrev AllJudge : (Task → Option TestCase) → List Event → Type 0
AllJudge case_at es = Each (IsJudgingEvent case_at) es

problems_judge : (case_at : Task → Option TestCase) (ps : List NamedProblem) → AllJudge case_at (map problem_event ps)
problems_judge case_at [] = tt
problems_judge case_at (p ∷ ps) = (tt, problems_judge case_at ps)

submissions_judge : (case_at : Task → Option TestCase) (xs : List NamedSubmission) → AllJudge case_at (map submission_event xs)
submissions_judge case_at [] = tt
submissions_judge case_at (x ∷ xs) = (tt, submissions_judge case_at xs)

hosts_judge : (case_at : Task → Option TestCase) (names : List (List ℕ)) → AllJudge case_at (map event.Host names)
hosts_judge case_at [] = tt
hosts_judge case_at (name ∷ names) = (tt, hosts_judge case_at names)

asks_judge : (case_at : Task → Option TestCase) (ns : List ℕ) → AllJudge case_at (map ask_event ns)
asks_judge case_at [] = tt
asks_judge case_at (n ∷ ns) = (tt, asks_judge case_at ns)

contest_judges : (case_at : Task → Option TestCase) (modes : List NamedMode) (ps : List NamedProblem) (xs : List NamedSubmission) (names : List (List ℕ)) → AllJudge case_at (contest_events modes ps xs ++ map event.Host names)
contest_judges case_at modes ps xs names =
    let both = each_append (IsJudgingEvent case_at) (map problem_event ps) (map submission_event xs) (problems_judge case_at ps) (submissions_judge case_at xs) in
    let contest = each_append (IsJudgingEvent case_at) (map problem_event ps ++ map submission_event xs) (map ask_event (waiting modes 1 xs)) both (asks_judge case_at (waiting modes 1 xs)) in
    each_append (IsJudgingEvent case_at) (contest_events modes ps xs) (map event.Host names) contest (hosts_judge case_at names)

-- ---- calls

call_judges : (case_at : Task → Option TestCase) (call : Call) (b : Bool) (more : List Call) → IsJudgingEvent case_at call.event → AreJudging case_at more → AreJudging case_at (call_unless b call more)
call_judges case_at call true more is h = h
call_judges case_at call false more is h = (is, h)

-- what the caller enters is no host's
calls_named : (calls : List Call) → AreCallers calls → AreNamed (effective_calls (as_entries calls))
calls_named [] h = tt
calls_named (call ∷ calls) h = call_named call (is_no_memory call.reply) (effective_calls (as_entries calls)) (λ other. absurd (other h.0)) (calls_named calls h.1)

both_named : (xs ys : List Call) → AreNamed xs → AreNamed ys → AreNamed (xs ++ ys)
both_named [] ys h k = k
both_named (x ∷ xs) ys h k = (h.0, both_named xs ys h.1 k)

calls_judge : (case_at : Task → Option TestCase) (calls : List Call) → AllJudge case_at (events_in calls) → AreJudging case_at (effective_calls (as_entries calls))
calls_judge case_at [] h = tt
calls_judge case_at (call ∷ calls) h = call_judges case_at call (is_no_memory call.reply) (effective_calls (as_entries calls)) h.0 (calls_judge case_at calls h.1)

both_judge : (case_at : Task → Option TestCase) (xs ys : List Call) → AreJudging case_at xs → AreJudging case_at ys → AreJudging case_at (xs ++ ys)
both_judge case_at [] ys h k = k
both_judge case_at (x ∷ xs) ys h k = (h.0, both_judge case_at xs ys h.1 k)

unless_append : (b : Bool) (call : Call) (xs ys : List Call) → call_unless b call (xs ++ ys) ≡ call_unless b call xs ++ ys
unless_append true call xs ys = refl
unless_append false call xs ys = refl

effective_append : (es fs : List HistoryEntry) → effective_calls (es ++ fs) ≡ effective_calls es ++ effective_calls fs
effective_append [] fs = refl
effective_append (entry.Call call ∷ es) fs =
    ap (call_unless (is_no_memory call.reply) call) (effective_append es fs) ∙ unless_append (is_no_memory call.reply) call (effective_calls es) (effective_calls fs)
effective_append (entry.Split number new ∷ es) fs = effective_append es fs
effective_append (entry.Join number old ∷ es) fs = effective_append es fs

-- ---- the farm

-- the contest is under way
pub closed_under_way : (settings : SettingsValue) (case_at : Task → Option TestCase) (cells : List ℕ) (names : List (List ℕ)) (opening : BoardState) (events : List Event) (entered pass : PassValue) (split : List ℕ)
    → opening.state ≡ start settings → opening.out ≡ 0 ∷ [] → IsUnderWay settings case_at cells [] names (reached settings events)
    → (h : HasEntered opening events entered) → IsBeside case_at opening h.calls split split pass → IsUnderWay settings case_at cells [] names (board_seen pass).state
closed_under_way settings case_at cells names opening events entered pass split begins out w h b =
    let s = board_after opening (as_entries h.calls) in
    let here : s.state ≡ reached settings events = entered_state opening events entered h ∙ ap (λ (t : State). state_after t events) begins in
    let after : board_seen pass ≡ board_after s b.rest =
    ap (λ (t : BoardState). board_after t pass.seen) b.begins ∙ ap (λ (es : List HistoryEntry). board_after opening es) b.seen ∙ board_after_append opening (as_entries h.calls) b.rest in
    subst (λ (t : BoardState). IsUnderWay settings case_at cells [] names t.state) (sym after)
    (entries_under_way settings case_at cells [] names s b.rest (all_known case_at opening h.calls split pass out b)
    (subst (λ (t : State). IsUnderWay settings case_at cells [] names t) (sym here) w))

-- ---- the journal

all_judging : (case_at : Task → Option TestCase) (opening : BoardState) (events : List Event) (entered pass : PassValue) (split : List ℕ) → opening.out ≡ 0 ∷ [] → AllJudge case_at events
    → (h : HasEntered opening events entered) → IsBeside case_at opening h.calls split split pass → AreJudging case_at (effective_calls pass.seen)
all_judging case_at opening events entered pass split out judge h b =
    subst (AreJudging case_at) (sym (ap effective_calls b.seen ∙ effective_append (as_entries h.calls) b.rest))
    (both_judge case_at (effective_calls (as_entries h.calls)) (effective_calls b.rest)
    (calls_judge case_at h.calls (subst (AllJudge case_at) (sym h.events_are) judge)) (entries_judging case_at b.rest (all_known case_at opening h.calls split pass out b)))

all_named : (case_at : Task → Option TestCase) (opening : BoardState) (events : List Event) (entered pass : PassValue) (split : List ℕ) → opening.out ≡ 0 ∷ []
    → (h : HasEntered opening events entered) → IsBeside case_at opening h.calls split split pass → AreNamed (effective_calls pass.seen)
all_named case_at opening events entered pass split out h b =
    subst AreNamed (sym (ap effective_calls b.seen ∙ effective_append (as_entries h.calls) b.rest))
    (both_named (effective_calls (as_entries h.calls)) (effective_calls b.rest) (calls_named h.calls h.callers) (entries_named case_at b.rest (all_known case_at opening h.calls split pass out b)))

journal_is : (journal : Option (List Call)) (seen calls : List Call) → journal_with_calls (Some []) seen ≡ Some calls → seen ≡ calls
journal_is journal seen calls e = cc

-- the journal is that of the farm
pub closed_journal : (settings : SettingsValue) (case_at : Task → Option TestCase) (hosts : ℕ) (journal : Bool) (ps : List NamedProblem) (xs : List NamedSubmission) (names : List (List ℕ))
    (entered pass : PassValue) (split : List ℕ) (kept : Option (List Call))
    → (h : HasEntered (opening_board (start settings) (hosts + 1) journal) (contest_events settings.modes ps xs ++ map event.Host names) entered)
    → IsBeside case_at (opening_board (start settings) (hosts + 1) journal) h.calls split split pass
    → kept ≡ journal_with_calls pass.start.journal (effective_calls pass.seen) → KeepsJournal settings case_at hosts (board_seen pass).state kept
closed_journal settings case_at hosts false ps xs names entered pass split kept h b is calls some =
    let none : journal_with_calls pass.start.journal (effective_calls pass.seen) ≡ None = ap (λ (s : BoardState). journal_with_calls s.journal (effective_calls pass.seen)) b.begins in
    let no : Some calls ≡ None = sym some ∙ is ∙ none in cc
closed_journal settings case_at hosts true ps xs names entered pass split kept h b is calls some =
    let opening = opening_board (start settings) (hosts + 1) true in
    let same : effective_calls pass.seen ≡ calls =
    journal_is kept (effective_calls pass.seen) calls (sym (is ∙ ap (λ (s : BoardState). journal_with_calls s.journal (effective_calls pass.seen)) b.begins) ∙ some) in
    let answers = legal_answers opening pass.seen b.legal in
    subst (IsKept settings case_at hosts (board_seen pass).state) same (record {
      history = pass.seen;
      later = [];
      legal = b.legal;
      whole = sym (append-nil (effective_calls pass.seen));
      callers = tt;
      named = all_named case_at opening (contest_events settings.modes ps xs ++ map event.Host names) entered pass split refl h b;
      answered = answers.0;
      judging = all_judging case_at opening (contest_events settings.modes ps xs ++ map event.Host names) entered pass split refl (contest_judges case_at settings.modes ps xs names) h b;
      stands = ap (λ (s : BoardState). (board_after s pass.seen).state) b.begins ∙ answers.1;
    })

-- a journal is there where it was asked for
pub journal_kept : (journal : Bool) (s : BoardState) (farm : State) (seats : ℕ) (more : List Call) → s ≡ opening_board farm seats journal
    → is_some (journal_with_calls s.journal more) ≡ journal
journal_kept journal s farm seats more e = ap (λ (t : BoardState). is_some (journal_with_calls t.journal more)) e ∙ by journal where
  by : (journal : Bool) → is_some (journal_with_calls (empty_journal journal) more) ≡ journal
  by true = refl
  by false = refl
