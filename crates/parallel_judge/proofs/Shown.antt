-- What is reported once no task is open: what running every test in rank order on one thread gives.
use Rattle.std.proofs.Common.{ℕ, ◌≡◌, List, [], slice_get, Option, Some, None, Bool, true, false, inl, ◌&&◌, refl, sym, ap, ◌∙◌, subst, length}
use Rattle.std.specs.Prelude.{IsSome, is_some, not}
use Rattle.std.specs.Option.{option_map, unwrap_or}
use Rattle.farm_kinds.specs.declared.outcomes.Answer.{Answer}
use Rattle.farm_kinds.specs.declared.outcomes.Answer.TheVariants.{Final, Pending}
use Rattle.farm_kinds.specs.declared.outcomes.Mode.{Mode}
use Rattle.farm_kinds.specs.declared.outcomes.Mode.TheVariants.{Lazy}
use Rattle.farm_kinds.specs.declared.outcomes.Task.{Task}
use Rattle.farm_kinds.specs.declared.outcomes.Verdict.{Verdict}
use Rattle.farm_kinds.specs.declared.events.Event.{Event}
use Rattle.farm_kinds.specs.declared.events.Event.TheVariants as event
use Rattle.farm_kinds.specs.declared.events.Reply.TheVariants as reply
use Rattle.farm_kinds.specs.RuleValue.{RuleValue}
use Rattle.farm_model.specs.Numbered.{item_of}
use Rattle.farm_model.specs.Refusing.{unless, refused_or}
use Rattle.farm_model.specs.Rows.{Row}
use Rattle.farm_model.specs.Open.{is_wanted, is_active, open_tasks}
use Rattle.farm_model.specs.Judgings.{Judging, task_of}
use Rattle.farm_model.specs.Judge.{first_open}
use Rattle.farm_model.specs.State.{State, SettingsValue, start, answer_at}
use Rattle.farm_model.specs.Replay.{reply_to, IsHonest, KnowsAll, one_thread_verdict}
use Rattle.farm_laws.specs.Laws.{reached, row_in, mode_in, replayed_row}
use Rattle.farm_laws.proofs.Runs.{runs}
use Rattle.farm_laws.proofs.Reporting.{keeps_promise}
use Rattle.case_run.specs.Cases.{TestCase}
use Rattle.case_run.specs.Values.{case_value}
use Rattle.parallel_judge.specs.Working.{truth_of, IsRunnable, IsReady, IsHonestRun}
use Rattle.parallel_judge.proofs.NoneOpen.{not_wanted}

-- a judging that is there is shown
shown : (s : State) (j : ℕ) (g : Judging) → item_of s.judge.judgings j ≡ Some g → reply_to s (event.Show j) ≡ reply.Shown (answer_at s j)
shown s j g there =
    ap (λ (o : Option Judging). (refused_or s (unless (is_some o) (reply.NoJudging j)) (s, reply.Shown (answer_at s j))).1) there

has_value : (o : Option TestCase) → IsSome o → IsSome (option_map case_value o)
has_value None h = cc
has_value (Some c) h = refl

knows : (case_at : Task → Option TestCase) (j : ℕ) (g : Judging) → IsRunnable case_at j g → KnowsAll (truth_of case_at) j (length g.row)
knows case_at j g runnable test low high = has_value (case_at (task_of j test)) (runnable.cases test low high)

row_there : (s : State) (j : ℕ) (g : Judging) → item_of s.judge.judgings j ≡ Some g → row_in s j ≡ g.row
row_there s j g there = ap (λ (o : Option Judging). unwrap_or (option_map (λ judging. judging.row) o) []) there

none_wanted : (settings : SettingsValue) (case_at : Task → Option TestCase) (host : List ℕ) (es : List Event) (j : ℕ) (g : Judging) (test : ℕ)
    → IsReady case_at host (reached settings es) → first_open (reached settings es).judge ≡ None → item_of (reached settings es).judge.judgings j ≡ Some g
    → item_of (replayed_row settings es j) test ≡ Some None → is_wanted settings.rule (mode_in (reached settings es) j) (replayed_row settings es j) test ≡ false
none_wanted settings case_at host es j g test ready none there empty =
    let s = reached settings es in
    let run = runs (start settings) es in
    let row : replayed_row settings es j ≡ g.row = sym ((keeps_promise settings es).row_is_replayed j (ap is_some there)) ∙ row_there s j g there in
    let mode : mode_in s j ≡ g.mode = ap (λ (o : Option Judging). unwrap_or (option_map (λ judging. judging.mode) o) Lazy) there in
    let runnable = ready.runnable j g there in
    let active : is_active g ≡ true = ap (λ (dropped : Bool). not dropped && g.asked) runnable.undropped ∙ runnable.asked in
    subst (λ (r : Row). is_wanted settings.rule (mode_in s j) r test ≡ false) (sym row)
    (subst (λ (rule : RuleValue). is_wanted rule (mode_in s j) g.row test ≡ false) run.rule
    (subst (λ (m : Mode). is_wanted s.judge.rule m g.row test ≡ false) (sym mode)
    (not_wanted s.judge.rule s.judge.judgings j g test
    (subst (λ leases. slice_get (open_tasks s.judge.rule s.judge.judgings leases) 0 ≡ None) ready.free none)
    there active (ap (λ (r : Row). item_of r test) (sym row) ∙ empty))))

is_final_as : (settings : SettingsValue) (case_at : Task → Option TestCase) (host : List ℕ) (es : List Event) (j : ℕ) (g : Judging) (a : Answer)
    → IsHonest (start settings) es (truth_of case_at) → IsReady case_at host (reached settings es) → first_open (reached settings es).judge ≡ None
    → item_of (reached settings es).judge.judgings j ≡ Some g → reply_to (reached settings es) (event.Show j) ≡ reply.Shown a
    → a ≡ Final (one_thread_verdict settings.rule (truth_of case_at) j (length g.row))
is_final_as settings case_at host es j g Pending honest ready none there told =
    let promise = (keeps_promise settings es).each_step (event.Show j) in
    let wanted = (promise.pending_is_exact j (inl refl) (ap is_some there)).0 told in
    absurd (let no : true ≡ false = sym wanted.1.1 ∙ none_wanted settings case_at host es j g wanted.0 ready none there wanted.1.0 in cc)
is_final_as settings case_at host es j g (Final v) honest ready none there told =
    let promise = (keeps_promise settings es).each_step (event.Show j) in
    let row = ap (λ (r : Row). length r) (row_there (reached settings es) j g there) in
    let knows_all : KnowsAll (truth_of case_at) j (length (row_in (reached settings es) j)) = subst (KnowsAll (truth_of case_at) j) (sym row) (knows case_at j g (ready.runnable j g there)) in
    ap (λ (w : Verdict). Final w) (promise.equals_one_thread (truth_of case_at) j v (inl refl) honest knows_all told
    ∙ ap (one_thread_verdict settings.rule (truth_of case_at) j) row)

shows_reached : (settings : SettingsValue) (case_at : Task → Option TestCase) (host : List ℕ) (es : List Event) (j : ℕ) (g : Judging)
    → IsHonest (start settings) es (truth_of case_at) → IsReady case_at host (reached settings es) → first_open (reached settings es).judge ≡ None
    → item_of (reached settings es).judge.judgings j ≡ Some g
    → reply_to (reached settings es) (event.Show j) ≡ reply.Shown (Final (one_thread_verdict settings.rule (truth_of case_at) j (length g.row)))
shows_reached settings case_at host es j g honest ready none there =
    let told = shown (reached settings es) j g there in
    told ∙ ap (λ (a : Answer). reply.Shown a) (is_final_as settings case_at host es j g (answer_at (reached settings es) j) honest ready none there told)

-- each judging is shown final, with the verdict of one thread
pub shows_final : (settings : SettingsValue) (case_at : Task → Option TestCase) (host : List ℕ) (s : State) (j : ℕ) (g : Judging)
    → IsHonestRun settings case_at s → IsReady case_at host s → first_open s.judge ≡ None → item_of s.judge.judgings j ≡ Some g
    → reply_to s (event.Show j) ≡ reply.Shown (Final (one_thread_verdict settings.rule (truth_of case_at) j (length g.row)))
shows_final settings case_at host s j g run ready none there =
    subst (λ (t : State). reply_to t (event.Show j) ≡ reply.Shown (Final (one_thread_verdict settings.rule (truth_of case_at) j (length g.row)))) (sym run.stands)
    (shows_reached settings case_at host run.events j g run.honest (subst (IsReady case_at host) run.stands ready)
    (subst (λ (t : State). first_open t.judge ≡ None) run.stands none) (subst (λ (t : State). item_of t.judge.judgings j ≡ Some g) run.stands there))
