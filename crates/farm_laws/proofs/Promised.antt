-- What is written for a script keeps the promise.
use Rattle.std.proofs.Common.{ℕ, zero, suc, ◌≡◌, ◌+◌, ◌-◌, ◌<◌, ◌≤◌, ◌↔◌, List, [], ◌∷◌, ◌++◌, Option, Some, None, Bool, true, false, cond, eqb, ◌&&◌, refl, sym, ap, ◌∙◌, subst, arith, inl, inr, ◌⊎◌, length, take, drop}
use Rattle.std.specs.Option.{is_some}
use Rattle.std.specs.List.{filter_map, cons_option}
use Rattle.std.proofs.Math.Seq.{drop-append_seam}
use Rattle.std.proofs.lemmas.List.Elements.{filter_map-append}
use Rattle.std.proofs.lemmas.List.Sums.{sum_by-append}
use Rattle.farm_kinds.specs.declared.kinds.Kind.{Kind}
use Rattle.farm_kinds.specs.declared.outcomes.Task.{Task}
use Rattle.farm_kinds.specs.declared.outcomes.Answer.{Answer}
use Rattle.farm_kinds.specs.declared.outcomes.Answer.TheVariants.{Final}
use Rattle.farm_kinds.specs.declared.events.Event.{Event}
use Rattle.farm_kinds.specs.declared.events.Event.TheVariants as event
use Rattle.farm_kinds.specs.declared.events.Reply.{Reply}
use Rattle.farm_kinds.specs.declared.events.Reply.TheVariants as reply
use Rattle.farm_io.specs.Lines.{lines_of}
use Rattle.farm_model.specs.Numbered.{item_of}
use Rattle.farm_model.specs.Leases.{same_task}
use Rattle.farm_model.specs.Refusing.{refused_or, unless}
use Rattle.farm_model.specs.State.{State, SettingsValue, start, answer_at}
use Rattle.farm_model.specs.Refusals.{refusal_of}
use Rattle.farm_model.specs.Changes.{accepted}
use Rattle.farm_model.specs.Farm.{farm_step}
use Rattle.farm_model.specs.Texts.{reply_text}
use Rattle.farm_model.specs.Script.{output_from, script_output}
use Rattle.farm_model.specs.Replay.{state_after, reply_to, answered, given_by, if_counted, counted_by, counted_in, times_counted}
use Rattle.farm_laws.specs.Laws.{reached, Reports, ReplyKeepsPromise}
use Rattle.farm_laws.specs.Output.{events_in, events_before, IsReadAs, first_line, written_at, IsTold, IsWritten, FinalStaysWritten, IsResultOf, CountedOnceWritten, PrefixKeepsPromise, WholeIsWritten}
use Rattle.farm_laws.proofs.Items.{there}
use Rattle.farm_laws.proofs.FirstLines.{first_line_prefix, written_behind}
use Rattle.farm_laws.proofs.Outputs.{events_in-append, take_later, events_next, reached_next, output_around}
use Rattle.farm_laws.proofs.ReplyTexts.{HasLine, HandsSome, BatchesSome, AppliesSome, reply_line, counted_told, handed_told, batch_told, applied_told, shown_told, none_told, counted_line, handed_line, batch_line, applied_line, shown_line}
use Rattle.farm_laws.proofs.Runs.{one_more}
use Rattle.farm_laws.proofs.Counting.{same_number}
use Rattle.farm_laws.proofs.Reporting.{step_keeps_promise}

-- Replies that are told otherwise

-- What is told of a reply tells it, as far as the promise speaks of it.
pub record Tells (s : State) (e : Event) (r : Reply) (told : Reply → Type 0) : Type 0 where
  pub shown : (j : ℕ) (answer : Answer) → Reports s e j → told (reply.Shown answer) → r ≡ reply.Shown answer
  pub handed : (task : Task) (until : ℕ) → told (reply.Handed task until) → HandsSome r
  pub batched : (judging : ℕ) (tests : List ℕ) (until : ℕ) → told (reply.Batch judging tests until) → BatchesSome r
  pub counted : told reply.Counted → r ≡ reply.Counted
  pub applied : (members : ℕ) → told (reply.Applied members) → AppliesSome r
  -- and the reply itself is told
  pub shows : (answer : Answer) → r ≡ reply.Shown answer → told (reply.Shown answer)
  pub hands : (task : Task) (until : ℕ) → r ≡ reply.Handed task until → told (reply.Handed task until)
  pub batches : (judging : ℕ) (tests : List ℕ) (until : ℕ) → r ≡ reply.Batch judging tests until → told (reply.Batch judging tests until)
  pub counts : r ≡ reply.Counted → told reply.Counted
  pub applies : (members : ℕ) → r ≡ reply.Applied members → told (reply.Applied members)

pub told_keeps : (settings : SettingsValue) (es : List Event) (e : Event) (new : State) (r : Reply) (told : Reply → Type 0)
    → Tells (reached settings es) e r told → ReplyKeepsPromise settings es e new (λ x. r ≡ x) → ReplyKeepsPromise settings es e new told
told_keeps settings es e new r told t kept = record {
  final_is_exact = λ j v at is. let exact = kept.final_is_exact j v at is in (λ h. exact.0 (t.shown j (Final v) at h), λ h. t.shows (Final v) (exact.1 h));
  pending_is_exact = λ j at is. let exact = kept.pending_is_exact j at is in (λ h. exact.0 (t.shown j _ at h), λ h. t.shows _ (exact.1 h));
  final_stays = λ before later j v at split h. t.shows (Final v) (kept.final_stays before later j v at split h);
  equals_one_thread = λ truth j v at honest knows h. kept.equals_one_thread truth j v at honest knows (t.shown j (Final v) at h);
  hands_out_wanted = λ task until h.
      let some = t.handed task until h in
      let out = kept.hands_out_wanted some.0 some.1 some.2 in
      record { task = out.task; until = out.until; handed = t.hands out.task out.until out.handed; asked = out.asked; wanted = out.wanted };
  fetches_wanted = λ judging tests until h.
      let some = t.batched judging tests until h in
      let out = kept.fetches_wanted some.0 some.1 some.2 some.3 in
      record {
        judging = out.judging;
        tests = out.tests;
        until = out.until;
        handed = t.batches out.judging out.tests out.until out.handed;
        asked = out.asked;
        wanted = out.wanted;
      };
  only_counted_fills = λ other. kept.only_counted_fills (λ h. other (t.counts h));
  counted_fills = λ h. kept.counted_fills (t.counted h);
  applies_to_all = λ who n members at h. let some = t.applied members h in kept.applies_to_all who n some.0 at some.1;
  cancel_changes_none = kept.cancel_changes_none;
  only_apply_moves = λ none. kept.only_apply_moves (λ who n members at h. none who n members at (t.applies members h));
}

-- What is written for a line

same_some : (x y : List ℕ) → Some x ≡ Some y → x ≡ y
same_some x y h = cc

-- the whole line that was written at the place of a line is the first of its reply's text
written_reply : (settings : SettingsValue) (bytes text more : List ℕ) (n : ℕ) (e : Event) → text ++ more ≡ script_output settings bytes
    → IsReadAs bytes n e → IsWritten settings bytes text n
    → written_at settings bytes text n ≡ first_line (reply_text (reply_to (reached settings (events_before bytes n)) e))
written_reply settings bytes text more n e prefix is written =
    let around = output_around settings bytes n e is in
    let before = output_from (start settings) (take n (lines_of bytes)) in
    let said = reply_text (reply_to (reached settings (events_before bytes n)) e) in
    let line = there (written_at settings bytes text n) written in
    let behind : drop (length before) text ++ more ≡ said ++ around.0 = written_behind before text more (said ++ around.0) line.0 (prefix ∙ around.1) line.1 in
    let own = reply_line (reply_to (reached settings (events_before bytes n)) e) in
    let both : Some line.0 ≡ Some own.0 =
    sym (first_line_prefix (drop (length before) text) more line.0 line.1) ∙ ap first_line behind ∙ first_line_prefix said around.0 own.0 own.1 in
    line.1 ∙ both ∙ sym own.1

shown_or_none : (s : State) (j : ℕ) (b : Bool) (answer : Answer)
    → ((refused_or s (unless b (reply.NoJudging j)) (s, reply.Shown answer)).1 ≡ reply.Shown answer) ⊎ ((refused_or s (unless b (reply.NoJudging j)) (s, reply.Shown answer)).1 ≡ reply.NoJudging j)
shown_or_none s j true answer = inl refl
shown_or_none s j false answer = inr refl

-- the line of a reply to a `show` is that of its answer alone
told_shown : (s : State) (j : ℕ) (answer : Answer) → HasLine (reply_to s (event.Show j)) (reply.Shown answer) → reply_to s (event.Show j) ≡ reply.Shown answer
told_shown s j answer h = elim (shown_or_none s j (is_some (item_of s.judge.judgings j)) (answer_at s j)) [
  | inl is ↦ is ∙ ap reply.Shown (shown_told (answer_at s j) answer (subst (λ (r : Reply). HasLine r (reply.Shown answer)) is h))
  | inr is ↦ absurd (none_told j answer (subst (λ (r : Reply). HasLine r (reply.Shown answer)) is h))
]

-- the line of a reply to an accepted `ask` is that of its answer
told_asked : (s : State) (who : List ℕ) (j : ℕ) (answer : Answer) → refusal_of s (event.Ask who j) ≡ None → HasLine (reply_to s (event.Ask who j)) (reply.Shown answer) → reply_to s (event.Ask who j) ≡ reply.Shown answer
told_asked s who j answer none h =
    let is : reply_to s (event.Ask who j) ≡ reply.Shown (answer_at s j) = ap (λ (r : Option Reply). (refused_or s r (accepted s (event.Ask who j))).1) none in
    is ∙ ap reply.Shown (shown_told (answer_at s j) answer (subst (λ (r : Reply). HasLine r (reply.Shown answer)) is h))

told_reports : (s : State) (e : Event) (j : ℕ) (answer : Answer) → Reports s e j → HasLine (reply_to s e) (reply.Shown answer) → reply_to s e ≡ reply.Shown answer
told_reports s e j answer (inl at) h =
    let same = ap (reply_to s) at in
    same ∙ told_shown s j answer (subst (λ (r : Reply). HasLine r (reply.Shown answer)) same h)
told_reports s e j answer (inr asked) h =
    let same = ap (reply_to s) asked.1 in
    same ∙ told_asked s asked.0 j answer asked.2 (subst (λ (r : Reply). HasLine r (reply.Shown answer)) same h)

-- a reply's text tells it
text_tells : (s : State) (e : Event) (told : Reply → Type 0) → ((x : Reply) → told x ↔ HasLine (reply_to s e) x) → Tells s e (reply_to s e) told
text_tells s e told line = record {
  shown = λ j answer at h. told_reports s e j answer at ((line (reply.Shown answer)).0 h);
  handed = λ task until h. handed_told (reply_to s e) task until ((line (reply.Handed task until)).0 h);
  batched = λ judging tests until h. batch_told (reply_to s e) judging tests until ((line (reply.Batch judging tests until)).0 h);
  counted = λ h. counted_told (reply_to s e) ((line reply.Counted).0 h);
  applied = λ members h. applied_told (reply_to s e) members ((line (reply.Applied members)).0 h);
  shows = λ answer is. (line (reply.Shown answer)).1 (subst (λ (r : Reply). HasLine r (reply.Shown answer)) (sym is) (shown_line answer));
  hands = λ task until is. (line (reply.Handed task until)).1 (subst (λ (r : Reply). HasLine r (reply.Handed task until)) (sym is) (handed_line task until));
  batches = λ judging tests until is. (line (reply.Batch judging tests until)).1 (subst (λ (r : Reply). HasLine r (reply.Batch judging tests until)) (sym is) (batch_line judging tests until));
  counts = λ is. (line reply.Counted).1 (subst (λ (r : Reply). HasLine r reply.Counted) (sym is) counted_line);
  applies = λ members is. (line (reply.Applied members)).1 (subst (λ (r : Reply). HasLine r (reply.Applied members)) (sym is) (applied_line members));
}

-- what is told at the place of a line is the reply to it
pub line_tells : (settings : SettingsValue) (bytes text more : List ℕ) (n : ℕ) (e : Event) → text ++ more ≡ script_output settings bytes
    → IsReadAs bytes n e → IsWritten settings bytes text n → Tells (reached settings (events_before bytes n)) e (reply_to (reached settings (events_before bytes n)) e) (IsTold settings bytes text n)
line_tells settings bytes text more n e prefix is written =
    let same = written_reply settings bytes text more n e prefix is written in
    text_tells (reached settings (events_before bytes n)) e (IsTold settings bytes text n) (λ x. (λ h. sym same ∙ h, λ h. same ∙ h))

line_keeps : (settings : SettingsValue) (bytes text more : List ℕ) → text ++ more ≡ script_output settings bytes → (n : ℕ) (e : Event) → IsReadAs bytes n e → IsWritten settings bytes text n
    → ReplyKeepsPromise settings (events_before bytes n) e (reached settings (events_before bytes (n + 1))) (IsTold settings bytes text n)
line_keeps settings bytes text more prefix n e is written =
    let es = events_before bytes n in
    let s = reached settings es in
    let r = reply_to s e in
    let kept = told_keeps settings es e (farm_step s e).0 r (IsTold settings bytes text n) (line_tells settings bytes text more n e prefix is written) (step_keeps_promise settings es e) in
    subst (λ (t : State). ReplyKeepsPromise settings es e t (IsTold settings bytes text n)) (sym (reached_next settings bytes n e is)) kept

-- Several lines

-- the events before a line are among those before a later one
events_later : (bytes : List ℕ) (n m : ℕ) → n ≤ m → (later : List Event) × (events_before bytes m ≡ events_before bytes n ++ later)
events_later bytes n m h =
    let more = take (m - n) (drop n (lines_of bytes)) in
    (events_in more, ap events_in (take_later (lines_of bytes) n m h) ∙ events_in-append (take n (lines_of bytes)) more)

told_written : (settings : SettingsValue) (bytes text : List ℕ) (n : ℕ) (r : Reply) → IsTold settings bytes text n r → IsWritten settings bytes text n
told_written settings bytes text n r h = ap is_some h

final_stays_written : (settings : SettingsValue) (bytes text more : List ℕ) → text ++ more ≡ script_output settings bytes → FinalStaysWritten settings bytes text
final_stays_written settings bytes text more prefix n m j v lt is is' written told =
    let later = events_later bytes n m (omega (arith, lt)) in
    let tells = line_tells settings bytes text more n (event.Show j) prefix is (told_written settings bytes text n (reply.Shown (Final v)) told) in
    (line_keeps settings bytes text more prefix m (event.Show j) is' written).final_stays (events_before bytes n) later.0 j v (inl refl) later.1 (tells.shown j (Final v) (inl refl) told)

answered-append : (s : State) (es later : List Event) → answered s (es ++ later) ≡ answered s es ++ answered (state_after s es) later
answered-append s [] later = refl
answered-append s (e ∷ es) later = ap (λ others. (e, reply_to s e) ∷ others) (answered-append (farm_step s e).0 es later)

counted_in-append : (s : State) (es later : List Event) → counted_in s (es ++ later) ≡ counted_in s es ++ counted_in (state_after s es) later
counted_in-append s es later = ap (filter_map counted_by) (answered-append s es later) ∙ filter_map-append counted_by (answered s es) (answered (state_after s es) later)

times-append : (xs ys : List (Task × Kind)) (task : Task) → times_counted (xs ++ ys) task ≡ times_counted xs task + times_counted ys task
times-append xs ys task = sum_by-append (λ p. cond (same_task p.0 task) 1 0) xs ys

one_time : (task : Task) (kind : Kind) → times_counted ((task, kind) ∷ []) task ≡ 1
one_time task kind =
    one_more (task, kind) [] task
    ∙ ap (λ b. cond (b && eqb task.test task.test) 1 0 + 0) (same_number task.judging) ∙ ap (λ b. cond b 1 0 + 0) (same_number task.test)

-- a result that is counted after some events is counted after more of them
counted_later : (s : State) (es : List Event) (e : Event) (later : List Event) (task : Task) (kind : Kind) → given_by e ≡ Some (task, kind) → reply_to (state_after s es) e ≡ reply.Counted
    → 1 ≤ times_counted (counted_in s ((es ++ e ∷ []) ++ later)) task
counted_later s es e later task kind given counts =
    let here = state_after s es in
    let one : counted_in here (e ∷ []) ≡ (task, kind) ∷ [] = ap (λ o. cons_option o []) (ap (λ r. if_counted r (given_by e)) counts ∙ given) in
    let first = counted_in s es in
    let others = counted_in (state_after s (es ++ e ∷ [])) later in
    let all = ap (λ ps. times_counted ps task) (counted_in-append s (es ++ e ∷ []) later ∙ ap (λ ps. ps ++ others) (counted_in-append s es (e ∷ []) ∙ ap (λ ps. first ++ ps) one)) in
    let sum = times-append (first ++ (task, kind) ∷ []) others task in
    let prefix = times-append first ((task, kind) ∷ []) task in
    let once = one_time task kind in
    omega (arith, all, sum, prefix, once)

same_given : (p q : Task × Kind) → Some p ≡ Some q → p.0 ≡ q.0
same_given p q h = cc

-- two lines with a result of the same task are not both counted, the one before the other
never_both : (settings : SettingsValue) (bytes text more : List ℕ) → text ++ more ≡ script_output settings bytes → (n m : ℕ) (task : Task) → n < m
    → IsResultOf bytes n task → IsResultOf bytes m task → IsTold settings bytes text n reply.Counted → IsTold settings bytes text m reply.Counted → ⊥
never_both settings bytes text more prefix n m task lt is is' told told' =
    let es = events_before bytes n in
    let tells = line_tells settings bytes text more n is.0 prefix is.2 (told_written settings bytes text n reply.Counted told) in
    let later = events_later bytes (n + 1) m (omega (arith, lt)) in
    let before : events_before bytes m ≡ (es ++ is.0 ∷ []) ++ later.0 = later.1 ∙ ap (λ events. events ++ later.0) (events_next bytes n is.0 is.2) in
    let some = counted_later (start settings) es is.0 later.0 task is.1 is.3 (tells.counted told) in
    let result = (line_keeps settings bytes text more prefix m is'.0 is'.2 (told_written settings bytes text m reply.Counted told')).counted_fills told' in
    let same : result.task ≡ task = same_given (result.task, result.kind) (task, is'.1) (sym result.given ∙ is'.3) in
    let none : times_counted (counted_in (start settings) ((es ++ is.0 ∷ []) ++ later.0)) task ≡ 0 =
    ap (λ events. times_counted (counted_in (start settings) events) task) (sym before) ∙ ap (λ (t : Task). times_counted (counted_in (start settings) (events_before bytes m)) t) (sym same) ∙ result.first in
    omega (arith, some, none)

order : (n m : ℕ) → (n < m) ⊎ ((m < n) ⊎ (n ≡ m))
order zero zero = inr (inr refl)
order zero (suc m) = inl (omega arith)
order (suc n) zero = inr (inl (omega arith))
order (suc n) (suc m) = elim (order n m) [ inl h ↦ inl (omega (arith, h)) | inr (inl h) ↦ inr (inl (omega (arith, h))) | inr (inr h) ↦ inr (inr (ap (λ k. suc k) h)) ]

counted_once_written : (settings : SettingsValue) (bytes text more : List ℕ) → text ++ more ≡ script_output settings bytes → CountedOnceWritten settings bytes text
counted_once_written settings bytes text more prefix n m task is is' told told' = elim (order n m) [
  | inl h ↦ absurd (never_both settings bytes text more prefix n m task h is is' told told')
  | inr (inl h) ↦ absurd (never_both settings bytes text more prefix m n task h is' is told' told)
  | inr (inr h) ↦ h
]

-- The promise

pub prefix_keeps_promise : (settings : SettingsValue) (bytes : List ℕ) → PrefixKeepsPromise settings bytes
prefix_keeps_promise settings bytes text more prefix = record {
  each_line = line_keeps settings bytes text more prefix;
  final_stays = final_stays_written settings bytes text more prefix;
  counted_once = counted_once_written settings bytes text more prefix;
}

pub whole_is_written : (settings : SettingsValue) (bytes : List ℕ) → WholeIsWritten settings bytes
whole_is_written settings bytes n e is =
    let around = output_around settings bytes n e is in
    let before = output_from (start settings) (take n (lines_of bytes)) in
    let said = reply_text (reply_to (reached settings (events_before bytes n)) e) in
    let own = reply_line (reply_to (reached settings (events_before bytes n)) e) in
    let rest : drop (length before) (script_output settings bytes) ≡ said ++ around.0 = ap (drop (length before)) around.1 ∙ drop-append_seam before (said ++ around.0) in
    ap is_some (ap first_line rest ∙ first_line_prefix said around.0 own.0 own.1)
