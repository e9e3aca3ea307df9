-- What a cancel keeps.
use Rattle.std.proofs.Common.{ℕ, ◌≡◌, List, [], ◌∷◌, Option, Some, None, cond, refl, sym, ap, ◌∙◌, subst, map}
use Rattle.std.specs.Option.{option_map, unwrap_or}
use Rattle.farm_kinds.specs.declared.outcomes.Answer.{Answer}
use Rattle.farm_kinds.specs.declared.outcomes.Answer.TheVariants.{Pending}
use Rattle.farm_kinds.specs.declared.outcomes.Mode.{Mode}
use Rattle.farm_kinds.specs.declared.events.Event.{Event}
use Rattle.farm_kinds.specs.declared.events.Event.TheVariants as event
use Rattle.farm_kinds.specs.declared.events.Reply.{Reply}
use Rattle.farm_kinds.specs.declared.events.Reply.TheVariants as reply
use Rattle.farm_kinds.specs.RuleValue.{RuleValue}
use Rattle.farm_model.specs.declared.records.Submission.{Submission}
use Rattle.farm_model.specs.Numbered.{item_of}
use Rattle.farm_model.specs.Rows.{Row, answer_of}
use Rattle.farm_model.specs.Judgings.{Judging, judging_rows, answer_in}
use Rattle.farm_model.specs.Judge.{JudgeState}
use Rattle.farm_model.specs.Rejudgings.{members_in, new_judgings}
use Rattle.farm_model.specs.State.{State, SettingsValue, is_withheld, public_answer}
use Rattle.farm_model.specs.Refusals.{refusal_of}
use Rattle.farm_model.specs.Changes.{accepted}
use Rattle.farm_model.specs.Farm.{farm_step}
use Rattle.farm_model.specs.Replay.{reply_to}
use Rattle.farm_laws.specs.Laws.{reached, current_in, CancelChangesNone}
use Rattle.farm_laws.proofs.Items.{item_seen}
use Rattle.farm_laws.proofs.Kept.{modes_of, KeepsRows, drops_keep}
use Rattle.farm_laws.proofs.Outcomes.{outcome}

-- Answers by modes and rows alone

abbrev answer_by : RuleValue → Option Mode → Option Row → Option Answer
answer_by rule None row = None
answer_by rule (Some mode) row = option_map (answer_of rule mode) row

answer_of_both : (rule : RuleValue) (o : Option Judging)
    → option_map (λ judging. answer_of rule judging.mode judging.row) o ≡ answer_by rule (option_map (λ judging. judging.mode) o) (option_map (λ judging. judging.row) o)
answer_of_both rule None = refl
answer_of_both rule (Some g) = refl

answer_by_both : (rule : RuleValue) (judgings : List Judging) (j : ℕ)
    → answer_in rule judgings j ≡ answer_by rule (item_of (modes_of judgings) j) (item_of (judging_rows judgings) j)
answer_by_both rule judgings j =
    answer_of_both rule (item_of judgings j)
    ∙ ap (λ (mode : Option Mode). answer_by rule mode (option_map (λ judging. judging.row) (item_of judgings j))) (sym (item_seen (λ (judging : Judging). judging.mode) judgings j))
    ∙ ap (answer_by rule (item_of (modes_of judgings) j)) (sym (item_seen (λ (judging : Judging). judging.row) judgings j))

answers_same : (rule : RuleValue) (new old : List Judging) (j : ℕ) → modes_of new ≡ modes_of old → judging_rows new ≡ judging_rows old → answer_in rule new j ≡ answer_in rule old j
answers_same rule new old j modes rows =
    answer_by_both rule new j
    ∙ ap (λ (ms : List Mode). answer_by rule (item_of ms j) (item_of (judging_rows new) j)) modes
    ∙ ap (λ (rs : List Row). answer_by rule (item_of (modes_of old) j) (item_of rs j)) rows
    ∙ sym (answer_by_both rule old j)

-- a judge that keeps its modes and rows reports what it reported
kept_answer : (old new : JudgeState) (j : ℕ) → KeepsRows old new → answer_in new.rule new.judgings j ≡ answer_in old.rule old.judgings j
kept_answer old new j kept =
    ap (λ rule. answer_in rule new.judgings j) kept.rule ∙ answers_same old.rule new.judgings old.judgings j kept.modes kept.rows

-- The board

public_same : (s t : State) (j : ℕ) → KeepsRows s.judge t.judge → is_withheld t j ≡ is_withheld s j → public_answer t j ≡ public_answer s j
public_same s t j kept withheld =
    ap (λ b. cond b Pending (unwrap_or (answer_in t.judge.rule t.judge.judgings j) Pending)) withheld
    ∙ ap (λ o. cond (is_withheld s j) Pending (unwrap_or o Pending)) (kept_answer s.judge t.judge j kept)

board_same : (s t : State) (submissions : List Submission) → KeepsRows s.judge t.judge → ((j : ℕ) → is_withheld t j ≡ is_withheld s j)
    → map (λ (submission : Submission). public_answer t submission.current) submissions ≡ map (λ (submission : Submission). public_answer s submission.current) submissions
board_same s t [] kept withheld = refl
board_same s t (x ∷ submissions) kept withheld =
    ap (λ (answer : Answer). answer ∷ map (λ (submission : Submission). public_answer t submission.current) submissions) (public_same s t x.current kept (withheld x.current))
    ∙ ap (λ (answers : List Answer). public_answer s x.current ∷ answers) (board_same s t submissions kept withheld)

-- no current judging changes, and nothing of the board
abbrev ChangesNone : State → State × Reply → Type 0
ChangesNone s p = ((submission : ℕ) → current_in p.0 submission ≡ current_in s submission) × (reply_to p.0 event.Board ≡ reply_to s event.Board)

cancel_keeps : (s : State) (who : List ℕ) (r : ℕ) → ChangesNone s (farm_step s (event.Cancel who r))
cancel_keeps s who r =
    let e = event.Cancel who r in
    let t = (accepted s e).0 in
    outcome (ChangesNone s) s (refusal_of s e) (accepted s e) (λ x. (λ submission. refl, refl)) (λ done.
    let kept = drops_keep s.judge (new_judgings (members_in s.rejudgings r)) in
    (λ submission. refl, ap reply.Board (board_same s t s.submissions kept (λ j. refl))))

pub cancel_changes_none : (settings : SettingsValue) (es : List Event) (e : Event) → CancelChangesNone settings es e (farm_step (reached settings es) e).0
cancel_changes_none settings es e who n at = subst (λ (x : Event). ChangesNone (reached settings es) (farm_step (reached settings es) x)) (sym at) (cancel_keeps (reached settings es) who n)
