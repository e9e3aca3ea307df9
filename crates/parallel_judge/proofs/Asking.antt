-- Judgings that wait are asked for, and then each judging of a contest can be run.
use Rattle.std.proofs.Common.{ℕ, zero, suc, ◌≡◌, ◌+◌, ◌≤◌, ◌⊎◌, List, [], ◌∷◌, Option, Some, Bool, true, false, cond, refl, sym, ap, ◌∙◌, subst, arith, inl, inr, length, map, slice_get}
use Rattle.std.specs.Prelude.{IsSome}
use Rattle.std.specs.Option.{option_map, unwrap_or, is_some}
use Rattle.std.proofs.lemmas.Bool.{cases_eq}
use Rattle.farm_kinds.specs.Names.{jury}
use Rattle.farm_kinds.specs.declared.outcomes.AskEnd.TheVariants as ask
use Rattle.farm_kinds.specs.declared.outcomes.NamedMode.{NamedMode}
use Rattle.farm_kinds.specs.declared.outcomes.Task.{Task}
use Rattle.farm_kinds.specs.declared.events.Event.TheVariants as event
use Rattle.farm_kinds.specs.declared.events.Reply.{Reply}
use Rattle.farm_model.specs.Numbered.{item_of}
use Rattle.farm_model.specs.Refusing.{when, unless, first_of, refused_or}
use Rattle.farm_model.specs.Judgings.{Judging, task_of, is_dropped, is_asked, mark_asked, with_asked}
use Rattle.farm_model.specs.State.{State}
use Rattle.farm_model.specs.Refusals.{ask_reply}
use Rattle.farm_model.specs.Changes.{logged, asked_named}
use Rattle.farm_model.specs.Farm.{farm_step}
use Rattle.farm_model.specs.Replay.{state_after}
use Rattle.farm_laws.proofs.Items.{change_other}
use Rattle.farm_laws.proofs.Kept.{lengths_of, changed_same}
use Rattle.case_run.specs.Cases.{TestCase}
use Rattle.parallel_judge.specs.Entering.{NamedSubmission, waiting, ask_event}
use Rattle.parallel_judge.specs.Working.{AreRunnable, row_lengths}
use Rattle.parallel_judge.proofs.HostEvents.{changed_was}

-- ---- one judging is asked for

-- a judging that can be run once it is asked for
pub record IsAskable (case_at : Task → Option TestCase) (j : ℕ) (judging : Judging) : Type 0 where
  pub undropped : judging.dropped ≡ false
  pub handed : length judging.handed ≡ length judging.row
  pub cases : (test : ℕ) → 1 ≤ test → test ≤ length judging.row → IsSome (case_at (task_of j test))

abbrev pub AreAskable : (Task → Option TestCase) → List Judging → Type 0
AreAskable case_at judgings = (j : ℕ) (judging : Judging) → item_of judgings j ≡ Some judging → IsAskable case_at j judging

-- what an `ask` of the judging n makes of the judging m
record IsAskedOf (n m : ℕ) (old new : Judging) : Type 0 where
  row : new.row ≡ old.row
  handed : new.handed ≡ old.handed
  dropped : new.dropped ≡ old.dropped
  stays : old.asked ≡ true → new.asked ≡ true
  asks : n ≡ m → old.dropped ≡ false → new.asked ≡ true

record AreAskedOf (n : ℕ) (old new : List Judging) : Type 0 where
  each : (m : ℕ) (g : Judging) → item_of new m ≡ Some g → (was : Judging) × (item_of old m ≡ Some was) × IsAskedOf n m was g
  lengths : lengths_of new ≡ lengths_of old

-- what it makes of the farm
record IsAskedFarm (n : ℕ) (old new : State) : Type 0 where
  hosts : new.hosts ≡ old.hosts
  leases : new.judge.leases ≡ old.judge.leases
  judgings : AreAskedOf n old.judge.judgings new.judge.judgings

marked : (js : List Judging) (n : ℕ) → AreAskedOf n js (with_asked js n)
marked js n = record {
  each = λ m g there. elim (cases_eq n m) [
    | inl same ↦
        let here : item_of (with_asked js n) n ≡ Some g = ap (item_of (with_asked js n)) same ∙ there in
        let was = changed_was js n mark_asked g (item_of js n) refl here in (
          was.0,
          ap (item_of js) (sym same) ∙ was.1,
          record {
            row = ap (λ (x : Judging). x.row) (sym was.2);
            handed = ap (λ (x : Judging). x.handed) (sym was.2);
            dropped = ap (λ (x : Judging). x.dropped) (sym was.2);
            stays = λ h. ap (λ (x : Judging). x.asked) (sym was.2);
            asks = λ e live. ap (λ (x : Judging). x.asked) (sym was.2);
          },
        )
    | inr other ↦ (
      g,
      sym (change_other js n m mark_asked other) ∙ there,
      record { row = refl; handed = refl; dropped = refl; stays = λ h. h; asks = λ e live. absurd (other e) },
    )
  ];
  lengths = changed_same (λ (judging : Judging). length judging.row) mark_asked (λ judging. refl) js n (item_of js n) refl;
}

-- where it is refused nothing changes: it was asked for already, was dropped, or is not there
unmarked : (js : List Judging) (n : ℕ) → ((g : Judging) → item_of js n ≡ Some g → g.dropped ≡ false → g.asked ≡ true) → AreAskedOf n js js
unmarked js n h = record {
  each = λ m g there. (
    g,
    there,
    record {
      row = refl;
      handed = refl;
      dropped = refl;
      stays = λ a. a;
      asks = λ e live. h g (ap (item_of js) e ∙ there) live;
    },
  );
  lengths = refl;
}

-- the step of an `ask`, by whether the judging is there, was dropped, and was asked for
abbrev refusal_by : State → ℕ → Bool → Bool → Bool → Option Reply
refusal_by s n a b c = option_map (ask_reply s n) (first_of (unless a ask.NoJudging ∷ when b ask.Dropped ∷ when c ask.Already ∷ []))

abbrev asked_by : State → ℕ → Bool → Bool → Bool → State
asked_by s n a b c = record s {
  judge = (refused_or s.judge (first_of (unless a ask.NoJudging ∷ when b ask.Dropped ∷ when c ask.Already ∷ []))
      (record s.judge { judgings = with_asked s.judge.judgings n }, ask.Done)).0;
}

abbrev step_by : State → ℕ → Bool → Bool → Bool → State
step_by s n a b c = (refused_or s (refusal_by s n a b c) (logged (asked_by s n a b c) (event.Ask jury n), ask_reply s n ask.Done)).0

by_flags : (s : State) (n : ℕ) (a b c : Bool) → is_some (item_of s.judge.judgings n) ≡ a → is_dropped s.judge.judgings n ≡ b → is_asked s.judge.judgings n ≡ c
    → IsAskedFarm n s (step_by s n a b c)
by_flags s n true false false i d k = record { hosts = refl; leases = refl; judgings = marked s.judge.judgings n }
by_flags s n false b c i d k = record {
  hosts = refl;
  leases = refl;
  judgings = unmarked s.judge.judgings n (λ g there live. let no : true ≡ false = sym (ap is_some there) ∙ i in cc);
}
by_flags s n true true c i d k = record {
  hosts = refl;
  leases = refl;
  judgings = unmarked s.judge.judgings n (λ g there live.
      let gone : g.dropped ≡ true = sym (ap (λ (o : Option Judging). unwrap_or (option_map (λ judging. judging.dropped) o) false) there) ∙ d in
      let no : false ≡ true = sym live ∙ gone in cc);
}
by_flags s n true false true i d k = record {
  hosts = refl;
  leases = refl;
  judgings = unmarked s.judge.judgings n (λ g there live. sym (ap (λ (o : Option Judging). unwrap_or (option_map (λ judging. judging.asked) o) false) there) ∙ k);
}

one_asked : (s : State) (n : ℕ) → IsAskedFarm n s (farm_step s (ask_event n)).0
one_asked s n =
    by_flags s n (is_some (item_of s.judge.judgings n)) (is_dropped s.judge.judgings n) (is_asked s.judge.judgings n) refl refl refl

-- ---- all that wait

abbrev pub IsAmong : ℕ → List ℕ → Type 0
IsAmong m [] = ⊥
IsAmong m (n ∷ ns) = (n ≡ m) ⊎ IsAmong m ns

-- each judging was asked for, or is one of these numbers
abbrev pub WaitOnly : List Judging → List ℕ → Type 0
WaitOnly judgings ns = (m : ℕ) (g : Judging) → item_of judgings m ≡ Some g → (g.asked ≡ true) ⊎ IsAmong m ns

-- every judging can be run now
pub record IsAsked (case_at : Task → Option TestCase) (old new : State) : Type 0 where
  pub hosts : new.hosts ≡ old.hosts
  pub leases : new.judge.leases ≡ old.judge.leases
  pub runnable : AreRunnable case_at new.judge.judgings
  pub lengths : row_lengths new ≡ row_lengths old

still_askable : (case_at : Task → Option TestCase) (n : ℕ) (old new : List Judging) → AreAskedOf n old new → AreAskable case_at old → AreAskable case_at new
still_askable case_at n old new a all m g there =
    let was = a.each m g there in
    let h = all m was.0 was.1 in
    let row = ap (λ row. length row) was.2.row in
    record {
      undropped = was.2.dropped ∙ h.undropped;
      handed = ap (λ handed. length handed) was.2.handed ∙ h.handed ∙ sym row;
      cases = λ test low high. h.cases test low (omega (arith, high, row));
    }

fewer_wait : (case_at : Task → Option TestCase) (n : ℕ) (ns : List ℕ) (old new : List Judging) → AreAskedOf n old new → AreAskable case_at old → WaitOnly old (n ∷ ns) → WaitOnly new ns
fewer_wait case_at n ns old new a all wait m g there =
    let was = a.each m g there in
    elim (wait m was.0 was.1) [
      | inl asked ↦ inl (was.2.stays asked)
      | inr (inl same) ↦ inl (was.2.asks same (all m was.0 was.1).undropped)
      | inr (inr later) ↦ inr later
    ]

none_wait : (case_at : Task → Option TestCase) (judgings : List Judging) → AreAskable case_at judgings → WaitOnly judgings [] → AreRunnable case_at judgings
none_wait case_at judgings all wait m g there =
    let h = all m g there in
    record {
      undropped = h.undropped;
      asked = elim (wait m g there) [ inl asked ↦ asked | inr none ↦ absurd none ];
      handed = h.handed;
      cases = h.cases;
    }

pub all_asked : (case_at : Task → Option TestCase) (s : State) (ns : List ℕ) → AreAskable case_at s.judge.judgings → WaitOnly s.judge.judgings ns
    → IsAsked case_at s (state_after s (map ask_event ns))
all_asked case_at s [] all wait = record { hosts = refl; leases = refl; runnable = none_wait case_at s.judge.judgings all wait; lengths = refl }
all_asked case_at s (n ∷ ns) all wait =
    let t : State = (farm_step s (ask_event n)).0 in
    let one : IsAskedFarm n s t = one_asked s n in
    let rest = all_asked case_at t ns (still_askable case_at n s.judge.judgings t.judge.judgings one.judgings all)
    (fewer_wait case_at n ns s.judge.judgings t.judge.judgings one.judgings all wait) in
    record {
      hosts = rest.hosts ∙ one.hosts;
      leases = rest.leases ∙ one.leases;
      runnable = rest.runnable;
      lengths = rest.lengths ∙ one.judgings.lengths;
    }

-- ---- the submissions that wait

-- each submission from n on was asked for, or waits
pub waits : (modes : List NamedMode) (n : ℕ) (xs : List NamedSubmission) (i : ℕ) (x : NamedSubmission) → slice_get xs i ≡ Some x
    → (asked_named modes x.problem ≡ true) ⊎ IsAmong (n + i) (waiting modes n xs)
waits modes n [] i x h = cc
waits modes n (y ∷ xs) zero x h =
    let same : y ≡ x = cc in
    let here : n ≡ n + 0 = omega arith in
    elim (asked_named modes y.problem) as (λ b. asked_named modes y.problem ≡ b → (asked_named modes x.problem ≡ true) ⊎ IsAmong (n + 0) (cond b (waiting modes (n + 1) xs) (n ∷ waiting modes (n + 1) xs))) [
      | true ↦ λ e. inl (ap (λ (z : NamedSubmission). asked_named modes z.problem) (sym same) ∙ e)
      | false ↦ λ e. inr (inl here)
    ] refl
waits modes n (y ∷ xs) (suc i) x h =
    let place : n + 1 + i ≡ n + suc i = omega arith in
    let rest : (asked_named modes x.problem ≡ true) ⊎ IsAmong (n + suc i) (waiting modes (n + 1) xs) =
    subst (λ m. (asked_named modes x.problem ≡ true) ⊎ IsAmong m (waiting modes (n + 1) xs)) place (waits modes (n + 1) xs i x h) in
    elim (asked_named modes y.problem) as (λ b. (asked_named modes x.problem ≡ true) ⊎ IsAmong (n + suc i) (cond b (waiting modes (n + 1) xs) (n ∷ waiting modes (n + 1) xs))) [
      | true ↦ rest
      | false ↦ elim rest [ inl asked ↦ inl asked | inr later ↦ inr (inr later) ]
    ]
