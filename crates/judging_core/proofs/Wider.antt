-- Room on the list: for the tests of judgings that are there, and of those to come.
use Rattle.std.proofs.Common.{ℕ, suc, ◌≡◌, ◌+◌, ◌≤◌, List, [], ◌∷◌, ◌++◌, refl, sym, subst, ◌∙◌, arith, inl, inr, length, get_or}
use Rattle.std.specs.Prelude.{Result, Ok, Err, OnOk, OnErr}
use Rattle.std.proofs.lemmas.Bool.{cases_eq}
use Rattle.std.proofs.lemmas.List.{map_push, length_push, get_or_past}
use Rattle.farm_kinds.specs.declared.outcomes.Class.{Class}
use Rattle.farm_kinds.specs.RuleValue.{RuleValue}
use Rattle.farm_model.specs.declared.records.Lease.{Lease}
use Rattle.farm_model.specs.Judgings.{Judging}
use Rattle.task_tree.specs.Shown.{JudgingTasks, hidden, tests_listed, with_room}
use Rattle.judging_core.specs.Listed.{judging_classes, listed_classes, widths, Begins, IsListed, HasRoom, IsWider}
use Rattle.judging_core.proofs.Shown.{same_size, listed_same, shown_pushed, listed_pushed, listed_past, shown_widened, classes_widened, size_widened, listed_widened}

-- ---- a list with more room

begins_more : (xs ys : List Class) (c : Class) → Begins xs ys → Begins xs (ys ++ c ∷ [])
begins_more [] ys c h = tt
begins_more (x ∷ xs) [] c h = absurd h
begins_more (x ∷ xs) (y ∷ ys) c h = (h.0, begins_more xs ys c h.1)

same_wider : (ts : List JudgingTasks) → IsWider ts ts
same_wider ts = record {
  count = omega arith;
  wide = λ n. omega arith;
  shown = λ task. refl;
  classes = λ cs h. h;
}

pub pushed_wider : (ts : List JudgingTasks) (class : Class) (tests : ℕ) → IsWider ts (ts ++ hidden class tests ∷ [])
pushed_wider ts class tests = record {
  count = omega (arith, length_push ts (hidden class tests));
  wide = λ n. elim (cases_eq n (length ts + 1)) [
    | inl same ↦ let none = listed_past ts n (omega (arith, same)) in omega (arith, none)
    | inr other ↦ let kept = listed_pushed ts class tests n other in omega (arith, kept)
  ];
  shown = λ task. shown_pushed ts class tests task;
  classes = λ cs h. subst (λ (ds : List Class). Begins cs ds) (sym (map_push (λ j. j.class) ts (hidden class tests))) (begins_more cs (listed_classes ts) class h);
}

widened_wider : (ts : List JudgingTasks) (n tests : ℕ) → IsWider ts (with_room ts n tests)
widened_wider ts n tests = record {
  count = omega (arith, size_widened ts n tests);
  wide = λ m. listed_widened ts n tests m;
  shown = λ task. shown_widened ts n tests task;
  classes = λ cs h. subst (λ (ds : List Class). Begins cs ds) (sym (classes_widened ts n tests)) h;
}

-- whether or not there was memory for it
pub either_wider : {T E : Type 0} (result : Result T E) (ts us : List JudgingTasks) (n tests : ℕ) → OnOk result (us ≡ with_room ts n tests) → OnErr result (us ≡ ts) → IsWider ts us
either_wider (Ok x) ts us n tests made kept = subst (λ (vs : List JudgingTasks). IsWider ts vs) (sym made) (widened_wider ts n tests)
either_wider (Err e) ts us n tests made kept = subst (λ (vs : List JudgingTasks). IsWider ts vs) (sym kept) (same_wider ts)

pub wider_listed : (rule : RuleValue) (js : List Judging) (ls : List Lease) (ts us : List JudgingTasks) → IsWider ts us → IsListed rule js ls ts → IsListed rule js ls us
wider_listed rule js ls ts us w h = record {
  shown = λ t e. w.shown t ∙ h.shown t e;
  open_ = λ t e. h.open_ t (sym (w.shown t) ∙ e);
  classes = w.classes (judging_classes js) h.classes;
  wide = record { each = λ n. omega (arith, h.wide.each n, w.wide n) };
}

-- ---- room for judgings to come

pub wider_ahead : (n : ℕ) (tests : List ℕ) (ts us : List JudgingTasks) → IsWider ts us → HasRoom n tests ts → HasRoom n tests us
wider_ahead n tests ts us w h = record {
  known = λ k l few. let a = h.known k l few in omega (arith, a, w.count);
  wide = λ i few. let a = h.wide i few in omega (arith, a, w.wide (n + i + 1));
}

-- where there are as many judgings, and as much room for each
pub ahead_kept : (m n : ℕ) (tests : List ℕ) (ts us : List JudgingTasks) → n ≡ m → widths us ≡ widths ts → HasRoom m tests ts → HasRoom n tests us
ahead_kept m n tests ts us e w h = subst (λ (k : ℕ). HasRoom k tests us) (sym e) (record {
  known = λ k l few. let a = h.known k l few in omega (arith, a, same_size ts us w);
  wide = λ i few. let a = h.wide i few in omega (arith, a, listed_same ts us (m + i + 1) w);
})

-- room for the next judging
pub next_room : (n : ℕ) (all left : List ℕ) (tests : ℕ) (ts : List JudgingTasks) → all ≡ tests ∷ left → n + 1 ≤ 400000 → HasRoom n all ts → tests ≤ tests_listed ts (n + 1)
next_room n all left tests ts e few h =
    let room : HasRoom n (tests ∷ left) ts = subst (λ (xs : List ℕ). HasRoom n xs ts) e h in
    subst (λ (k : ℕ). tests ≤ tests_listed ts k) (let place : n + 0 + 1 ≡ n + 1 = omega arith in place) (room.wide 0 (omega (arith, few)))

-- and for those behind it
pub room_left : (n : ℕ) (all left : List ℕ) (tests : ℕ) (ts : List JudgingTasks) → all ≡ tests ∷ left → HasRoom n all ts → HasRoom (n + 1) left ts
room_left n all left tests ts e h =
    let room : HasRoom n (tests ∷ left) ts = subst (λ (xs : List ℕ). HasRoom n xs ts) e h in
    record {
      known = λ k l few. room.known k (omega (arith, l)) few;
      wide = λ i few. subst (λ (k : ℕ). get_or left i 0 ≤ tests_listed ts k) (let place : n + suc i + 1 ≡ n + 1 + i + 1 = omega arith in place) (room.wide (suc i) (omega (arith, few)));
    }

-- no room is needed for none
pub room_none : (n : ℕ) (ts : List JudgingTasks) → n ≤ length ts → HasRoom n [] ts
room_none n ts h = record {
  known = λ k l few. omega (arith, l, h);
  wide = λ i few. let none = get_or_past {X = ℕ} [] i 0 (omega arith) in omega (arith, none);
}
