-- Where one kind at most is admitted for a task, no result that is admitted is answered that another is kept.
use Rattle.std.proofs.Common.{◌≡◌, ◌≢◌, ℕ, Bool, true, false, List, [], ◌∷◌, refl, ap, sym, ◌∙◌, eqb-true, eq-eqb}
use Rattle.std.specs.Prelude.{Option, Some, None, if◌then◌else◌}
use Rattle.std.specs.Option.{option_map, unwrap_or, is_some}
use Rattle.std.proofs.lemmas.Grind.{not_there}
use Rattle.farm_kinds.specs.Rules.{place_of, remap_of}
use Rattle.farm_kinds.specs.declared.kinds.Kind.{Kind}
use Rattle.farm_kinds.specs.declared.outcomes.Task.{Task}
use Rattle.farm_kinds.specs.declared.outcomes.Count.{Count}
use Rattle.farm_kinds.specs.declared.outcomes.Count.TheVariants as count
use Rattle.farm_kinds.specs.declared.events.Event.{Event}
use Rattle.farm_kinds.specs.declared.events.Event.TheVariants as event
use Rattle.farm_kinds.specs.declared.events.Reply.{Reply}
use Rattle.farm_kinds.specs.declared.events.Reply.TheVariants as reply
use Rattle.lazy_stop.proofs.Answering.{same_place}
use Rattle.farm_model.specs.Refusing.{when, unless, first_of, refused_or}
use Rattle.farm_model.specs.Rows.{same_kind}
use Rattle.farm_model.specs.Judge.{JudgeState}
use Rattle.farm_model.specs.Judgings.{task_of, cell_of, is_judging, is_dropped, was_handed, kept_count, entry_refusal, result_refusal}
use Rattle.farm_model.specs.State.{State, up_number}
use Rattle.farm_model.specs.Refusals.{count_reply}
use Rattle.farm_model.specs.Changes.{by_judge}
use Rattle.farm_model.specs.Farm.{farm_step}
use Rattle.case_run.specs.Cases.{TestCase}
use Rattle.case_run.specs.Values.{case_value}
use Rattle.farm_board.proofs.Trusts.{cell_was}
use Rattle.farm_board.specs.Trusts.{Admits, is_value_of, IsAdmitted, AreBacked, IsTrusted, AdmitsOne, NeverDiffers}
use Rattle.farm_board.specs.BoardState.{BoardState}
use Rattle.farm_board.specs.Histories.{IsReply}

-- Kinds that count as equal are equal

pub equal_kinds : (a b : Kind) → same_kind a b ≡ true → a ≡ b
equal_kinds a b e = same_place a b (eqb-true (place_of a) (place_of b) e)

one_value : (c : Option TestCase) (a b : Kind) → is_value_of c a ≡ true → is_value_of c b ≡ true → a ≡ b
one_value None a b e f = absurd (cc e)
one_value (Some c) a b e f = sym (equal_kinds (case_value c) a e) ∙ equal_kinds (case_value c) b f

-- a case has one value
pub admits_one_value : (case_at : Task → Option TestCase) → AdmitsOne (λ task k. is_value_of (case_at task) k)
admits_one_value case_at task a b e f = one_value (case_at task) a b e f

-- What is kept where a result differs

-- the cell keeps the kind, which is not the one that was given
record Keeps (o : Option Kind) (given kept : Kind) : Type 0 where
  cell : o ≡ Some kept
  other : same_kind kept given ≡ false

differs_kept : (b : Bool) (kept given k g : Kind) → (if b then count.Repeat kept else count.Differs kept given) ≡ count.Differs k g → (b ≡ false) × (kept ≡ k)
differs_kept true kept given k g e = absurd (cc e)
differs_kept false kept given k g e = (refl, cc e)

refusal_keeps : (a b h d : Bool) (o : Option Kind) (given k g : Kind)
    → first_of (unless a count.NoJudging ∷ unless b count.NoTest ∷ unless h count.NotHanded ∷ option_map (kept_count given) o ∷ when d count.Dropped ∷ []) ≡ Some (count.Differs k g) → Keeps o given k
refusal_keeps false b h d o given k g e = absurd (cc e)
refusal_keeps true false h d o given k g e = absurd (cc e)
refusal_keeps true true false d o given k g e = absurd (cc e)
refusal_keeps true true true d (Some kept) given k g e =
    let q = differs_kept (same_kind kept given) kept given k g (cc e) in
    record { cell = ap Some q.1; other = ap (λ (x : Kind). same_kind x given) (sym q.1) ∙ q.0 }
refusal_keeps true true true true None given k g e = absurd (cc e)
refusal_keeps true true true false None given k g e = absurd (cc e)

entry_keeps : (a b d : Bool) (o : Option Kind) (given k g : Kind)
    → first_of (unless a count.NoJudging ∷ unless b count.NoTest ∷ option_map (kept_count given) o ∷ when d count.Dropped ∷ []) ≡ Some (count.Differs k g) → Keeps o given k
entry_keeps false b d o given k g e = absurd (cc e)
entry_keeps true false d o given k g e = absurd (cc e)
entry_keeps true true d (Some kept) given k g e = refusal_keeps true true true d (Some kept) given k g e
entry_keeps true true true None given k g e = absurd (cc e)
entry_keeps true true false None given k g e = absurd (cc e)

differs_count : (j t : ℕ) (c : Count) (k g : Kind) → count_reply j t c ≡ reply.Differs k g → c ≡ count.Differs k g
differs_count j t count.NoJudging k g e = absurd (cc e)
differs_count j t count.NoTest k g e = absurd (cc e)
differs_count j t count.NotHanded k g e = absurd (cc e)
differs_count j t (count.Repeat kept) k g e = absurd (cc e)
differs_count j t (count.Differs kept given) k g e = let a : kept ≡ k = cc e in let b : given ≡ g = cc e in λ i. count.Differs (a i) (b i)
differs_count j t count.Dropped k g e = absurd (cc e)
differs_count j t count.Counted k g e = absurd (cc e)

-- what refuses a result is what its reply says
entry_differs : (s : State) (j t : ℕ) (o : Option Count) (k g : Kind) (counted : JudgeState)
    → (refused_or s (option_map (count_reply j t) o) (by_judge s (count_reply j t) (refused_or s.judge o (counted, count.Counted)))).1 ≡ reply.Differs k g → o ≡ Some (count.Differs k g)
entry_differs s j t None k g counted e = absurd (cc e)
entry_differs s j t (Some c) k g counted e = ap Some (differs_count j t c k g e)

result_differs : (s : State) (up : Bool) (host : List ℕ) (j t : ℕ) (o : Option Count) (k g : Kind) (counted : JudgeState)
    → (refused_or s (first_of (unless up (reply.NoHost host) ∷ option_map (count_reply j t) o ∷ [])) (by_judge s (count_reply j t) (refused_or s.judge o (counted, count.Counted)))).1 ≡ reply.Differs k g
    → o ≡ Some (count.Differs k g)
result_differs s false host j t o k g counted e = absurd (cc e)
result_differs s true host j t None k g counted e = absurd (cc e)
result_differs s true host j t (Some c) k g counted e = ap Some (differs_count j t c k g e)

-- A kept kind agrees

-- what is kept of the task is what the kind that was given counts as
kept_agrees : (admits : Admits) (s : State) (j t : ℕ) (given kept : Kind) → AdmitsOne admits → admits (task_of j t) given ≡ true → AreBacked admits s → cell_of s.judge.judgings j t ≡ Some (Some kept)
    → same_kind kept (remap_of s.judge.rule given) ≡ false → ⊥
kept_agrees admits s j t given kept one a backed cell other =
    not_there (backed j t kept cell)
    (λ (b : (k : Kind) × (admits (task_of j t) k ≡ true) × (kept ≡ remap_of s.judge.rule k)).
    let same : kept ≡ remap_of s.judge.rule given = b.2 ∙ ap (λ (k : Kind). remap_of s.judge.rule k) (one (task_of j t) b.0 given b.1 a) in
    let yes : same_kind kept (remap_of s.judge.rule given) ≡ true = eq-eqb (place_of kept) (place_of (remap_of s.judge.rule given)) (ap (λ (k : Kind). place_of k) same) in
    let both : false ≡ true = sym other ∙ yes in absurd (cc both))

pub never_differs : (admits : Admits) (s : State) (e : Event) → AdmitsOne admits → IsAdmitted admits e → AreBacked admits s → NeverDiffers e (farm_step s e).1
never_differs admits s (event.Result host j t kind) one a backed task k kept given some_is =
    λ is.
    let refused = result_differs s (is_some (up_number s.hosts host)) host j t (result_refusal s.judge.judgings j t (remap_of s.judge.rule kind)) kept given _ is in
    let q = refusal_keeps (is_judging s.judge.judgings j) (is_some (cell_of s.judge.judgings j t)) (was_handed s.judge.judgings j t) (is_dropped s.judge.judgings j) (unwrap_or (cell_of s.judge.judgings j t) None) (remap_of s.judge.rule kind) kept given refused in
    kept_agrees admits s j t kind kept one (a (task_of j t) kind refl) backed (cell_was (cell_of s.judge.judgings j t) kept q.cell) q.other
never_differs admits s (event.Entry j t kind) one a backed task k kept given some_is =
    λ is.
    let refused = entry_differs s j t (entry_refusal s.judge.judgings j t (remap_of s.judge.rule kind)) kept given _ is in
    let q = entry_keeps (is_judging s.judge.judgings j) (is_some (cell_of s.judge.judgings j t)) (is_dropped s.judge.judgings j) (unwrap_or (cell_of s.judge.judgings j t) None) (remap_of s.judge.rule kind) kept given refused in
    kept_agrees admits s j t kind kept one (a (task_of j t) kind refl) backed (cell_was (cell_of s.judge.judgings j t) kept q.cell) q.other
never_differs admits s e one a backed task k kept given some_is = absurd (cc some_is)

pub reply_never_differs : (admits : Admits) (s : BoardState) (e : Event) (r : Reply) → AdmitsOne admits → IsAdmitted admits e → IsTrusted admits s → IsReply s e r → NeverDiffers e r
reply_never_differs admits s e r one a trusted is task k kept given some_is differs =
    let had : r ≢ reply.NoMemory = λ no. let both : reply.Differs kept given ≡ reply.NoMemory = sym differs ∙ no in absurd (cc both) in
    never_differs admits s.state e one a trusted.cells task k kept given some_is (sym (is.answer had) ∙ differs)
