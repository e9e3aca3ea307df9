-- Events that the judge answers.
use Rattle.std.proofs.Common.{rules, ℕ, ◌≡◌, ◌≢◌, List, [], ◌∷◌, length, take, Option, Some, None, refl, sym, ap, ◌∙◌, subst}
use Rattle.std.specs.Option.{option_map}
use Rattle.farm_kinds.specs.declared.kinds.Kind.{Kind}
use Rattle.farm_kinds.specs.declared.outcomes.Claim.{Claim}
use Rattle.farm_kinds.specs.declared.outcomes.Claim.TheVariants as claim
use Rattle.farm_kinds.specs.declared.outcomes.Fetched.{Fetched}
use Rattle.farm_kinds.specs.declared.outcomes.Fetched.TheVariants as fetch
use Rattle.farm_kinds.specs.declared.outcomes.Count.{Count}
use Rattle.farm_kinds.specs.declared.outcomes.Count.TheVariants as count
use Rattle.farm_kinds.specs.declared.outcomes.Renewed.{Renewed}
use Rattle.farm_kinds.specs.declared.outcomes.Renewed.TheVariants as lease
use Rattle.farm_kinds.specs.declared.outcomes.Task.{Task}
use Rattle.farm_kinds.specs.declared.events.Event.TheVariants as event
use Rattle.farm_kinds.specs.declared.events.Reply.{Reply}
use Rattle.farm_kinds.specs.declared.events.Reply.TheVariants as reply
use Rattle.farm_kinds.specs.Rules.{remap_of}
use Rattle.farm_model.specs.Refusing.{first_of, refused_or}
use Rattle.farm_model.specs.Leases.{held_count}
use Rattle.farm_model.specs.Judgings.{entry_refusal, result_refusal}
use Rattle.farm_model.specs.Judge.{JudgeState, claim_refusal, claimed, first_open, judge_claim, hand_out, hand_out_all, open_of, fetch_refusal, batch_size, batch_from, judge_fetch, counted, judge_enter, judge_result, judge_renew, renew_leases, renew_refusal}
use Rattle.farm_model.specs.State.{State, up_number}
use Rattle.farm_model.specs.Refusals.{claim_reply, fetch_reply, count_reply, renewed_reply}
use Rattle.farm_model.specs.Changes.{by_judge}
use Rattle.farm_model.specs.Farm.{farm_step, Stepped}
use Rattle.farm_core.proofs.Stepping.{stepped_by}

-- what the judge refuses is refused, and changes nothing
judged : {R : Type 0} (s : State) (replied : R → Reply) (r : Option R) (done : JudgeState × R)
    → refused_or s (first_of (option_map replied r ∷ [])) (by_judge s replied (refused_or s.judge r done)) ≡ by_judge s replied (refused_or s.judge r done)
judged s replied None done = refl
judged s replied (Some x) done = refl

judged_alone : {R : Type 0} (s : State) (replied : R → Reply) (r : Option R) (done : JudgeState × R)
    → refused_or s (option_map replied r) (by_judge s replied (refused_or s.judge r done)) ≡ by_judge s replied (refused_or s.judge r done)
judged_alone s replied None done = refl
judged_alone s replied (Some x) done = refl

claim_step : (s : State) (name : List ℕ) (n : ℕ) → up_number s.hosts name ≡ Some n
    → farm_step s (event.Claim name) ≡ by_judge s claim_reply (judge_claim s.judge n)
claim_step s name n found = rw found (judged s claim_reply (claim_refusal s.judge.leases n) (claimed s.judge n (first_open s.judge)))

result_step : (s : State) (name : List ℕ) (n j t : ℕ) (kind : Kind) → up_number s.hosts name ≡ Some n
    → farm_step s (event.Result name j t kind) ≡ by_judge s (count_reply j t) (judge_result s.judge j t kind)
result_step s name n j t kind found =
    let given = remap_of s.judge.rule kind in
    rw found (judged s (count_reply j t) (result_refusal s.judge.judgings j t given) (counted s.judge j t given))

entry_step : (s : State) (j t : ℕ) (kind : Kind) → farm_step s (event.Entry j t kind) ≡ by_judge s (count_reply j t) (judge_enter s.judge j t kind)
entry_step s j t kind =
    let given = remap_of s.judge.rule kind in
    judged_alone s (count_reply j t) (entry_refusal s.judge.judgings j t given) (counted s.judge j t given)

renew_step : (s : State) (name : List ℕ) (n j t : ℕ) → up_number s.hosts name ≡ Some n
    → farm_step s (event.Renew name j t) ≡ by_judge s (renewed_reply j t) (judge_renew s.judge n j t)
renew_step s name n j t found = rw found (judged s (renewed_reply j t) (renew_refusal s.judge n j t) (renew_leases s.judge n j))

fetch_step : (s : State) (name : List ℕ) (n most : ℕ) → up_number s.hosts name ≡ Some n
    → farm_step s (event.Fetch name most) ≡ by_judge s fetch_reply (judge_fetch s.judge n most)
fetch_step s name n most found = rw found (judged s fetch_reply (fetch_refusal s.judge.leases n) (batch_from s.judge n (batch_size most (held_count s.judge.leases n)) (first_open s.judge)))

claim_answers : (x : Claim) → claim_reply x ≢ reply.NoMemory
claim_answers claim.Holding = λ no. cc
claim_answers claim.Nothing = λ no. cc
claim_answers (claim.Handed task until) = λ no. cc

fetch_answers : (x : Fetched) → fetch_reply x ≢ reply.NoMemory
fetch_answers fetch.Holding = λ no. cc
fetch_answers fetch.Nothing = λ no. cc
fetch_answers (fetch.Batch judging tests until) = λ no. cc

count_answers : (j t : ℕ) (x : Count) → count_reply j t x ≢ reply.NoMemory
count_answers j t count.NoJudging = λ no. cc
count_answers j t count.NoTest = λ no. cc
count_answers j t count.NotHanded = λ no. cc
count_answers j t (count.Repeat kept) = λ no. cc
count_answers j t (count.Differs kept given) = λ no. cc
count_answers j t count.Dropped = λ no. cc
count_answers j t count.Counted = λ no. cc

renewed_answers : (j t : ℕ) (x : Renewed) → renewed_reply j t x ≢ reply.NoMemory
renewed_answers j t lease.NoJudging = λ no. cc
renewed_answers j t lease.NoTest = λ no. cc
renewed_answers j t lease.NoLease = λ no. cc
renewed_answers j t (lease.Until until) = λ no. cc

hands_count : (s : JudgeState) (host : ℕ) (tasks : List Task) → length (hand_out_all s host tasks).judgings ≡ length s.judgings
hands_count s host [] = refl
hands_count s host (t ∷ ts) = hands_count (hand_out s host t) host ts ∙ search rules

batch_counts : (s : JudgeState) (host size : ℕ) (first : Option Task) → length (batch_from s host size first).0.judgings ≡ length s.judgings
batch_counts s host size None = refl
batch_counts s host size (Some t) = hands_count s host (take size (open_of s t.judging))

refused_counts : (s : JudgeState) (r : Option Fetched) (done : JudgeState × Fetched) → length done.0.judgings ≡ length s.judgings
    → length (refused_or s r done).0.judgings ≡ length s.judgings
refused_counts s None done e = e
refused_counts s (Some x) done e = refl

-- a fetch leaves as many judgings as there were
pub fetch_counts : (s : JudgeState) (host most : ℕ) → length (judge_fetch s host most).0.judgings ≡ length s.judgings
fetch_counts s host most =
    let size = batch_size most (held_count s.leases host) in
    refused_counts s (fetch_refusal s.leases host) (batch_from s host size (first_open s)) (batch_counts s host size (first_open s))

-- the judge's part is the new one, and the reply is that to its answer
pub claim_stepped : (s : State) (name : List ℕ) (n : ℕ) (new : State) (x : Claim) (r : Reply) → up_number s.hosts name ≡ Some n
    → new ≡ record s { judge = (judge_claim s.judge n).0 } → x ≡ (judge_claim s.judge n).1 → r ≡ claim_reply x → Stepped s (event.Claim name) new r
claim_stepped s name n new x r found state answer replied =
    stepped_by s (event.Claim name) new r (subst (λ (q : Reply). q ≢ reply.NoMemory) (sym replied) (claim_answers x))
    (claim_step s name n found ∙ ap (λ t. (t, claim_reply (judge_claim s.judge n).1)) (sym state) ∙ ap (λ y. (new, claim_reply y)) (sym answer) ∙ ap (λ q. (new, q)) (sym replied))

pub fetch_stepped : (s : State) (name : List ℕ) (n most : ℕ) (new : State) (x : Fetched) (r : Reply) → up_number s.hosts name ≡ Some n
    → new ≡ record s { judge = (judge_fetch s.judge n most).0 } → x ≡ (judge_fetch s.judge n most).1 → r ≡ fetch_reply x → Stepped s (event.Fetch name most) new r
fetch_stepped s name n most new x r found state answer replied =
    stepped_by s (event.Fetch name most) new r (subst (λ (q : Reply). q ≢ reply.NoMemory) (sym replied) (fetch_answers x))
    (fetch_step s name n most found ∙ ap (λ t. (t, fetch_reply (judge_fetch s.judge n most).1)) (sym state) ∙ ap (λ y. (new, fetch_reply y)) (sym answer) ∙ ap (λ q. (new, q)) (sym replied))

pub result_stepped : (s : State) (name : List ℕ) (n j t : ℕ) (kind : Kind) (new : State) (x : Count) (r : Reply) → up_number s.hosts name ≡ Some n
    → new ≡ record s { judge = (judge_result s.judge j t kind).0 } → x ≡ (judge_result s.judge j t kind).1 → r ≡ count_reply j t x → Stepped s (event.Result name j t kind) new r
result_stepped s name n j t kind new x r found state answer replied =
    stepped_by s (event.Result name j t kind) new r (subst (λ (q : Reply). q ≢ reply.NoMemory) (sym replied) (count_answers j t x))
    (result_step s name n j t kind found ∙ ap (λ u. (u, count_reply j t (judge_result s.judge j t kind).1)) (sym state) ∙ ap (λ y. (new, count_reply j t y)) (sym answer) ∙ ap (λ q. (new, q)) (sym replied))

pub entry_stepped : (s : State) (j t : ℕ) (kind : Kind) (new : State) (x : Count) (r : Reply)
    → new ≡ record s { judge = (judge_enter s.judge j t kind).0 } → x ≡ (judge_enter s.judge j t kind).1 → r ≡ count_reply j t x → Stepped s (event.Entry j t kind) new r
entry_stepped s j t kind new x r state answer replied =
    stepped_by s (event.Entry j t kind) new r (subst (λ (q : Reply). q ≢ reply.NoMemory) (sym replied) (count_answers j t x))
    (entry_step s j t kind ∙ ap (λ u. (u, count_reply j t (judge_enter s.judge j t kind).1)) (sym state) ∙ ap (λ y. (new, count_reply j t y)) (sym answer) ∙ ap (λ q. (new, q)) (sym replied))

pub renew_stepped : (s : State) (name : List ℕ) (n j t : ℕ) (new : State) (x : Renewed) (r : Reply) → up_number s.hosts name ≡ Some n
    → new ≡ record s { judge = (judge_renew s.judge n j t).0 } → x ≡ (judge_renew s.judge n j t).1 → r ≡ renewed_reply j t x → Stepped s (event.Renew name j t) new r
renew_stepped s name n j t new x r found state answer replied =
    stepped_by s (event.Renew name j t) new r (subst (λ (q : Reply). q ≢ reply.NoMemory) (sym replied) (renewed_answers j t x))
    (renew_step s name n j t found ∙ ap (λ u. (u, renewed_reply j t (judge_renew s.judge n j t).1)) (sym state) ∙ ap (λ y. (new, renewed_reply j t y)) (sym answer) ∙ ap (λ q. (new, q)) (sym replied))
