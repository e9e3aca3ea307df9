-- What the pass of a host enters.
use Rattle.std.proofs.Common.{◌≡◌, Bool, true, List, [], ◌∷◌, ◌++◌, Option, Some, None, refl, sym, ap, ◌∙◌, subst, eq-eqb, ℕ}
use Rattle.std.proofs.lemmas.Slice.Eq.{bytes_eq-Decides}
use Rattle.std.specs.Prelude.{Ok}
use Rattle.std.specs.List.{list_all}
use Rattle.std.specs.Str.{bytes_eq}
use Rattle.std.specs.Option.{option_map}
use Rattle.std.proofs.lemmas.Bool.{and_parts, and_from}
use Rattle.farm_kinds.specs.Rules.{place_of}
use Rattle.farm_kinds.specs.declared.kinds.Kind.{Kind}
use Rattle.farm_kinds.specs.declared.outcomes.Task.{Task}
use Rattle.farm_kinds.specs.declared.events.Event.TheVariants as event
use Rattle.farm_kinds.specs.declared.events.Reply.{Reply}
use Rattle.farm_kinds.specs.declared.events.Reply.TheVariants as replies
use Rattle.farm_model.specs.Rows.{same_kind}
use Rattle.farm_model.specs.Judgings.{task_of}
use Rattle.case_run.specs.Cases.{TestCase}
use Rattle.case_run.specs.Values.{case_value}
use Rattle.farm_board.specs.Benches.{is_host_entry, pending_case, posted_by}
use Rattle.farm_board.specs.Passes.{PassValue, call_of}
use Rattle.farm_board.specs.Trusts.{Admits, is_value_of}
use Rattle.farm_board.specs.declared.entries.HistoryEntry.{HistoryEntry}
use Rattle.farm_board.specs.declared.entries.HistoryEntry.TheVariants as entry

all_and_one : (p : HistoryEntry → Bool) (es : List HistoryEntry) (e : HistoryEntry) → list_all p es ≡ true → p e ≡ true → list_all p (es ++ e ∷ []) ≡ true
all_and_one p [] e h is = and_from (p e) true is refl
all_and_one p (x ∷ es) e h is =
    let parts : (p x ≡ true) × (list_all p es ≡ true) = and_parts (p x) (list_all p es) h in
    and_from (p x) (list_all p (es ++ e ∷ [])) parts.0 (all_and_one p es e parts.1 is)

-- one more entry of the host
pub own_more : (admits : Admits) (host : List ℕ) (old new : PassValue) (e : HistoryEntry) → new.mine ≡ old.mine ++ e ∷ []
    → list_all (is_host_entry admits host) old.mine ≡ true → is_host_entry admits host e ≡ true → list_all (is_host_entry admits host) new.mine ≡ true
own_more admits host old new e mine h is =
    subst (λ (es : List HistoryEntry). list_all (is_host_entry admits host) es ≡ true) (sym mine) (all_and_one (is_host_entry admits host) old.mine e h is)

-- a claim is the host's own
pub claim_is_own : (admits : Admits) (host : List ℕ) (number : ℕ) (r : Reply) → is_host_entry admits host (entry.Call (call_of number (event.Claim host) r)) ≡ true
claim_is_own admits host number r = (bytes_eq-Decides host host).1 refl

-- so is a result that is admitted
pub result_is_own : (admits : Admits) (host : List ℕ) (number j test : ℕ) (kind : Kind) (r : Reply) → admits (task_of j test) kind ≡ true
    → is_host_entry admits host (entry.Call (call_of number (event.Result host j test kind) r)) ≡ true
result_is_own admits host number j test kind r is = and_from (bytes_eq host host) (admits (task_of j test) kind) ((bytes_eq-Decides host host).1 refl) is

-- the value of a case is admitted
pub value_is_admitted : (case_at : Task → Option TestCase) (task : Task) (case : TestCase) (kind : Kind) → case_at task ≡ Some case → kind ≡ case_value case → is_value_of (case_at task) kind ≡ true
value_is_admitted case_at task case kind there value =
    ap (λ (o : Option TestCase). is_value_of o kind) there ∙ ap (λ (k : Kind). same_kind (case_value case) k) value ∙ eq-eqb (place_of (case_value case)) (place_of (case_value case)) refl

-- the pending task is the one that has this case
pub pending_is : (case_at : Task → Option TestCase) (pending : Option Task) (task : Task) (case : TestCase) → pending_case case_at pending ≡ Some (task, case) → case_at task ≡ Some case
pending_is case_at None task case e = absurd (cc e)
pending_is case_at (Some t) task case e = by (case_at t) refl e
  where
    by : (o : Option TestCase) → case_at t ≡ o → option_map {U = Task × TestCase} (λ (c : TestCase). (t, c)) o ≡ Some (task, case) → case_at task ≡ Some case
    by None is e = absurd (cc e)
    by (Some c) is e =
        let pair : ◌≡◌ {A = Task × TestCase} (t, c) (task, case) = cc e in
        ap case_at (sym (ap (λ (p : Task × TestCase). p.0) pair)) ∙ is ∙ ap (λ (p : Task × TestCase). Some p.1) pair

-- what a bench answers to a result is the farm's reply
pub posted_is : (r x : Reply) → posted_by r ≡ Ok x → r ≡ x
posted_is (replies.NoHost name) x e = absurd (cc e)
posted_is replies.NoMemory x e = absurd (cc e)
posted_is r x e = cc e
