-- What the bench of a host has entered is what a host enters.
use Rattle.std.proofs.Common.{◌≡◌, true, List, [], ◌∷◌, ℕ, Option, Some, None, sym, ap, subst}
use Rattle.std.specs.Option.{option_map}
use Rattle.std.specs.List.{list_all}
use Rattle.std.specs.Str.{bytes_eq}
use Rattle.std.proofs.lemmas.Bool.{and_parts}
use Rattle.std.proofs.lemmas.Slice.Eq.{bytes_eq-Decides}
use Rattle.farm_kinds.specs.declared.kinds.Kind.{Kind}
use Rattle.farm_kinds.specs.declared.outcomes.Task.{Task}
use Rattle.farm_kinds.specs.declared.events.Event.{Event}
use Rattle.farm_kinds.specs.declared.events.Event.TheVariants as event
use Rattle.farm_model.specs.Judgings.{task_of}
use Rattle.case_run.specs.Cases.{TestCase}
use Rattle.case_run.specs.Values.{case_value}
use Rattle.farm_board.specs.Benches.{is_host_event, is_host_entry}
use Rattle.farm_board.specs.Trusts.{is_value_of}
use Rattle.farm_board.proofs.Agreeing.{equal_kinds}
use Rattle.farm_board.specs.declared.entries.HistoryEntry.{HistoryEntry}
use Rattle.farm_board.specs.declared.entries.HistoryEntry.TheVariants as entry
use Rattle.parallel_judge.specs.Hosts.{admits_of, EachEntry, IsHostEntry}
use Rattle.parallel_judge.specs.UnderWay.{IsHostEvent, IsNamed, IsOfHost}

true_value : (o : Option TestCase) (kind : Kind) → is_value_of o kind ≡ true → option_map case_value o ≡ Some kind
true_value None kind e = absurd (cc e)
true_value (Some c) kind e = ap (λ (k : Kind). Some k) (equal_kinds (case_value c) kind e)

host_event : (case_at : Task → Option TestCase) (host : List ℕ) (e : Event) → is_host_event (admits_of case_at) host e ≡ true → IsHostEvent case_at e
host_event case_at host (event.Claim name) is = tt
host_event case_at host (event.Result name j test kind) is =
    let parts : (bytes_eq name host ≡ true) × (is_value_of (case_at (task_of j test)) kind ≡ true) = and_parts (bytes_eq name host) (is_value_of (case_at (task_of j test)) kind) is in
    true_value (case_at (task_of j test)) kind parts.1
host_event case_at host e is = absurd (cc is)

-- a host that is named after its number
same_name : (number : ℕ) (host name : List ℕ) → IsNamed number host → bytes_eq name host ≡ true → IsNamed number name
same_name number host name named same = subst (IsNamed number) (sym ((bytes_eq-Decides name host).0 same)) named

named_event : (case_at : Task → Option TestCase) (number : ℕ) (host : List ℕ) (e : Event) → IsNamed number host → is_host_event (admits_of case_at) host e ≡ true → IsOfHost number e
named_event case_at number host (event.Claim name) named is = same_name number host name named is
named_event case_at number host (event.Result name j test kind) named is =
    let parts : (bytes_eq name host ≡ true) × (is_value_of (case_at (task_of j test)) kind ≡ true) = and_parts (bytes_eq name host) (is_value_of (case_at (task_of j test)) kind) is in
    same_name number host name named parts.0
named_event case_at number host e named is = absurd (cc is)

host_entry : (case_at : Task → Option TestCase) (number : ℕ) (host : List ℕ) (e : HistoryEntry) → IsNamed number host → is_host_entry (admits_of case_at) host e ≡ true → IsHostEntry case_at number e
host_entry case_at number host (entry.Call call) named is = (host_event case_at host call.event is, named_event case_at number host call.event named is)
host_entry case_at number host (entry.Split from new) named is = absurd (cc is)
host_entry case_at number host (entry.Join from old) named is = absurd (cc is)

pub host_entries : (case_at : Task → Option TestCase) (number : ℕ) (host : List ℕ) (es : List HistoryEntry) → IsNamed number host → list_all (is_host_entry (admits_of case_at) host) es ≡ true
    → EachEntry (IsHostEntry case_at number) es
host_entries case_at number host [] named h = tt
host_entries case_at number host (e ∷ es) named h =
    let parts : (is_host_entry (admits_of case_at) host e ≡ true) × (list_all (is_host_entry (admits_of case_at) host) es ≡ true) =
    and_parts (is_host_entry (admits_of case_at) host e) (list_all (is_host_entry (admits_of case_at) host) es) h in
    (host_entry case_at number host e named parts.0, host_entries case_at number host es named parts.1)
