-- Once all passes of hosts are taken in, it is known what every entry is: so the contest is under way, and the journal
-- is that of a judging.
use Rattle.std.proofs.Common.{◌≡◌, ◌≢◌, ℕ, suc, ◌⊎◌, Bool, true, false, List, [], ◌∷◌, ◌++◌, Option, length, eqb, refl, sym, ap, ◌∙◌, subst, inl, inr, ⊎_elim, arith, eq-eqb, eqb-true}
use Rattle.std.specs.Prelude.{if◌then◌else◌}
use Rattle.farm_kinds.specs.declared.outcomes.Task.{Task}
use Rattle.farm_kinds.specs.declared.events.Event.{Event}
use Rattle.farm_kinds.specs.declared.events.Event.TheVariants as event
use Rattle.farm_model.specs.State.{SettingsValue, start}
use Rattle.case_run.specs.Cases.{TestCase}
use Rattle.farm_board.specs.BoardState.{BoardState}
use Rattle.farm_board.specs.Histories.{is_no_memory, is_in, IsOut, pass_number, board_after_call, next_board, board_after, IsLegal, entries_by, call_unless, effective_calls}
use Rattle.farm_board.specs.Passes.{PassValue}
use Rattle.farm_board.specs.declared.entries.Call.{Call}
use Rattle.farm_board.specs.declared.entries.HistoryEntry.{HistoryEntry}
use Rattle.farm_board.specs.declared.entries.HistoryEntry.TheVariants as entry
use Rattle.farm_board.proofs.Numbers.{in_either, in_from, in_single, in_here}
use Rattle.farm_board.proofs.Histories.{after_call_out, next_out, entries_append, legal_rest}
use Rattle.parallel_judge.specs.Journal.{AreJudging, AreNamed, IsJudgingEvent}
use Rattle.std.specs.Prelude.{slice_index_or, ◌<◌}
use Rattle.parallel_judge.specs.Hosts.{pass_numbers, as_entries, EachEntry, IsHostEntry, IsSeatEntry, IsBeside}
use Rattle.parallel_judge.specs.UnderWay.{IsHostEvent, IsOfHost, IsUnderWay}
use Rattle.parallel_judge.proofs.HostEvents.{host_event}
use Rattle.parallel_judge.proofs.Opening.{calls_out}
use Rattle.parallel_judge.proofs.Beside.{each_second}

-- ---- from the entries of each number to all entries

-- the numbers that the entry gives are among these
abbrev GivesIn : (ℕ → Type 0) → HistoryEntry → Type 0
GivesIn Q (entry.Call call) = Unit {0}
GivesIn Q (entry.Split number new) = Q new
GivesIn Q (entry.Join number old) = Unit {0}

out_in : (Q : ℕ → Type 0) (s : BoardState) (e : HistoryEntry) → ((n : ℕ) → IsOut n s → Q n) → GivesIn Q e → (n : ℕ) → IsOut n (next_board s e) → Q n
out_in Q s (entry.Call call) h g n out = h n (ap (λ (xs : List ℕ). is_in n xs) (sym (after_call_out (is_no_memory call.reply) s call)) ∙ out)
out_in Q s (entry.Split number new) h g n out = ⊎_elim (λ t. h n t) (λ (t : n ≡ new). subst Q (sym t) g) (in_either n new s.out out)
out_in Q s (entry.Join number old) h g n out = h n (in_from n old s.out out)

each_later : (P : HistoryEntry → Type 0) (b : Bool) (e : HistoryEntry) (es : List HistoryEntry) → EachEntry P (if b then e ∷ es else es) → EachEntry P es
each_later P true e es h = h.1
each_later P false e es h = h

each_here : (P : HistoryEntry → Type 0) (b : Bool) (e : HistoryEntry) (es : List HistoryEntry) → b ≡ true → EachEntry P (if b then e ∷ es else es) → P e
each_here P true e es is h = h.0
each_here P false e es is h = absurd (cc is)

-- Where the entries of each of some numbers meet P and give such numbers alone, and such numbers alone are out at first,
-- all entries meet P: whoever makes an entry is out
each_entry : (P : HistoryEntry → Type 0) (Q : ℕ → Type 0) (s : BoardState) (es : List HistoryEntry) → IsLegal s es → ((n : ℕ) → IsOut n s → Q n)
    → ((n : ℕ) → Q n → EachEntry (λ e. P e × GivesIn Q e) (entries_by n es)) → EachEntry P es
each_entry P Q s [] legal within known = tt
each_entry P Q s (e ∷ es) legal within known =
    let R : HistoryEntry → Type 0 = λ x. P x × GivesIn Q x in
    let n = pass_number e in
    let here : R e = each_here R (eqb n n) e (entries_by n es) (eq-eqb n n refl) (known n (within n (next_out s e legal.0))) in
    (here.0, each_entry P Q (next_board s e) es legal.1 (out_in Q s e within here.1) (λ m is. each_later R (eqb n m) e (entries_by m es) (known m is)))

-- ---- what hosts and the opening pass enter

-- the host of the pass's number enters something, or a pass comes or goes
abbrev IsBoardEntry : (Task → Option TestCase) → HistoryEntry → Type 0
IsBoardEntry case_at (entry.Call call) = IsHostEvent case_at call.event × IsOfHost call.number call.event
IsBoardEntry case_at (entry.Split number new) = Unit {0}
IsBoardEntry case_at (entry.Join number old) = Unit {0}

-- the opening pass's number, or that of a pass that was split off
abbrev IsSeated : List ℕ → ℕ → Type 0
IsSeated split n = (n ≡ 0) ⊎ (is_in n split ≡ true)

host_makes : (case_at : Task → Option TestCase) (split : List ℕ) (n : ℕ) (e : HistoryEntry) → pass_number e ≡ n → IsHostEntry case_at n e → IsBoardEntry case_at e × GivesIn (IsSeated split) e
host_makes case_at split n (entry.Call call) same h = ((h.0, subst (λ (m : ℕ). IsOfHost m call.event) (sym same) h.1), tt)
host_makes case_at split n (entry.Split number new) same h = absurd h
host_makes case_at split n (entry.Join number old) same h = absurd h

-- the entries of one number, where one more may be of it
abbrev each_own : (HistoryEntry → Type 0) → Bool → HistoryEntry → List HistoryEntry → Type 0
each_own P b e es = EachEntry P (if b then e ∷ es else es)

own_too : (P Q : HistoryEntry → Type 0) (b : Bool) (e : HistoryEntry) (es : List HistoryEntry) → (b ≡ true → P e → Q e) → each_own P b e es → (EachEntry P es → EachEntry Q es) → each_own Q b e es
own_too P Q true e es here h rest = (here refl h.0, rest h.1)
own_too P Q false e es here h rest = rest h

by_host : (case_at : Task → Option TestCase) (split : List ℕ) (n : ℕ) (es : List HistoryEntry) → EachEntry (IsHostEntry case_at n) (entries_by n es)
    → EachEntry (λ e. IsBoardEntry case_at e × GivesIn (IsSeated split) e) (entries_by n es)
by_host case_at split n [] h = tt
by_host case_at split n (e ∷ es) h =
    own_too (IsHostEntry case_at n) (λ e. IsBoardEntry case_at e × GivesIn (IsSeated split) e) (eqb (pass_number e) n) e (entries_by n es)
    (λ same. host_makes case_at split n e (eqb-true (pass_number e) n same)) h (by_host case_at split n es)

by_opening : (case_at : Task → Option TestCase) (split : List ℕ) (es : List HistoryEntry) → EachEntry (IsSeatEntry split) es
    → EachEntry (λ e. IsBoardEntry case_at e × GivesIn (IsSeated split) e) es
by_opening case_at split [] h = tt
by_opening case_at split (entry.Call call ∷ es) h = absurd h.0
by_opening case_at split (entry.Split number new ∷ es) h = ((tt, inr h.0), by_opening case_at split es h.1)
by_opening case_at split (entry.Join number old ∷ es) h = ((tt, tt), by_opening case_at split es h.1)

-- every entry after the contest's is a host's, or one by which a pass comes or goes
pub all_known : (case_at : Task → Option TestCase) (start : BoardState) (calls : List Call) (split : List ℕ) (pass : PassValue) → start.out ≡ 0 ∷ []
    → (b : IsBeside case_at start calls split split pass) → EachEntry (IsBoardEntry case_at) b.rest
all_known case_at start calls split pass out b =
    let s = board_after start (as_entries calls) in
    let legal : IsLegal s b.rest = legal_rest start (as_entries calls) b.rest (subst (λ (es : List HistoryEntry). IsLegal start es) b.seen b.legal) in
    let first : (n : ℕ) → IsOut n s → IsSeated split n = λ n is. inl (in_single 0 n (0 ∷ []) (omega arith) (in_here 0 []) (ap (λ (xs : List ℕ). is_in n xs) (sym (calls_out start calls ∙ out)) ∙ is)) in
    each_entry (IsBoardEntry case_at) (IsSeated split) s b.rest legal first (λ n is. ⊎_elim
    (λ (same : n ≡ 0). by_opening case_at split (entries_by n b.rest) (subst (λ (m : ℕ). EachEntry (IsSeatEntry split) (entries_by m b.rest)) (sym same) b.seats))
    (λ there. let known = b.hosts n there in
    let parts : known.0 ≡ entries_by n (as_entries calls) ++ entries_by n b.rest =
    sym known.1.entries ∙ ap (λ (es : List HistoryEntry). entries_by n es) b.seen ∙ entries_append n (as_entries calls) b.rest in
    by_host case_at split n b.rest
    (each_second (IsHostEntry case_at n) (entries_by n (as_entries calls)) (entries_by n b.rest) (subst (EachEntry (IsHostEntry case_at n)) parts known.2)))
    is)

-- ---- the contest

call_under_way : (settings : SettingsValue) (case_at : Task → Option TestCase) (cells : List ℕ) (down up : List (List ℕ)) (s : BoardState) (call : Call) (b : Bool)
    → IsHostEvent case_at call.event → IsUnderWay settings case_at cells down up s.state → IsUnderWay settings case_at cells down up (board_after_call b s call).state
call_under_way settings case_at cells down up s call true is w = w
call_under_way settings case_at cells down up s call false is w = host_event settings case_at cells down up s.state call.event is w

-- the entries leave the contest under way
pub entries_under_way : (settings : SettingsValue) (case_at : Task → Option TestCase) (cells : List ℕ) (down up : List (List ℕ)) (s : BoardState) (es : List HistoryEntry)
    → EachEntry (IsBoardEntry case_at) es → IsUnderWay settings case_at cells down up s.state → IsUnderWay settings case_at cells down up (board_after s es).state
entries_under_way settings case_at cells down up s [] h w = w
entries_under_way settings case_at cells down up s (entry.Call call ∷ es) h w =
    entries_under_way settings case_at cells down up (next_board s (entry.Call call)) es h.1
    (call_under_way settings case_at cells down up s call (is_no_memory call.reply) h.0.0 w)
entries_under_way settings case_at cells down up s (entry.Split number new ∷ es) h w = entries_under_way settings case_at cells down up (next_board s (entry.Split number new)) es h.1 w
entries_under_way settings case_at cells down up s (entry.Join number old ∷ es) h w = entries_under_way settings case_at cells down up (next_board s (entry.Join number old)) es h.1 w

-- ---- the journal

host_judges : (case_at : Task → Option TestCase) (e : Event) → IsHostEvent case_at e → IsJudgingEvent case_at e
host_judges case_at (event.Claim host) h = tt
host_judges case_at (event.Result host j test kind) h = h
host_judges case_at e h = absurd h

call_judging : (case_at : Task → Option TestCase) (call : Call) (b : Bool) (more : List Call) → IsJudgingEvent case_at call.event → AreJudging case_at more → AreJudging case_at (call_unless b call more)
call_judging case_at call true more is h = h
call_judging case_at call false more is h = (is, h)

-- their calls are those of a judging
pub entries_judging : (case_at : Task → Option TestCase) (es : List HistoryEntry) → EachEntry (IsBoardEntry case_at) es → AreJudging case_at (effective_calls es)
entries_judging case_at [] h = tt
entries_judging case_at (entry.Call call ∷ es) h = call_judging case_at call (is_no_memory call.reply) (effective_calls es) (host_judges case_at call.event h.0.0) (entries_judging case_at es h.1)
entries_judging case_at (entry.Split number new ∷ es) h = entries_judging case_at es h.1
entries_judging case_at (entry.Join number old ∷ es) h = entries_judging case_at es h.1

pub call_named : (call : Call) (b : Bool) (more : List Call) → ((call.number ≢ 0) → IsOfHost call.number call.event) → AreNamed more → AreNamed (call_unless b call more)
call_named call true more is h = h
call_named call false more is h = (is, h)

-- their calls are those of the hosts that have the passes' numbers
pub entries_named : (case_at : Task → Option TestCase) (es : List HistoryEntry) → EachEntry (IsBoardEntry case_at) es → AreNamed (effective_calls es)
entries_named case_at [] h = tt
entries_named case_at (entry.Call call ∷ es) h = call_named call (is_no_memory call.reply) (effective_calls es) (λ other. h.0.1) (entries_named case_at es h.1)
entries_named case_at (entry.Split number new ∷ es) h = entries_named case_at es h.1
entries_named case_at (entry.Join number old ∷ es) h = entries_named case_at es h.1

-- ---- numbers

-- each pass has kept its number
pub same_numbers : (ended begun : List PassValue) → length ended ≡ length begun
    → ((k : ℕ) (from to : PassValue) → k < length begun → (slice_index_or ended k to).number ≡ (slice_index_or begun k from).number)
    → pass_numbers ended ≡ pass_numbers begun
same_numbers [] [] len each = refl
same_numbers [] (from ∷ begun) len each = absurd (omega (arith, len))
same_numbers (to ∷ ended) [] len each = absurd (omega (arith, len))
same_numbers (to ∷ ended) (from ∷ begun) len each =
    let here : to.number ≡ from.number = each 0 from to (omega arith) in
    let rest = same_numbers ended begun (omega (arith, len)) (λ k f t less. each (suc k) f t (omega (arith, less))) in
    ap (λ (n : ℕ). n ∷ pass_numbers ended) here ∙ ap (λ (ns : List ℕ). from.number ∷ ns) rest
