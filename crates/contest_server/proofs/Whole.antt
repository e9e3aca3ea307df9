-- The whole history, once all connections were served.
use Rattle.std.proofs.Common.{◌≡◌, ◌≢◌, ℕ, ◌⊎◌, ◌||◌, inl, inr, ⊎_elim, Bool, true, false, List, [], ◌∷◌, ◌++◌, Option, None, Some, map, eqb, refl, sym, ap, ◌∙◌, subst, append_assoc, append-nil, eq-eqb, eqb-true, ne_eqb}
use Rattle.std.specs.Prelude.{All, if◌then◌else◌, ◌&&◌}
use Rattle.std.proofs.lemmas.List.Elements.{All-nil, All-cons, All-head, All-tail, All-append}
use mathlib.Core.List.{IsPrefix}
use Rattle.farm_kinds.specs.declared.events.Event.{Event}
use Rattle.farm_kinds.specs.declared.events.Event.TheVariants as event
use Rattle.farm_kinds.specs.declared.events.Reply.{Reply}
use Rattle.farm_board.specs.BoardState.{BoardState}
use Rattle.farm_board.specs.Histories.{is_in, is_no_memory, pass_number, IsOut, IsOpening, IsLegal, IsNext, next_board, board_after, entries_by}
use Rattle.farm_board.specs.Passes.{PassValue, Calls, IsJoined, call_of}
use Rattle.farm_board.specs.declared.entries.Call.{Call}
use Rattle.farm_board.specs.declared.entries.HistoryEntry.{HistoryEntry}
use Rattle.farm_board.specs.declared.entries.HistoryEntry.TheVariants as entry
use Rattle.farm_board.proofs.Numbers.{in_here, in_later, in_either, in_from}
use Rattle.farm_board.proofs.Prefixes.{prefix_trans}
use Rattle.farm_board.proofs.Histories.{after_call_out, next_out, legal_at}
use Rattle.farm_board.proofs.Callers.{joined_grows}
use Rattle.farm_api.specs.Entering.{Entered, without_looks}
use Rattle.farm_api.specs.Exchanges.{all_entered}
use Rattle.farm_api.specs.PassCalls.{entry_of}
use Rattle.judge_feed.specs.Showing.{is_look, are_looks}
use Rattle.parallel_judge.specs.Hosts.{as_entries, AreEffective}
use Rattle.parallel_judge.specs.Journal.{events_in}
use Rattle.contest_server.specs.Visits.{Watch, Visit, IsVisit}
use Rattle.contest_server.specs.Beside.{AreAbove, IsSeat, visit_numbers, IsTaken, IsBeside}
use Rattle.contest_server.specs.Served.{board_calls, EndsWithBoard, calls_in, HasCalls, IsHistory}
use Rattle.contest_server.proofs.Beside.{all_turned}

-- Numbers

either_of : (a b : Bool) → (a || b) ≡ true → (a ≡ true) ⊎ (b ≡ true)
either_of true b e = inl refl
either_of false b e = inr e

first_or : (n x : ℕ) (xs : List ℕ) → is_in n (x ∷ xs) ≡ true → (n ≡ x) ⊎ (is_in n xs ≡ true)
first_or n x xs e = ⊎_elim (λ (t : eqb n x ≡ true). inl (eqb-true n x t)) (λ (t : is_in n xs ≡ true). inr t) (either_of (eqb n x) (is_in n xs) e)

not_both : {A : Type 0} (b : Bool) → b ≡ true → b ≡ false → A
not_both b on off = let both : true ≡ false = sym on ∙ off in absurd (cc both)

-- Entries by passes of these numbers

-- the entry gives none but these numbers
abbrev GivesAmong : List ℕ → HistoryEntry → Type 0
GivesAmong ns (entry.Call call) = Unit {0}
GivesAmong ns (entry.Split number new) = is_in new ns ≡ true
GivesAmong ns (entry.Join number old) = Unit {0}

abbrev OutAmong : List ℕ → BoardState → Type 0
OutAmong ns s = (n : ℕ) → IsOut n s → is_in n ns ≡ true

among_next : (ns : List ℕ) (s : BoardState) (e : HistoryEntry) → OutAmong ns s → GivesAmong ns e → OutAmong ns (next_board s e)
among_next ns s (entry.Call call) h g n out = h n (ap (λ (xs : List ℕ). is_in n xs) (sym (after_call_out (is_no_memory call.reply) s call)) ∙ out)
among_next ns s (entry.Split number new) h g n out = ⊎_elim (λ (t : is_in n s.out ≡ true). h n t) (λ (t : n ≡ new). subst (λ (z : ℕ). is_in z ns ≡ true) (sym t) g) (in_either n new s.out out)
among_next ns s (entry.Join number old) h g n out = h n (in_from n old s.out out)

each_later : (Q : HistoryEntry → Type 0) (b : Bool) (e : HistoryEntry) (es : List HistoryEntry) → All Q (if b then e ∷ es else es) → All Q es
each_later Q true e es h = All-tail Q e es h
each_later Q false e es h = h

each_here : (Q : HistoryEntry → Type 0) (b : Bool) (e : HistoryEntry) (es : List HistoryEntry) → b ≡ true → All Q (if b then e ∷ es else es) → Q e
each_here Q true e es is h = All-head Q e es h
each_here Q false e es is h = absurd (cc is)

-- where none but these numbers are out at first, and their passes give none but these, all entries are by them
among : (ns : List ℕ) (s : BoardState) (es : List HistoryEntry) → IsLegal s es → OutAmong ns s
    → ((n : ℕ) → is_in n ns ≡ true → All (GivesAmong ns) (entries_by n es)) → All (λ e. is_in (pass_number e) ns ≡ true) es
among ns s [] legal out each = All-nil (λ (e : HistoryEntry). is_in (pass_number e) ns ≡ true)
among ns s (e ∷ es) legal out each =
    let n = pass_number e in
    let is = out n (next_out s e legal.0) in
    let here : GivesAmong ns e = each_here (GivesAmong ns) (eqb n n) e (entries_by n es) (eq-eqb n n refl) (each n is) in
    All-cons (λ (x : HistoryEntry). is_in (pass_number x) ns ≡ true) e es is
    (among ns (next_board s e) es legal.1 (among_next ns s e out here) (λ m m_is. each_later (GivesAmong ns) (eqb n m) e (entries_by m es) (each m m_is)))

none_cond : (b : Bool) (e : HistoryEntry) (xs : List HistoryEntry) → b ≡ false → (if b then e ∷ xs else xs) ≡ xs
none_cond true e xs is = absurd (cc is)
none_cond false e xs is = refl

-- a number that is none of these has no entries
none_by : (ns : List ℕ) (n : ℕ) (es : List HistoryEntry) → is_in n ns ≡ false → All (λ e. is_in (pass_number e) ns ≡ true) es → entries_by n es ≡ []
none_by ns n [] off h = refl
none_by ns n (e ∷ es) off h =
    let P : HistoryEntry → Type 0 = λ x. is_in (pass_number x) ns ≡ true in
    let other : pass_number e ≢ n = λ same. not_both (is_in n ns) (subst (λ (m : ℕ). is_in m ns ≡ true) same (All-head P e es h)) off in
    none_cond (eqb (pass_number e) n) e (entries_by n es) (ne_eqb (pass_number e) n other) ∙ none_by ns n es off (All-tail P e es h)

-- What the passes enter

calls_give : (ns : List ℕ) (calls : List Call) → All (GivesAmong ns) (as_entries calls)
calls_give ns [] = All-nil (GivesAmong ns)
calls_give ns (call ∷ calls) = All-cons (GivesAmong ns) (entry.Call call) (as_entries calls) tt (calls_give ns calls)

made_give : (ns : List ℕ) (number : ℕ) (made : List Entered) → All (GivesAmong ns) (map (entry_of number) made)
made_give ns number [] = All-nil (GivesAmong ns)
made_give ns number (x ∷ xs) = All-cons (GivesAmong ns) (entry_of number x) (map (entry_of number) xs) tt (made_give ns number xs)

seat_gives : (numbers : List ℕ) (e : HistoryEntry) → IsSeat numbers e → GivesAmong (0 ∷ numbers) e
seat_gives numbers (entry.Call call) h = absurd h
seat_gives numbers (entry.Split number new) h = in_later new 0 numbers h
seat_gives numbers (entry.Join number old) h = tt

visit_gives : {N : Type 0} (w : Watch N) (ns : List ℕ) (v : Visit N) → IsVisit w v → All (GivesAmong ns) v.ended.mine
visit_gives w ns v h =
    let s = h.answered.served in
    let made = without_looks (all_entered s.answered ++ s.made) in
    let is = s.entered.calls.mine ∙ ap (λ (es : List HistoryEntry). es ++ map (entry_of v.begun.number) made) h.unused in
    subst (λ (es : List HistoryEntry). All (GivesAmong ns) es) (sym is) (made_give ns v.begun.number made)

visits_give : {N : Type 0} (w : Watch N) (ns : List ℕ) (history : List HistoryEntry) (visits : List (Visit N)) → All (IsVisit w) visits → All (HasCalls history) visits → (n : ℕ) → is_in n (visit_numbers visits) ≡ true → All (GivesAmong ns) (entries_by n history)
visits_give {N} w ns history [] each own n is = absurd (cc is)
visits_give {N} w ns history (v ∷ vs) each own n is =
    ⊎_elim (λ (same : n ≡ v.begun.number). subst (λ (m : ℕ). All (GivesAmong ns) (entries_by m history)) (sym same)
    (subst (λ (es : List HistoryEntry). All (GivesAmong ns) es) (sym (All-head (HasCalls history) v vs own)) (visit_gives w ns v (All-head (IsVisit w) v vs each))))
    (λ (there : is_in n (visit_numbers vs) ≡ true). visits_give w ns history vs (All-tail (IsVisit w) v vs each) (All-tail (HasCalls history) v vs own) n there)
    (first_or n v.begun.number (visit_numbers vs) is)

later_look : (a b : Bool) → (a && b) ≡ true → b ≡ true
later_look true b is = is
later_look false b is = absurd (cc is)

looks_give : (ns : List ℕ) (es : List HistoryEntry) → are_looks es ≡ true → All (GivesAmong ns) es
looks_give ns [] is = All-nil (GivesAmong ns)
looks_give ns (entry.Call call ∷ es) is =
    All-cons (GivesAmong ns) (entry.Call call) es tt (looks_give ns es (later_look (is_look call.event) (are_looks es) is))
looks_give ns (entry.Split number new ∷ es) is = absurd (cc is)
looks_give ns (entry.Join number old ∷ es) is = absurd (cc is)

-- Calls among entries

calls_both : (es fs : List HistoryEntry) → calls_in (es ++ fs) ≡ calls_in es ++ calls_in fs
calls_both [] fs = refl
calls_both (entry.Call call ∷ es) fs = ap (λ (cs : List Call). call ∷ cs) (calls_both es fs)
calls_both (entry.Split number new ∷ es) fs = calls_both es fs
calls_both (entry.Join number old ∷ es) fs = calls_both es fs

calls_of : (calls : List Call) → calls_in (as_entries calls) ≡ calls
calls_of [] = refl
calls_of (call ∷ calls) = ap (λ (cs : List Call). call ∷ cs) (calls_of calls)

no_calls : (numbers : List ℕ) (es : List HistoryEntry) → All (IsSeat numbers) es → calls_in es ≡ []
no_calls numbers [] h = refl
no_calls numbers (entry.Call call ∷ es) h = absurd (All-head (IsSeat numbers) (entry.Call call) es h)
no_calls numbers (entry.Split number new ∷ es) h = no_calls numbers es (All-tail (IsSeat numbers) (entry.Split number new) es h)
no_calls numbers (entry.Join number old ∷ es) h = no_calls numbers es (All-tail (IsSeat numbers) (entry.Join number old) es h)

-- The history

-- the history of a board on which the opening pass has made these calls, then no others, and then these last ones
history_of : {N : Type 0} (w : Watch N) (start : BoardState) (events : List Event) (feed : ℕ) (visits : List (Visit N)) (board : Option Reply) (calls : List Call) (seats history : List HistoryEntry) → IsOpening start
    → events_in calls ≡ events → AreEffective calls → IsPrefix (as_entries calls) history → IsLegal start history
    → entries_by 0 history ≡ as_entries calls ++ (seats ++ as_entries (board_calls board)) → All (IsSeat (feed ∷ visit_numbers visits)) seats
    → All (IsVisit w) visits → All (HasCalls history) visits → are_looks (entries_by feed history) ≡ true → AreAbove 0 (feed ∷ visit_numbers visits)
    → ((r : Reply) → board ≡ Some r → EndsWithBoard start history r)
    → IsHistory start events visits board history
history_of {N} w start events feed visits board calls seats history o enters effective begins legal opening seated each own looks numbers ends =
    let ns : List ℕ = feed ∷ visit_numbers visits in
    let all : List ℕ = 0 ∷ ns in
    let gives : All (GivesAmong all) (entries_by 0 history) =
    subst (λ (es : List HistoryEntry). All (GivesAmong all) es) (sym opening)
    (All-append (GivesAmong all) (as_entries calls) (seats ++ as_entries (board_calls board)) (calls_give all calls)
    (All-append (GivesAmong all) seats (as_entries (board_calls board)) (all_turned (IsSeat ns) (GivesAmong all) (seat_gives ns) seats seated) (calls_give all (board_calls board)))) in
    let out : OutAmong all start = λ n is. subst (λ (xs : List ℕ). is_in n xs ≡ true → is_in n all ≡ true) (sym o.out)
    (λ (t : is_in n (0 ∷ []) ≡ true). ⊎_elim (λ (same : n ≡ 0). subst (λ (m : ℕ). is_in m all ≡ true) (sym same) (in_here 0 ns)) (λ (none : is_in n [] ≡ true). absurd (cc none)) (first_or n 0 [] t)) is in
    let others_give : (n : ℕ) → is_in n ns ≡ true → All (GivesAmong all) (entries_by n history) = λ n is.
    ⊎_elim (λ (same : n ≡ feed). subst (λ (m : ℕ). All (GivesAmong all) (entries_by m history)) (sym same) (looks_give all (entries_by feed history) looks))
    (λ (there : is_in n (visit_numbers visits) ≡ true). visits_give w all history visits each own n there) (first_or n feed (visit_numbers visits) is) in
    let by_these = among all start history legal out
    (λ n is. ⊎_elim (λ (same : n ≡ 0). subst (λ (m : ℕ). All (GivesAmong all) (entries_by m history)) (sym same) gives)
    (λ (there : is_in n ns ≡ true). others_give n there) (first_or n 0 ns is)) in
    record {
      calls = calls;
      enters = enters;
      effective = effective;
      begins = begins;
      legal = legal;
      opening = ap calls_in opening ∙ calls_both (as_entries calls) (seats ++ as_entries (board_calls board))
          ∙ ap (λ (cs : List Call). cs ++ calls_in (seats ++ as_entries (board_calls board))) (calls_of calls)
          ∙ ap (λ (cs : List Call). calls ++ cs) (calls_both seats (as_entries (board_calls board)) ∙ ap (λ (cs : List Call). cs ++ calls_in (as_entries (board_calls board))) (no_calls ns seats seated) ∙ calls_of (board_calls board));
      own = own;
      feed = feed;
      looks = looks;
      numbers = numbers;
      others = λ n other off. none_by all n history (outside n other off) by_these;
      ends = ends;
    }
  where
    outside : (n : ℕ) → n ≢ 0 → is_in n (feed ∷ visit_numbers visits) ≡ false → is_in n (0 ∷ feed ∷ visit_numbers visits) ≡ false
    outside n other off = ap (λ (b : Bool). b || is_in n (feed ∷ visit_numbers visits)) (ne_eqb n 0 other) ∙ off

-- the entries of a pass that was taken in are looks, if those that it made are
looks_joined : (feed : ℕ) (pass : PassValue) (mine : List HistoryEntry) → are_looks mine ≡ true → IsJoined feed pass mine → are_looks (entries_by feed pass.seen) ≡ true
looks_joined feed pass mine looks j = ap are_looks j.entries ∙ looks

-- where the last `board` was not asked for
pub history_without : {N : Type 0} (w : Watch N) (start : BoardState) (events : List Event) (feed : ℕ) (visits : List (Visit N)) (calls : List Call) (pass : PassValue) (mine : List HistoryEntry) → IsOpening start → events_in calls ≡ events → AreEffective calls
    → All (IsVisit w) visits → IsBeside start calls feed visits [] pass → are_looks mine ≡ true → IsJoined feed pass mine → IsHistory start events visits None pass.seen
history_without {N} w start events feed visits calls pass mine o enters effective each b looks j =
    let numbers = ap (λ (ns : List ℕ). feed ∷ ns) (append-nil (visit_numbers visits)) in
    history_of w start events feed visits None calls b.seats pass.seen o enters effective b.prefix b.legal
    (b.own ∙ b.mine ∙ ap (λ (es : List HistoryEntry). as_entries calls ++ es) (sym (append-nil b.seats)))
    (subst (λ (ns : List ℕ). All (IsSeat ns) b.seats) numbers b.seated) each
    (all_turned (IsTaken pass) (HasCalls pass.seen) (λ v t. t.entries) visits b.taken)
    (looks_joined feed pass mine looks j)
    (subst (λ (ns : List ℕ). AreAbove 0 ns) numbers b.rising)
    (λ r is. absurd (cc is))

-- where it was
pub history_with : {N : Type 0} (w : Watch N) (start : BoardState) (events : List Event) (feed : ℕ) (visits : List (Visit N)) (calls : List Call) (pass pass' : PassValue) (mine : List HistoryEntry) (r : Reply) → IsOpening start → events_in calls ≡ events → AreEffective calls
    → All (IsVisit w) visits → IsBeside start calls feed visits [] pass → are_looks mine ≡ true → IsJoined feed pass mine → Calls pass pass' event.Board r → IsHistory start events visits (Some r) pass'.seen
history_with {N} w start events feed visits calls pass pass' mine r o enters effective each b looks j asks =
    let numbers = ap (λ (ns : List ℕ). feed ∷ ns) (append-nil (visit_numbers visits)) in
    let g = asks.grows in
    let e : HistoryEntry = entry.Call (call_of pass.number event.Board r) in
    let last : HistoryEntry = entry.Call (call_of 0 event.Board r) in
    let is : e ≡ last = ap (λ (n : ℕ). entry.Call (call_of n event.Board r)) b.number in
    let seen : pass'.seen ≡ (pass.seen ++ g.between) ++ last ∷ [] = g.seen ∙ ap (λ (x : HistoryEntry). (pass.seen ++ g.between) ++ x ∷ []) is in
    let legal : IsLegal start pass'.seen = subst (λ (s : BoardState). IsLegal s pass'.seen) b.begins g.legal in
    let own : entries_by 0 pass'.seen ≡ as_entries calls ++ (b.seats ++ last ∷ []) =
    ap (λ (n : ℕ). entries_by n pass'.seen) (sym b.number) ∙ g.own ∙ g.mine ∙ ap (λ (x : HistoryEntry). pass.mine ++ x ∷ []) is
    ∙ ap (λ (es : List HistoryEntry). es ++ last ∷ []) b.mine ∙ append_assoc (as_entries calls) b.seats (last ∷ []) in
    let next : IsNext (board_after start (pass.seen ++ g.between)) last = legal_at start (pass.seen ++ g.between) last [] (subst (λ (es : List HistoryEntry). IsLegal start es) seen legal) in
    history_of w start events feed visits (Some r) calls b.seats pass'.seen o enters effective
    (prefix_trans (as_entries calls) pass.seen pass'.seen b.prefix (g.between ++ e ∷ [], sym (append_assoc pass.seen g.between (e ∷ [])) ∙ sym g.seen)) legal own
    (subst (λ (ns : List ℕ). All (IsSeat ns) b.seats) numbers b.seated) each
    (all_turned (IsTaken pass) (HasCalls pass'.seen) (λ v t. (joined_grows v.begun.number pass pass' e v.ended.mine g t).entries) visits b.taken)
    (looks_joined feed pass' mine looks (joined_grows feed pass pass' e mine g j))
    (subst (λ (ns : List ℕ). AreAbove 0 ns) numbers b.rising)
    (λ x same. let there : r ≡ x = cc same in subst (λ (y : Reply). EndsWithBoard start pass'.seen y) there (record { before = pass.seen ++ g.between; whole = seen; answer = next.1.answer }))
