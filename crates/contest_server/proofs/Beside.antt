-- What the opening pass knows, once it has split a pass off or taken one in.
use Rattle.std.proofs.Common.{◌≡◌, ℕ, ◌+◌, ◌<◌, ◌≤◌, true, List, [], ◌∷◌, ◌++◌, sym, ap, ◌∙◌, subst, arith, append_assoc}
use Rattle.std.specs.Prelude.{All}
use Rattle.std.proofs.lemmas.List.{map-append}
use Rattle.std.proofs.lemmas.List.Elements.{All-nil, All-cons, All-head, All-tail, All-append}
use mathlib.Core.List.{IsPrefix}
use Rattle.farm_kinds.specs.declared.events.Event.{Event}
use Rattle.farm_board.specs.BoardState.{BoardState}
use Rattle.farm_board.specs.Histories.{is_in, is_no_memory, IsOpening, IsLegal, IsNext, next_board, board_after, entries_by}
use Rattle.farm_board.specs.Passes.{PassValue, SplitsOff, TakesIn, IsJoined, board_seen}
use Rattle.farm_board.specs.declared.entries.Call.{Call}
use Rattle.farm_board.specs.declared.entries.HistoryEntry.{HistoryEntry}
use Rattle.farm_board.specs.declared.entries.HistoryEntry.TheVariants as entry
use Rattle.farm_board.proofs.Numbers.{in_here, in_front, in_end}
use Rattle.farm_board.proofs.Prefixes.{prefix_trans}
use Rattle.farm_board.proofs.Histories.{after_call_given, board_after_append, board_after_snoc, legal_at}
use Rattle.farm_board.proofs.Callers.{joined_grows, joined_joins, joins}
use Rattle.parallel_judge.specs.Hosts.{as_entries}
use Rattle.contest_server.specs.Visits.{Start, Visit}
use Rattle.contest_server.specs.Beside.{AreAbove, last_or, IsSeat, visit_numbers, start_numbers, pass_numbers, IsTaken, IsBeside, feed_share, HasSplit}
use Rattle.contest_server.proofs.Numbers.{above_more, last_more}

-- Lists

pub all_turned : {X : Type 0} (P Q : X → Type 0) → ((x : X) → P x → Q x) → (xs : List X) → All P xs → All Q xs
all_turned P Q turn [] h = All-nil Q
all_turned P Q turn (x ∷ xs) h = All-cons Q x xs (turn x (All-head P x xs h)) (all_turned P Q turn xs (All-tail P x xs h))

pub all_more : {X : Type 0} (P : X → Type 0) (xs : List X) (x : X) → All P xs → P x → All P (xs ++ x ∷ [])
all_more P xs x h is = All-append P xs (x ∷ []) h (All-cons P x [] is (All-nil P))

-- How many numbers were given

next_given : (s : BoardState) (e : HistoryEntry) → s.given ≤ (next_board s e).given
next_given s (entry.Call call) = let same = after_call_given (is_no_memory call.reply) s call in omega arith
next_given s (entry.Split number new) = omega arith
next_given s (entry.Join number old) = omega arith

after_given : (s : BoardState) (es : List HistoryEntry) → s.given ≤ (board_after s es).given
after_given s [] = omega arith
after_given s (e ∷ es) = let a = next_given s e in let b = after_given (next_board s e) es in omega arith

-- whoever has seen more knows of no fewer
given_later : (old new : PassValue) → new.start ≡ old.start → IsPrefix old.seen new.seen → (board_seen old).given ≤ (board_seen new).given
given_later old new start prefix =
    let whole : board_seen new ≡ board_after (board_seen old) prefix.0 =
    ap (λ (s : BoardState). board_after s new.seen) start ∙ ap (λ (es : List HistoryEntry). board_after old.start es) (sym prefix.1) ∙ board_after_append old.start old.seen prefix.0 in
    let same = ap (λ (s : BoardState). s.given) whole in
    let more = after_given (board_seen old) prefix.0 in omega (arith, same, more)

-- One entry more

seat_more : (numbers : List ℕ) (n : ℕ) (e : HistoryEntry) → IsSeat numbers e → IsSeat (numbers ++ n ∷ []) e
seat_more numbers n (entry.Call call) h = absurd h
seat_more numbers n (entry.Split number new) h = in_front new n numbers h
seat_more numbers n (entry.Join number old) h = tt

grown : {N : Type 0} (start : BoardState) (calls : List Call) (feed : ℕ) (visits visits' : List (Visit N)) (starts starts' : List (Start N)) (old new : PassValue) (more : List HistoryEntry) (e : HistoryEntry)
    → IsBeside start calls feed visits starts old
    → new.seen ≡ (old.seen ++ more) ++ e ∷ [] → IsLegal old.start new.seen → new.mine ≡ old.mine ++ e ∷ [] → entries_by old.number new.seen ≡ new.mine
    → new.number ≡ old.number → new.start ≡ old.start
    → ((x : HistoryEntry) → IsSeat (pass_numbers feed visits starts) x → IsSeat (pass_numbers feed visits' starts') x) → IsSeat (pass_numbers feed visits' starts') e
    → All (IsTaken new) visits' → AreAbove 0 (pass_numbers feed visits' starts') → last_or 0 (pass_numbers feed visits' starts') ≤ (board_seen new).given
    → IsBeside start calls feed visits' starts' new
grown start calls feed visits visits' starts starts' old new more e b seen legal mine own number begins turn seat taken rising given = record {
  prefix = prefix_trans (as_entries calls) old.seen new.seen b.prefix (more ++ e ∷ [], sym (append_assoc old.seen more (e ∷ [])) ∙ sym seen);
  legal = subst (λ (s : BoardState). IsLegal s new.seen) b.begins legal;
  own = ap (λ (n : ℕ). entries_by n new.seen) (sym b.number) ∙ own;
  seats = b.seats ++ e ∷ [];
  mine = mine ∙ ap (λ (es : List HistoryEntry). es ++ e ∷ []) b.mine ∙ append_assoc (as_entries calls) b.seats (e ∷ []);
  seated = all_more (IsSeat (pass_numbers feed visits' starts')) b.seats e (all_turned (IsSeat (pass_numbers feed visits starts)) (IsSeat (pass_numbers feed visits' starts')) turn b.seats b.seated) seat;
  number = number ∙ b.number;
  begins = begins ∙ b.begins;
  taken = taken;
  rising = rising;
  given = given;
}

-- a pass that is split off has a number above all that were given
split_number : (old new other : PassValue) (share : ℕ) → SplitsOff old new other share → ((board_seen old).given < other.number) × (other.number ≤ (board_seen new).given)
split_number old new other share split =
    let g = split.grows in
    let e : HistoryEntry = entry.Split old.number other.number in
    let before : List HistoryEntry = old.seen ++ g.between in
    let legal : IsLegal old.start (before ++ e ∷ []) = subst (λ (es : List HistoryEntry). IsLegal old.start es) g.seen g.legal in
    let next : IsNext (board_after old.start before) e = legal_at old.start before e [] legal in
    let is : other.number ≡ (board_after old.start before).given + 1 = next.2 in
    let through = after_given (board_seen old) g.between in
    let whole = ap (λ (z : BoardState). z.given) (board_after_append old.start old.seen g.between) in
    let now : board_seen new ≡ next_board (board_after old.start before) e =
    ap (λ (z : BoardState). board_after z new.seen) g.start ∙ ap (λ (es : List HistoryEntry). board_after old.start es) g.seen ∙ board_after_snoc old.start before e in
    let now_given = ap (λ (z : BoardState). z.given) now in
    (omega (arith, is, through, whole), omega (arith, is, now_given))

-- the contest has entered, and the feed's pass was split off
pub feed_beside : {N : Type 0} (start : BoardState) (events : List Event) (pass own : PassValue) → (h : HasSplit start events pass own) → IsBeside {N = N} start h.entered.calls own.number [] [] pass
feed_beside {N} start events pass own h =
    let entered = h.entered in
    let split = h.split in
    let g = split.grows in
    let e : HistoryEntry = entry.Split h.before.number own.number in
    let numbers : List ℕ = own.number ∷ [] in
    let number = split_number h.before pass own feed_share split in
    let above = number.0 in
    record {
      prefix = subst (λ (es : List HistoryEntry). IsPrefix es pass.seen) entered.seen
          (g.between ++ e ∷ [], sym (append_assoc h.before.seen g.between (e ∷ [])) ∙ sym g.seen);
      legal = subst (λ (s : BoardState). IsLegal s pass.seen) entered.begins g.legal;
      own = ap (λ (n : ℕ). entries_by n pass.seen) (sym entered.number) ∙ g.own;
      seats = e ∷ [];
      mine = g.mine ∙ ap (λ (es : List HistoryEntry). es ++ e ∷ []) entered.mine;
      seated = All-cons (IsSeat numbers) e [] (in_here own.number []) (All-nil (IsSeat numbers));
      number = g.number ∙ entered.number;
      begins = g.start ∙ entered.begins;
      taken = All-nil (IsTaken {N = N} pass);
      rising = (omega (arith, above), tt);
      given = number.1;
    }

-- a pass is split off for a connection
pub splits_beside : {N : Type 0} (start : BoardState) (calls : List Call) (feed : ℕ) (visits : List (Visit N)) (starts : List (Start N)) (old new : PassValue) (s : Start N) (share : ℕ)
    → IsBeside start calls feed visits starts old → SplitsOff old new s.begun share → IsBeside start calls feed visits (starts ++ s ∷ []) new
splits_beside {N} start calls feed visits starts old new s share b split =
    let other = s.begun in
    let g = split.grows in
    let e : HistoryEntry = entry.Split old.number other.number in
    let numbers : pass_numbers feed visits (starts ++ s ∷ []) ≡ pass_numbers feed visits starts ++ other.number ∷ [] =
    ap (λ (ns : List ℕ). feed ∷ ns)
    (ap (λ (ns : List ℕ). visit_numbers visits ++ ns) (map-append (λ (x : Start N). x.begun.number) starts (s ∷ [])) ∙ sym (append_assoc (visit_numbers visits) (start_numbers starts) (other.number ∷ []))) in
    let number = split_number old new other share split in
    let above = number.0 in
    let known = b.given in
    let below : last_or 0 (pass_numbers feed visits starts) < other.number = omega (arith, above, known) in
    grown start calls feed visits visits starts (starts ++ s ∷ []) old new g.between e b g.seen g.legal g.mine g.own g.number g.start
    (λ x seat. subst (λ (ns : List ℕ). IsSeat ns x) (sym numbers) (seat_more (pass_numbers feed visits starts) other.number x seat))
    (subst (λ (ns : List ℕ). is_in other.number ns ≡ true) (sym numbers) (in_end other.number (pass_numbers feed visits starts)))
    (all_turned (IsTaken old) (IsTaken new) (λ v was. joined_grows v.begun.number old new e v.ended.mine g was) visits b.taken)
    (subst (λ (ns : List ℕ). AreAbove 0 ns) (sym numbers) (above_more 0 other.number (pass_numbers feed visits starts) b.rising below))
    (subst (λ (n : ℕ). n ≤ (board_seen new).given) (sym (ap (λ (ns : List ℕ). last_or 0 ns) numbers ∙ last_more 0 other.number (pass_numbers feed visits starts))) number.1)

-- the pass of the connection that was accepted first is taken in
pub joins_beside : {N : Type 0} (start : BoardState) (calls : List Call) (feed : ℕ) (visits : List (Visit N)) (s : Start N) (starts : List (Start N)) (v : Visit N) (old new : PassValue) → IsOpening start
    → v.begun ≡ s.begun → v.ended.number ≡ s.begun.number → IsBeside start calls feed visits (s ∷ starts) old → TakesIn old v.ended new
    → IsBeside start calls feed (visits ++ v ∷ []) starts new
joins_beside {N} start calls feed visits s starts v old new o same number b t =
    let from = v.ended in
    let e : HistoryEntry = entry.Join old.number from.number in
    let more = t.begins.0 in
    let seen : new.seen ≡ (old.seen ++ more) ++ e ∷ [] = t.seen ∙ ap (λ (es : List HistoryEntry). es ++ e ∷ []) (sym t.begins.1) in
    let numbers : pass_numbers feed (visits ++ v ∷ []) starts ≡ pass_numbers feed visits (s ∷ starts) =
    ap (λ (ns : List ℕ). feed ∷ ns)
    (ap (λ (ns : List ℕ). ns ++ start_numbers starts) (map-append (λ (x : Visit N). x.begun.number) visits (v ∷ []))
    ∙ append_assoc (visit_numbers visits) (v.begun.number ∷ []) (start_numbers starts)
    ∙ ap (λ (p : PassValue). visit_numbers visits ++ p.number ∷ start_numbers starts) same) in
    let opening : IsOpening old.start = subst IsOpening (sym b.begins) o in
    let here : IsJoined from.number new from.mine = joins old from new opening t in
    let taken : IsTaken new v = subst (λ (n : ℕ). IsJoined n new from.mine) (number ∙ sym (ap (λ (p : PassValue). p.number) same)) here in
    let later = given_later old new t.start (more ++ e ∷ [], sym (append_assoc old.seen more (e ∷ [])) ∙ sym seen) in
    let known = b.given in
    grown start calls feed visits (visits ++ v ∷ []) (s ∷ starts) starts old new more e b seen t.legal t.mine t.own t.number t.start
    (λ x seat. subst (λ (ns : List ℕ). IsSeat ns x) (sym numbers) seat) tt
    (all_more (IsTaken new) visits v (all_turned (IsTaken old) (IsTaken new) (λ x was. joined_joins x.begun.number old from new x.ended.mine t was) visits b.taken) taken)
    (subst (λ (ns : List ℕ). AreAbove 0 ns) (sym numbers) b.rising)
    (subst (λ (ns : List ℕ). last_or 0 ns ≤ (board_seen new).given) (sym numbers) (omega (arith, later, known)))

-- the feed's pass is taken in, once all connections were served
pub feed_joins : {N : Type 0} (start : BoardState) (calls : List Call) (feed : ℕ) (visits : List (Visit N)) (old from new : PassValue) → IsOpening start → from.number ≡ feed
    → IsBeside start calls feed visits [] old → TakesIn old from new → IsBeside start calls feed visits [] new × IsJoined feed new from.mine
feed_joins {N} start calls feed visits old from new o number b t =
    let e : HistoryEntry = entry.Join old.number from.number in
    let more = t.begins.0 in
    let seen : new.seen ≡ (old.seen ++ more) ++ e ∷ [] = t.seen ∙ ap (λ (es : List HistoryEntry). es ++ e ∷ []) (sym t.begins.1) in
    let opening : IsOpening old.start = subst IsOpening (sym b.begins) o in
    let here : IsJoined from.number new from.mine = joins old from new opening t in
    let later = given_later old new t.start (more ++ e ∷ [], sym (append_assoc old.seen more (e ∷ [])) ∙ sym seen) in
    let known = b.given in (
      grown start calls feed visits visits [] [] old new more e b seen t.legal t.mine t.own t.number t.start (λ x seat. seat) tt
          (all_turned (IsTaken old) (IsTaken new) (λ x was. joined_joins x.begun.number old from new x.ended.mine t was) visits b.taken)
          b.rising (omega (arith, later, known)),
      subst (λ (n : ℕ). IsJoined n new from.mine) number here,
    )
