-- What the opening pass knows while passes of hosts are out, and once it has taken them in.
use Rattle.std.proofs.Common.{◌≡◌, ℕ, Option, List, [], ◌∷◌, ◌++◌, sym, ap, ◌∙◌, subst, ⊎_elim}
use Rattle.std.specs.Prelude.{All}
use Rattle.std.proofs.lemmas.List.{append_assoc, append-nil}
use Rattle.std.proofs.lemmas.List.Elements.{All-nil, All-cons, All-head, All-tail}
use Rattle.farm_kinds.specs.declared.outcomes.Task.{Task}
use Rattle.farm_kinds.specs.declared.events.Event.{Event}
use Rattle.case_run.specs.Cases.{TestCase}
use Rattle.farm_board.specs.BoardState.{BoardState}
use Rattle.farm_board.specs.Histories.{IsOpening, IsLegal, entries_by}
use Rattle.farm_board.specs.Passes.{PassValue, SplitsOff, TakesIn, IsJoined}
use Rattle.farm_board.specs.declared.entries.Call.{Call}
use Rattle.farm_board.specs.declared.entries.HistoryEntry.{HistoryEntry}
use Rattle.farm_board.specs.declared.entries.HistoryEntry.TheVariants as entry
use Rattle.farm_board.proofs.Numbers.{in_either, in_front, in_end}
use Rattle.farm_board.proofs.Histories.{entries_append}
use Rattle.farm_board.proofs.Callers.{joined_grows, joined_joins, joins}
use Rattle.parallel_judge.specs.Hosts.{as_entries, HasEntered, EachEntry, IsHostEntry, IsSeatEntry, IsBeside}
use Rattle.parallel_judge.proofs.Opening.{own_calls}

-- ---- entries

pub each_both : (P : HistoryEntry → Type 0) (es fs : List HistoryEntry) → EachEntry P es → EachEntry P fs → EachEntry P (es ++ fs)
each_both P [] fs h k = k
each_both P (e ∷ es) fs h k = (h.0, each_both P es fs h.1 k)

pub each_second : (P : HistoryEntry → Type 0) (es fs : List HistoryEntry) → EachEntry P (es ++ fs) → EachEntry P fs
each_second P [] fs h = h
each_second P (e ∷ es) fs h = each_second P es fs h.1

each_turned : (P Q : HistoryEntry → Type 0) → ((e : HistoryEntry) → P e → Q e) → (es : List HistoryEntry) → EachEntry P es → EachEntry Q es
each_turned P Q turn [] h = tt
each_turned P Q turn (e ∷ es) h = (turn e h.0, each_turned P Q turn es h.1)

same_back : {X : Type 0} (xs ys zs : List X) → xs ++ ys ≡ xs ++ zs → ys ≡ zs
same_back [] ys zs e = e
same_back (x ∷ xs) ys zs e = same_back xs ys zs (let rest : xs ++ ys ≡ xs ++ zs = cc in rest)

-- a pass of more numbers is split off
seat_more : (numbers : List ℕ) (n : ℕ) (e : HistoryEntry) → IsSeatEntry numbers e → IsSeatEntry (numbers ++ n ∷ []) e
seat_more numbers n (entry.Call call) h = absurd h
seat_more numbers n (entry.Split number new) h = in_front new n numbers h
seat_more numbers n (entry.Join number old) h = tt

-- ---- the opening pass makes one more entry of its own

-- what was joined stays joined
abbrev StaysJoined : PassValue → PassValue → Type 0
StaysJoined old new = (n : ℕ) (its : List HistoryEntry) → IsJoined n old its → IsJoined n new its

-- what it knows then
grows : (case_at : Task → Option TestCase) (start : BoardState) (calls : List Call) (split split' joined : List ℕ) (old new : PassValue) (more : List HistoryEntry) (e : HistoryEntry)
    → IsBeside case_at start calls split joined old
    → new.seen ≡ (old.seen ++ more) ++ e ∷ [] → IsLegal old.start new.seen → new.mine ≡ old.mine ++ e ∷ [] → entries_by old.number new.seen ≡ new.mine
    → new.number ≡ old.number → new.start ≡ old.start → StaysJoined old new
    → ((x : HistoryEntry) → IsSeatEntry split x → IsSeatEntry split' x) → IsSeatEntry split' e
    → IsBeside case_at start calls split' joined new
grows case_at start calls split split' joined old new more e b seen legal mine own number begins stays turn seat =
    let rest : List HistoryEntry = b.rest ++ (more ++ e ∷ []) in
    let whole : new.seen ≡ as_entries calls ++ rest =
    seen ∙ append_assoc old.seen more (e ∷ []) ∙ ap (λ (es : List HistoryEntry). es ++ (more ++ e ∷ [])) b.seen ∙ append_assoc (as_entries calls) b.rest (more ++ e ∷ []) in
    let start_legal : IsLegal start new.seen = subst (λ (s : BoardState). IsLegal s new.seen) b.begins legal in
    let own_zero : entries_by 0 new.seen ≡ new.mine = ap (λ (n : ℕ). entries_by n new.seen) (sym b.number) ∙ own in
    -- the entries of pass 0 are those of before, and e
    let mine_more : entries_by 0 new.seen ≡ entries_by 0 old.seen ++ e ∷ [] = own_zero ∙ mine ∙ ap (λ (es : List HistoryEntry). es ++ e ∷ []) (sym b.own) in
    let old_parts : entries_by 0 old.seen ≡ entries_by 0 (as_entries calls) ++ entries_by 0 b.rest = ap (λ (es : List HistoryEntry). entries_by 0 es) b.seen ∙ entries_append 0 (as_entries calls) b.rest in
    let new_parts : entries_by 0 new.seen ≡ entries_by 0 (as_entries calls) ++ entries_by 0 rest = ap (λ (es : List HistoryEntry). entries_by 0 es) whole ∙ entries_append 0 (as_entries calls) rest in
    let both : entries_by 0 (as_entries calls) ++ entries_by 0 rest ≡ entries_by 0 (as_entries calls) ++ (entries_by 0 b.rest ++ e ∷ []) =
    sym new_parts ∙ mine_more ∙ ap (λ (es : List HistoryEntry). es ++ e ∷ []) old_parts ∙ append_assoc (entries_by 0 (as_entries calls)) (entries_by 0 b.rest) (e ∷ []) in
    let own_rest : entries_by 0 rest ≡ entries_by 0 b.rest ++ e ∷ [] = same_back (entries_by 0 (as_entries calls)) (entries_by 0 rest) (entries_by 0 b.rest ++ e ∷ []) both in
    record {
      rest = rest;
      seen = whole;
      legal = start_legal;
      own = own_zero;
      seats = subst (EachEntry (IsSeatEntry split')) (sym own_rest)
          (each_both (IsSeatEntry split') (entries_by 0 b.rest) (e ∷ []) (each_turned (IsSeatEntry split) (IsSeatEntry split') turn (entries_by 0 b.rest) b.seats) (seat, tt));
      number = number ∙ b.number;
      begins = begins ∙ b.begins;
      hosts = λ n is. let was = b.hosts n is in (was.0, stays n was.0 was.1, was.2);
    }

-- at first no other pass was split off
pub nothing_beside : (case_at : Task → Option TestCase) (start : BoardState) (events : List Event) (pass : PassValue) → (h : HasEntered start events pass)
    → IsBeside case_at start h.calls [] [] pass
nothing_beside case_at start events pass h = record {
  rest = [];
  seen = h.seen ∙ sym (append-nil (as_entries h.calls));
  legal = subst (λ (es : List HistoryEntry). IsLegal start es) (sym h.seen) h.legal;
  own = ap (λ (es : List HistoryEntry). entries_by 0 es) h.seen ∙ own_calls h.calls h.callers ∙ sym h.mine;
  seats = tt;
  number = h.number;
  begins = h.begins;
  hosts = λ n is. cc;
}

pub splits_beside : (case_at : Task → Option TestCase) (start : BoardState) (calls : List Call) (split : List ℕ) (old new other : PassValue) (share : ℕ)
    → IsBeside case_at start calls split [] old → SplitsOff old new other share → IsBeside case_at start calls (split ++ other.number ∷ []) [] new
splits_beside case_at start calls split old new other share b s =
    grows case_at start calls split (split ++ other.number ∷ []) [] old new s.grows.between (entry.Split old.number other.number) b
    s.grows.seen s.grows.legal s.grows.mine s.grows.own s.grows.number s.grows.start
    (λ n its j. joined_grows n old new (entry.Split old.number other.number) its s.grows j)
    (seat_more split other.number) (in_end other.number split)

-- a host's pass is taken in
pub joins_beside : (case_at : Task → Option TestCase) (start : BoardState) (calls : List Call) (split joined : List ℕ) (old from new : PassValue) → IsOpening start
    → IsBeside case_at start calls split joined old → TakesIn old from new → EachEntry (IsHostEntry case_at from.number) from.mine
    → IsBeside case_at start calls split (joined ++ from.number ∷ []) new
joins_beside case_at start calls split joined old from new o b t h =
    let join = entry.Join old.number from.number in
    let more = t.begins.0 in
    let seen : new.seen ≡ (old.seen ++ more) ++ join ∷ [] = t.seen ∙ ap (λ (es : List HistoryEntry). es ++ join ∷ []) (sym t.begins.1) in
    let g = grows case_at start calls split split joined old new more join b seen t.legal t.mine t.own t.number t.start (λ n its j. joined_joins n old from new its t j) (λ x s. s) tt in
    let here : IsJoined from.number new from.mine = joins old from new (subst IsOpening (sym b.begins) o) t in
    record {
      rest = g.rest;
      seen = g.seen;
      legal = g.legal;
      own = g.own;
      seats = g.seats;
      number = g.number;
      begins = g.begins;
      hosts = λ n is. ⊎_elim (λ is. g.hosts n is)
          (λ (same : n ≡ from.number). subst (λ (m : ℕ). (its : List HistoryEntry) × IsJoined m new its × EachEntry (IsHostEntry case_at m) its) (sym same) (from.mine, here, h))
          (in_either n from.number joined is);
    }

-- ---- lists of passes

pub all_but_last : {X : Type 0} (P : X → Type 0) (xs : List X) (x : X) → All P (xs ++ x ∷ []) → All P xs
all_but_last P [] x h = All-nil P
all_but_last P (y ∷ xs) x h = All-cons P y xs (All-head P y (xs ++ x ∷ []) h) (all_but_last P xs x (All-tail P y (xs ++ x ∷ []) h))

pub all_last : {X : Type 0} (P : X → Type 0) (xs : List X) (x : X) → All P (xs ++ x ∷ []) → P x
all_last P [] x h = All-head P x [] h
all_last P (y ∷ xs) x h = all_last P xs x (All-tail P y (xs ++ x ∷ []) h)

pub all_turned : {X : Type 0} (P Q : X → Type 0) → ((x : X) → P x → Q x) → (xs : List X) → All P xs → All Q xs
all_turned P Q turn [] h = All-nil Q
all_turned P Q turn (x ∷ xs) h = All-cons Q x xs (turn x (All-head P x xs h)) (all_turned P Q turn xs (All-tail P x xs h))
