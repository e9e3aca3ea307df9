-- Histories: one entry more, the numbers that are out, and what a number's entries are.
use Rattle.std.proofs.Common.{◌≡◌, ◌≢◌, ℕ, ◌+◌, ◌<◌, ◌≤◌, Bool, true, false, Option, Some, None, List, [], ◌∷◌, ◌++◌, length, eqb, refl, ap, sym, ◌∙◌, subst, ⊎_elim, arith, append_assoc, append-nil, length-append, eq-eqb, ne_eqb}
use Rattle.std.specs.Prelude.{if◌then◌else◌}
use mathlib.Core.List.{IsPrefix}
use Rattle.farm_board.specs.BoardState.{BoardState}
use Rattle.farm_board.specs.Histories.{is_no_memory, pass_number, is_in, IsOut, journal_with_call, board_after_call, next_board, IsNext, board_after, IsLegal, entries_by, call_unless, effective_calls, journal_with_calls, IsAlone, OutWereGiven, IsOpening}
use Rattle.farm_board.specs.Views.{Suits, spare_after}
use Rattle.farm_board.specs.declared.entries.Call.{Call}
use Rattle.farm_board.specs.declared.entries.HistoryEntry.{HistoryEntry}
use Rattle.farm_board.specs.declared.entries.HistoryEntry.TheVariants as entry
use Rattle.farm_board.specs.declared.view.View.{View}
use Rattle.farm_board.proofs.Numbers.{in_here, in_front, in_either, in_from, in_without, in_single, length_without}

-- One entry more

pub board_after_snoc : (s : BoardState) (es : List HistoryEntry) (e : HistoryEntry) → board_after s (es ++ e ∷ []) ≡ next_board (board_after s es) e
board_after_snoc s [] e = refl
board_after_snoc s (x ∷ es) e = board_after_snoc (next_board s x) es e

pub legal_snoc : (s : BoardState) (es : List HistoryEntry) (e : HistoryEntry) → IsLegal s es → IsNext (board_after s es) e → IsLegal s (es ++ e ∷ [])
legal_snoc s [] e h r = (r, tt)
legal_snoc s (x ∷ es) e h r = (h.0, legal_snoc (next_board s x) es e h.1 r)

pub board_after_append : (s : BoardState) (es fs : List HistoryEntry) → board_after s (es ++ fs) ≡ board_after (board_after s es) fs
board_after_append s [] fs = refl
board_after_append s (e ∷ es) fs = board_after_append (next_board s e) es fs

pub legal_prefix : (s : BoardState) (es fs : List HistoryEntry) → IsLegal s (es ++ fs) → IsLegal s es
legal_prefix s [] fs h = tt
legal_prefix s (e ∷ es) fs h = (h.0, legal_prefix (next_board s e) es fs h.1)

pub legal_rest : (s : BoardState) (es fs : List HistoryEntry) → IsLegal s (es ++ fs) → IsLegal (board_after s es) fs
legal_rest s [] fs h = h
legal_rest s (e ∷ es) fs h = legal_rest (next_board s e) es fs h.1

-- an entry of a legal history may come next after those before it
pub legal_at : (s : BoardState) (es : List HistoryEntry) (e : HistoryEntry) (more : List HistoryEntry) → IsLegal s (es ++ e ∷ more) → IsNext (board_after s es) e
legal_at s [] e more h = h.0
legal_at s (x ∷ es) e more h = legal_at (next_board s x) es e more h.1

kept : (b : Bool) (x : HistoryEntry) (xs ys : List HistoryEntry) → (if b then x ∷ (xs ++ ys) else xs ++ ys) ≡ (if b then x ∷ xs else xs) ++ ys
kept true x xs ys = refl
kept false x xs ys = refl

pub entries_append : (n : ℕ) (es fs : List HistoryEntry) → entries_by n (es ++ fs) ≡ entries_by n es ++ entries_by n fs
entries_append n [] fs = refl
entries_append n (x ∷ es) fs = ap (λ (xs : List HistoryEntry). if eqb (pass_number x) n then x ∷ xs else xs) (entries_append n es fs) ∙ kept (eqb (pass_number x) n) x (entries_by n es) (entries_by n fs)

pub entries_mine : (n : ℕ) (es : List HistoryEntry) (e : HistoryEntry) → pass_number e ≡ n → entries_by n (es ++ e ∷ []) ≡ entries_by n es ++ e ∷ []
entries_mine n es e same = entries_append n es (e ∷ []) ∙ ap (λ (b : Bool). entries_by n es ++ (if b then e ∷ [] else [])) (eq-eqb (pass_number e) n same)

nothing_more : (xs : List HistoryEntry) → xs ++ [] ≡ xs
nothing_more [] = refl
nothing_more (x ∷ xs) = ap (λ (ys : List HistoryEntry). x ∷ ys) (nothing_more xs)

pub entries_other : (n : ℕ) (es : List HistoryEntry) (e : HistoryEntry) → pass_number e ≢ n → entries_by n (es ++ e ∷ []) ≡ entries_by n es
entries_other n es e other = entries_append n es (e ∷ []) ∙ (ap (λ (b : Bool). entries_by n es ++ (if b then e ∷ [] else [])) (ne_eqb (pass_number e) n other) ∙ nothing_more (entries_by n es))

-- What an entry leaves as it was

pub after_call_out : (b : Bool) (s : BoardState) (call : Call) → (board_after_call b s call).out ≡ s.out
after_call_out true s call = refl
after_call_out false s call = refl

pub after_call_given : (b : Bool) (s : BoardState) (call : Call) → (board_after_call b s call).given ≡ s.given
after_call_given true s call = refl
after_call_given false s call = refl

after_call_seats : (b : Bool) (s : BoardState) (call : Call) → (board_after_call b s call).seats ≡ s.seats
after_call_seats true s call = refl
after_call_seats false s call = refl

next_board_seats : (s : BoardState) (e : HistoryEntry) → (next_board s e).seats ≡ s.seats
next_board_seats s (entry.Call call) = after_call_seats (is_no_memory call.reply) s call
next_board_seats s (entry.Split number new) = refl
next_board_seats s (entry.Join number old) = refl

pub board_after_seats : (s : BoardState) (es : List HistoryEntry) → (board_after s es).seats ≡ s.seats
board_after_seats s [] = refl
board_after_seats s (e ∷ es) = board_after_seats (next_board s e) es ∙ next_board_seats s e

-- whoever makes the entry is out
pub next_out : (s : BoardState) (e : HistoryEntry) → IsNext s e → IsOut (pass_number e) s
next_out s (entry.Call call) h = h.0
next_out s (entry.Split number new) h = h.0
next_out s (entry.Join number old) h = h.0

-- the entry does not take the number in
abbrev pub Stays : ℕ → HistoryEntry → Type 0
Stays n (entry.Call call) = Unit {0}
Stays n (entry.Split number new) = Unit {0}
Stays n (entry.Join number old) = n ≢ old

pub out_next_board : (s : BoardState) (e : HistoryEntry) (n : ℕ) → IsOut n s → Stays n e → IsOut n (next_board s e)
out_next_board s (entry.Call call) n h stays = ap (λ (xs : List ℕ). is_in n xs) (after_call_out (is_no_memory call.reply) s call) ∙ h
out_next_board s (entry.Split number new) n h stays = in_front n new s.out h
out_next_board s (entry.Join number old) n h stays = in_without n old s.out stays h

-- room for the passes out and the spare seats
pub room_next_board : (s : BoardState) (e : HistoryEntry) (v : View) (others : ℕ) → IsNext s e → Suits e v → length s.out + (others + v.spare) ≤ s.seats → length (next_board s e).out + (others + spare_after v.spare e) ≤ s.seats
room_next_board s (entry.Call call) v others h suits room = let same = ap (λ (xs : List ℕ). length xs) (after_call_out (is_no_memory call.reply) s call) in omega arith
room_next_board s (entry.Split number new) v others h suits room = let some_spare = suits.2 in omega (arith, length-append s.out (new ∷ []))
room_next_board s (entry.Join number old) v others h suits room = let less = length_without old s.out h.1 in omega arith

-- Numbers that were given

pub given_next_board : (s : BoardState) (e : HistoryEntry) → IsNext s e → OutWereGiven s → OutWereGiven (next_board s e)
given_next_board s (entry.Call call) h below n out =
    let same = after_call_given (is_no_memory call.reply) s call in
    let q = below n (ap (λ (xs : List ℕ). is_in n xs) (sym (after_call_out (is_no_memory call.reply) s call)) ∙ out) in omega arith
given_next_board s (entry.Split number new) h below n out = ⊎_elim (λ t. let q = below n t in omega arith) (λ (t : n ≡ new). let q = h.2 in omega arith) (in_either n new s.out out)
given_next_board s (entry.Join number old) h below n out = below n (in_from n old s.out out)

pub given_after : (s : BoardState) (es : List HistoryEntry) → IsLegal s es → OutWereGiven s → OutWereGiven (board_after s es)
given_after s [] h below = below
given_after s (e ∷ es) h below = given_after (next_board s e) es h.1 (given_next_board s e h.0 below)

next_board_more : (s : BoardState) (e : HistoryEntry) → s.given ≤ (next_board s e).given
next_board_more s (entry.Call call) = let same = after_call_given (is_no_memory call.reply) s call in omega arith
next_board_more s (entry.Split number new) = omega arith
next_board_more s (entry.Join number old) = omega arith

board_after_more : (s : BoardState) (es : List HistoryEntry) → s.given ≤ (board_after s es).given
board_after_more s [] = omega arith
board_after_more s (e ∷ es) = let a = next_board_more s e in let b = board_after_more (next_board s e) es in omega arith

none_cond : (b : Bool) (e : HistoryEntry) (xs : List HistoryEntry) → b ≡ false → (if b then e ∷ xs else xs) ≡ xs
none_cond true e xs is = absurd (cc is)
none_cond false e xs is = refl

-- a number that was not given has no entries
pub none_new : (s : BoardState) (es : List HistoryEntry) (n : ℕ) → IsLegal s es → OutWereGiven s → (board_after s es).given < n → entries_by n es ≡ []
none_new s [] n h below more = refl
none_new s (e ∷ es) n h below more =
    let a = next_board_more s e in
    let b = board_after_more (next_board s e) es in
    let c = below (pass_number e) (next_out s e h.0) in
    none_cond (eqb (pass_number e) n) e (entries_by n es) (ne_eqb (pass_number e) n (omega arith)) ∙ none_new (next_board s e) es n h.1 (given_next_board s e h.0 below) more

-- at the start pass 0 alone is out, and no number was given
pub given_opening : (s : BoardState) → IsOpening s → OutWereGiven s
given_opening s o n out =
    let none = o.given in
    let is : n ≡ 0 = in_single 0 n (0 ∷ []) (omega arith) (in_here 0 []) (ap (λ (xs : List ℕ). is_in n xs) (sym o.out) ∙ out) in omega arith

-- an entry gives one number at the most
pub next_board_few : (s : BoardState) (e : HistoryEntry) → (next_board s e).given ≤ s.given + 1
next_board_few s (entry.Call call) = let same = after_call_given (is_no_memory call.reply) s call in omega arith
next_board_few s (entry.Split number new) = omega arith
next_board_few s (entry.Join number old) = omega arith

-- The journal

journal_none : (j : Option (List Call)) → j ≡ journal_with_calls j []
journal_none None = refl
journal_none (Some calls) = ap Some (sym (append-nil calls))

journal_next : (j : Option (List Call)) (call : Call) (more : List Call) → journal_with_calls (journal_with_call j call) more ≡ journal_with_calls j (call ∷ more)
journal_next None call more = refl
journal_next (Some calls) call more = ap Some (append_assoc calls (call ∷ []) more)

journal_after_call : (b : Bool) (s : BoardState) (call : Call) (more : List Call) → journal_with_calls (board_after_call b s call).journal more ≡ journal_with_calls s.journal (call_unless b call more)
journal_after_call true s call more = refl
journal_after_call false s call more = journal_next s.journal call more

-- the journal has the calls of the history
pub journal_after : (s : BoardState) (es : List HistoryEntry) → (board_after s es).journal ≡ journal_with_calls s.journal (effective_calls es)
journal_after s [] = journal_none s.journal
journal_after s (entry.Call call ∷ es) = journal_after (next_board s (entry.Call call)) es ∙ journal_after_call (is_no_memory call.reply) s call (effective_calls es)
journal_after s (entry.Split number new ∷ es) = journal_after (next_board s (entry.Split number new)) es
journal_after s (entry.Join number old ∷ es) = journal_after (next_board s (entry.Join number old)) es

-- The end

longer_entries : (n : ℕ) (es more : List HistoryEntry) (e : HistoryEntry) → pass_number e ≡ n → entries_by n (es ++ e ∷ more) ≡ entries_by n es → ⊥
longer_entries n es more e same is =
    let there : entries_by n (e ∷ more) ≡ e ∷ entries_by n more = ap (λ (b : Bool). if b then e ∷ entries_by n more else entries_by n more) (eq-eqb (pass_number e) n same) in
    let whole : entries_by n es ≡ entries_by n es ++ e ∷ entries_by n more = sym is ∙ (entries_append n es (e ∷ more) ∙ ap (λ (xs : List HistoryEntry). entries_by n es ++ xs) there) in
    let lengths : length (entries_by n es) ≡ length (entries_by n es ++ e ∷ entries_by n more) = ap (λ (xs : List HistoryEntry). length xs) whole in
    absurd (omega (arith, length-append (entries_by n es) (e ∷ entries_by n more)))

-- where one pass alone is out and has made no entry since, nothing has come since
pub nothing_since : (s : BoardState) (n : ℕ) (seen rest : List HistoryEntry) → IsLegal s (seen ++ rest) → IsAlone n (board_after s seen) → entries_by n (seen ++ rest) ≡ entries_by n seen → rest ≡ []
nothing_since s n seen [] h alone same = refl
nothing_since s n seen (e ∷ more) h alone same =
    absurd (longer_entries n seen more e (alone (pass_number e) (next_out (board_after s seen) e (legal_at s seen e more h))) same)

pub whole_if_alone : (s : BoardState) (n : ℕ) (seen history : List HistoryEntry) → IsPrefix seen history → IsLegal s history → IsAlone n (board_after s seen) → entries_by n history ≡ entries_by n seen → history ≡ seen
whole_if_alone s n seen history p h alone same =
    let none : p.0 ≡ [] = nothing_since s n seen p.0 (subst (λ (xs : List HistoryEntry). IsLegal s xs) (sym p.1) h) alone (ap (λ (xs : List HistoryEntry). entries_by n xs) p.1 ∙ same) in
    sym p.1 ∙ (ap (λ (xs : List HistoryEntry). seen ++ xs) none ∙ nothing_more seen)
