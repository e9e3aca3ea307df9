-- What callers of a board know of its whole history: the entries of a number stay as they were once its pass was joined,
-- and what holds of the entries of each number holds of all.
use Rattle.std.proofs.Common.{◌≡◌, ◌≢◌, ℕ, ◌≤◌, ◌||◌, Bool, true, false, List, [], ◌∷◌, ◌++◌, eqb, refl, sym, ap, ◌∙◌, subst, ⊎_elim, arith, append_assoc, append-nil, eq-eqb, eqb-true, ne_eqb}
use Rattle.std.specs.Prelude.{if◌then◌else◌, All}
use Rattle.std.proofs.lemmas.List.Elements.{All-nil, All-cons, All-head, All-tail}
use Rattle.farm_board.specs.BoardState.{BoardState}
use Rattle.farm_board.specs.Histories.{is_no_memory, is_in, pass_number, without, IsOut, IsNext, IsLegal, IsOpening, next_board, board_after, entries_by, call_unless, effective_calls, OutWereGiven, IsOutWithin, GivesAtMost, IsGone}
use Rattle.farm_board.specs.Passes.{PassValue, GrowsBy, TakesIn, IsJoined}
use Rattle.farm_board.specs.declared.entries.Call.{Call}
use Rattle.farm_board.specs.declared.entries.HistoryEntry.{HistoryEntry}
use Rattle.farm_board.specs.declared.entries.HistoryEntry.TheVariants as entry
use Rattle.farm_board.proofs.Numbers.{in_either, in_from, in_later}
use Rattle.farm_board.proofs.Views.{none_turn}
use Rattle.farm_board.proofs.Histories.{after_call_out, after_call_given, next_out, given_next_board, given_opening, entries_append, legal_at, legal_prefix, legal_rest, board_after_snoc, board_after_append}

-- Distinct numbers

abbrev IsDistinct : List ℕ → Type 0
IsDistinct [] = Unit {0}
IsDistinct (x ∷ xs) = (is_in x xs ≡ false) × IsDistinct xs

not_in : (n : ℕ) (xs : List ℕ) → (is_in n xs ≡ true → ⊥) → is_in n xs ≡ false
not_in n xs h = none_turn (is_in n xs) h

in_both : {A : Type 0} (n : ℕ) (xs : List ℕ) → is_in n xs ≡ false → is_in n xs ≡ true → A
in_both n xs off on = let both : false ≡ true = sym off ∙ on in absurd (cc both)

distinct_end : (n : ℕ) (xs : List ℕ) → IsDistinct xs → is_in n xs ≡ false → IsDistinct (xs ++ n ∷ [])
distinct_end n [] h other = (refl, tt)
distinct_end n (x ∷ xs) h other = (
  not_in x (xs ++ n ∷ []) (λ is. ⊎_elim (λ there. in_both x xs h.0 there)
      (λ (same : x ≡ n). in_both n (x ∷ xs) other (ap (λ (b : Bool). b || is_in n xs) (eq-eqb n x (sym same)))) (in_either x n xs is)),
  distinct_end n xs h.1 (not_in n xs (λ there. in_both n (x ∷ xs) other (in_later n x xs there))),
)

distinct_cond : (b : Bool) (n x : ℕ) (xs : List ℕ) → is_in x xs ≡ false → IsDistinct xs → IsDistinct (without n xs) → IsDistinct (if b then xs else x ∷ without n xs)
distinct_cond true n x xs other h rest = h
distinct_cond false n x xs other h rest = (not_in x (without n xs) (λ there. in_both x xs other (in_from x n xs there)), rest)

distinct_without : (n : ℕ) (xs : List ℕ) → IsDistinct xs → IsDistinct (without n xs)
distinct_without n [] h = tt
distinct_without n (x ∷ xs) h = distinct_cond (eqb n x) n x xs h.0 h.1 (distinct_without n xs h.1)

gone_cond : (b : Bool) (n x : ℕ) (xs : List ℕ) → eqb n x ≡ b → is_in x xs ≡ false → is_in n (without n xs) ≡ false → is_in n (if b then xs else x ∷ without n xs) ≡ false
gone_cond true n x xs same other rest = ap (λ (m : ℕ). is_in m xs) (eqb-true n x same) ∙ other
gone_cond false n x xs same other rest = ap (λ (b : Bool). b || is_in n (without n xs)) same ∙ rest

gone_without : (n : ℕ) (xs : List ℕ) → IsDistinct xs → is_in n (without n xs) ≡ false
gone_without n [] h = refl
gone_without n (x ∷ xs) h = gone_cond (eqb n x) n x xs refl h.0 (gone_without n xs h.1)

-- The numbers that are out

-- each was given, and none stands there twice
record IsProper (s : BoardState) : Type 0 where
  given : OutWereGiven s
  distinct : IsDistinct s.out

proper_opening : (s : BoardState) → IsOpening s → IsProper s
proper_opening s o = record { given = given_opening s o; distinct = subst (λ (xs : List ℕ). IsDistinct xs) (sym o.out) (refl, tt) }

distinct_next : (s : BoardState) (e : HistoryEntry) → IsNext s e → IsProper s → IsDistinct (next_board s e).out
distinct_next s (entry.Call call) next p = subst (λ (xs : List ℕ). IsDistinct xs) (sym (after_call_out (is_no_memory call.reply) s call)) p.distinct
distinct_next s (entry.Split number new) next p = distinct_end new s.out p.distinct (not_in new s.out (λ is. let q = p.given new is in let new_is = next.2 in absurd (omega arith)))
distinct_next s (entry.Join number old) next p = distinct_without old s.out p.distinct

proper_next : (s : BoardState) (e : HistoryEntry) → IsNext s e → IsProper s → IsProper (next_board s e)
proper_next s e next p = record { given = given_next_board s e next p.given; distinct = distinct_next s e next p }

proper_after : (s : BoardState) (es : List HistoryEntry) → IsLegal s es → IsProper s → IsProper (board_after s es)
proper_after s [] legal p = p
proper_after s (e ∷ es) legal p = proper_after (next_board s e) es legal.1 (proper_next s e legal.0 p)

-- Numbers that are gone

gone_other : (n : ℕ) (s : BoardState) (e : HistoryEntry) → IsNext s e → IsGone n s → pass_number e ≢ n
gone_other n s e next gone same = in_both n s.out gone.out (subst (λ (m : ℕ). IsOut m s) same (next_out s e next))

gone_next : (n : ℕ) (s : BoardState) (e : HistoryEntry) → IsNext s e → IsGone n s → IsGone n (next_board s e)
gone_next n s (entry.Call call) next gone = record {
  given = (let same = after_call_given (is_no_memory call.reply) s call in let q = gone.given in omega arith);
  out = ap (λ (xs : List ℕ). is_in n xs) (after_call_out (is_no_memory call.reply) s call) ∙ gone.out;
}
gone_next n s (entry.Split number new) next gone = let q = gone.given in let new_is = next.2 in record {
  given = omega arith;
  out = not_in n (s.out ++ new ∷ []) (λ is. ⊎_elim (λ there. in_both n s.out gone.out there) (λ (same : n ≡ new). absurd (omega arith)) (in_either n new s.out is));
}
gone_next n s (entry.Join number old) next gone = record {
  given = gone.given;
  out = not_in n (without old s.out) (λ is. in_both n s.out gone.out (in_from n old s.out is));
}

gone_after : (n : ℕ) (s : BoardState) (es : List HistoryEntry) → IsLegal s es → IsGone n s → IsGone n (board_after s es)
gone_after n s [] legal gone = gone
gone_after n s (e ∷ es) legal gone = gone_after n (next_board s e) es legal.1 (gone_next n s e legal.0 gone)

none_cond : (b : Bool) (e : HistoryEntry) (xs : List HistoryEntry) → b ≡ false → (if b then e ∷ xs else xs) ≡ xs
none_cond true e xs is = absurd (cc is)
none_cond false e xs is = refl

gone_entries : (n : ℕ) (s : BoardState) (es : List HistoryEntry) → IsLegal s es → IsGone n s → entries_by n es ≡ []
gone_entries n s [] legal gone = refl
gone_entries n s (e ∷ es) legal gone =
    none_cond (eqb (pass_number e) n) e (entries_by n es) (ne_eqb (pass_number e) n (gone_other n s e legal.0 gone)) ∙ gone_entries n (next_board s e) es legal.1 (gone_next n s e legal.0 gone)

-- What a pass knows of the passes that were joined

-- the entries that come after a number is gone are not its own
gone_since : (n : ℕ) (s : BoardState) (es rest : List HistoryEntry) → IsLegal s (es ++ rest) → IsGone n (board_after s es) → IsGone n (board_after s (es ++ rest)) × (entries_by n (es ++ rest) ≡ entries_by n es)
gone_since n s es rest legal gone =
    let later = legal_rest s es rest legal in (
      subst (λ (z : BoardState). IsGone n z) (sym (board_after_append s es rest)) (gone_after n (board_after s es) rest later gone),
      entries_append n es rest ∙ (ap (λ (xs : List HistoryEntry). entries_by n es ++ xs) (gone_entries n (board_after s es) rest later gone) ∙ append-nil (entries_by n es)),
    )

joined_since : (n : ℕ) (old new : PassValue) (its rest : List HistoryEntry) → new.start ≡ old.start → new.seen ≡ old.seen ++ rest → IsLegal old.start new.seen → IsJoined n old its → IsJoined n new its
joined_since n old new its rest start seen legal was =
    let q = gone_since n old.start old.seen rest (subst (λ (es : List HistoryEntry). IsLegal old.start es) seen legal) was.gone in record {
      gone = subst (λ (z : BoardState × List HistoryEntry). IsGone n (board_after z.0 z.1)) (λ i. (sym start i, sym seen i)) q.0;
      entries = ap (λ (es : List HistoryEntry). entries_by n es) seen ∙ (q.1 ∙ was.entries);
    }

-- a pass that was joined stays so
pub joined_grows : (n : ℕ) (old new : PassValue) (e : HistoryEntry) (its : List HistoryEntry) → GrowsBy old new e → IsJoined n old its → IsJoined n new its
joined_grows n old new e its g was = joined_since n old new its (g.between ++ e ∷ []) g.start (g.seen ∙ append_assoc old.seen g.between (e ∷ [])) g.legal was

pub joined_joins : (n : ℕ) (old other new : PassValue) (its : List HistoryEntry) → TakesIn old other new → IsJoined n old its → IsJoined n new its
joined_joins n old other new its t was =
    let e : HistoryEntry = entry.Join old.number other.number in
    joined_since n old new its (t.begins.0 ++ e ∷ []) t.start
    (t.seen ∙ (ap (λ (es : List HistoryEntry). es ++ e ∷ []) (sym t.begins.1) ∙ append_assoc old.seen t.begins.0 (e ∷ []))) t.legal was

gone_join : (s : BoardState) (n old : ℕ) → IsProper s → IsNext s (entry.Join n old) → IsGone old (next_board s (entry.Join n old))
gone_join s n old p next = record { given = p.given old next.1; out = gone_without old s.out p.distinct }

-- the pass that was taken in is joined from then on
pub joins : (old other new : PassValue) → IsOpening old.start → TakesIn old other new → IsJoined other.number new other.mine
joins old other new o t =
    let e : HistoryEntry = entry.Join old.number other.number in
    let legal : IsLegal old.start (t.before ++ e ∷ []) = subst (λ (es : List HistoryEntry). IsLegal old.start es) t.seen t.legal in
    let now = board_after old.start t.before in
    let p = proper_after old.start t.before (legal_prefix old.start t.before (e ∷ []) legal) (proper_opening old.start o) in
    let next = legal_at old.start t.before e [] legal in record {
      gone = subst (λ (z : BoardState × List HistoryEntry). IsGone other.number (board_after z.0 z.1)) (λ i. (sym t.start i, sym t.seen i))
          (subst (λ (z : BoardState). IsGone other.number z) (sym (board_after_snoc old.start t.before e)) (gone_join now old.number other.number p next));
      entries = t.other_own;
    }

-- What holds of all entries

within_next : (k : ℕ) (s : BoardState) (e : HistoryEntry) → IsOutWithin k s → GivesAtMost k e → IsOutWithin k (next_board s e)
within_next k s (entry.Call call) h g n out = h n (ap (λ (xs : List ℕ). is_in n xs) (sym (after_call_out (is_no_memory call.reply) s call)) ∙ out)
within_next k s (entry.Split number new) h g n out = ⊎_elim (λ t. h n t) (λ (t : n ≡ new). subst (λ (z : ℕ). z ≤ k) (sym t) g) (in_either n new s.out out)
within_next k s (entry.Join number old) h g n out = h n (in_from n old s.out out)

each_later : (Q : HistoryEntry → Type 0) (b : Bool) (e : HistoryEntry) (es : List HistoryEntry) → All Q (if b then e ∷ es else es) → All Q es
each_later Q true e es h = All-tail Q e es h
each_later Q false e es h = h

each_here : (Q : HistoryEntry → Type 0) (b : Bool) (e : HistoryEntry) (es : List HistoryEntry) → b ≡ true → All Q (if b then e ∷ es else es) → Q e
each_here Q true e es is h = All-head Q e es h
each_here Q false e es is h = absurd (cc is)

-- Where no number above k is out at first, and the entries of each number up to k meet P and give no number above k, all
-- entries meet P: whoever made an entry was out, so its number is not above k either.
pub each_entry : (P : HistoryEntry → Type 0) (k : ℕ) (s : BoardState) (es : List HistoryEntry) → IsLegal s es → IsOutWithin k s
    → ((n : ℕ) → n ≤ k → All (λ e. P e × GivesAtMost k e) (entries_by n es)) → All P es
each_entry P k s [] legal within each = All-nil P
each_entry P k s (e ∷ es) legal within each =
    let Q : HistoryEntry → Type 0 = λ x. P x × GivesAtMost k x in
    let n = pass_number e in
    let here : Q e = each_here Q (eqb n n) e (entries_by n es) (eq-eqb n n (λ _. n)) (each n (within n (next_out s e legal.0))) in
    All-cons P e es here.0 (each_entry P k (next_board s e) es legal.1 (within_next k s e within here.1) (λ m few. each_later Q (eqb n m) e (entries_by m es) (each m few)))

call_here : (Q : Call → Type 0) (b : Bool) (call : Call) (calls : List Call) → Q call → All Q calls → All Q (call_unless b call calls)
call_here Q true call calls here h = h
call_here Q false call calls here h = All-cons Q call calls here h

-- what holds of all calls of a history holds of those that took effect
pub each_call : (Q : Call → Type 0) (es : List HistoryEntry) → All (λ e. (call : Call) → e ≡ entry.Call call → Q call) es → All Q (effective_calls es)
each_call Q [] h = All-nil Q
each_call Q (entry.Call call ∷ es) h =
    let P : HistoryEntry → Type 0 = λ e. (c : Call) → e ≡ entry.Call c → Q c in
    call_here Q (is_no_memory call.reply) call (effective_calls es) (All-head P (entry.Call call) es h call refl) (each_call Q es (All-tail P (entry.Call call) es h))
each_call Q (entry.Split number new ∷ es) h = each_call Q es (All-tail (λ (e : HistoryEntry). (c : Call) → e ≡ entry.Call c → Q c) (entry.Split number new) es h)
each_call Q (entry.Join number old ∷ es) h = each_call Q es (All-tail (λ (e : HistoryEntry). (c : Call) → e ≡ entry.Call c → Q c) (entry.Join number old) es h)
