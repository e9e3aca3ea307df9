-- What holds of an event that a line is read as: names are names, and numbers are within their limits.
use Rattle.std.proofs.Common.{ℕ, ◌≡◌, ◌-◌, ◌^◌, ◌≤◌, List, [], ◌∷◌, Option, Some, None, Result, Ok, Err, Bool, true, cond, eqb, ◌&&◌, refl, subst, arith}
use Rattle.std.specs.Prelude.{⊤, nat_le, codes}
use Rattle.std.specs.Str.{bytes_eq}
use Rattle.std.specs.Option.{option_and_then, option_or}
use Rattle.std.proofs.lemmas.Bool.{cond_both, leb-true, and_parts}
use Rattle.farm_kinds.specs.declared.events.Event.{Event}
use Rattle.farm_kinds.specs.declared.events.Event.TheVariants as event
use Rattle.farm_kinds.specs.declared.events.LineFault.{LineFault}
use Rattle.farm_kinds.specs.Names.{is_name, name_read, jury}
use Rattle.farm_kinds.specs.Kinds.{kind_named}
use Rattle.farm_model.specs.Words.{words}
use Rattle.farm_model.specs.Numbers.{number_of, whole_of, at_most, before_all, all_numbers, comma_parts, list_of}
use Rattle.farm_model.specs.Grammar.{◌>>=◌, problem_line, replace_line, rejudge_line, number_line, name_line, submit_words, submit_line, result_line, record_line, if_batch, batch_of, fetch_line, renew_line, tick_line, bare_line, jury_event_of, host_event_of, other_event_of, unnamed_event_of, named_event_of, event_of, is_comment, event_or_bad, read_of_words, line_read}

abbrev pub IsName : List ℕ → Type 0
IsName word = is_name word ≡ true

abbrev pub IsNumber : ℕ → Type 0
IsNumber n = n ≤ 4294967295

abbrev pub AreNumbers : List ℕ → Type 0
AreNumbers [] = ⊤
AreNumbers (n ∷ ns) = IsNumber n × AreNumbers ns

abbrev pub IsReadable : Event → Type 0
IsReadable (event.Problem who name tests) = IsName who × IsName name × IsNumber tests
IsReadable (event.Replace who name tests) = IsName who × IsName name × IsNumber tests
IsReadable (event.Host name) = IsName name
IsReadable (event.Submit problem class broken) = IsName problem
IsReadable (event.Claim host) = IsName host
IsReadable (event.Fetch host most) = IsName host × (1 ≤ most) × (most ≤ 16)
IsReadable (event.Result host j test kind) = IsName host × IsNumber j × IsNumber test
IsReadable (event.Entry j test kind) = IsNumber j × IsNumber test
IsReadable (event.Renew host j test) = IsName host × IsNumber j × IsNumber test
IsReadable (event.Tick moment) = moment ≤ 10 ^ 18 - 1
IsReadable (event.Down host) = IsName host
IsReadable (event.Show j) = IsNumber j
IsReadable (event.Owner j) = IsNumber j
IsReadable event.Board = ⊤
IsReadable (event.Rejudge who list) = IsName who × AreNumbers list
IsReadable (event.Matrix r) = IsNumber r
IsReadable (event.Apply who r) = IsName who × IsNumber r
IsReadable (event.Cancel who r) = IsName who × IsNumber r
IsReadable (event.Verify who j) = IsName who × IsNumber j
IsReadable (event.Ask who j) = IsName who × IsNumber j
IsReadable event.Audit = ⊤

abbrev IfRead : Option Event → Type 0
IfRead None = ⊤
IfRead (Some e) = IsReadable e

-- Steps of a line

after : {A : Type 0} (o : Option A) (f : A → Option Event) → ((x : A) → IfRead (f x)) → IfRead (o >>= f)
after None f each = tt
after (Some x) f each = each x

after_name : (word : List ℕ) (f : List ℕ → Option Event) → (IsName word → IfRead (f word)) → IfRead (name_read word >>= f)
after_name word f each =
    cond_both (is_name word) (Some word) None (λ (o : Option (List ℕ)). IfRead (o >>= f)) each (λ no. tt)

after_limit : (limit : ℕ) (whole : Option ℕ) (f : ℕ → Option Event) → ((n : ℕ) → n ≤ limit → IfRead (f n)) → IfRead (option_and_then (at_most limit) whole >>= f)
after_limit limit None f each = tt
after_limit limit (Some n) f each =
    cond_both (nat_le n limit) (Some n) None (λ (o : Option ℕ). IfRead (o >>= f)) (λ within. each n (leb-true n limit within)) (λ no. tt)

after_number : (word : List ℕ) (f : ℕ → Option Event) → ((n : ℕ) → IsNumber n → IfRead (f n)) → IfRead (number_of word >>= f)
after_number word f each = after_limit 4294967295 (whole_of word) f each

-- Lists

abbrev IfNumbers : Option (List ℕ) → Type 0
IfNumbers None = ⊤
IfNumbers (Some ns) = AreNumbers ns

number_before : (n : ℕ) (others : Option (List ℕ)) → IsNumber n → IfNumbers others → IfNumbers (before_all (Some n) others)
number_before n None small h = tt
number_before n (Some ns) small h = (small, h)

first_of_list : (limit : ℕ) (whole : Option ℕ) (others : Option (List ℕ)) → limit ≤ 4294967295 → IfNumbers others → IfNumbers (before_all (option_and_then (at_most limit) whole) others)
first_of_list limit None others low h = tt
first_of_list limit (Some n) others low h =
    cond_both (nat_le n limit) (Some n) None (λ (o : Option ℕ). IfNumbers (before_all o others)) (λ within. number_before n others (omega (arith, leb-true n limit within)) h) (λ no. tt)

numbers_read : (parts : List (List ℕ)) → IfNumbers (all_numbers parts)
numbers_read [] = tt
numbers_read (part ∷ parts) = first_of_list 4294967295 (whole_of part) (all_numbers parts) (omega arith) (numbers_read parts)

after_list : (read : Option (List ℕ)) (f : List ℕ → Option Event) → IfNumbers read → ((ns : List ℕ) → AreNumbers ns → IfRead (f ns)) → IfRead (read >>= f)
after_list None f h each = tt
after_list (Some ns) f h each = each ns h

-- Lines

problem_reads : (who : List ℕ) → IsName who → (ws : List (List ℕ)) → IfRead (problem_line who ws)
problem_reads who named [] = tt
problem_reads who named (name ∷ []) = tt
problem_reads who named (name ∷ tests ∷ []) =
    after_name name (λ n. number_of tests >>= (λ t. Some (event.Problem who n t))) (λ is.
    after_number tests (λ t. Some (event.Problem who name t)) (λ t small. (named, is, small)))
problem_reads who named (name ∷ tests ∷ more ∷ ws) = tt

replace_reads : (who : List ℕ) → IsName who → (ws : List (List ℕ)) → IfRead (replace_line who ws)
replace_reads who named [] = tt
replace_reads who named (name ∷ []) = tt
replace_reads who named (name ∷ tests ∷ []) =
    after_name name (λ n. number_of tests >>= (λ t. Some (event.Replace who n t))) (λ is.
    after_number tests (λ t. Some (event.Replace who name t)) (λ t small. (named, is, small)))
replace_reads who named (name ∷ tests ∷ more ∷ ws) = tt

name_reads : (e : List ℕ → Event) → ((name : List ℕ) → IsName name → IsReadable (e name)) → (ws : List (List ℕ)) → IfRead (name_line e ws)
name_reads e each [] = tt
name_reads e each (name ∷ []) = after_name name (λ n. Some (e n)) (each name)
name_reads e each (name ∷ more ∷ ws) = tt

submit_reads : (ws : List (List ℕ)) → IfRead (submit_line ws)
submit_reads [] = tt
submit_reads (name ∷ ws) =
    after_name name (λ n. submit_words ws >>= (λ said. Some (event.Submit n said.0 said.1))) (λ is.
    after (submit_words ws) (λ said. Some (event.Submit name said.0 said.1)) (λ said. is))

result_reads : (ws : List (List ℕ)) → IfRead (result_line ws)
result_reads [] = tt
result_reads (host ∷ []) = tt
result_reads (host ∷ judging ∷ []) = tt
result_reads (host ∷ judging ∷ test ∷ []) = tt
result_reads (host ∷ judging ∷ test ∷ kind ∷ []) =
    after_name host (λ h. number_of judging >>= (λ j. number_of test >>= (λ t. kind_named kind >>= (λ k. Some (event.Result h j t k))))) (λ is.
    after_number judging (λ j. number_of test >>= (λ t. kind_named kind >>= (λ k. Some (event.Result host j t k)))) (λ j j_small.
    after_number test (λ t. kind_named kind >>= (λ k. Some (event.Result host j t k))) (λ t t_small.
    after (kind_named kind) (λ k. Some (event.Result host j t k)) (λ k. (is, j_small, t_small)))))
result_reads (host ∷ judging ∷ test ∷ kind ∷ more ∷ ws) = tt

record_reads : (ws : List (List ℕ)) → IfRead (record_line ws)
record_reads [] = tt
record_reads (judging ∷ []) = tt
record_reads (judging ∷ test ∷ []) = tt
record_reads (judging ∷ test ∷ kind ∷ []) =
    after_number judging (λ j. number_of test >>= (λ t. kind_named kind >>= (λ k. Some (event.Entry j t k)))) (λ j j_small.
    after_number test (λ t. kind_named kind >>= (λ k. Some (event.Entry j t k))) (λ t t_small.
    after (kind_named kind) (λ k. Some (event.Entry j t k)) (λ k. (j_small, t_small))))
record_reads (judging ∷ test ∷ kind ∷ more ∷ ws) = tt

if_batch_reads : (n : ℕ) (f : ℕ → Option Event) → ((m : ℕ) → 1 ≤ m → m ≤ 16 → IfRead (f m)) → IfRead (if_batch n >>= f)
if_batch_reads n f each =
    cond_both (nat_le 1 n && nat_le n 16) (Some n) None (λ (o : Option ℕ). IfRead (o >>= f))
    (λ within. let both = and_parts (nat_le 1 n) (nat_le n 16) within in each n (leb-true 1 n both.0) (leb-true n 16 both.1)) (λ no. tt)

after_batch : (word : List ℕ) (f : ℕ → Option Event) → ((n : ℕ) → 1 ≤ n → n ≤ 16 → IfRead (f n)) → IfRead (batch_of word >>= f)
after_batch word f each = elim (number_of word) as (λ o. IfRead ((o >>= if_batch) >>= f)) [ None ↦ tt | Some n ↦ if_batch_reads n f each ]

fetch_reads : (ws : List (List ℕ)) → IfRead (fetch_line ws)
fetch_reads [] = tt
fetch_reads (host ∷ []) = tt
fetch_reads (host ∷ most ∷ []) =
    after_name host (λ h. batch_of most >>= (λ b. Some (event.Fetch h b))) (λ is.
    after_batch most (λ b. Some (event.Fetch host b)) (λ b some few. (is, some, few)))
fetch_reads (host ∷ most ∷ more ∷ ws) = tt

renew_reads : (ws : List (List ℕ)) → IfRead (renew_line ws)
renew_reads [] = tt
renew_reads (host ∷ []) = tt
renew_reads (host ∷ judging ∷ []) = tt
renew_reads (host ∷ judging ∷ test ∷ []) =
    after_name host (λ h. number_of judging >>= (λ j. number_of test >>= (λ t. Some (event.Renew h j t)))) (λ is.
    after_number judging (λ j. number_of test >>= (λ t. Some (event.Renew host j t))) (λ j j_small.
    after_number test (λ t. Some (event.Renew host j t)) (λ t t_small. (is, j_small, t_small))))
renew_reads (host ∷ judging ∷ test ∷ more ∷ ws) = tt

tick_reads : (ws : List (List ℕ)) → IfRead (tick_line ws)
tick_reads [] = tt
tick_reads (moment ∷ []) = after_limit (10 ^ 18 - 1) (whole_of moment) (λ m. Some (event.Tick m)) (λ m small. small)
tick_reads (moment ∷ more ∷ ws) = tt

number_reads : (e : ℕ → Event) → ((n : ℕ) → IsNumber n → IsReadable (e n)) → (ws : List (List ℕ)) → IfRead (number_line e ws)
number_reads e each [] = tt
number_reads e each (number ∷ []) = after_number number (λ n. Some (e n)) each
number_reads e each (number ∷ more ∷ ws) = tt

rejudge_reads : (who : List ℕ) → IsName who → (ws : List (List ℕ)) → IfRead (rejudge_line who ws)
rejudge_reads who named [] = (named, tt)
rejudge_reads who named (list ∷ []) = after_list (list_of list) (λ ns. Some (event.Rejudge who ns)) (numbers_read (comma_parts list)) (λ ns small. (named, small))
rejudge_reads who named (list ∷ more ∷ ws) = tt

bare_reads : (e : Event) → IsReadable e → (ws : List (List ℕ)) → IfRead (bare_line e ws)
bare_reads e h [] = h
bare_reads e h (more ∷ ws) = tt

-- Words that begin a line

or_else : (b : Bool) (x y : Option Event) → IfRead x → IfRead y → IfRead (cond b x y)
or_else b x y p q = cond_both b x y IfRead (λ _. p) (λ _. q)

host_event_reads : (word : List ℕ) (ws : List (List ℕ)) → IfRead (host_event_of word ws)
host_event_reads word ws =
    or_else (bytes_eq word (codes "host")) _ _ (name_reads event.Host (λ n is. is) ws)
    (or_else (bytes_eq word (codes "claim")) _ _ (name_reads event.Claim (λ n is. is) ws)
    (or_else (bytes_eq word (codes "fetch")) _ _ (fetch_reads ws)
    (or_else (bytes_eq word (codes "result")) _ _ (result_reads ws)
    (or_else (bytes_eq word (codes "renew")) _ _ (renew_reads ws)
    (or_else (bytes_eq word (codes "down")) (name_line event.Down ws) None (name_reads event.Down (λ n is. is) ws) tt)))))

jury_event_reads : (who : List ℕ) → IsName who → (word : List ℕ) (ws : List (List ℕ)) → IfRead (jury_event_of who word ws)
jury_event_reads who named word ws =
    or_else (bytes_eq word (codes "problem")) _ _ (problem_reads who named ws)
    (or_else (bytes_eq word (codes "replace")) _ _ (replace_reads who named ws)
    (or_else (bytes_eq word (codes "rejudge")) _ _ (rejudge_reads who named ws)
    (or_else (bytes_eq word (codes "apply")) _ _ (number_reads (event.Apply who) (λ n small. (named, small)) ws)
    (or_else (bytes_eq word (codes "cancel")) _ _ (number_reads (event.Cancel who) (λ n small. (named, small)) ws)
    (or_else (bytes_eq word (codes "verify")) _ _ (number_reads (event.Verify who) (λ n small. (named, small)) ws)
    (or_else (bytes_eq word (codes "ask")) (number_line (event.Ask who) ws) None (number_reads (event.Ask who) (λ n small. (named, small)) ws) tt))))))

other_event_reads : (word : List ℕ) (ws : List (List ℕ)) → IfRead (other_event_of word ws)
other_event_reads word ws =
    or_else (bytes_eq word (codes "submit")) _ _ (submit_reads ws)
    (or_else (bytes_eq word (codes "record")) _ _ (record_reads ws)
    (or_else (bytes_eq word (codes "tick")) _ _ (tick_reads ws)
    (or_else (bytes_eq word (codes "show")) _ _ (number_reads event.Show (λ n small. small) ws)
    (or_else (bytes_eq word (codes "owner")) _ _ (number_reads event.Owner (λ n small. small) ws)
    (or_else (bytes_eq word (codes "board")) _ _ (bare_reads event.Board tt ws)
    (or_else (bytes_eq word (codes "matrix")) _ _ (number_reads event.Matrix (λ n small. small) ws)
    (or_else (bytes_eq word (codes "audit")) (bare_line event.Audit ws) None (bare_reads event.Audit tt ws) tt)))))))

first_or_second : (first second : Option Event) → IfRead first → IfRead second → IfRead (option_or first second)
first_or_second None second p q = q
first_or_second (Some e) second p q = p

unnamed_event_reads : (word : List ℕ) (ws : List (List ℕ)) → IfRead (unnamed_event_of word ws)
unnamed_event_reads word ws =
    first_or_second (jury_event_of jury word ws) _ (jury_event_reads jury refl word ws)
    (first_or_second (host_event_of word ws) (other_event_of word ws) (host_event_reads word ws) (other_event_reads word ws))

named_event_reads : (name : List ℕ) (ws : List (List ℕ)) → IfRead (named_event_of name ws)
named_event_reads name [] = tt
named_event_reads name (word ∷ ws) = after_name name (λ who. jury_event_of who word ws) (λ named. jury_event_reads name named word ws)

event_reads : (word : List ℕ) (ws : List (List ℕ)) → IfRead (event_of word ws)
event_reads [] ws = tt
event_reads (b ∷ bs) ws = or_else (eqb b 64) _ _ (named_event_reads bs ws) (unnamed_event_reads (b ∷ bs) ws)

abbrev IfOkRead : Result (Option Event) LineFault → Type 0
IfOkRead (Ok read) = IfRead read
IfOkRead (Err f) = ⊤

event_or_bad_reads : (o : Option Event) → IfRead o → IfOkRead (event_or_bad o)
event_or_bad_reads None h = tt
event_or_bad_reads (Some e) h = h

words_read : (ws : List (List ℕ)) → IfOkRead (read_of_words ws)
words_read [] = tt
words_read (word ∷ ws) =
    cond_both (is_comment word) (Ok None) (event_or_bad (event_of word ws)) IfOkRead (λ _. tt) (λ _. event_or_bad_reads (event_of word ws) (event_reads word ws))

pub IsReadable-from_line : (line : List ℕ) (e : Event) → line_read line ≡ Ok (Some e) → IsReadable e
IsReadable-from_line line e h = subst IfOkRead h (words_read (words line))
