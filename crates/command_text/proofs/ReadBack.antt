-- An event that a line may give is written as a line that gives it.
use Rattle.std.proofs.Common.{ℕ, ◌≡◌, ◌-◌, ◌^◌, ◌≤◌, List, [], ◌∷◌, ◌++◌, Option, Some, None, Ok, Bool, true, false, cond, refl, sym, ap, ◌∙◌, arith}
use Rattle.std.specs.Prelude.{codes, nat_le}
use Rattle.std.specs.Fmt.{decimal}
use Rattle.std.specs.Option.{option_or}
use Rattle.std.specs.Str.{bytes_eq}
use Rattle.std.proofs.lemmas.Bool.{cond-true, le-leb, and_from}
use Rattle.std.proofs.lemmas.Slice.Eq.{bytes_eq-Decides}
use Rattle.farm_kinds.specs.declared.events.Event.{Event}
use Rattle.farm_kinds.specs.declared.events.Event.TheVariants as event
use Rattle.farm_kinds.specs.declared.kinds.Kind.{Kind}
use Rattle.farm_kinds.specs.declared.kinds.Kind.TheVariants.{Correct, WrongAnswer, RunError, TimeLimit, NoOutput, OutputLimit, MemoryLimit, JudgingError}
use Rattle.farm_kinds.specs.declared.outcomes.Class.{Class}
use Rattle.farm_kinds.specs.declared.outcomes.Class.TheVariants.{High, Normal, Low}
use Rattle.farm_kinds.specs.Names.{is_name, name_read, jury}
use Rattle.farm_kinds.specs.Kinds.{name_of, kind_named}
use Rattle.farm_model.specs.Numbers.{number_of, moment_of}
use Rattle.farm_model.specs.Grammar.{◌>>=◌, problem_line, replace_line, rejudge_line, number_line, name_line, submit_words, submit_line, result_line, record_line, if_batch, batch_of, fetch_line, renew_line, tick_line, jury_event_of, host_event_of, other_event_of, unnamed_event_of, event_or_bad, read_of_words, line_read}
use Rattle.farm_model.specs.Texts.{class_words, image_words, list_words, event_words, actor_of, actor_words, event_text}
use Rattle.command_text.proofs.Tokens.{IsToken, AreTokens, token-name, words_joined}
use Rattle.command_text.proofs.Decimals.{number_of-decimal, moment_of-decimal, token-decimal}
use Rattle.command_text.proofs.ListsBack.{list_back, token-list}
use Rattle.command_text.proofs.Readable.{IsName, IsNumber, AreNumbers, IsReadable, IsReadable-from_line}

-- Words

name_back : (name : List ℕ) → IsName name → name_read name ≡ Some name
name_back name is = cond-true (is_name name) (Some name) None is

kind_back : (k : Kind) → kind_named (name_of k) ≡ Some k
kind_back Correct = refl
kind_back WrongAnswer = refl
kind_back RunError = refl
kind_back TimeLimit = refl
kind_back NoOutput = refl
kind_back OutputLimit = refl
kind_back MemoryLimit = refl
kind_back JudgingError = refl

kind_token : (k : Kind) → IsToken (name_of k)
kind_token Correct = token-name (codes "correct") refl
kind_token WrongAnswer = token-name (codes "wrong-answer") refl
kind_token RunError = token-name (codes "run-error") refl
kind_token TimeLimit = token-name (codes "timelimit") refl
kind_token NoOutput = token-name (codes "no-output") refl
kind_token OutputLimit = token-name (codes "output-limit") refl
kind_token MemoryLimit = token-name (codes "memory-limit") refl
kind_token JudgingError = token-name (codes "judging-error") refl

said_back : (class : Class) (broken : Bool) → submit_words (class_words class ++ image_words broken) ≡ Some (class, broken)
said_back High true = refl
said_back High false = refl
said_back Normal true = refl
said_back Normal false = refl
said_back Low true = refl
said_back Low false = refl

said_tokens : (class : Class) (broken : Bool) → AreTokens (class_words class ++ image_words broken)
said_tokens High true = (token-name (codes "high") refl, (token-name (codes "broken") refl, tt))
said_tokens High false = (token-name (codes "high") refl, tt)
said_tokens Normal true = (token-name (codes "broken") refl, tt)
said_tokens Normal false = tt
said_tokens Low true = (token-name (codes "low") refl, (token-name (codes "broken") refl, tt))
said_tokens Low false = (token-name (codes "low") refl, tt)

number_token : (n : ℕ) → IsNumber n → IsToken (decimal n)
number_token n small = token-decimal n (omega arith)

-- Lines

-- a step of a line that gives this
step : {A : Type 0} (o : Option A) (x : A) (f : A → Option Event) → o ≡ Some x → (o >>= f) ≡ f x
step o x f h = ap (λ (p : Option _). p >>= f) h

problem_back : (who name : List ℕ) (tests : ℕ) → IsName name → IsNumber tests → problem_line who (name ∷ decimal tests ∷ []) ≡ Some (event.Problem who name tests)
problem_back who name tests is small =
    step (name_read name) name (λ n. number_of (decimal tests) >>= (λ t. Some (event.Problem who n t))) (name_back name is)
    ∙ step (number_of (decimal tests)) tests (λ t. Some (event.Problem who name t)) (number_of-decimal tests small)

replace_back : (who name : List ℕ) (tests : ℕ) → IsName name → IsNumber tests → replace_line who (name ∷ decimal tests ∷ []) ≡ Some (event.Replace who name tests)
replace_back who name tests is small =
    step (name_read name) name (λ n. number_of (decimal tests) >>= (λ t. Some (event.Replace who n t))) (name_back name is)
    ∙ step (number_of (decimal tests)) tests (λ t. Some (event.Replace who name t)) (number_of-decimal tests small)

name_line_back : (e : List ℕ → Event) (name : List ℕ) → IsName name → name_line e (name ∷ []) ≡ Some (e name)
name_line_back e name is = step (name_read name) name (λ n. Some (e n)) (name_back name is)

submit_back : (name : List ℕ) (class : Class) (broken : Bool) → IsName name → submit_line (name ∷ class_words class ++ image_words broken) ≡ Some (event.Submit name class broken)
submit_back name class broken is =
    let ws : List (List ℕ) = class_words class ++ image_words broken in
    step (name_read name) name (λ n. submit_words ws >>= (λ said. Some (event.Submit n said.0 said.1))) (name_back name is)
    ∙ step (submit_words ws) (class, broken) (λ said. Some (event.Submit name said.0 said.1)) (said_back class broken)

result_back : (host : List ℕ) (j t : ℕ) (k : Kind) → IsName host → IsNumber j → IsNumber t → result_line (host ∷ decimal j ∷ decimal t ∷ name_of k ∷ []) ≡ Some (event.Result host j t k)
result_back host j t k is j_small t_small =
    step (name_read host) host (λ h. number_of (decimal j) >>= (λ m. number_of (decimal t) >>= (λ n. kind_named (name_of k) >>= (λ l. Some (event.Result h m n l))))) (name_back host is)
    ∙ step (number_of (decimal j)) j (λ m. number_of (decimal t) >>= (λ n. kind_named (name_of k) >>= (λ l. Some (event.Result host m n l)))) (number_of-decimal j j_small)
    ∙ step (number_of (decimal t)) t (λ n. kind_named (name_of k) >>= (λ l. Some (event.Result host j n l))) (number_of-decimal t t_small)
    ∙ step (kind_named (name_of k)) k (λ l. Some (event.Result host j t l)) (kind_back k)

record_back : (j t : ℕ) (k : Kind) → IsNumber j → IsNumber t → record_line (decimal j ∷ decimal t ∷ name_of k ∷ []) ≡ Some (event.Entry j t k)
record_back j t k j_small t_small =
    step (number_of (decimal j)) j (λ m. number_of (decimal t) >>= (λ n. kind_named (name_of k) >>= (λ l. Some (event.Entry m n l)))) (number_of-decimal j j_small)
    ∙ step (number_of (decimal t)) t (λ n. kind_named (name_of k) >>= (λ l. Some (event.Entry j n l))) (number_of-decimal t t_small)
    ∙ step (kind_named (name_of k)) k (λ l. Some (event.Entry j t l)) (kind_back k)

renew_back : (host : List ℕ) (j t : ℕ) → IsName host → IsNumber j → IsNumber t → renew_line (host ∷ decimal j ∷ decimal t ∷ []) ≡ Some (event.Renew host j t)
renew_back host j t is j_small t_small =
    step (name_read host) host (λ h. number_of (decimal j) >>= (λ m. number_of (decimal t) >>= (λ n. Some (event.Renew h m n)))) (name_back host is)
    ∙ step (number_of (decimal j)) j (λ m. number_of (decimal t) >>= (λ n. Some (event.Renew host m n))) (number_of-decimal j j_small)
    ∙ step (number_of (decimal t)) t (λ n. Some (event.Renew host j n)) (number_of-decimal t t_small)

tick_back : (m : ℕ) → m ≤ 10 ^ 18 - 1 → tick_line (decimal m ∷ []) ≡ Some (event.Tick m)
tick_back m small = step (moment_of (decimal m)) m (λ n. Some (event.Tick n)) (moment_of-decimal m small)

batch_back : (b : ℕ) → 1 ≤ b → b ≤ 16 → batch_of (decimal b) ≡ Some b
batch_back b some few =
    let small : b ≤ 4294967295 = omega arith in
    ap (λ o. o >>= if_batch) (number_of-decimal b small)
    ∙ ap (λ t. cond t (Some b) None) (and_from (nat_le 1 b) (nat_le b 16) (le-leb 1 b some) (le-leb b 16 few))

fetch_back : (host : List ℕ) (b : ℕ) → IsName host → 1 ≤ b → b ≤ 16 → fetch_line (host ∷ decimal b ∷ []) ≡ Some (event.Fetch host b)
fetch_back host b is some few =
    step (name_read host) host (λ h. batch_of (decimal b) >>= (λ m. Some (event.Fetch h m))) (name_back host is)
    ∙ step (batch_of (decimal b)) b (λ m. Some (event.Fetch host m)) (batch_back b some few)

number_line_back : (e : ℕ → Event) (n : ℕ) → IsNumber n → number_line e (decimal n ∷ []) ≡ Some (e n)
number_line_back e n small = step (number_of (decimal n)) n (λ m. Some (e m)) (number_of-decimal n small)

rejudge_back : (who list : List ℕ) → AreNumbers list → rejudge_line who (list_words list) ≡ Some (event.Rejudge who list)
rejudge_back who [] small = refl
rejudge_back who (n ∷ ns) small = step _ (n ∷ ns) (λ ms. Some (event.Rejudge who ms)) (list_back n ns small)

-- Who acts

-- the words behind who acts, where that is written
by_actor : (unsaid : Bool) (who : List ℕ) (ws : List (List ℕ)) (e : Event) → (unsaid ≡ true → read_of_words ws ≡ Ok (Some e)) → read_of_words ((64 ∷ who) ∷ ws) ≡ Ok (Some e)
    → read_of_words (cond unsaid [] ((64 ∷ who) ∷ []) ++ ws) ≡ Ok (Some e)
by_actor true who ws e plain named = plain refl
by_actor false who ws e plain named = named

-- a line of the jury, whose first word begins with no mark
jury_back : (who word : List ℕ) (ws : List (List ℕ)) (e : Event) → IsName who → read_of_words (word ∷ ws) ≡ event_or_bad (unnamed_event_of word ws) → jury_event_of who word ws ≡ Some e
    → read_of_words (actor_words who ++ word ∷ ws) ≡ Ok (Some e)
jury_back who word ws e named unmarked back =
    by_actor (bytes_eq who jury) who (word ∷ ws) e
    (λ same.
    let is : who ≡ jury = (bytes_eq-Decides who jury).0 same in
    let by_jury : jury_event_of jury word ws ≡ Some e = ap (λ w. jury_event_of w word ws) (sym is) ∙ back in
    unmarked ∙ ap (λ o. event_or_bad (option_or o (option_or (host_event_of word ws) (other_event_of word ws)))) by_jury)
    (ap event_or_bad (step (name_read who) who (λ w. jury_event_of w word ws) (name_back who named) ∙ back))

actor_name : (e : Event) → IsReadable e → IsName (actor_of e)
actor_name (event.Problem who name tests) h = h.0
actor_name (event.Replace who name tests) h = h.0
actor_name (event.Rejudge who list) h = h.0
actor_name (event.Apply who r) h = h.0
actor_name (event.Cancel who r) h = h.0
actor_name (event.Verify who j) h = h.0
actor_name (event.Ask who j) h = h.0
actor_name (event.Host name) h = refl
actor_name (event.Submit problem class broken) h = refl
actor_name (event.Claim host) h = refl
actor_name (event.Fetch host most) h = refl
actor_name (event.Result host j test kind) h = refl
actor_name (event.Entry j test kind) h = refl
actor_name (event.Renew host j test) h = refl
actor_name (event.Tick moment) h = refl
actor_name (event.Down host) h = refl
actor_name (event.Show j) h = refl
actor_name (event.Owner j) h = refl
actor_name event.Board h = refl
actor_name (event.Matrix r) h = refl
actor_name event.Audit h = refl

actor_tokens : (unsaid : Bool) (who : List ℕ) (ws : List (List ℕ)) → IsName who → AreTokens ws → AreTokens (cond unsaid [] ((64 ∷ who) ∷ []) ++ ws)
actor_tokens true who ws named h = h
actor_tokens false who ws named h = (record { some = omega arith; run = (λ e. absurd (omega (arith, e)), (token-name who named).run) }, h)

-- Events

words_back : (e : Event) → IsReadable e → read_of_words (actor_words (actor_of e) ++ event_words e) ≡ Ok (Some e)
words_back (event.Problem who name tests) h = jury_back who (codes "problem") (name ∷ decimal tests ∷ []) (event.Problem who name tests) h.0 refl (problem_back who name tests h.1 h.2)
words_back (event.Replace who name tests) h = jury_back who (codes "replace") (name ∷ decimal tests ∷ []) (event.Replace who name tests) h.0 refl (replace_back who name tests h.1 h.2)
words_back (event.Rejudge who list) h = jury_back who (codes "rejudge") (list_words list) (event.Rejudge who list) h.0 refl (rejudge_back who list h.1)
words_back (event.Apply who r) h = jury_back who (codes "apply") (decimal r ∷ []) (event.Apply who r) h.0 refl (number_line_back (event.Apply who) r h.1)
words_back (event.Cancel who r) h = jury_back who (codes "cancel") (decimal r ∷ []) (event.Cancel who r) h.0 refl (number_line_back (event.Cancel who) r h.1)
words_back (event.Verify who j) h = jury_back who (codes "verify") (decimal j ∷ []) (event.Verify who j) h.0 refl (number_line_back (event.Verify who) j h.1)
words_back (event.Ask who j) h = jury_back who (codes "ask") (decimal j ∷ []) (event.Ask who j) h.0 refl (number_line_back (event.Ask who) j h.1)
words_back (event.Host name) h = ap (λ o. event_or_bad (option_or o None)) (name_line_back event.Host name h)
words_back (event.Submit problem class broken) h = ap event_or_bad (submit_back problem class broken h)
words_back (event.Claim host) h = ap (λ o. event_or_bad (option_or o None)) (name_line_back event.Claim host h)
words_back (event.Fetch host most) h = ap (λ o. event_or_bad (option_or o None)) (fetch_back host most h.0 h.1 h.2)
words_back (event.Result host j test kind) h = ap (λ o. event_or_bad (option_or o None)) (result_back host j test kind h.0 h.1 h.2)
words_back (event.Entry j test kind) h = ap event_or_bad (record_back j test kind h.0 h.1)
words_back (event.Renew host j test) h = ap (λ o. event_or_bad (option_or o None)) (renew_back host j test h.0 h.1 h.2)
words_back (event.Tick moment) h = ap event_or_bad (tick_back moment h)
words_back (event.Down host) h = ap (λ o. event_or_bad (option_or o None)) (name_line_back event.Down host h)
words_back (event.Show j) h = ap event_or_bad (number_line_back event.Show j h)
words_back (event.Owner j) h = ap event_or_bad (number_line_back event.Owner j h)
words_back event.Board h = refl
words_back (event.Matrix r) h = ap event_or_bad (number_line_back event.Matrix r h)
words_back event.Audit h = refl

list_tokens : (list : List ℕ) → AreNumbers list → AreTokens (list_words list)
list_tokens [] small = tt
list_tokens (n ∷ ns) small = (token-list n ns small, tt)

tokens_of : (e : Event) → IsReadable e → AreTokens (event_words e)
tokens_of (event.Problem who name tests) h = (token-name (codes "problem") refl, (token-name name h.1, (number_token tests h.2, tt)))
tokens_of (event.Replace who name tests) h = (token-name (codes "replace") refl, (token-name name h.1, (number_token tests h.2, tt)))
tokens_of (event.Host name) h = (token-name (codes "host") refl, (token-name name h, tt))
tokens_of (event.Submit problem class broken) h = (token-name (codes "submit") refl, (token-name problem h, said_tokens class broken))
tokens_of (event.Claim host) h = (token-name (codes "claim") refl, (token-name host h, tt))
tokens_of (event.Fetch host most) h = (token-name (codes "fetch") refl, (token-name host h.0, (number_token most (omega (arith, h.2)), tt)))
tokens_of (event.Result host j test kind) h = (token-name (codes "result") refl, (token-name host h.0, (number_token j h.1, (number_token test h.2, (kind_token kind, tt)))))
tokens_of (event.Entry j test kind) h = (token-name (codes "record") refl, (number_token j h.0, (number_token test h.1, (kind_token kind, tt))))
tokens_of (event.Renew host j test) h = (token-name (codes "renew") refl, (token-name host h.0, (number_token j h.1, (number_token test h.2, tt))))
tokens_of (event.Tick moment) h = (token-name (codes "tick") refl, (token-decimal moment (omega arith), tt))
tokens_of (event.Down host) h = (token-name (codes "down") refl, (token-name host h, tt))
tokens_of (event.Show j) h = (token-name (codes "show") refl, (number_token j h, tt))
tokens_of (event.Owner j) h = (token-name (codes "owner") refl, (number_token j h, tt))
tokens_of event.Board h = (token-name (codes "board") refl, tt)
tokens_of (event.Rejudge who list) h = (token-name (codes "rejudge") refl, list_tokens list h.1)
tokens_of (event.Matrix r) h = (token-name (codes "matrix") refl, (number_token r h, tt))
tokens_of (event.Apply who r) h = (token-name (codes "apply") refl, (number_token r h.1, tt))
tokens_of (event.Cancel who r) h = (token-name (codes "cancel") refl, (number_token r h.1, tt))
tokens_of (event.Verify who j) h = (token-name (codes "verify") refl, (number_token j h.1, tt))
tokens_of (event.Ask who j) h = (token-name (codes "ask") refl, (number_token j h.1, tt))
tokens_of event.Audit h = (token-name (codes "audit") refl, tt)

readable_back : (e : Event) → IsReadable e → line_read (event_text e) ≡ Ok (Some e)
readable_back e h =
    let ws : List (List ℕ) = actor_words (actor_of e) ++ event_words e in
    ap read_of_words (words_joined ws (actor_tokens (bytes_eq (actor_of e) jury) (actor_of e) (event_words e) (actor_name e h) (tokens_of e h)))
    ∙ words_back e h

pub event_back : (line : List ℕ) (e : Event) → line_read line ≡ Ok (Some e) → line_read (event_text e) ≡ Ok (Some e)
event_back line e h = readable_back e (IsReadable-from_line line e h)
