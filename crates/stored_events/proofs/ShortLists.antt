-- A line lists no more numbers than it has bytes.
use Rattle.std.proofs.Common.{ℕ, ◌≡◌, ◌+◌, ◌≤◌, List, [], ◌∷◌, length, Option, Some, None, Result, Ok, Err, Bool, true, false, cond, ◌==◌, subst, arith}
use Rattle.std.specs.Prelude.{⊤, codes}
use Rattle.std.specs.Str.{bytes_eq}
use Rattle.std.specs.Option.{option_or}
use Rattle.std.proofs.lemmas.Bool.{cond_both}
use Rattle.farm_kinds.specs.declared.events.Event.{Event}
use Rattle.farm_kinds.specs.declared.events.Event.TheVariants as event
use Rattle.farm_kinds.specs.declared.events.LineFault.{LineFault}
use Rattle.farm_kinds.specs.Names.{name_read, jury}
use Rattle.farm_kinds.specs.Kinds.{kind_named}
use Rattle.farm_model.specs.Words.{onto_first, put_before, words}
use Rattle.farm_model.specs.Numbers.{number_of, moment_of, onto_first_part, comma_parts, before_all, all_numbers, list_of}
use Rattle.farm_model.specs.Grammar.{◌>>=◌, problem_line, replace_line, rejudge_line, number_line, name_line, submit_words, submit_line, result_line, record_line, batch_of, fetch_line, renew_line, tick_line, bare_line, jury_event_of, host_event_of, other_event_of, unnamed_event_of, named_event_of, event_of, is_comment, event_or_bad, read_of_words, line_read}

-- the event lists no more numbers than these
abbrev pub ListsFew : ℕ → Event → Type 0
ListsFew m (event.Rejudge who list) = length list ≤ m
ListsFew m e = ⊤

abbrev IfFew : ℕ → Option Event → Type 0
IfFew m None = ⊤
IfFew m (Some e) = ListsFew m e

after : {A : Type 0} (m : ℕ) (o : Option A) (f : A → Option Event) → ((x : A) → IfFew m (f x)) → IfFew m (o >>= f)
after m None f each = tt
after m (Some x) f each = each x

either : (m : ℕ) (b : Bool) (x y : Option Event) → IfFew m x → IfFew m y → IfFew m (cond b x y)
either m true x y p q = p
either m false x y p q = q

or_else : (m : ℕ) (x y : Option Event) → IfFew m x → IfFew m y → IfFew m (option_or x y)
or_else m None y p q = q
or_else m (Some e) y p q = p

-- Lists

one_part : (b : ℕ) (parts : List (List ℕ)) → 1 ≤ length parts → length (onto_first_part b parts) ≡ length parts
one_part b [] some = absurd (omega arith)
one_part b (part ∷ parts) some = omega arith

parts_few : (word : List ℕ) → (1 ≤ length (comma_parts word)) × (length (comma_parts word) ≤ length word + 1)
parts_few [] = (omega arith, omega arith)
parts_few (b ∷ bs) =
    let rest = parts_few bs in
    cond_both (b == 44) ([] ∷ comma_parts bs) (onto_first_part b (comma_parts bs)) (λ ps. (1 ≤ length ps) × (length ps ≤ length (b ∷ bs) + 1))
    (λ comma. (omega arith, omega (arith, rest.1)))
    (λ other. let same = one_part b (comma_parts bs) rest.0 in (omega (arith, same, rest.0), omega (arith, same, rest.1)))

IfMany : ℕ → Option (List ℕ) → Type 0
IfMany m None = ⊤
IfMany m (Some ns) = length ns ≤ m

before_many : (m : ℕ) (o : Option ℕ) (others : Option (List ℕ)) → IfMany m others → IfMany (m + 1) (before_all o others)
unfolding IfMany
before_many m None others h = tt
before_many m (Some n) None h = tt
before_many m (Some n) (Some ns) h = omega (arith, h)

more_many : (m n : ℕ) (o : Option (List ℕ)) → m ≤ n → IfMany m o → IfMany n o
unfolding IfMany
more_many m n None le h = tt
more_many m n (Some ns) le h = omega (arith, le, h)

numbers_many : (parts : List (List ℕ)) → IfMany (length parts) (all_numbers parts)
unfolding IfMany
numbers_many [] = omega arith
numbers_many (part ∷ parts) = more_many (length parts + 1) (length (part ∷ parts)) (before_all (number_of part) (all_numbers parts)) (omega arith) (before_many (length parts) (number_of part) (all_numbers parts) (numbers_many parts))

after_many : (m : ℕ) (who : List ℕ) (o : Option (List ℕ)) → IfMany m o → IfFew m (o >>= (λ ns. Some (event.Rejudge who ns)))
unfolding IfMany
after_many m who None h = tt
after_many m who (Some ns) h = h

-- Words

-- no word is longer
abbrev AreShort : ℕ → List (List ℕ) → Type 0
AreShort m [] = ⊤
AreShort m (w ∷ ws) = (length w ≤ m) × AreShort m ws

longer : (m n : ℕ) → m ≤ n → (ws : List (List ℕ)) → AreShort m ws → AreShort n ws
longer m n le [] h = tt
longer m n le (w ∷ ws) h = (omega (arith, le, h.0), longer m n le ws h.1)

onto_short : (m b : ℕ) (ws : List (List ℕ)) → AreShort m ws → AreShort (m + 1) (onto_first b ws)
onto_short m b [] h = (omega arith, tt)
onto_short m b (w ∷ ws) h = (omega (arith, h.0), longer m (m + 1) (omega arith) ws h.1)

put_short : (m b : ℕ) (bs : List ℕ) (ws : List (List ℕ)) → AreShort m ws → AreShort (m + 1) (put_before b bs ws)
put_short m b [] ws h = (omega arith, longer m (m + 1) (omega arith) ws h)
put_short m b (c ∷ bs) ws h =
    cond_both (c == 32) ((b ∷ []) ∷ ws) (onto_first b ws) (AreShort (m + 1))
    (λ space. (omega arith, longer m (m + 1) (omega arith) ws h)) (λ other. onto_short m b ws h)

words_short : (text : List ℕ) → AreShort (length text) (words text)
words_short [] = tt
words_short (b ∷ bs) =
    let m = length bs in
    longer (m + 1) (length (b ∷ bs)) (omega arith) (words (b ∷ bs))
    (cond_both (b == 32) (words bs) (put_before b bs (words bs)) (AreShort (m + 1))
    (λ space. longer m (m + 1) (omega arith) (words bs) (words_short bs)) (λ other. put_short m b bs (words bs) (words_short bs)))

-- Lines

module _ (m : ℕ) where
  rejudge_few : (who : List ℕ) (ws : List (List ℕ)) → AreShort m ws → IfFew (m + 1) (rejudge_line who ws)
  rejudge_few who [] h = omega arith
  rejudge_few who (list ∷ []) h =
      let few = parts_few list in
      after_many (m + 1) who (list_of list) (more_many (length (comma_parts list)) (m + 1) (list_of list) (omega (arith, few.1, h.0)) (numbers_many (comma_parts list)))
  rejudge_few who (list ∷ more ∷ ws) h = tt

  tests_few : (e : List ℕ → ℕ → Event) → ((name : List ℕ) (n : ℕ) → ListsFew (m + 1) (e name n)) → (name tests : List ℕ)
      → IfFew (m + 1) (name_read name >>= (λ n. number_of tests >>= (λ t. Some (e n t))))
  tests_few e none name tests = after (m + 1) (name_read name) (λ n. number_of tests >>= (λ t. Some (e n t))) (λ n. after (m + 1) (number_of tests) (λ t. Some (e n t)) (λ t. none n t))

  problem_few : (who : List ℕ) (ws : List (List ℕ)) → IfFew (m + 1) (problem_line who ws)
  problem_few who [] = tt
  problem_few who (name ∷ []) = tt
  problem_few who (name ∷ tests ∷ []) = tests_few (event.Problem who) (λ n t. tt) name tests
  problem_few who (name ∷ tests ∷ more ∷ ws) = tt

  replace_few : (who : List ℕ) (ws : List (List ℕ)) → IfFew (m + 1) (replace_line who ws)
  replace_few who [] = tt
  replace_few who (name ∷ []) = tt
  replace_few who (name ∷ tests ∷ []) = tests_few (event.Replace who) (λ n t. tt) name tests
  replace_few who (name ∷ tests ∷ more ∷ ws) = tt

  number_few : (e : ℕ → Event) → ((n : ℕ) → ListsFew (m + 1) (e n)) → (ws : List (List ℕ)) → IfFew (m + 1) (number_line e ws)
  number_few e none [] = tt
  number_few e none (number ∷ []) = after (m + 1) (number_of number) (λ n. Some (e n)) (λ n. none n)
  number_few e none (number ∷ more ∷ ws) = tt

  jury_few : (who word : List ℕ) (ws : List (List ℕ)) → AreShort m ws → IfFew (m + 1) (jury_event_of who word ws)
  jury_few who word ws h =
      either (m + 1) (bytes_eq word (codes "problem")) (problem_line who ws) _ (problem_few who ws)
      (either (m + 1) (bytes_eq word (codes "replace")) (replace_line who ws) _ (replace_few who ws)
      (either (m + 1) (bytes_eq word (codes "rejudge")) (rejudge_line who ws) _ (rejudge_few who ws h)
      (either (m + 1) (bytes_eq word (codes "apply")) (number_line (event.Apply who) ws) _ (number_few (event.Apply who) (λ n. tt) ws)
      (either (m + 1) (bytes_eq word (codes "cancel")) (number_line (event.Cancel who) ws) _ (number_few (event.Cancel who) (λ n. tt) ws)
      (either (m + 1) (bytes_eq word (codes "verify")) (number_line (event.Verify who) ws) _ (number_few (event.Verify who) (λ n. tt) ws)
      (either (m + 1) (bytes_eq word (codes "ask")) (number_line (event.Ask who) ws) None (number_few (event.Ask who) (λ n. tt) ws) tt))))))

  name_few : (e : List ℕ → Event) → ((name : List ℕ) → ListsFew (m + 1) (e name)) → (ws : List (List ℕ)) → IfFew (m + 1) (name_line e ws)
  name_few e none [] = tt
  name_few e none (name ∷ []) = after (m + 1) (name_read name) (λ n. Some (e n)) (λ n. none n)
  name_few e none (name ∷ more ∷ ws) = tt

  fetch_few : (ws : List (List ℕ)) → IfFew (m + 1) (fetch_line ws)
  fetch_few [] = tt
  fetch_few (host ∷ []) = tt
  fetch_few (host ∷ most ∷ []) = after (m + 1) (name_read host) (λ n. batch_of most >>= (λ b. Some (event.Fetch n b))) (λ n. after (m + 1) (batch_of most) (λ b. Some (event.Fetch n b)) (λ b. tt))
  fetch_few (host ∷ most ∷ more ∷ ws) = tt

  result_few : (ws : List (List ℕ)) → IfFew (m + 1) (result_line ws)
  result_few [] = tt
  result_few (a ∷ []) = tt
  result_few (a ∷ b ∷ []) = tt
  result_few (a ∷ b ∷ c ∷ []) = tt
  result_few (a ∷ b ∷ c ∷ d ∷ []) =
      after (m + 1) (name_read a) (λ h. number_of b >>= (λ j. number_of c >>= (λ t. kind_named d >>= (λ k. Some (event.Result h j t k)))))
      (λ h. after (m + 1) (number_of b) (λ j. number_of c >>= (λ t. kind_named d >>= (λ k. Some (event.Result h j t k))))
      (λ j. after (m + 1) (number_of c) (λ t. kind_named d >>= (λ k. Some (event.Result h j t k)))
      (λ t. after (m + 1) (kind_named d) (λ k. Some (event.Result h j t k)) (λ k. tt))))
  result_few (a ∷ b ∷ c ∷ d ∷ e ∷ ws) = tt

  renew_few : (ws : List (List ℕ)) → IfFew (m + 1) (renew_line ws)
  renew_few [] = tt
  renew_few (a ∷ []) = tt
  renew_few (a ∷ b ∷ []) = tt
  renew_few (a ∷ b ∷ c ∷ []) =
      after (m + 1) (name_read a) (λ h. number_of b >>= (λ j. number_of c >>= (λ t. Some (event.Renew h j t))))
      (λ h. after (m + 1) (number_of b) (λ j. number_of c >>= (λ t. Some (event.Renew h j t)))
      (λ j. after (m + 1) (number_of c) (λ t. Some (event.Renew h j t)) (λ t. tt)))
  renew_few (a ∷ b ∷ c ∷ d ∷ ws) = tt

  host_few : (word : List ℕ) (ws : List (List ℕ)) → IfFew (m + 1) (host_event_of word ws)
  host_few word ws =
      either (m + 1) (bytes_eq word (codes "host")) (name_line event.Host ws) _ (name_few event.Host (λ n. tt) ws)
      (either (m + 1) (bytes_eq word (codes "claim")) (name_line event.Claim ws) _ (name_few event.Claim (λ n. tt) ws)
      (either (m + 1) (bytes_eq word (codes "fetch")) (fetch_line ws) _ (fetch_few ws)
      (either (m + 1) (bytes_eq word (codes "result")) (result_line ws) _ (result_few ws)
      (either (m + 1) (bytes_eq word (codes "renew")) (renew_line ws) _ (renew_few ws)
      (either (m + 1) (bytes_eq word (codes "down")) (name_line event.Down ws) None (name_few event.Down (λ n. tt) ws) tt)))))

  submit_few : (ws : List (List ℕ)) → IfFew (m + 1) (submit_line ws)
  submit_few [] = tt
  submit_few (name ∷ ws) =
      after (m + 1) (name_read name) (λ n. submit_words ws >>= (λ said. Some (event.Submit n said.0 said.1)))
      (λ n. after (m + 1) (submit_words ws) (λ said. Some (event.Submit n said.0 said.1)) (λ said. tt))

  record_few : (ws : List (List ℕ)) → IfFew (m + 1) (record_line ws)
  record_few [] = tt
  record_few (a ∷ []) = tt
  record_few (a ∷ b ∷ []) = tt
  record_few (a ∷ b ∷ c ∷ []) =
      after (m + 1) (number_of a) (λ j. number_of b >>= (λ t. kind_named c >>= (λ k. Some (event.Entry j t k))))
      (λ j. after (m + 1) (number_of b) (λ t. kind_named c >>= (λ k. Some (event.Entry j t k)))
      (λ t. after (m + 1) (kind_named c) (λ k. Some (event.Entry j t k)) (λ k. tt)))
  record_few (a ∷ b ∷ c ∷ d ∷ ws) = tt

  tick_few : (ws : List (List ℕ)) → IfFew (m + 1) (tick_line ws)
  tick_few [] = tt
  tick_few (moment ∷ []) = after (m + 1) (moment_of moment) (λ n. Some (event.Tick n)) (λ n. tt)
  tick_few (moment ∷ more ∷ ws) = tt

  bare_few : (e : Event) → ListsFew (m + 1) e → (ws : List (List ℕ)) → IfFew (m + 1) (bare_line e ws)
  bare_few e none [] = none
  bare_few e none (w ∷ ws) = tt

  other_few : (word : List ℕ) (ws : List (List ℕ)) → IfFew (m + 1) (other_event_of word ws)
  other_few word ws =
      either (m + 1) (bytes_eq word (codes "submit")) (submit_line ws) _ (submit_few ws)
      (either (m + 1) (bytes_eq word (codes "record")) (record_line ws) _ (record_few ws)
      (either (m + 1) (bytes_eq word (codes "tick")) (tick_line ws) _ (tick_few ws)
      (either (m + 1) (bytes_eq word (codes "show")) (number_line event.Show ws) _ (number_few event.Show (λ n. tt) ws)
      (either (m + 1) (bytes_eq word (codes "owner")) (number_line event.Owner ws) _ (number_few event.Owner (λ n. tt) ws)
      (either (m + 1) (bytes_eq word (codes "board")) (bare_line event.Board ws) _ (bare_few event.Board tt ws)
      (either (m + 1) (bytes_eq word (codes "matrix")) (number_line event.Matrix ws) _ (number_few event.Matrix (λ n. tt) ws)
      (either (m + 1) (bytes_eq word (codes "audit")) (bare_line event.Audit ws) None (bare_few event.Audit tt ws) tt)))))))

  unnamed_few : (word : List ℕ) (ws : List (List ℕ)) → AreShort m ws → IfFew (m + 1) (unnamed_event_of word ws)
  unnamed_few word ws h =
      or_else (m + 1) (jury_event_of jury word ws) (option_or (host_event_of word ws) (other_event_of word ws)) (jury_few jury word ws h)
      (or_else (m + 1) (host_event_of word ws) (other_event_of word ws) (host_few word ws) (other_few word ws))

  named_few : (name : List ℕ) (ws : List (List ℕ)) → AreShort m ws → IfFew (m + 1) (named_event_of name ws)
  named_few name [] h = tt
  named_few name (word ∷ ws) h = after (m + 1) (name_read name) (λ who. jury_event_of who word ws) (λ who. jury_few who word ws h.1)

  event_few : (word : List ℕ) (ws : List (List ℕ)) → AreShort m ws → IfFew (m + 1) (event_of word ws)
  event_few [] ws h = tt
  event_few (b ∷ bs) ws h = either (m + 1) (b == 64) (named_event_of bs ws) (unnamed_event_of (b ∷ bs) ws) (named_few bs ws h) (unnamed_few (b ∷ bs) ws h)

  IfFewRead : Result (Option Event) LineFault → Type 0
  IfFewRead (Ok o) = IfFew (m + 1) o
  IfFewRead (Err f) = ⊤

  read_few : (o : Option Event) → IfFew (m + 1) o → IfFewRead (event_or_bad o)
  unfolding IfFewRead
  read_few None h = tt
  read_few (Some e) h = h

  words_few : (ws : List (List ℕ)) → AreShort m ws → IfFewRead (read_of_words ws)
  unfolding IfFewRead
  words_few [] h = tt
  words_few (word ∷ ws) h =
      cond_both (is_comment word) (Ok None) (event_or_bad (event_of word ws)) IfFewRead (λ comment. tt) (λ other. read_few (event_of word ws) (event_few word ws h.1))

pub lists_few : (line : List ℕ) (e : Event) → line_read line ≡ Ok (Some e) → ListsFew (length line + 1) e
unfolding IfFewRead
lists_few line e is = subst (IfFewRead (length line)) is (words_few (length line) (words line) (words_short line))
