-- What the first line of a reply's text tells of the reply.
use Rattle.std.proofs.Common.{ℕ, ◌≡◌, List, [], ◌∷◌, ◌++◌, Option, Some, None, Bool, true, false, eqb, refl, sym, ap, ◌∙◌, subst, take, drop, map, append_assoc}
use Rattle.std.specs.Prelude.{codes}
use Rattle.std.specs.Option.{option_map}
use Rattle.std.specs.Str.{bytes_eq}
use Rattle.std.specs.List.{join_with_byte}
use Rattle.std.specs.Fmt.{decimal, digits}
use Rattle.farm_kinds.specs.declared.kinds.Kind.{Kind}
use Rattle.farm_kinds.specs.declared.kinds.Kind.TheVariants.{Correct, WrongAnswer, RunError, TimeLimit, NoOutput, OutputLimit, MemoryLimit, JudgingError}
use Rattle.farm_kinds.specs.declared.outcomes.Verdict.{Verdict}
use Rattle.farm_kinds.specs.declared.outcomes.Verdict.TheVariants.{Tests, CompilerError}
use Rattle.farm_kinds.specs.declared.outcomes.Answer.{Answer}
use Rattle.farm_kinds.specs.declared.outcomes.Answer.TheVariants.{Final, Pending}
use Rattle.farm_kinds.specs.declared.outcomes.Task.{Task}
use Rattle.farm_kinds.specs.declared.events.Reply.{Reply}
use Rattle.farm_kinds.specs.declared.events.Reply.TheVariants as reply
use Rattle.farm_kinds.specs.Kinds.{name_of, kind_named}
use Rattle.farm_model.specs.Texts.{verdict_text, shown_words, answer_text, list_words, reply_words, rows_text, reply_text}
use Rattle.farm_laws.specs.Output.{first_line}
use Rattle.farm_laws.proofs.Each.{each_append}
use Rattle.farm_laws.proofs.FirstLines.{Feedless, first_line_ended, first_line_whole, first_line_begins, decimal_feedless}

-- Each reply has a first line

pub reply_line : (r : Reply) → (line : List ℕ) × (first_line (reply_text r) ≡ Some line)
reply_line r =
    let joined = join_with_byte 32 (reply_words r) in
    let ended = first_line_ended (rows_text r ++ joined) in
    (ended.0, ap first_line (sym (append_assoc (rows_text r) joined (10 ∷ []))) ∙ ended.1)

-- The first bytes

abbrev begins : ℕ → ℕ → ℕ → List ℕ → Bool
begins a b c text = bytes_eq (take 3 text) (a ∷ b ∷ c ∷ [])

-- the text begins as `counted`, as `task`, as `batch`, as `applied`
abbrev as_counted : List ℕ → Bool
as_counted text = begins 99 111 117 text

abbrev as_task : List ℕ → Bool
as_task text = begins 116 97 115 text

abbrev as_batch : List ℕ → Bool
as_batch text = begins 98 97 116 text

abbrev as_applied : List ℕ → Bool
as_applied text = begins 97 112 112 text

abbrev NoneOfThese : List ℕ → Type 0
NoneOfThese text = (as_counted text ≡ false) × (as_task text ≡ false) × (as_applied text ≡ false) × (as_batch text ≡ false)

-- a row of a matrix begins with an answer
row_other : (answer : Answer) (u v w x : List ℕ) → NoneOfThese ((((answer_text answer ++ u) ++ v) ++ w) ++ x)
row_other Pending u v w x = (refl, refl, refl, refl)
row_other (Final CompilerError) u v w x = (refl, refl, refl, refl)
row_other (Final (Tests Correct)) u v w x = (refl, refl, refl, refl)
row_other (Final (Tests WrongAnswer)) u v w x = (refl, refl, refl, refl)
row_other (Final (Tests RunError)) u v w x = (refl, refl, refl, refl)
row_other (Final (Tests TimeLimit)) u v w x = (refl, refl, refl, refl)
row_other (Final (Tests NoOutput)) u v w x = (refl, refl, refl, refl)
row_other (Final (Tests OutputLimit)) u v w x = (refl, refl, refl, refl)
row_other (Final (Tests MemoryLimit)) u v w x = (refl, refl, refl, refl)
row_other (Final (Tests JudgingError)) u v w x = (refl, refl, refl, refl)

board_other : (answer : Answer) (rows : List Answer) → NoneOfThese (reply_text (reply.Board (answer ∷ rows)))
unfolding digits
board_other answer rows = (refl, refl, refl, refl)

never : {X : Type 0} (b : Bool) → b ≡ false → b ≡ true → X
never true h k = cc
never false h k = cc

counted_begins : (r : Reply) → as_counted (reply_text r) ≡ true → r ≡ reply.Counted
counted_begins reply.Counted h = refl
counted_begins (reply.Shown Pending) h = cc
counted_begins (reply.Shown (Final v)) h = cc
counted_begins (reply.Board []) h = cc
counted_begins (reply.Board (a ∷ rows)) h = never _ (board_other a rows).0 h
counted_begins (reply.Matrix [] members) h = cc
counted_begins (reply.Matrix (row ∷ rows) members) h = never _ (row_other row.old _ _ _ _).0 h
counted_begins r h = cc

-- a reply that hands out some task
abbrev pub HandsSome : Reply → Type 0
HandsSome r = (task : Task) × (until : ℕ) × (r ≡ reply.Handed task until)

handed_begins : (r : Reply) → as_task (reply_text r) ≡ true → HandsSome r
handed_begins (reply.Handed task until) h = (task, until, refl)
handed_begins (reply.Shown Pending) h = cc
handed_begins (reply.Shown (Final v)) h = cc
handed_begins (reply.Board []) h = cc
handed_begins (reply.Board (a ∷ rows)) h = never _ (board_other a rows).1 h
handed_begins (reply.Matrix [] members) h = cc
handed_begins (reply.Matrix (row ∷ rows) members) h = never _ (row_other row.old _ _ _ _).1 h
handed_begins r h = cc

-- a reply that hands out some batch
abbrev pub BatchesSome : Reply → Type 0
BatchesSome r = (judging : ℕ) × (tests : List ℕ) × (until : ℕ) × (r ≡ reply.Batch judging tests until)

batch_begins : (r : Reply) → as_batch (reply_text r) ≡ true → BatchesSome r
batch_begins (reply.Batch judging tests until) h = (judging, tests, until, refl)
batch_begins (reply.Shown Pending) h = cc
batch_begins (reply.Shown (Final v)) h = cc
batch_begins (reply.Board []) h = cc
batch_begins (reply.Board (a ∷ rows)) h = never _ (board_other a rows).3 h
batch_begins (reply.Matrix [] members) h = cc
batch_begins (reply.Matrix (row ∷ rows) members) h = never _ (row_other row.old _ _ _ _).3 h
batch_begins r h = cc

abbrev pub AppliesSome : Reply → Type 0
AppliesSome r = (members : ℕ) × (r ≡ reply.Applied members)

applied_begins : (r : Reply) → as_applied (reply_text r) ≡ true → AppliesSome r
applied_begins (reply.Applied members) h = (members, refl)
applied_begins (reply.Shown Pending) h = cc
applied_begins (reply.Shown (Final v)) h = cc
applied_begins (reply.Board []) h = cc
applied_begins (reply.Board (a ∷ rows)) h = never _ (board_other a rows).2 h
applied_begins (reply.Matrix [] members) h = cc
applied_begins (reply.Matrix (row ∷ rows) members) h = never _ (row_other row.old _ _ _ _).2 h
applied_begins r h = cc

-- The first line of the reply's text is that of this reply

abbrev pub HasLine : Reply → Reply → Type 0
HasLine r x = first_line (reply_text r) ≡ Some (join_with_byte 32 (reply_words x))

begins_line : (r x : Reply) → HasLine r x → (more : List ℕ) × (reply_text r ≡ join_with_byte 32 (reply_words x) ++ 10 ∷ more)
begins_line r x h = first_line_begins (reply_text r) (join_with_byte 32 (reply_words x)) h

pub counted_told : (r : Reply) → HasLine r reply.Counted → r ≡ reply.Counted
counted_told r h = let b = begins_line r reply.Counted h in counted_begins r (ap as_counted b.1)

pub handed_told : (r : Reply) (task : Task) (until : ℕ) → HasLine r (reply.Handed task until) → HandsSome r
handed_told r task until h = let b = begins_line r (reply.Handed task until) h in handed_begins r (ap as_task b.1)

pub batch_told : (r : Reply) (judging : ℕ) (tests : List ℕ) (until : ℕ) → HasLine r (reply.Batch judging tests until) → BatchesSome r
batch_told r judging tests until h = let b = begins_line r (reply.Batch judging tests until) h in batch_begins r (ap as_batch b.1)

pub applied_told : (r : Reply) (members : ℕ) → HasLine r (reply.Applied members) → AppliesSome r
applied_told r members h = let b = begins_line r (reply.Applied members) h in applied_begins r (ap as_applied b.1)

-- A reply's own line

pub counted_line : HasLine reply.Counted reply.Counted
counted_line = refl

pub handed_line : (task : Task) (until : ℕ) → HasLine (reply.Handed task until) (reply.Handed task until)
handed_line task until =
    let P : ℕ → Type 0 = λ b. eqb b 10 ≡ false in
    let third : Feedless (117 ∷ 110 ∷ 116 ∷ 105 ∷ 108 ∷ 32 ∷ decimal until) = (refl, (refl, (refl, (refl, (refl, (refl, decimal_feedless until)))))) in
    let second : Feedless (decimal task.test ++ 32 ∷ 117 ∷ 110 ∷ 116 ∷ 105 ∷ 108 ∷ 32 ∷ decimal until) = each_append P (decimal task.test) _ (decimal_feedless task.test) (refl, third) in
    let first = each_append P (decimal task.judging) _ (decimal_feedless task.judging) (refl, second) in
    first_line_whole (join_with_byte 32 (reply_words (reply.Handed task until))) [] (refl, (refl, (refl, (refl, (refl, first)))))

-- numbers that are joined by commas have no line feed
joined_feedless : (n : ℕ) (ns : List ℕ) → Feedless (join_with_byte 44 (map decimal (n ∷ ns)))
joined_feedless n [] = decimal_feedless n
joined_feedless n (m ∷ ns) = each_append (λ b. eqb b 10 ≡ false) (decimal n) _ (decimal_feedless n) (refl, joined_feedless m ns)

until_feedless : (until : ℕ) → Feedless (117 ∷ 110 ∷ 116 ∷ 105 ∷ 108 ∷ 32 ∷ decimal until)
until_feedless until = (refl, (refl, (refl, (refl, (refl, (refl, decimal_feedless until))))))

-- what stands behind the judging
tests_feedless : (tests : List ℕ) (until : ℕ) → Feedless (join_with_byte 32 (list_words tests ++ codes "until" ∷ decimal until ∷ []))
tests_feedless [] until = until_feedless until
tests_feedless (n ∷ ns) until = each_append (λ b. eqb b 10 ≡ false) (join_with_byte 44 (map decimal (n ∷ ns))) _ (joined_feedless n ns) (refl, until_feedless until)

joined_again : (a : ℕ) (word : List ℕ) (tests : List ℕ) (until : ℕ)
    → join_with_byte a (word ∷ (list_words tests ++ codes "until" ∷ decimal until ∷ [])) ≡ word ++ a ∷ join_with_byte a (list_words tests ++ codes "until" ∷ decimal until ∷ [])
joined_again a word [] until = refl
joined_again a word (n ∷ ns) until = refl

pub batch_line : (judging : ℕ) (tests : List ℕ) (until : ℕ) → HasLine (reply.Batch judging tests until) (reply.Batch judging tests until)
batch_line judging tests until =
    let P : ℕ → Type 0 = λ b. eqb b 10 ≡ false in
    let behind = join_with_byte 32 (list_words tests ++ codes "until" ∷ decimal until ∷ []) in
    let numbered : Feedless (decimal judging ++ 32 ∷ behind) = each_append P (decimal judging) _ (decimal_feedless judging) (refl, tests_feedless tests until) in
    let words : Feedless (join_with_byte 32 (decimal judging ∷ (list_words tests ++ codes "until" ∷ decimal until ∷ []))) = subst Feedless (sym (joined_again 32 (decimal judging) tests until)) numbered in
    first_line_whole (join_with_byte 32 (reply_words (reply.Batch judging tests until))) [] (refl, (refl, (refl, (refl, (refl, (refl, words))))))

pub applied_line : (members : ℕ) → HasLine (reply.Applied members) (reply.Applied members)
applied_line members = first_line_whole (join_with_byte 32 (reply_words (reply.Applied members))) [] (refl, (refl, (refl, (refl, (refl, (refl, (refl, (refl, decimal_feedless members))))))))

pub shown_line : (answer : Answer) → HasLine (reply.Shown answer) (reply.Shown answer)
shown_line Pending = refl
shown_line (Final CompilerError) = refl
shown_line (Final (Tests Correct)) = refl
shown_line (Final (Tests WrongAnswer)) = refl
shown_line (Final (Tests RunError)) = refl
shown_line (Final (Tests TimeLimit)) = refl
shown_line (Final (Tests NoOutput)) = refl
shown_line (Final (Tests OutputLimit)) = refl
shown_line (Final (Tests MemoryLimit)) = refl
shown_line (Final (Tests JudgingError)) = refl

-- Verdicts have texts of their own

abbrev verdict_named : List ℕ → Option Verdict
verdict_named text = option_map Tests (kind_named text)

kind_back : (k : Kind) → kind_named (name_of k) ≡ Some k
kind_back Correct = refl
kind_back WrongAnswer = refl
kind_back RunError = refl
kind_back TimeLimit = refl
kind_back NoOutput = refl
kind_back OutputLimit = refl
kind_back MemoryLimit = refl
kind_back JudgingError = refl

verdict_same : (v w : Verdict) → verdict_text v ≡ verdict_text w → v ≡ w
verdict_same (Tests k) (Tests l) h = let same : Some k ≡ Some l = sym (kind_back k) ∙ ap kind_named h ∙ kind_back l in cc
verdict_same (Tests k) CompilerError h = let same : Some k ≡ None = sym (kind_back k) ∙ ap kind_named h in cc
verdict_same CompilerError (Tests l) h = let same : None ≡ Some l = ap kind_named h ∙ kind_back l in cc
verdict_same CompilerError CompilerError h = refl

answer_same : (a b : Answer) → join_with_byte 32 (shown_words a) ≡ join_with_byte 32 (shown_words b) → a ≡ b
answer_same Pending Pending h = refl
answer_same Pending (Final w) h = absurd (let apart : true ≡ false = ap (begins 112 101 110) h in cc)
answer_same (Final v) Pending h = absurd (let apart : false ≡ true = ap (begins 112 101 110) h in cc)
answer_same (Final v) (Final w) h = ap (λ (x : Verdict). Final x) (verdict_same v w (ap (drop 6) h))

-- what is written for a `show` tells the answer, or that no judging has the number
pub shown_told : (a b : Answer) → HasLine (reply.Shown a) (reply.Shown b) → a ≡ b
shown_told a b h = let same : Some (join_with_byte 32 (shown_words a)) ≡ Some (join_with_byte 32 (shown_words b)) = sym (shown_line a) ∙ h in answer_same a b (inside _ _ same) where
  inside : (x y : List ℕ) → Some x ≡ Some y → x ≡ y
  inside x y e = cc

none_begins : (j : ℕ) (b : Answer) (more : List ℕ) → reply_text (reply.NoJudging j) ≡ join_with_byte 32 (shown_words b) ++ 10 ∷ more → ⊥
none_begins j Pending more h = let apart : true ≡ false = ap (begins 110 111 45) h in cc
none_begins j (Final v) more h = let apart : true ≡ false = ap (begins 110 111 45) h in cc

pub none_told : (j : ℕ) (b : Answer) → HasLine (reply.NoJudging j) (reply.Shown b) → ⊥
none_told j b h = let t = begins_line (reply.NoJudging j) (reply.Shown b) h in none_begins j b t.0 t.1
