-- The text of an event that a line says has a length that two bytes can say.
use Rattle.std.proofs.Common.{ℕ, suc, ◌≡◌, ◌+◌, ◌-◌, ◌*◌, ◌^◌, ◌<◌, ◌≤◌, List, [], ◌∷◌, ◌++◌, length, map, Some, Ok, Bool, true, false, refl, sym, ◌∙◌, ap, subst, arith, length-append}
use Rattle.std.specs.Prelude.{⊤, codes, nat_le}
use Rattle.std.specs.Fmt.{decimal}
use Rattle.std.specs.List.{join_with_byte}
use Rattle.std.specs.Str.{bytes_eq}
use Rattle.std.proofs.lemmas.Bool.{leb-true, and_parts, cond_both}
use Rattle.std.proofs.lemmas.Fmt.{length-decimal-le}
use Rattle.farm_kinds.specs.declared.events.Event.{Event}
use Rattle.farm_kinds.specs.declared.events.Event.TheVariants as event
use Rattle.farm_kinds.specs.declared.kinds.Kind.{Kind}
use Rattle.farm_kinds.specs.declared.kinds.Kind.TheVariants.{Correct, WrongAnswer, RunError, TimeLimit, NoOutput, OutputLimit, MemoryLimit, JudgingError}
use Rattle.farm_kinds.specs.declared.outcomes.Class.{Class}
use Rattle.farm_kinds.specs.declared.outcomes.Class.TheVariants.{High, Normal, Low}
use Rattle.farm_kinds.specs.Names.{is_name, is_name_byte, jury}
use Rattle.farm_kinds.specs.Kinds.{name_of}
use Rattle.farm_model.specs.Grammar.{line_read}
use Rattle.farm_model.specs.Texts.{class_words, image_words, list_words, event_words, actor_of, actor_words, event_text}
use Rattle.command_text.proofs.Readable.{IsName, IsNumber, AreNumbers, IsReadable, IsReadable-from_line}
use Rattle.stored_events.proofs.ShortLists.{ListsFew, lists_few}

-- how many bytes words take, with one between them and one behind
size_of : List (List ℕ) → ℕ
size_of [] = 0
size_of (w ∷ ws) = length w + 1 + size_of ws

joined_size : (ws : List (List ℕ)) → length (join_with_byte 32 ws) ≤ size_of ws
unfolding size_of
joined_size [] = omega arith
joined_size (w ∷ []) = omega arith
joined_size (w ∷ v ∷ ws) =
    let rest = joined_size (v ∷ ws) in
    let whole : length (join_with_byte 32 (w ∷ v ∷ ws)) ≡ length w + suc (length (join_with_byte 32 (v ∷ ws))) = length-append w (32 ∷ join_with_byte 32 (v ∷ ws)) in
    omega (arith, rest, whole)

size-append : (xs ys : List (List ℕ)) → size_of (xs ++ ys) ≡ size_of xs + size_of ys
unfolding size_of
size-append [] ys = omega arith
size-append (x ∷ xs) ys = omega (arith, size-append xs ys)

name_short : (name : List ℕ) → IsName name → length name ≤ 32
name_short name is = leb-true (length name) 32 (and_parts (nat_le 1 (length name)) (nat_le (length name) 32) (and_parts _ _ is).0).1

number_short : (n : ℕ) → IsNumber n → length (decimal n) ≤ 10
number_short n small = length-decimal-le 10 n (omega arith) (omega (arith, small)) (omega (arith, small))

kind_short : (k : Kind) → length (name_of k) ≤ 13
kind_short Correct = omega arith
kind_short WrongAnswer = omega arith
kind_short RunError = omega arith
kind_short TimeLimit = omega arith
kind_short NoOutput = omega arith
kind_short OutputLimit = omega arith
kind_short MemoryLimit = omega arith
kind_short JudgingError = omega arith

class_short : (class : Class) → size_of (class_words class) ≤ 5
unfolding size_of
class_short High = omega arith
class_short Normal = omega arith
class_short Low = omega arith

image_short : (broken : Bool) → size_of (image_words broken) ≤ 7
unfolding size_of
image_short true = omega arith
image_short false = omega arith

numbers_short : (ns : List ℕ) → AreNumbers ns → length (join_with_byte 44 (map decimal ns)) ≤ 11 * length ns
numbers_short [] small = omega arith
numbers_short (n ∷ []) small = omega (arith, number_short n small.0)
numbers_short (n ∷ m ∷ ns) small =
    let rest = numbers_short (m ∷ ns) small.1 in
    let whole : length (join_with_byte 44 (map decimal (n ∷ m ∷ ns))) ≡ length (decimal n) + suc (length (join_with_byte 44 (map decimal (m ∷ ns)))) = length-append (decimal n) (44 ∷ join_with_byte 44 (map decimal (m ∷ ns))) in
    omega (arith, number_short n small.0, rest, whole)

list_short : (ns : List ℕ) → AreNumbers ns → size_of (list_words ns) ≤ 11 * length ns + 1
unfolding size_of
list_short [] small = omega arith
list_short (n ∷ ns) small = omega (arith, numbers_short (n ∷ ns) small)

actor_short : (who : List ℕ) → IsName who → size_of (actor_words who) ≤ 34
unfolding size_of
actor_short who is =
    cond_both (bytes_eq who jury) [] ((64 ∷ who) ∷ []) (λ ws. size_of ws ≤ 34) (λ same. omega arith) (λ other. omega (arith, name_short who is))

actor_is_name : (e : Event) → IsReadable e → IsName (actor_of e)
actor_is_name (event.Problem who name tests) h = h.0
actor_is_name (event.Replace who name tests) h = h.0
actor_is_name (event.Rejudge who list) h = h.0
actor_is_name (event.Apply who r) h = h.0
actor_is_name (event.Cancel who r) h = h.0
actor_is_name (event.Verify who j) h = h.0
actor_is_name (event.Ask who j) h = h.0
actor_is_name (event.Host name) h = refl
actor_is_name (event.Submit problem class broken) h = refl
actor_is_name (event.Claim host) h = refl
actor_is_name (event.Fetch host most) h = refl
actor_is_name (event.Result host j test kind) h = refl
actor_is_name (event.Entry j test kind) h = refl
actor_is_name (event.Renew host j test) h = refl
actor_is_name (event.Tick moment) h = refl
actor_is_name (event.Down host) h = refl
actor_is_name (event.Show j) h = refl
actor_is_name (event.Owner j) h = refl
actor_is_name event.Board h = refl
actor_is_name (event.Matrix r) h = refl
actor_is_name event.Audit h = refl

words_size : (m : ℕ) (e : Event) → IsReadable e → ListsFew m e → size_of (event_words e) ≤ 11 * m + 200
unfolding size_of
words_size m (event.Problem who name tests) h few = omega (arith, name_short name h.1, number_short tests h.2)
words_size m (event.Replace who name tests) h few = omega (arith, name_short name h.1, number_short tests h.2)
words_size m (event.Host name) h few = omega (arith, name_short name h)
words_size m (event.Submit problem class broken) h few =
    omega (arith, name_short problem h, size-append (class_words class) (image_words broken), class_short class, image_short broken)
words_size m (event.Claim host) h few = omega (arith, name_short host h)
words_size m (event.Fetch host most) h few = omega (arith, name_short host h.0, number_short most (omega (arith, h.2)))
words_size m (event.Result host j test kind) h few = omega (arith, name_short host h.0, number_short j h.1, number_short test h.2, kind_short kind)
words_size m (event.Entry j test kind) h few = omega (arith, number_short j h.0, number_short test h.1, kind_short kind)
words_size m (event.Renew host j test) h few = omega (arith, name_short host h.0, number_short j h.1, number_short test h.2)
words_size m (event.Tick moment) h few = omega (arith, length-decimal-le 18 moment (omega arith) (omega (arith, h)) (omega (arith, h)))
words_size m (event.Down host) h few = omega (arith, name_short host h)
words_size m (event.Show j) h few = omega (arith, number_short j h)
words_size m (event.Owner j) h few = omega (arith, number_short j h)
words_size m event.Board h few = omega arith
words_size m (event.Rejudge who list) h few = omega (arith, list_short list h.1, few)
words_size m (event.Matrix r) h few = omega (arith, number_short r h)
words_size m (event.Apply who r) h few = omega (arith, number_short r h.1)
words_size m (event.Cancel who r) h few = omega (arith, number_short r h.1)
words_size m (event.Verify who j) h few = omega (arith, number_short j h.1)
words_size m (event.Ask who j) h few = omega (arith, number_short j h.1)
words_size m event.Audit h few = omega arith

pub text_short : (line : List ℕ) (e : Event) → line_read line ≡ Ok (Some e) → length line ≤ 4096 → length (event_text e) < 2 ^ 16
text_short line e is few =
    let readable = IsReadable-from_line line e is in
    let words = words_size (length line + 1) e readable (lists_few line e is) in
    let actor = actor_short (actor_of e) (actor_is_name e readable) in
    omega (arith, joined_size (actor_words (actor_of e) ++ event_words e), size-append (actor_words (actor_of e)) (event_words e), words, actor, few)
