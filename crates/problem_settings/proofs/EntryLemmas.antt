-- Entries, and the lines that belong to them.
use Rattle.std.proofs.Common.{ℕ, ◌≡◌, List, [], ◌∷◌, ◌++◌, Bool, true, false, refl, sym, ap, ◌∙◌, arith, Ok, Err}
use Rattle.std.proofs.lemmas.List.{append-nil}
use Rattle.std.proofs.Math.Seq.{append_snoc}
use Rattle.std.proofs.lemmas.Bool.{false≢true}
use Rattle.std.specs.Prelude.{if◌then◌else◌, nat_lt, Some, is_none}
use Rattle.problem_settings.specs.declared.keys.Key.{Key}
use Rattle.std.proofs.lemmas.Bool.Decides.{nat_tests}
use Rattle.problem_settings.specs.declared.sizes.Sizes.{Sizes}
use Rattle.problem_settings.specs.declared.yaml.BadLine.{BadLine}
use Rattle.problem_settings.specs.declared.yaml.YamlWhy.{YamlWhy}
use Rattle.problem_settings.specs.Lines.{LineValue}
use Rattle.problem_settings.specs.Fields.{Field, indent_of, is_indented, is_indent, field_of, content_of}
use Rattle.problem_settings.specs.Entries.{entries, entries_after, bad, at_line, and_then}
use Rattle.problem_settings.specs.Sizes.{is_unknown_size, is_deeper, with_line, block_from}
use Rattle.problem_settings.specs.ProblemYaml.{Said, key_named, with_key, with_entry, said_from, belongs, is_unknown_key}
use Rattle.problem_settings.specs.Views.{front, past, is_under, below}

split_at : (t : Bool) (belongs : LineValue → LineValue → Bool) (head : LineValue) (before : List LineValue) (line : LineValue) (lines : List LineValue)
    → entries_after belongs head (before ++ line ∷ []) lines
    ≡ record { head = head; below = before ++ line ∷ [] ++ front (belongs head) lines } ∷ entries belongs (past (belongs head) lines)
    → (if t then entries_after belongs head (before ++ line ∷ []) lines else record { head = head; below = before } ∷ entries_after belongs line [] lines)
    ≡ record { head = head; below = before ++ (if t then line ∷ front (belongs head) lines else []) } ∷ entries belongs (if t then past (belongs head) lines else line ∷ lines)
split_at true belongs head before line lines h =
    h ∙ ap (λ (b : List LineValue). record { head = head; below = b } ∷ entries belongs (past (belongs head) lines)) (append_snoc before line (front (belongs head) lines))
split_at false belongs head before line lines h =
    ap (λ (b : List LineValue). record { head = head; below = b } ∷ entries_after belongs line [] lines) (sym (append-nil before))

-- an entry ends before the first line that does not belong to it
entries_split : (belongs : LineValue → LineValue → Bool) (head : LineValue) (before lines : List LineValue)
    → entries_after belongs head before lines
    ≡ record { head = head; below = before ++ front (belongs head) lines } ∷ entries belongs (past (belongs head) lines)
entries_split belongs head before [] = ap (λ (b : List LineValue). record { head = head; below = b } ∷ []) (sym (append-nil before))
entries_split belongs head before (line ∷ lines) =
    split_at (belongs head line) belongs head before line lines (entries_split belongs head (before ++ line ∷ []) lines)

pub entries_first : (belongs : LineValue → LineValue → Bool) (head : LineValue) (lines : List LineValue)
    → entries belongs (head ∷ lines) ≡ record { head = head; below = front (belongs head) lines } ∷ entries belongs (past (belongs head) lines)
entries_first belongs head lines = entries_split belongs head [] lines

past_front_step : (p q : LineValue → Bool) (line : LineValue) (lines : List LineValue) (s t : Bool)
    → p line ≡ s → q line ≡ t → (s ≡ true → t ≡ true) → past p (front q lines) ≡ front q (past p lines)
    → past p (front q (line ∷ lines)) ≡ front q (past p (line ∷ lines))
past_front_step p q line lines true true ep eq h e = simp (ep, eq) e
past_front_step p q line lines true false ep eq h e = absurd (false≢true (h refl))
past_front_step p q line lines false true ep eq h e = simp (ep, eq) refl
past_front_step p q line lines false false ep eq h e = simp (ep, eq) refl

-- lines that pass a stronger test are left out the same before and after
pub past_front : (p q : LineValue → Bool) (lines : List LineValue) → ((line : LineValue) → p line ≡ true → q line ≡ true)
    → past p (front q lines) ≡ front q (past p lines)
past_front p q [] h = refl
past_front p q (line ∷ lines) h = past_front_step p q line lines (p line) (q line) refl refl (h line) (past_front p q lines h)

-- ---- blocks

indent_first : (depth b : ℕ) (bs : List ℕ) (t : Bool) → is_indent b ≡ t → nat_lt depth (indent_of (b ∷ bs)) ≡ true → is_indented (b ∷ bs) ≡ true
indent_first depth b bs true e h = e
indent_first depth b bs false e h = let none : nat_lt depth 0 ≡ true = rw e at h in grind (arith, nat_tests)

indent_some : (depth : ℕ) (text : List ℕ) → nat_lt depth (indent_of text) ≡ true → is_indented text ≡ true
indent_some depth [] h = grind (arith, nat_tests)
indent_some depth (b ∷ bs) h = indent_first depth b bs (is_indent b) refl h

deeper_if : (t : Bool) (head line : LineValue) → (if t then nat_lt (indent_of head.text) (indent_of line.text) else false) ≡ true → is_under line ≡ true
deeper_if true head line h = indent_some (indent_of head.text) line.text h
deeper_if false head line h = absurd (false≢true h)

pub deeper_under : (head line : LineValue) → is_deeper head line ≡ true → is_under line ≡ true
deeper_under head line h = deeper_if (is_unknown_size (field_of (content_of head.text))) head line h

-- the sizes of an item, and then those of the items behind it
pub block_step : (depth : ℕ) (sizes more : Sizes) (line : LineValue) (lines : List LineValue)
    → is_under line ≡ true → with_line depth sizes line.text ≡ Ok more
    → block_from depth sizes (entries is_deeper (below (line ∷ lines))) ≡ block_from depth more (entries is_deeper (below (past (is_deeper line) lines)))
block_step depth sizes more line lines under said =
    ap (λ t. block_from depth sizes (entries is_deeper (if t then line ∷ below lines else []))) under
    ∙ ap (block_from depth sizes) (entries_first is_deeper line (below lines))
    ∙ ap (λ r. and_then (λ next. block_from depth next (entries is_deeper (past (is_deeper line) (below lines)))) (at_line line r)) said
    ∙ ap (λ ls. block_from depth more (entries is_deeper ls)) (past_front (is_deeper line) is_under lines (deeper_under line))

-- an item with a fault
pub block_stop : (depth : ℕ) (sizes : Sizes) (why : YamlWhy) (line : LineValue) (lines : List LineValue)
    → is_under line ≡ true → with_line depth sizes line.text ≡ Err why
    → block_from depth sizes (entries is_deeper (below (line ∷ lines))) ≡ bad line why
block_stop depth sizes why line lines under said =
    ap (λ t. block_from depth sizes (entries is_deeper (if t then line ∷ below lines else []))) under
    ∙ ap (block_from depth sizes) (entries_first is_deeper line (below lines))
    ∙ ap (λ r. and_then (λ next. block_from depth next (entries is_deeper (past (is_deeper line) (below lines)))) (at_line line r)) said

-- an item that takes no lines along
pub past_none : (head : LineValue) (lines : List LineValue) → is_unknown_size (field_of (content_of head.text)) ≡ false → past (is_deeper head) lines ≡ lines
past_none head [] h = refl
past_none head (line ∷ lines) h = rw h refl

-- ---- entries of known keys

known_step : (t : Bool) (head line : LineValue) (lines : List LineValue) → is_under line ≡ t → is_unknown_key (field_of head.text) ≡ false
    → front (belongs head) lines ≡ below lines → front (belongs head) (line ∷ lines) ≡ below (line ∷ lines)
known_step true head line lines under h e = simp (under, h) (ap (λ ls. line ∷ ls) e)
known_step false head line lines under h e = simp (under, h) refl

-- only indented lines belong to an entry whose key is known
pub known_front : (head : LineValue) (lines : List LineValue) → is_unknown_key (field_of head.text) ≡ false → front (belongs head) lines ≡ below lines
known_front head [] h = refl
known_front head (line ∷ lines) h = known_step (is_under line) head line lines refl h (known_front head lines h)

-- what the entry of a known key says
pub known_entry : (said : Said) (head : LineValue) (lines : List LineValue) (field : Field) (key : Key)
    → is_indented head.text ≡ false → field_of head.text ≡ Some field → key_named field.key ≡ Some key
    → with_entry said record { head = head; below = front (belongs head) lines }
    ≡ with_key (Some key) said record { head = head; below = below lines } field.value
known_entry said head lines field key stands is named =
    let known : is_unknown_key (field_of head.text) ≡ false = ap is_unknown_key is ∙ ap is_none named in
    let Known : List LineValue → Type 0 = λ ls.
    with_entry said record { head = head; below = ls } ≡ with_key (Some key) said record { head = head; below = ls } field.value in
    let all : (ls : List LineValue) → Known ls = λ ls. simp (stands, is, named) refl in
    all (front (belongs head) lines)
    ∙ ap (λ (ls : List LineValue). with_key (Some key) said record { head = head; below = ls } field.value) (known_front head lines known)

-- what an entry says, and then what those behind it say
pub said_step : (said more : Said) (head : LineValue) (lines : List LineValue)
    → with_entry said record { head = head; below = front (belongs head) lines } ≡ Ok more
    → said_from said (entries belongs (head ∷ lines)) ≡ said_from more (entries belongs (past (belongs head) lines))
said_step said more head lines h =
    ap (said_from said) (entries_first belongs head lines)
    ∙ ap (and_then (λ next. said_from next (entries belongs (past (belongs head) lines)))) h

-- an entry with a fault
pub said_stop : (said : Said) (fault : BadLine) (head : LineValue) (lines : List LineValue)
    → with_entry said record { head = head; below = front (belongs head) lines } ≡ Err fault
    → said_from said (entries belongs (head ∷ lines)) ≡ Err fault
said_stop said fault head lines h =
    ap (said_from said) (entries_first belongs head lines)
    ∙ ap (and_then (λ next. said_from next (entries belongs (past (belongs head) lines)))) h
