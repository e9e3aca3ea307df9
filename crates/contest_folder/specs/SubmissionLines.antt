-- The lines of `submissions.txt`.
use Rattle.std.specs.Prelude.{ℕ, ◌+◌, List, [], ◌∷◌, length, find, if◌then◌else◌, Bool, false, not, ◌&&◌, ◌||◌, ◌==◌, nat_le, Option, Some, None, is_none, Result, Ok, Err}
use Rattle.std.specs.Char.{is_ascii_alphanumeric}
use Rattle.std.specs.Fmt.{decimal}
use Rattle.std.specs.List.{list_all}
use Rattle.std.specs.Str.{bytes_eq}
use Rattle.farm_kinds.specs.Names.{is_name}
use Rattle.problem_settings.specs.Lines.{parts}
use Rattle.contest_folder.specs.declared.roster.Problem.{Problem}
use Rattle.contest_folder.specs.declared.lines.Entry.{Entry}
use Rattle.contest_folder.specs.declared.faults.ContestFault.{ContestFault}
use Rattle.contest_folder.specs.declared.faults.ContestFault.TheVariants as fault
use Rattle.contest_folder.specs.RosterShape.{problem_named}
use Rattle.contest_folder.specs.Telling.{and_then, with_first}

-- nothing but spaces
abbrev pub is_blank : List ℕ → Bool
is_blank line = list_all (λ b. b == 32) line

-- `#` in front
abbrev pub is_comment : List ℕ → Bool
is_comment [] = false
is_comment (b ∷ line) = b == 35

-- a letter, a digit, `_`, `-` or `.`
abbrev pub is_file_byte : ℕ → Bool
is_file_byte b = is_ascii_alphanumeric b || b == 95 || b == 45 || b == 46

-- no `.` in front
abbrev pub is_hidden : List ℕ → Bool
is_hidden [] = false
is_hidden (b ∷ word) = b == 46

-- 1 to 64 such bytes, of which the first is no `.`
abbrev pub is_file_name : List ℕ → Bool
is_file_name word =
    nat_le 1 (length word) && nat_le (length word) 64 && not (is_hidden word) && list_all is_file_byte word

-- the words are a submission of this number
abbrev pub is_entry : ℕ → List ℕ → List ℕ → List ℕ → List ℕ → Bool
is_entry number n team problem file =
    bytes_eq n (decimal number) && is_name team && is_name problem && is_file_name file

-- what the words of a line say: NUMBER TEAM PROBLEM FILE
abbrev pub entry_of_words : ℕ → ℕ → List (List ℕ) → Option Entry
entry_of_words line number (n ∷ team ∷ problem ∷ file ∷ []) =
    if is_entry number n team problem file then Some record { line = line; team = team; problem = problem; file = file }
    else None
entry_of_words line number words = None

-- what the line says that is to be this submission; single spaces are between its words
abbrev pub entry_of : ℕ → ℕ → List ℕ → Option Entry
entry_of line number text = entry_of_words line number (parts 32 text)

abbrev pub entry_or_fault : ℕ → Option Entry → Result Entry ContestFault
entry_or_fault line None = Err (fault.BadLine line)
entry_or_fault line (Some entry) = Ok entry

-- what the lines say, of which the first has this number, and the first submission this one
abbrev pub entries_from : ℕ → ℕ → List (List ℕ) → Result (List Entry) ContestFault
entries_from line number [] = Ok []
entries_from line number (text ∷ texts) =
    if is_blank text || is_comment text then entries_from (line + 1) number texts
    else and_then (λ entry. with_first entry (entries_from (line + 1) (number + 1) texts))
    (entry_or_fault line (entry_of line number text))

-- what the text says; its lines end at line feeds
abbrev pub entries_of : List ℕ → Result (List Entry) ContestFault
entries_of text = entries_from 1 1 (parts 10 text)

-- no problem has the name
abbrev pub lacks_problem : List Problem → Entry → Bool
lacks_problem problems entry = is_none (problem_named problems entry.problem)

abbrev pub entries_placed : Option Entry → List Entry → Result (List Entry) ContestFault
entries_placed (Some entry) entries = Err (fault.NoProblem entry.line)
entries_placed None entries = Ok entries

-- each is one to a problem that is there
abbrev pub entries_checked : List Problem → List Entry → Result (List Entry) ContestFault
entries_checked problems entries = entries_placed (find (lacks_problem problems) entries) entries

abbrev pub entries_in : List Problem → List ℕ → Result (List Entry) ContestFault
entries_in problems text = and_then (entries_checked problems) (entries_of text)

-- what `submissions.txt` says
abbrev pub entries_said : List Problem → Option (List ℕ) → Result (List Entry) ContestFault
entries_said problems None = Err fault.NoList
entries_said problems (Some text) = entries_in problems text
