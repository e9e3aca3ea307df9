-- What is wrong with a line of `submissions.txt` that is not NUMBER TEAM PROBLEM FILE. Of several mistakes the first in this
-- order is told: what cannot be seen comes before what can.
use Rattle.std.specs.Prelude.{ℕ, ◌-◌, List, [], ◌∷◌, length, take, drop, Bool, true, false, ◌==◌, if◌then◌else◌}
use Rattle.std.specs.Fmt.{decimal}
use Rattle.std.specs.List.{list_any}
use Rattle.std.specs.Str.{bytes_eq}
use Rattle.farm_kinds.specs.Names.{is_name}
use Rattle.problem_settings.specs.Lines.{parts}
use Rattle.contest_notes.specs.declared.mistakes.Mistake.{Mistake}
use Rattle.contest_notes.specs.declared.mistakes.Mistake.TheVariants as mistake

-- the byte order mark of UTF-8
abbrev pub has_mark : List ℕ → Bool
has_mark text = bytes_eq (take 3 text) (239 ∷ 187 ∷ 191 ∷ [])

abbrev pub begins_with : ℕ → List ℕ → Bool
begins_with byte [] = false
begins_with byte (b ∷ text) = b == byte

abbrev pub ends_in : ℕ → List ℕ → Bool
ends_in byte text = bytes_eq (drop (length text - 1) text) (byte ∷ [])

abbrev pub has_tab : List ℕ → Bool
has_tab text = list_any (λ b. b == 9) text

-- a space behind a space, where one may stand in front
abbrev pub two_spaces_from : Bool → List ℕ → Bool
two_spaces_from before [] = false
two_spaces_from before (b ∷ text) =
    if b == 32 then if before then true else two_spaces_from true text
    else two_spaces_from false text

abbrev pub has_two_spaces : List ℕ → Bool
has_two_spaces text = two_spaces_from false text

-- what is wrong with the words, where the line is to be the submission of this number
abbrev pub mistake_of_words : ℕ → List (List ℕ) → Mistake
mistake_of_words number (n ∷ team ∷ problem ∷ file ∷ []) =
    if bytes_eq n (decimal number) then
    if is_name team then if is_name problem then mistake.File else mistake.Problem
    else mistake.Team
    else mistake.Number
mistake_of_words number words = mistake.Words

abbrev pub mistake_in : ℕ → List ℕ → Mistake
mistake_in number text =
    if has_mark text then mistake.Mark
    else if ends_in 13 text then mistake.Return
    else if has_tab text then mistake.Tab
    else if begins_with 32 text then mistake.SpaceInFront
    else if ends_in 32 text then mistake.SpaceAtEnd
    else if has_two_spaces text then mistake.TwoSpaces
    else mistake_of_words number (parts 32 text)
