-- The submissions of a contest are the lines of its list.
use Rattle.std.proofs.Common.{ℕ, zero, suc, ◌≡◌, ◌+◌, ◌≤◌, ◌<◌, List, [], ◌∷◌, ◌++◌, Option, Some, None, Result, Ok, Err, Bool, true, false, cond, not, ◌||◌, ◌&&◌, refl, sym, ap, ◌∙◌, subst, arith, length, map, filter, find, take, fold, eqb, Contains}
use Rattle.std.specs.Prelude.{⊤, codes, is_none, nat_le}
use Rattle.std.specs.Str.{bytes_eq}
use Rattle.std.specs.List.{sum}
use Rattle.std.specs.Fmt.{decimal}
use Rattle.std.proofs.lemmas.Bool.{and_parts, le-leb, lt-leb}
use Rattle.std.proofs.lemmas.Bool.Decides.{nat_tests}
use Rattle.std.proofs.lemmas.Option.{same_Some}
use Rattle.std.proofs.lemmas.Slice.Eq.{bytes_eq-Decides}
use Rattle.farm_kinds.specs.Names.{is_name}
use Rattle.farm_tree.specs.declared.reads.TreeFile.{TreeFile}
use Rattle.farm_tree.specs.Reading.{file_at, file_limit}
use Rattle.farm_tree.specs.Listing.{in_folder}
use Rattle.problem_settings.specs.Lines.{parts, onto_first}
use Rattle.contest_folder.specs.declared.roster.Problem.{Problem}
use Rattle.contest_folder.specs.declared.roster.Submission.{Submission}
use Rattle.contest_folder.specs.declared.faults.ContestFault.{ContestFault}
use Rattle.contest_folder.specs.declared.faults.ContestFault.TheVariants.{TooMuch, TooManySubmissions, TooLarge}
use Rattle.contest_folder.specs.RosterValue.{RosterValue}
use Rattle.contest_folder.specs.RosterShape.{submission_limit}
use Rattle.contest_folder.specs.Telling.{and_then, with_first, file_within, file_in}
use Rattle.contest_folder.specs.Problems.{problems_in}
use Rattle.contest_folder.specs.SubmissionLines.{is_blank, is_comment, is_entry, is_file_name, entry_of_words, entry_of, entry_or_fault, entries_from, entries_of, lacks_problem, entries_placed, entries_checked, entries_said}
use Rattle.contest_folder.specs.Images.{images_of, held_of, image_file, lacks_image, held_or_none, submission_of, total_limit, added, added_all, total_of, submissions_within, submissions_imaged, submissions_in}
use Rattle.contest_folder.specs.Contest.{contest_of, settings_in, with_settings, with_problems, with_entries, roster_with}
use Rattle.contest_folder.proofs.Items.{none_is}
use Rattle.package_folder.proofs.Members.{first_in, later_in}
use Rattle.definition_laws.specs.SaidLines.{said_lines, AreSaid}

-- what a line says: its crate names the type to no other
abbrev said_by_lines : {A : Type 0} → (ℕ → ℕ → List ℕ → Option A) → Type 0
said_by_lines {A} f = A

abbrev Entry : Type 0
Entry = said_by_lines entry_of

then_ok : {A B : Type 0} (next : A → Result B ContestFault) (r : Result A ContestFault) (b : B) → and_then next r ≡ Ok b → (a : A) × (r ≡ Ok a) × (next a ≡ Ok b)
then_ok next (Ok a) b e = (a, refl, e)
then_ok next (Err f) b e = let no' : ⊥ = cc in absurd no'

-- ---- a line that was cut is its parts with the separator between them

abbrev joined : ℕ → List (List ℕ) → List ℕ
joined sep [] = []
joined sep (p ∷ []) = p
joined sep (p ∷ q ∷ ps) = p ++ sep ∷ joined sep (q ∷ ps)

some_parts : (sep : ℕ) (text : List ℕ) → (p : List ℕ) × (ps : List (List ℕ)) × (parts sep text ≡ p ∷ ps)
some_parts sep [] = ([], [], refl)
some_parts sep (b ∷ bs) = by (eqb b sep) (some_parts sep bs)
  where
    by : (t : Bool) → ((p : List ℕ) × (ps : List (List ℕ)) × (parts sep bs ≡ p ∷ ps)) → (p : List ℕ) × (ps : List (List ℕ)) × (cond t ([] ∷ parts sep bs) (onto_first b (parts sep bs)) ≡ p ∷ ps)
    by true rest = ([], parts sep bs, refl)
    by false rest = (b ∷ rest.0, rest.1, ap (onto_first b) rest.2)

joined_behind : (sep : ℕ) (p : List ℕ) (ps : List (List ℕ)) → joined sep ([] ∷ p ∷ ps) ≡ sep ∷ joined sep (p ∷ ps)
joined_behind sep p ps = refl

joined_onto : (sep b : ℕ) (p : List ℕ) (ps : List (List ℕ)) → joined sep ((b ∷ p) ∷ ps) ≡ b ∷ joined sep (p ∷ ps)
joined_onto sep b p [] = refl
joined_onto sep b p (q ∷ ps) = refl

parts_joined : (sep : ℕ) (text : List ℕ) → joined sep (parts sep text) ≡ text
parts_joined sep [] = refl
parts_joined sep (b ∷ bs) = by (eqb b sep) refl (some_parts sep bs) (parts_joined sep bs)
  where
    by : (t : Bool) → eqb b sep ≡ t → ((p : List ℕ) × (ps : List (List ℕ)) × (parts sep bs ≡ p ∷ ps)) → joined sep (parts sep bs) ≡ bs → joined sep (cond t ([] ∷ parts sep bs) (onto_first b (parts sep bs))) ≡ b ∷ bs
    by true e some rest =
        let same : b ≡ sep = grind (arith, nat_tests) in
        ap (λ (z : List (List ℕ)). joined sep ([] ∷ z)) some.2
        ∙ (joined_behind sep some.0 some.1 ∙ (ap (λ (z : List (List ℕ)). sep ∷ joined sep z) (sym some.2) ∙ (ap (λ (z : List ℕ). sep ∷ z) rest ∙ ap (λ (c : ℕ). c ∷ bs) (sym same))))
    by false e some rest =
        ap (λ (z : List (List ℕ)). joined sep (onto_first b z)) some.2
        ∙ (joined_onto sep b some.0 some.1 ∙ (ap (λ (z : List (List ℕ)). b ∷ joined sep z) (sym some.2) ∙ ap (λ (z : List ℕ). b ∷ z) rest))

-- ---- what a line says

record IsLine (number : ℕ) (text : List ℕ) (entry : Entry) : Type 0 where
  pub line_is : text ≡ decimal number ++ 32 ∷ (entry.team ++ 32 ∷ (entry.problem ++ 32 ∷ entry.file))

four_words : (text n team problem file : List ℕ) → parts 32 text ≡ n ∷ team ∷ problem ∷ file ∷ [] → text ≡ n ++ 32 ∷ (team ++ 32 ∷ (problem ++ 32 ∷ file))
four_words text n team problem file e = sym (parts_joined 32 text) ∙ ap (joined 32) e

abbrev made_entry : ℕ → List ℕ → List ℕ → List ℕ → Entry
made_entry line team problem file = record { line = line; team = team; problem = problem; file = file }

words_say : (line number : ℕ) (text : List ℕ) (words : List (List ℕ)) (entry : Entry) → parts 32 text ≡ words → entry_of_words line number words ≡ Some entry → IsLine number text entry
words_say line number text [] entry is e = let no' : ⊥ = cc in absurd no'
words_say line number text (n ∷ []) entry is e = let no' : ⊥ = cc in absurd no'
words_say line number text (n ∷ team ∷ []) entry is e = let no' : ⊥ = cc in absurd no'
words_say line number text (n ∷ team ∷ problem ∷ []) entry is e = let no' : ⊥ = cc in absurd no'
words_say line number text (n ∷ team ∷ problem ∷ file ∷ more ∷ words) entry is e = let no' : ⊥ = cc in absurd no'
words_say line number text (n ∷ team ∷ problem ∷ file ∷ []) entry is e = by (is_entry number n team problem file) refl e
  where
    by : (t : Bool) → is_entry number n team problem file ≡ t → cond t (Some (made_entry line team problem file)) None ≡ Some entry → IsLine number text entry
    by true f g =
        let prefix = and_parts (bytes_eq n (decimal number) && is_name team && is_name problem) (is_file_name file) f in
        let names = and_parts (bytes_eq n (decimal number) && is_name team) (is_name problem) prefix.0 in
        let first' = and_parts (bytes_eq n (decimal number)) (is_name team) names.0 in
        let same_number : n ≡ decimal number = (bytes_eq-Decides n (decimal number)).0 first'.0 in
        subst (λ (x : Entry). IsLine number text x) (same_Some (made_entry line team problem file) entry g)
        (record { line_is = four_words text n team problem file is ∙ ap (λ (z : List ℕ). z ++ 32 ∷ (team ++ 32 ∷ (problem ++ 32 ∷ file))) same_number })
    by false f g = let no' : ⊥ = cc in absurd no'

-- ---- the lines one after the other

abbrev speaks : List ℕ → Bool
speaks line = not (is_blank line || is_comment line)

abbrev EntriesSaid : ℕ → List (List ℕ) → List Entry → Type 0
EntriesSaid number [] [] = ⊤
EntriesSaid number [] (entry ∷ entries) = ⊥
EntriesSaid number (line ∷ lines) [] = ⊥
EntriesSaid number (line ∷ lines) (entry ∷ entries) = IsLine number line entry × EntriesSaid (number + 1) lines entries

entry_read : (line : ℕ) (o : Option Entry) (entry : Entry) → entry_or_fault line o ≡ Ok entry → o ≡ Some entry
entry_read line None entry e = let no' : ⊥ = cc in absurd no'
entry_read line (Some x) entry e = let same : x ≡ entry = cc in ap (λ (y : Entry). Some y) same

entries_are : (line number : ℕ) (texts : List (List ℕ)) (entries : List Entry) → entries_from line number texts ≡ Ok entries → EntriesSaid number (filter speaks texts) entries
entries_are line number [] [] e = tt
entries_are line number [] (entry ∷ entries) e = let no' : ⊥ = cc in no'
entries_are line number (text ∷ texts) entries e = by (is_blank text || is_comment text) e (entries_are (line + 1) number texts entries) (λ rest. entries_are (line + 1) (number + 1) texts rest)
  where
    by : (t : Bool) → cond t (entries_from (line + 1) number texts) (and_then (λ entry. with_first entry (entries_from (line + 1) (number + 1) texts)) (entry_or_fault line (entry_of line number text))) ≡ Ok entries
        → (entries_from (line + 1) number texts ≡ Ok entries → EntriesSaid number (filter speaks texts) entries)
        → ((rest : List Entry) → entries_from (line + 1) (number + 1) texts ≡ Ok rest → EntriesSaid (number + 1) (filter speaks texts) rest)
        → EntriesSaid number (cond (not t) (text ∷ filter speaks texts) (filter speaks texts)) entries
    by true f same more = same f
    by false f same more =
        let first' = then_ok (λ entry. with_first entry (entries_from (line + 1) (number + 1) texts)) (entry_or_fault line (entry_of line number text)) entries f in
        let others = then_ok (λ rest. Ok (first'.0 ∷ rest)) (entries_from (line + 1) (number + 1) texts) entries first'.2 in
        let whole : first'.0 ∷ others.0 ≡ entries = let g = others.2 in cc in
        subst (λ (es : List Entry). EntriesSaid number (text ∷ filter speaks texts) es) whole
        (words_say line number text (parts 32 text) first'.0 refl (entry_read line (entry_of line number text) first'.0 first'.1), more others.0 others.1)

-- ---- with their images

none_lacks : (files : List TreeFile) (folder : List ℕ) (entries : List Entry) → find (lacks_image files folder) entries ≡ None → (entry : Entry) → Contains entries entry → is_none (image_file files folder entry) ≡ false
none_lacks files folder entries e entry h = none_is (lacks_image files folder) entries h.0 entry e h.1 (sym h.2)

image_there : (o : Option (List ℕ)) → is_none o ≡ false → (bytes : List ℕ) × (o ≡ Some bytes) × (held_or_none o ≡ held_of bytes)
image_there None e = let no' : ⊥ = cc in absurd no'
image_there (Some bytes) e = (bytes, refl, refl)

are_said : (files : List TreeFile) (path : List ℕ) (number : ℕ) (lines : List (List ℕ)) (entries : List Entry) → EntriesSaid number lines entries
    → ((entry : Entry) → Contains entries entry → is_none (image_file files (images_of path) entry) ≡ false) → AreSaid files path number lines (map (submission_of files (images_of path)) entries)
are_said files path number [] [] said images = tt
are_said files path number [] (entry ∷ entries) said images = said
are_said files path number (line ∷ lines) [] said images = said
are_said files path number (line ∷ lines) (entry ∷ entries) said images =
    let image = image_there (image_file files (images_of path) entry) (images entry (first_in entry entries)) in (
      (entry.file, image.0, said.0.line_is, image.1, image.2),
      are_said files path (number + 1) lines entries said.1 (λ other h. images other (later_in entry other entries h)),
    )

-- ---- a contest that was read

imaged : (o : Option Entry) (problems : List Problem) (submissions read : List Submission) → submissions_imaged o problems submissions ≡ Ok read → (o ≡ None) × (submissions ≡ read)
imaged (Some entry) problems submissions read e = let no' : ⊥ = cc in absurd no'
imaged None problems submissions read e = (refl, counted (nat_le (length submissions) submission_limit) e)
  where
    within : (t : Bool) → cond t (Ok submissions) (Err (TooMuch (total_of problems submissions))) ≡ Ok read → submissions ≡ read
    within true f = let same : submissions ≡ read = cc in same
    within false f = let no' : ⊥ = cc in absurd no'

    counted : (t : Bool) → cond t (submissions_within problems submissions) (Err (TooManySubmissions (length submissions))) ≡ Ok read → submissions ≡ read
    counted true f = within (nat_le (total_of problems submissions) total_limit) f
    counted false f = let no' : ⊥ = cc in absurd no'

placed : (o : Option Entry) (entries read : List Entry) → entries_placed o entries ≡ Ok read → entries ≡ read
placed (Some entry) entries read e = let no' : ⊥ = cc in absurd no'
placed None entries read e = let same : entries ≡ read = cc in same

list_read : (files : List TreeFile) (path : List ℕ) (o : Option (List ℕ)) → file_in files path (codes "submissions.txt") ≡ Ok o → (text : List ℕ) → o ≡ Some text → file_at files (in_folder path (codes "submissions.txt")) ≡ Some text
list_read files path o e text is = by (file_at files (in_folder path (codes "submissions.txt"))) e
  where
    small : (bytes : List ℕ) (t : Bool) → cond t (Ok (Some bytes)) (Err (TooLarge (codes "submissions.txt") (length bytes))) ≡ Ok o → Some bytes ≡ Some text
    small bytes true f = let same : Some bytes ≡ o = cc in same ∙ is
    small bytes false f = let no' : ⊥ = cc in absurd no'

    by : (w : Option (List ℕ)) → file_within (codes "submissions.txt") w ≡ Ok o → w ≡ Some text
    by None f = let same : None ≡ o = cc in let no' : None ≡ Some text = same ∙ is in let bad : ⊥ = cc in absurd bad
    by (Some bytes) f = small bytes (nat_le (length bytes) file_limit) f

said_by : (problems : List Problem) (o : Option (List ℕ)) (entries : List Entry) → entries_said problems o ≡ Ok entries → (text : List ℕ) × (o ≡ Some text) × (entries_of text ≡ Ok entries)
said_by problems None entries e = let no' : ⊥ = cc in absurd no'
said_by problems (Some text) entries e =
    let read = then_ok (entries_checked problems) (entries_of text) entries e in
    (text, refl, read.1 ∙ ap (λ (es : List Entry). Ok es) (placed (find (lacks_problem problems) read.0) read.0 entries read.2))

abbrev submissions_of : Result RosterValue ContestFault → List Submission
submissions_of (Ok roster) = roster.submissions
submissions_of (Err e) = []

pub listed_submissions : (files : List TreeFile) (path : List ℕ) (roster : RosterValue) → contest_of files path ≡ Ok roster
    → (text : List ℕ) × (file_at files (in_folder path (codes "submissions.txt")) ≡ Some text) × AreSaid files path 1 (said_lines text) roster.submissions
unfolding contest_of
listed_submissions files path roster e =
    let settings = then_ok (with_settings files path) (settings_in files path) roster e in
    let problems = then_ok (with_problems files path settings.0) (problems_in files path settings.0.ips) roster settings.2 in
    let list = file_in files path (codes "submissions.txt") in
    let entries = then_ok (with_entries files path settings.0 problems.0) (and_then (entries_said problems.0) list) roster problems.2 in
    let said = then_ok (entries_said problems.0) list entries.0 entries.1 in
    let submissions = then_ok (roster_with settings.0 problems.0) (submissions_in files (images_of path) problems.0 entries.0) roster entries.2 in
    let kept : submissions.0 ≡ roster.submissions = ap submissions_of submissions.2 in
    let text = said_by problems.0 said.0 entries.0 said.2 in
    let images = imaged (find (lacks_image files (images_of path)) entries.0) problems.0 (map (submission_of files (images_of path)) entries.0) submissions.0 submissions.1 in (
      text.0,
      list_read files path said.0 said.1 text.0 text.1,
      subst (λ (s : List Submission). AreSaid files path 1 (said_lines text.0) s) (images.1 ∙ kept)
          (are_said files path 1 (said_lines text.0) entries.0 (entries_are 1 1 (parts 10 text.0) entries.0 text.2) (none_lacks files (images_of path) entries.0 images.0)),
    )

-- ---- sizes

-- the sum onto a number
abbrev onto : ℕ → List ℕ → ℕ
onto n sizes = fold (λ a x. a + x) n sizes

onto_grows : (n : ℕ) (sizes : List ℕ) → n ≤ onto n sizes
onto_grows n [] = omega arith
onto_grows n (size ∷ sizes) = let rest = onto_grows (n + size) sizes in omega (arith, rest)

within_onto : (n : ℕ) (sizes : List ℕ) → onto n sizes ≤ total_limit → added_all n sizes ≡ onto n sizes
within_onto n [] h = refl
within_onto n (size ∷ sizes) h =
    let less = onto_grows (n + size) sizes in
    let one : added n size ≡ n + size = ap (λ (t : Bool). cond t (n + size) n) (le-leb n total_limit (omega (arith, less, h))) in
    ap (λ (m : ℕ). added_all m sizes) one ∙ within_onto (n + size) sizes h

full_stays : (n : ℕ) (sizes : List ℕ) → total_limit < n → added_all n sizes ≡ n
full_stays n [] h = refl
full_stays n (size ∷ sizes) h =
    let one : added n size ≡ n = ap (λ (t : Bool). cond t (n + size) n) (lt-leb n total_limit h) in
    ap (λ (m : ℕ). added_all m sizes) one ∙ full_stays n sizes h

onto_first_past : (n : ℕ) (sizes : List ℕ) (k : ℕ) → onto n (take k sizes) ≤ total_limit → total_limit < onto n (take (suc k) sizes) → added_all n sizes ≡ onto n (take (suc k) sizes)
onto_first_past n [] k h over = absurd (nothing k h over)
  where
    nothing : (j : ℕ) → onto n (take j []) ≤ total_limit → total_limit < onto n (take (suc j) []) → ⊥
    nothing zero f g = omega arith
    nothing (suc j) f g = omega arith
onto_first_past n (size ∷ sizes) zero h over =
    let one : added n size ≡ n + size = ap (λ (t : Bool). cond t (n + size) n) (le-leb n total_limit h) in
    ap (λ (m : ℕ). added_all m sizes) one ∙ full_stays (n + size) sizes over
onto_first_past n (size ∷ sizes) (suc k) h over =
    let less = onto_grows (n + size) (take k sizes) in
    let one : added n size ≡ n + size = ap (λ (t : Bool). cond t (n + size) n) (le-leb n total_limit (omega (arith, less, h))) in
    ap (λ (m : ℕ). added_all m sizes) one ∙ onto_first_past (n + size) sizes k h over

pub within : (sizes : List ℕ) → sum sizes ≤ total_limit → added_all 0 sizes ≡ sum sizes
within sizes h = within_onto 0 sizes h

pub first_past : (sizes : List ℕ) (k : ℕ) → sum (take k sizes) ≤ total_limit → total_limit < sum (take (k + 1) sizes) → added_all 0 sizes ≡ sum (take (k + 1) sizes)
first_past sizes k h over =
    let e : k + 1 ≡ suc k = omega arith in
    subst (λ (n : ℕ). total_limit < sum (take n sizes) → added_all 0 sizes ≡ sum (take n sizes)) (sym e) (onto_first_past 0 sizes k h) over
