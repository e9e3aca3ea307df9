-- How the judging of a contest ends.
use Rattle.std.specs.Prelude.{◌≡◌, ◌⊎◌, ℕ, List, ◌∷◌, ◌++◌, [], Bool, true, false, codes, Option, Some, None, Result, Ok, Err, IfSome, take}
use Rattle.std.specs.Fmt.{decimal}
use Rattle.std.specs.List.{flat_map}
use Rattle.std.specs.Option.{IsSomeAnd}
use Rattle.std.specs.Io.KnownBytes.{Appends}
use Rattle.farm_tree.specs.declared.reads.TreeFile.{TreeFile}
use Rattle.farm_model.specs.Texts.{event_text, reply_text, table_text}
use Rattle.farm_board.specs.declared.entries.Call.{Call}
use Rattle.contest_folder.specs.declared.faults.ContestFault.{ContestFault}
use Rattle.contest_folder.specs.RosterValue.{RosterValue}
use Rattle.contest_folder.specs.Contest.{contest_of}
use Rattle.contest_folder.specs.FaultTexts.{contest_fault_text}
use Rattle.parallel_judge.specs.Journal.{IsJournal}
use Rattle.parallel_judge.specs.Table.{table_rows}
use Rattle.exit_status.specs.declared.exit.Exit.{Exit}
use Rattle.exit_status.specs.declared.exit.Exit.TheVariants as exit

-- what the folder at the path is, where the tree tells its files
abbrev pub ContestIs : Option (List TreeFile) → List ℕ → Result RosterValue ContestFault → Type 0
ContestIs files folder contest = IfSome files (λ held. contest_of held folder ≡ contest)

-- the line that says why a folder is no contest
abbrev pub contest_line : ContestFault → List ℕ
contest_line fault = codes "bad contest: " ++ contest_fault_text fault ++ 10 ∷ []

-- `journal PASS LINE => REPLY`
abbrev pub journal_line : Call → List ℕ
journal_line call =
    codes "journal " ++ decimal call.number ++ codes " " ++ event_text call.event ++ codes " => "
    ++ reply_text call.reply

abbrev pub journal_text : List Call → List ℕ
journal_text calls = flat_map journal_line calls

-- the text of a journal, where one was asked for
abbrev pub history_text : Option (List Call) → List ℕ
history_text None = []
history_text (Some calls) = journal_text calls

-- the table, whose verdicts are what running every test in rank order on one thread gives, and behind it, where a
-- journal is asked for, a line for each call of one
abbrev pub IsReport : RosterValue → ℕ → Bool → List ℕ → Type 0
IsReport roster hosts false text = text ≡ table_text (table_rows roster)
IsReport roster hosts true text =
    (calls : List Call) × IsJournal roster hosts calls × (text ≡ table_text (table_rows roster) ++ journal_text calls)

-- the report of the folder's contest
pub record IsJudged (files : Option (List TreeFile)) (folder : List ℕ) (hosts : ℕ) (journal : Bool) (text : List ℕ)
    : Type 0 where
  pub roster : RosterValue
  pub read : ContestIs files folder (Ok roster)
  pub is : IsReport roster hosts journal text

-- the line of the fault that the folder has
pub record IsFaultLine (files : Option (List TreeFile)) (folder text : List ℕ) : Type 0 where
  pub fault : ContestFault
  pub found : ContestIs files folder (Err fault)
  pub is : text ≡ contest_line fault

-- such a text was written
pub record Writes (IsText : List ℕ → Type 0) (held held' : Option (List ℕ)) : Type 0 where
  pub text : List ℕ
  pub is_text : IsText text
  pub wrote : Appends held held' text

-- a prefix of such a text was written, perhaps no byte of it
pub record WritesPrefix (IsText : List ℕ → Type 0) (held held' : Option (List ℕ)) : Type 0 where
  pub text : List ℕ
  pub is_text : IsText text
  pub count : ℕ
  pub wrote : Appends held held' (take count text)

-- what is written of a folder: the report of its contest, or the line of its fault
abbrev pub IsWritten : Option (List TreeFile) → List ℕ → ℕ → Bool → List ℕ → Type 0
IsWritten files folder hosts journal text = IsJudged files folder hosts journal text ⊎ IsFaultLine files folder text

-- How it ends where the folder is no contest, or could not be read. `unwritten` says that the output is as it was.
abbrev pub NoContestEnds : Option (List TreeFile) → List ℕ → Option (List ℕ) → Option (List ℕ) → Type 0 → Exit → Type 0
NoContestEnds files folder held held' unwritten exit.Done = ⊥
NoContestEnds files folder held held' unwritten exit.Usage = ⊥
NoContestEnds files folder held held' unwritten exit.BadContest = Writes (IsFaultLine files folder) held held'
NoContestEnds files folder held held' unwritten exit.ReadFault = ⊥
NoContestEnds files folder held held' unwritten exit.WriteFault = WritesPrefix (IsFaultLine files folder) held held'
NoContestEnds files folder held held' unwritten exit.Memory = unwritten
NoContestEnds files folder held held' unwritten exit.TreeFault = unwritten
NoContestEnds files folder held held' unwritten exit.DoorFault = ⊥
NoContestEnds files folder held held' unwritten exit.InputLimit = ⊥
NoContestEnds files folder held held' unwritten exit.LinkFault = ⊥
NoContestEnds files folder held held' unwritten (exit.BadAnswer answer) = ⊥
NoContestEnds files folder held held' unwritten exit.StoreFault = ⊥
NoContestEnds files folder held held' unwritten (exit.BadStore flaw) = ⊥
NoContestEnds files folder held held' unwritten (exit.StoreFull mark) = ⊥

-- how a contest's judging ends
abbrev pub JudgeEnds
    : Option (List TreeFile) → List ℕ → ℕ → Bool → Option (List ℕ) → Option (List ℕ) → Type 0 → Exit → Type 0
JudgeEnds files folder hosts journal held held' unwritten exit.Done =
    Writes (IsJudged files folder hosts journal) held held'
JudgeEnds files folder hosts journal held held' unwritten exit.Usage = ⊥
JudgeEnds files folder hosts journal held held' unwritten exit.BadContest = Writes (IsFaultLine files folder) held held'
JudgeEnds files folder hosts journal held held' unwritten exit.ReadFault = ⊥
JudgeEnds files folder hosts journal held held' unwritten exit.WriteFault =
    WritesPrefix (IsWritten files folder hosts journal) held held'
JudgeEnds files folder hosts journal held held' unwritten exit.Memory = unwritten
JudgeEnds files folder hosts journal held held' unwritten exit.TreeFault = unwritten
JudgeEnds files folder hosts journal held held' unwritten exit.DoorFault = ⊥
JudgeEnds files folder hosts journal held held' unwritten exit.InputLimit = ⊥
JudgeEnds files folder hosts journal held held' unwritten exit.LinkFault = ⊥
JudgeEnds files folder hosts journal held held' unwritten (exit.BadAnswer answer) = ⊥
JudgeEnds files folder hosts journal held held' unwritten exit.StoreFault = ⊥
JudgeEnds files folder hosts journal held held' unwritten (exit.BadStore flaw) = ⊥
JudgeEnds files folder hosts journal held held' unwritten (exit.StoreFull mark) = ⊥

-- the tree tells that the folder is a contest
abbrev pub HasContest : Option (List TreeFile) → List ℕ → Type 0
HasContest files folder = IsSomeAnd files (λ held. (roster : RosterValue) × (contest_of held folder ≡ Ok roster))

-- with a contest and no fault, it is judged or served unless memory is wanting
unfoldable pub ContestIsDone : Option (List TreeFile) → List ℕ → Type 0 → Exit → Type 0
ContestIsDone files folder faultless e = HasContest files folder → faultless → (e ≡ exit.Done) ⊎ (e ≡ exit.Memory)
