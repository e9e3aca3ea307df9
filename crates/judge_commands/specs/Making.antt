-- What is written of a made contest, and how its judging ends.
use Rattle.std.specs.Prelude.{◌≡◌, ◌⊎◌, ℕ, List, [], ◌∷◌, ◌++◌, count_by, codes, Option, Ok}
use Rattle.std.specs.Fmt.{decimal}
use Rattle.std.specs.List.{flat_map}
use Rattle.std.specs.Str.{bytes_eq}
use Rattle.sha2.specs.Sha256.{sha256}
use Rattle.hex.specs.Hex.{encode_lower}
use Rattle.farm_kinds.specs.declared.kinds.Kind.{Kind}
use Rattle.farm_kinds.specs.declared.outcomes.TableRow.{TableRow}
use Rattle.farm_kinds.specs.Kinds.{name_of, every_kind}
use Rattle.farm_model.specs.Texts.{verdict_text, table_text}
use Rattle.contest_folder.specs.RosterValue.{RosterValue}
use Rattle.contest_folder.specs.Contest.{contest_of}
use Rattle.parallel_judge.specs.Table.{table_rows}
use Rattle.work_maker.specs.Files.{contest_folder, made_files}
use Rattle.command_line.specs.Ranges.{Size}
use Rattle.exit_status.specs.declared.exit.Exit.{Exit}
use Rattle.exit_status.specs.declared.exit.Exit.TheVariants as exit
use Rattle.judge_commands.specs.Judged.{Writes, WritesPrefix}

-- how many rows have the verdict of this name
abbrev pub verdict_count : List TableRow → List ℕ → ℕ
verdict_count rows name = count_by (λ row. bytes_eq (verdict_text row.verdict) name) rows

-- `NAME COUNT`
abbrev pub count_line : List TableRow → List ℕ → List ℕ
count_line rows name = name ++ 32 ∷ (decimal (verdict_count rows name) ++ 10 ∷ [])

-- the lines of these kinds
abbrev pub kind_lines : List TableRow → List Kind → List ℕ
kind_lines rows kinds = flat_map (λ kind. count_line rows (name_of kind)) kinds

-- `table HEX`: the SHA-256 digest of the table's text
abbrev pub digest_line : List TableRow → List ℕ
digest_line rows = codes "table " ++ (encode_lower (sha256 (table_text rows)) ++ 10 ∷ [])

-- how often each verdict stands in a table, the eight kinds before `compiler-error`, and the table's digest
abbrev pub summary_text : List TableRow → List ℕ
summary_text rows = kind_lines rows every_kind ++ (count_line rows (codes "compiler-error") ++ digest_line rows)

-- the summary of the table of the contest that is made of these numbers
pub record IsSummary (number : ℕ) (size : Size) (text : List ℕ) : Type 0 where
  pub roster : RosterValue
  pub read : contest_of (made_files number size.problems size.submissions) contest_folder ≡ Ok roster
  pub is : text ≡ summary_text (table_rows roster)

-- How it ends. `unwritten` says that the output is as it was. The folder of a made contest has no fault.
abbrev pub MakeEnds : ℕ → Size → Option (List ℕ) → Option (List ℕ) → Type 0 → Exit → Type 0
MakeEnds number size held held' unwritten exit.Done = Writes (IsSummary number size) held held'
MakeEnds number size held held' unwritten exit.Usage = ⊥
MakeEnds number size held held' unwritten exit.BadContest = ⊥
MakeEnds number size held held' unwritten exit.ReadFault = ⊥
MakeEnds number size held held' unwritten exit.WriteFault = WritesPrefix (IsSummary number size) held held'
MakeEnds number size held held' unwritten exit.Memory = unwritten
MakeEnds number size held held' unwritten exit.TreeFault = ⊥
MakeEnds number size held held' unwritten exit.DoorFault = ⊥
MakeEnds number size held held' unwritten exit.InputLimit = ⊥
MakeEnds number size held held' unwritten exit.LinkFault = ⊥
MakeEnds number size held held' unwritten (exit.BadAnswer answer) = ⊥
MakeEnds number size held held' unwritten exit.StoreFault = ⊥
MakeEnds number size held held' unwritten (exit.BadStore flaw) = ⊥
MakeEnds number size held held' unwritten (exit.StoreFull mark) = ⊥

-- without a fault it is done unless memory is wanting
unfoldable pub MakeIsDone : Type 0 → Exit → Type 0
MakeIsDone faultless e = faultless → (e ≡ exit.Done) ⊎ (e ≡ exit.Memory)
