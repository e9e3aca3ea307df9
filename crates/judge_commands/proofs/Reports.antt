-- What is written of a contest, with a journal and without one.
use Rattle.std.proofs.Common.{◌≡◌, ℕ, List, ◌++◌, Option, Some, None, refl, sym, subst, ap, ◌∙◌}
use Rattle.std.specs.Prelude.{Bool, is_some}
use Rattle.std.proofs.lemmas.List.{append-nil}
use Rattle.farm_kinds.specs.declared.outcomes.TableRow.{TableRow}
use Rattle.farm_model.specs.Texts.{table_text}
use Rattle.contest_folder.specs.RosterValue.{RosterValue}
use Rattle.farm_board.specs.declared.entries.Call.{Call}
use Rattle.parallel_judge.specs.Journal.{IsJournal}
use Rattle.parallel_judge.specs.Table.{table_rows}
use Rattle.judge_commands.specs.Judged.{IsReport, history_text}

by_history : (roster : RosterValue) (hosts : ℕ) (history : Option (List Call)) (text : List ℕ)
    → ((calls : List Call) → history ≡ Some calls → IsJournal roster hosts calls) → text ≡ table_text (table_rows roster) ++ history_text history
    → IsReport roster hosts (is_some history) text
by_history roster hosts None text told is = is ∙ append-nil (table_text (table_rows roster))
by_history roster hosts (Some calls) text told is = (calls, told calls refl, is)

-- the text of a table and of a journal, which is there where one was asked for
pub reported : (roster : RosterValue) (hosts : ℕ) (journal : Bool) (table : List TableRow) (history : Option (List Call)) (text : List ℕ) → table ≡ table_rows roster
    → is_some history ≡ journal → ((calls : List Call) → history ≡ Some calls → IsJournal roster hosts calls)
    → text ≡ table_text table ++ history_text history → IsReport roster hosts journal text
reported roster hosts journal table history text same kept told is =
    subst (λ (j : Bool). IsReport roster hosts j text) kept
    (by_history roster hosts history text told (is ∙ ap (λ rows. table_text rows ++ history_text history) same))

-- without a journal the table stands alone
pub table_alone : (table text : List ℕ) (history : Option (List Call)) → None ≡ history → text ≡ table → text ≡ table ++ history_text history
table_alone table text history none is = is ∙ sym (ap (λ o. table ++ history_text o) (sym none) ∙ append-nil table)
