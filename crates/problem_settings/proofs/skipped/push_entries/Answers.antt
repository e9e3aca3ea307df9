use Rattle.std.proofs.Common.{◌≡◌, ◌++◌, ◌∷◌, List, Option, sym, ap, subst, ◌∙◌}
use Rattle.std.specs.Prelude.{IfSome}
use Rattle.problem_settings.specs.declared.lines.Line.{Line}
use Rattle.problem_settings.specs.declared.skipped.SkippedKey.{SkippedKey}
use Rattle.problem_settings.specs.Entries.{entries}
use Rattle.problem_settings.specs.Fields.{field_of}
use Rattle.problem_settings.specs.Lines.{LineValue}
use Rattle.problem_settings.specs.ProblemYaml.{belongs}
use Rattle.problem_settings.specs.Skipped.{skipped_at, skipped_from}
use Rattle.problem_settings.specs.Views.{entry_at, line_value, lines_at}
use Rattle.problem_settings.proofs.SkippedLemmas.{entry_step}
use Rattle.problem_settings.proofs.skipped.push_entries.Goals as goal

pub loop-left-preserved : goal.loop-left-preserved
loop-left-preserved c =
    let head = line_value c.in-Some.head in
    let behind = lines_at c.next-behind.result in
    let Cut : Line → Type 0 = λ line. lines_at c.loop-left.left ≡ line_value line ∷ behind in
    let cut : Cut c.in-Some.head = subst (λ (first : Option Line). IfSome first Cut) c.in-Some.is c.next-behind.ensures in
    let done = c.loop-left.keys.items in
    let some = skipped_at (entry_at c.in-Some.head c.next-behind.result) (field_of c.in-Some.head.text.now) in
    let pushed : c.push_entry.new.keys.items ≡ done ++ some = c.in_ok-push_entry.ensures in
    ap (λ (keys : List SkippedKey). keys ++ skipped_from (entries belongs (lines_at c.past_entry-left.result))) pushed
    ∙ ap (λ (lines : List LineValue). (done ++ some) ++ skipped_from (entries belongs lines)) c.past_entry-left.ensures.lines
    ∙ entry_step done head behind
    ∙ ap (λ (lines : List LineValue). done ++ skipped_from (entries belongs lines)) (sym cut)
    ∙ c.loop-left.invariant
