-- What a view keeps: its JSON is made.
use Rattle.std.specs.Prelude.{◌≡◌}
use Rattle.contest_page.specs.declared.view.ContestView.TheInside.{Inside}
use Rattle.contest_page.specs.ViewValue.{ViewValue}
use Rattle.contest_page.specs.Views.{view_text}

abbrev pub view_value : Inside → ViewValue
view_value a = record { problems = a.problems.items; entries = a.entries.items }

abbrev pub IsViewShape : Inside → Type 0
IsViewShape a = a.json ≡ view_text a.problems.items a.entries.items
