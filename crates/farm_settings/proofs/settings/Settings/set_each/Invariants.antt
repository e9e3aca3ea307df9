use Rattle.std.proofs.Common.{◌≡◌}
use Rattle.serde_json.specs.View.{members_view}
use Rattle.farm_settings.specs.Entries.{each_entry, set_entry}
use Rattle.farm_settings.proofs.settings.Settings.set_each.Given as goal

abbrev pub invariant-loop-key : goal.invariant-loop-key
invariant-loop-key l = each_entry set_entry l.fn.self (members_view l.fn.entries.entries) ≡ each_entry set_entry l.self (members_view l.key-iterator)
