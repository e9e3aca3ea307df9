use Rattle.std.proofs.Common.{◌≡◌}
use Rattle.serde_json.specs.View.{members_view}
use Rattle.farm_settings.specs.Entries.{each_entry, set_mode}
use Rattle.farm_settings.proofs.modes.add_modes.Given as goal

abbrev pub invariant-loop-name : goal.invariant-loop-name
invariant-loop-name l = each_entry set_mode l.fn.modes (members_view l.fn.entries.entries) ≡ each_entry set_mode l.modes (members_view l.name-iterator)
