-- How a farm lies in memory.
use Rattle.std.specs.Prelude.{◌≤◌, length}
use Rattle.farm_model.specs.State.{State}
use Rattle.farm_core.specs.declared.farm.Farm.TheInside.{Inside}

-- the contest, with the texts of the audit log
abbrev pub farm_value : Inside → State
farm_value a = record a.contest { texts = a.audit.texts }

pub record IsFarmLayout (a : Inside) : Type 0 where
  -- so that its length is a number of a reply
  pub entries : length a.audit.texts ≤ 4294967295
