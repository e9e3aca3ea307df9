-- How a disk in memory lies in its fields.
use Rattle.std.specs.Prelude.{[], map, length, string_bytes}
use Rattle.std.specs.Option.{option_map}
use Rattle.record_store.specs.Model.{Range, DiskState, IsImage}
use Rattle.record_store.specs.MemoryValue.{DiskValue, turned}
use Rattle.record_store.specs.declared.memory.Span.{Span}
use Rattle.record_store.specs.declared.memory.Moment.{Moment}
use Rattle.record_store.specs.declared.memory.MemoryDisk.TheInside.{Inside}

abbrev pub range_of : Span × Unit {0} → Range
range_of span = record { at = span.0.at; len = span.0.len }

abbrev pub state_of : Moment → DiskState
state_of m = record { seen = m.seen.items; synced = m.synced.items; pending = turned [] (map range_of m.pending.items) }

abbrev pub past_of : Moment × Unit {0} → DiskState
past_of m = state_of m.0

abbrev pub disk_value : Inside → DiskValue
disk_value d = record {
  time = record { now = state_of d.state; past = turned [] (map past_of d.past.items) };
  opened = option_map (λ path. record { path = string_bytes path; access = d.access }) d.path;
  faults = d.faults;
  failing = d.failing.items;
  calls = length d.calls.items;
}

pub record IsDiskLayout (d : Inside) : Type 0 where
  pub image : IsImage (state_of d.state) d.state.seen.items
