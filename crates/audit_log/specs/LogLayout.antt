-- How an audit log lies in memory.
use Rattle.std.specs.Prelude.{◌≡◌, ℕ, [], vec_len, vec_capacity, nat_lt, if◌then◌else◌}
use Rattle.farm_model.specs.Chain.{chain_digests, chain_head}
use Rattle.audit_log.specs.Entries.{texts_of, kept_digests}
use Rattle.audit_log.specs.Log.{Log}
use Rattle.audit_log.specs.declared.log.Audit.TheInside.{Inside}

-- the room for a text counts only where there is a place for its entry
abbrev pub room_kept : Inside → ℕ
room_kept a = if nat_lt (vec_len a.entries) (vec_capacity a.entries) then vec_capacity a.ready else 0

abbrev pub log_value : Inside → Log
log_value a = record { texts = texts_of a.entries.items; reserved = room_kept a }

pub record IsLogLayout (a : Inside) : Type 0 where
  -- each kept digest is the chain's
  pub chained : kept_digests a.entries.items ≡ chain_digests (texts_of a.entries.items)
  pub last : a.head ≡ chain_head (texts_of a.entries.items)
  -- nothing is written yet into the room for the next text
  pub blank : a.ready.items ≡ []
