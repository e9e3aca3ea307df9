-- Replies that have a list: a copy of them takes memory.
use Rattle.std.specs.Prelude.{Bool, true, false}
use Rattle.farm_kinds.specs.declared.events.Reply.{Reply}
use Rattle.farm_kinds.specs.declared.events.Reply.TheVariants as reply

abbrev pub has_list : Reply → Bool
has_list (reply.Board rows) = true
has_list (reply.Matrix rows members) = true
has_list r = false
