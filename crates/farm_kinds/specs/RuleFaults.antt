-- Priorities that are too high.
use Rattle.std.specs.Prelude.{ℕ, List, Option, nat_lt, slice_index}
use Rattle.std.specs.List.{find}
use Rattle.farm_kinds.specs.declared.kinds.Kind.{Kind}
use Rattle.farm_kinds.specs.Kinds.{every_kind}
use Rattle.farm_kinds.specs.Rules.{place_of}

-- the first kind whose priority is over 999
abbrev pub first_high_kind : List ℕ → Option Kind
first_high_kind prio = find (λ kind. nat_lt 999 (slice_index prio (place_of kind))) every_kind
