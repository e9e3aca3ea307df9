-- What a table says of a slot: it is at home with its value, or a seat holds it.
use mathlib.Core.Option.{Option}

abbrev pub Home : Type 0 → Type 0
Home S = Option S
