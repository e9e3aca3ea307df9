-- Refusals, which are looked for in an order.
use Rattle.std.specs.Prelude.{List, [], ◌∷◌, Option, Some, None, Bool, if◌then◌else◌}

-- this refusal, where the condition holds
abbrev pub when : {R : Type 0} → Bool → R → Option R
when condition refusal = if condition then Some refusal else None

-- this refusal, where the condition does not hold
abbrev pub unless : {R : Type 0} → Bool → R → Option R
unless condition refusal = if condition then None else Some refusal

-- the first refusal that comes
abbrev pub first_of : {R : Type 0} → List (Option R) → Option R
first_of [] = None
first_of (None ∷ refusals) = first_of refusals
first_of (Some refusal ∷ refusals) = Some refusal

-- A refusal is what is answered, and it changes nothing. Where there is none, what is done is done.
abbrev pub refused_or : {S R : Type 0} → S → Option R → S × R → S × R
refused_or s None done = done
refused_or s (Some refusal) done = (s, refusal)
