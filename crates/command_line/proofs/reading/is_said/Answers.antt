use Rattle.std.proofs.Common.{List, ℕ, Option, Bool, false, codes, option_map, ap, sym, ◌∙◌}
use Rattle.std.specs.Option.{option_map_or}
use Rattle.std.specs.Str.{bytes_eq}
use Rattle.std.specs.Borrow.{Bor}
use Rattle.command_line.proofs.reading.is_said.Goals as goal

-- the text of a flag that was given
is_true : Option (List ℕ) → Bool
is_true text = option_map_or (λ t. bytes_eq t (codes "true")) text false

pub returns-in-Some : goal.returns-in-Some
unfolding is_true
returns-in-Some c =
    c.eq.ensures ∙ ap is_true (sym (ap (option_map (λ (word : Bor (List ℕ)). word.now)) c.in-Some.is) ∙ c.text.ensures)

pub returns-in-None : goal.returns-in-None
unfolding is_true
returns-in-None c = ap is_true (sym (ap (option_map (λ (word : Bor (List ℕ)). word.now)) c.in-None.is) ∙ c.text.ensures)
