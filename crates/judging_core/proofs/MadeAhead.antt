-- Judgings that are made ahead, the next one last.
use Rattle.std.proofs.Common.{ℕ, ◌≡◌, ◌∙◌, List, [], ◌∷◌, ◌++◌, Bool, true, false, refl, sym, ap, arith, map}
use Rattle.std.specs.Prelude.{reverse}
use Rattle.std.proofs.lemmas.List.{map-append, reverse-append}
use Rattle.std.proofs.lemmas.Bool.Decides.{nat_tests}
use Rattle.farm_kinds.specs.declared.outcomes.Class.{Class}
use Rattle.farm_kinds.specs.declared.outcomes.Mode.{Mode}
use Rattle.farm_model.specs.Judgings.{Judging, empty_judging}
use Rattle.judging_core.specs.JudgeValue.{starts_with, left_reserved}
use Rattle.judging_core.specs.JudgeShape.{judging_value, cell_count, reserved_of, IsPrepared}
use Rattle.judging_core.specs.declared.judgings.KeptJudging.{KeptJudging}

-- the one that is pushed is the next one
reserved_push : (prepared : List KeptJudging) (kept : KeptJudging) → reserved_of (prepared ++ kept ∷ []) ≡ cell_count kept ∷ reserved_of prepared
reserved_push prepared kept = ap reverse (map-append cell_count prepared (kept ∷ [])) ∙ reverse-append (map cell_count prepared) (cell_count kept ∷ [])

first_is : (next tests : ℕ) (others : List ℕ) → starts_with (next ∷ others) tests ≡ true → next ≡ tests
first_is next tests others h = grind (arith, nat_tests, h)

-- the one that is popped has the number of tests that was asked for
pub next_tests : (all prepared : List KeptJudging) (kept : KeptJudging) (tests : ℕ) → all ≡ prepared ++ kept ∷ [] → starts_with (reserved_of all) tests ≡ true → cell_count kept ≡ tests
next_tests all prepared kept tests e h =
    first_is (cell_count kept) tests (reserved_of prepared) (ap (λ reserved. starts_with reserved tests) (sym (ap reserved_of e ∙ reserved_push prepared kept)) ∙ h)

-- the class and the mode of what is made ahead, and whether it is asked for, are set when it is used
pub used_as : (kept : KeptJudging) (class : Class) (tests : ℕ) (mode : Mode) (asked : Bool) → IsPrepared kept → cell_count kept ≡ tests
    → judging_value (record kept { class = class; mode = mode; asked = asked }) ≡ empty_judging class tests mode asked
used_as kept class tests mode asked h e =
    ap (λ (j : Judging). record j { class = class; mode = mode; asked = asked }) h.empty ∙ ap (λ n. empty_judging class n mode asked) e

pub none_left : (reserved : List ℕ) (tests : ℕ) → starts_with reserved tests ≡ false → left_reserved reserved tests ≡ []
none_left [] tests h = refl
none_left (next ∷ reserved) tests h = rw h refl
