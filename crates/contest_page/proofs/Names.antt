-- No byte of a name has to be escaped.
use Rattle.std.proofs.Common.{◌≡◌, ℕ, List, [], ◌∷◌, ◌++◌, ◌==◌, Bool, true, false, refl, sym, ap, ◌∙◌}
use Rattle.std.specs.List.{list_all}
use Rattle.std.proofs.lemmas.Bool.{and_parts, eqb-true}
use Rattle.farm_kinds.specs.Names.{is_name, is_name_byte}
use Rattle.contest_page.specs.Page.{escaped_byte, escaped}

-- a byte of a name is not one that is none
apart : (b other : ℕ) → is_name_byte b ≡ true → is_name_byte other ≡ false → (t : Bool) → (b == other) ≡ t → t ≡ false
apart b other name none true is =
    let same : b ≡ other = eqb-true b other is in
    sym name ∙ ap is_name_byte same ∙ none
apart b other name none false is = refl

plain_byte : (b : ℕ) → is_name_byte b ≡ true → escaped_byte b ≡ b ∷ []
plain_byte b name =
    rw (apart b 38 name refl _ refl, apart b 60 name refl _ refl, apart b 62 name refl _ refl, apart b 34 name refl _ refl, apart b 39 name refl _ refl) refl

plain_bytes : (word : List ℕ) → list_all is_name_byte word ≡ true → escaped word ≡ word
plain_bytes [] h = refl
plain_bytes (b ∷ word) h =
    let parts = and_parts (is_name_byte b) (list_all is_name_byte word) h in
    ap (λ (z : List ℕ). z ++ escaped word) (plain_byte b parts.0) ∙ ap (λ (z : List ℕ). b ∷ z) (plain_bytes word parts.1)

pub plain_name : (word : List ℕ) → is_name word ≡ true → escaped word ≡ word
plain_name word h = plain_bytes word (and_parts _ (list_all is_name_byte word) h).1
