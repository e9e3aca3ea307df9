-- Texts that are put one behind the other.
use Rattle.std.proofs.Common.{◌≡◌, ℕ, ◌++◌, List, ap, ◌∙◌, append_assoc}
use Rattle.std.specs.Prelude.{codes}
use Rattle.wire_job.specs.Writing.{first_fields, last_field}

-- x, and then the rest
behind : (a b c x rest : List ℕ) → b ≡ a ++ x → c ≡ b ++ rest → c ≡ a ++ (x ++ rest)
behind a b c x rest one more = more ∙ ap (λ (t : List ℕ). t ++ rest) one ∙ append_assoc a x rest

-- the fields of a case, one after the other
pub case_behind : (a b c d e f g h i j k answer check flags image input : List ℕ) → b ≡ a ++ codes "{\"answer\":\"" → c ≡ b ++ answer → d ≡ c ++ codes "\",\"check\":\"" → e ≡ d ++ check
    → f ≡ e ++ codes "\",\"flags\":" → g ≡ f ++ flags → h ≡ g ++ image → i ≡ h ++ codes ",\"input\":\"" → j ≡ i ++ input → k ≡ j ++ codes "\""
    → k ≡ a ++ first_fields answer check flags image input
case_behind a b c d e f g h i j k answer check flags image input one two three four five six seven eight nine ten =
    let from_input : k ≡ i ++ (input ++ codes "\"") = behind i j k input (codes "\"") nine ten in
    let from_image : k ≡ g ++ (image ++ (codes ",\"input\":\"" ++ (input ++ codes "\""))) =
    behind g h k image (codes ",\"input\":\"" ++ (input ++ codes "\"")) seven (behind h i k (codes ",\"input\":\"") (input ++ codes "\"") eight from_input) in
    let more : List ℕ = image ++ (codes ",\"input\":\"" ++ (input ++ codes "\"")) in
    let from_flags : k ≡ e ++ (codes "\",\"flags\":" ++ (flags ++ more)) = behind e f k (codes "\",\"flags\":") (flags ++ more) five (behind f g k flags more six from_image) in
    let rest : List ℕ = codes "\",\"flags\":" ++ (flags ++ more) in
    let from_check : k ≡ c ++ (codes "\",\"check\":\"" ++ (check ++ rest)) = behind c d k (codes "\",\"check\":\"") (check ++ rest) three (behind d e k check rest four from_flags) in
    behind a b k (codes "{\"answer\":\"") (answer ++ (codes "\",\"check\":\"" ++ (check ++ rest))) one (behind b c k answer (codes "\",\"check\":\"" ++ (check ++ rest)) two from_check)

pub validator_behind : (a b c d validator : List ℕ) → b ≡ a ++ codes ",\"validator\":\"" → c ≡ b ++ validator → d ≡ c ++ codes "\"}" → d ≡ a ++ last_field validator
validator_behind a b c d validator one two three = behind a b d (codes ",\"validator\":\"") (validator ++ codes "\"}") one (behind b c d validator (codes "\"}") two three)
