-- Equal parts have equal notes.
use Rattle.std.proofs.Common.{ℕ, ◌≡◌, List, Option, Bool, ◌&&◌, ap, ◌∙◌}
use Rattle.package_notes.specs.Files.{says_default, validator_notes}
use Rattle.package_notes.specs.Package.{notes_from}

pub notes_by : (path : List ℕ) (yaml yaml' ini ini' : Option (List ℕ)) (paths paths' : List (List ℕ)) (has has' : Bool)
    → yaml ≡ yaml' → ini ≡ ini' → paths ≡ paths' → has ≡ has'
    → notes_from path yaml ini paths (validator_notes (says_default yaml && has))
    ≡ notes_from path yaml' ini' paths' (validator_notes (says_default yaml' && has'))
notes_by path yaml yaml' ini ini' paths paths' has has' y i p h =
    ap (λ (t : Option (List ℕ)). notes_from path t ini paths (validator_notes (says_default t && has))) y
    ∙ ap (λ (t : Option (List ℕ)). notes_from path yaml' t paths (validator_notes (says_default yaml' && has))) i
    ∙ ap (λ (ps : List (List ℕ)). notes_from path yaml' ini' ps (validator_notes (says_default yaml' && has))) p
    ∙ ap (λ (b : Bool). notes_from path yaml' ini' paths' (validator_notes (says_default yaml' && b))) h
