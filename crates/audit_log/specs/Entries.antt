-- Entries as they are kept, and the first whose digest is not the chain's.
use Rattle.std.specs.Prelude.{ℕ, List, map, Option, Bool, not}
use Rattle.std.specs.List.{zip, position_from}
use Rattle.std.specs.Str.{bytes_eq}
use Rattle.farm_model.specs.Chain.{first_digest, digests_from}
use Rattle.audit_log.specs.declared.log.Entry.{Entry}

abbrev pub texts_of : List Entry → List (List ℕ)
texts_of entries = map (λ entry. entry.text) entries

-- the digests that are kept with the texts
abbrev pub kept_digests : List Entry → List (List ℕ)
kept_digests entries = map (λ entry. entry.digest) entries

-- the kept digest is not the chain's
abbrev pub is_broken : List ℕ × List ℕ → Bool
is_broken pair = not (bytes_eq pair.0 pair.1)

-- the first place of the entries behind this digest whose kept digest is not the chain's, counted from `at`
abbrev pub first_broken_from : List ℕ → ℕ → List Entry → Option ℕ
first_broken_from before at entries =
    position_from is_broken at (zip (kept_digests entries) (digests_from before (texts_of entries)))

-- the first place, from 0, whose kept digest is not the chain's
abbrev pub first_broken : List Entry → Option ℕ
first_broken entries = first_broken_from first_digest 0 entries
