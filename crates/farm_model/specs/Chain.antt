-- The audit chain: texts, each with a digest over the digest before it and the text.
use Rattle.std.specs.Prelude.{ℕ, List, [], ◌∷◌, ◌++◌, codes}
use Rattle.sha2.specs.Sha256.{sha256}

-- the digest before the first text: the SHA-256 of the empty text
abbrev pub first_digest : List ℕ
first_digest = sha256 []

-- the SHA-256 of the digest before, followed by the text
abbrev pub digest_after : List ℕ → List ℕ → List ℕ
digest_after before text = sha256 (before ++ text)

-- the digests of the texts, one after another, behind this one
abbrev pub digests_from : List ℕ → List (List ℕ) → List (List ℕ)
digests_from before [] = []
digests_from before (text ∷ texts) = digest_after before text ∷ digests_from (digest_after before text) texts

-- the digests of the texts, in order
abbrev pub chain_digests : List (List ℕ) → List (List ℕ)
chain_digests texts = digests_from first_digest texts

-- the last digest behind this one
abbrev pub head_from : List ℕ → List (List ℕ) → List ℕ
head_from before [] = before
head_from before (text ∷ texts) = head_from (digest_after before text) texts

-- the last digest, or where there is no text the digest before the first
abbrev pub chain_head : List (List ℕ) → List ℕ
chain_head texts = head_from first_digest texts

-- who acted, a space, and the words
abbrev pub audit_text : List ℕ → List ℕ → List ℕ
audit_text who what = who ++ codes " " ++ what
