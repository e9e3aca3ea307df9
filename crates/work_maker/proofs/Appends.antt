-- What is put behind a list, piece by piece.
use Rattle.std.proofs.Common.{ℕ, ◌≡◌, List, [], ◌∷◌, ◌++◌, ap, ◌∙◌, append_assoc}
use Rattle.farm_tree.specs.declared.reads.TreeFile.{TreeFile}
use Rattle.work_maker.specs.Files.{file_with}

-- one more and one more are two more
pub two_more : {X : Type 0} (old mid new : List X) (a b : X) → mid ≡ old ++ a ∷ [] → new ≡ mid ++ b ∷ [] → new ≡ old ++ a ∷ b ∷ []
two_more old mid new a b one two = two ∙ ap (λ xs. xs ++ b ∷ []) one ∙ append_assoc old (a ∷ []) (b ∷ [])

-- what stood in front of the rest stands there with the next of it
pub moved : {X : Type 0} (old new piece rest : List X) → new ≡ old ++ piece → new ++ rest ≡ old ++ (piece ++ rest)
moved old new piece rest e = ap (λ xs. xs ++ rest) e ∙ append_assoc old piece rest

-- a file that was put there, by what its path and its bytes are
pub file_put : (old new : List TreeFile) (path path' bytes bytes' : List ℕ) → new ≡ old ++ file_with path bytes ∷ [] → path ≡ path' → bytes ≡ bytes'
    → new ≡ old ++ file_with path' bytes' ∷ []
file_put old new path path' bytes bytes' put same_path same_bytes =
    put ∙ ap (λ p. old ++ file_with p bytes ∷ []) same_path ∙ ap (λ b. old ++ file_with path' b ∷ []) same_bytes
