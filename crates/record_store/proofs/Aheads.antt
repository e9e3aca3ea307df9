-- Bytes that were read ahead.
use Rattle.std.proofs.Common.{◌≡◌, ◌+◌, ◌-◌, ◌≤◌, ℕ, List, length, take, drop, ◌∙◌, ap, arith}
use Rattle.std.proofs.lemmas.List.{drop-take, take-take, drop-drop}

-- a part of what was read ahead is the file's
pub part_ahead : (file bytes : List ℕ) (from start size : ℕ) → bytes ≡ take (length bytes) (drop from file) → start + size ≤ length bytes
    → take size (drop start bytes) ≡ take size (drop (from + start) file)
part_ahead file bytes from start size is fits =
    let n = length bytes in
    let rest : n ≡ start + (n - start) = omega (arith, fits) in
    let behind : drop start bytes ≡ take (n - start) (drop start (drop from file)) =
    ap (drop start) is ∙ ap (λ (k : ℕ). drop start (take k (drop from file))) rest ∙ drop-take start (n - start) (drop from file) in
    ap (take size) behind ∙ take-take size (n - start) (drop start (drop from file)) (omega (arith, fits))
    ∙ ap (take size) (drop-drop start from file)
