use Rattle.std.specs.Prelude.{ℕ, ◌+◌, List, [], ◌∷◌, set}

-- bytes are written one after the other into those of a page, from an offset on
abbrev pub set_bytes : ℕ → List ℕ → List ℕ → List ℕ
set_bytes o [] page = page
set_bytes o (b ∷ bs) page = set_bytes (o + 1) bs (set page o b)
