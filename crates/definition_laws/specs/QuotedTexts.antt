-- How a text is quoted in one line (YAML 1.2, sections 7.3.1 and 7.3.2).
use Rattle.std.specs.Prelude.{ℕ, List, [], ◌∷◌, ◌++◌, ◌==◌, if◌then◌else◌}

-- each quote is written twice
abbrev pub doubled : List ℕ → List ℕ
doubled [] = []
doubled (b ∷ text) = (if b == 39 then 39 ∷ 39 ∷ [] else b ∷ []) ++ doubled text

abbrev pub single_quoted : List ℕ → List ℕ
single_quoted text = 39 ∷ (doubled text ++ 39 ∷ [])

-- a quote, a backslash, a line feed and a tab are written with a backslash
abbrev pub escape_of : ℕ → List ℕ
escape_of b =
    if b == 34 then 92 ∷ 34 ∷ []
    else (if b == 92 then 92 ∷ 92 ∷ []
    else (if b == 10 then 92 ∷ 110 ∷ [] else (if b == 9 then 92 ∷ 116 ∷ [] else b ∷ [])))

abbrev pub escaped_text : List ℕ → List ℕ
escaped_text [] = []
escaped_text (b ∷ text) = escape_of b ++ escaped_text text

abbrev pub double_quoted : List ℕ → List ℕ
double_quoted text = 34 ∷ (escaped_text text ++ 34 ∷ [])
