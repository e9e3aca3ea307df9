-- What the words of a command say.
use Rattle.std.specs.Prelude.{◌≡◌, ℕ, List, [], ◌∷◌, ◌++◌, map, Contains, codes, true, ⊤}
use Rattle.command_line.specs.Checks.{is_value}

-- an option in either form, a flag, or an operand
pub data Item : Type 0 where
  -- `--NAME VALUE`
  Spaced : (name value : List ℕ) → Item
  -- `--NAME=VALUE`
  Joined : (name value : List ℕ) → Item
  -- `--NAME`
  Flag : (name : List ℕ) → Item
  -- `VALUE`
  Operand : (value : List ℕ) → Item

abbrev pub words_of : Item → List (List ℕ)
words_of (Spaced name value) = (45 ∷ 45 ∷ name) ∷ value ∷ []
words_of (Joined name value) = (45 ∷ 45 ∷ (name ++ 61 ∷ value)) ∷ []
words_of (Flag name) = (45 ∷ 45 ∷ name) ∷ []
words_of (Operand value) = value ∷ []

abbrev pub all_words : List Item → List (List ℕ)
all_words [] = []
all_words (item ∷ items) = words_of item ++ all_words items

-- the words that name a command, its operand, its options and its flags
pub record Grammar : Type 0 where
  pub command : List ℕ
  pub operand : List ℕ
  pub options : List (List ℕ)
  pub flags : List (List ℕ)

abbrev pub judge_words : Grammar
judge_words = record {
  command = codes "judge";
  operand = codes "folder";
  options = codes "hosts" ∷ [];
  flags = codes "journal" ∷ [];
}

abbrev pub serve_words : Grammar
serve_words = record {
  command = codes "serve";
  operand = codes "folder";
  options =
      codes "port" ∷ codes "lanes" ∷ codes "connections" ∷ codes "address" ∷ codes "patience" ∷ [];
  flags = codes "until-input-ends" ∷ [];
}

abbrev pub host_words : Grammar
host_words = record {
  command = codes "host";
  operand = codes "address";
  options =
      codes "port" ∷ codes "name" ∷ codes "fuel" ∷ codes "wait" ∷ codes "user" ∷ codes "password-file" ∷ [];
  flags = [];
}

-- what an item says: of a name, a text
abbrev pub said_by : Grammar → Item → List ℕ × List ℕ
said_by g (Spaced name value) = (name, value)
said_by g (Joined name value) = (name, value)
said_by g (Flag name) = (name, codes "true")
said_by g (Operand value) = (g.operand, value)

abbrev pub all_said : Grammar → List Item → List (List ℕ × List ℕ)
all_said g items = map (said_by g) items

-- the command takes the item; a value is not empty and does not begin with `-`
abbrev pub Takes : Grammar → Item → Type 0
Takes g (Spaced name value) = Contains g.options name × (is_value value ≡ true)
Takes g (Joined name value) = Contains g.options name × (is_value value ≡ true)
Takes g (Flag name) = Contains g.flags name
Takes g (Operand value) = is_value value ≡ true

-- it takes each of them, and no two have one name
abbrev pub TakesAll : Grammar → List Item → Type 0
TakesAll g [] = ⊤
TakesAll g (item ∷ items) =
    Takes g item × (¬ Contains (map (λ m. m.0) (all_said g items)) (said_by g item).0) × TakesAll g items
