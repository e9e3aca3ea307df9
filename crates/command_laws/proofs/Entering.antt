-- The words behind the name of a command are those of the command alone.
use Rattle.std.proofs.Common.{ℕ, ◌≡◌, List, [], ◌∷◌, ◌++◌, Option, Some, Bool, true, false, cond, ◌||◌, ◌&&◌, not, refl, sym, ap, ◌∙◌, fold, find}
use Rattle.std.specs.Prelude.{is_some, ⊤}
use Rattle.std.specs.List.{list_any}
use Rattle.std.specs.Option.{option_map, option_map_or}
use Rattle.clap.specs.Kinds.{Kinds, or_else, check_kinds}
use Rattle.clap.specs.Simple.{App, Shape, entered, label_of, names_of, rows_at}
use Rattle.clap.specs.Walk.{Row, Rule, Walk, Names, walk_from, walked, nothing_held, rows_after, stop_after, finished, answers_to, with_default, settled, is_empty, has_row}
use Rattle.clap.specs.Takes.{is_given}
use Rattle.clap.specs.Faults.{walk_fault, turn_fault, settle_fault, defaults_fault, given_default_fault, check_fault, level_fault, entered_fault, built_fault}
use Rattle.command_laws.specs.Items.{Item, all_words, Grammar, all_said, TakesAll}
use Rattle.command_laws.proofs.Said.{Has, Same}
use Rattle.command_laws.proofs.Walks.{walk_at, rows_on, fault_on, Knows, At, items_lead}

-- the walk once a command was named
abbrev stopped_at : List ℕ → List (List ℕ) → Walk
stopped_at name words = record (walk_from nothing_held) { stopped = Some (name, words) }

after_stop : (c : List Rule) (names : Names) (name : List ℕ) (prefix rest : List (List ℕ)) → fold (walked c names) (stopped_at name prefix) rest ≡ stopped_at name (prefix ++ rest)
unfolding walked
after_stop c names name prefix [] = ap (stopped_at name) (sym (nothing prefix))
  where
    nothing : (xs : List (List ℕ)) → xs ++ [] ≡ xs
    nothing [] = refl
    nothing (x ∷ xs) = ap (λ (z : List (List ℕ)). x ∷ z) (nothing xs)
after_stop c names name prefix (word ∷ rest) = after_stop c names name (prefix ++ word ∷ []) rest ∙ ap (stopped_at name) (regroup prefix)
  where
    regroup : (xs : List (List ℕ)) → (xs ++ word ∷ []) ++ rest ≡ xs ++ word ∷ rest
    regroup [] = refl
    regroup (x ∷ xs) = ap (λ (z : List (List ℕ)). x ∷ z) (regroup xs)

no_fault_after : (s : Shape) (names : Names) (name : List ℕ) (prefix rest : List (List ℕ)) → walk_fault s names (stopped_at name prefix) rest ≡ []
unfolding walk_fault walked
no_fault_after s names name prefix [] = refl
no_fault_after s names name prefix (word ∷ rest) = no_fault_after s names name (prefix ++ word ∷ []) rest

-- the name leads into the command of this shape
pub record Enters (a : App) (name : List ℕ) (s : Shape) : Type 0 where
  pub first : walked a.top.rules (names_of a) (walk_from nothing_held) name ≡ stopped_at name []
  pub fine : turn_fault a.top (names_of a) (walk_from nothing_held) name ≡ []
  pub found : find (λ x. answers_to name (label_of x)) a.subs ≡ Some s
  pub named : s.name ≡ name
  pub end : or_else (settle_fault a.top.rules a.top.args_override_self nothing_held) (or_else (defaults_fault (settled a.top.rules nothing_held).rows a.top.rules) (check_fault a.top (finished a.top.rules nothing_held) true)) ≡ []

top_walk : (a : App) (name : List ℕ) (s : Shape) (rest : List (List ℕ)) → Enters a name s → fold (walked a.top.rules (names_of a)) (walk_from nothing_held) (name ∷ rest) ≡ stopped_at name rest
top_walk a name s rest e = ap (λ (w : Walk). fold (walked a.top.rules (names_of a)) w rest) e.first ∙ after_stop a.top.rules (names_of a) name [] rest

abbrev entered_rows : Option Shape → List (List ℕ) → Option (List ℕ × List Row)
entered_rows o rest = option_map (λ s. rows_at s rest) o

pub enters_rows : (a : App) (name : List ℕ) (s : Shape) (rest : List (List ℕ)) → Enters a name s → entered a (stop_after a.top.rules (names_of a) (name ∷ rest)) ≡ Some (name, rows_after s.rules [] rest)
enters_rows a name s rest e =
    ap (λ (w : Walk). entered a w.stopped) (top_walk a name s rest e)
    ∙ (ap (λ (o : Option Shape). entered_rows o rest) e.found ∙ ap (λ (n : List ℕ). Some (n, rows_after s.rules [] rest)) e.named)

abbrev level_by : App → Walk → Kinds → Kinds
level_by a w faults =
    or_else faults (or_else (entered_fault a w.stopped) (or_else (settle_fault a.top.rules a.top.args_override_self w.held)
    (or_else (defaults_fault (settled a.top.rules w.held).rows a.top.rules) (check_fault a.top (finished a.top.rules w.held) (is_some (entered a w.stopped))))))

abbrev rest_by : App → Option Shape → List (List ℕ) → Kinds
rest_by a o rest =
    or_else (option_map_or (λ s. level_fault s [] nothing_held rest false []) o [])
    (or_else (settle_fault a.top.rules a.top.args_override_self nothing_held)
    (or_else (defaults_fault (settled a.top.rules nothing_held).rows a.top.rules) (check_fault a.top (finished a.top.rules nothing_held) (is_some (entered_rows o rest)))))

pub enters_fault : (a : App) (name : List ℕ) (s : Shape) (rest : List (List ℕ)) → Enters a name s → built_fault a nothing_held (name ∷ rest) ≡ or_else (level_fault s [] nothing_held rest false []) []
unfolding walk_fault
enters_fault a name s rest e =
    let words = name ∷ rest in
    ap (λ (w : Walk). level_by a w (walk_fault a.top (names_of a) (walk_from nothing_held) words)) (top_walk a name s rest e)
    ∙ (ap (λ (k : Kinds). level_by a (stopped_at name rest) (or_else k (walk_fault a.top (names_of a) (walked a.top.rules (names_of a) (walk_from nothing_held) name) rest))) e.fine
    ∙ (ap (λ (w : Walk). level_by a (stopped_at name rest) (walk_fault a.top (names_of a) w rest)) e.first
    ∙ (ap (λ (k : Kinds). level_by a (stopped_at name rest) k) (no_fault_after a.top (names_of a) name [] rest)
    ∙ (ap (λ (o : Option Shape). rest_by a o rest) e.found
    ∙ ap (λ (k : Kinds). or_else (level_fault s [] nothing_held rest false []) k) e.end))))

-- ---- the words of the command

-- what is left out has no fault
abbrev pub AreDefaults : List Rule → Type 0
AreDefaults [] = ⊤
AreDefaults (a ∷ rules) = (cond (is_empty a.defaults) [] (given_default_fault a a.defaults) ≡ []) × AreDefaults rules

defaults_fine : (rows : List Row) (rules : List Rule) → AreDefaults rules → defaults_fault rows rules ≡ []
unfolding defaults_fault
defaults_fine rows [] h = refl
defaults_fine rows (a ∷ rules) h =
    ap (λ (k : Kinds). or_else k (defaults_fault (with_default rows a) rules)) (one (has_row a.id rows) (is_empty a.defaults) h.0)
    ∙ defaults_fine (with_default rows a) rules h.1
  where
    one : (t u : Bool) → cond u [] (given_default_fault a a.defaults) ≡ [] → cond (t || u) [] (given_default_fault a a.defaults) ≡ []
    one true u e = refl
    one false u e = e

pub record IsLeaf (s : Shape) : Type 0 where
  pub defaults : AreDefaults s.rules
  pub check : (rows : List Row) → check_fault s rows false ≡ check_kinds false false (list_any (λ a. a.required && not (is_given a.id rows)) s.rules)

all_behind : (words : List (List ℕ)) → words ++ [] ≡ words
all_behind [] = refl
all_behind (x ∷ xs) = ap (λ (z : List (List ℕ)). x ∷ z) (all_behind xs)

-- what the items come to
pub record ComesTo (s : Shape) (g : Grammar) (items : List Item) : Type 0 where
  pub rows : List Row
  pub has : Has rows (all_said g items)
  pub after : rows_after s.rules [] (all_words items) ≡ fold with_default rows s.rules
  pub faults : level_fault s [] nothing_held (all_words items) false [] ≡ check_fault s (fold with_default rows s.rules) false

pub comes_to : (s : Shape) (g : Grammar) (items : List Item) → Knows s g → IsLeaf s → TakesAll g items → At s g nothing_held 1 [] → ComesTo s g items
unfolding walk_fault
comes_to s g items knows leaf takes at =
    let all = items_lead s g items nothing_held 1 [] knows takes at (λ item h. refl) in
    let words = all_words items in
    let walks : fold (walked s.rules []) (walk_from nothing_held) words ≡ walk_at all.held all.position
    = ap (λ (z : List (List ℕ)). fold (walked s.rules []) (walk_from nothing_held) z) (sym (all_behind words)) ∙ all.walks [] in
    let faults : walk_fault s [] (walk_from nothing_held) words ≡ []
    = ap (λ (z : List (List ℕ)). walk_fault s [] (walk_from nothing_held) z) (sym (all_behind words)) ∙ all.faults [] in
    record {
      rows = rows_on s all.held;
      has = all.at.has;
      after = ap (λ (w : Walk). finished s.rules w.held) walks;
      faults =
          ap (λ (w : Walk). or_else (walk_fault s [] (walk_from nothing_held) words) (or_else (settle_fault s.rules s.args_override_self w.held) (or_else (defaults_fault (settled s.rules w.held).rows s.rules) (check_fault s (finished s.rules w.held) false)))) walks
          ∙ (ap (λ (k : Kinds). or_else k (or_else (fault_on s all.held) (or_else (defaults_fault (rows_on s all.held) s.rules) (check_fault s (finished s.rules all.held) false)))) faults
          ∙ (ap (λ (k : Kinds). or_else k (or_else (defaults_fault (rows_on s all.held) s.rules) (check_fault s (finished s.rules all.held) false))) all.at.none
          ∙ ap (λ (k : Kinds). or_else k (check_fault s (finished s.rules all.held) false)) (defaults_fine (rows_on s all.held) s.rules leaf.defaults)));
    }

any_same : (rows other : List Row) (rules : List Rule) → ((id : List ℕ) → is_given id rows ≡ is_given id other)
    → list_any (λ (a : Rule). a.required && not (is_given a.id rows)) rules ≡ list_any (λ (a : Rule). a.required && not (is_given a.id other)) rules
any_same rows other [] same = refl
any_same rows other (a ∷ rules) same =
    ap (λ (t : Bool). (a.required && not t) || list_any (λ (b : Rule). b.required && not (is_given b.id rows)) rules) (same a.id)
    ∙ ap (λ (t : Bool). (a.required && not (is_given a.id other)) || t) (any_same rows other rules same)

pub same_check : (s : Shape) (rows other : List Row) → IsLeaf s → Same rows other → check_fault s rows false ≡ check_fault s other false
same_check s rows other leaf same =
    leaf.check rows ∙ (ap (λ (t : Bool). check_kinds false false t) (any_same rows other s.rules same.given) ∙ sym (leaf.check other))
