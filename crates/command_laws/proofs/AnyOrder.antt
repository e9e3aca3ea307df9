-- The command that items come to, in whatever order.
use Rattle.std.proofs.Common.{ℕ, ◌≡◌, List, [], ◌∷◌, Option, Some, None, Bool, true, false, cond, ◌&&◌, refl, sym, ap, ◌∙◌, fold, length, eqb, Contains}
use Rattle.std.specs.Prelude.{codes, ◌↔◌}
use Rattle.std.specs.List.{list_all}
use Rattle.std.specs.Option.{option_and_then, option_map_or}
use Rattle.std.specs.Str.{bytes_eq}
use Rattle.std.proofs.lemmas.Bool.{and_from}
use Rattle.farm_kinds.specs.Names.{name_read}
use Rattle.farm_model.specs.Numbers.{number_of, at_most}
use Rattle.clap.specs.Kinds.{Kinds, or_else}
use Rattle.clap.specs.Simple.{Shape, built}
use Rattle.clap.specs.Walk.{Row, first_of, with_default, nothing_held}
use Rattle.clap.specs.Faults.{check_fault, fault_of}
use Rattle.command_line.specs.Commands.{farm}
use Rattle.command_line.specs.Checks.{is_plain}
use Rattle.command_line.specs.Addresses.{address_with}
use Rattle.command_line.specs.Ranges.{from_1_to, host_limit, port_limit, lane_limit, fuel_limit}
use Rattle.command_line.specs.CommandLine.{CommandValue, command_of, is_accepted, named_command, said_of, judge_with, serve_with, host_with, connections_with, patience_with, wait_with, login_with}
use Rattle.command_laws.specs.Items.{Item, all_words, Grammar, all_said, TakesAll, judge_words, serve_words, host_words}
use Rattle.command_laws.proofs.Said.{Pair, has_none, AreNamedOnce, same_lookup, Same, same_said, same_defaults}
use Rattle.command_laws.proofs.Walks.{Knows, At, plain_words}
use Rattle.command_laws.proofs.Entering.{Enters, enters_rows, enters_fault, IsLeaf, ComesTo, comes_to, same_check}
use Rattle.command_laws.proofs.Leaves.{judge_shape, judge_knows, judge_leaf, judge_enters, serve_shape, serve_knows, serve_leaf, serve_enters, host_shape, host_knows, host_leaf, host_enters}

-- what is known of a command
record IsKnown (s : Shape) (g : Grammar) : Type 0 where
  pub enters : Enters (built farm) g.command s
  pub knows : Knows s g
  pub leaf : IsLeaf s
  pub start : At s g nothing_held 1 []
  pub plain : is_plain g.command ≡ true
  pub same : (rows other : List Row) → Same rows other → said_of g.command rows ≡ said_of g.command other

abbrev finished_rows : Shape → List Row → List Row
finished_rows s rows = fold with_default rows s.rules

abbrev outcome_of : Shape → Grammar → List Row → Option CommandValue
outcome_of s g rows = cond (eqb (length (or_else (check_fault s rows false) [])) 0) (said_of g.command rows) None

abbrev said_in : Option (List ℕ × List Row) → Option CommandValue
said_in named = option_and_then (λ n. said_of n.0 n.1) named

outcome : (s : Shape) (g : Grammar) (program : List ℕ) (items : List Item) → IsKnown s g → TakesAll g items → (c : ComesTo s g items)
    → command_of (program ∷ g.command ∷ all_words items) ≡ outcome_of s g (finished_rows s c.rows)
unfolding is_accepted named_command
outcome s g program items known takes c =
    let words = all_words items in
    let plain : (is_plain g.command && list_all is_plain words) ≡ true = and_from _ _ known.plain (plain_words s g items known.knows takes) in
    let faults : fault_of farm (program ∷ g.command ∷ words) ≡ or_else (check_fault s (finished_rows s c.rows) false) []
    = enters_fault (built farm) g.command s words known.enters ∙ ap (λ (k : Kinds). or_else k []) c.faults in
    let named : named_command (program ∷ g.command ∷ words) ≡ Some (g.command, finished_rows s c.rows)
    = enters_rows (built farm) g.command s words known.enters ∙ ap (λ (rows : List Row). Some (g.command, rows)) c.after in
    ap (λ (t : Bool). cond (t && is_accepted (program ∷ g.command ∷ words)) (said_in (named_command (program ∷ g.command ∷ words))) None) plain
    ∙ (ap (λ (k : Kinds). cond (eqb (length k) 0) (said_in (named_command (program ∷ g.command ∷ words))) None) faults
    ∙ ap (λ (o : Option (List ℕ × List Row)). cond (eqb (length (or_else (check_fault s (finished_rows s c.rows) false) [])) 0) (said_in o) None) named)

named_once : (g : Grammar) (items : List Item) → TakesAll g items → AreNamedOnce (all_said g items)
named_once g [] takes = tt
named_once g (item ∷ items) takes = (takes.1, named_once g items takes.2)

in_any_order : (s : Shape) (g : Grammar) (program : List ℕ) (items others : List Item) → IsKnown s g → TakesAll g items → TakesAll g others
    → ((m : Pair) → Contains (all_said g items) m ↔ Contains (all_said g others) m)
    → command_of (program ∷ g.command ∷ all_words items) ≡ command_of (program ∷ g.command ∷ all_words others)
in_any_order s g program items others known takes takes' same =
    let one = comes_to s g items known.knows known.leaf takes known.start in
    let two = comes_to s g others known.knows known.leaf takes' known.start in
    let alike = same_said one.rows two.rows (all_said g items) (all_said g others) one.has two.has (same_lookup (all_said g items) (all_said g others) (named_once g items takes) (named_once g others takes') same) in
    let rows = same_defaults s.rules one.rows two.rows alike in
    outcome s g program items known takes one
    ∙ (ap (λ (k : Kinds). cond (eqb (length (or_else k [])) 0) (said_of g.command (finished_rows s one.rows)) None) (same_check s (finished_rows s one.rows) (finished_rows s two.rows) known.leaf rows)
    ∙ (ap (λ (o : Option CommandValue). cond (eqb (length (or_else (check_fault s (finished_rows s two.rows) false) [])) 0) o None) (known.same (finished_rows s one.rows) (finished_rows s two.rows) rows)
    ∙ sym (outcome s g program others known takes' two)))

-- ---- what the rows of each command say

abbrev Said : Type 0
Said = Option (List ℕ)

abbrev flag_said : Said → Bool
flag_said o = option_map_or (λ text. bytes_eq text (codes "true")) o false

abbrev number_said : (ℕ → Option ℕ) → Said → Option ℕ
number_said in_range o = option_and_then in_range (option_and_then number_of o)

abbrev judge_from : Said → Said → Said → Option CommandValue
judge_from folder hosts journal = judge_with folder (number_said (at_most host_limit) hosts) (flag_said journal)

judge_same : (rows other : List Row) → Same rows other → said_of (codes "judge") rows ≡ said_of (codes "judge") other
judge_same rows other same =
    ap (λ (o : Said). judge_from o (first_of (codes "hosts") rows) (first_of (codes "journal") rows)) (same.first (codes "folder"))
    ∙ (ap (λ (o : Said). judge_from (first_of (codes "folder") other) o (first_of (codes "journal") rows)) (same.first (codes "hosts"))
    ∙ ap (λ (o : Said). judge_from (first_of (codes "folder") other) (first_of (codes "hosts") other) o) (same.first (codes "journal")))

abbrev serve_from : Said → Said → Said → Said → Said → Said → Said → Option CommandValue
serve_from folder address port lanes connections patience until =
    serve_with folder (address_with address) (number_said (at_most port_limit) port) (number_said (from_1_to lane_limit) lanes) (connections_with connections) (patience_with patience) (flag_said until)

abbrev host_from : Said → Said → Said → Said → Said → Said → Said → Option CommandValue
host_from address port name fuel wait user file =
    host_with address (number_said (from_1_to port_limit) port) (option_and_then name_read name) (number_said (from_1_to fuel_limit) fuel) (wait_with wait) (login_with user file)

serve_same : (rows other : List Row) → Same rows other → said_of (codes "serve") rows ≡ said_of (codes "serve") other
serve_same rows other same =
    ap (λ (o : Said). serve_from o (first_of (codes "address") rows) (first_of (codes "port") rows) (first_of (codes "lanes") rows) (first_of (codes "connections") rows) (first_of (codes "patience") rows) (first_of (codes "until-input-ends") rows)) (same.first (codes "folder"))
    ∙ (ap (λ (o : Said). serve_from (first_of (codes "folder") other) o (first_of (codes "port") rows) (first_of (codes "lanes") rows) (first_of (codes "connections") rows) (first_of (codes "patience") rows) (first_of (codes "until-input-ends") rows)) (same.first (codes "address"))
    ∙ (ap (λ (o : Said). serve_from (first_of (codes "folder") other) (first_of (codes "address") other) o (first_of (codes "lanes") rows) (first_of (codes "connections") rows) (first_of (codes "patience") rows) (first_of (codes "until-input-ends") rows)) (same.first (codes "port"))
    ∙ (ap (λ (o : Said). serve_from (first_of (codes "folder") other) (first_of (codes "address") other) (first_of (codes "port") other) o (first_of (codes "connections") rows) (first_of (codes "patience") rows) (first_of (codes "until-input-ends") rows)) (same.first (codes "lanes"))
    ∙ (ap (λ (o : Said). serve_from (first_of (codes "folder") other) (first_of (codes "address") other) (first_of (codes "port") other) (first_of (codes "lanes") other) o (first_of (codes "patience") rows) (first_of (codes "until-input-ends") rows)) (same.first (codes "connections"))
    ∙ (ap (λ (o : Said). serve_from (first_of (codes "folder") other) (first_of (codes "address") other) (first_of (codes "port") other) (first_of (codes "lanes") other) (first_of (codes "connections") other) o (first_of (codes "until-input-ends") rows)) (same.first (codes "patience"))
    ∙ (ap (λ (o : Said). serve_from (first_of (codes "folder") other) (first_of (codes "address") other) (first_of (codes "port") other) (first_of (codes "lanes") other) (first_of (codes "connections") other) (first_of (codes "patience") other) o) (same.first (codes "until-input-ends"))))))))

host_same : (rows other : List Row) → Same rows other → said_of (codes "host") rows ≡ said_of (codes "host") other
host_same rows other same =
    ap (λ (o : Said). host_from o (first_of (codes "port") rows) (first_of (codes "name") rows) (first_of (codes "fuel") rows) (first_of (codes "wait") rows) (first_of (codes "user") rows) (first_of (codes "password-file") rows)) (same.first (codes "address"))
    ∙ (ap (λ (o : Said). host_from (first_of (codes "address") other) o (first_of (codes "name") rows) (first_of (codes "fuel") rows) (first_of (codes "wait") rows) (first_of (codes "user") rows) (first_of (codes "password-file") rows)) (same.first (codes "port"))
    ∙ (ap (λ (o : Said). host_from (first_of (codes "address") other) (first_of (codes "port") other) o (first_of (codes "fuel") rows) (first_of (codes "wait") rows) (first_of (codes "user") rows) (first_of (codes "password-file") rows)) (same.first (codes "name"))
    ∙ (ap (λ (o : Said). host_from (first_of (codes "address") other) (first_of (codes "port") other) (first_of (codes "name") other) o (first_of (codes "wait") rows) (first_of (codes "user") rows) (first_of (codes "password-file") rows)) (same.first (codes "fuel"))
    ∙ (ap (λ (o : Said). host_from (first_of (codes "address") other) (first_of (codes "port") other) (first_of (codes "name") other) (first_of (codes "fuel") other) o (first_of (codes "user") rows) (first_of (codes "password-file") rows)) (same.first (codes "wait"))
    ∙ (ap (λ (o : Said). host_from (first_of (codes "address") other) (first_of (codes "port") other) (first_of (codes "name") other) (first_of (codes "fuel") other) (first_of (codes "wait") other) o (first_of (codes "password-file") rows)) (same.first (codes "user"))
    ∙ (ap (λ (o : Said). host_from (first_of (codes "address") other) (first_of (codes "port") other) (first_of (codes "name") other) (first_of (codes "fuel") other) (first_of (codes "wait") other) (first_of (codes "user") other) o) (same.first (codes "password-file"))))))))

judge_known : IsKnown judge_shape judge_words
judge_known = record {
  enters = judge_enters;
  knows = judge_knows;
  leaf = judge_leaf;
  start = record { has = has_none; none = refl; first = λ e. refl };
  plain = refl;
  same = judge_same;
}

pub judge_in_any_order : (program : List ℕ) (items others : List Item) → TakesAll judge_words items → TakesAll judge_words others
    → ((m : Pair) → Contains (all_said judge_words items) m ↔ Contains (all_said judge_words others) m)
    → command_of (program ∷ codes "judge" ∷ all_words items) ≡ command_of (program ∷ codes "judge" ∷ all_words others)
judge_in_any_order program items others takes takes' same = in_any_order judge_shape judge_words program items others judge_known takes takes' same

serve_known : IsKnown serve_shape serve_words
serve_known = record {
  enters = serve_enters;
  knows = serve_knows;
  leaf = serve_leaf;
  start = record { has = has_none; none = refl; first = λ e. refl };
  plain = refl;
  same = serve_same;
}

pub serve_in_any_order : (program : List ℕ) (items others : List Item) → TakesAll serve_words items → TakesAll serve_words others
    → ((m : Pair) → Contains (all_said serve_words items) m ↔ Contains (all_said serve_words others) m)
    → command_of (program ∷ codes "serve" ∷ all_words items) ≡ command_of (program ∷ codes "serve" ∷ all_words others)
serve_in_any_order program items others takes takes' same = in_any_order serve_shape serve_words program items others serve_known takes takes' same

host_known : IsKnown host_shape host_words
host_known = record {
  enters = host_enters;
  knows = host_knows;
  leaf = host_leaf;
  start = record { has = has_none; none = refl; first = λ e. refl };
  plain = refl;
  same = host_same;
}

pub host_in_any_order : (program : List ℕ) (items others : List Item) → TakesAll host_words items → TakesAll host_words others
    → ((m : Pair) → Contains (all_said host_words items) m ↔ Contains (all_said host_words others) m)
    → command_of (program ∷ codes "host" ∷ all_words items) ≡ command_of (program ∷ codes "host" ∷ all_words others)
host_in_any_order program items others takes takes' same = in_any_order host_shape host_words program items others host_known takes takes' same
