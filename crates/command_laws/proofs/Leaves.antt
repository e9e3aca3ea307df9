-- What the grammar of the words has of each command.
use Rattle.std.proofs.Common.{ℕ, List, [], ◌∷◌, ◌++◌, false, refl, Contains}
use Rattle.std.specs.Prelude.{codes}
use Rattle.std.specs.Option.{option_map_or}
use Rattle.std.specs.Str.{bytes_eq}
use Rattle.package_folder.proofs.Members.{first_or_later, none_in}
use Rattle.std.proofs.Common.{subst, inl, inr}
use Rattle.clap.proofs.OnLiterals.{clap_on_literals}
use Rattle.clap.specs.Values.{reading_of}
use Rattle.clap.specs.declared.builder.value_parser.Reading.{Reading}
use Rattle.clap.specs.declared.builder.value_parser.ValueParser.TheVariants as vp
use Rattle.clap.specs.Simple.{App, Shape, built, built_leaf, inherited, marked_built, with_leaf_noted}
use Rattle.command_line.specs.Commands.{farm, judge, serve, host}
use Rattle.command_laws.specs.Items.{judge_words, serve_words, host_words}
use Rattle.command_laws.proofs.Walks.{IsOption, IsFlag, IsOperand, Knows, plain_joined}
use Rattle.command_laws.proofs.Entering.{Enters, IsLeaf}

-- the commands below the program
abbrev shape_below : App → Shape
shape_below a = built_leaf (inherited (with_leaf_noted (marked_built farm.top)) a.top)

abbrev as_text : Reading
as_text = reading_of vp.String

abbrev as_flag : Reading
as_flag = reading_of vp.Bool

-- what holds of the first and of the others
of_cons : (P : List ℕ → Type 0) (x : List ℕ) (xs : List (List ℕ)) → P x → ((y : List ℕ) → Contains xs y → P y) → (y : List ℕ) → Contains (x ∷ xs) y → P y
of_cons P x xs here there y h = elim (first_or_later x y xs h) [ inl same ↦ subst P same here | inr later ↦ there y later ]

of_nil : (P : List ℕ → Type 0) (y : List ℕ) → Contains [] y → P y
of_nil P y h = absurd (none_in y h)

-- ---- judge

pub judge_shape : Shape
judge_shape = shape_below judge

judge_hosts : IsOption judge_shape (codes "hosts")
unfolding judge_shape clap_on_literals
judge_hosts = record {
  how = as_text;
  one = record { settles = λ v rows. refl; faults = λ v h. refl };
  plain = refl;
  joined_plain = λ v. plain_joined (45 ∷ (codes "hosts" ++ 61 ∷ v)) v refl refl refl;
  met = λ h p. refl;
  met_fault = λ h p. refl;
  value = λ h v. refl;
  joined = λ h p v. refl;
  joined_fault = λ h p v. refl;
}

judge_journal : IsFlag judge_shape (codes "journal")
unfolding judge_shape clap_on_literals
judge_journal = record { how = as_flag; plain = refl; met = λ h p. refl; met_fault = λ h p. refl }

judge_operand : IsOperand judge_shape (codes "folder")
unfolding judge_shape clap_on_literals
judge_operand = record {
  how = as_text;
  one = record { settles = λ v rows. refl; faults = λ v h. refl };
  same = λ h. option_map_or (λ q. bytes_eq q.0 (codes "folder")) h.pending false;
  met = λ h v. refl;
  met_fault = λ h. refl;
}

pub judge_knows : Knows judge_shape judge_words
judge_knows = record {
  options = of_cons (IsOption judge_shape) (codes "hosts") ([]) judge_hosts (of_nil (IsOption judge_shape));
  flags = of_cons (IsFlag judge_shape) (codes "journal") ([]) judge_journal (of_nil (IsFlag judge_shape));
  operand = judge_operand;
}

pub judge_leaf : IsLeaf judge_shape
unfolding judge_shape clap_on_literals
judge_leaf = record { defaults = (refl, (refl, (refl, tt))); check = λ rows. refl }

pub judge_enters : Enters (built farm) (codes "judge") judge_shape
unfolding judge_shape clap_on_literals
judge_enters = record { first = refl; fine = refl; found = refl; named = refl; end = refl }

-- ---- serve

pub serve_shape : Shape
serve_shape = shape_below serve

serve_port : IsOption serve_shape (codes "port")
unfolding serve_shape clap_on_literals
serve_port = record {
  how = as_text;
  one = record { settles = λ v rows. refl; faults = λ v h. refl };
  plain = refl;
  joined_plain = λ v. plain_joined (45 ∷ (codes "port" ++ 61 ∷ v)) v refl refl refl;
  met = λ h p. refl;
  met_fault = λ h p. refl;
  value = λ h v. refl;
  joined = λ h p v. refl;
  joined_fault = λ h p v. refl;
}

serve_lanes : IsOption serve_shape (codes "lanes")
unfolding serve_shape clap_on_literals
serve_lanes = record {
  how = as_text;
  one = record { settles = λ v rows. refl; faults = λ v h. refl };
  plain = refl;
  joined_plain = λ v. plain_joined (45 ∷ (codes "lanes" ++ 61 ∷ v)) v refl refl refl;
  met = λ h p. refl;
  met_fault = λ h p. refl;
  value = λ h v. refl;
  joined = λ h p v. refl;
  joined_fault = λ h p v. refl;
}

serve_connections : IsOption serve_shape (codes "connections")
unfolding serve_shape clap_on_literals
serve_connections = record {
  how = as_text;
  one = record { settles = λ v rows. refl; faults = λ v h. refl };
  plain = refl;
  joined_plain = λ v. plain_joined (45 ∷ (codes "connections" ++ 61 ∷ v)) v refl refl refl;
  met = λ h p. refl;
  met_fault = λ h p. refl;
  value = λ h v. refl;
  joined = λ h p v. refl;
  joined_fault = λ h p v. refl;
}

serve_address : IsOption serve_shape (codes "address")
unfolding serve_shape clap_on_literals
serve_address = record {
  how = as_text;
  one = record { settles = λ v rows. refl; faults = λ v h. refl };
  plain = refl;
  joined_plain = λ v. plain_joined (45 ∷ (codes "address" ++ 61 ∷ v)) v refl refl refl;
  met = λ h p. refl;
  met_fault = λ h p. refl;
  value = λ h v. refl;
  joined = λ h p v. refl;
  joined_fault = λ h p v. refl;
}

serve_patience : IsOption serve_shape (codes "patience")
unfolding serve_shape clap_on_literals
serve_patience = record {
  how = as_text;
  one = record { settles = λ v rows. refl; faults = λ v h. refl };
  plain = refl;
  joined_plain = λ v. plain_joined (45 ∷ (codes "patience" ++ 61 ∷ v)) v refl refl refl;
  met = λ h p. refl;
  met_fault = λ h p. refl;
  value = λ h v. refl;
  joined = λ h p v. refl;
  joined_fault = λ h p v. refl;
}

serve_until_input_ends : IsFlag serve_shape (codes "until-input-ends")
unfolding serve_shape clap_on_literals
serve_until_input_ends = record { how = as_flag; plain = refl; met = λ h p. refl; met_fault = λ h p. refl }

serve_operand : IsOperand serve_shape (codes "folder")
unfolding serve_shape clap_on_literals
serve_operand = record {
  how = as_text;
  one = record { settles = λ v rows. refl; faults = λ v h. refl };
  same = λ h. option_map_or (λ q. bytes_eq q.0 (codes "folder")) h.pending false;
  met = λ h v. refl;
  met_fault = λ h. refl;
}

pub serve_knows : Knows serve_shape serve_words
serve_knows = record {
  options = of_cons (IsOption serve_shape) (codes "port") (codes "lanes" ∷ codes "connections" ∷ codes "address" ∷ codes "patience" ∷ []) serve_port (of_cons (IsOption serve_shape) (codes "lanes") (codes "connections" ∷ codes "address" ∷ codes "patience" ∷ []) serve_lanes (of_cons (IsOption serve_shape) (codes "connections") (codes "address" ∷ codes "patience" ∷ []) serve_connections (of_cons (IsOption serve_shape) (codes "address") (codes "patience" ∷ []) serve_address (of_cons (IsOption serve_shape) (codes "patience") ([]) serve_patience (of_nil (IsOption serve_shape))))));
  flags = of_cons (IsFlag serve_shape) (codes "until-input-ends") ([]) serve_until_input_ends (of_nil (IsFlag serve_shape));
  operand = serve_operand;
}

pub serve_leaf : IsLeaf serve_shape
unfolding serve_shape clap_on_literals
serve_leaf = record { defaults = (refl, (refl, (refl, (refl, (refl, (refl, (refl, tt))))))); check = λ rows. refl }

pub serve_enters : Enters (built farm) (codes "serve") serve_shape
unfolding serve_shape clap_on_literals
serve_enters = record { first = refl; fine = refl; found = refl; named = refl; end = refl }

-- ---- host

pub host_shape : Shape
host_shape = shape_below host

host_port : IsOption host_shape (codes "port")
unfolding host_shape clap_on_literals
host_port = record {
  how = as_text;
  one = record { settles = λ v rows. refl; faults = λ v h. refl };
  plain = refl;
  joined_plain = λ v. plain_joined (45 ∷ (codes "port" ++ 61 ∷ v)) v refl refl refl;
  met = λ h p. refl;
  met_fault = λ h p. refl;
  value = λ h v. refl;
  joined = λ h p v. refl;
  joined_fault = λ h p v. refl;
}

host_name : IsOption host_shape (codes "name")
unfolding host_shape clap_on_literals
host_name = record {
  how = as_text;
  one = record { settles = λ v rows. refl; faults = λ v h. refl };
  plain = refl;
  joined_plain = λ v. plain_joined (45 ∷ (codes "name" ++ 61 ∷ v)) v refl refl refl;
  met = λ h p. refl;
  met_fault = λ h p. refl;
  value = λ h v. refl;
  joined = λ h p v. refl;
  joined_fault = λ h p v. refl;
}

host_fuel : IsOption host_shape (codes "fuel")
unfolding host_shape clap_on_literals
host_fuel = record {
  how = as_text;
  one = record { settles = λ v rows. refl; faults = λ v h. refl };
  plain = refl;
  joined_plain = λ v. plain_joined (45 ∷ (codes "fuel" ++ 61 ∷ v)) v refl refl refl;
  met = λ h p. refl;
  met_fault = λ h p. refl;
  value = λ h v. refl;
  joined = λ h p v. refl;
  joined_fault = λ h p v. refl;
}

host_wait : IsOption host_shape (codes "wait")
unfolding host_shape clap_on_literals
host_wait = record {
  how = as_text;
  one = record { settles = λ v rows. refl; faults = λ v h. refl };
  plain = refl;
  joined_plain = λ v. plain_joined (45 ∷ (codes "wait" ++ 61 ∷ v)) v refl refl refl;
  met = λ h p. refl;
  met_fault = λ h p. refl;
  value = λ h v. refl;
  joined = λ h p v. refl;
  joined_fault = λ h p v. refl;
}

host_user : IsOption host_shape (codes "user")
unfolding host_shape clap_on_literals
host_user = record {
  how = as_text;
  one = record { settles = λ v rows. refl; faults = λ v h. refl };
  plain = refl;
  joined_plain = λ v. plain_joined (45 ∷ (codes "user" ++ 61 ∷ v)) v refl refl refl;
  met = λ h p. refl;
  met_fault = λ h p. refl;
  value = λ h v. refl;
  joined = λ h p v. refl;
  joined_fault = λ h p v. refl;
}

host_password_file : IsOption host_shape (codes "password-file")
unfolding host_shape clap_on_literals
host_password_file = record {
  how = as_text;
  one = record { settles = λ v rows. refl; faults = λ v h. refl };
  plain = refl;
  joined_plain = λ v. plain_joined (45 ∷ (codes "password-file" ++ 61 ∷ v)) v refl refl refl;
  met = λ h p. refl;
  met_fault = λ h p. refl;
  value = λ h v. refl;
  joined = λ h p v. refl;
  joined_fault = λ h p v. refl;
}

host_operand : IsOperand host_shape (codes "address")
unfolding host_shape clap_on_literals
host_operand = record {
  how = as_text;
  one = record { settles = λ v rows. refl; faults = λ v h. refl };
  same = λ h. option_map_or (λ q. bytes_eq q.0 (codes "address")) h.pending false;
  met = λ h v. refl;
  met_fault = λ h. refl;
}

pub host_knows : Knows host_shape host_words
host_knows = record {
  options = of_cons (IsOption host_shape) (codes "port") (codes "name" ∷ codes "fuel" ∷ codes "wait" ∷ codes "user" ∷ codes "password-file" ∷ []) host_port (of_cons (IsOption host_shape) (codes "name") (codes "fuel" ∷ codes "wait" ∷ codes "user" ∷ codes "password-file" ∷ []) host_name (of_cons (IsOption host_shape) (codes "fuel") (codes "wait" ∷ codes "user" ∷ codes "password-file" ∷ []) host_fuel (of_cons (IsOption host_shape) (codes "wait") (codes "user" ∷ codes "password-file" ∷ []) host_wait (of_cons (IsOption host_shape) (codes "user") (codes "password-file" ∷ []) host_user (of_cons (IsOption host_shape) (codes "password-file") ([]) host_password_file (of_nil (IsOption host_shape)))))));
  flags = of_nil (IsFlag host_shape);
  operand = host_operand;
}

pub host_leaf : IsLeaf host_shape
unfolding host_shape clap_on_literals
host_leaf = record { defaults = (refl, (refl, (refl, (refl, (refl, (refl, (refl, tt))))))); check = λ rows. refl }

pub host_enters : Enters (built farm) (codes "host") host_shape
unfolding host_shape clap_on_literals
host_enters = record { first = refl; fine = refl; found = refl; named = refl; end = refl }
