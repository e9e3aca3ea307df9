-- The grammar of the command line, as `clap` sees it: one command with one level of subcommands.
use Rattle.std.specs.Prelude.{List, ℕ, Bool, true, false, Some, codes}
use Rattle.clap.specs.Words.{App, Rule, new_app, new_rule, with_rule, with_subcommand}
use Rattle.clap.specs.declared.builder.ArgAction.TheVariants.{Set, SetTrue}

-- `--NAME VALUE` or `--NAME=VALUE`
abbrev pub option : List ℕ → Bool → Rule
option name required =
    record (new_rule name) { long = Some name; action = Some Set; value_names = 1; required = required }

-- `--NAME`
abbrev pub flag : List ℕ → Rule
flag name = record (new_rule name) { long = Some name; action = Some SetTrue }

-- a word, which has to be there
abbrev pub operand : List ℕ → Rule
operand name = record (new_rule name) { action = Some Set; value_names = 1; required = true }

-- `judge FOLDER --hosts N [--journal]`
abbrev pub judge : App
judge =
    let with_folder = with_rule (new_app (codes "judge")) (operand (codes "folder")) in
    let with_hosts = with_rule with_folder (option (codes "hosts") true) in
    with_rule with_hosts (flag (codes "journal"))

-- `script [--config FILE] [--store FILE]`
abbrev pub script : App
script =
    let with_config = with_rule (new_app (codes "script")) (option (codes "config") false) in
    with_rule with_config (option (codes "store") false)

-- `store FILE`
abbrev pub store : App
store = with_rule (new_app (codes "store")) (operand (codes "file"))

-- `make NUMBER PROBLEMS SUBMISSIONS`
abbrev pub make : App
make =
    let with_number = with_rule (new_app (codes "make")) (operand (codes "number")) in
    let with_problems = with_rule with_number (operand (codes "problems")) in
    with_rule with_problems (operand (codes "submissions"))

-- `serve FOLDER --port P --lanes N [--connections M]`
abbrev pub plain_serve : App
plain_serve =
    let with_folder = with_rule (new_app (codes "serve")) (operand (codes "folder")) in
    let with_port = with_rule with_folder (option (codes "port") true) in
    let with_lanes = with_rule with_port (option (codes "lanes") true) in
    with_rule with_lanes (option (codes "connections") false)

-- `serve FOLDER --port P --lanes N [--connections M] [--address A] [--patience SECONDS] [--until-input-ends]`
abbrev pub serve : App
serve =
    let with_address = with_rule plain_serve (option (codes "address") false) in
    let with_patience = with_rule with_address (option (codes "patience") false) in
    with_rule with_patience (flag (codes "until-input-ends"))

-- `host ADDRESS --port P --name NAME --fuel F`
abbrev pub plain_host : App
plain_host =
    let with_address = with_rule (new_app (codes "host")) (operand (codes "address")) in
    let with_port = with_rule with_address (option (codes "port") true) in
    let with_name = with_rule with_port (option (codes "name") true) in
    with_rule with_name (option (codes "fuel") true)

-- `host ADDRESS --port P --name NAME --fuel F [--wait SECONDS] [--user USER --password-file FILE]`
abbrev pub host : App
host =
    let with_wait = with_rule plain_host (option (codes "wait") false) in
    let with_user = with_rule with_wait (option (codes "user") false) in
    with_rule with_user (option (codes "password-file") false)

-- the program without its commands: one has to be named, and there are no words for help or the version
abbrev pub bare : App
bare =
    let new = new_app (codes "farm") in
    record new {
      top = record new.top {
        disable_help_flag = true;
        disable_help_subcommand = true;
        disable_version_flag = true;
        subcommand_required = true;
      };
    }

-- and with those that read the folder of a contest
abbrev pub with_contests : App
with_contests = with_subcommand (with_subcommand bare judge.top) serve.top

-- and with the one that works for a server
abbrev pub with_hosts : App
with_hosts = with_subcommand with_contests host.top

-- and with those that play the lines of events, and list those of a store
abbrev pub with_scripts : App
with_scripts = with_subcommand (with_subcommand with_hosts script.top) store.top

abbrev pub farm : App
farm = with_subcommand with_scripts make.top

-- the program with its commands, which also knows the words that ask for help and for the version
abbrev pub helping : App
helping =
    record farm {
      top = record farm.top {
        disable_help_flag = false;
        disable_help_subcommand = false;
        disable_version_flag = false;
        has_version = true;
      };
    }
