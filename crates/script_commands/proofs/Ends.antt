-- How a script ends, by how its session does.
use Rattle.std.proofs.Common.{ℕ, ◌≡◌, List, ◌++◌, inl, inr, Option, Some, None, Ok, Err, refl, sym, ap, ◌∙◌, subst, append_assoc}
use Rattle.std.specs.Option.{option_map}
use Rattle.std.specs.Borrow.{Bor}
use Rattle.farm_tree.specs.declared.reads.TreeFile.{TreeFile}
use Rattle.farm_model.specs.State.{State, SettingsValue, start, standard_settings}
use Rattle.farm_model.specs.Script.{output_from}
use Rattle.farm_laws.proofs.Outputs.{state_behind, output_from-append}
use Rattle.script_session.specs.Session.{Answers, AllAnswered, LinesAnswered, PrefixAnswered}
use Rattle.script_commands.specs.declared.config.BadConfig.{BadConfig}
use Rattle.exit_status.specs.declared.exit.Exit.{Exit}
use Rattle.exit_status.specs.declared.exit.Exit.TheVariants as exit
use Rattle.script_commands.specs.Config.{ConfigIs}
use Rattle.script_commands.specs.Scripted.{Streams, session, Answered, AllDone, LinesDone, PrefixDone, RunEnds, NoSettingsEnds, ScriptEnds, HasSettings}

-- these settings
abbrev pub These : SettingsValue → SettingsValue → Type 0
These settings in_use = in_use ≡ settings

answered_by : (settings : SettingsValue) (farm : State) (bytes : List ℕ) (old new : Streams) → Answers (session (start settings) old) (session farm new) bytes → Answered settings bytes old new
answered_by settings farm bytes old new h = record { wrote = h.wrote; keeps = h.keeps settings refl; each = h.each settings refl }

pub all_done : (settings : SettingsValue) (first farm : State) (old new : Streams) → first ≡ start settings → AllAnswered (session first old) (session farm new) → AllDone (These settings) old new
all_done settings first farm old new at h =
    let a = subst (λ (s : State). AllAnswered (session s old) (session farm new)) at h in
    record { settings = settings; in_use = refl; bytes = a.bytes; took = a.took; ended = a.ended; answered = answered_by settings farm a.bytes old new a.answers }

pub lines_done : (settings : SettingsValue) (first farm : State) (old new : Streams) → first ≡ start settings → LinesAnswered (session first old) (session farm new) → LinesDone (These settings) old new
lines_done settings first farm old new at h =
    let a = subst (λ (s : State). LinesAnswered (session s old) (session farm new)) at h in
    record { settings = settings; in_use = refl; bytes = a.bytes; took = a.took; answered = answered_by settings farm _ old new a.answers }

pub prefix_done : (settings : SettingsValue) (first farm : State) (old new : Streams) → first ≡ start settings → PrefixAnswered (session first old) (session farm new) → PrefixDone (These settings) old new
prefix_done settings first farm old new at h =
    let a = subst (λ (s : State). PrefixAnswered (session s old) (session farm new)) at h in
    let rest = output_from (state_behind (start settings) a.lines) a.others in
    record {
      settings = settings;
      in_use = refl;
      bytes = a.bytes;
      took = a.took;
      text = a.text;
      wrote = a.wrote;
      after = a.after ++ rest;
      prefix =
          sym (append_assoc a.text a.after rest) ∙ ap (λ t. t ++ rest) a.prefix ∙ sym (output_from-append (start settings) a.lines a.others)
          ∙ ap (output_from (start settings)) (sym a.cut);
      keeps = a.keeps settings refl;
    }

lines_with : (A B : SettingsValue → Type 0) (old new : Streams) → ((s : SettingsValue) → A s → B s) → LinesDone A old new → LinesDone B old new
lines_with A B old new f h = record { settings = h.settings; in_use = f h.settings h.in_use; bytes = h.bytes; took = h.took; answered = h.answered }

prefix_with : (A B : SettingsValue → Type 0) (old new : Streams) → ((s : SettingsValue) → A s → B s) → PrefixDone A old new → PrefixDone B old new
prefix_with A B old new f h = record {
  settings = h.settings;
  in_use = f h.settings h.in_use;
  bytes = h.bytes;
  took = h.took;
  text = h.text;
  wrote = h.wrote;
  after = h.after;
  prefix = h.prefix;
  keeps = h.keeps;
}

-- the same, of settings that are in use for another reason
run_with : (A B : SettingsValue → Type 0) (old new : Streams) (e : Exit) → ((s : SettingsValue) → A s → B s) → RunEnds A old new e → RunEnds B old new e
run_with A B old new exit.Done f h = record { settings = h.settings; in_use = f h.settings h.in_use; bytes = h.bytes; took = h.took; ended = h.ended; answered = h.answered }
run_with A B old new exit.Usage f h = h
run_with A B old new exit.BadContest f h = h
run_with A B old new exit.ReadFault f h = lines_with A B old new f h
run_with A B old new exit.WriteFault f h = prefix_with A B old new f h
run_with A B old new exit.Memory f h = prefix_with A B old new f h
run_with A B old new exit.TreeFault f h = h
run_with A B old new exit.DoorFault f h = h
run_with A B old new exit.InputLimit f h = (lines_with A B old new f h.0, h.1)
run_with A B old new exit.LinkFault f h = h
run_with A B old new (exit.BadAnswer answer) f h = h
run_with A B old new exit.StoreFault f h = h
run_with A B old new (exit.BadStore flaw) f h = h
run_with A B old new (exit.StoreFull mark) f h = h

-- a script without a file of settings
pub standard_ends : (files : Option (List TreeFile)) (config : Option (Bor (List ℕ))) (old new : Streams) (unread unwritten : Type 0) (e : Exit) (settings : SettingsValue) → config ≡ None → settings ≡ standard_settings
    → RunEnds (These settings) old new e → ScriptEnds files (option_map (λ p. p.now) config) old new unread unwritten e
standard_ends files config old new unread unwritten e settings is same ends =
    subst (λ (o : Option (Bor (List ℕ))). ScriptEnds files (option_map (λ p. p.now) o) old new unread unwritten e) (sym is) (subst (λ (s : SettingsValue). RunEnds (These s) old new e) same ends)

-- Settings of a file

-- a script whose file gives these settings
pub file_ends : (files : Option (List TreeFile)) (config : Option (Bor (List ℕ))) (path : Bor (List ℕ)) (old new : Streams) (unread unwritten : Type 0) (e : Exit) (settings : SettingsValue) → config ≡ Some path
    → ConfigIs files path.now (Ok settings) → RunEnds (These settings) old new e → ScriptEnds files (option_map (λ p. p.now) config) old new unread unwritten e
file_ends files config path old new unread unwritten e settings is found ends =
    subst (λ (o : Option (Bor (List ℕ))). ScriptEnds files (option_map (λ p. p.now) o) old new unread unwritten e) (sym is)
    (inl (run_with (These settings) (λ (s : SettingsValue). ConfigIs files path.now (Ok s)) old new e (λ s same. subst (λ (x : SettingsValue). ConfigIs files path.now (Ok x)) (sym same) found) ends))

-- a script whose file gives no settings
pub refused_ends : (files : Option (List TreeFile)) (config : Option (Bor (List ℕ))) (path : Bor (List ℕ)) (old new : Streams) (unread unwritten : Type 0) (e : Exit) → config ≡ Some path → unread
    → NoSettingsEnds files path.now old.held new.held unwritten e → ScriptEnds files (option_map (λ p. p.now) config) old new unread unwritten e
refused_ends files config path old new unread unwritten e is untouched ends =
    subst (λ (o : Option (Bor (List ℕ))). ScriptEnds files (option_map (λ p. p.now) o) old new unread unwritten e) (sym is) (inr (untouched, ends))
