-- A command whose words were not read, for want of memory.
use Rattle.std.proofs.Common.{ℕ, ◌≡◌, List, [], Option, None, Some, inl, inr, refl, sym, ap, subst}
use Rattle.std.specs.Prelude.{IfSome}
use Rattle.std.proofs.KnownBytes.{Consumes-nil, Appends-nil}
use Rattle.farm_tree.specs.declared.reads.TreeFile.{TreeFile}
use Rattle.farm_model.specs.State.{standard_settings}
use Rattle.farm_model.specs.Script.{script_output}
use Rattle.farm_laws.proofs.Promised.{prefix_keeps_promise}
use Rattle.command_line.specs.CommandLine.{CommandValue, Script, Store, Judge, Make, Serve, Host, command_of}
use Rattle.exit_status.specs.declared.exit.Exit.TheVariants as exit
use Rattle.sha2.specs.Sha256.{sha256}
use Rattle.record_store.specs.Model.{DiskTime, AtEachMoment}
use Rattle.record_store.proofs.Moments.{started}
use Rattle.record_store.proofs.Images.{quiet_leaves}
use Rattle.stored_events.specs.Opening.{HoldsOrBegins}
use Rattle.store_listing.specs.Listing.{store_text}
use Rattle.script_commands.specs.Scripted.{Streams, PrefixDone, ScriptIsDone}
use Rattle.script_commands.specs.Stored.{StoreState, StoreUse, IsUnopened, IsUnplayed, lines_before, IsListingPrefix, StoredIsDone, ListIsDone}
use Rattle.farm_cli.specs.Commands.{CommandEnds, CommandIsDone}
use Rattle.judge_commands.specs.Judged.{ContestIsDone}
use Rattle.farm_cli.specs.ServedContest.{DoorUse, IsUnasked}
use Rattle.judge_commands.specs.Making.{MakeIsDone}
use Rattle.farm_cli.specs.Hosting.{LinkUse, IsUnlinked, HostIsDone, host_of}

-- no byte was taken, and none was written
nothing_done : (at : Streams) → PrefixDone (λ settings. settings ≡ standard_settings) at at
nothing_done at = record {
  settings = standard_settings;
  in_use = refl;
  bytes = [];
  took = Consumes-nil at.left;
  text = [];
  wrote = Appends-nil at.held;
  after = script_output standard_settings [];
  prefix = refl;
  keeps = prefix_keeps_promise standard_settings [] [] (script_output standard_settings []) refl;
}

-- no line of a store was written
nothing_listed : (store : StoreUse) (held : Option (List ℕ)) → IsUnopened store → IsListingPrefix store held held
nothing_listed store held shut = record {
  still = λ told. ap (λ (s : StoreState). s.time) shut;
  wrote = λ told. record { text = []; after = store_text (lines_before store); put = Appends-nil held; prefix = refl };
}

-- no store was opened
unopened_store : (files : Option (List TreeFile)) (store : StoreUse) → IsUnopened store → IsUnplayed files None store
unopened_store files store shut =
    let t : DiskTime = store.old.time in
    let P : List ℕ → Type 0 = HoldsOrBegins (sha256 []) (lines_before store) in
    record {
      settings = standard_settings;
      digest = sha256 [];
      in_use = (refl, refl);
      moments = λ told quiet. subst (λ (s : StoreState). AtEachMoment P t s.time) (sym shut) (started P t (quiet_leaves P t.now quiet (inl refl)));
    }

command_ends : {N M : Type 0} (files : Option (List TreeFile)) (command : Option CommandValue) (door : DoorUse N) (link : LinkUse M) (store : StoreUse) (at : Streams) (unread unwritten : Type 0) → IsUnasked door → IsUnlinked link → IsUnopened store → unread → unwritten
    → IfSome command (λ asked. CommandEnds files asked door link store at at unread unwritten exit.Memory)
command_ends files None door link store at unread unwritten same alone shut still empty = tt
command_ends files (Some (Script None None)) door link store at unread unwritten same alone shut still empty = nothing_done at
command_ends files (Some (Script (Some path) None)) door link store at unread unwritten same alone shut still empty = inr (still, empty)
command_ends files (Some (Script None (Some path))) door link store at unread unwritten same alone shut still empty = inr (still, empty, unopened_store files store shut)
command_ends files (Some (Script (Some file) (Some path))) door link store at unread unwritten same alone shut still empty = inr (shut, still, empty)
command_ends files (Some (Store path)) door link store at unread unwritten same alone shut still empty = (still, nothing_listed store at.held shut)
command_ends files (Some (Judge folder hosts journal)) door link store at unread unwritten same alone shut still empty = (still, empty)
command_ends files (Some (Make number size)) door link store at unread unwritten same alone shut still empty = (still, empty)
command_ends files (Some (Serve folder address port lanes connections patience until_input_ends)) door link store at unread unwritten same alone shut still empty = (still, inr (same, empty))
command_ends files (Some (Host address port name fuel wait None)) door link store at unread unwritten same alone shut still empty = (still, inl (host_of name wait [], refl, inl (alone, empty)))
command_ends files (Some (Host address port name fuel wait (Some login))) door link store at unread unwritten same alone shut still empty = (still, inr (alone, empty))

pub unread_ends : {N M : Type 0} (files : Option (List TreeFile)) (words : List (List ℕ)) (door : DoorUse N) (link : LinkUse M) (store : StoreUse) (at : Streams) (unread unwritten : Type 0) → IsUnasked door → IsUnlinked link → IsUnopened store → unread → unwritten
    → IfSome (command_of words) (λ asked. CommandEnds files asked door link store at at unread unwritten exit.Memory)
unread_ends files words door link store at unread unwritten same alone shut still empty = command_ends files (command_of words) door link store at unread unwritten same alone shut still empty

command_is_done : {M : Type 0} (files : Option (List TreeFile)) (command : Option CommandValue) (link : LinkUse M) (store : StoreUse) (left : Option (List ℕ)) (faultless : Type 0)
    → IfSome command (λ asked. CommandIsDone files asked link store left faultless exit.Memory)
unfolding ScriptIsDone StoredIsDone ListIsDone ContestIsDone MakeIsDone HostIsDone
command_is_done files None link store left faultless = tt
command_is_done files (Some (Script config None)) link store left faultless = λ has short none. inr refl
command_is_done files (Some (Script config (Some path))) link store left faultless = λ has short none room. inr refl
command_is_done files (Some (Store path)) link store left faultless = λ told is none. inr refl
command_is_done files (Some (Judge folder hosts journal)) link store left faultless = λ has none. inr refl
command_is_done files (Some (Make number size)) link store left faultless = λ none. inr refl
command_is_done files (Some (Serve folder address port lanes connections patience until_input_ends)) link store left faultless = λ has none. inr refl
command_is_done files (Some (Host address port name fuel wait login)) link store left faultless = λ has none uncut unmisled. inr refl

pub unread_is_done : {M : Type 0} (files : Option (List TreeFile)) (words : List (List ℕ)) (link : LinkUse M) (store : StoreUse) (left : Option (List ℕ)) (faultless : Type 0)
    → IfSome (command_of words) (λ asked. CommandIsDone files asked link store left faultless exit.Memory)
unread_is_done files words link store left faultless = command_is_done files (command_of words) link store left faultless
