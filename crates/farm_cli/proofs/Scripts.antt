-- A script, and the listing of a store, among the commands.
use Rattle.std.proofs.Common.{◌≡◌, ℕ, List, ◌⊎◌, IsTrue, Option, Some, None, subst}
use Rattle.std.specs.Option.{IfSome}
use Rattle.farm_tree.specs.declared.reads.TreeFile.{TreeFile}
use Rattle.store_listing.specs.Listing.{is_store}
use Rattle.command_line.specs.CommandLine.{CommandValue, Script, Store}
use Rattle.exit_status.specs.declared.exit.Exit.{Exit}
use Rattle.exit_status.specs.declared.exit.Exit.TheVariants as exit
use Rattle.script_commands.specs.Scripted.{ScriptIsDone}
use Rattle.script_commands.specs.Stored.{StoreUse, file_before, StoredIsDone, ListIsDone}
use Rattle.farm_cli.specs.Hosting.{LinkUse}
use Rattle.farm_cli.specs.Commands.{CommandIsDone}

-- T, S, K, D, L and Y: the tree, the input, the output, the door, the link and the disk have failed
pub script_complete : {M : Type 0} (files : Option (List TreeFile)) (config : Option (List ℕ)) (command : Option CommandValue) (link : LinkUse M) (store : StoreUse) (left : Option (List ℕ)) (T S K D L Y : Type 0) (e : Exit)
    → Some (Script config None) ≡ command → ScriptIsDone files config left (¬ T × ¬ S × ¬ K) e → IfSome command (λ command. CommandIsDone files command link store left (¬ T × ¬ S × ¬ K × ¬ D × ¬ L × ¬ Y) e)
unfolding ScriptIsDone
script_complete files config command link store left T S K D L Y e is done =
    subst (λ (o : Option CommandValue). IfSome o (λ command. CommandIsDone files command link store left (¬ T × ¬ S × ¬ K × ¬ D × ¬ L × ¬ Y) e)) is
    (λ has short faultless. done has short (faultless.0, faultless.1, faultless.2))

pub stored_complete : {M : Type 0} (files : Option (List TreeFile)) (config : Option (List ℕ)) (path : List ℕ) (command : Option CommandValue) (link : LinkUse M) (store : StoreUse) (left : Option (List ℕ)) (T S K D L Y : Type 0) (e : Exit)
    → Some (Script config (Some path)) ≡ command → StoredIsDone files config store left (¬ T × ¬ S × ¬ K × ¬ Y) e → IfSome command (λ command. CommandIsDone files command link store left (¬ T × ¬ S × ¬ K × ¬ D × ¬ L × ¬ Y) e)
unfolding StoredIsDone
stored_complete files config path command link store left T S K D L Y e is done =
    subst (λ (o : Option CommandValue). IfSome o (λ command. CommandIsDone files command link store left (¬ T × ¬ S × ¬ K × ¬ D × ¬ L × ¬ Y) e)) is
    (λ has short faultless not_full. done has short (faultless.0, faultless.1, faultless.2, faultless.5) not_full)

pub list_complete : {M : Type 0} (files : Option (List TreeFile)) (path : List ℕ) (command : Option CommandValue) (link : LinkUse M) (store : StoreUse) (left : Option (List ℕ)) (T S K D L Y : Type 0) (e : Exit)
    → Some (Store path) ≡ command → (IsTrue store.tells → IsTrue (is_store (file_before store)) → ¬ K → ¬ Y → (e ≡ exit.Done) ⊎ (e ≡ exit.Memory))
    → IfSome command (λ command. CommandIsDone files command link store left (¬ T × ¬ S × ¬ K × ¬ D × ¬ L × ¬ Y) e)
unfolding ListIsDone
list_complete files path command link store left T S K D L Y e is done =
    subst (λ (o : Option CommandValue). IfSome o (λ command. CommandIsDone files command link store left (¬ T × ¬ S × ¬ K × ¬ D × ¬ L × ¬ Y) e)) is
    (λ told is_one faultless. done told is_one faultless.2 faultless.5)
