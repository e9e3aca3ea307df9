-- A contest's judging among the commands.
use Rattle.std.proofs.Common.{◌≡◌, ℕ, List, Option, Some, subst}
use Rattle.std.specs.Prelude.{◌⊎◌, Bool, IfSome}
use Rattle.farm_tree.specs.declared.reads.TreeFile.{TreeFile}
use Rattle.exit_status.specs.declared.exit.Exit.{Exit}
use Rattle.exit_status.specs.declared.exit.Exit.TheVariants as exit
use Rattle.command_line.specs.CommandLine.{CommandValue, Judge}
use Rattle.judge_commands.specs.Judged.{HasContest, ContestIsDone}
use Rattle.script_commands.specs.Stored.{StoreUse}
use Rattle.farm_cli.specs.Hosting.{LinkUse}
use Rattle.farm_cli.specs.Commands.{CommandIsDone}

-- T, S, K, D, L and Y: the tree, the input, the output, the door, the link and the disk have failed
pub judge_complete : {M : Type 0} (files : Option (List TreeFile)) (folder : List ℕ) (hosts : ℕ) (journal : Bool) (command : Option CommandValue) (link : LinkUse M) (store : StoreUse) (left : Option (List ℕ)) (T S K D L Y : Type 0) (e : Exit)
    → Some (Judge folder hosts journal) ≡ command → (HasContest files folder → ¬ T → ¬ K → (e ≡ exit.Done) ⊎ (e ≡ exit.Memory))
    → IfSome command (λ command. CommandIsDone files command link store left (¬ T × ¬ S × ¬ K × ¬ D × ¬ L × ¬ Y) e)
unfolding ContestIsDone
judge_complete files folder hosts journal command link store left T S K D L Y e is done =
    subst (λ (o : Option CommandValue). IfSome o (λ command. CommandIsDone files command link store left (¬ T × ¬ S × ¬ K × ¬ D × ¬ L × ¬ Y) e)) is (λ has faultless. done has faultless.0 faultless.2)
