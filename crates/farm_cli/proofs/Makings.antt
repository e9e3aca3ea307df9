-- A made contest among the commands.
use Rattle.std.proofs.Common.{◌≡◌, ℕ, List, Option, Some, inl, inr, subst}
use Rattle.std.specs.Prelude.{◌⊎◌, IfSome}
use Rattle.farm_tree.specs.declared.reads.TreeFile.{TreeFile}
use Rattle.exit_status.specs.declared.exit.Exit.{Exit}
use Rattle.exit_status.specs.declared.exit.Exit.TheVariants as exit
use Rattle.command_line.specs.CommandLine.{CommandValue, Make}
use Rattle.command_line.specs.Ranges.{Size}
use Rattle.judge_commands.specs.Making.{MakeIsDone}
use Rattle.farm_cli.specs.Hosting.{LinkUse}
use Rattle.script_commands.specs.Stored.{StoreUse}
use Rattle.farm_cli.specs.Commands.{CommandIsDone}

-- T, S, K, D, L and Y: the tree, the input, the output, the door, the link and the disk have failed
pub make_complete : {M : Type 0} (files : Option (List TreeFile)) (number : ℕ) (size : Size) (command : Option CommandValue) (link : LinkUse M) (store : StoreUse) (left : Option (List ℕ)) (T S K D L Y : Type 0) (e : Exit) → Some (Make number size) ≡ command
    → (e ≡ exit.Done) ⊎ (e ≡ exit.WriteFault) ⊎ (e ≡ exit.Memory) → (e ≡ exit.WriteFault → K)
    → IfSome command (λ command. CommandIsDone files command link store left (¬ T × ¬ S × ¬ K × ¬ D × ¬ L × ¬ Y) e)
unfolding MakeIsDone
make_complete files number size command link store left T S K D L Y e is ends cause =
    subst (λ (o : Option CommandValue). IfSome o (λ command. CommandIsDone files command link store left (¬ T × ¬ S × ¬ K × ¬ D × ¬ L × ¬ Y) e)) is
    (λ faultless. elim ends [
      | inl done ↦ inl done
      | inr others ↦ elim others [
        | inl fault ↦ absurd (faultless.2 (cause fault))
        | inr memory ↦ inr memory
      ]
    ])
