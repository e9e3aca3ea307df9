-- A folder that is no contest, or could not be read.
use Rattle.std.proofs.Common.{◌≡◌, ℕ, List, Option, Some, None, Ok, Err, inr, refl, sym, ◌∙◌}
use Rattle.std.specs.Prelude.{◌⊎◌, Bool}
use Rattle.farm_tree.specs.declared.reads.TreeFile.{TreeFile}
use Rattle.contest_folder.specs.declared.faults.ContestFault.{ContestFault}
use Rattle.contest_folder.specs.Contest.{contest_of}
use Rattle.contest_folder.specs.Telling.{IsStop}
use Rattle.exit_status.specs.declared.exit.Exit.{Exit}
use Rattle.exit_status.specs.declared.exit.Exit.TheVariants as exit
use Rattle.judge_commands.specs.Judged.{ContestIs, HasContest, IsFaultLine, NoContestEnds, JudgeEnds}

-- what the reading of a folder answered is what the folder is, where the tree tells its files
pub fault_told : (files : Option (List TreeFile)) (folder : List ℕ) (fault : ContestFault)
    → ((held : List TreeFile) → files ≡ Some held → ¬ IsStop fault → Err fault ≡ contest_of held folder) → ¬ IsStop fault → ContestIs files folder (Err fault)
fault_told None folder fault told not_stop = tt
fault_told (Some held) folder fault told not_stop = sym (told held refl not_stop)

pub no_contest : (files : Option (List TreeFile)) (folder : List ℕ) (hosts : ℕ) (journal : Bool) (held held' : Option (List ℕ)) (unwritten : Type 0) (e : Exit)
    → NoContestEnds files folder held held' unwritten e → JudgeEnds files folder hosts journal held held' unwritten e
no_contest files folder hosts journal held held' unwritten exit.Done h = absurd h
no_contest files folder hosts journal held held' unwritten exit.Usage h = h
no_contest files folder hosts journal held held' unwritten exit.BadContest h = h
no_contest files folder hosts journal held held' unwritten exit.ReadFault h = h
no_contest files folder hosts journal held held' unwritten exit.WriteFault h = record { text = h.text; is_text = inr h.is_text; count = h.count; wrote = h.wrote }
no_contest files folder hosts journal held held' unwritten exit.Memory h = h
no_contest files folder hosts journal held held' unwritten exit.TreeFault h = h
no_contest files folder hosts journal held held' unwritten exit.DoorFault h = h
no_contest files folder hosts journal held held' unwritten exit.InputLimit h = h
no_contest files folder hosts journal held held' unwritten exit.LinkFault h = h
no_contest files folder hosts journal held held' unwritten (exit.BadAnswer answer) h = h
no_contest files folder hosts journal held held' unwritten exit.StoreFault h = h
no_contest files folder hosts journal held held' unwritten (exit.BadStore flaw) h = h
no_contest files folder hosts journal held held' unwritten (exit.StoreFull mark) h = h

-- a folder that has a contest has no fault
no_fault : (files : Option (List TreeFile)) (folder text : List ℕ) → IsFaultLine files folder text → ¬ (HasContest files folder)
no_fault None folder text line has = has
no_fault (Some held) folder text line has = let both : Err line.fault ≡ Ok has.0 = sym line.found ∙ has.1 in cc

-- T and K: the tree and the output have failed
pub refused_complete : (files : Option (List TreeFile)) (folder : List ℕ) (held held' : Option (List ℕ)) (unwritten T K : Type 0) (e : Exit)
    → NoContestEnds files folder held held' unwritten e → (e ≡ exit.TreeFault → T) → (e ≡ exit.WriteFault → K)
    → HasContest files folder → ¬ T → ¬ K → (e ≡ exit.Done) ⊎ (e ≡ exit.Memory)
refused_complete files folder held held' unwritten T K exit.Done h tree write has read wrote = absurd h
refused_complete files folder held held' unwritten T K exit.Usage h tree write has read wrote = absurd h
refused_complete files folder held held' unwritten T K exit.BadContest h tree write has read wrote = absurd (no_fault files folder h.text h.is_text has)
refused_complete files folder held held' unwritten T K exit.ReadFault h tree write has read wrote = absurd h
refused_complete files folder held held' unwritten T K exit.WriteFault h tree write has read wrote = absurd (wrote (write refl))
refused_complete files folder held held' unwritten T K exit.Memory h tree write has read wrote = inr refl
refused_complete files folder held held' unwritten T K exit.TreeFault h tree write has read wrote = absurd (read (tree refl))
refused_complete files folder held held' unwritten T K exit.DoorFault h tree write has read wrote = absurd h
refused_complete files folder held held' unwritten T K exit.InputLimit h tree write has read wrote = absurd h
refused_complete files folder held held' unwritten T K exit.LinkFault h tree write has read wrote = absurd h
refused_complete files folder held held' unwritten T K (exit.BadAnswer answer) h tree write has read wrote = absurd h
refused_complete files folder held held' unwritten T K exit.StoreFault h tree write has read wrote = absurd h
refused_complete files folder held held' unwritten T K (exit.BadStore flaw) h tree write has read wrote = absurd h
refused_complete files folder held held' unwritten T K (exit.StoreFull mark) h tree write has read wrote = absurd h
