use Rattle.std.proofs.Common.{◌≡◌, ◌-◌, ◌≤◌, length, take}
use Rattle.rv_memory.specs.Paged as memory
use Rattle.rv_machine.specs.Decoded.{IsCode}
use Rattle.rv_machine.proofs.code.forget_all.Given as goal

abbrev pub invariant-loop-done : goal.invariant-loop-done
invariant-loop-done l =
    record {
      within : l.done ≤ length l.bytes;
      numbers : l.code.numbers ≡ l.fn.code.numbers;
      fresh : (m : memory.State) → IsCode m l.fn.code → IsCode (memory.store_bytes m l.at (take l.done l.bytes)) l.code;
    }

abbrev pub decreases-loop-done : goal.decreases-loop-done
decreases-loop-done l = length l.bytes - l.done
