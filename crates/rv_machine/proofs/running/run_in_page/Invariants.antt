use Rattle.std.proofs.Common.{◌≡◌, ◌+◌, ◌-◌, ◌*◌, ◌/◌, ◌%◌, ◌^◌, ◌≤◌, get_or}
use Rattle.rv_machine.specs.Decoded.{IsCode}
use Rattle.rv_machine.specs.Running.{IsOnWay, IsStateOf, moved}
use Rattle.rv_machine.specs.Stepping.{State}
use Rattle.rv_machine.proofs.running.run_in_page.Given as goal

abbrev pub invariant-loop-left : goal.invariant-loop-left
invariant-loop-left l =
    record {
      at : l.page ≡ 4096 * get_or l.code.numbers.items l.here 0;
      edge : l.word ≤ 1024;
      within : l.left ≤ l.limit - l.cost;
      first : l.left ≡ l.limit - l.cost → l.word ≡ l.pc / 4 % 1024;
      code : IsCode l.processor.memory l.code;
      on_way : (s : State) → IsStateOf s l.fn.processor l.pc l.cost l.limit → IsOnWay s (moved s l.processor ((l.page + 4 * l.word) % 2 ^ 32) (l.limit - l.left));
    }

abbrev pub decreases-loop-left : goal.decreases-loop-left
decreases-loop-left l = l.left
