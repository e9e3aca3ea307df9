use Rattle.std.proofs.Common.{◌≡◌, ℕ, ◌<◌, List, nat_eq, get_or, set, take, sym, arith, if◌then◌else◌, inl, inr}
use Rattle.std.proofs.lemmas.Bool.{cases_eq}
use Rattle.std.proofs.lemmas.List.{take-set-le, get_or-take}
use Rattle.std.proofs.Math.Seq.{take-set-lt}
use Rattle.rv_machine.specs.Hart.{written}

-- what is written to register 32 is let go, and what is written to another one but x0 is there
pub written_step : (regs : List ℕ) (r v : ℕ) → 0 < r → r < 33 → take 32 (set regs r v) ≡ written (take 32 regs) (if nat_eq r 32 then 0 else r) v
written_step regs r v some within = elim (cases_eq r 32) [
  | inl e ↦ rw e (take-set-le 32 regs 32 v (omega arith))
  | inr n ↦ grind (arith, take-set-lt 32 regs r v (omega arith))
]

pub read_first : (regs : List ℕ) (r : ℕ) → r < 32 → get_or regs r 0 ≡ get_or (take 32 regs) r 0
read_first regs r within = sym (get_or-take 32 regs r 0 within)
