use Rattle.std.proofs.Common.{w64, ap, ◌∙◌, ◌*◌, ◌^◌, ◌%◌}
use Rattle.std.specs.Int.{bit_not}
use mir.Val.{bits}
use Rattle.std.specs.Int.Bits.{bit_and, and_zero_l}
use Rattle.std.proofs.lemmas.Nat.Bits.{bit_at_clear_same, bit_at_clear_other}
use Rattle.task_tree.proofs.bits.without_bit.Goals as goal

pub returns : goal.returns
returns c = record { clear = bit_at_clear_same w64 _ _ c.requires; others = bit_at_clear_other w64 _ _ c.requires; zero = λ e. ap (λ w. bit_and w (bit_not w64 (1 * 2 ^ c.args.place % 2 ^ bits w64))) e ∙ and_zero_l (bit_not w64 (1 * 2 ^ c.args.place % 2 ^ bits w64)) }
