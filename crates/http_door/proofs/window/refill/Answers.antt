use Rattle.std.proofs.Common.{◌-◌, ℕ, length, arith}
use Rattle.http_door.proofs.Windows.{refilled, count_within}
use Rattle.http_door.proofs.window.refill.Goals as goal

pub returns : goal.returns
returns g c =
    let held : ℕ = c.args.to - c.args.from in
    record {
      refills = refilled _ _ _ _ _ _ _ _ c.move_to_front.ensures c.take_behind.ensures.prefix c.take_behind.ensures.bytes;
      within = count_within _ _ _ held c.min-room.result (length c.args.bytes.now - held) c.args.most _ c.take_behind.ensures.bytes (omega arith) (omega arith);
      cause = c.take_behind.ensures.cause;
      beside = c.take_behind.ensures.beside;
    }
