use Rattle.std.specs.Prelude.{string_bytes}
use Rattle.wire_job.specs.Writing.{coded}
use Rattle.wire_job.proofs.Behind.{validator_behind}
use Rattle.wire_job.proofs.writing.push_validator.Goals as goal

pub returns : goal.returns
returns c =
    validator_behind (string_bytes c.args.text.now) (string_bytes c.push_str.new.self) (string_bytes c.push_coded.new.text) (string_bytes c.push_str-2.new.self) (coded c.args.validator.now)
    c.in_ok-push_str.ensures.bytes c.in_ok-push_coded.ensures c.in_ok-push_str-2.ensures.bytes
