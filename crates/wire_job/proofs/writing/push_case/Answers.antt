use Rattle.std.specs.Prelude.{string_bytes}
use Rattle.wire_job.specs.Writing.{coded, image_field}
use Rattle.wire_job.proofs.Behind.{case_behind}
use Rattle.wire_job.proofs.writing.push_case.Goals as goal

pub returns : goal.returns
returns c =
    let case = c.args.case.now in
    case_behind (string_bytes c.args.text.now) (string_bytes c.push_str.new.self) (string_bytes c.push_coded.new.text) (string_bytes c.push_str-2.new.self) (string_bytes c.push_str-3.new.self)
    (string_bytes c.push_str-4.new.self) (string_bytes c.push_str-5.new.self) (string_bytes c.push_image.new.text) (string_bytes c.push_str-6.new.self) (string_bytes c.push_coded-2.new.text)
    (string_bytes c.push_str-7.new.self) (coded case.answer.now) c.args.check.now c.args.flags.now (image_field c.args.part case.image.now) (coded case.input.now)
    c.in_ok-push_str.ensures.bytes c.in_ok-push_coded.ensures c.in_ok-push_str-2.ensures.bytes c.in_ok-push_str-3.ensures.bytes c.in_ok-push_str-4.ensures.bytes c.in_ok-push_str-5.ensures.bytes
    c.in_ok-push_image.ensures c.in_ok-push_str-6.ensures.bytes c.in_ok-push_coded-2.ensures c.in_ok-push_str-7.ensures.bytes
