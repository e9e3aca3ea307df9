use Rattle.std.proofs.Common.{inl, inr}
use Rattle.http_door.proofs.AnswerFindings.{looked_more, looked_head, looked_long}
use Rattle.http_door.proofs.answers.finding.look.Goals as goal

pub returns-then-bytes-lt-HEAD_LIMIT : goal.returns-then-bytes-lt-HEAD_LIMIT
returns-then-bytes-lt-HEAD_LIMIT c = looked_more c.args.bytes.now c.front_of.result.now c.front_of.ensures c.if-bytes-lt-HEAD_LIMIT.true c.in-More.ensures

pub returns-in-Head : goal.returns-in-Head
returns-in-Head c =
    let e = c.in-Head.ensures in
    (e.0, looked_head c.args.bytes.now c.front_of.result.now e.0 c.in-Head.seen c.front_of.ensures e.1)

pub returns-else-bytes-lt-HEAD_LIMIT : goal.returns-else-bytes-lt-HEAD_LIMIT
returns-else-bytes-lt-HEAD_LIMIT c = (inl (inr (looked_long c.args.bytes.now c.front_of.result.now c.front_of.ensures c.if-bytes-lt-HEAD_LIMIT.false c.in-More.ensures)), tt)
