use Rattle.std.proofs.Common.{take, drop, take-append-drop}
use Rattle.contest_server.proofs.lines.put_text.Goals as goal

pub returns-in-Failed-clause-puts : goal.returns-in-Failed-clause-puts
returns-in-Failed-clause-puts g c =
    let put = c.in-Failed.ensures.bytes in
    record { bytes = take put.0 c.args.text.now; prefix = (drop put.0 c.args.text.now, take-append-drop put.0 c.args.text.now); wrote = put.2 }
