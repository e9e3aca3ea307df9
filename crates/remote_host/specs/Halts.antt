-- Why a request has no response.
use Rattle.std.specs.Prelude.{Option, None, Some}
use Rattle.http_door.specs.declared.answers.ending.AnswerEnding.{AnswerEnding}
use Rattle.http_door.specs.declared.answers.ending.AnswerEnding.TheVariants as ending
use Rattle.remote_host.specs.declared.asks.Wrong.{Wrong}
use Rattle.remote_host.specs.declared.asks.Wrong.TheVariants as wrong
use Rattle.remote_host.specs.declared.exchange.Halt.{Halt}
use Rattle.remote_host.specs.declared.exchange.Halt.TheVariants as halt

abbrev pub halt_of : AnswerEnding → Halt
halt_of ending.Cut = halt.Wrong wrong.Cut
halt_of ending.BadHead = halt.Wrong wrong.BadHead
halt_of (ending.TooLong n) = halt.Wrong (wrong.TooLong n)
halt_of (ending.Status code) = halt.Wrong (wrong.Status code)
halt_of ending.ReadFault = halt.Failed
halt_of ending.NoMemory = halt.NoMemory

abbrev pub head_wrong : Halt → Option Wrong
head_wrong halt.Failed = None
head_wrong halt.NoMemory = None
head_wrong (halt.Wrong w) = Some w
