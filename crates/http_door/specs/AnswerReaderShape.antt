-- How a reader of responses lies in memory: the last body still stands at the front of the window.
use Rattle.std.specs.Prelude.{◌≤◌, length, take, drop}
use Rattle.http_door.specs.AnswerReaderValue.{ReaderValue}
use Rattle.http_door.specs.AnswerFinding.{room_limit}
use Rattle.http_door.specs.declared.answers.reader.AnswerReader.TheInside.{Inside}

abbrev pub reader_value : Inside → ReaderValue
reader_value r = record { ahead = drop r.body r.window.ahead; body = take r.body r.window.ahead }

pub record IsReaderShape (r : Inside) : Type 0 where
  pub held : r.body ≤ length r.window.ahead
  pub small : r.window.size ≤ room_limit
