-- How a reader of requests lies in memory: the last body still stands at the front of the window.
use Rattle.std.specs.Prelude.{◌≡◌, ◌≤◌, ◌<◌, length, take, drop, IfSome}
use Rattle.http_door.specs.Heads.{head_limit}
use Rattle.http_door.specs.ReaderValue.{ReaderValue, IsReadable}
use Rattle.http_door.specs.declared.reader.HttpReader.TheInside.{Inside}

abbrev pub reader_value : Inside → ReaderValue
reader_value r =
    record {
      ahead = drop r.body r.window.ahead;
      taken = r.window.taken;
      body = take r.body r.window.ahead;
      ended = r.ended;
      room = r.window.size;
    }

pub record IsReaderShape (r : Inside) : Type 0 where
  pub held : r.body ≤ length r.window.ahead
  pub room : head_limit < r.window.size
  pub readable : IsReadable (reader_value r)
  pub none : IfSome r.ended (λ e. r.body ≡ 0)
