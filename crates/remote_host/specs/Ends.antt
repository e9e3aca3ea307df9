-- What a host's run put on its connection.
use Rattle.std.specs.Prelude.{◌≡◌, ℕ, List, ◌++◌, Option, None, Some, ⊤, ◌⊎◌}
use Rattle.std.specs.Io.KnownBytes.{Appends}
use Rattle.judgehost.specs.declared.bench.BenchFault.{BenchFault}
use Rattle.judgehost.specs.declared.bench.BenchFault.TheVariants as fault
use Rattle.judgehost.specs.declared.host.HostEnd.{HostEnd}
use Rattle.judgehost.specs.declared.host.HostEnd.TheVariants as host
use Rattle.http_door.specs.Answers.{Answer}
use Rattle.remote_host.specs.declared.asks.Caller.{Caller}
use Rattle.remote_host.specs.declared.asks.Ask.{Ask}
use Rattle.remote_host.specs.declared.asks.Wrong.{Wrong}
use Rattle.remote_host.specs.declared.asks.TalkEnd.{TalkEnd}
use Rattle.remote_host.specs.declared.asks.TalkEnd.TheVariants as end
use Rattle.remote_host.specs.Talk.{talk, fetches_in, posts_in}
use Rattle.remote_host.specs.Requests.{spelled}
use Rattle.remote_host.specs.Standing.{Line, Took, IsHeadWrong}

-- The bytes that were put are the talk of the responses that were taken, which ends so. Of its requests so many ask for a
-- task, and so many post a result.
pub record Talked (who : Caller) (start now : Line) (fuel claims posts : ℕ) (e : TalkEnd) : Type 0 where
  pub answers : List Answer
  pub took : Took start now answers
  pub puts : Appends start.held now.held (spelled who (talk who fuel answers).asks)
  pub end : (talk who fuel answers).end ≡ e
  pub claims_are : fetches_in (talk who fuel answers).asks ≡ claims
  pub posts_are : posts_in (talk who fuel answers).asks ≡ posts

-- They are the first requests of it, of which so many ask for a task, and so many post a result.
pub record Begun (who : Caller) (start now : Line) (fuel claims posts : ℕ) : Type 0 where
  pub answers : List Answer
  pub took : Took start now answers
  pub asks : List Ask
  pub rest : List Ask
  pub puts : Appends start.held now.held (spelled who asks)
  pub prefix : (talk who fuel answers).asks ≡ asks ++ rest
  pub claims_are : fetches_in asks ≡ claims
  pub posts_are : posts_in asks ≡ posts

-- they are a prefix of it
pub record Prefixes (who : Caller) (start now : Line) (fuel : ℕ) : Type 0 where
  pub answers : List Answer
  pub took : Took start now answers
  pub put : List ℕ
  pub rest : List ℕ
  pub puts : Appends start.held now.held put
  pub prefix : spelled who (talk who fuel answers).asks ≡ put ++ rest

-- A wrong answer ends the talk: where the next response is wanted, its head or its length is wrong, or its body is.
abbrev pub IfWrong : Caller → ℕ → Option Wrong → List Answer → Line → Type 0
IfWrong who fuel None answers now = ⊤
IfWrong who fuel (Some w) answers now =
    (IsHeadWrong w now.ahead now.left × ((talk who fuel answers).end ≡ end.Wants)) ⊎ ((talk who fuel answers).end ≡ end.Wronged w)

-- They are a prefix of it, and where a wrong answer was met, the talk ends at it.
pub record Broken (who : Caller) (start now : Line) (fuel : ℕ) (w : Option Wrong) : Type 0 where
  pub answers : List Answer
  pub took : Took start now answers
  pub put : List ℕ
  pub rest : List ℕ
  pub puts : Appends start.held now.held put
  pub prefix : spelled who (talk who fuel answers).asks ≡ put ++ rest
  pub wrong : IfWrong who fuel w answers now

abbrev pub RefusedAs : Caller → Line → Line → (fuel claims posts : ℕ) → Option Wrong → BenchFault → Type 0
RefusedAs who start now fuel claims posts w fault.Link = Broken who start now fuel w
RefusedAs who start now fuel claims posts w fault.Holding = Talked who start now fuel claims posts end.Holding
RefusedAs who start now fuel claims posts w fault.NoHost = Talked who start now fuel claims posts end.NoHost
RefusedAs who start now fuel claims posts w (fault.NoCase task) = ⊥
RefusedAs who start now fuel claims posts w fault.NoMemory = Prefixes who start now fuel

-- by how the host ended
abbrev pub WorkedAs : Caller → Line → Line → (fuel claims posts : ℕ) → Option Wrong → HostEnd → Type 0
WorkedAs who start now fuel claims posts w host.Idle = Talked who start now fuel claims posts end.Idle
WorkedAs who start now fuel claims posts w (host.Died p turn) = Begun who start now fuel claims posts
WorkedAs who start now fuel claims posts w host.Fuel = Talked who start now fuel claims posts end.Spent × (claims ≡ fuel)
WorkedAs who start now fuel claims posts w (host.Bench f) = RefusedAs who start now fuel claims posts w f
WorkedAs who start now fuel claims posts w host.NoMemory = Prefixes who start now fuel
