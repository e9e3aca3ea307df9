-- A response that is kept stays that of its version, whatever is read, and what is put of it.
use Rattle.std.proofs.Common.{ℕ, ◌≡◌, ◌≢◌, List, [], ◌∷◌, Bool, false, Option, Result, Err, length, take, refl, sym, ap, ◌∙◌, subst, arith, length-append}
use Rattle.std.proofs.KnownBytes.{Keeps-refl}
use Rattle.std.proofs.lemmas.List.{take_all, take-append-le}
use mathlib.Core.List.{IsPrefix}
use Rattle.farm_kinds.specs.declared.outcomes.Answer.{Answer}
use Rattle.farm_kinds.specs.declared.events.Reply.TheVariants as reply
use Rattle.farm_board.specs.BoardState.{BoardState}
use Rattle.http_door.specs.declared.responses.ResponseFault.{ResponseFault}
use Rattle.http_door.specs.declared.responses.ResponseFault.TheVariants as fault
use Rattle.http_door.specs.Responses.{Writes}
use Rattle.public_board.specs.Values.{ReaderValue, Looks, Gives}
use Rattle.public_board.specs.Versions.{last_of}
use Rattle.farm_api.specs.Conversation.{rows_response}
use Rattle.judge_feed.specs.Showing.{AreShown}
use Rattle.farm_api.specs.Putting.{PutsRead, IsKept}
use Rattle.farm_api.proofs.OneAnswer.{rows_put}

abbrev text_of : List Answer → List ℕ
text_of rows = rows_response false (reply.Board rows)

-- more versions were seen
pub kept_later : (old new : List (List Answer)) (number : ℕ) (response : List ℕ) → IsPrefix old new → IsKept old number response → IsKept new number response
kept_later old new number response more kept =
    let whole = ap length more.1 in
    let both = length-append old more.0 in
    let known = kept.known in
    let same : take number new ≡ take number old =
    ap (take number) (sym more.1) ∙ take-append-le number old more.0 known in record {
      known = omega (arith, whole, both, known);
      gives = λ some. kept.gives some ∙ ap (λ (vs : List (List Answer)). text_of (last_of vs)) (sym same);
    }

-- the response is that of the last version
pub kept_now : (versions : List (List Answer)) (number : ℕ) (response : List ℕ) (rows : List Answer) → number ≡ length versions → rows ≡ last_of versions
    → response ≡ rows_response false (reply.Board rows) → IsKept versions number response
kept_now versions number response rows is last gives = record {
  known = omega (arith, is);
  gives = λ some. gives ∙ ap text_of last ∙ ap (λ (vs : List (List Answer)). text_of (last_of vs)) (sym (take_all number versions (omega (arith, is))));
}

-- what is kept of the last version gives it
pub kept_last : (versions : List (List Answer)) (number : ℕ) (response : List ℕ) → IsKept versions number response → number ≡ length versions → versions ≢ []
    → response ≡ rows_response false (reply.Board (last_of versions))
kept_last versions number response kept is some =
    kept.gives (λ (none : number ≡ 0). some (empty versions (sym is ∙ none)))
    ∙ ap (λ (vs : List (List Answer)). text_of (last_of vs)) (take_all number versions (omega (arith, is)))
  where
    empty : (vs : List (List Answer)) → length vs ≡ 0 → vs ≡ []
    empty [] e = refl
    empty (v ∷ vs) e = absurd (cc e)

-- What a read makes of what is kept

module _ (allows : List (List Answer) → Type 0) (old new : ReaderValue Answer) where
  pub kept_looks : (number : ℕ) (response : List ℕ) → Looks old new → IsKept old.seen number response → IsKept new.seen number response
  kept_looks number response looks kept = kept_later old.seen new.seen number response looks.seen kept

  pub kept_gives : (rows : List Answer) (number : ℕ) (response : List ℕ) → Gives allows old new rows → IsKept old.seen number response → IsKept new.seen number response
  kept_gives rows number response gives kept = kept_looks number response gives.looks kept

  -- nothing newer is published, so what is kept gives the last version
  pub kept_same : (number : ℕ) (response : List ℕ) → Gives allows old new (last_of new.seen) → number ≡ length new.seen → IsKept old.seen number response
      → response ≡ rows_response false (reply.Board (last_of new.seen))
  kept_same number response gives is kept = kept_last new.seen number response (kept_gives (last_of new.seen) number response gives kept) is gives.some

  pub kept_anew : (rows : List Answer) (number : ℕ) (response : List ℕ) → Gives allows old new rows → number ≡ length new.seen
      → response ≡ rows_response false (reply.Board rows) → IsKept new.seen number response
  kept_anew rows number response gives is made = kept_now new.seen number response rows is gives.last made

  -- the rows are the last version's
  pub gives_last : (rows : List Answer) → Gives allows old new rows → Gives allows old new (last_of new.seen)
  gives_last rows gives = subst (λ (z : List Answer). Gives allows old new z) gives.last gives

  pub made_last : (rows : List Answer) (response : List ℕ) → Gives allows old new rows → response ≡ rows_response false (reply.Board rows)
      → response ≡ rows_response false (reply.Board (last_of new.seen))
  made_last rows response gives made = made ∙ ap text_of gives.last

-- What is put of it

pub read_put : (start : BoardState) (closing : Bool) (old new : ReaderValue Answer) (rows : List Answer) (held held' : Option (List ℕ)) (result : Result (Unit {0}) ResponseFault)
    → Gives (AreShown start) old new rows → Writes held held' (rows_response closing (reply.Board rows)) result → PutsRead start closing old new held held' result
read_put start closing old new rows held held' result gives writes = (reply.Board rows, gives, rows_put closing rows held held' result writes)

pub kept_put : (start : BoardState) (closing : Bool) (old new : ReaderValue Answer) (response : List ℕ) (held held' : Option (List ℕ)) (result : Result (Unit {0}) ResponseFault)
    → closing ≡ false → Gives (AreShown start) old new (last_of new.seen) → response ≡ rows_response false (reply.Board (last_of new.seen))
    → Writes held held' response result → PutsRead start closing old new held held' result
kept_put start closing old new response held held' result stays gives is writes =
    read_put start closing old new (last_of new.seen) held held' result gives
    (subst (λ (b : Bool). Writes held held' (rows_response b (reply.Board (last_of new.seen))) result) (sym stays)
    (subst (λ (text : List ℕ). Writes held held' text result) is writes))

pub unread_put : (start : BoardState) (closing : Bool) (old new : ReaderValue Answer) (held : Option (List ℕ)) → Looks old new
    → PutsRead start closing old new held held (Err fault.NoMemory)
unread_put start closing old new held looks = (reply.Nothing, looks, Keeps-refl held)
