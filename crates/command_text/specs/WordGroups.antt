-- The words of some events, and of some replies, for the functions that write these.
use Rattle.std.specs.Prelude.{ℕ, List, [], ◌∷◌, ◌++◌, codes}
use Rattle.std.specs.Fmt.{decimal}
use Rattle.farm_kinds.specs.declared.events.Event.{Event}
use Rattle.farm_kinds.specs.declared.events.Event.TheVariants as event
use Rattle.farm_kinds.specs.declared.events.Reply.{Reply}
use Rattle.farm_kinds.specs.declared.events.Reply.TheVariants as reply
use Rattle.farm_kinds.specs.Kinds.{name_of}
use Rattle.farm_model.specs.Texts.{list_words, how_text}

-- the words of an event of the jury, without the name of who acts; none of another event
abbrev pub jury_words : Event → List (List ℕ)
jury_words (event.Problem who name tests) = codes "problem" ∷ name ∷ decimal tests ∷ []
jury_words (event.Replace who name tests) = codes "replace" ∷ name ∷ decimal tests ∷ []
jury_words (event.Rejudge who list) = codes "rejudge" ∷ list_words list
jury_words (event.Apply who r) = codes "apply" ∷ decimal r ∷ []
jury_words (event.Cancel who r) = codes "cancel" ∷ decimal r ∷ []
jury_words (event.Verify who j) = codes "verify" ∷ decimal j ∷ []
jury_words (event.Ask who j) = codes "ask" ∷ decimal j ∷ []
jury_words e = []

-- the words of a reply that only refuses; none of another reply
abbrev pub refusal_words : Reply → List (List ℕ)
refusal_words (reply.BadTests tests) = codes "bad-tests" ∷ decimal tests ∷ []
refusal_words (reply.Known name) = codes "known" ∷ name ∷ []
refusal_words (reply.NoProblem name) = codes "no-problem" ∷ name ∷ []
refusal_words (reply.NoHost name) = codes "no-host" ∷ name ∷ []
refusal_words (reply.Full limit) = codes "full" ∷ decimal limit ∷ []
refusal_words (reply.Holding limit) = codes "holding" ∷ decimal limit ∷ []
refusal_words (reply.NoJudging j) = codes "no-judging" ∷ decimal j ∷ []
refusal_words (reply.NoTest test) = codes "no-test" ∷ decimal test ∷ []
refusal_words reply.NotHanded = codes "not-handed" ∷ []
refusal_words reply.NoLease = codes "no-lease" ∷ []
refusal_words reply.EmptySet = codes "empty-set" ∷ []
refusal_words (reply.NoSubmission s) = codes "no-submission" ∷ decimal s ∷ []
refusal_words (reply.Twice s) = codes "twice" ∷ decimal s ∷ []
refusal_words (reply.NotFinal n) = codes "not-final" ∷ decimal n ∷ []
refusal_words (reply.Busy s r) = codes "busy" ∷ decimal s ∷ decimal r ∷ []
refusal_words (reply.NoRejudging r) = codes "no-rejudging" ∷ decimal r ∷ []
refusal_words (reply.Closed h) = codes "closed" ∷ how_text h ∷ []
refusal_words (reply.Unfinished j) = codes "unfinished" ∷ decimal j ∷ []
refusal_words (reply.Already j) = codes "already" ∷ decimal j ∷ []
refusal_words r = []

-- the words of a reply to a host, or of one that only refuses; none of another reply
abbrev pub host_words : Reply → List (List ℕ)
host_words (reply.Handed task until) =
    codes "task" ∷ decimal task.judging ∷ decimal task.test ∷ codes "until" ∷ decimal until ∷ []
host_words (reply.Batch judging tests until) =
    codes "batch" ∷ decimal judging ∷ list_words tests ++ codes "until" ∷ decimal until ∷ []
host_words reply.Nothing = codes "nothing" ∷ []
host_words reply.Counted = codes "counted" ∷ []
host_words (reply.Repeat kept) = codes "repeat" ∷ name_of kept ∷ []
host_words (reply.Differs kept given) = codes "differs" ∷ name_of kept ∷ name_of given ∷ []
host_words reply.Dropped = codes "dropped" ∷ []
host_words (reply.Until until) = codes "until" ∷ decimal until ∷ []
host_words (reply.Ended count) = codes "ended" ∷ decimal count ∷ []
host_words r = refusal_words r
