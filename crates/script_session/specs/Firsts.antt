-- What ends a session is what happened first, where several things would end it.
use Rattle.std.specs.Prelude.{◌≡◌, ◌⊎◌, ℕ, List, [], ◌∷◌, ◌++◌, ⊤}
use Rattle.std.specs.Io.KnownBytes.{Appends, Consumes}
use Rattle.farm_io.specs.Lines.{Cut, HasFeed, lines_of}
use Rattle.farm_model.specs.Replay.{state_after}
use Rattle.farm_model.specs.Script.{output_from, events_of}
use Rattle.farm_laws.specs.Output.{events_in}
use Rattle.script_session.specs.Session.{SessionState}
use Rattle.script_session.specs.declared.end.ScriptEnd.{ScriptEnd}
use Rattle.script_session.specs.declared.end.ScriptEnd.TheVariants as script
use Rattle.script_session.specs.declared.end.StoredEnd.{StoredEnd}
use Rattle.script_session.specs.declared.end.StoredEnd.TheVariants as stored

-- Each line that was taken whole was answered: no memory was wanted for one. What was written is a prefix of the replies to
-- all of them.
pub record NoneUnanswered (old new : SessionState) : Type 0 where
  pub bytes : List ℕ
  pub rest : List ℕ
  pub took : Consumes old.left new.left (bytes ++ rest)
  pub unfed : ¬ HasFeed rest
  pub farm : new.farm ≡ state_after old.farm (events_of bytes)
  pub text : List ℕ
  pub wrote : Appends old.held new.held text
  pub after : List ℕ
  pub prefix : text ++ after ≡ output_from old.farm (lines_of bytes)

-- A line was taken that has no reply, and what was written is a prefix of the replies to those before it. The farm has taken
-- in the events of these, or that of the line besides.
pub record OneUnanswered (old new : SessionState) : Type 0 where
  pub bytes : List ℕ
  pub took : Consumes old.left new.left bytes
  pub lines : List Cut
  pub next : Cut
  pub others : List Cut
  pub cut : lines_of bytes ≡ lines ++ next ∷ others
  pub farm : (new.farm ≡ state_after old.farm (events_in lines))
      ⊎ (new.farm ≡ state_after old.farm (events_in (lines ++ next ∷ [])))
  pub text : List ℕ
  pub wrote : Appends old.held new.held text
  pub after : List ℕ
  pub prefix : text ++ after ≡ output_from old.farm lines

-- An output that failed ends a session only where no line was left without a reply before, and want of memory, or of room in
-- the store, only where one was: so where both would end it, the end is what happened first. That an input that failed was
-- first follows from what is known of that end: all replies were written.
abbrev pub CameFirst : StoredEnd → SessionState → SessionState → Type 0
CameFirst stored.Done old new = ⊤
CameFirst stored.ReadFault old new = ⊤
CameFirst stored.WriteFault old new = NoneUnanswered old new
CameFirst stored.InputLimit old new = ⊤
CameFirst stored.StoreFault old new = ⊤
CameFirst (stored.StoreFull at) old new = OneUnanswered old new
CameFirst stored.NoMemory old new = OneUnanswered old new

-- what `CameFirst` says, of a session that stores nothing
abbrev pub ScriptCameFirst : ScriptEnd → SessionState → SessionState → Type 0
ScriptCameFirst script.Done old new = ⊤
ScriptCameFirst script.ReadFault old new = ⊤
ScriptCameFirst script.WriteFault old new = NoneUnanswered old new
ScriptCameFirst script.InputLimit old new = ⊤
ScriptCameFirst script.NoMemory old new = OneUnanswered old new
