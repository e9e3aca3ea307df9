use Rattle.std.proofs.Common.{rules, ◌≡◌, ◌≢◌, ◌∙◌, ℕ, List, [], ◌∷◌, ◌++◌, true, false, refl, sym, subst, IsTrue}
use Rattle.farm_kinds.specs.declared.events.Event.{Event}
use Rattle.farm_model.specs.State.{State}
use Rattle.farm_model.specs.Farm.{Stepped}
use Rattle.farm_kinds.specs.declared.events.Reply.{Reply}
use Rattle.farm_kinds.specs.declared.events.Reply.TheVariants as reply
use Rattle.farm_board.specs.declared.entries.Call.{Call}
use Rattle.farm_board.specs.Passes.{call_of, Noted}
use Rattle.farm_board.specs.Copies.{has_list}
use Rattle.farm_board.proofs.Listed.{listed_keeps, refuted}
use Rattle.farm_board.proofs.entries.CallJournal.note.Goals as goal
use Rattle.farm_board.proofs.entries.CallJournal.note.Goals.{in-NoMemory, in_default-matches}

-- a list of the farm changes nothing of it
list_keeps : (farm stepped : State) (event : Event) (r : Reply) → Stepped farm event stepped r → IsTrue (has_list r) → stepped ≡ farm
list_keeps farm stepped event r h listed =
    let answered : r ≢ reply.NoMemory = λ e. refuted (subst (λ (z : Reply). IsTrue (has_list z)) e listed) in
    h.state answered ∙ listed_keeps farm event (subst (λ (z : Reply). IsTrue (has_list z)) (h.answer answered) listed)

-- a call that changed nothing is not noted
none_noted : (farm stepped new : State) (calls calls' : List Call) (number : ℕ) (event : Event) → stepped ≡ farm → stepped ≡ new → calls' ≡ calls → Noted farm calls number event reply.NoMemory new calls'
none_noted farm stepped new calls calls' number event kept is same = record {
  unchanged = λ e. (sym is ∙ kept, same);
  state = λ other. absurd (other refl);
  answer = λ other. absurd (other refl);
  noted = λ other. absurd (other refl);
}

-- a call that the farm answered is noted behind the others
one_noted : (farm stepped new : State) (calls calls' : List Call) (number : ℕ) (event : Event) (r : Reply) → Stepped farm event stepped r → r ≢ reply.NoMemory → stepped ≡ new
    → calls' ≡ calls ++ call_of number event r ∷ [] → Noted farm calls number event r new calls'
one_noted farm stepped new calls calls' number event r h answered is pushed = record {
  unchanged = λ e. absurd (answered e);
  state = λ other. sym is ∙ h.state other;
  answer = h.answer;
  noted = λ other. pushed;
}

-- the call that was pushed is the one that was made
pushed_is : (old had kept new : List Call) (number : ℕ) (event event' : Event) (reply reply' : Reply) → new ≡ kept ++ call_of number event' reply' ∷ [] → kept ≡ had → had ≡ old
    → event' ≡ event → reply' ≡ reply → new ≡ old ++ call_of number event reply ∷ []
pushed_is old had kept new number event event' reply reply' pushed same view same_event same_reply = cc

no_such : ¬ (true ≡ false)
no_such e = cc

pub push_reserved-requires : goal.push_reserved-requires
push_reserved-requires c = search rules

pub returns-in_default-copy_reply : goal.returns-in_default-copy_reply
returns-in_default-copy_reply c =
    let kept = list_keeps c.args.farm.now _ c.args.event.now _ c.step-reply.ensures.stepped c.in_default-copy_reply.ensures.no_memory in
    none_noted c.args.farm.now c.step-reply.new.self _ _ _ c.args.number c.args.event.now kept refl (c.try_reserve.ensures.items ∙ c.self.view_is)

pub returns : goal.returns
returns c =
    let answered : c.step-reply.result ≢ reply.NoMemory
    = elim c.match-matches.branch [ in-NoMemory w ↦ absurd (no_such (sym w.matches-is ∙ c.if-matches.false)) | in_default-matches w ↦ w.in_default-matches.not-NoMemory ] in
    one_noted c.args.farm.now c.step-reply.new.self _ _ _ c.args.number c.args.event.now c.step-reply.result c.step-reply.ensures.stepped answered refl
    (pushed_is _ _ _ _ c.args.number _ _ _ _ c.push_reserved.ensures.items c.try_reserve.ensures.items c.self.view_is c.in-Ok.ensures c.in-Ok-copy_reply.ensures.same)

pub returns-then-matches : goal.returns-then-matches
returns-then-matches c =
    let none : c.step-reply.result ≡ reply.NoMemory
    = elim c.match-matches.branch [ in-NoMemory w ↦ w.in-NoMemory.is | in_default-matches w ↦ absurd (no_such (sym c.if-matches.true ∙ w.matches-is)) ] in
    none_noted c.args.farm.now c.step-reply.new.self _ _ _ c.args.number c.args.event.now (c.step-reply.ensures.stepped.kept none) refl (c.try_reserve.ensures.items ∙ c.self.view_is)
