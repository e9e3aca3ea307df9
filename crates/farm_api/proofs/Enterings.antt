-- Events that were entered, put together.
use Rattle.std.proofs.Common.{ℕ, ◌≡◌, ◌≢◌, List, [], ◌∷◌, ◌++◌, Bool, true, false, Result, Ok, Err, refl, sym, ap, ◌∙◌, subst, append_assoc}
use Rattle.std.specs.Prelude.{OnOk}
use Rattle.std.proofs.lemmas.List.{append-nil}
use Rattle.farm_kinds.specs.declared.outcomes.NoMemory.{NoMemory}
use Rattle.farm_kinds.specs.declared.events.Event.{Event}
use Rattle.farm_kinds.specs.declared.events.Reply.{Reply}
use Rattle.farm_kinds.specs.declared.events.Reply.TheVariants as reply
use Rattle.farm_api.specs.Conversation.{tick, down_after}
use Rattle.farm_api.specs.Entering.{is_no_memory, Entered, with_reply, all_with_reply, AreEntered, Replies, entered_for, IsBegun, EntersAside, IsEntered}

pub not_no_memory : (r : Reply) → is_no_memory r ≡ false → r ≢ reply.NoMemory
not_no_memory r off is = let both : true ≡ false = sym (ap is_no_memory is) ∙ off in absurd (cc both)

pub entered_then : {A : Type 0} (step : A → Entered → A → Type 0) (a : A) (xs : List Entered) (m : A) (ys : List Entered) (b : A)
    → AreEntered step a xs m → AreEntered step m ys b → AreEntered step a (xs ++ ys) b
entered_then {A} step a [] m ys b x y = subst (λ (z : A). AreEntered step z ys b) x y
entered_then step a (e ∷ xs) m ys b x y = (x.0, x.1, entered_then step x.0 xs m ys b x.2 y)

-- no event is to be entered
pub none_aside : {A : Type 0} (step : A → Entered → A → Type 0) (es : List Event) (a : A) (result : Result (Unit {0}) NoMemory)
    → es ≡ [] → EntersAside step es a a result
none_aside {A} step es a (Ok u) none =
    record { answer = reply.Nothing; entered = subst (λ (zs : List Event). AreEntered step a (all_with_reply reply.Nothing zs) a) (sym none) refl; known = λ is. cc is }
none_aside {A} step es a (Err n) none =
    record { answer = reply.Nothing; entered = subst (λ (zs : List Event). AreEntered step a (all_with_reply reply.Nothing zs) a) (sym none) refl; known = tt }

-- one event was entered
pub one_aside : {A : Type 0} (step : A → Entered → A → Type 0) (e : Event) (a b : A) (r : Reply) (result : Result (Unit {0}) NoMemory)
    → step a (with_reply e r) b → OnOk result (r ≢ reply.NoMemory) → EntersAside step (e ∷ []) a b result
one_aside step e a b r result x known = record { answer = r; entered = (b, x, refl); known = known }

-- memory ran out at the moment
pub begun_tick : {A : Type 0} (step : A → Entered → A → Type 0) (ticks : Bool) (moment : ℕ) (e : Event) (a b : A) (result : Result (Unit {0}) NoMemory)
    → EntersAside step (tick ticks moment) a b result → IsBegun step (entered_for ticks moment e) a b
begun_tick step ticks moment e a b result x = record {
  replies = record { ticked = x.answer; answer = reply.Nothing; downed = reply.Nothing };
  made = all_with_reply x.answer (tick ticks moment);
  prefix = (with_reply e reply.Nothing ∷ all_with_reply reply.Nothing (down_after e reply.Nothing), refl);
  entered = x.entered;
}

-- memory ran out at the event
pub begun_event : {A : Type 0} (step : A → Entered → A → Type 0) (ticks : Bool) (moment : ℕ) (e : Event) (a m b : A) (r : Reply) (result : Result (Unit {0}) NoMemory)
    → EntersAside step (tick ticks moment) a m result → step m (with_reply e r) b → IsBegun step (entered_for ticks moment e) a b
begun_event step ticks moment e a m b r result x y =
    let before = all_with_reply x.answer (tick ticks moment) in
    let behind = all_with_reply reply.Nothing (down_after e r) in record {
      replies = record { ticked = x.answer; answer = r; downed = reply.Nothing };
      made = before ++ with_reply e r ∷ [];
      prefix = (behind, append_assoc before (with_reply e r ∷ []) behind);
      entered = entered_then step a before m (with_reply e r ∷ []) b x.entered (b, y, refl);
    }

-- all events were entered
pub begun_all : {A : Type 0} (step : A → Entered → A → Type 0) (whole : Replies → List Entered) (a b : A) (r : Replies)
    → AreEntered step a (whole r) b → IsBegun step whole a b
begun_all step whole a b r x = record { replies = r; made = whole r; prefix = ([], append-nil (whole r)); entered = x }

-- memory ran out at what follows from the event
pub begun_down : {A : Type 0} (step : A → Entered → A → Type 0) (ticks : Bool) (moment : ℕ) (e : Event) (a m n b : A) (r : Reply) (first last : Result (Unit {0}) NoMemory)
    → EntersAside step (tick ticks moment) a m first → step m (with_reply e r) n → EntersAside step (down_after e r) n b last → IsBegun step (entered_for ticks moment e) a b
begun_down step ticks moment e a m n b r first last x y z =
    begun_all step (entered_for ticks moment e) a b (record { ticked = x.answer; answer = r; downed = z.answer })
    (entered_then step a (all_with_reply x.answer (tick ticks moment)) m (with_reply e r ∷ all_with_reply z.answer (down_after e r)) b x.entered (n, y, z.entered))

pub entered_all : {A : Type 0} (step : A → Entered → A → Type 0) (ticks : Bool) (moment : ℕ) (e : Event) (a m n b : A) (r : Reply) (u v : Unit {0})
    → EntersAside step (tick ticks moment) a m (Ok u) → step m (with_reply e r) n → r ≢ reply.NoMemory → EntersAside step (down_after e r) n b (Ok v)
    → IsEntered step (entered_for ticks moment e) a b r
entered_all step ticks moment e a m n b r u v x y k z = record {
  replies = record { ticked = x.answer; answer = r; downed = z.answer };
  is = refl;
  known = record { ticked = x.known; answer = k; downed = z.known };
  entered = entered_then step a (all_with_reply x.answer (tick ticks moment)) m (with_reply e r ∷ all_with_reply z.answer (down_after e r)) b x.entered (n, y, z.entered);
}
