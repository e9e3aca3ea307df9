-- The audit log stands aside: no refusal and no other change looks at its texts.
use Rattle.std.proofs.Common.{ℕ, ◌≡◌, ◌≢◌, List, [], ◌∷◌, ◌++◌, Option, Some, None, true, refl, sym, ap, ◌∙◌, subst}
use Rattle.std.specs.Prelude.{IsSome}
use Rattle.farm_kinds.specs.Actors.{jury_actor}
use Rattle.farm_kinds.specs.declared.events.Event.{Event}
use Rattle.farm_kinds.specs.declared.events.Event.TheVariants as event
use Rattle.farm_kinds.specs.declared.events.Reply.{Reply}
use Rattle.farm_model.specs.Refusing.{refused_or}
use Rattle.farm_model.specs.Texts.{logged_text}
use Rattle.farm_model.specs.State.{State}
use Rattle.farm_model.specs.Refusals.{refusal_of}
use Rattle.farm_model.specs.Changes.{accepted, logged}
use Rattle.farm_model.specs.Farm.{farm_step, takes_memory, Stepped}

-- the farm with these texts in its audit log
abbrev pub with_texts : State → List (List ℕ) → State
with_texts s texts = record s { texts = texts }

pub refusal_aside : (s : State) (t : List (List ℕ)) (e : Event) → refusal_of (with_texts s t) e ≡ refusal_of s e
refusal_aside s t (event.Problem who name tests) = refl
refusal_aside s t (event.Replace who name tests) = refl
refusal_aside s t (event.Host name) = refl
refusal_aside s t (event.Submit problem class broken) = refl
refusal_aside s t (event.Claim host) = refl
refusal_aside s t (event.Fetch host most) = refl
refusal_aside s t (event.Result host j test kind) = refl
refusal_aside s t (event.Entry j test kind) = refl
refusal_aside s t (event.Renew host j test) = refl
refusal_aside s t (event.Tick moment) = refl
refusal_aside s t (event.Down host) = refl
refusal_aside s t (event.Show j) = refl
refusal_aside s t (event.Owner j) = refl
refusal_aside s t event.Board = refl
refusal_aside s t (event.Rejudge who list) = refl
refusal_aside s t (event.Matrix r) = refl
refusal_aside s t (event.Apply who r) = refl
refusal_aside s t (event.Cancel who r) = refl
refusal_aside s t (event.Verify who j) = refl
refusal_aside s t (event.Ask who j) = refl
refusal_aside s t event.Audit = refl

takes_aside : (s : State) (t : List (List ℕ)) (e : Event) → takes_memory (with_texts s t) e ≡ takes_memory s e
takes_aside s t (event.Problem who name tests) = refl
takes_aside s t (event.Replace who name tests) = refl
takes_aside s t (event.Host name) = refl
takes_aside s t (event.Submit problem class broken) = refl
takes_aside s t (event.Claim host) = refl
takes_aside s t (event.Fetch host most) = refl
takes_aside s t (event.Result host j test kind) = refl
takes_aside s t (event.Entry j test kind) = refl
takes_aside s t (event.Renew host j test) = refl
takes_aside s t (event.Tick moment) = refl
takes_aside s t (event.Down host) = refl
takes_aside s t (event.Show j) = refl
takes_aside s t (event.Owner j) = refl
takes_aside s t event.Board = refl
takes_aside s t (event.Rejudge who list) = refl
takes_aside s t (event.Matrix r) = refl
takes_aside s t (event.Apply who r) = refl
takes_aside s t (event.Cancel who r) = refl
takes_aside s t (event.Verify who j) = refl
takes_aside s t (event.Ask who j) = refl
takes_aside s t event.Audit = refl

-- Events of the jury

pub takes_jury : (s : State) (e : Event) → IsSome (jury_actor e) → takes_memory s e ≡ true
takes_jury s (event.Problem who name tests) h = refl
takes_jury s (event.Replace who name tests) h = refl
takes_jury s (event.Host name) h = cc
takes_jury s (event.Submit problem class broken) h = cc
takes_jury s (event.Claim host) h = cc
takes_jury s (event.Fetch host most) h = cc
takes_jury s (event.Result host j test kind) h = cc
takes_jury s (event.Entry j test kind) h = cc
takes_jury s (event.Renew host j test) h = cc
takes_jury s (event.Tick moment) h = cc
takes_jury s (event.Down host) h = cc
takes_jury s (event.Show j) h = cc
takes_jury s (event.Owner j) h = cc
takes_jury s event.Board h = cc
takes_jury s (event.Rejudge who list) h = refl
takes_jury s (event.Matrix r) h = cc
takes_jury s (event.Apply who r) h = refl
takes_jury s (event.Cancel who r) h = refl
takes_jury s (event.Verify who j) h = refl
takes_jury s (event.Ask who j) h = refl
takes_jury s event.Audit h = cc

-- the entry stands behind the texts that are there
accepted_aside : (s : State) (t : List (List ℕ)) (e : Event) → IsSome (jury_actor e)
    → accepted (with_texts s t) e ≡ (with_texts (accepted s e).0 (t ++ logged_text e ∷ []), (accepted s e).1)
accepted_aside s t (event.Problem who name tests) h = refl
accepted_aside s t (event.Replace who name tests) h = refl
accepted_aside s t (event.Host name) h = cc
accepted_aside s t (event.Submit problem class broken) h = cc
accepted_aside s t (event.Claim host) h = cc
accepted_aside s t (event.Fetch host most) h = cc
accepted_aside s t (event.Result host j test kind) h = cc
accepted_aside s t (event.Entry j test kind) h = cc
accepted_aside s t (event.Renew host j test) h = cc
accepted_aside s t (event.Tick moment) h = cc
accepted_aside s t (event.Down host) h = cc
accepted_aside s t (event.Show j) h = cc
accepted_aside s t (event.Owner j) h = cc
accepted_aside s t event.Board h = cc
accepted_aside s t (event.Rejudge who list) h = refl
accepted_aside s t (event.Matrix r) h = cc
accepted_aside s t (event.Apply who r) h = refl
accepted_aside s t (event.Cancel who r) h = refl
accepted_aside s t (event.Verify who j) h = refl
accepted_aside s t (event.Ask who j) h = refl
accepted_aside s t event.Audit h = cc

pub entered : (old new : State) (t : List (List ℕ)) (e : Event) (r : Reply) → IsSome (jury_actor e)
    → accepted old e ≡ (logged new e, r) → accepted (with_texts old t) e ≡ (with_texts new (t ++ logged_text e ∷ []), r)
entered old new t e r jurys done =
    accepted_aside old t e jurys ∙ ap (λ (p : State × Reply). (with_texts p.0 (t ++ logged_text e ∷ []), p.1)) done

-- Other events

-- no event of the jury, and none that looks at the audit log
pub record IsPlain (e : Event) : Type 0 where
  pub unaudited : jury_actor e ≡ None
  pub other : e ≢ event.Audit

refused_aside : (s : State) (t : List (List ℕ)) (refusal : Option Reply) (done : State × Reply)
    → refused_or (with_texts s t) refusal (with_texts done.0 t, done.1) ≡ (with_texts (refused_or s refusal done).0 t, (refused_or s refusal done).1)
refused_aside s t None done = refl
refused_aside s t (Some r) done = refl

step_aside : (s : State) (t : List (List ℕ)) (e : Event) → IsPlain e
    → farm_step (with_texts s t) e ≡ (with_texts (farm_step s e).0 t, (farm_step s e).1)
step_aside s t (event.Problem who name tests) h = let no : Some who ≡ None = h.unaudited in cc
step_aside s t (event.Replace who name tests) h = let no : Some who ≡ None = h.unaudited in cc
step_aside s t (event.Host name) h = refused_aside s t (refusal_of s (event.Host name)) (accepted s (event.Host name))
step_aside s t (event.Submit problem class broken) h = refused_aside s t (refusal_of s (event.Submit problem class broken)) (accepted s (event.Submit problem class broken))
step_aside s t (event.Claim host) h = refused_aside s t (refusal_of s (event.Claim host)) (accepted s (event.Claim host))
step_aside s t (event.Fetch host most) h = refused_aside s t (refusal_of s (event.Fetch host most)) (accepted s (event.Fetch host most))
step_aside s t (event.Result host j test kind) h = refused_aside s t (refusal_of s (event.Result host j test kind)) (accepted s (event.Result host j test kind))
step_aside s t (event.Entry j test kind) h = refused_aside s t (refusal_of s (event.Entry j test kind)) (accepted s (event.Entry j test kind))
step_aside s t (event.Renew host j test) h = refused_aside s t (refusal_of s (event.Renew host j test)) (accepted s (event.Renew host j test))
step_aside s t (event.Tick moment) h = refused_aside s t (refusal_of s (event.Tick moment)) (accepted s (event.Tick moment))
step_aside s t (event.Down host) h = refused_aside s t (refusal_of s (event.Down host)) (accepted s (event.Down host))
step_aside s t (event.Show j) h = refused_aside s t (refusal_of s (event.Show j)) (accepted s (event.Show j))
step_aside s t (event.Owner j) h = refused_aside s t (refusal_of s (event.Owner j)) (accepted s (event.Owner j))
step_aside s t event.Board h = refused_aside s t (refusal_of s event.Board) (accepted s event.Board)
step_aside s t (event.Rejudge who list) h = let no : Some who ≡ None = h.unaudited in cc
step_aside s t (event.Matrix r) h = refused_aside s t (refusal_of s (event.Matrix r)) (accepted s (event.Matrix r))
step_aside s t (event.Apply who r) h = let no : Some who ≡ None = h.unaudited in cc
step_aside s t (event.Cancel who r) h = let no : Some who ≡ None = h.unaudited in cc
step_aside s t (event.Verify who j) h = let no : Some who ≡ None = h.unaudited in cc
step_aside s t (event.Ask who j) h = let no : Some who ≡ None = h.unaudited in cc
step_aside s t event.Audit h = absurd (h.other refl)

-- what a contest does is what the farm does, whatever its audit log holds
pub lifted : (old new : State) (t : List (List ℕ)) (e : Event) (r : Reply) → IsPlain e → Stepped old e new r → Stepped (with_texts old t) e (with_texts new t) r
lifted old new t e r plain h = record {
  wanted = λ no. let may = h.wanted no in record { takes = takes_aside old t e ∙ may.takes; accepted = refusal_aside old t e ∙ may.accepted };
  kept = λ no. ap (λ (s : State). with_texts s t) (h.kept no);
  state = λ other. ap (λ (s : State). with_texts s t) (h.state other) ∙ sym (ap (λ (p : State × Reply). p.0) (step_aside old t e plain));
  answer = λ other. h.answer other ∙ sym (ap (λ (p : State × Reply). p.1) (step_aside old t e plain));
}

-- so a farm answers what its contest answers
pub by_contest : (old new s : State) (t : List (List ℕ)) (e asked : Event) (r : Reply) → with_texts old t ≡ s → e ≡ asked → IsPlain asked
    → Stepped old asked new r → Stepped s e (with_texts new t) r
by_contest old new s t e asked r view is plain h =
    subst (λ (x : State). Stepped x e (with_texts new t) r) view
    (subst (λ (f : Event). Stepped (with_texts old t) f (with_texts new t) r) (sym is) (lifted old new t asked r plain h))
