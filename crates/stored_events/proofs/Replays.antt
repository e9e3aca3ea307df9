-- The records of a store are played, one after the other.
use Rattle.std.proofs.Common.{◌≡◌, ◌⊎◌, inl, inr, ℕ, ◌+◌, ◌<◌, ◌≤◌, List, [], ◌∷◌, ◌++◌, length, take, drop, Option, Some, None, Result, Ok, Err, refl, sym, ◌∙◌, ap, subst, arith, append_assoc, length-drop, take-append-drop}
use Rattle.std.proofs.lemmas.List.{append-nil}
use Rattle.record_store.specs.Held.{held, IsRecordPrefix, IsNext, IsRead}
use Rattle.farm_model.specs.State.{State}
use Rattle.stored_events.specs.Opening.{stored_step, or_bad, replayed}
use Rattle.stored_events.specs.Replaying.{ReplaysTo, FailsAtRecord, PlayedTo}
use Rattle.stored_events.specs.declared.faults.OpenFault.{OpenFault}
use Rattle.stored_events.specs.declared.faults.OpenFault.TheVariants as fault

pub played_first : (file : List ℕ) (prefix : List (List ℕ)) (old : State) (at : ℕ) → IsRecordPrefix (take at file) prefix → PlayedTo file prefix old at old 2
played_first file prefix old at is = record {
  lines = [];
  stands = subst (IsRecordPrefix (take at file)) (sym (append-nil prefix)) is;
  goes_on = λ rest. refl;
}

module _ (file : List ℕ) (prefix : List (List ℕ)) (old : State) (at : ℕ) (now : State) (number : ℕ) (so_far : PlayedTo file prefix old at now number) where
  module _ (line : List ℕ) (next_is : IsNext file at line) where
    stands_more : IsRecordPrefix (take (at + 3 + length line) file) (prefix ++ (so_far.lines ++ line ∷ []))
    stands_more = subst (IsRecordPrefix (take (at + 3 + length line) file)) (append_assoc prefix so_far.lines (line ∷ [])) (next_is (prefix ++ so_far.lines) so_far.stands)

    pub played_more : (next : State) → stored_step now line ≡ Some next → PlayedTo file prefix old (at + 3 + length line) next (number + 1)
    played_more next step = record {
      lines = so_far.lines ++ line ∷ [];
      stands = stands_more;
      goes_on = λ rest.
          ap (λ (l : List (List ℕ)). replayed old 2 l) (append_assoc so_far.lines (line ∷ []) rest)
          ∙ so_far.goes_on (line ∷ rest)
          ∙ ap (λ (o : Option State). or_bad number o (λ s. replayed s (number + 1) rest)) step;
    }

    pub played_bad : stored_step now line ≡ None → at + 3 + length line < length file → FailsAtRecord file prefix old number
    played_bad step inside =
        let end = at + 3 + length line in
        let rest = held (drop end file) in
        record {
          lines = so_far.lines ++ line ∷ rest;
          holds = ap held (sym (take-append-drop end file))
              ∙ stands_more.reads (drop end file) (omega (arith, inside, length-drop end file))
              ∙ append_assoc prefix (so_far.lines ++ line ∷ []) rest
              ∙ ap (λ (l : List (List ℕ)). prefix ++ l) (append_assoc so_far.lines (line ∷ []) rest);
          failed = so_far.goes_on (line ∷ rest) ∙ ap (λ (o : Option State). or_bad number o (λ s. replayed s (number + 1) rest)) step;
        }

  pub played_all : held (drop at file) ≡ [] → at < length file → ReplaysTo file prefix old now at
  played_all none inside = record {
    lines = so_far.lines;
    read = record { prefix = so_far.stands; none = none; within = inl inside };
    played = ap (λ (l : List (List ℕ)). replayed old 2 l) (sym (append-nil so_far.lines)) ∙ so_far.goes_on [];
  }
