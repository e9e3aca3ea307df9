-- An event is added.
use Rattle.std.proofs.Common.{◌≡◌, ◌⊎◌, inl, ℕ, ◌+◌, List, [], ◌∷◌, ◌++◌, length, refl, sym, subst, arith, length-append}
use Rattle.record_store.specs.Model.{DiskState, DiskTime, AtEachMoment}
use Rattle.record_store.specs.Held.{held, records_of, Rests, IsBeforeOrAfter}
use Rattle.record_store.proofs.Moments.{started}
use Rattle.record_store.proofs.Images.{quiet_leaves}

-- nothing was done
pub not_added : (t : DiskTime) (more : List (List ℕ)) (end : ℕ) → Rests t.now (held t.now.seen) end → AtEachMoment (IsBeforeOrAfter (held t.now.seen) more) t t
not_added t more end rests =
    let P : List ℕ → Type 0 = IsBeforeOrAfter (held t.now.seen) more in
    started P t (quiet_leaves P t.now rests.quiet (inl refl))

pub one_length : (line : List ℕ) → length (records_of (line ∷ [])) ≡ 3 + length line
one_length line = omega (arith, length-append line [])

pub rests_at : (s : DiskState) (lines : List (List ℕ)) (end other : ℕ) → end ≡ other → Rests s lines end → Rests s lines other
rests_at s lines end other same rests = subst (λ (k : ℕ). Rests s lines k) same rests
