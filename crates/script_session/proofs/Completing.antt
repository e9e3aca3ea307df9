-- Where nothing fails, a session is done unless memory is wanting.
use Rattle.std.proofs.Common.{ℕ, ◌≡◌, ◌≢◌, ◌≤◌, List, ◌⊎◌, inl, inr, Option, refl, arith}
use Rattle.farm_io.specs.Streams.{Rose}
use Rattle.script_session.specs.declared.end.ScriptEnd.{ScriptEnd}
use Rattle.script_session.specs.declared.end.ScriptEnd.TheVariants as end
use Rattle.script_session.specs.declared.end.StoredEnd.{StoredEnd}
use Rattle.script_session.specs.declared.end.StoredEnd.TheVariants as stored
use Rattle.script_session.specs.Session.{TookLimit, IsShort}

-- what has risen since, has risen
pub rose_since : (first before now : ℕ) → first ≤ before → Rose before now → Rose first now
rose_since first before now later rose = omega (arith, later, rose)

pub stored_completed : (A B C : Type 0) (r : StoredEnd) (left left' : Option (List ℕ)) → (r ≡ stored.ReadFault → A) → (r ≡ stored.WriteFault → B) → (r ≡ stored.StoreFault → C)
    → (r ≡ stored.InputLimit → TookLimit left left') → IsShort left → ¬ A → ¬ B → ¬ C → ((end : ℕ) → r ≢ stored.StoreFull end) → (r ≡ stored.Done) ⊎ (r ≡ stored.NoMemory)
stored_completed A B C stored.Done left left' a b c t short na nb nc full = inl refl
stored_completed A B C stored.NoMemory left left' a b c t short na nb nc full = inr refl
stored_completed A B C stored.ReadFault left left' a b c t short na nb nc full = absurd (na (a refl))
stored_completed A B C stored.WriteFault left left' a b c t short na nb nc full = absurd (nb (b refl))
stored_completed A B C stored.StoreFault left left' a b c t short na nb nc full = absurd (nc (c refl))
stored_completed A B C (stored.StoreFull end) left left' a b c t short na nb nc full = absurd (full end refl)
stored_completed A B C stored.InputLimit left left' a b c t short na nb nc full = absurd ((t refl).not_short short)

pub completed : (A B : Type 0) (r : ScriptEnd) (left left' : Option (List ℕ)) → (r ≡ end.ReadFault → A) → (r ≡ end.WriteFault → B) → (r ≡ end.InputLimit → TookLimit left left')
    → IsShort left → ¬ A → ¬ B → (r ≡ end.Done) ⊎ (r ≡ end.NoMemory)
completed A B end.Done left left' a b t short na nb = inl refl
completed A B end.NoMemory left left' a b t short na nb = inr refl
completed A B end.ReadFault left left' a b t short na nb = absurd (na (a refl))
completed A B end.WriteFault left left' a b t short na nb = absurd (nb (b refl))
completed A B end.InputLimit left left' a b t short na nb = absurd ((t refl).not_short short)
