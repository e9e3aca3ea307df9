-- Answers that are help or the version, and those that are not.
use Rattle.std.proofs.Common.{◌≡◌, ◌≢◌, ◌⊎◌, inl, inr, [], ◌∷◌, refl, sym, ◌∙◌, subst, true, Ok, Err, Result}
use Rattle.std.specs.Prelude.{IfOk}
use Rattle.clap.specs.Words.{IsAmong, Kinds, is_simple_and_free}
use Rattle.clap.specs.declared.error.kind.ErrorKind.{ErrorKind}
use Rattle.clap.specs.declared.error.kind.ErrorKind.TheVariants.{DisplayHelp, DisplayVersion, OutOfMemory}
use Rattle.command_line.specs.Commands.{helping}
use Rattle.command_line.specs.Helping.{MayAsk, MustAsk}

-- the grammar that knows the words for help is one whose answers are known
pub helping_is_simple : is_simple_and_free helping ≡ true
helping_is_simple = refl

pub accepted_asks_nothing : (kinds : Kinds) → kinds ≡ [] → ¬ MustAsk kinds
accepted_asks_nothing kinds none (inl help) = let bad : [] ≡ DisplayHelp ∷ [] = sym none ∙ help in cc
accepted_asks_nothing kinds none (inr version) = let bad : [] ≡ DisplayVersion ∷ [] = sym none ∙ version in cc

pub asked_is_among : (kinds : Kinds) (k : ErrorKind) → (k ≡ OutOfMemory) ⊎ IsAmong k kinds
    → (k ≡ DisplayHelp) ⊎ (k ≡ DisplayVersion) → MayAsk kinds
asked_is_among kinds k (inl memory) (inl help) = let bad : OutOfMemory ≡ DisplayHelp = sym memory ∙ help in cc
asked_is_among kinds k (inl memory) (inr version) = let bad : OutOfMemory ≡ DisplayVersion = sym memory ∙ version in cc
asked_is_among kinds k (inr among) (inl help) = inl (subst (λ kind. IsAmong kind kinds) help among)
asked_is_among kinds k (inr among) (inr version) = inr (subst (λ kind. IsAmong kind kinds) version among)

alone : (k one : ErrorKind) → k ≢ one → IsAmong k (one ∷ []) → ⊥
alone k one other (inl same) = other same
alone k one other (inr none) = none

pub other_is_not_asked : (kinds : Kinds) (k : ErrorKind) → (k ≡ OutOfMemory) ⊎ IsAmong k kinds
    → (k ≢ OutOfMemory) × (k ≢ DisplayHelp) × (k ≢ DisplayVersion) → ¬ MustAsk kinds
other_is_not_asked kinds k (inl memory) others asked = others.0 memory
other_is_not_asked kinds k (inr among) others (inl help) =
    alone k DisplayHelp others.1 (subst (λ kinds. IsAmong k kinds) help among)
other_is_not_asked kinds k (inr among) others (inr version) =
    alone k DisplayVersion others.2 (subst (λ kinds. IsAmong k kinds) version among)

pub map_ok : {A E : Type 0} {P Q : A → Type 0} → ((a : A) → P a → Q a) → (r : Result A E) → IfOk r P → IfOk r Q
map_ok f (Ok a) p = f a p
map_ok f (Err e) p = tt
