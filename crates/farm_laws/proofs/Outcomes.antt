-- Events that are refused, or are done.
use Rattle.std.proofs.Common.{◌≡◌, Option, Some, None, refl}
use Rattle.farm_model.specs.Refusing.{refused_or}

-- what holds where it is refused, and where it is done
pub outcome : {S R : Type 0} (P : S × R → Type 0) (s : S) (refusal : Option R) (done : S × R) → ((x : R) → P (s, x)) → (refusal ≡ None → P done) → P (refused_or s refusal done)
outcome P s None done refused accepted = accepted refl
outcome P s (Some x) done refused accepted = refused x
