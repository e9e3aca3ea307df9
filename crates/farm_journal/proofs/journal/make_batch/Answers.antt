use Rattle.std.proofs.Common.{◌≡◌, ℕ, List, [], ◌∷◌, ◌++◌, OnOk, subst}
use Rattle.farm_journal.proofs.journal.make_batch.Goals as goal

pub returns-in-Ok : goal.returns-in-Ok
returns-in-Ok c =
    subst (λ (l : List ℕ). OnOk c.close_batch.result (c.close_batch.new.batch.items ≡ l ++ 0 ∷ [])) (c.in-Ok.ensures.ok [] c.clear.ensures.items) c.close_batch.ensures
