use Rattle.std.proofs.Common.{sym, ◌∙◌, subst, length, ◌≤◌, [], ◌∷◌, ◌++◌}
use Rattle.public_board.specs.Versions.{last_of}
use Rattle.public_board.proofs.Publishing.{some_part, seen_part}
use Rattle.public_board.proofs.publisher.Publisher+R+J.publish.Goals as goal

pub publish_rows-writer-requires : goal.publish_rows-writer-requires
publish_rows-writer-requires g c =
    let held = sym c.take.ensures.value ∙ c.in-Some.is in
    let seen = seen_part _ _ _ _ _ c.self.view_is held in record {
      current = some_part _ _ _ held c.self.invariant.1;
      long = subst (λ (vs : _). length (last_of vs) ≤ length c.args.now.now) (sym seen) c.requires.long;
      allowed = subst (λ (vs : _). g.J.Publication.allows (vs ++ c.args.now.now ∷ [])) (sym seen) c.requires.allowed;
    }
