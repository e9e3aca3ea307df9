use Rattle.std.proofs.Common.{◌≡◌, List, ℕ, ap, ◌∙◌, rules}
use Rattle.farm_model.specs.Chain.{digest_after}
use Rattle.audit_log.proofs.Chained.{chained_push}
use Rattle.audit_log.proofs.log.Audit.add_reserved.Goals as goal

pub invariant_of-self : goal.invariant_of-self
invariant_of-self c =
    let digest : c.digest_after-self-inside.result ≡ digest_after c.self.inside.head c.write_text.new.room.items
    = c.digest_after-self-inside.ensures ∙ ap (λ (text : List ℕ). digest_after c.self.inside.head text) c.as_slice.ensures.value in
    let pushed = chained_push c.self.inside.entries.items c.self.inside.head c.write_text.new.room.items (record { chained = c.self.invariant.chained; last = c.self.invariant.last }) in
    record {
      chained = rw (c.push_reserved.ensures.items, c.from_vec.ensures, digest) pushed.chained;
      last = rw (c.push_reserved.ensures.items, c.from_vec.ensures, digest) pushed.last;
      blank = search rules;
    }
