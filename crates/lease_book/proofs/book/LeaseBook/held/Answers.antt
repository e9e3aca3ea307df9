use Rattle.std.proofs.Common.{◌∙◌, ap}
use Rattle.farm_model.specs.Leases.{held_count}
use Rattle.lease_book.specs.Book.{Book}
use Rattle.lease_book.proofs.Index.{held_of}
use Rattle.lease_book.proofs.book.LeaseBook.held.Goals as goal

pub returns : goal.returns
returns c = c.count_of.ensures ∙ held_of c.self.inside.held.leases c.self.inside.spare c.args.host c.self.inside.by_host c.self.invariant.hosts ∙ ap (λ (b : Book). held_count b.leases c.args.host) c.self.view_is
