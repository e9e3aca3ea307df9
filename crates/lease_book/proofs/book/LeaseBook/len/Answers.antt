use Rattle.std.proofs.Common.{ap, ◌∙◌, length}
use Rattle.lease_book.specs.Book.{Book}
use Rattle.lease_book.proofs.Index.{length_same}
use Rattle.lease_book.proofs.book.LeaseBook.len.Goals as goal

pub returns-clause-count : goal.returns-clause-count
returns-clause-count c =
    c.len.ensures.count ∙ length_same c.self.inside.held.leases c.self.inside.by_judging.leases c.self.invariant.judgings.same
    ∙ ap (λ (b : Book). length b.leases) c.self.view_is
