use Rattle.std.proofs.Common.{ap, ◌∙◌}
use Rattle.farm_model.specs.Leases.{lease_on}
use Rattle.lease_book.specs.Book.{Book}
use Rattle.lease_book.proofs.Index.{found_on_task}
use Rattle.lease_book.proofs.book.LeaseBook.find.Goals as goal

pub returns : goal.returns
returns c =
    c.find.ensures ∙ found_on_task c.self.inside.held.leases c.self.inside.spare c.args.task c.self.inside.by_judging c.self.invariant.judgings c.self.invariant.single
    ∙ ap (λ (b : Book). lease_on b.leases c.args.task) c.self.view_is
