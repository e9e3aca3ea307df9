use Rattle.std.proofs.lemmas.List.Filters.{dedup_is}
use Rattle.std.proofs.Common.{sym, subst}
use Rattle.package_folder.specs.Order.{IsRising}
use Rattle.package_folder.proofs.Ordered.{ordered_rising}
use Rattle.package_folder.proofs.Strings.{put_in_order}
use Rattle.package_folder.proofs.order.Paths.put_in_order.Goals as goal

pub returns-clause-order : goal.returns-clause-order
returns-clause-order c =
    rw (dedup_is _ _ _ c.dedup.ensures.filtered)
    (rw (← c.self.view_is) (put_in_order _ _ c.sort_unstable.ensures.permutation c.sort_unstable.ensures.sorted))

pub returns-clause-rising : goal.returns-clause-rising
returns-clause-rising c = subst IsRising (sym (returns-clause-order c)) (ordered_rising c.args.self.now)
