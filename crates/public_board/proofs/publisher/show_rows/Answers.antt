use Rattle.std.proofs.Common.{rules, ◌≡◌, ◌∙◌, ap, sym, subst, drop, fold, List, [], ◌∷◌, ◌++◌, ◌≤◌, length}
use Rattle.left_right.specs.Sides.{view}
use Rattle.public_board.specs.declared.rows.Change.{Change}
use Rattle.public_board.specs.declared.rows.Shown.{Shown}
use Rattle.public_board.specs.Shown.{shown, replaced}
use Rattle.public_board.specs.Versions.{last_of}
use Rattle.public_board.proofs.Keeping.{publishes, last_snoc}
use Rattle.public_board.proofs.Replacing.{replaced_is, ok_part}
use Rattle.public_board.proofs.publisher.show_rows.Goals as goal

pub publish_as-writer-requires : goal.publish_as-writer-requires
publish_as-writer-requires g c next is =
    let change : Change _ = record { rows = c.args.rows } in
    let w = c.append.new.self in
    let now = w.desk.shown.value in
    let pending : drop w.behind w.log.items ≡ change ∷ [] = search rules in
    let one : shown next.rows.items next.count next.room ≡ replaced (shown now.rows.items now.count now.room) c.args.rows.items =
    is ∙ ap (λ (ops : List (Change _)). fold (λ (s : Shown _) (o : Change _). replaced s o.rows.items) (shown now.rows.items now.count now.room) ops) pending in
    let whole = one ∙ replaced_is now.rows.items now.count now.room c.args.rows.items (search rules) (search rules) in
    let rows : next.rows.items ≡ c.args.rows.items = ap (λ (s : Shown _). s.rows) whole in
    publishes g.J.Publication.allows _ _ now next (search rules) (ap (λ (s : Shown _). s.count) whole)
    (subst (λ (z : _). length now.rows.items ≤ length z) (sym rows) (search rules))
    (subst (λ (z : _). g.J.Publication.allows ((view w.desk.place).seen ++ z ∷ [])) (sym rows) (search rules))

pub returns-clause-current : goal.returns-clause-current
returns-clause-current g c =
    let done = c.publish_as-writer.ensures.succeeds tt in
    let r = ok_part c.publish_as-writer.result.1 _ _ done c.publish_as-writer.ensures.rule in
    let v = ok_part c.publish_as-writer.result.1 _ _ done c.publish_as-writer.ensures.values in
    let rows = c.publish_as-writer.result.0.desk.shown.value.rows.items in
    record {
      number = r.count;
      last = ap last_of r.seen ∙ last_snoc (view c.append.new.self.desk.place).seen rows;
      least = r.least;
      none = v.1;
    }
