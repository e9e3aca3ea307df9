use Rattle.std.proofs.Common.{rules}
use Rattle.left_right.specs.Sides.{view}
use Rattle.public_board.proofs.Publishing.{published_same, published_next}
use Rattle.public_board.proofs.publisher.publish_rows.Goals as goal

pub returns-then-same_rows-clause-versions : goal.returns-then-same_rows-clause-versions
returns-then-same_rows-clause-versions g c =
    published_same (view c.args.writer.desk.place).seen c.args.writer.desk.shown.value.rows.items c.args.now.now c.requires.current.last (search rules)

pub returns-in-Ok-clause-versions : goal.returns-in-Ok-clause-versions
returns-in-Ok-clause-versions g c =
    published_next c.show_rows.result.1 (view c.args.writer.desk.place).seen (view c.show_rows.result.0.desk.place).seen
    c.args.writer.desk.shown.value.rows.items c.args.now.now _ c.requires.current.last (search rules) (search rules)
