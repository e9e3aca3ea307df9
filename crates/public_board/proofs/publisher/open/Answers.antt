use Rattle.std.proofs.Common.{rules, ap, sym, subst, length, ◌∷◌, ◌++◌, [], arith}
use Rattle.public_board.proofs.Publishing.{some_versions}
use Rattle.public_board.proofs.publisher.open.Goals as goal

pub new_writer-requires : goal.new_writer-requires
new_writer-requires g c = record { some = c.requires.some; allowed = c.requires.allowed.0 }

pub show_rows-writer-requires : goal.show_rows-writer-requires
show_rows-writer-requires g c = let made = c.in_ok-writer.ensures in record {
  current = made.current;
  room = search rules;
  count = let none = made.room.1 in omega arith;
  long = let none = ap length made.room.2 in omega arith;
  allowed = subst (λ (v : _). g.J.Publication.allows (v.seen ++ c.in_ok-rows.rows.items ∷ [])) (sym made.view)
      (subst (λ (rows : _). g.J.Publication.allows (rows ∷ [])) (sym c.in_ok-rows.ensures.items) c.requires.allowed.1);
}

pub new_readers-requires : goal.new_readers-requires
new_readers-requires g c = record {
  some = some_versions c.show_rows-writer.result.1 _ _ _ _ (search rules) c.show_rows-writer.ensures.versions;
  current = c.show_rows-writer.ensures.current;
}
