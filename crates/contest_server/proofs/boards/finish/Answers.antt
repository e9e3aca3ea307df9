use Rattle.std.proofs.Common.{inl, inr, refl}
use Rattle.contest_server.proofs.boards.finish.Goals as goal

pub returns-then-is_done : goal.returns-then-is_done
returns-then-is_done g c = record {
  finishes = record { whole = c.join.new.into; takes = c.join.ensures.join; ends = inl (c.if-is_done.ensures.done, (c.show_board.new.pass, c.show_board.ensures.shows)) };
}

pub returns : goal.returns
returns g c = record {
  finishes = record { whole = c.join.new.into; takes = c.join.ensures.join; ends = inr (c.if-is_done.ensures.other, refl, refl, refl) };
}
