use Rattle.std.proofs.Common.{rules, ◌≡◌, ◌+◌, ℕ, ap, sym, ◌∙◌, arith}
use Rattle.std.specs.Prelude.{replicate}
use Rattle.std.specs.Vec.{vec_len}
use Rattle.left_right.specs.Sides.{view}
use Rattle.public_board.specs.declared.rule.View.{View}
use Rattle.public_board.specs.Values.{new_reader}
use Rattle.public_board.proofs.Publishing.{one_more}
use Rattle.public_board.proofs.publisher.new_readers.Goals as goal

pub loop-init : goal.loop-init
loop-init g c = let made = c.in_ok-all.ensures in let many = c.from.ensures in let room = made.capacity in record {
  len = made.len;
  room = omega arith;
  all = made.items ∙ sym (ap (λ (n : ℕ). replicate n (new_reader (view c.args.writer.now.desk.place).seen)) made.len);
  kept = search rules;
  current = c.requires.current;
}

pub push_reserved-requires : goal.push_reserved-requires
push_reserved-requires g c =
    let len = c.loop.invariant.len in let room = c.loop.invariant.room in let more = c.loop-test.true in omega arith

pub loop-preserved : goal.loop-preserved
loop-preserved g c = let same = c.push_reserved.ensures.capacity in let room = c.loop.invariant.room in record {
  len = c.push_reserved.ensures.len ∙ ap (λ (n : ℕ). n + 1) c.loop.invariant.len;
  room = omega arith;
  all = c.push_reserved.ensures.items
      ∙ one_more (vec_len c.loop.all) (vec_len c.push_reserved.new.self) c.loop.all.items (new_reader (view c.args.writer.now.desk.place).seen) c.in-Ok.reader
      c.loop.invariant.all (c.in-Ok.ensures.reader ∙ ap (λ (v : View _). new_reader v.seen) c.loop.invariant.kept) c.push_reserved.ensures.len;
  kept = c.new_reader.ensures.kept.0 ∙ c.loop.invariant.kept;
  current = c.new_reader.ensures.current;
}

pub returns-clause-readers : goal.returns-clause-readers
returns-clause-readers g c =
    let past = c.loop-test.false in
    let most = c.loop.auto.counter-end in
    let len = c.loop.invariant.len in
    let all : vec_len c.loop.all ≡ c.args.readers = omega arith in
    c.loop.invariant.all ∙ ap (λ (n : ℕ). replicate n (new_reader (view c.args.writer.now.desk.place).seen)) all
