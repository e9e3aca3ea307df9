use Rattle.std.proofs.Common.{ℕ, ◌≡◌, ◌++◌, ◌∷◌, [], List, sym, ap, ◌∙◌, subst, arith, All}
use Rattle.std.proofs.lemmas.List.{map-append}
use Rattle.std.proofs.lemmas.List.Elements.{All-nil, All-cons, All-append}
use Rattle.farm_board.specs.Passes.{PassValue}
use Rattle.parallel_judge.specs.Hosts.{share, IsBeside, IsReadyPass, pass_numbers}
use Rattle.parallel_judge.proofs.Beside.{splits_beside}
use Rattle.parallel_judge.proofs.hosts.split_passes.Goals as goal

pub loop-host-preserved : goal.loop-host-preserved
loop-host-preserved g c =
    let passes = c.loop-host.passes.items in
    let s = c.split.ensures.split in
    let more : pass_numbers c.push_reserved.new.self.items ≡ pass_numbers passes ++ c.split.result.number ∷ [] =
    ap pass_numbers c.push_reserved.ensures.items ∙ map-append (λ (p : PassValue). p.number) passes (c.split.result ∷ []) in
    let room_before = c.loop-host.invariant.room in
    let capacity = c.push_reserved.ensures.capacity in
    let len_before = c.loop-host.invariant.len in
    let len_now = c.push_reserved.ensures.len in
    let spare_before = c.loop-host.invariant.spare in
    let spare_now = s.spare in
    let left_before = c.loop-host.invariant.left in
    let left_now = s.left in
    let ready : IsReadyPass c.args.board.now.id c.split.result = record {
      board_is = s.other_board ∙ c.loop-host.invariant.board ∙ c.requires.board;
      fresh = s.other_mine;
      left = s.other_left;
      spare = s.other_spare;
    } in
    record {
      beside = λ case_at start calls b.
          subst (λ (numbers : List ℕ). IsBeside case_at start calls numbers [] c.split.new.pass) (sym more)
          (splits_beside case_at start calls (pass_numbers passes) c.loop-host.pass c.split.new.pass c.split.result share (c.loop-host.invariant.beside case_at start calls b) s);
      ready = subst (All (IsReadyPass c.args.board.now.id)) (sym c.push_reserved.ensures.items)
          (All-append (IsReadyPass c.args.board.now.id) passes (c.split.result ∷ []) c.loop-host.invariant.ready (All-cons (IsReadyPass c.args.board.now.id) c.split.result [] ready (All-nil (IsReadyPass c.args.board.now.id))));
      room = omega (arith, room_before, capacity);
      len = omega (arith, len_before, len_now);
      spare = omega (arith, spare_before, spare_now);
      left = omega (arith, left_before, left_now);
      board = s.grows.board ∙ c.loop-host.invariant.board;
    }
