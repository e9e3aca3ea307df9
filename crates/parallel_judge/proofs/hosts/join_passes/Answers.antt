use Rattle.std.proofs.Common.{ℕ, ◌≡◌, ◌++◌, ◌∷◌, [], List, Option, All, map-id, sym, ap, ◌∙◌, subst, arith}
use Rattle.std.proofs.lemmas.List.{map-append, append_assoc, length-append}
use Rattle.std.proofs.lemmas.Iterator.Adapters.{YieldsList-from_vec}
use Rattle.std.proofs.lemmas.Iterator.Consumers.{YieldsList-end}
use Rattle.farm_kinds.specs.declared.outcomes.Task.{Task}
use Rattle.case_run.specs.Cases.{TestCase}
use Rattle.farm_board.specs.BoardState.{BoardState}
use Rattle.farm_board.specs.Histories.{IsOpening}
use Rattle.farm_board.specs.declared.entries.Call.{Call}
use Rattle.farm_board.specs.Passes.{BoardId, PassValue}
use Rattle.parallel_judge.specs.Hosts.{IsBeside, IsDonePass, pass_numbers}
use Rattle.parallel_judge.proofs.Beside.{joins_beside, all_but_last, all_last}
use Rattle.parallel_judge.proofs.hosts.join_passes.Goals as goal

pub loop-from-preserved : goal.loop-from-preserved
loop-from-preserved g c =
    let yielded = c.loop-from.yielded in
    let from = c.in-Some.from in
    let t = c.join.ensures.join in
    let len = length-append yielded (from ∷ []) in
    let left_before = c.loop-from.invariant.left in
    let left_now = t.left in
    record {
      beside = λ case_at start calls split joined o all b.
          let before = c.loop-from.invariant.beside case_at start calls split joined o (all_but_last (IsDonePass case_at c.args.board.now.id) yielded from all) b in
          let one = joins_beside case_at start calls split (joined ++ pass_numbers yielded) c.loop-from.pass from c.join.new.into o before t
          (all_last (IsDonePass case_at c.args.board.now.id) yielded from all).entries in
          let numbers : (joined ++ pass_numbers yielded) ++ from.number ∷ [] ≡ joined ++ pass_numbers (yielded ++ from ∷ []) =
          append_assoc joined (pass_numbers yielded) (from.number ∷ []) ∙ ap (λ (ns : List ℕ). joined ++ ns) (sym (map-append (λ (p : PassValue). p.number) yielded (from ∷ []))) in
          subst (λ (ns : List ℕ). IsBeside case_at start calls split ns c.join.new.into) numbers one;
      spare = λ all.
          let here = all_last (λ (p : PassValue). p.spare ≡ 0) yielded from all in
          let before = c.loop-from.invariant.spare (all_but_last (λ (p : PassValue). p.spare ≡ 0) yielded from all) in
          let now = t.spare in
          omega (arith, here, before, now, len);
      board = t.board ∙ c.loop-from.invariant.board;
      left = omega (arith, left_before, left_now, len);
    }

-- these passes have been taken in
abbrev IsJoinedBy : BoardId → PassValue → PassValue → List PassValue → Type 0
IsJoinedBy board old new passes =
    (case_at : Task → Option TestCase) (start : BoardState) (calls : List Call) (split joined : List ℕ) → IsOpening start → All (IsDonePass case_at board) passes
    → IsBeside case_at start calls split joined old → IsBeside case_at start calls split (joined ++ pass_numbers passes) new

pub returns-clause-beside : goal.returns-clause-beside
returns-clause-beside g c =
    let gives = c.into_iter-from-iterator.ensures.into_iter_gives in
    let passes = c.args.passes.items in
    let counted = gives.1 in
    let len = c.args.passes.ok in
    let end = YieldsList-end (YieldsList-from_vec passes gives.0 (omega (arith, counted, len))) c.loop-from.yielded c.loop-from.from-iterator c.loop-from.yielded_by c.next.result c.next.new.self c.in-None.is c.next.ensures.steps in
    let all : c.loop-from.yielded ≡ passes = sym (map-id c.loop-from.yielded) ∙ end.0 in
    subst (IsJoinedBy c.args.board.now.id c.args.pass.now c.loop-from.pass) all c.loop-from.invariant.beside
