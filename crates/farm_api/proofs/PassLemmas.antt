-- A pass makes the calls that are entered on its board.
use Rattle.std.proofs.Common.{ℕ, ◌≡◌, List, [], ◌∷◌, ◌++◌, false, refl, sym, ap, ◌∙◌, subst, arith, map, append_assoc, append-nil}
use mathlib.Core.List.{IsPrefix}
use Rattle.farm_board.specs.Histories.{IsLegal, entries_by}
use Rattle.farm_board.specs.BoardState.{BoardState}
use Rattle.farm_board.specs.Passes.{PassValue}
use Rattle.farm_board.specs.declared.entries.HistoryEntry.{HistoryEntry}
use Rattle.farm_board.proofs.Prefixes.{prefix_self, prefix_trans}
use Rattle.farm_api.specs.Exchanges.{Around}
use Rattle.farm_api.specs.declared.ends.ConnHow.{ConnHow}
use Rattle.farm_api.specs.Entering.{Entered, AreEntered}
use Rattle.farm_api.specs.Serving.{Standing, IsServed}
use Rattle.farm_api.specs.PassCalls.{entry_of, PassSteps, MakesCalls}

pub makes_none : (p q : PassValue) → q ≡ p → MakesCalls p [] q
makes_none p q same = record {
  mine = ap (λ (z : PassValue). z.mine) same ∙ sym (append-nil p.mine);
  seen = subst (λ (z : PassValue). IsPrefix p.seen z.seen) (sym same) (prefix_self p.seen);
  legal = λ some. absurd (some refl);
  own = λ some. absurd (some refl);
  none = λ _. same;
  turn = λ some. absurd (some refl);
  left = let e : q.left ≡ p.left = ap (λ (z : PassValue). z.left) same in omega (arith, e);
  spare = ap (λ (z : PassValue). z.spare) same;
  board = ap (λ (z : PassValue). z.board) same;
  number = ap (λ (z : PassValue). z.number) same;
  start = ap (λ (z : PassValue). z.start) same;
}

-- after a call, whatever the calls behind it are, the history is legal and has the pass's entries
legal_behind : (old m new : PassValue) (xs : List Entered) → IsLegal old.start m.seen → m.start ≡ old.start → MakesCalls m xs new → IsLegal old.start new.seen
legal_behind old m new [] legal start more = subst (λ (z : PassValue). IsLegal old.start z.seen) (sym (more.none refl)) legal
legal_behind old m new (x ∷ xs) legal start more = subst (λ (s : BoardState). IsLegal s new.seen) start (more.legal (λ is. cc is))

own_behind : (old m new : PassValue) (xs : List Entered) → entries_by old.number m.seen ≡ m.mine → m.number ≡ old.number → MakesCalls m xs new → entries_by old.number new.seen ≡ new.mine
own_behind old m new [] own number more = subst (λ (z : PassValue). entries_by old.number z.seen ≡ z.mine) (sym (more.none refl)) own
own_behind old m new (x ∷ xs) own number more = subst (λ (n : ℕ). entries_by n new.seen ≡ new.mine) number (more.own (λ is. cc is))

turn_behind : (m new : PassValue) (xs : List Entered) → m.kept ≡ false → MakesCalls m xs new → new.kept ≡ false
turn_behind m new [] turn more = subst (λ (z : PassValue). z.kept ≡ false) (sym (more.none refl)) turn
turn_behind m new (x ∷ xs) turn more = more.turn (λ is. cc is)

pub makes_one : (old m new : PassValue) (x : Entered) (xs : List Entered) → PassSteps old x m → MakesCalls m xs new → MakesCalls old (x ∷ xs) new
makes_one old m new x xs made more =
    let call = made.0 in
    let g = call.grows in
    let e : HistoryEntry = entry_of old.number x in record {
      mine = more.mine ∙ ap (λ (es : List HistoryEntry). es ++ map (entry_of m.number) xs) g.mine
          ∙ append_assoc old.mine (e ∷ []) (map (entry_of m.number) xs)
          ∙ ap (λ (n : ℕ). old.mine ++ e ∷ map (entry_of n) xs) g.number;
      seen = prefix_trans old.seen m.seen new.seen
          (g.between ++ e ∷ [], sym (append_assoc old.seen g.between (e ∷ [])) ∙ sym g.seen) more.seen;
      legal = λ _. legal_behind old m new xs g.legal g.start more;
      own = λ _. own_behind old m new xs g.own g.number more;
      none = λ is. absurd (cc is);
      turn = λ _. turn_behind m new xs made.1 more;
      left = let a = call.left in let b = more.left in omega arith;
      spare = more.spare ∙ call.spare;
      board = more.board ∙ g.board;
      number = more.number ∙ g.number;
      start = more.start ∙ g.start;
    }

pub makes_calls : (old : PassValue) (xs : List Entered) (new : PassValue) → AreEntered PassSteps old xs new → MakesCalls old xs new
makes_calls old [] new x = makes_none old new x
makes_calls old (e ∷ xs) new x = makes_one old x.0 new e xs x.1 (makes_calls x.0 xs new x.2)

-- what was entered on a board was called
pub served_calls : (around : Around) (b p : Standing PassValue) (n : ℕ) (h : ConnHow) → IsServed (AreEntered PassSteps) around b p n h → IsServed MakesCalls around b p n h
served_calls around b p n h u = record {
  answered = u.answered;
  made = u.made;
  all = u.all;
  rest = u.rest;
  tail = u.tail;
  count = u.count;
  took = u.took;
  cut = u.cut;
  whole = u.whole;
  entered = makes_calls b.state _ p.state u.entered;
  wrote = u.wrote;
  staying = u.staying;
  ends = u.ends;
}
