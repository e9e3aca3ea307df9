use Rattle.std.proofs.Common.{◌≡◌, ◌∙◌, sym, ap, subst, Some, Bool}
use mathlib.Core.Option.{some-injective}
use Rattle.farm_board.specs.BoardState.{BoardState}
use Rattle.farm_kinds.specs.declared.kinds.Kind.{Kind}
use Rattle.farm_kinds.specs.declared.outcomes.Task.{Task}
use Rattle.farm_board.specs.Histories.{effective_calls, journal_with_calls, IsAlone}
use Rattle.farm_board.specs.Passes.{BoardValue, PassValue, at_rest, board_seen}
use Rattle.farm_board.specs.Trusts.{AreBacked, AreAdmitted}
use Rattle.farm_board.proofs.Histories.{journal_after}
use Rattle.farm_board.proofs.Ends.{closes, third}
use Rattle.farm_board.proofs.board.Board+R+A.close.Goals as goal

pub unreachable-requires : goal.unreachable-requires
unreachable-requires g c =
    let known = c.let_go.ensures.same ∙ ap (λ (p : PassValue). at_rest p) c.pass.view_is in
    let i = c.let_go.ensures in
    let alone = subst (λ (p : PassValue). IsAlone p.number (board_seen p)) (sym known) c.requires.alone in
    let t = closes _ _ _ _ _ c.let_go.new.seat.me.0 i.free.0.resting i.keeps.own alone (third c.close_with-closed.ensures.values) in
    let found : Some t.0 ≡ c.take-held.result = some-injective _ _ (sym t.1 ∙ c.take-held.ensures.value) in
    let none_is = c.in-None.is in absurd (cc (found, none_is))

pub returns-clause-farm : goal.returns-clause-farm
returns-clause-farm g c =
    let known = c.let_go.ensures.same ∙ ap (λ (p : PassValue). at_rest p) c.pass.view_is in
    let i = c.let_go.ensures in
    let alone = subst (λ (p : PassValue). IsAlone p.number (board_seen p)) (sym known) c.requires.alone in
    let t = closes _ _ _ _ _ c.let_go.new.seat.me.0 i.free.0.resting i.keeps.own alone (third c.close_with-closed.ensures.values) in
    let found : Some t.0 ≡ c.take-held.result = some-injective _ _ (sym t.1 ∙ c.take-held.ensures.value) in
    let some_is = c.in-Some.is in
    let same : t.0 ≡ c.in-Some.held = cc (found, some_is) in
    c.into_parts.ensures.parts.0 ∙ (ap (λ (h : _). h.contents.state) (sym same) ∙ (ap (λ (z : BoardState). z.state) t.2 ∙ ap (λ (p : PassValue). (board_seen p).state) known))

pub returns-clause-journal : goal.returns-clause-journal
returns-clause-journal g c =
    let known = c.let_go.ensures.same ∙ ap (λ (p : PassValue). at_rest p) c.pass.view_is in
    let i = c.let_go.ensures in
    let alone = subst (λ (p : PassValue). IsAlone p.number (board_seen p)) (sym known) c.requires.alone in
    let v = c.let_go.new.seat.me.0 in
    let t = closes _ _ _ _ _ v i.free.0.resting i.keeps.own alone (third c.close_with-closed.ensures.values) in
    let found : Some t.0 ≡ c.take-held.result = some-injective _ _ (sym t.1 ∙ c.take-held.ensures.value) in
    let some_is = c.in-Some.is in
    let same : t.0 ≡ c.in-Some.held = cc (found, some_is) in
    c.into_parts.ensures.parts.1
    ∙ (ap (λ (h : _). h.contents.journal) (sym same)
    ∙ (ap (λ (z : BoardState). z.journal) t.2 ∙ (journal_after v.start.value v.seen ∙ ap (λ (p : PassValue). journal_with_calls p.start.journal (effective_calls p.seen)) known)))

pub returns-clause-backed : goal.returns-clause-backed
returns-clause-backed g c = subst (λ (a : Task → Kind → Bool). AreBacked a c.into_parts.result.0) (c.self.invariant.2 ∙ ap (λ (b : BoardValue g.row.R.Denot). g.R.Trust.admits b.trust) c.self.view_is) c.into_parts.ensures.trusted.0

pub returns-clause-admitted : goal.returns-clause-admitted
returns-clause-admitted g c = subst (λ (a : Task → Kind → Bool). AreAdmitted a c.into_parts.result.1) (c.self.invariant.2 ∙ ap (λ (b : BoardValue g.row.R.Denot). g.R.Trust.admits b.trust) c.self.view_is) c.into_parts.ensures.trusted.1
