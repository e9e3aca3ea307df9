use Rattle.std.proofs.Common.{◌≡◌, ◌∙◌, ◌<◌, ◌≤◌, length, subst, sym, ap, rules, arith, Some, None}
use Rattle.std.specs.List.{slice_get}
use Rattle.std.proofs.lemmas.Bool.{ltb-true, lt-ltb}
use Rattle.farm_kinds.specs.declared.outcomes.Verdict.TheVariants.{Tests}
use Rattle.farm_kinds.specs.declared.outcomes.Answer.{Answer}
use Rattle.farm_kinds.specs.declared.outcomes.Answer.TheVariants.{Final, Pending}
use Rattle.farm_kinds.specs.declared.outcomes.Mode.{Mode}
use Rattle.farm_model.specs.Rows.{answer_of}
use Rattle.lazy_stop.specs.Matters.{Matters}
use Rattle.lazy_stop.specs.RowValue.{RowValue}
use Rattle.lazy_stop.proofs.Answering.{settled_test, final_when_full, final_when_calm, pending_when_matters, pending_when_open}
use Rattle.lazy_stop.proofs.row.Row.answer.Goals as goal

-- an answer to a row with cells, in this mode
abbrev Answers : Answer → Mode → RowValue → Type 0
Answers answer mode row = 0 < length row.cells → answer ≡ answer_of row.rule mode row.cells

pub returns-then-self-len : goal.returns-then-self-len
returns-then-self-len c =
    let count : c.len.result ≡ length c.self.inside.cells = search rules in
    subst (Answers (Final (Tests c.deciding_kind.result)) c.args.mode) c.self.view_is
    (λ l. final_when_full _ _ _ _ c.args.mode _ _ c.self.invariant l (c.if-self-len.true ∙ count) (λ v all. c.deciding_kind.ensures _ _ _ v c.self.invariant l (settled_test c.self.inside.rule c.self.inside.cells v all)))
    c.requires

pub returns-in-Full : goal.returns-in-Full
returns-in-Full c =
    let count : c.len.result ≡ length c.self.inside.cells = search rules in
    let within : c.self.inside.first_empty ≤ length c.self.inside.cells = c.self.invariant.empty_is.within in
    let e : slice_get c.self.inside.cells c.self.inside.first_empty ≡ Some None = c.self.invariant.empty_is.empty (omega arith) in
    subst (Answers Pending c.args.mode) c.self.view_is
    (λ l. pending_when_open c.self.inside.rule c.self.inside.cells _ l e ∙ ap (λ m. answer_of c.self.inside.rule m c.self.inside.cells) (sym c.in-Full.is))
    c.requires

pub returns-then-self-end : goal.returns-then-self-end
returns-then-self-end c =
    let count : c.len.result ≡ length c.self.inside.cells = search rules in
    let within : c.self.inside.first_empty ≤ length c.self.inside.cells = c.self.invariant.empty_is.within in
    let e : slice_get c.self.inside.cells c.self.inside.first_empty ≡ Some None = c.self.invariant.empty_is.empty (omega arith) in
    let len : length c.self.inside.cells ≡ c.len-2.result = search rules in
    let m : Matters c.self.inside.rule c.self.inside.cells c.self.inside.first_empty = (c.matters_before-end.ensures _ _ _ c.self.invariant len e).0 (lt-ltb _ _ c.if-self-end.true) in
    subst (Answers Pending c.args.mode) c.self.view_is
    (λ l. pending_when_matters _ _ _ l m ∙ ap (λ m. answer_of c.self.inside.rule m c.self.inside.cells) (sym c.in-Lazy.is))
    c.requires

pub returns : goal.returns
returns c =
    let count : c.len.result ≡ length c.self.inside.cells = search rules in
    let within : c.self.inside.first_empty ≤ length c.self.inside.cells = c.self.invariant.empty_is.within in
    let e : slice_get c.self.inside.cells c.self.inside.first_empty ≡ Some None = c.self.invariant.empty_is.empty (omega arith) in
    let len : length c.self.inside.cells ≡ c.len-2.result = search rules in
    subst (Answers (Final (Tests c.deciding_kind-2.result)) c.args.mode) c.self.view_is
    (λ l. final_when_calm _ _ _ _ _ _ c.self.invariant l e (λ m. absurd (omega (arith, ltb-true _ _ ((c.matters_before-end.ensures _ _ _ c.self.invariant len e).1 m), c.if-self-end.false))) (λ v all. c.deciding_kind-2.ensures _ _ _ v c.self.invariant l (settled_test c.self.inside.rule c.self.inside.cells v all))
    ∙ ap (λ m. answer_of c.self.inside.rule m c.self.inside.cells) (sym c.in-Lazy.is))
    c.requires
