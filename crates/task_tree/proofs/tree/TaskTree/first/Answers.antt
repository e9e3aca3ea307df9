use Rattle.std.proofs.Common.{arith, sym, ap, ◌∙◌, ◌≡◌, ℕ, ◌^◌, ◌<◌, length, List, subst, inl, inr, is_some, true, false}
use Rattle.std.proofs.lemmas.List.{length-map}
use Rattle.farm_kinds.specs.declared.outcomes.Class.TheVariants.{High, Normal, Low}
use Rattle.std.specs.Prelude.{slice_get}
use Rattle.task_tree.specs.Shown.{JudgingTasks, first_shown, shown_in_class}
use Rattle.task_tree.specs.TreeLayout.{tasks_value, tasks_values}
use Rattle.task_tree.specs.Tree.{of_class}
use Rattle.task_tree.specs.declared.tree.KeptTasks.{KeptTasks}
use Rattle.task_tree.proofs.Firsts.{first_shown_is, none_shown, foremost, second, third, if_some, if_none, either, enough_bits}
use Rattle.task_tree.proofs.tree.TaskTree.first.Goals as goal

small : (ks : List KeptTasks) (v : List JudgingTasks) (b : ℕ) → tasks_values ks ≡ v → length v < 2 ^ b → length ks < 2 ^ b
small ks v b e h = subst (λ n. n < 2 ^ b) (sym (ap length e) ∙ length-map ks tasks_value) h

pub returns-then-is_some-clause-cost : goal.returns-then-is_some-clause-cost
returns-then-is_some-clause-cost g c = λ b h.
    let a = c.self.inside in
    let ks = a.judgings.items in
    let i = c.self.invariant.indexed in
    let s = if_some c.first_in-high.result _ (sym c.is_some.ensures ∙ c.if-is_some.true) c.first_in-high.ensures.some in
    omega (arith, s.0, enough_bits (length ks) (of_class a.classes High).top_words b (small ks c.args.self.now b c.self.view_is h) s.1 (i.few_top_words High) (i.top_words High))

pub returns-then-is_some-2-clause-first : goal.returns-then-is_some-2-clause-first
returns-then-is_some-2-clause-first g c =
    let js = tasks_values c.self.inside.judgings.items in
    let h = slice_get (shown_in_class js High) 0 in
    let n = slice_get (shown_in_class js Normal) 0 in
    let l = slice_get (shown_in_class js Low) 0 in
    let p : is_some h ≡ false = ap is_some (sym c.first_in-high.ensures.first) ∙ sym c.is_some.ensures ∙ c.if-is_some.false in
    let q : is_some n ≡ true = ap is_some (sym c.first_in-normal.ensures.first) ∙ sym c.is_some-2.ensures ∙ c.if-is_some-2.true in
    c.first_in-normal.ensures.first ∙ second h n l p q ∙ sym (first_shown_is js) ∙ ap first_shown c.self.view_is

pub returns-then-is_some-clause-none : goal.returns-then-is_some-clause-none
returns-then-is_some-clause-none g c =
    let js = tasks_values c.self.inside.judgings.items in
    let h = slice_get (shown_in_class js High) 0 in
    let n = slice_get (shown_in_class js Normal) 0 in
    let l = slice_get (shown_in_class js Low) 0 in
    let p : is_some h ≡ true = ap is_some (sym c.first_in-high.ensures.first) ∙ sym c.is_some.ensures ∙ c.if-is_some.true in
    none_shown c.args.self.now c.first_in-high.result (c.first_in-high.ensures.first ∙ foremost h n l p ∙ sym (first_shown_is js) ∙ ap first_shown c.self.view_is)

pub returns-then-is_some-2-clause-none : goal.returns-then-is_some-2-clause-none
returns-then-is_some-2-clause-none g c = none_shown c.args.self.now c.first_in-normal.result (returns-then-is_some-2-clause-first g c)

pub returns-then-is_some-2-clause-cost : goal.returns-then-is_some-2-clause-cost
returns-then-is_some-2-clause-cost g c = λ b h.
    let a = c.self.inside in
    let ks = a.judgings.items in
    let i = c.self.invariant.indexed in
    let s = if_none c.first_in-high.result _ (sym c.is_some.ensures ∙ c.if-is_some.false) c.first_in-high.ensures.none in
    let t = if_some c.first_in-normal.result _ (sym c.is_some-2.ensures ∙ c.if-is_some-2.true) c.first_in-normal.ensures.some in
    let fits = small ks c.args.self.now b c.self.view_is h in
    omega (arith, s, t.0, enough_bits (length ks) (of_class a.classes High).top_words b fits t.1 (i.few_top_words High) (i.top_words High), enough_bits (length ks) (of_class a.classes Normal).top_words b fits t.1 (i.few_top_words Normal) (i.top_words Normal))

pub returns-clause-first : goal.returns-clause-first
returns-clause-first g c =
    let js = tasks_values c.self.inside.judgings.items in
    let h = slice_get (shown_in_class js High) 0 in
    let n = slice_get (shown_in_class js Normal) 0 in
    let l = slice_get (shown_in_class js Low) 0 in
    let p : is_some h ≡ false = ap is_some (sym c.first_in-high.ensures.first) ∙ sym c.is_some.ensures ∙ c.if-is_some.false in
    let q : is_some n ≡ false = ap is_some (sym c.first_in-normal.ensures.first) ∙ sym c.is_some-2.ensures ∙ c.if-is_some-2.false in
    c.first_in.ensures.first ∙ third h n l p q ∙ sym (first_shown_is js) ∙ ap first_shown c.self.view_is

pub returns-clause-none : goal.returns-clause-none
returns-clause-none g c = none_shown c.args.self.now c.first_in.result (returns-clause-first g c)

pub returns-clause-cost : goal.returns-clause-cost
returns-clause-cost g c = λ b h.
    let a = c.self.inside in
    let ks = a.judgings.items in
    let i = c.self.invariant.indexed in
    let s = if_none c.first_in-high.result _ (sym c.is_some.ensures ∙ c.if-is_some.false) c.first_in-high.ensures.none in
    let t = if_none c.first_in-normal.result _ (sym c.is_some-2.ensures ∙ c.if-is_some-2.false) c.first_in-normal.ensures.none in
    let fits = small ks c.args.self.now b c.self.view_is h in
    elim (either c.first_in.result _ _ c.first_in.ensures.none c.first_in.ensures.some) [
      | inl u ↦ omega (arith, s, t, u, i.top_words High, i.top_words Normal, i.top_words Low)
      | inr u ↦ omega (arith, s, t, u.0, enough_bits (length ks) (of_class a.classes High).top_words b fits u.1 (i.few_top_words High) (i.top_words High), enough_bits (length ks) (of_class a.classes Normal).top_words b fits u.1 (i.few_top_words Normal) (i.top_words Normal), enough_bits (length ks) (of_class a.classes Low).top_words b fits u.1 (i.few_top_words Low) (i.top_words Low))
    ]

pub returns-then-is_some-clause-most : goal.returns-then-is_some-clause-most
returns-then-is_some-clause-most g c =
    let s = if_some c.first_in-high.result _ (sym c.is_some.ensures ∙ c.if-is_some.true) c.first_in-high.ensures.some in
    omega (arith, s.0, c.self.invariant.indexed.top_words High)

pub returns-then-is_some-2-clause-most : goal.returns-then-is_some-2-clause-most
returns-then-is_some-2-clause-most g c =
    let i = c.self.invariant.indexed in
    let s = if_none c.first_in-high.result _ (sym c.is_some.ensures ∙ c.if-is_some.false) c.first_in-high.ensures.none in
    let t = if_some c.first_in-normal.result _ (sym c.is_some-2.ensures ∙ c.if-is_some-2.true) c.first_in-normal.ensures.some in
    omega (arith, s, t.0, i.top_words High, i.top_words Normal)

pub returns-clause-most : goal.returns-clause-most
returns-clause-most g c =
    let i = c.self.invariant.indexed in
    let s = if_none c.first_in-high.result _ (sym c.is_some.ensures ∙ c.if-is_some.false) c.first_in-high.ensures.none in
    let t = if_none c.first_in-normal.result _ (sym c.is_some-2.ensures ∙ c.if-is_some-2.false) c.first_in-normal.ensures.none in
    elim (either c.first_in.result _ _ c.first_in.ensures.none c.first_in.ensures.some) [
      | inl u ↦ omega (arith, s, t, u, i.top_words High, i.top_words Normal, i.top_words Low)
      | inr u ↦ omega (arith, s, t, u.0, i.top_words High, i.top_words Normal, i.top_words Low)
    ]
