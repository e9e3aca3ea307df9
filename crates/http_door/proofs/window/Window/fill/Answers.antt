use Rattle.std.proofs.Common.{◌≡◌, refl, sym, ap, ◌∙◌, ◌+◌, ◌-◌, List, ℕ, arith, length, slice_range}
use Rattle.std.proofs.lemmas.Grind.{common_steps}
use Rattle.std.specs.Vec.{with_items}
use Rattle.std.proofs.lemmas.List.{with_items_is}
use Rattle.http_door.proofs.Windows.{Fills-refl, Fills-none, filled, same_window}
use Rattle.http_door.proofs.window.Window.fill.Goals as goal

pub returns-then-self-ge-INPUT_LIMIT-clause-fills : goal.returns-then-self-ge-INPUT_LIMIT-clause-fills
returns-then-self-ge-INPUT_LIMIT-clause-fills g c = Fills-refl _ _

pub returns-in-Bytes-clause-fills : goal.returns-in-Bytes-clause-fills
returns-in-Bytes-clause-fills g c =
    let w = c.self.inside in
    let xs = c.refill-taken.new.bytes in
    let n = c.in-Bytes.count in
    let size : length xs ≡ length w.bytes.items = c.refill-taken.auto.bytes ∙ ap length c.deref_mut.ensures.value in
    let is : (with_items w.bytes xs).items ≡ xs = with_items_is w.bytes xs (size ∙ sym w.bytes.ok.0) in
    rw (← c.self.view_is)
    (filled _ _
    (record { ahead = slice_range w.bytes.items w.from w.to; taken = w.taken; size = length w.bytes.items })
    (record { ahead = slice_range (with_items w.bytes xs).items 0 (w.to - w.from + n); taken = w.taken + n; size = length (with_items w.bytes xs).items })
    _ xs _ n c.in-Bytes.ensures.refills (ap (λ (z : List ℕ). slice_range z w.from w.to) (sym c.deref_mut.ensures.value)) (ap (λ (z : List ℕ). slice_range z 0 (w.to - w.from + n)) is) refl (omega (arith, ap length is, size)))

pub returns-in-End-clause-kept : goal.returns-in-End-clause-kept
returns-in-End-clause-kept g c =
    let w = c.self.inside in
    let xs = c.refill-taken.new.bytes in
    let size : length xs ≡ length w.bytes.items = c.refill-taken.auto.bytes ∙ ap length c.deref_mut.ensures.value in
    let is : (with_items w.bytes xs).items ≡ xs = with_items_is w.bytes xs (size ∙ sym w.bytes.ok.0) in
    λ _. rw (← c.self.view_is)
    (same_window
    (record { ahead = slice_range (with_items w.bytes xs).items 0 (w.to - w.from); taken = w.taken; size = length (with_items w.bytes xs).items })
    (record { ahead = slice_range w.bytes.items w.from w.to; taken = w.taken; size = length w.bytes.items })
    (ap (λ (z : List ℕ). slice_range z 0 (w.to - w.from)) is ∙ c.in-End.ensures.refills.2 ∙ ap (λ (z : List ℕ). slice_range z w.from w.to) c.deref_mut.ensures.value) refl (ap length is ∙ size))

pub returns-in-End-clause-fills : goal.returns-in-End-clause-fills
returns-in-End-clause-fills g c = Fills-none _ _ _ _ c.in-End.ensures.refills.0 (returns-in-End-clause-kept g c refl)

pub returns-in-Failed-clause-kept : goal.returns-in-Failed-clause-kept
returns-in-Failed-clause-kept g c =
    let w = c.self.inside in
    let xs = c.refill-taken.new.bytes in
    let size : length xs ≡ length w.bytes.items = c.refill-taken.auto.bytes ∙ ap length c.deref_mut.ensures.value in
    let is : (with_items w.bytes xs).items ≡ xs = with_items_is w.bytes xs (size ∙ sym w.bytes.ok.0) in
    λ _. rw (← c.self.view_is)
    (same_window
    (record { ahead = slice_range (with_items w.bytes xs).items 0 (w.to - w.from); taken = w.taken; size = length (with_items w.bytes xs).items })
    (record { ahead = slice_range w.bytes.items w.from w.to; taken = w.taken; size = length w.bytes.items })
    (ap (λ (z : List ℕ). slice_range z 0 (w.to - w.from)) is ∙ c.in-Failed.ensures.refills.1 ∙ ap (λ (z : List ℕ). slice_range z w.from w.to) c.deref_mut.ensures.value) refl (ap length is ∙ size))

pub returns-in-Failed-clause-fills : goal.returns-in-Failed-clause-fills
returns-in-Failed-clause-fills g c = Fills-none _ _ _ _ c.in-Failed.ensures.refills.0 (returns-in-Failed-clause-kept g c refl)

pub invariant_of-self : goal.invariant_of-self
invariant_of-self g c = grind (arith, common_steps)

pub invariant_of-self-in-End : goal.invariant_of-self-in-End
invariant_of-self-in-End g c = grind (arith, common_steps)

pub invariant_of-self-in-Failed : goal.invariant_of-self-in-Failed
invariant_of-self-in-Failed g c = grind (arith, common_steps)

pub returns-in-Bytes-clause-size : goal.returns-in-Bytes-clause-size
returns-in-Bytes-clause-size g c = grind (arith, common_steps)

pub returns-in-End-clause-size : goal.returns-in-End-clause-size
returns-in-End-clause-size g c = grind (arith, common_steps)

pub returns-in-Failed-clause-size : goal.returns-in-Failed-clause-size
returns-in-Failed-clause-size g c = grind (arith, common_steps)
