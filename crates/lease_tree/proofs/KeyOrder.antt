-- The order of keys.
use Rattle.std.proofs.Common.{ℕ, ◌≡◌, ◌≤◌, true, false, ap, ◌∙◌, arith}
use Rattle.std.specs.Prelude.{◌==◌, ◌&&◌}
use Rattle.std.proofs.lemmas.Bool.Decides.{nat_tests}
use Rattle.farm_model.specs.Leases.{same_task}
use Rattle.lease_tree.specs.declared.keys.Key.{Key}
use Rattle.lease_tree.specs.Keys.{is_key_before}

pub before_trans : (a b c : Key) → is_key_before a b ≡ true → is_key_before b c ≡ true → is_key_before a c ≡ true
before_trans a b c h k = grind (arith, nat_tests)

pub not_after : (a b : Key) → is_key_before a b ≡ true → is_key_before b a ≡ false
not_after a b h = grind (arith, nat_tests)

pub same_key : (a b : Key) → is_key_before a b ≡ false → is_key_before b a ≡ false → a ≡ b
same_key a b h k =
    let group : a.group ≡ b.group = grind (arith, nat_tests) in
    let judging : a.task.judging ≡ b.task.judging = grind (arith, nat_tests) in
    let test : a.task.test ≡ b.task.test = grind (arith, nat_tests) in
    let with : ℕ → ℕ → ℕ → Key = λ (r j t : ℕ). record { group = r; task = record { judging = j; test = t } } in
    ap (λ (r : ℕ). with r a.task.judging a.task.test) group ∙ ap (λ (j : ℕ). with b.group j a.task.test) judging ∙ ap (λ (t : ℕ). with b.group b.task.judging t) test

pub neither_task : (a b : Key) → is_key_before a b ≡ false → is_key_before b a ≡ false → same_task a.task b.task ≡ true
neither_task a b h k = grind (arith, nat_tests)

pub same_place : (a b : Key) → is_key_before a b ≡ false → is_key_before b a ≡ false → (a.group == b.group && same_task a.task b.task) ≡ true
same_place a b h k = grind (arith, nat_tests)

pub not_same : (a b : Key) → is_key_before a b ≡ true → (a.group == b.group && same_task a.task b.task) ≡ false
not_same a b h = grind (arith, nat_tests)

pub not_same_after : (a b : Key) → is_key_before a b ≡ true → (b.group == a.group && same_task b.task a.task) ≡ false
not_same_after a b h = grind (arith, nat_tests)

pub group_before : (a b : Key) → is_key_before a b ≡ true → a.group ≤ b.group
group_before a b h = grind (arith, nat_tests)
