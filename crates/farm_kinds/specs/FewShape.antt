-- How a few tests lie in their 16 places: those past their end are 0.
use Rattle.std.specs.Prelude.{◌≡◌, ℕ, ◌-◌, ◌≤◌, List, ◌++◌, length, take, replicate}
use Rattle.std.proofs.Common.{ap, ◌∙◌, sym, subst}
use Rattle.std.proofs.lemmas.List.{length-take-le}
use Rattle.farm_kinds.specs.declared.few.Few.TheInside.{Inside}

abbrev pub few_tests : Inside → List ℕ
few_tests n = take n.len n.tests

pub record IsFewShape (n : Inside) : Type 0 where
  pub some : 1 ≤ n.len
  pub within : n.len ≤ 16
  pub whole : length n.tests ≡ 16
  pub zeros : n.tests ≡ take n.len n.tests ++ replicate (16 - n.len) 0

-- the fields that the tests give back
abbrev pub few_fields : List ℕ → Inside
few_fields v = record { tests = v ++ replicate (16 - length v) 0; len = length v }

pub few_fields_back : (n : Inside) → IsFewShape n → few_fields (few_tests n) ≡ n
few_fields_back n h =
    let e : length (take n.len n.tests) ≡ n.len =
    length-take-le n.len n.tests (subst (λ (m : ℕ). n.len ≤ m) (sym h.whole) h.within) in
    let tests : List ℕ = few_tests n in
    let b : tests ++ replicate (16 - length tests) 0 ≡ n.tests = rw e (sym h.zeros) in
    let one : List ℕ → Inside = λ x. record { tests = x; len = length (take n.len n.tests) } in
    let two : ℕ → Inside = λ y. record { tests = n.tests; len = y } in
    ap one b ∙ ap two e
