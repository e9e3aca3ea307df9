-- How a name lies in its 32 bytes: the bytes past its end are 0.
use Rattle.std.specs.Prelude.{◌≡◌, ℕ, ◌-◌, ◌≤◌, List, ◌++◌, length, take, replicate, true}
use Rattle.std.proofs.Common.{ap, ◌∙◌, sym, subst}
use Rattle.std.proofs.lemmas.List.{length-take-le}
use Rattle.farm_kinds.specs.Names.{is_name}
use Rattle.farm_kinds.specs.declared.names.Name.TheInside.{Inside}

abbrev pub name_text : Inside → List ℕ
name_text n = take n.len n.bytes

pub record IsNameShape (n : Inside) : Type 0 where
  pub within : n.len ≤ 32
  pub whole : length n.bytes ≡ 32
  pub zeros : n.bytes ≡ take n.len n.bytes ++ replicate (32 - n.len) 0
  pub named : is_name (take n.len n.bytes) ≡ true

-- the fields that a name's text gives back
abbrev pub name_fields : List ℕ → Inside
name_fields v = record { bytes = v ++ replicate (32 - length v) 0; len = length v }

pub name_fields_back : (n : Inside) → IsNameShape n → name_fields (name_text n) ≡ n
name_fields_back n h =
    let e : length (take n.len n.bytes) ≡ n.len =
    length-take-le n.len n.bytes (subst (λ (m : ℕ). n.len ≤ m) (sym h.whole) h.within) in
    let text : List ℕ = name_text n in
    let b : text ++ replicate (32 - length text) 0 ≡ n.bytes = rw e (sym h.zeros) in
    let one : List ℕ → Inside = λ x. record { bytes = x; len = length (take n.len n.bytes) } in
    let two : ℕ → Inside = λ y. record { bytes = n.bytes; len = y } in
    ap one b ∙ ap two e
