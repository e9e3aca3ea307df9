-- Lists of numbers, one number after another.
use Rattle.std.proofs.Common.{◌≡◌, ℕ, ◌+◌, ◌<◌, List, [], ◌∷◌, ◌++◌, length, get_or, drop, Option, Some, None, option_map, refl, ap, sym, append_assoc}
use Rattle.std.proofs.lemmas.List.{drop_more}
use Rattle.serde_json.specs.View.{view, items_view}
use Rattle.serde_json.specs.declared.value.Value.{Value}
use Rattle.wire_json.specs.Fields.{each_number, number_in}

behind_one_more : (ns : List ℕ) (n : ℕ) (rest : Option (List ℕ)) → option_map (λ t. ns ++ t) (option_map (λ t. n ∷ t) rest) ≡ option_map (λ t. (ns ++ n ∷ []) ++ t) rest
behind_one_more ns n None = refl
behind_one_more ns n (Some t) = ap Some (sym (append_assoc ns (n ∷ []) t))

-- a value that is no number
pub number_missing : (values : List Value) (i : ℕ) (d : Value) → i < length values → number_in (view (get_or values i d)) ≡ None → each_number (items_view (drop i values)) ≡ None
number_missing values i d h none = rw (drop_more values i d h, none)

-- one number more
pub number_more : (ns : List ℕ) (n : ℕ) (values : List Value) (i : ℕ) (d : Value) → i < length values → number_in (view (get_or values i d)) ≡ Some n
    → option_map (λ t. ns ++ t) (each_number (items_view (drop i values))) ≡ option_map (λ t. (ns ++ n ∷ []) ++ t) (each_number (items_view (drop (i + 1) values)))
number_more ns n values i d h some = rw (drop_more values i d h, some) (behind_one_more ns n (each_number (items_view (drop (i + 1) values))))
