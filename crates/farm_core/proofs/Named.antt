-- Items that are found by their names.
use Rattle.std.proofs.Common.{ℕ, suc, ◌≡◌, ◌+◌, ◌-◌, ◌<◌, ◌≤◌, List, [], ◌∷◌, ◌++◌, Option, Some, None, Bool, true, false, cond, ◌&&◌, nat_lt, refl, sym, ap, ◌∙◌, subst, arith, length, map, get_or, set, lt-ltb}
use Rattle.std.specs.Prelude.{not}
use Rattle.std.specs.List.{position, position_or_len, AllByRecursion, IsDistinct}
use Rattle.std.specs.Str.{bytes_eq}
use Rattle.std.specs.Option.{option_map, unwrap_or}
use Rattle.std.specs.Cmp.Lexicographic.{nat_list_eq_equiv}
use Rattle.std.proofs.lemmas.Bool.{and_parts}
use Rattle.std.proofs.lemmas.Bool.Decides.{nat_tests}
use Rattle.std.proofs.lemmas.List.{length-map}
use Rattle.std.proofs.lemmas.Slice.Eq.{bytes_eq-Decides}
use Rattle.std.proofs.lemmas.List.Quantifiers.{position-Some}
use Rattle.std.proofs.Math.Seq.{map-set_same}
use Rattle.std.proofs.lemmas.Map.Keys.{IsDistinct-head, IsDistinct-tail}
use Rattle.farm_model.specs.declared.records.Host.{Host}
use Rattle.farm_model.specs.Numbered.{number_where}
use Rattle.farm_model.specs.State.{up_number}
use Rattle.farm_core.proofs.Naming.{past_end}

-- a search among the names goes as far as one among the items
named_len : {X : Type 0} (name_of : X → List ℕ) (name : List ℕ) (xs : List X)
    → position_or_len (λ other. bytes_eq name other) (map name_of xs) ≡ position_or_len (λ x. bytes_eq (name_of x) name) xs
named_len name_of name [] = refl
named_len name_of name (x ∷ xs) =
    ap (λ t. cond (not t) (1 + position_or_len (λ other. bytes_eq name other) (map name_of xs)) 0) (nat_list_eq_equiv.symm name (name_of x))
    ∙ ap (λ n. cond (not (bytes_eq (name_of x) name)) (1 + n) 0) (named_len name_of name xs)

-- a name's place among the names is that of the item that has it
pub named : {X : Type 0} (name_of : X → List ℕ) (name : List ℕ) (xs : List X) (names : List (List ℕ)) → names ≡ map name_of xs
    → position (λ other. bytes_eq name other) names ≡ position (λ x. bytes_eq (name_of x) name) xs
named name_of name xs names e =
    ap (λ ns. position (λ other. bytes_eq name other) ns) e
    ∙ ap (λ i. cond (nat_lt i (length (map name_of xs))) (Some i) None) (named_len name_of name xs)
    ∙ ap (λ n. cond (nat_lt (position_or_len (λ x. bytes_eq (name_of x) name) xs) n) (Some (position_or_len (λ x. bytes_eq (name_of x) name) xs)) None) (length-map xs name_of)

some_same : (a b : ℕ) → Some a ≡ Some b → a ≡ b
some_same a b e = ap (λ o. unwrap_or o a) e

not_below : (n : ℕ) → nat_lt n n ≡ false
not_below n = grind (arith, nat_tests)

same_text : (a b : List ℕ) → bytes_eq a b ≡ true → a ≡ b
same_text a b e = (bytes_eq-Decides a b).0 e

-- Hosts that are up

-- behind a host of the name no other has it
others : (name key : List ℕ) (hosts : List Host) → bytes_eq key name ≡ true → AllByRecursion (λ other. bytes_eq key other ≡ false) (map (λ host. host.name) hosts)
    → position_or_len (λ host. bytes_eq host.name name && host.up) hosts ≡ length hosts
others name key [] e apart = refl
others name key (host ∷ hosts) e apart =
    let other : bytes_eq host.name name ≡ false = nat_list_eq_equiv.symm host.name name ∙ sym (nat_list_eq_equiv.congr key name host.name e) ∙ apart.0 in
    ap (λ t. cond (not (t && host.up)) (1 + position_or_len (λ h. bytes_eq h.name name && h.up) hosts) 0) other
    ∙ omega (arith, others name key hosts e apart.1)

-- where the host of the name stands, if it is up
up_len : (name : List ℕ) (hosts : List Host) (d : Host) → IsDistinct bytes_eq (map (λ host. host.name) hosts)
    → position_or_len (λ host. bytes_eq host.name name) hosts < length hosts
    → position_or_len (λ host. bytes_eq host.name name && host.up) hosts
    ≡ cond (get_or hosts (position_or_len (λ host. bytes_eq host.name name) hosts) d).up (position_or_len (λ host. bytes_eq host.name name) hosts) (length hosts)
up_len name [] d apart lt = absurd (omega arith)
up_len name (host ∷ hosts) d apart lt =
    let named_at : ℕ = position_or_len (λ h. bytes_eq h.name name) hosts in
    let up_at : ℕ = position_or_len (λ h. bytes_eq h.name name && h.up) hosts in
    elim (bytes_eq host.name name) as (λ t. bytes_eq host.name name ≡ t → cond (not t) (1 + named_at) 0 < length (host ∷ hosts)
    → cond (not (t && host.up)) (1 + up_at) 0 ≡ cond (get_or (host ∷ hosts) (cond (not t) (1 + named_at) 0) d).up (cond (not t) (1 + named_at) 0) (length (host ∷ hosts))) [
      | true ↦ λ same within.
          let none : up_at ≡ length hosts = others name host.name hosts same (IsDistinct-head bytes_eq host.name (map (λ h. h.name) hosts) apart) in
          elim host.up as (λ u. cond (not u) (1 + up_at) 0 ≡ cond u 0 (length (host ∷ hosts))) [ true ↦ refl | false ↦ omega (arith, none) ]
      | false ↦ λ same within.
          let rest = up_len name hosts d (IsDistinct-tail bytes_eq host.name (map (λ h. h.name) hosts) apart) (omega arith) in
          let one : 1 + named_at ≡ suc named_at = omega arith in
          let there : get_or (host ∷ hosts) (1 + named_at) d ≡ get_or hosts named_at d = ap (λ i. get_or (host ∷ hosts) i d) one in
          elim (get_or hosts named_at d).up as (λ u. up_at ≡ cond u named_at (length hosts) → 1 + up_at ≡ cond u (1 + named_at) (length (host ∷ hosts))) [
            | true ↦ λ e. omega (arith, e)
            | false ↦ λ e. omega (arith, e)
          ] rest ∙ ap (λ h. cond h.up (1 + named_at) (length (host ∷ hosts))) (sym there)
    ] refl lt

-- a search that found a place
found_at : (place len at : ℕ) → cond (nat_lt place len) (Some place) None ≡ Some at → (place ≡ at) × (place < len)
found_at place len at = elim (nat_lt place len) as (λ t. nat_lt place len ≡ t → cond t (Some place) None ≡ Some at → (place ≡ at) × (place < len)) [
  | true ↦ λ e h. (some_same place at h, grind (arith, nat_tests))
  | false ↦ λ e h. cc
] refl

within_place : (b : Bool) (place len : ℕ) → place < len → cond (nat_lt (cond b place len) len) (Some (cond b place len)) None ≡ cond b (Some place) None
within_place true place len lt = rw (lt-ltb place len lt) refl
within_place false place len lt = rw (not_below len) refl

-- the host of a name is the only one that may be up
up_found : (name : List ℕ) (hosts : List Host) (names : List (List ℕ)) (place : ℕ) (d : Host) → IsDistinct bytes_eq names → names ≡ map (λ host. host.name) hosts
    → position (λ other. bytes_eq name other) names ≡ Some place
    → position (λ host. bytes_eq host.name name && host.up) hosts ≡ cond (get_or hosts place d).up (Some place) None
up_found name hosts names place d apart e found =
    let named_at : ℕ = position_or_len (λ h. bytes_eq h.name name) hosts in
    let at = found_at named_at (length hosts) place (sym (named (λ host. host.name) name hosts names e) ∙ found) in
    ap (λ i. cond (nat_lt i (length hosts)) (Some i) None) (up_len name hosts d (subst (λ (ns : List (List ℕ)). IsDistinct bytes_eq ns) e apart) at.1)
    ∙ within_place (get_or hosts named_at d).up named_at (length hosts) at.1
    ∙ ap (λ i. cond (get_or hosts i d).up (Some i) None) at.0

-- a search for a host that is up goes to the end where no host has the name
no_len : (name : List ℕ) (hosts : List Host) → length hosts ≤ position_or_len (λ host. bytes_eq host.name name) hosts
    → position_or_len (λ host. bytes_eq host.name name && host.up) hosts ≡ length hosts
no_len name [] past = refl
no_len name (host ∷ hosts) past =
    elim (bytes_eq host.name name) as (λ t. length (host ∷ hosts) ≤ cond (not t) (1 + position_or_len (λ h. bytes_eq h.name name) hosts) 0
    → cond (not (t && host.up)) (1 + position_or_len (λ h. bytes_eq h.name name && h.up) hosts) 0 ≡ length (host ∷ hosts)) [
      | true ↦ λ h. absurd (omega arith)
      | false ↦ λ h. omega (arith, no_len name hosts (omega arith))
    ] past

-- no host of a name that is not there is up
pub none_up : (name : List ℕ) (hosts : List Host) (names : List (List ℕ)) → names ≡ map (λ host. host.name) hosts
    → position (λ other. bytes_eq name other) names ≡ None → up_number hosts name ≡ None
none_up name hosts names e none =
    let named_at : ℕ = position_or_len (λ h. bytes_eq h.name name) hosts in
    let past : length hosts ≤ named_at = past_end named_at (length hosts) (sym (named (λ host. host.name) name hosts names e) ∙ none) in
    ap (λ i. option_map (λ n. n + 1) (cond (nat_lt i (length hosts)) (Some i) None)) (no_len name hosts past) ∙ rw (not_below (length hosts)) refl

-- the host of the name, where it is up
pub number_up : (name : List ℕ) (hosts : List Host) (names : List (List ℕ)) (place : ℕ) (host : Host) → IsDistinct bytes_eq names → names ≡ map (λ host. host.name) hosts
    → position (λ other. bytes_eq name other) names ≡ Some place → host ≡ get_or hosts place host → host.up ≡ true → up_number hosts name ≡ Some (place + 1)
number_up name hosts names place host apart e found here up =
    ap (λ o. option_map (λ n. n + 1) o) (up_found name hosts names place host apart e found ∙ ap (λ h. cond h.up (Some place) None) (sym here) ∙ ap (λ u. cond u (Some place) None) up)

-- and where it is down
pub number_down : (name : List ℕ) (hosts : List Host) (names : List (List ℕ)) (place : ℕ) (host : Host) → IsDistinct bytes_eq names → names ≡ map (λ host. host.name) hosts
    → position (λ other. bytes_eq name other) names ≡ Some place → host ≡ get_or hosts place host → host.up ≡ false → up_number hosts name ≡ None
number_down name hosts names place host apart e found here down =
    ap (λ o. option_map (λ n. n + 1) o) (up_found name hosts names place host apart e found ∙ ap (λ h. cond h.up (Some place) None) (sym here) ∙ ap (λ u. cond u (Some place) None) down)

-- Names of items

no_place : (o : Option ℕ) → option_map (λ n. n + 1) o ≡ None → o ≡ None
no_place None e = refl
no_place (Some n) e = cc

-- a name that no item has is not among the names
pub unknown_name : {X : Type 0} (name_of : X → List ℕ) (name : List ℕ) (xs : List X) (names : List (List ℕ)) → names ≡ map name_of xs
    → number_where (λ x. bytes_eq (name_of x) name) xs ≡ None → position (λ other. bytes_eq name other) names ≡ None
unknown_name name_of name xs names e none = named name_of name xs names e ∙ no_place (position (λ x. bytes_eq (name_of x) name) xs) none

map-push : {X : Type 0} (name_of : X → List ℕ) (xs : List X) (x : X) → map name_of (xs ++ x ∷ []) ≡ map name_of xs ++ name_of x ∷ []
map-push name_of [] x = refl
map-push name_of (y ∷ xs) x = ap (λ ns. name_of y ∷ ns) (map-push name_of xs x)

-- one name more, and one item
pub names_more : {X : Type 0} (name_of : X → List ℕ) (xs ys : List X) (x : X) (names new : List (List ℕ)) → names ≡ map name_of xs
    → new ≡ names ++ name_of x ∷ [] → ys ≡ xs ++ x ∷ [] → new ≡ map name_of ys
names_more name_of xs ys x names new e added pushed = added ∙ ap (λ ns. ns ++ name_of x ∷ []) e ∙ sym (map-push name_of xs x) ∙ sym (ap (map name_of) pushed)

-- the names of items of which one was written anew under its name
pub names_kept : {X : Type 0} (name_of : X → List ℕ) (xs : List X) (place : ℕ) (x d : X) → name_of x ≡ name_of (get_or xs place d) → map name_of (set xs place x) ≡ map name_of xs
names_kept name_of xs place x d e = map-set_same name_of xs place x d e

-- the item that a search by name finds has that name
pub name_there : {X : Type 0} (name_of : X → List ℕ) (name : List ℕ) (xs : List X) (place : ℕ) (d : X)
    → position (λ x. bytes_eq (name_of x) name) xs ≡ Some place → name_of (get_or xs place d) ≡ name
name_there name_of name xs place d found = same_text (name_of (get_or xs place d)) name (position-Some (λ x. bytes_eq (name_of x) name) xs place d found).1

some_place : (o : Option ℕ) (number : ℕ) → option_map (λ n. n + 1) o ≡ Some number → o ≡ Some (number - 1)
some_place None number e = cc
some_place (Some n) number e = let at : n ≡ number - 1 = omega (arith, some_same (n + 1) number e) in ap Some at

-- the host that is up under a name has that name
pub up_there : (name : List ℕ) (hosts : List Host) (number : ℕ) (d : Host) → up_number hosts name ≡ Some number → (get_or hosts (number - 1) d).name ≡ name
up_there name hosts number d e =
    let found = position-Some (λ host. bytes_eq host.name name && host.up) hosts (number - 1) d (some_place (position (λ host. bytes_eq host.name name && host.up) hosts) number e) in
    same_text (get_or hosts (number - 1) d).name name (and_parts (bytes_eq (get_or hosts (number - 1) d).name name) (get_or hosts (number - 1) d).up found.1).0
