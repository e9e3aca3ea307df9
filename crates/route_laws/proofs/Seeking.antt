-- A path that rows of a router match is spelled by the pattern of one of them.
use Rattle.std.proofs.Common.{ℕ, zero, suc, ◌≡◌, ◌-◌, ◌<◌, ◌⊎◌, inl, inr, List, [], ◌∷◌, ◌++◌, Option, Some, None, Bool, true, false, cond, ◌&&◌, refl, sym, ap, ◌∙◌, arith, length, take, drop, get_or, eqb, ltb}
use Rattle.std.specs.List.{list_any}
use Rattle.std.proofs.lemmas.Bool.{or_right, and_parts, ltb-true, eqb-true}
use Rattle.std.proofs.lemmas.Bool.Decides.{nat_tests}
use Rattle.std.proofs.lemmas.List.{take-append-drop}
use Rattle.matchit.specs.Rows.{RowsOf, param_token, catch_all_token}
use Rattle.matchit.specs.Seek.{own, step, or_else, seek, param_step, has_slash, segment, better, cuts, longest_from, longest_suffix, with_suffix, same_text, slash}
use Rattle.route_laws.proofs.Spelling.{spelled, AreSlashless}

abbrev is_catch_all : ℕ → Bool
is_catch_all token = eqb token catch_all_token

abbrev pub has_catch_all : List ℕ → Bool
has_catch_all pattern = list_any is_catch_all pattern

module _ {K : Type 0} where
  -- the rows have the pattern with this key
  abbrev pub HasRow : RowsOf K → List ℕ → K → Type 0
  HasRow [] t k = ⊥
  HasRow (row ∷ rows) t k = (row ≡ (t, k)) ⊎ HasRow rows t k

  -- one of the rows, with this key, has a catch-all or spells the path
  pub record Found (rows : RowsOf K) (path : List ℕ) (k : K) : Type 0 where
    pub pattern : List ℕ
    pub there : HasRow rows pattern k
    pub spells : (has_catch_all pattern ≡ true) ⊎ ((values : List (List ℕ)) × AreSlashless values × (path ≡ spelled pattern values))

own_has : {K : Type 0} (rows : RowsOf K) (k : K) → own rows ≡ Some k → HasRow rows [] k
own_has [] k e = let no' : ⊥ = cc in no'
own_has (([], key) ∷ rows) k e = inl (let is : key ≡ k = cc in ap (λ z. ([], z)) is)
own_has ((x ∷ t, key) ∷ rows) k e = inr (own_has rows k e)

step_has : {K : Type 0} (b : ℕ) (rows : RowsOf K) (t : List ℕ) (k : K) → HasRow (step b rows) t k → HasRow rows (b ∷ t) k
step_has b [] t k h = h
step_has b (([], key) ∷ rows) t k h = inr (step_has b rows t k h)
step_has {K} b ((x ∷ s, key) ∷ rows) t k h = by (eqb x b) refl (step_has b rows t k) h
  where
    by : (v : Bool) → eqb x b ≡ v → (HasRow (step b rows) t k → HasRow rows (b ∷ t) k) → HasRow (cond v ((s, key) ∷ step b rows) (step b rows)) t k → HasRow ((x ∷ s, key) ∷ rows) (b ∷ t) k
    by true e more (inl is) = inl (ap (λ (z : ℕ). (z ∷ s, key)) (eqb-true x b e) ∙ ap (λ (row : List ℕ × K). (b ∷ row.0, row.1)) is)
    by true e more (inr there) = inr (more there)
    by false e more there = inr (more there)

suffix_has : {K : Type 0} (suffix : List ℕ) (rows : RowsOf K) (t : List ℕ) (k : K) → HasRow (with_suffix suffix rows) t k → HasRow rows t k
suffix_has suffix [] t k h = h
suffix_has {K} suffix ((s, key) ∷ rows) t k h = by (same_text (segment s) suffix) (suffix_has suffix rows t k) h
  where
    by : (v : Bool) → (HasRow (with_suffix suffix rows) t k → HasRow rows t k) → HasRow (cond v ((s, key) ∷ with_suffix suffix rows) (with_suffix suffix rows)) t k → HasRow ((s, key) ∷ rows) t k
    by true more (inl is) = inl is
    by true more (inr there) = inr (more there)
    by false more there = inr (more there)

-- ---- what a parameter takes has no slash

-- fewer bytes than the segment in front has are without a slash
take_slashless : (n : ℕ) (path : List ℕ) → n < length (segment path) → has_slash (take n path) ≡ false
take_slashless zero path lt = refl
take_slashless (suc n) [] lt = refl
take_slashless (suc n) (b ∷ path) lt = by (eqb b slash) (take_slashless n path) lt
  where
    by : (v : Bool) → (n < length (segment path) → has_slash (take n path) ≡ false) → suc n < length (cond v (b ∷ []) (b ∷ segment path)) → cond v true (has_slash (take n path)) ≡ false
    by true rest lt' = absurd (omega arith)
    by false rest lt' = rest (omega arith)

all_slashless : (n : ℕ) (path : List ℕ) → has_slash path ≡ false → has_slash (take n path) ≡ false
all_slashless zero path e = refl
all_slashless (suc n) [] e = refl
all_slashless (suc n) (b ∷ path) e = by (eqb b slash) (all_slashless n path) e
  where
    by : (v : Bool) → (has_slash path ≡ false → has_slash (take n path) ≡ false) → cond v true (has_slash path) ≡ false → cond v true (has_slash (take n path)) ≡ false
    by true rest e' = e'
    by false rest e' = rest e'

-- a suffix that was found is shorter than the segment
abbrev IsCut : List ℕ → List ℕ → Type 0
IsCut seg suffix = (suffix ≡ []) ⊎ (length suffix < length seg)

better_cut : (seg best suffix : List ℕ) → IsCut seg best → IsCut seg (better seg best suffix)
better_cut seg best suffix h = by (ltb (length best) (length suffix) && cuts seg suffix) refl
  where
    by : (v : Bool) → (ltb (length best) (length suffix) && cuts seg suffix) ≡ v → IsCut seg (cond v suffix best)
    by true e = inr (ltb-true (length suffix) (length seg) ((and_parts _ _ ((and_parts _ _ e).1)).0))
    by false e = h

longest_cut : {K : Type 0} (seg best : List ℕ) (rows : RowsOf K) → IsCut seg best → IsCut seg (longest_from seg best rows)
longest_cut seg best [] h = h
longest_cut seg best ((t, key) ∷ rows) h = longest_cut seg (better seg best (segment t)) rows (better_cut seg best (segment t) h)

-- ---- a walk

-- what a parameter takes of a path has no slash, and the rows that go on are some of them
pub record Takes {K : Type 0} (rows : RowsOf K) (path : List ℕ) (n : ℕ) (more : RowsOf K) : Type 0 where
  pub some : (t : List ℕ) (k : K) → HasRow more t k → HasRow rows t k
  pub positive : (t : List ℕ) (k : K) → HasRow more t k → 0 < n
  pub slashless : (t : List ℕ) (k : K) → HasRow more t k → has_slash (take n path) ≡ false

cut_below : {K : Type 0} (seg : List ℕ) (rows : RowsOf K) → 0 < length (longest_suffix seg rows) → length (longest_suffix seg rows) < length seg
cut_below seg rows some = elim (longest_cut seg [] rows (inl refl)) [
  | inl none ↦ absurd (let z : length (longest_suffix seg rows) ≡ 0 = ap (λ (xs : List ℕ). length xs) none in omega (arith, z, some))
  | inr lt ↦ lt
]

takes_suffix : {K : Type 0} (rows : RowsOf K) (path suffix : List ℕ) → 0 < length suffix → length suffix < length (segment path) → Takes rows path (length (segment path) - length suffix) (with_suffix suffix rows)
takes_suffix rows path suffix some lt = record {
  some = suffix_has suffix rows;
  positive = λ t k h. omega (arith, lt);
  slashless = λ t k h. take_slashless (length (segment path) - length suffix) path (omega (arith, some, lt));
}

takes_none : {K : Type 0} (rows : RowsOf K) (path : List ℕ) → Takes {K = K} rows path 0 []
takes_none rows path = record { some = λ t k h. absurd h; positive = λ t k h. absurd h; slashless = λ t k h. absurd h }

takes_all : {K : Type 0} (rows : RowsOf K) (b : ℕ) (path : List ℕ) → has_slash (b ∷ path) ≡ false → Takes rows (b ∷ path) (length (b ∷ path)) rows
takes_all rows b path e = record {
  some = λ t k h. h;
  positive = λ t k h. omega arith;
  slashless = λ t k h. all_slashless (length (b ∷ path)) (b ∷ path) e;
}

abbrev TakesPair : {K : Type 0} → RowsOf K → List ℕ → ℕ × RowsOf K → Type 0
TakesPair rows path pair = Takes rows path pair.0 pair.1

takes_by : {K : Type 0} (rows : RowsOf K) (b : ℕ) (path suffix : List ℕ) (v : Bool) → ltb 0 (length suffix) ≡ v → (w : Bool) → has_slash (b ∷ path) ≡ w
    → (0 < length suffix → length suffix < length (segment (b ∷ path)))
    → TakesPair rows (b ∷ path) (cond v (length (segment (b ∷ path)) - length suffix, with_suffix suffix rows) (cond w (0, []) (length (b ∷ path), rows)))
takes_by rows b path suffix true e w f lt = takes_suffix rows (b ∷ path) suffix (ltb-true 0 (length suffix) e) (lt (ltb-true 0 (length suffix) e))
takes_by rows b path suffix false e true f lt = takes_none rows (b ∷ path)
takes_by rows b path suffix false e false f lt = takes_all rows b path f

takes : {K : Type 0} (rows : RowsOf K) (b : ℕ) (path : List ℕ) → TakesPair rows (b ∷ path) (param_step rows (b ∷ path))
unfolding param_step
takes rows b path =
    takes_by rows b path (longest_suffix (segment (b ∷ path)) rows) (ltb 0 (length (longest_suffix (segment (b ∷ path)) rows))) refl (has_slash (b ∷ path)) refl
    (cut_below (segment (b ∷ path)) rows)

-- ---- a walk

ends_found : {K : Type 0} (rows : RowsOf K) (k : K) → own rows ≡ Some k → Found rows [] k
ends_found rows k e = record { pattern = []; there = own_has rows k e; spells = inr ([], tt, refl) }

rest_found : {K : Type 0} (rows : RowsOf K) (path : List ℕ) (k : K) → own (step catch_all_token rows) ≡ Some k → Found rows path k
rest_found rows path k e = record {
  pattern = catch_all_token ∷ [];
  there = step_has catch_all_token rows [] k (own_has (step catch_all_token rows) k e);
  spells = inl refl;
}

abbrev pub Spells : List ℕ → List ℕ → Type 0
Spells pattern path = (has_catch_all pattern ≡ true) ⊎ ((values : List (List ℕ)) × AreSlashless values × (path ≡ spelled pattern values))

byte_spells : (b : ℕ) (t path : List ℕ) (v : Bool) → eqb b param_token ≡ v → (values : List (List ℕ)) → AreSlashless values → path ≡ spelled t values
    → (values' : List (List ℕ)) × AreSlashless values' × (b ∷ path ≡ elim v as (λ is. List ℕ) [ true ↦ get_or values' 0 [] ++ spelled t (drop 1 values') | false ↦ b ∷ spelled t values' ])
byte_spells b t path true e values none is =
    let slashless : eqb b slash ≡ false = grind (arith, nat_tests) in
    let alone : cond (eqb b slash) true false ≡ false = ap (λ w. cond w true false) slashless in
    ((b ∷ []) ∷ values, (alone, none), ap (λ (z : List ℕ). b ∷ z) is)
byte_spells b t path false e values none is = (values, none, ap (λ (z : List ℕ). b ∷ z) is)

step_spells : (b : ℕ) (t path : List ℕ) → Spells t path → Spells (b ∷ t) (b ∷ path)
step_spells b t path (inl catch) = inl (or_right (is_catch_all b) (has_catch_all t) catch)
step_spells b t path (inr s) = inr (byte_spells b t path (eqb b param_token) refl s.0 s.1 s.2)

byte_found : {K : Type 0} (rows : RowsOf K) (b : ℕ) (path : List ℕ) (k : K) → Found (step b rows) path k → Found rows (b ∷ path) k
byte_found rows b path k f = record {
  pattern = b ∷ f.pattern;
  there = step_has b rows f.pattern k f.there;
  spells = step_spells b f.pattern path f.spells;
}

drop_more : (b n : ℕ) (path : List ℕ) → 0 < n → drop n (b ∷ path) ≡ drop (n - 1) path
drop_more b zero path lt = absurd (omega arith)
drop_more b (suc n) path lt = let e : suc n - 1 ≡ n = omega arith in rw e refl

param_spells : (b n : ℕ) (t path : List ℕ) → 0 < n → has_slash (take n (b ∷ path)) ≡ false → Spells t (drop (n - 1) path) → Spells (param_token ∷ t) (b ∷ path)
param_spells b n t path some none (inl catch) = inl catch
param_spells b n t path some none (inr s) =
    let whole : take n (b ∷ path) ++ drop n (b ∷ path) ≡ b ∷ path = take-append-drop n (b ∷ path) in
    let rest : drop n (b ∷ path) ≡ spelled t s.0 = drop_more b n path some ∙ s.2 in
    inr (take n (b ∷ path) ∷ s.0, (none, s.1), sym whole ∙ ap (λ (z : List ℕ). take n (b ∷ path) ++ z) rest)

param_found : {K : Type 0} (rows : RowsOf K) (b : ℕ) (path : List ℕ) (k : K) (pair : ℕ × RowsOf K) → TakesPair (step param_token rows) (b ∷ path) pair → Found pair.1 (drop (pair.0 - 1) path) k → Found rows (b ∷ path) k
param_found rows b path k pair h f = record {
  pattern = param_token ∷ f.pattern;
  there = step_has param_token rows f.pattern k (h.some f.pattern k f.there);
  spells = param_spells b pair.0 f.pattern path (h.positive f.pattern k f.there) (h.slashless f.pattern k f.there) f.spells;
}

either : {K : Type 0} (a b : Option K) (k : K) → or_else a b ≡ Some k → (a ≡ Some k) ⊎ (b ≡ Some k)
either None b k e = inr e
either (Some x) b k e = inl e

pub found : {K : Type 0} (skip : ℕ) (rows : RowsOf K) (path : List ℕ) (k : K) → seek skip rows path ≡ Some k → Found rows (drop skip path) k
unfolding seek
found zero rows [] k e = ends_found rows k e
found (suc n) rows [] k e = ends_found rows k e
found (suc n) rows (b ∷ path) k e = found n rows path k e
found zero rows (b ∷ path) k e =
    let pair = param_step (step param_token rows) (b ∷ path) in
    elim (either (seek 0 (step b rows) path) _ k e) [
      | inl here ↦ byte_found rows b path k (found 0 (step b rows) path k here)
      | inr there ↦ elim (either (seek (pair.0 - 1) pair.1 path) _ k there) [
        | inl here ↦ param_found rows b path k pair (takes (step param_token rows) b path) (found (pair.0 - 1) pair.1 path k here)
        | inr last ↦ rest_found rows (b ∷ path) k last
      ]
    ]
