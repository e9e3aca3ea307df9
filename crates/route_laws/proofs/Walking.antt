-- Where a path leads through the rows of a router.
use Rattle.std.proofs.Common.{ℕ, zero, suc, ◌≡◌, ◌≢◌, ◌-◌, ◌≤◌, ◌<◌, List, [], ◌∷◌, ◌++◌, Option, Some, None, Bool, true, false, cond, not, ◌||◌, ◌&&◌, refl, sym, ap, ◌∙◌, arith, length, drop, eqb, ltb, nat_eq}
use Rattle.std.specs.List.{list_all, ends_with}
use Rattle.std.specs.Cmp.Lexicographic.{pointwise}
use Rattle.std.proofs.lemmas.Bool.{and_parts, lt-ltb, eqb-true, ne_eqb}
use Rattle.std.proofs.lemmas.Bool.Decides.{nat_tests}
use Rattle.std.proofs.lemmas.List.{length-append}
use Rattle.std.proofs.Math.Seq.{drop-append_seam, drop-length}
use Rattle.matchit.specs.Rows.{RowsOf, param_token, catch_all_token}
use Rattle.matchit.specs.Seek.{own, step, or_else, seek, param_step, has_slash, segment, better, cuts, longest_from, longest_suffix, with_suffix, slash}
use Rattle.farm_model.specs.Numbers.{is_digit}
use Rattle.route_laws.proofs.Numerals.{IsDigits, digits_slashless}

abbrev pub is_empty : {A : Type 0} → List A → Bool
is_empty [] = true
is_empty (x ∷ xs) = false

empty_is : {A : Type 0} (xs : List A) → is_empty xs ≡ true → xs ≡ []
empty_is [] e = refl
empty_is (x ∷ xs) e = let no' : ⊥ = cc in absurd no'

-- ---- no rows lead nowhere

param_step_none : {K : Type 0} (path : List ℕ) → (param_step {K = K} [] path).1 ≡ []
unfolding param_step
param_step_none {K} path = elim (has_slash path) as (λ v. (cond {A = ℕ × RowsOf K} v (0, []) (length path, [])).1 ≡ []) [ true ↦ refl | false ↦ refl ]

seek_none : {K : Type 0} (n : ℕ) (path : List ℕ) → seek {K = K} n [] path ≡ None
unfolding seek
seek_none n [] = refl
seek_none (suc n) (b ∷ path) = seek_none n path
seek_none {K} zero (b ∷ path) =
    simp (seek_none {K = K} 0 path, param_step_none {K = K} (b ∷ path), seek_none {K = K} (((param_step {K = K} [] (b ∷ path)).0) - 1) path)

seek_drop : {K : Type 0} (n : ℕ) (rows : RowsOf K) (path : List ℕ) → seek n rows path ≡ seek 0 rows (drop n path)
unfolding seek
seek_drop zero rows path = refl
seek_drop (suc n) rows [] = refl
seek_drop (suc n) rows (b ∷ path) = seek_drop n rows path

or_none : {K : Type 0} (a : Option K) → or_else a None ≡ a
or_none None = refl
or_none (Some k) = refl

-- ---- bytes that stand in the patterns

after_param_none : {K : Type 0} (rows : RowsOf K) (path : List ℕ) (n : ℕ) → rows ≡ [] → seek n (param_step rows path).1 (drop 1 path) ≡ None
after_param_none {K} rows path n e =
    ap (λ (rs : RowsOf K). seek n (param_step rs path).1 (drop 1 path)) e
    ∙ (ap (λ (rs : RowsOf K). seek n rs (drop 1 path)) (param_step_none {K = K} path) ∙ seek_none n (drop 1 path))

byte_walk : {K : Type 0} (rows : RowsOf K) (b : ℕ) (path : List ℕ) → step param_token rows ≡ [] → step catch_all_token rows ≡ [] → seek 0 rows (b ∷ path) ≡ seek 0 (step b rows) path
unfolding seek
byte_walk {K} rows b path e f =
    let middle : seek ((param_step (step param_token rows) (b ∷ path)).0 - 1) (param_step (step param_token rows) (b ∷ path)).1 path ≡ None
    = after_param_none (step param_token rows) (b ∷ path) ((param_step (step param_token rows) (b ∷ path)).0 - 1) e in
    let last : own (step catch_all_token rows) ≡ None = ap (λ (rs : RowsOf K). own rs) f in
    ap (λ (o : Option K). or_else (seek 0 (step b rows) path) (or_else o (own (step catch_all_token rows)))) middle
    ∙ (ap (λ (o : Option K). or_else (seek 0 (step b rows) path) o) last ∙ or_none (seek 0 (step b rows) path))

-- the rows behind these bytes
abbrev pub walked : {K : Type 0} → List ℕ → RowsOf K → RowsOf K
walked [] rows = rows
walked (b ∷ bytes) rows = walked bytes (step b rows)

-- on the way no row has a parameter or a catch-all
abbrev pub is_plain : {K : Type 0} → List ℕ → RowsOf K → Bool
is_plain [] rows = true
is_plain (b ∷ bytes) rows = is_empty (step param_token rows) && (is_empty (step catch_all_token rows) && is_plain bytes (step b rows))

pub walk : {K : Type 0} (prefix : List ℕ) (rows : RowsOf K) (path : List ℕ) → is_plain prefix rows ≡ true → seek 0 rows (prefix ++ path) ≡ seek 0 (walked prefix rows) path
walk [] rows path e = refl
walk (b ∷ prefix) rows path e =
    let parts = and_parts (is_empty (step param_token rows)) _ e in
    let rest = and_parts (is_empty (step catch_all_token rows)) _ parts.1 in
    byte_walk rows b (prefix ++ path) (empty_is _ parts.0) (empty_is _ rest.0) ∙ walk prefix (step b rows) path rest.1

-- ---- a number where the patterns have a parameter

-- each row goes on with a parameter
abbrev pub begins_param : List ℕ → Bool
begins_param [] = false
begins_param (token ∷ tokens) = eqb token param_token

abbrev pub all_params : {K : Type 0} → RowsOf K → Bool
all_params rows = list_all (λ row. begins_param row.0) rows

step_other : {K : Type 0} (b : ℕ) (rows : RowsOf K) → b ≢ param_token → all_params rows ≡ true → step b rows ≡ []
step_other b [] ne e = refl
step_other b (([], key) ∷ rows) ne e = let no' : ⊥ = cc in absurd no'
step_other {K} b ((x ∷ t, key) ∷ rows) ne e =
    let parts = and_parts (eqb x param_token) (all_params rows) e in
    let is : x ≡ param_token = eqb-true x param_token parts.0 in
    let miss : eqb x b ≡ false = ne_eqb x b (λ same. ne (sym same ∙ is)) in
    rw miss (step_other b rows ne parts.1)

-- what stands behind the parameter is a slash with more, or nothing
abbrev pub is_plain_end : List ℕ → Bool
is_plain_end [] = true
is_plain_end (token ∷ tokens) = eqb token slash

abbrev pub plain_ends : {K : Type 0} → RowsOf K → Bool
plain_ends rows = list_all (λ row. is_plain_end row.0) rows

abbrev pub one_slash : List ℕ
one_slash = slash ∷ []

slash_in_front : (t : List ℕ) → segment (slash ∷ t) ≡ one_slash
slash_in_front t = refl

stays : {K : Type 0} (seg : List ℕ) (rows : RowsOf K) → plain_ends rows ≡ true → longest_from seg one_slash rows ≡ one_slash
stays seg [] e = refl
stays seg (([], key) ∷ rows) e = stays seg rows e
stays {K} seg ((x ∷ t, key) ∷ rows) e =
    let parts = and_parts (eqb x slash) (plain_ends rows) e in
    let is : x ≡ slash = eqb-true x slash parts.0 in
    ap (λ (z : ℕ). longest_from seg (better seg one_slash (segment (z ∷ t))) rows) is ∙ stays seg rows parts.1

none_cut : {K : Type 0} (seg : List ℕ) (rows : RowsOf K) → cuts seg one_slash ≡ false → plain_ends rows ≡ true → longest_from seg [] rows ≡ []
none_cut seg [] c e = refl
none_cut seg (([], key) ∷ rows) c e = none_cut seg rows c e
none_cut {K} seg ((x ∷ t, key) ∷ rows) c e =
    let parts = and_parts (eqb x slash) (plain_ends rows) e in
    let is : x ≡ slash = eqb-true x slash parts.0 in
    ap (λ (z : ℕ). longest_from seg (better seg [] (segment (z ∷ t))) rows) is
    ∙ (ap (λ (v : Bool). longest_from seg (cond v one_slash []) rows) c ∙ none_cut seg rows c parts.1)

-- some row goes on behind the parameter
abbrev pub goes_on : {K : Type 0} → RowsOf K → Bool
goes_on [] = false
goes_on ((t, key) ∷ rows) = not (is_empty t) || goes_on rows

slash_cut : {K : Type 0} (seg : List ℕ) (rows : RowsOf K) → cuts seg one_slash ≡ true → plain_ends rows ≡ true → goes_on rows ≡ true → longest_from seg [] rows ≡ one_slash
slash_cut seg [] c e g = let no' : ⊥ = cc in absurd no'
slash_cut seg (([], key) ∷ rows) c e g = slash_cut seg rows c e g
slash_cut {K} seg ((x ∷ t, key) ∷ rows) c e g =
    let parts = and_parts (eqb x slash) (plain_ends rows) e in
    let is : x ≡ slash = eqb-true x slash parts.0 in
    ap (λ (z : ℕ). longest_from seg (better seg [] (segment (z ∷ t))) rows) is
    ∙ (ap (λ (v : Bool). longest_from seg (cond v one_slash []) rows) c ∙ stays seg rows parts.1)

-- the segment of a number with a slash behind it
segment_of : (v more : List ℕ) → has_slash v ≡ false → segment (v ++ slash ∷ more) ≡ v ++ one_slash
segment_of [] more e = refl
segment_of (b ∷ v) more e = by (eqb b slash) e (segment_of v more)
  where
    by : (t : Bool) → cond t true (has_slash v) ≡ false → (has_slash v ≡ false → segment (v ++ slash ∷ more) ≡ v ++ one_slash) → cond t (b ∷ []) (b ∷ segment (v ++ slash ∷ more)) ≡ b ∷ (v ++ one_slash)
    by true f h = let no' : ⊥ = cc in absurd no'
    by false f h = ap (λ (z : List ℕ). b ∷ z) (h f)

segment_alone : (v : List ℕ) → has_slash v ≡ false → segment v ≡ v
segment_alone [] e = refl
segment_alone (b ∷ v) e = by (eqb b slash) e (segment_alone v)
  where
    by : (t : Bool) → cond t true (has_slash v) ≡ false → (has_slash v ≡ false → segment v ≡ v) → cond t (b ∷ []) (b ∷ segment v) ≡ b ∷ v
    by true f h = let no' : ⊥ = cc in absurd no'
    by false f h = ap (λ (z : List ℕ). b ∷ z) (h f)

one_more : (v : List ℕ) → length (v ++ one_slash) - 1 ≡ length v
one_more v = omega (arith, length-append v one_slash)

is_cut : (v : List ℕ) → 0 < length v → cuts (v ++ one_slash) one_slash ≡ true
is_cut v some =
    let long : ltb 1 (length (v ++ one_slash)) ≡ true = lt-ltb 1 (length (v ++ one_slash)) (omega (arith, length-append v one_slash, some)) in
    let end : pointwise nat_eq one_slash (drop (length (v ++ one_slash) - 1) (v ++ one_slash)) ≡ true
    = ap (λ (n : ℕ). pointwise nat_eq one_slash (drop n (v ++ one_slash))) (one_more v) ∙ ap (λ (z : List ℕ). pointwise nat_eq one_slash z) (drop-append_seam v one_slash) in
    ap (λ (t : Bool). t && ends_with nat_eq (v ++ one_slash) one_slash) long ∙ end

last_digit : (d : ℕ) (ds : List ℕ) → list_all is_digit (d ∷ ds) ≡ true → pointwise nat_eq one_slash (drop (length ds) (d ∷ ds)) ≡ false
last_digit d [] e =
    let parts = and_parts (is_digit d) true e in
    let ne : nat_eq slash d ≡ false = grind (arith, nat_tests) in
    ap (λ (t : Bool). t && true) ne
last_digit d (x ∷ ds) e = last_digit x ds ((and_parts (is_digit d) (list_all is_digit (x ∷ ds)) e).1)

no_cut : (d : ℕ) (ds : List ℕ) → list_all is_digit (d ∷ ds) ≡ true → cuts (d ∷ ds) one_slash ≡ false
no_cut d ds e =
    let n : length (d ∷ ds) - 1 ≡ length ds = omega arith in
    let end : ends_with nat_eq (d ∷ ds) one_slash ≡ false = ap (λ (m : ℕ). pointwise nat_eq one_slash (drop m (d ∷ ds))) n ∙ last_digit d ds e in
    grind arith

digit_is_no_token : (d : ℕ) → is_digit d ≡ true → d ≢ param_token
digit_is_no_token d e same = let small : d ≤ 57 = grind (arith, nat_tests) in omega (arith, small, same)

-- what a number leads to by a parameter
by_param : {K : Type 0} (rows : RowsOf K) (d : ℕ) (ds path : List ℕ) (pair : ℕ × RowsOf K) → all_params rows ≡ true → is_digit d ≡ true → param_step (step param_token rows) (d ∷ path) ≡ pair
    → seek 0 rows (d ∷ path) ≡ seek 0 pair.1 (drop (pair.0 - 1) path)
unfolding seek
by_param {K} rows d ds path pair all digit is =
    let first' : seek 0 (step d rows) path ≡ None = ap (λ (rs : RowsOf K). seek 0 rs path) (step_other d rows (digit_is_no_token d digit) all) ∙ seek_none {K = K} 0 path in
    let last : own (step catch_all_token rows) ≡ None = ap (λ (rs : RowsOf K). own rs) (step_other catch_all_token rows (λ e. omega arith) all) in
    let here = param_step (step param_token rows) (d ∷ path) in
    ap (λ (o : Option K). or_else o (or_else (seek (here.0 - 1) here.1 path) (own (step catch_all_token rows)))) first'
    ∙ (ap (λ (o : Option K). or_else (seek (here.0 - 1) here.1 path) o) last
    ∙ (or_none (seek (here.0 - 1) here.1 path) ∙ (ap (λ (p : ℕ × RowsOf K). seek (p.0 - 1) p.1 path) is ∙ seek_drop (pair.0 - 1) pair.1 path)))

step_with_slash : {K : Type 0} (rows : RowsOf K) (v more : List ℕ) → IsDigits v → plain_ends rows ≡ true → goes_on rows ≡ true
    → param_step rows (v ++ slash ∷ more) ≡ (length v, with_suffix one_slash rows)
unfolding param_step
step_with_slash {K} rows v more is plain on =
    let none' : has_slash v ≡ false = digits_slashless v is.digits in
    let seg : segment (v ++ slash ∷ more) ≡ v ++ one_slash = segment_of v more none' in
    let suffix : longest_suffix (segment (v ++ slash ∷ more)) rows ≡ one_slash
    = ap (λ (s : List ℕ). longest_suffix s rows) seg ∙ slash_cut (v ++ one_slash) rows (is_cut v is.some) plain on in
    ap (λ (s : List ℕ). cond {A = ℕ × RowsOf K} (ltb 0 (length s)) (length (segment (v ++ slash ∷ more)) - length s, with_suffix s rows) (cond (has_slash (v ++ slash ∷ more)) (0, []) (length (v ++ slash ∷ more), rows))) suffix
    ∙ ap (λ (n : ℕ). (n, with_suffix one_slash rows)) (ap (λ (s : List ℕ). length s - 1) seg ∙ one_more v)

step_alone : {K : Type 0} (rows : RowsOf K) (d : ℕ) (ds : List ℕ) → IsDigits (d ∷ ds) → plain_ends rows ≡ true → param_step rows (d ∷ ds) ≡ (length (d ∷ ds), rows)
unfolding param_step
step_alone {K} rows d ds is plain =
    let none' : has_slash (d ∷ ds) ≡ false = digits_slashless (d ∷ ds) is.digits in
    let seg : segment (d ∷ ds) ≡ d ∷ ds = segment_alone (d ∷ ds) none' in
    let suffix : longest_suffix (segment (d ∷ ds)) rows ≡ []
    = ap (λ (s : List ℕ). longest_suffix s rows) seg ∙ none_cut (d ∷ ds) rows (no_cut d ds is.digits) plain in
    ap (λ (s : List ℕ). cond {A = ℕ × RowsOf K} (ltb 0 (length s)) (length (segment (d ∷ ds)) - length s, with_suffix s rows) (cond (has_slash (d ∷ ds)) (0, []) (length (d ∷ ds), rows))) suffix
    ∙ ap (λ (t : Bool). cond {A = ℕ × RowsOf K} t (0, []) (length (d ∷ ds), rows)) none'

-- the rows in which a number and a slash come next
pub record TakesNumber {K : Type 0} (rows : RowsOf K) : Type 0 where
  pub params : all_params rows ≡ true
  pub plain : plain_ends (step param_token rows) ≡ true

pub number_between : {K : Type 0} (rows : RowsOf K) (v more : List ℕ) → IsDigits v → TakesNumber rows → goes_on (step param_token rows) ≡ true
    → seek 0 rows (v ++ slash ∷ more) ≡ seek 0 (with_suffix one_slash (step param_token rows)) (slash ∷ more)
number_between rows [] more is h on = let some = is.some in absurd (omega arith)
number_between {K} rows (d ∷ ds) more is h on =
    let digit : is_digit d ≡ true = (and_parts (is_digit d) (list_all is_digit ds) is.digits).0 in
    let n : length (d ∷ ds) - 1 ≡ length ds = omega arith in
    by_param rows d ds (ds ++ slash ∷ more) (length (d ∷ ds), with_suffix one_slash (step param_token rows)) h.params digit (step_with_slash (step param_token rows) (d ∷ ds) more is h.plain on)
    ∙ (ap (λ (m : ℕ). seek 0 (with_suffix one_slash (step param_token rows)) (drop m (ds ++ slash ∷ more))) n
    ∙ ap (λ (p : List ℕ). seek 0 (with_suffix one_slash (step param_token rows)) p) (drop-append_seam ds (slash ∷ more)))

pub number_at_end : {K : Type 0} (rows : RowsOf K) (v : List ℕ) → IsDigits v → TakesNumber rows → seek 0 rows v ≡ own (step param_token rows)
unfolding seek
number_at_end rows [] is h = let some = is.some in absurd (omega arith)
number_at_end {K} rows (d ∷ ds) is h =
    let digit : is_digit d ≡ true = (and_parts (is_digit d) (list_all is_digit ds) is.digits).0 in
    let n : length (d ∷ ds) - 1 ≡ length ds = omega arith in
    by_param rows d ds ds (length (d ∷ ds), step param_token rows) h.params digit (step_alone (step param_token rows) d ds is h.plain)
    ∙ (ap (λ (m : ℕ). seek 0 (step param_token rows) (drop m ds)) n ∙ ap (λ (p : List ℕ). seek 0 (step param_token rows) p) (drop-length ds))
