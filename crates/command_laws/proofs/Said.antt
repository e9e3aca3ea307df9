-- Rows that say the same.
use Rattle.std.proofs.Common.{ℕ, ◌≡◌, inl, inr, List, [], ◌∷◌, ◌++◌, Option, Some, None, Bool, true, false, cond, ◌||◌, refl, sym, ap, ◌∙◌, subst, map, find, fold, Contains}
use Rattle.std.specs.Prelude.{slice_get, is_some, ⊤, ◌↔◌}
use Rattle.std.specs.Option.{option_and_then, option_map_or, option_or}
use Rattle.std.specs.Str.{bytes_eq}
use Rattle.std.proofs.lemmas.Slice.Eq.{bytes_eq-Decides}
use Rattle.std.proofs.lemmas.List.Folds.{find-append, list_any-append}
use Rattle.clap.specs.declared.builder.value_parser.Reading.{Reading}
use Rattle.clap.specs.declared.parser.matches.ValueSource.{ValueSource}
use Rattle.clap.specs.declared.parser.matches.ValueSource.TheVariants.{DefaultValue, CommandLine}
use Rattle.clap.specs.Facts.{explicit_source}
use Rattle.clap.specs.Takes.{is_given}
use Rattle.clap.specs.Walk.{Row, Rule, at_row, without, with_values, more_values, has_row, first_of, with_default, default_rows, reading_by}
use Rattle.package_folder.proofs.Members.{first_in, later_in, first_or_later, none_in, in_map}

abbrev pub Pair : Type 0
Pair = List ℕ × List ℕ

abbrev pub lookup : List ℕ → List Pair → Option (List ℕ)
lookup id [] = None
lookup id (m ∷ said) = cond (bytes_eq m.0 id) (Some m.1) (lookup id said)

-- the rows say this
pub record Has (rows : List Row) (said : List Pair) : Type 0 where
  pub first : (id : List ℕ) → first_of id rows ≡ lookup id said
  pub given : (id : List ℕ) → is_given id rows ≡ is_some (lookup id said)
  pub row : (id : List ℕ) → has_row id rows ≡ is_some (lookup id said)

pub has_none : Has [] []
has_none = record { first = λ id. refl; given = λ id. refl; row = λ id. refl }

abbrev pub row_with : List ℕ → Reading → ValueSource → List (List ℕ) → Row
row_with id how source values = record { id = id; values = values; count = None; source = Some source; reading = how }

-- ---- a row more

found_or : (id : List ℕ) (rows : List Row) → is_some (find (λ r. bytes_eq r.id id) rows) ≡ has_row id rows
found_or id [] = refl
found_or id (r ∷ rows) = elim (bytes_eq r.id id) as (λ t. is_some (cond t (Some r) (find (λ x. bytes_eq x.id id) rows)) ≡ (t || has_row id rows)) [ true ↦ refl | false ↦ found_or id rows ]

by_found : {A : Type 0} (f : Option Row → A) (id : List ℕ) (rows more : List Row) (t : Bool) → has_row id rows ≡ t
    → f (find (λ r. bytes_eq r.id id) (rows ++ more)) ≡ cond t (f (find (λ r. bytes_eq r.id id) rows)) (f (find (λ r. bytes_eq r.id id) more))
by_found {A} f id rows more t e =
    ap f (find-append (λ (r : Row). bytes_eq r.id id) rows more) ∙ by (find (λ r. bytes_eq r.id id) rows) (found_or id rows ∙ e)
  where
    by : (o : Option Row) → is_some o ≡ t → f (option_or o (find (λ r. bytes_eq r.id id) more)) ≡ cond t (f o) (f (find (λ r. bytes_eq r.id id) more))
    by None g = ap (λ (x : Bool). cond x (f None) (f (find (λ r. bytes_eq r.id id) more))) g
    by (Some r) g = ap (λ (x : Bool). cond x (f (Some r)) (f (find (λ r. bytes_eq r.id id) more))) g

abbrev first_in_row : Option Row → Option (List ℕ)
first_in_row o = option_and_then (λ r. slice_get r.values 0) o

abbrev given_row : Option Row → Bool
given_row o = option_map_or (λ r. explicit_source r.source) o false

pub first_append : (id : List ℕ) (rows more : List Row) → first_of id (rows ++ more) ≡ cond (has_row id rows) (first_of id rows) (first_of id more)
first_append id rows more = by_found first_in_row id rows more (has_row id rows) refl

pub given_append : (id : List ℕ) (rows more : List Row) → is_given id (rows ++ more) ≡ cond (has_row id rows) (is_given id rows) (is_given id more)
given_append id rows more = by_found given_row id rows more (has_row id rows) refl

pub row_append : (id : List ℕ) (rows more : List Row) → has_row id (rows ++ more) ≡ (has_row id rows || has_row id more)
row_append id rows more = list_any-append (λ (r : Row). bytes_eq r.id id) rows more

lookup_push : (id : List ℕ) (said : List Pair) (m : Pair) → lookup id (said ++ m ∷ []) ≡ cond (is_some (lookup id said)) (lookup id said) (lookup id (m ∷ []))
lookup_push id [] m = refl
lookup_push id (x ∷ said) m = elim (bytes_eq x.0 id) as (λ t. cond t (Some x.1) (lookup id (said ++ m ∷ [])) ≡ cond (is_some (cond t (Some x.1) (lookup id said))) (cond t (Some x.1) (lookup id said)) (lookup id (m ∷ []))) [
  | true ↦ refl
  | false ↦ lookup_push id said m
]

some_push : (o p : Option (List ℕ)) → is_some (cond (is_some o) o p) ≡ (is_some o || is_some p)
some_push None p = refl
some_push (Some x) p = refl

has_one : (name value : List ℕ) (how : Reading) → Has (row_with name how CommandLine (value ∷ []) ∷ []) ((name, value) ∷ [])
has_one name value how = record {
  first = λ id. elim (bytes_eq name id) as (λ t. first_in_row (cond t (Some (row_with name how CommandLine (value ∷ []))) None) ≡ cond t (Some value) None) [ true ↦ refl | false ↦ refl ];
  given = λ id. elim (bytes_eq name id) as (λ t. given_row (cond t (Some (row_with name how CommandLine (value ∷ []))) None) ≡ is_some (cond t (Some value) None)) [ true ↦ refl | false ↦ refl ];
  row = λ id. elim (bytes_eq name id) as (λ t. (t || false) ≡ is_some (cond t (Some value) None)) [ true ↦ refl | false ↦ refl ];
}

pub has_push : (rows : List Row) (said : List Pair) (name value : List ℕ) (how : Reading) → Has rows said → Has (rows ++ row_with name how CommandLine (value ∷ []) ∷ []) (said ++ (name, value) ∷ [])
has_push rows said name value how h =
    let more = row_with name how CommandLine (value ∷ []) ∷ [] in
    let one = has_one name value how in
    record {
      first = λ id.
          first_append id rows more
          ∙ (ap (λ (t : Bool). cond t (first_of id rows) (first_of id more)) (h.row id)
          ∙ (ap (λ (o : Option (List ℕ)). cond (is_some (lookup id said)) o (first_of id more)) (h.first id)
          ∙ (ap (λ (o : Option (List ℕ)). cond (is_some (lookup id said)) (lookup id said) o) (one.first id) ∙ sym (lookup_push id said (name, value)))));
      given = λ id.
          given_append id rows more
          ∙ (ap (λ (t : Bool). cond t (is_given id rows) (is_given id more)) (h.row id)
          ∙ (ap (λ (b : Bool). cond (is_some (lookup id said)) b (is_given id more)) (h.given id)
          ∙ (ap (λ (b : Bool). cond (is_some (lookup id said)) (is_some (lookup id said)) b) (one.given id)
          ∙ (either (lookup id said) (lookup id ((name, value) ∷ [])) ∙ ap (λ (o : Option (List ℕ)). is_some o) (sym (lookup_push id said (name, value)))))));
      row = λ id.
          row_append id rows more
          ∙ (ap (λ (b : Bool). b || has_row id more) (h.row id)
          ∙ (ap (λ (b : Bool). is_some (lookup id said) || b) (one.row id)
          ∙ (sym (some_push (lookup id said) (lookup id ((name, value) ∷ []))) ∙ ap (λ (o : Option (List ℕ)). is_some o) (sym (lookup_push id said (name, value))))));
    }
  where
    either : (o p : Option (List ℕ)) → cond (is_some o) (is_some o) (is_some p) ≡ is_some (cond (is_some o) o p)
    either None p = refl
    either (Some x) p = refl

-- ---- a name that no row has yet

pub at_none : (id : List ℕ) (change : Row → List Row) (missing rows : List Row) → has_row id rows ≡ false → at_row id change missing rows ≡ rows ++ missing
at_none id change missing [] e = refl
at_none id change missing (r ∷ rows) e = by (bytes_eq r.id id) e (at_none id change missing rows)
  where
    by : (t : Bool) → (t || has_row id rows) ≡ false → (has_row id rows ≡ false → at_row id change missing rows ≡ rows ++ missing) → cond t (change r ++ rows) (r ∷ at_row id change missing rows) ≡ r ∷ (rows ++ missing)
    by true f rest = let no' : ⊥ = cc in absurd no'
    by false f rest = ap (λ (z : List Row). r ∷ z) (rest f)

nothing_more : (rows : List Row) → rows ++ [] ≡ rows
nothing_more [] = refl
nothing_more (r ∷ rows) = ap (λ (z : List Row). r ∷ z) (nothing_more rows)

pub added_row : (id : List ℕ) (how : Reading) (source : ValueSource) (values : List (List ℕ)) (rows : List Row) → has_row id rows ≡ false → with_values id how source values rows ≡ rows ++ row_with id how source values ∷ []
added_row id how source values rows e = at_none id (more_values source values) (row_with id how source values ∷ []) rows e

pub used_row : (id : List ℕ) (how : Reading) (values : List (List ℕ)) (rows : List Row) → has_row id rows ≡ false → with_values id how CommandLine values (without id rows) ≡ rows ++ row_with id how CommandLine values ∷ []
used_row id how values rows e =
    ap (λ (z : List Row). with_values id how CommandLine values z) (at_none id (λ r. []) [] rows e ∙ nothing_more rows) ∙ added_row id how CommandLine values rows e

-- ---- what is said, in another order

abbrev pub AreNamedOnce : List Pair → Type 0
AreNamedOnce [] = ⊤
AreNamedOnce (m ∷ said) = (¬ Contains (map (λ x. x.0) said) m.0) × AreNamedOnce said

pub lookup_there : (id value : List ℕ) (said : List Pair) → lookup id said ≡ Some value → Contains said (id, value)
lookup_there id value [] e = let no' : ⊥ = cc in absurd no'
lookup_there id value (m ∷ said) e = by (bytes_eq m.0 id) refl e (lookup_there id value said)
  where
    by : (t : Bool) → bytes_eq m.0 id ≡ t → cond t (Some m.1) (lookup id said) ≡ Some value → (lookup id said ≡ Some value → Contains said (id, value)) → Contains (m ∷ said) (id, value)
    by true f g rest =
        let name : m.0 ≡ id = (bytes_eq-Decides m.0 id).0 f in
        let text : m.1 ≡ value = cc in
        subst (λ (x : Pair). Contains (m ∷ said) x) (ap (λ (n : List ℕ). (n, m.1)) name ∙ ap (λ (v : List ℕ). (id, v)) text) (first_in m said)
    by false f g rest = later_in m (id, value) said (rest g)

pub there_lookup : (id value : List ℕ) (said : List Pair) → AreNamedOnce said → Contains said (id, value) → lookup id said ≡ Some value
there_lookup id value [] once h = absurd (none_in (id, value) h)
there_lookup id value (m ∷ said) once h = by (bytes_eq m.0 id) refl (there_lookup id value said once.1)
  where
    by : (t : Bool) → bytes_eq m.0 id ≡ t → (Contains said (id, value) → lookup id said ≡ Some value) → cond t (Some m.1) (lookup id said) ≡ Some value
    by true f rest = elim (first_or_later m (id, value) said h) [
      | inl same ↦ ap (λ (x : Pair). Some x.1) same
      | inr later ↦
          let name : m.0 ≡ id = (bytes_eq-Decides m.0 id).0 f in
          absurd (once.0 (subst (λ (n : List ℕ). Contains (map (λ x. x.0) said) n) (sym name) (in_map (λ (x : Pair). x.0) (id, value) said later)))
    ]
    by false f rest = elim (first_or_later m (id, value) said h) [
      | inl same ↦ let bad : false ≡ true = sym f ∙ (bytes_eq-Decides m.0 id).1 (ap (λ (x : Pair). x.0) same) in let no' : ⊥ = cc in absurd no'
      | inr later ↦ rest later
    ]

pub same_lookup : (said other : List Pair) → AreNamedOnce said → AreNamedOnce other → ((m : Pair) → Contains said m ↔ Contains other m) → (id : List ℕ) → lookup id said ≡ lookup id other
same_lookup said other once once' same id = by (lookup id said) (lookup id other) refl refl
  where
    by : (o p : Option (List ℕ)) → lookup id said ≡ o → lookup id other ≡ p → o ≡ p
    by None None e f = refl
    by None (Some v) e f = let g : lookup id said ≡ Some v = there_lookup id v said once ((same (id, v)).1 (lookup_there id v other f)) in sym e ∙ g
    by (Some v) p e f = sym (there_lookup id v other once' ((same (id, v)).0 (lookup_there id v said e))) ∙ f

pub record Same (rows other : List Row) : Type 0 where
  pub first : (id : List ℕ) → first_of id rows ≡ first_of id other
  pub given : (id : List ℕ) → is_given id rows ≡ is_given id other
  pub row : (id : List ℕ) → has_row id rows ≡ has_row id other

pub same_said : (rows other : List Row) (said said' : List Pair) → Has rows said → Has other said' → ((id : List ℕ) → lookup id said ≡ lookup id said') → Same rows other
same_said rows other said said' h k same = record {
  first = λ id. h.first id ∙ (same id ∙ sym (k.first id));
  given = λ id. h.given id ∙ (ap (λ (o : Option (List ℕ)). is_some o) (same id) ∙ sym (k.given id));
  row = λ id. h.row id ∙ (ap (λ (o : Option (List ℕ)). is_some o) (same id) ∙ sym (k.row id));
}

same_append : (rows other more : List Row) → Same rows other → Same (rows ++ more) (other ++ more)
same_append rows other more h = record {
  first = λ id. first_append id rows more ∙ (ap (λ (t : Bool). cond t (first_of id rows) (first_of id more)) (h.row id) ∙ (ap (λ (o : Option (List ℕ)). cond (has_row id other) o (first_of id more)) (h.first id) ∙ sym (first_append id other more)));
  given = λ id. given_append id rows more ∙ (ap (λ (t : Bool). cond t (is_given id rows) (is_given id more)) (h.row id) ∙ (ap (λ (b : Bool). cond (has_row id other) b (is_given id more)) (h.given id) ∙ sym (given_append id other more)));
  row = λ id. row_append id rows more ∙ (ap (λ (b : Bool). b || has_row id more) (h.row id) ∙ sym (row_append id other more));
}

same_default : (rows other : List Row) (a : Rule) → Same rows other → Same (with_default rows a) (with_default other a)
same_default rows other a h = by (has_row a.id rows) refl (has_row a.id other) refl a.defaults
  where
    by : (t : Bool) → has_row a.id rows ≡ t → (u : Bool) → has_row a.id other ≡ u → (values : List (List ℕ))
        → Same (cond t rows (default_rows a.id (reading_by a) values rows)) (cond u other (default_rows a.id (reading_by a) values other))
    by true e true f values = h
    by true e false f values = let bad : true ≡ false = sym e ∙ (h.row a.id ∙ f) in let no' : ⊥ = cc in absurd no'
    by false e true f values = let bad : false ≡ true = sym e ∙ (h.row a.id ∙ f) in let no' : ⊥ = cc in absurd no'
    by false e false f [] = h
    by false e false f (v ∷ values) =
        let row = row_with a.id (reading_by a) DefaultValue (v ∷ values) ∷ [] in
        subst (λ (z : List Row). Same z (with_values a.id (reading_by a) DefaultValue (v ∷ values) other)) (sym (added_row a.id (reading_by a) DefaultValue (v ∷ values) rows e))
        (subst (λ (z : List Row). Same (rows ++ row) z) (sym (added_row a.id (reading_by a) DefaultValue (v ∷ values) other f)) (same_append rows other row h))

pub same_defaults : (rules : List Rule) (rows other : List Row) → Same rows other → Same (fold with_default rows rules) (fold with_default other rules)
same_defaults [] rows other h = h
same_defaults (a ∷ rules) rows other h = same_defaults rules (with_default rows a) (with_default other a) (same_default rows other a h)
