-- Lines that give an event.
use Rattle.std.proofs.Common.{ℕ, ◌≡◌, List, [], ◌∷◌, Option, Some, None, true, false, cond, refl, sym, ap, ◌∙◌, subst}
use Rattle.std.specs.Prelude.{codes}
use Rattle.std.specs.Str.{bytes_eq}
use Rattle.std.specs.Option.{option_map, option_or, is_some}
use Rattle.farm_kinds.specs.declared.events.Event.{Event}
use Rattle.farm_kinds.specs.declared.events.Event.TheVariants as event
use Rattle.std.proofs.lemmas.Slice.Eq.{bytes_eq-Decides}
use Rattle.farm_kinds.specs.declared.kinds.Kind.{Kind}
use Rattle.farm_kinds.specs.Kinds.{kind_named}
use Rattle.farm_kinds.specs.Names.{name_read, jury}
use Rattle.farm_model.specs.Numbers.{number_of}
use Rattle.farm_model.specs.Words.{words}
use Rattle.farm_model.specs.Grammar.{◌>>=◌, name_line, number_line, record_line, renew_line, result_line, problem_line, replace_line, jury_event_of, host_event_of, other_event_of, unnamed_event_of, event_or_bad, read_of_words, line_read}
use Rattle.command_text.specs.Alone.{name_alone, number_alone, kind_alone}
use Rattle.command_text.specs.Fronts.{with_rest, first_name, first_number}
use Rattle.command_text.specs.declared.lines.Recorded.{Recorded}
use Rattle.command_text.specs.Recorded.{recorded_of, entry_of}

of_read : {A : Type 0} (e : A → Event) (read : Option A) → (read >>= (λ x. Some (e x))) ≡ option_map e read
of_read e None = refl
of_read e (Some x) = refl

-- a line of one name
pub name_line_by : (e : List ℕ → Event) (ws : List (List ℕ)) → name_line e ws ≡ option_map e (name_alone ws)
name_line_by e [] = refl
name_line_by e (name ∷ []) = of_read e (name_read name)
name_line_by e (name ∷ more ∷ ws) = refl

-- a line of one number
pub number_line_by : (e : ℕ → Event) (ws : List (List ℕ)) → number_line e ws ≡ option_map e (number_alone ws)
number_line_by e [] = refl
number_line_by e (number ∷ []) = of_read e (number_of number)
number_line_by e (number ∷ more ∷ ws) = refl

-- Each word begins the lines of one kind

-- the word is this one, or the line is another's
either : (P : List ℕ → Type 0) (word spelled : List ℕ) (here later : Option Event) (e : Event) → P spelled → (later ≡ Some e → P word) → cond (bytes_eq word spelled) here later ≡ Some e → P word
either P word spelled here later e p others =
    elim (bytes_eq word spelled) as (λ t. bytes_eq word spelled ≡ t → cond t here later ≡ Some e → P word) [
      | true ↦ λ same h. subst P (sym ((bytes_eq-Decides word spelled).0 same)) p
      | false ↦ λ same h. others h
    ] refl

host_is_not_jury : (who word : List ℕ) (ws : List (List ℕ)) (e : Event) → host_event_of word ws ≡ Some e → jury_event_of who word ws ≡ None
host_is_not_jury who word ws e =
    let P : List ℕ → Type 0 = λ w. jury_event_of who w ws ≡ None in
    either P word (codes "host") _ _ e refl
    (either P word (codes "claim") _ _ e refl
    (either P word (codes "fetch") _ _ e refl
    (either P word (codes "result") _ _ e refl
    (either P word (codes "renew") _ _ e refl
    (either P word (codes "down") _ _ e refl (λ h. cc))))))

other_is_no_else : (who word : List ℕ) (ws : List (List ℕ)) (e : Event) → other_event_of word ws ≡ Some e → (jury_event_of who word ws ≡ None) × (host_event_of word ws ≡ None)
other_is_no_else who word ws e =
    let P : List ℕ → Type 0 = λ w. (jury_event_of who w ws ≡ None) × (host_event_of w ws ≡ None) in
    either P word (codes "submit") _ _ e (refl, refl)
    (either P word (codes "record") _ _ e (refl, refl)
    (either P word (codes "tick") _ _ e (refl, refl)
    (either P word (codes "show") _ _ e (refl, refl)
    (either P word (codes "owner") _ _ e (refl, refl)
    (either P word (codes "board") _ _ e (refl, refl)
    (either P word (codes "matrix") _ _ e (refl, refl)
    (either P word (codes "audit") _ _ e (refl, refl) (λ h. cc))))))))

or_none : (o : Option Event) → option_or o None ≡ o
or_none None = refl
or_none (Some e) = refl

is_none : (o : Option Event) → false ≡ is_some o → o ≡ None
is_none None h = refl
is_none (Some e) h = cc

-- a line that is neither a host's nor the jury's
pub other_first : (word : List ℕ) (ws : List (List ℕ)) → true ≡ is_some (other_event_of word ws) → other_event_of word ws ≡ unnamed_event_of word ws
other_first word ws h =
    elim (other_event_of word ws) as (λ o. other_event_of word ws ≡ o → true ≡ is_some o → o ≡ option_or (jury_event_of jury word ws) (option_or (host_event_of word ws) o)) [
      | None ↦ λ e some. cc
      | Some x ↦ λ e some.
          let none = other_is_no_else jury word ws x e in
          sym (ap (λ o. option_or o (option_or (host_event_of word ws) (Some x))) none.0 ∙ ap (λ o. option_or o (Some x)) none.1)
    ] refl h

-- a host's line
pub host_then : (word : List ℕ) (ws : List (List ℕ)) → true ≡ is_some (host_event_of word ws) → host_event_of word ws ≡ unnamed_event_of word ws
host_then word ws h =
    elim (host_event_of word ws) as (λ o. host_event_of word ws ≡ o → true ≡ is_some o → o ≡ option_or (jury_event_of jury word ws) (option_or o (other_event_of word ws))) [
      | None ↦ λ e some. cc
      | Some x ↦ λ e some. sym (ap (λ o. option_or o (Some x)) (host_is_not_jury jury word ws x e))
    ] refl h

-- every other line
pub jury_last : (word : List ℕ) (ws : List (List ℕ)) → false ≡ is_some (other_event_of word ws) → false ≡ is_some (host_event_of word ws) → jury_event_of jury word ws ≡ unnamed_event_of word ws
jury_last word ws other host =
    sym (ap (λ o. option_or (jury_event_of jury word ws) (option_or o (other_event_of word ws))) (is_none (host_event_of word ws) host)
    ∙ ap (λ o. option_or (jury_event_of jury word ws) o) (is_none (other_event_of word ws) other) ∙ or_none (jury_event_of jury word ws))

-- The lines that are read first

or_nones : (o : Option Event) → option_or None (option_or None o) ≡ o
or_nones None = refl
or_nones (Some e) = refl

-- where what follows the first word is refused, whatever that word is
none_behind : {A B : Type 0} (o : Option A) (ws : List (List ℕ)) (f : A × List (List ℕ) → Option B) → ((a : A) → f (a, ws) ≡ None) → (with_rest ws o >>= f) ≡ None
none_behind None ws f h = refl
none_behind (Some a) ws f h = h a

-- a line of a judging, a test and a kind
abbrev kind_behind : ℕ → ℕ × List (List ℕ) → Option Recorded
kind_behind j test = kind_alone test.1 >>= (λ k. Some (record { judging = j; test = test.0; kind = k }))

abbrev test_behind : ℕ × List (List ℕ) → Option Recorded
test_behind judging = first_number judging.1 >>= kind_behind judging.0

entry_of_kind : (j t : ℕ) (k : Option Kind) → (k >>= (λ z. Some (event.Entry j t z))) ≡ option_map entry_of (k >>= (λ z. Some (record { judging = j; test = t; kind = z })))
entry_of_kind j t None = refl
entry_of_kind j t (Some k) = refl

entry_of_test : (j : ℕ) (t : Option ℕ) (k : List ℕ) → (t >>= (λ y. kind_named k >>= (λ z. Some (event.Entry j y z)))) ≡ option_map entry_of (with_rest (k ∷ []) t >>= kind_behind j)
entry_of_test j None k = refl
entry_of_test j (Some t) k = entry_of_kind j t (kind_named k)

entry_of_judging : (j : Option ℕ) (t k : List ℕ) → (j >>= (λ x. number_of t >>= (λ y. kind_named k >>= (λ z. Some (event.Entry x y z))))) ≡ option_map entry_of (with_rest (t ∷ k ∷ []) j >>= test_behind)
entry_of_judging None t k = refl
entry_of_judging (Some j) t k = entry_of_test j (number_of t) k

pub record_line_by : (ws : List (List ℕ)) → record_line ws ≡ option_map entry_of (recorded_of ws)
record_line_by [] = refl
record_line_by (j ∷ []) = sym (ap (option_map entry_of) (none_behind (number_of j) [] test_behind (λ x. refl)))
record_line_by (j ∷ t ∷ []) =
    sym (ap (option_map entry_of) (none_behind (number_of j) (t ∷ []) test_behind (λ x. none_behind (number_of t) [] (kind_behind x) (λ y. refl))))
record_line_by (j ∷ t ∷ k ∷ []) = entry_of_judging (number_of j) t k
record_line_by (j ∷ t ∷ k ∷ more ∷ ws) =
    sym (ap (option_map entry_of) (none_behind (number_of j) (t ∷ k ∷ more ∷ ws) test_behind
    (λ x. none_behind (number_of t) (k ∷ more ∷ ws) (kind_behind x) (λ y. refl))))

-- a line that begins with `record`
pub record_first : (text word : List ℕ) (ws : List (List ℕ)) → words text ≡ word ∷ ws → true ≡ bytes_eq word (codes "record") → line_read text ≡ event_or_bad (option_map entry_of (recorded_of ws))
record_first text word ws first same =
    ap read_of_words first
    ∙ ap (λ w. read_of_words (w ∷ ws)) ((bytes_eq-Decides word (codes "record")).0 (sym same))
    ∙ ap event_or_bad (or_nones (record_line ws) ∙ record_line_by ws)

-- a line that begins with `show`
pub show_first : (text word : List ℕ) (ws : List (List ℕ)) → words text ≡ word ∷ ws → true ≡ bytes_eq word (codes "show") → line_read text ≡ event_or_bad (option_map event.Show (number_alone ws))
show_first text word ws first same =
    ap read_of_words first
    ∙ ap (λ w. read_of_words (w ∷ ws)) ((bytes_eq-Decides word (codes "show")).0 (sym same))
    ∙ ap event_or_bad (or_nones (number_line event.Show ws) ∙ number_line_by event.Show ws)

-- Lines that are read word by word

-- the number, where nothing is behind it
abbrev pub where_alone : Option (ℕ × List (List ℕ)) → Option ℕ
where_alone None = None
where_alone (Some (n, [])) = Some n
where_alone (Some (n, w ∷ ws)) = None

one_number : (n : Option ℕ) → n ≡ where_alone (with_rest [] n)
one_number None = refl
one_number (Some n) = refl

more_words : (n : Option ℕ) (w : List ℕ) (ws : List (List ℕ)) → None ≡ where_alone (with_rest (w ∷ ws) n)
more_words None w ws = refl
more_words (Some n) w ws = refl

pub number_alone_by : (ws : List (List ℕ)) → number_alone ws ≡ where_alone (first_number ws)
number_alone_by [] = refl
number_alone_by (n ∷ []) = one_number (number_of n)
number_alone_by (n ∷ more ∷ ws) = more_words (number_of n) more ws

-- a line of a name and a number
number_behind : (e : List ℕ → ℕ → Event) (n : Option (List ℕ)) (number : List ℕ) → (n >>= (λ x. number_of number >>= (λ y. Some (e x y)))) ≡ (with_rest (number ∷ []) n >>= (λ x. number_alone x.1 >>= (λ y. Some (e x.0 y))))
number_behind e None number = refl
number_behind e (Some n) number = refl

pub problem_line_by : (who : List ℕ) (ws : List (List ℕ)) → problem_line who ws ≡ (first_name ws >>= (λ x. number_alone x.1 >>= (λ y. Some (event.Problem who x.0 y))))
problem_line_by who [] = refl
problem_line_by who (n ∷ []) = sym (none_behind (name_read n) [] (λ x. number_alone x.1 >>= (λ y. Some (event.Problem who x.0 y))) (λ x. refl))
problem_line_by who (n ∷ t ∷ []) = number_behind (event.Problem who) (name_read n) t
problem_line_by who (n ∷ t ∷ more ∷ ws) = sym (none_behind (name_read n) (t ∷ more ∷ ws) (λ x. number_alone x.1 >>= (λ y. Some (event.Problem who x.0 y))) (λ x. refl))

pub replace_line_by : (who : List ℕ) (ws : List (List ℕ)) → replace_line who ws ≡ (first_name ws >>= (λ x. number_alone x.1 >>= (λ y. Some (event.Replace who x.0 y))))
replace_line_by who [] = refl
replace_line_by who (n ∷ []) = sym (none_behind (name_read n) [] (λ x. number_alone x.1 >>= (λ y. Some (event.Replace who x.0 y))) (λ x. refl))
replace_line_by who (n ∷ t ∷ []) = number_behind (event.Replace who) (name_read n) t
replace_line_by who (n ∷ t ∷ more ∷ ws) = sym (none_behind (name_read n) (t ∷ more ∷ ws) (λ x. number_alone x.1 >>= (λ y. Some (event.Replace who x.0 y))) (λ x. refl))

-- a line of a host, a judging and a test
abbrev renewed_judging : List ℕ → ℕ × List (List ℕ) → Option Event
renewed_judging h j = number_alone j.1 >>= (λ t. Some (event.Renew h j.0 t))

abbrev renewed_host : List ℕ × List (List ℕ) → Option Event
renewed_host h = first_number h.1 >>= renewed_judging h.0

renew_test : (h : List ℕ) (j : Option ℕ) (t : List ℕ) → (j >>= (λ y. number_of t >>= (λ z. Some (event.Renew h y z)))) ≡ (with_rest (t ∷ []) j >>= renewed_judging h)
renew_test h None t = refl
renew_test h (Some j) t = refl

renew_judging : (h : Option (List ℕ)) (j t : List ℕ) → (h >>= (λ x. number_of j >>= (λ y. number_of t >>= (λ z. Some (event.Renew x y z))))) ≡ (with_rest (j ∷ t ∷ []) h >>= renewed_host)
renew_judging None j t = refl
renew_judging (Some h) j t = renew_test h (number_of j) t

pub renew_line_by : (ws : List (List ℕ)) → renew_line ws ≡ (first_name ws >>= (λ h. first_number h.1 >>= (λ j. number_alone j.1 >>= (λ t. Some (event.Renew h.0 j.0 t)))))
renew_line_by [] = refl
renew_line_by (h ∷ []) = sym (none_behind (name_read h) [] renewed_host (λ x. refl))
renew_line_by (h ∷ j ∷ []) = sym (none_behind (name_read h) (j ∷ []) renewed_host (λ x. none_behind (number_of j) [] (renewed_judging x) (λ y. refl)))
renew_line_by (h ∷ j ∷ t ∷ []) = renew_judging (name_read h) j t
renew_line_by (h ∷ j ∷ t ∷ more ∷ ws) =
    sym (none_behind (name_read h) (j ∷ t ∷ more ∷ ws) renewed_host (λ x. none_behind (number_of j) (t ∷ more ∷ ws) (renewed_judging x) (λ y. refl)))

-- a line of a host, a judging, a test and a kind
abbrev result_of_test : List ℕ → ℕ → ℕ × List (List ℕ) → Option Event
result_of_test h j t = kind_alone t.1 >>= (λ k. Some (event.Result h j t.0 k))

abbrev result_of_judging : List ℕ → ℕ × List (List ℕ) → Option Event
result_of_judging h j = first_number j.1 >>= result_of_test h j.0

abbrev result_of_host : List ℕ × List (List ℕ) → Option Event
result_of_host h = first_number h.1 >>= result_of_judging h.0

result_test : (h : List ℕ) (j : ℕ) (t : Option ℕ) (k : List ℕ) → (t >>= (λ z. kind_named k >>= (λ q. Some (event.Result h j z q)))) ≡ (with_rest (k ∷ []) t >>= result_of_test h j)
result_test h j None k = refl
result_test h j (Some t) k = refl

result_judging : (h : List ℕ) (j : Option ℕ) (t k : List ℕ) → (j >>= (λ y. number_of t >>= (λ z. kind_named k >>= (λ q. Some (event.Result h y z q))))) ≡ (with_rest (t ∷ k ∷ []) j >>= result_of_judging h)
result_judging h None t k = refl
result_judging h (Some j) t k = result_test h j (number_of t) k

result_host : (h : Option (List ℕ)) (j t k : List ℕ) → (h >>= (λ x. number_of j >>= (λ y. number_of t >>= (λ z. kind_named k >>= (λ q. Some (event.Result x y z q)))))) ≡ (with_rest (j ∷ t ∷ k ∷ []) h >>= result_of_host)
result_host None j t k = refl
result_host (Some h) j t k = result_judging h (number_of j) t k

pub result_line_by : (ws : List (List ℕ)) → result_line ws ≡ (first_name ws >>= (λ h. first_number h.1 >>= (λ j. first_number j.1 >>= (λ t. kind_alone t.1 >>= (λ k. Some (event.Result h.0 j.0 t.0 k))))))
result_line_by [] = refl
result_line_by (h ∷ []) = sym (none_behind (name_read h) [] result_of_host (λ x. refl))
result_line_by (h ∷ j ∷ []) = sym (none_behind (name_read h) (j ∷ []) result_of_host (λ x. none_behind (number_of j) [] (result_of_judging x) (λ y. refl)))
result_line_by (h ∷ j ∷ t ∷ []) =
    sym (none_behind (name_read h) (j ∷ t ∷ []) result_of_host
    (λ x. none_behind (number_of j) (t ∷ []) (result_of_judging x) (λ y. none_behind (number_of t) [] (result_of_test x y) (λ z. refl))))
result_line_by (h ∷ j ∷ t ∷ k ∷ []) = result_host (name_read h) j t k
result_line_by (h ∷ j ∷ t ∷ k ∷ more ∷ ws) =
    sym (none_behind (name_read h) (j ∷ t ∷ k ∷ more ∷ ws) result_of_host
    (λ x. none_behind (number_of j) (t ∷ k ∷ more ∷ ws) (result_of_judging x)
    (λ y. none_behind (number_of t) (k ∷ more ∷ ws) (result_of_test x y) (λ z. refl))))
