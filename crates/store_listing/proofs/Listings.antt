-- Lines of a store that are shown, one after the other.
use Rattle.std.proofs.Common.{ℕ, ◌≡◌, ◌+◌, ◌<◌, ◌%◌, ◌/◌, List, [], ◌∷◌, ◌++◌, Option, Some, None, false, IsTrue, length, take, drop, Result, Ok, Err, OnOk, refl, sym, ◌∙◌, ap, subst, arith, append_assoc, append-nil, length-append, length-drop, take-append-drop}
use Rattle.std.specs.Io.KnownBytes.{Appends}
use Rattle.std.proofs.KnownBytes.{Appends-trans}
use Rattle.record_store.specs.Held.{held, records_of, IsRecordPrefix, IsNext}
use Rattle.record_store.proofs.Prefixes.{records_more}
use Rattle.std.specs.Prelude.{is_some, IfOk, OnErr}
use Rattle.stored_events.specs.Opening.{config_of}
use Rattle.stored_events.proofs.Openings.{first_held}
use Rattle.store_listing.specs.Listing.{lines_text, store_text, is_store_of, is_store, PutsPrefix, Shows, IsListed}

-- Texts

pub lines_more : (xs ys : List (List ℕ)) → lines_text (xs ++ ys) ≡ lines_text xs ++ lines_text ys
lines_more [] ys = refl
lines_more (x ∷ xs) ys = ap (λ (t : List ℕ). x ++ 10 ∷ t) (lines_more xs ys) ∙ sym (append_assoc x (10 ∷ lines_text xs) (lines_text ys))

pub store_more : (config : List ℕ) (xs ys : List (List ℕ)) → store_text (config ∷ (xs ++ ys)) ≡ store_text (config ∷ xs) ++ lines_text ys
store_more config xs ys =
    ap (λ (t : List ℕ). 35 ∷ 32 ∷ (config ++ 10 ∷ t)) (lines_more xs ys)
    ∙ ap (λ (t : List ℕ). 35 ∷ 32 ∷ t) (sym (append_assoc config (10 ∷ lines_text xs) (lines_text ys)))

-- What is put

module _ (first held : Option (List ℕ)) (pending whole : List ℕ) (s : Shows first held pending whole) where
  pub all_put : (held' : Option (List ℕ)) → Appends held held' pending → Appends first held' whole
  all_put held' put = subst (λ (t : List ℕ). Appends first held' t) s.both (Appends-trans first held held' s.text pending s.put put)

  pub put_some : (held' : Option (List ℕ)) (n : ℕ) → Appends held held' (take n pending) → PutsPrefix first held' whole
  put_some held' n put = record {
    text = s.text ++ take n pending;
    after = drop n pending;
    put = Appends-trans first held held' s.text (take n pending) s.put put;
    prefix = append_assoc s.text (take n pending) (drop n pending) ∙ ap (λ (t : List ℕ). s.text ++ t) (take-append-drop n pending) ∙ s.both;
  }

  pub more_pending : (more pending' : List ℕ) → pending' ≡ pending ++ more → Shows first held pending' (whole ++ more)
  more_pending more pending' is = record {
    text = s.text;
    put = s.put;
    both = ap (λ (t : List ℕ). s.text ++ t) is ∙ sym (append_assoc s.text pending more) ∙ ap (λ (t : List ℕ). t ++ more) s.both;
  }

  pub more_line : (line pending' : List ℕ) → pending' ≡ pending ++ line ++ 10 ∷ [] → Shows first held pending' (whole ++ line ++ 10 ∷ [])
  more_line line pending' is = record {
    text = s.text;
    put = s.put;
    both =
        ap (λ (t : List ℕ). s.text ++ t) (is ∙ append_assoc pending line (10 ∷ [])) ∙ sym (append_assoc s.text pending (line ++ 10 ∷ []))
        ∙ ap (λ (t : List ℕ). t ++ (line ++ 10 ∷ [])) s.both ∙ sym (append_assoc whole line (10 ∷ []));
  }

  -- no more is shown
  pub shows_prefix : (more : List ℕ) → PutsPrefix first held (whole ++ more)
  shows_prefix more = record {
    text = s.text;
    after = pending ++ more;
    put = s.put;
    prefix = sym (append_assoc s.text pending more) ∙ ap (λ (t : List ℕ). t ++ more) s.both;
  }

pub shows_put : (first held : Option (List ℕ)) (whole pending : List ℕ) → Appends first held whole → pending ≡ [] → Shows first held pending whole
shows_put first held whole pending put none = record { text = whole; put = put; both = ap (λ (t : List ℕ). whole ++ t) none ∙ append-nil whole }

-- all that was pending was put
pub ok_shows : {E : Type 0} (result : Result (Unit {0}) E) (first held : Option (List ℕ)) (whole pending : List ℕ) → OnOk result (Appends first held whole × (pending ≡ []))
    → OnOk result (Shows first held pending whole)
ok_shows (Ok done) first held whole pending both = shows_put first held whole pending both.0 both.1
ok_shows (Err error) first held whole pending both = tt

pub prefix_more : (first held : Option (List ℕ)) (whole more : List ℕ) → PutsPrefix first held whole → PutsPrefix first held (whole ++ more)
prefix_more first held whole more p = record {
  text = p.text;
  after = p.after ++ more;
  put = p.put;
  prefix = sym (append_assoc p.text p.after more) ∙ ap (λ (t : List ℕ). t ++ more) p.prefix;
}

pub put_prefix : (first held : Option (List ℕ)) (whole : List ℕ) → Appends first held whole → PutsPrefix first held whole
put_prefix first held whole put = record { text = whole; after = []; put = put; prefix = append-nil whole }

-- what is known of an error
pub on_err : {A E : Type 0} (result : Result A E) (P : Type 0) → P → OnErr result P
on_err (Ok a) P p = tt
on_err (Err e) P p = p

-- a fact that stands beside what is known of an answer
pub ok_beside : {E : Type 0} (result : Result ℕ E) (S A : Type 0) (B : ℕ → Type 0) → S → IfOk result (λ n. A × B n) → IfOk result (λ n. S × A × B n)
ok_beside (Ok n) S A B s both = (s, both.0, both.1)
ok_beside (Err e) S A B s both = tt

none_put : (held : Option (List ℕ)) → Appends held held []
none_put None = tt
none_put (Some bytes) = sym (append-nil bytes)

-- nothing was put yet
pub shows_first : (held : Option (List ℕ)) (pending whole : List ℕ) → pending ≡ whole → Shows held held pending whole
shows_first held pending whole is = record { text = []; put = none_put held; both = is }

pub nothing_put : (held : Option (List ℕ)) (whole : List ℕ) → PutsPrefix held held whole
nothing_put held whole = record { text = []; after = whole; put = none_put held; prefix = refl }

-- Records

-- a file whose first record is a configuration's is a store, and one whose first record is none is none
module _ (file config : List ℕ) (prefix : IsRecordPrefix (take (3 + length config) file) (config ∷ [])) (inside : 3 + length config < length file) where
  store_is : is_store file ≡ is_some (config_of config)
  store_is = ap (λ (lines : List (List ℕ)). is_store_of file lines) (first_held file config (3 + length config) prefix inside)

  pub no_store : config_of config ≡ None → is_store file ≡ false
  no_store none = store_is ∙ ap (λ (o : Option (List ℕ)). is_some o) none

  pub is_a_store : (kept : List ℕ) → config_of config ≡ Some kept → IsTrue (is_store file)
  is_a_store kept some = subst IsTrue (sym (store_is ∙ ap (λ (o : Option (List ℕ)). is_some o) some)) refl

  pub first_listed : IsListed file (3 + length config) (config ∷ [])
  first_listed = record { prefix = prefix; size = omega (arith, length-append config []) }

module _ (file : List ℕ) (at : ℕ) (config : List ℕ) (lines : List (List ℕ)) (is : IsListed file at (config ∷ lines)) where
  -- what is held behind those that were read
  pub held_behind_them : at < length file → held file ≡ config ∷ (lines ++ held (drop at file))
  held_behind_them inside = ap held (sym (take-append-drop at file)) ∙ is.prefix.reads (drop at file) (omega (arith, inside, length-drop at file))

  pub text_behind_them : at < length file → store_text (held file) ≡ store_text (config ∷ lines) ++ lines_text (held (drop at file))
  text_behind_them inside = ap store_text (held_behind_them inside) ∙ store_more config lines (held (drop at file))

  -- all was read
  pub all_listed : at < length file → held (drop at file) ≡ [] → held file ≡ config ∷ lines
  all_listed inside none = held_behind_them inside ∙ ap (λ (l : List (List ℕ)). config ∷ (lines ++ l)) none ∙ ap (λ (l : List (List ℕ)). config ∷ l) (append-nil lines)

  -- one line more
  pub listed_more : (line : List ℕ) → IsNext file at line → IsListed file (at + 3 + length line) (config ∷ (lines ++ line ∷ []))
  listed_more line next = record {
    prefix = next (config ∷ lines) is.prefix;
    size = (
        let more = ap (λ (l : List ℕ). length l) (records_more (config ∷ lines) line) in
        let parts = length-append (records_of (config ∷ lines)) (1 ∷ (length line % 256) ∷ (length line / 256) ∷ line) in
        let size = is.size in
        omega (arith, more, parts, size)
        );
  }

  pub text_more : (line : List ℕ) → store_text (config ∷ (lines ++ line ∷ [])) ≡ store_text (config ∷ lines) ++ line ++ 10 ∷ []
  text_more line = store_more config lines (line ∷ []) ∙ sym (append_assoc (store_text (config ∷ lines)) line (10 ∷ []))

  -- a prefix of the text up to a line that was read is one of the whole text
  pub prefix_behind : (line : List ℕ) → IsNext file at line → at + 3 + length line < length file → (first new : Option (List ℕ))
      → PutsPrefix first new (store_text (config ∷ lines) ++ line ++ 10 ∷ []) → PutsPrefix first new (store_text (held file))
  prefix_behind line next inside first new put =
      let end = at + 3 + length line in
      let more = lines_text (held (drop end file)) in
      let listed : IsListed file end (config ∷ (lines ++ line ∷ [])) = listed_more line next in
      let all : held file ≡ config ∷ ((lines ++ line ∷ []) ++ held (drop end file)) =
      ap held (sym (take-append-drop end file)) ∙ listed.prefix.reads (drop end file) (omega (arith, inside, length-drop end file)) in
      let whole : store_text (held file) ≡ (store_text (config ∷ lines) ++ line ++ 10 ∷ []) ++ more =
      ap store_text all ∙ store_more config (lines ++ line ∷ []) (held (drop end file)) ∙ ap (λ (t : List ℕ). t ++ more) (text_more line) in
      subst (λ (t : List ℕ). PutsPrefix first new t) (sym whole) (prefix_more first new (store_text (config ∷ lines) ++ line ++ 10 ∷ []) more put)

  -- what was shown so far is a prefix of the whole text
  pub shown_behind : at < length file → (first new : Option (List ℕ)) (pending : List ℕ) → Shows first new pending (store_text (config ∷ lines)) → PutsPrefix first new (store_text (held file))
  shown_behind inside first new pending s =
      subst (λ (t : List ℕ). PutsPrefix first new t) (sym (text_behind_them inside)) (shows_prefix first new pending (store_text (config ∷ lines)) s (lines_text (held (drop at file))))

  -- all of it was shown
  pub shown_all : at < length file → held (drop at file) ≡ [] → (first new : Option (List ℕ)) (pending : List ℕ) → Shows first new pending (store_text (config ∷ lines))
      → Shows first new pending (store_text (held file)) × (length (records_of (held file)) ≡ at)
  shown_all inside none first new pending s =
      let all = all_listed inside none in (
        subst (λ (l : List (List ℕ)). Shows first new pending (store_text l)) (sym all) s,
        ap (λ (l : List (List ℕ)). length (records_of l)) all ∙ is.size,
      )
