-- What was published.
use Rattle.std.proofs.Common.{◌≡◌, ◌≢◌, ℕ, suc, zero, ◌+◌, List, [], ◌∷◌, ◌++◌, length, nat_lt, Bool, true, false, refl, ap, sym, ◌∙◌, subst, arith, inl, inr, ⊎_elim}
use Rattle.std.specs.Prelude.{◌-◌, Result, Ok, Err, IsOk, MatchResult, Option, Some, None, IfSome, replicate, if◌then◌else◌}
use Rattle.std.specs.Option.{option_map, option_to_list, unwrap_or}
use Rattle.public_board.specs.Versions.{last_of, longer}
use Rattle.public_board.specs.Values.{HasPublished}
use Rattle.public_board.proofs.Keeping.{last_snoc}

pub published_same : {R : Type 0} (old : List (List R)) (x rows : List R) → last_of old ≡ x → x ≡ rows → HasPublished old old rows
published_same old x rows last same = inl (sym (last ∙ same), refl)

pub published_next : {R A E : Type 0} (r : Result A E) (old new : List (List R)) (x rows : List R) (Q : E → Type 0) → last_of old ≡ x → x ≢ rows
    → MatchResult r (λ _. new ≡ old ++ rows ∷ []) Q → MatchResult r (λ _. HasPublished old new rows) Q
published_next (Ok a) old new x rows Q last other m = inr (λ (e : rows ≡ last_of old). other (sym (e ∙ last)), m)
published_next (Err e) old new x rows Q last other m = m

chosen : {R : Type 0} (b : Bool) (vs : List (List R)) → b ≡ true → (if b then vs else []) ≡ vs
chosen true vs e = refl
chosen false vs e = absurd (cc e)

pub longer_nil : {R : Type 0} (vs : List (List R)) → longer [] vs ≡ vs
longer_nil [] = refl
longer_nil (v ∷ vs) = chosen (nat_lt 0 (suc (length vs))) (v ∷ vs) (search (arith))

pub replicate_snoc : {A : Type 0} (n : ℕ) (x : A) → replicate (suc n) x ≡ replicate n x ++ x ∷ []
replicate_snoc zero x = refl
replicate_snoc (suc n) x = ap (λ xs. x ∷ xs) (replicate_snoc n x)

-- n times x and one more x is n + 1 times x
pub one_more : {A : Type 0} (n m : ℕ) (xs : List A) (x y : A) → xs ≡ replicate n x → y ≡ x → m ≡ n + 1 → xs ++ y ∷ [] ≡ replicate m x
one_more n m xs x y all same more =
    let s : m ≡ suc n = omega arith in
    ap (λ zs. zs ++ y ∷ []) all ∙ (ap (λ z. replicate n x ++ z ∷ []) same ∙ (sym (replicate_snoc n x) ∙ ap (λ k. replicate k x) (sym s)))

-- the last version is what was published
pub published_last : {R : Type 0} (old new : List (List R)) (rows : List R) → HasPublished old new rows → last_of new ≡ rows
published_last old new rows done =
    ⊎_elim (λ (t : (rows ≡ last_of old) × (new ≡ old)). ap last_of t.1 ∙ sym t.0)
    (λ (t : (rows ≢ last_of old) × (new ≡ old ++ rows ∷ [])). ap last_of t.1 ∙ last_snoc old rows)
    done

-- of n times r the last is r, and those before it are n - 1 times r
last_same : {A : Type 0} (n : ℕ) (r x : A) (ys : List A) → replicate n r ≡ ys ++ x ∷ [] → (x ≡ r) × (ys ≡ replicate (n - 1) r)
last_same zero r x [] e = absurd (cc e)
last_same zero r x (y ∷ ys) e = absurd (cc e)
last_same (suc zero) r x [] e = (cc e, refl)
last_same (suc zero) r x (y ∷ []) e = absurd (cc e)
last_same (suc zero) r x (y ∷ z ∷ ys) e = absurd (cc e)
last_same (suc (suc n)) r x [] e = absurd (cc e)
last_same (suc (suc n)) r x (y ∷ ys) e =
    let t = last_same (suc n) r x ys (cc e) in
    let heads : y ≡ r = cc e in
    let more : suc (suc n) - 1 ≡ suc n = omega arith in
    let less : suc n - 1 ≡ n = omega arith in (
      t.0,
      ap (λ zs. y ∷ zs) (t.1 ∙ ap (λ k. replicate k r) less) ∙ ap (λ z. z ∷ replicate n r) heads ∙ ap (λ k. replicate k r) (sym more),
    )

pub taken_same : {A : Type 0} (old ys : List A) (o : Option A) (n : ℕ) (r : A) → old ≡ ys ++ option_to_list o → old ≡ replicate n r
    → IfSome o (λ x. (x ≡ r) × (ys ≡ replicate (n - 1) r))
taken_same old ys None n r whole is = tt
taken_same old ys (Some x) n r whole is = last_same n r x ys (sym is ∙ whole)

-- what a publisher holds

pub some_part : {A : Type 0} (o : Option A) (x : A) (P : A → Type 0) → o ≡ Some x → IfSome o P → P x
some_part None x P e h = absurd (cc e)
some_part (Some y) x P e h = let is : y ≡ x = cc e in subst P is h

pub seen_part : {A B : Type 0} (o : Option A) (x : A) (f : A → B) (d old : B) → unwrap_or (option_map f o) d ≡ old → o ≡ Some x → f x ≡ old
seen_part None x f d old is e = absurd (cc e)
seen_part (Some y) x f d old is e = let same : x ≡ y = cc e in ap f same ∙ is

snoc_some : {A : Type 0} (xs : List A) (x : A) → xs ++ x ∷ [] ≢ []
snoc_some [] x e = cc e
snoc_some (y ∷ xs) x e = cc e

pub some_versions : {R A E : Type 0} (r : Result A E) (old new : List (List R)) (rows : List R) (Q : E → Type 0)
    → IsOk r → MatchResult r (λ _. new ≡ old ++ rows ∷ []) Q → new ≢ []
some_versions (Ok a) old new rows Q ok m is = snoc_some old rows (sym m ∙ is)
some_versions (Err e) old new rows Q ok m is = absurd (cc ok)
