-- Steps of a reading, one after another.
use Rattle.std.proofs.Common.{◌≡◌, List, [], ◌∷◌, ◌++◌, Result, Ok, Err, refl, sym, ap, ◌∙◌, subst, append_assoc}
use Rattle.contest_folder.specs.declared.faults.ContestFault.{ContestFault}
use Rattle.contest_folder.specs.Telling.{Answers, and_then, with_first}

-- a fault of a step is that of the whole
pub err_then : {A B : Type 0} (e : ContestFault) (defined : Result A ContestFault) (next : A → Result B ContestFault)
    → Answers {A = A} (Err e) defined → Answers {A = B} (Err e) (and_then next defined)
err_then e defined next h = λ going. ap (and_then next) (h going)

pub ok_then : {A B : Type 0} (a : A) (defined : Result A ContestFault) (next : A → Result B ContestFault) (result : Result B ContestFault)
    → Answers (Ok a) defined → Answers result (next a) → Answers result (and_then next defined)
ok_then a defined next result h more = λ going. more going ∙ ap (and_then next) (h (λ stop. stop))

-- a step that is equal
pub same_then : {A B : Type 0} (first defined : Result A ContestFault) (next : A → Result B ContestFault) (result : Result B ContestFault)
    → first ≡ defined → Answers result (and_then next first) → Answers result (and_then next defined)
same_then {A} {B} first defined next result e h = subst (λ (r : Result A ContestFault). Answers result (and_then next r)) e h

-- what was read, and then the rest
abbrev pub behind : {A : Type 0} → List A → Result (List A) ContestFault → Result (List A) ContestFault
behind prefix rest = and_then (λ items. Ok (prefix ++ items)) rest

pub behind_none : {A : Type 0} (r : Result (List A) ContestFault) → behind [] r ≡ r
behind_none (Ok items) = refl
behind_none (Err e) = refl

pub behind_more : {A : Type 0} (prefix : List A) (a : A) (r : Result (List A) ContestFault) → behind prefix (with_first a r) ≡ behind (prefix ++ a ∷ []) r
behind_more prefix a (Ok items) = ap Ok (sym (append_assoc prefix (a ∷ []) items))
behind_more prefix a (Err e) = refl
