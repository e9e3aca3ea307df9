use Rattle.std.proofs.Common.{ℕ, suc, zero, ◌≡◌, ◌≢◌, ◌+◌, ◌-◌, ◌<◌, ◌≤◌, List, [], ◌∷◌, ◌++◌, Option, Some, None, true, false, cond, refl, sym, ap, ◌∙◌, subst, arith, length, map, get_or, set, eqb, inl, inr, ◌&&◌, ◌||◌}
use Rattle.std.specs.List.{slice_get, All}
use Rattle.std.specs.Option.{option_map, option_map_or}
use Rattle.std.proofs.lemmas.Bool.{eqb-true, eq-eqb, ne_eqb, or_cases, or_left, or_right, cases_Bool, cases_eq, cases_lt, false_from_ne_true, and_parts}
use Rattle.std.proofs.lemmas.List.{get_or-set_same, get_or-set_other, length-set, length-map, get_or-map, get_or_past}
use Rattle.farm_kinds.specs.declared.outcomes.How.{How}
use Rattle.farm_kinds.specs.declared.outcomes.How.TheVariants as how
use Rattle.farm_model.specs.declared.records.Member.{Member}
use Rattle.farm_model.specs.declared.records.Rejudging.{Rejudging}
use Rattle.farm_model.specs.declared.records.RejudgeState.TheVariants as state
use Rattle.farm_model.specs.Refusing.{first_of}
use Rattle.farm_model.specs.Rejudgings.{is_open_state, has_member, holds_open, busy_with, members_from, close_as}
use Rattle.rejudge_book.specs.declared.faults.BookFault.{BookFault}
use Rattle.rejudge_book.specs.declared.faults.BookFault.TheVariants as fault
use Rattle.rejudge_book.specs.Refusals.{IsKnown, AreKnown}
use Rattle.rejudge_book.specs.Marks.{mark_of, with_marks, submissions_of, marked, marked_fault, marked_refusal, IsIn, AreMarks}
use Rattle.rejudge_book.proofs.Places.{passes, passes_before, passes_still, passes_last, passes_set_same, passes_set_other, none_passes, one_passes}
use Rattle.rejudge_book.proofs.Twice.{has}
use Rattle.farm_model.specs.Rejudgings.{is_busy, busy_refusal}

-- What the marks of submissions say of rejudgings, and keep saying where one is prepared or closed.

-- the submission's mark is that of the rejudging at a place
mark_at : (rs : List Rejudging) (marks : List ℕ) (s j : ℕ) → AreMarks rs marks → 1 ≤ s → mark_of marks s ≡ j + 1 → IsIn rs j s
mark_at rs marks s j h some e =
    let is : s - 1 + 1 ≡ s = omega arith in
    subst (λ (x : ℕ). IsIn rs j x) is (h.true_marks j (s - 1) e)

marked_is : (m : ℕ) → 1 ≤ m → marked m ≡ Some m
marked_is m some = ap (λ b. cond b None (Some m)) (ne_eqb m 0 (λ e. absurd (omega arith)))

busy_at : (rs : List Rejudging) (marks : List ℕ) (s m : ℕ) → AreMarks rs marks → 1 ≤ s → mark_of marks s ≡ m → busy_with rs s ≡ marked m
busy_at rs marks s zero h some e =
    ap (option_map (λ i. i + 1)) (none_passes (holds_open s) rs (λ i t.
    let f = h.filed i s (record { holds = t }) in
    omega (arith, f, e)))
busy_at rs marks s (suc j) h some e =
    let own = mark_at rs marks s j h some (omega (arith, e)) in
    let first = one_passes (holds_open s) rs j own.holds (λ i t.
    let f = h.filed i s (record { holds = t }) in
    omega (arith, f, e)) in
    ap (option_map (λ i. i + 1)) first ∙ (ap Some (omega arith) ∙ sym (marked_is (suc j) (omega arith)))

-- the rejudging that a submission is in is its mark
pub busy_is_mark : (rs : List Rejudging) (marks : List ℕ) (s : ℕ) → AreMarks rs marks → 1 ≤ s → busy_with rs s ≡ marked (mark_of marks s)
busy_is_mark rs marks s h some = busy_at rs marks s (mark_of marks s) h some refl

tail : (n s : ℕ) (list : List ℕ) → AreKnown n (s ∷ list) → AreKnown n list
tail n s list known = λ k d l. known (suc k) d (omega arith)

faults_are : (rs : List Rejudging) (marks : List ℕ) (n : ℕ) (list : List ℕ) → AreMarks rs marks → AreKnown n list → map (marked_fault marks) list ≡ map (is_busy fault.Busy rs) list
faults_are rs marks n [] h known = refl
faults_are rs marks n (s ∷ list) h known =
    let own = known zero 0 (omega arith) in
    let head : marked_fault marks s ≡ is_busy fault.Busy rs s = sym (ap (option_map (fault.Busy s)) (busy_is_mark rs marks s h own.numbered)) in
    ap (λ f. f ∷ map (marked_fault marks) list) head ∙ ap (λ fs. is_busy fault.Busy rs s ∷ fs) (faults_are rs marks n list h (tail n s list known))

-- the first of the list that is in an open rejudging is the first that has a mark
pub refusal_is : (rs : List Rejudging) (marks : List ℕ) (n : ℕ) (list : List ℕ) → AreMarks rs marks → AreKnown n list → marked_refusal marks list ≡ busy_refusal fault.Busy rs list
refusal_is rs marks n list h known = ap first_of (faults_are rs marks n list h known)

pub last_of : (o : Option BookFault) → first_of (None ∷ o ∷ []) ≡ o
last_of None = refl
last_of (Some f) = refl

-- where no submission of the list is refused for a mark, none of them has one
pub unmarked : (marks list : List ℕ) (s : ℕ) → marked_refusal marks list ≡ None → has list s ≡ true → mark_of marks s ≡ 0
unmarked marks [] s e t = cc
unmarked marks (m ∷ list) s e t =
    let go : (n : ℕ) → mark_of marks m ≡ n → first_of (option_map (fault.Busy m) (marked n) ∷ map (marked_fault marks) list) ≡ None → mark_of marks s ≡ 0
    = λ n. elim n as (λ n. mark_of marks m ≡ n → first_of (option_map (fault.Busy m) (marked n) ∷ map (marked_fault marks) list) ≡ None → mark_of marks s ≡ 0) [
      | zero ↦ λ is f. elim (or_cases (eqb m s) (has list s) t) [
        | inl same ↦ subst (λ (x : ℕ). mark_of marks x ≡ 0) (eqb-true m s same) is
        | inr later ↦ unmarked marks list s f later
      ]
      | suc n ↦ λ is f. let g = rw (marked_is (suc n) (omega arith)) at f in cc
    ] in
    go (mark_of marks m) refl e

-- the marks after submissions were marked
pub marks_at : (marks list : List ℕ) (number k : ℕ) → AreKnown (length marks) list → get_or (with_marks marks list number) k 0 ≡ cond (has list (k + 1)) number (get_or marks k 0)
marks_at marks [] number k known = refl
marks_at marks (s ∷ list) number k known =
    let own = known zero 0 (omega arith) in
    let len = length-set marks (s - 1) number in
    let rest : AreKnown (length (set marks (s - 1) number)) list = rw len (tail (length marks) s list known) in
    let ih = marks_at (set marks (s - 1) number) list number k rest in
    elim (cases_eq s (k + 1)) [
      | inl e ↦
          let here : get_or (set marks (s - 1) number) k 0 ≡ number = rw (let same : s - 1 ≡ k = omega arith in same) (get_or-set_same marks k number 0 (omega (arith, own.numbered, own.within))) in
          let t : has (s ∷ list) (k + 1) ≡ true = or_left (eqb s (k + 1)) (has list (k + 1)) (eq-eqb s (k + 1) e) in
          ih ∙ (ap (λ v. cond (has list (k + 1)) number v) here ∙ (elim (has list (k + 1)) as (λ b. cond b number number ≡ number) [ true ↦ refl | false ↦ refl ] ∙ sym (ap (λ b. cond b number (get_or marks k 0)) t)))
      | inr ne ↦
          let there : get_or (set marks (s - 1) number) k 0 ≡ get_or marks k 0 = get_or-set_other marks (s - 1) k number 0 (λ x. ne (omega (arith, own.numbered, x))) in
          let f : eqb s (k + 1) ≡ false = ne_eqb s (k + 1) ne in
          ih ∙ (ap (λ v. cond (has list (k + 1)) number v) there ∙ sym (ap (λ b. cond (b || has list (k + 1)) number (get_or marks k 0)) f))
    ]

-- the mark of a submission that was not marked, or was
pub mark_kept : (marks list : List ℕ) (number s : ℕ) → AreKnown (length marks) list → 1 ≤ s → has list s ≡ false → mark_of (with_marks marks list number) s ≡ mark_of marks s
mark_kept marks list number s known some none =
    let is : s - 1 + 1 ≡ s = omega arith in
    let at : has list (s - 1 + 1) ≡ false = rw is none in
    marks_at marks list number (s - 1) known ∙ ap (λ b. cond b number (mark_of marks s)) at

pub mark_made : (marks list : List ℕ) (number s : ℕ) → AreKnown (length marks) list → 1 ≤ s → has list s ≡ true → mark_of (with_marks marks list number) s ≡ number
mark_made marks list number s known some t =
    let is : s - 1 + 1 ≡ s = omega arith in
    let at : has list (s - 1 + 1) ≡ true = rw is t in
    marks_at marks list number (s - 1) known ∙ ap (λ b. cond b number (mark_of marks s)) at

pub has_members : (s first : ℕ) (list olds : List ℕ) → length list ≡ length olds → has_member s (members_from first list olds) ≡ has list s
has_members s first [] olds e = refl
has_members s first (m ∷ list) [] e = absurd (omega arith)
has_members s first (m ∷ list) (o ∷ olds) e = ap (λ b. eqb m s || b) (has_members s (first + 1) list olds (omega arith))

pub has_submissions : (s : ℕ) (members : List Member) → has_member s members ≡ has (submissions_of members) s
has_submissions s [] = refl
has_submissions s (m ∷ members) = ap (λ b. eqb m.submission s || b) (has_submissions s members)

pub submissions_from : (first : ℕ) (list olds : List ℕ) → length list ≡ length olds → submissions_of (members_from first list olds) ≡ list
submissions_from first [] olds e = refl
submissions_from first (m ∷ list) [] e = absurd (omega arith)
submissions_from first (m ∷ list) (o ∷ olds) e = ap (λ ms. m ∷ ms) (submissions_from (first + 1) list olds (omega arith))

-- members are known where their submissions are
pub members_are : (n : ℕ) (members : List Member) → AreKnown n (submissions_of members) → All (λ m. IsKnown n m.submission) members
members_are n members known = λ k d l.
    let len : k < length (submissions_of members) = omega (arith, length-map members (λ (m : Member). m.submission)) in
    subst (λ (s : ℕ). IsKnown n s) (get_or-map (λ (m : Member). m.submission) members k d 0 l) (known k 0 len)

-- a submission of a list of known ones is known
known_of : (n s : ℕ) (list : List ℕ) → AreKnown n list → has list s ≡ true → IsKnown n s
known_of n s [] known t = cc
known_of n s (m ∷ list) known t = elim (or_cases (eqb m s) (has list s) t) [
  | inl e ↦ subst (λ (x : ℕ). IsKnown n x) (eqb-true m s e) (known zero 0 (omega arith))
  | inr later ↦ known_of n s list (tail n m list known) later
]

-- and each of a list whose submissions are known
known_from : (n : ℕ) (list : List ℕ) → ((s : ℕ) → has list s ≡ true → IsKnown n s) → AreKnown n list
known_from n [] h = λ k d l. absurd (omega arith)
known_from n (m ∷ list) h = λ k. elim k as (λ k. (d : ℕ) → k < length (m ∷ list) → IsKnown n (get_or (m ∷ list) k d)) [
  | zero ↦ λ d l. h m (or_left (eqb m m) (has list m) (eq-eqb m m refl))
  | suc k ↦ λ d l. known_from n list (λ s t. h s (or_right (eqb m s) (has list s) t)) k d (omega arith)
]

-- the marks of submissions that had none say what they should where a rejudging of these is open
pub opened : (rs : List Rejudging) (r : Rejudging) (marks list : List ℕ) → AreMarks rs marks → AreKnown (length marks) list → marked_refusal marks list ≡ None → r.state ≡ state.Open → ((s : ℕ) → has_member s r.members ≡ has list s) → AreMarks (rs ++ r ∷ []) (with_marks marks list (length rs + 1))
opened rs r marks list h known free is_open of_list =
    let holds_is : (s : ℕ) → holds_open s r ≡ has list s = λ s. ap (λ x. is_open_state x && has_member s r.members) is_open ∙ of_list s in
    record {
      numbered = λ i s t. elim (cases_eq i (length rs)) [
        | inl e ↦ (known_of (length marks) s list known (sym (holds_is s) ∙ (sym (passes_last (holds_open s) rs r) ∙ subst (λ (x : ℕ). passes (holds_open s) (rs ++ r ∷ []) x ≡ true) e t.holds))).numbered
        | inr ne ↦ h.numbered i s (record { holds = sym (passes_before (holds_open s) rs r i ne) ∙ t.holds })
      ];
      filed = λ i s t. elim (cases_eq i (length rs)) [
        | inl e ↦
            let own : has list s ≡ true = sym (holds_is s) ∙ (sym (passes_last (holds_open s) rs r) ∙ subst (λ (x : ℕ). passes (holds_open s) (rs ++ r ∷ []) x ≡ true) e t.holds) in
            let made = mark_made marks list (length rs + 1) s known (known_of (length marks) s list known own).numbered own in
            omega (arith, made, e)
        | inr ne ↦
            let before : IsIn rs i s = record { holds = sym (passes_before (holds_open s) rs r i ne) ∙ t.holds } in
            let was = h.filed i s before in
            let none : has list s ≡ false = false_from_ne_true (has list s) (λ own. let zero_mark = unmarked marks list s free own in omega (arith, was, zero_mark)) in
            mark_kept marks list (length rs + 1) s known (h.numbered i s before) none ∙ was
      ];
      true_marks = λ i k e.
          let at = marks_at marks list (length rs + 1) k known in
          elim (cases_Bool (has list (k + 1))) [
            | inl own ↦
                let is : length rs + 1 ≡ i + 1 = sym (ap (λ b. cond b (length rs + 1) (get_or marks k 0)) own) ∙ (sym at ∙ e) in
                let last : i ≡ length rs = omega (arith, is) in
                record { holds = subst (λ (x : ℕ). passes (holds_open (k + 1)) (rs ++ r ∷ []) x ≡ true) (sym last) (passes_last (holds_open (k + 1)) rs r ∙ (holds_is (k + 1) ∙ own)) }
            | inr none ↦
                let is : get_or marks k 0 ≡ i + 1 = sym (ap (λ b. cond b (length rs + 1) (get_or marks k 0)) none) ∙ (sym at ∙ e) in
                record { holds = passes_still (holds_open (k + 1)) rs r i (h.true_marks i k is).holds }
          ];
    }

-- the rejudging at the place is open, and these are its members
in_it : (rs : List Rejudging) (i s : ℕ) (r : Rejudging) → slice_get rs i ≡ Some r → r.state ≡ state.Open → has_member s r.members ≡ true → IsIn rs i s
in_it rs i s r at is_open own = record {
  holds = ap (λ o. option_map_or (holds_open s) o false) at ∙ (ap (λ x. is_open_state x && has_member s r.members) is_open ∙ own);
}

-- the members of an open rejudging are known
pub members_known : (rs : List Rejudging) (marks : List ℕ) (i : ℕ) (r : Rejudging) → AreMarks rs marks → slice_get rs i ≡ Some r → r.state ≡ state.Open → AreKnown (length marks) (submissions_of r.members)
members_known rs marks i r h at is_open = known_from (length marks) (submissions_of r.members) (λ s t.
    let own = in_it rs i s r at is_open (has_submissions s r.members ∙ t) in
    let mark = h.filed i s own in
    record {
      numbered = h.numbered i s own;
      within = elim (cases_lt (s - 1) (length marks)) [
        | inl l ↦ omega arith
        | inr past ↦ let none = get_or_past marks (s - 1) 0 past in absurd (omega (arith, none, mark))
      ];
    })

not_pending : (h : How) (s : ℕ) (r : Rejudging) → holds_open s (close_as h r) ≡ false
not_pending how.Applied s r = refl
not_pending how.Cancelled s r = refl

-- the marks say what they should where an open rejudging is closed, and its members lose theirs
pub marks_closed : (rs : List Rejudging) (marks : List ℕ) (i : ℕ) (r : Rejudging) (w : How) → AreMarks rs marks → slice_get rs i ≡ Some r → r.state ≡ state.Open → AreMarks (set rs i (close_as w r)) (with_marks marks (submissions_of r.members) 0)
marks_closed rs marks i r w h at is_open =
    let known = members_known rs marks i r h at is_open in
    let list = submissions_of r.members in
    let other : (j s : ℕ) → IsIn (set rs i (close_as w r)) j s → j ≢ i
    = λ j s t e.
    let same = passes_set_same (holds_open s) rs i r (close_as w r) at ∙ not_pending w s r in
    let t' : passes (holds_open s) (set rs i (close_as w r)) i ≡ true = subst (λ (x : ℕ). passes (holds_open s) (set rs i (close_as w r)) x ≡ true) e t.holds in
    cc in
    let before : (j s : ℕ) → IsIn (set rs i (close_as w r)) j s → IsIn rs j s
    = λ j s t. record { holds = sym (passes_set_other (holds_open s) rs i j (close_as w r) (other j s t)) ∙ t.holds } in
    record {
      numbered = λ j s t. h.numbered j s (before j s t);
      filed = λ j s t.
          let was = h.filed j s (before j s t) in
          let none : has list s ≡ false = false_from_ne_true (has list s) (λ own.
          let mark = h.filed i s (in_it rs i s r at is_open (has_submissions s r.members ∙ own)) in
          other j s t (omega (arith, was, mark))) in
          mark_kept marks list 0 s known (h.numbered j s (before j s t)) none ∙ was;
      true_marks = λ j k e.
          let marked_at = marks_at marks list 0 k known in
          elim (cases_Bool (has list (k + 1))) [
            | inl own ↦
                let is : 0 ≡ j + 1 = sym (ap (λ b. cond b 0 (get_or marks k 0)) own) ∙ (sym marked_at ∙ e) in
                absurd (omega (arith, is))
            | inr none ↦
                let is : get_or marks k 0 ≡ j + 1 = sym (ap (λ b. cond b 0 (get_or marks k 0)) none) ∙ (sym marked_at ∙ e) in
                let was = h.true_marks j k is in
                let apart : j ≢ i
                = λ same.
                let there : passes (holds_open (k + 1)) rs i ≡ true = subst (λ (x : ℕ). passes (holds_open (k + 1)) rs x ≡ true) same was.holds in
                let own : has_member (k + 1) r.members ≡ true = (and_parts (is_open_state r.state) (has_member (k + 1) r.members) (sym (ap (λ o. option_map_or (holds_open (k + 1)) o false) at) ∙ there)).1 in
                let listed = sym (has_submissions (k + 1) r.members) ∙ own in
                cc in
                record { holds = passes_set_other (holds_open (k + 1)) rs i j (close_as w r) apart ∙ was.holds }
          ];
    }
