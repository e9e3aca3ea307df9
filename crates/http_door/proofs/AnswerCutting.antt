-- Laws of the cut into responses.
use Rattle.std.proofs.Common.{ℕ, ◌≡◌, ◌≤◌, ◌-◌, ◌+◌, inl, inr, List, [], ◌∷◌, ◌++◌, refl, sym, ap, ap₂, ◌∙◌, subst, arith, length, take, drop, append_assoc}
use Rattle.std.proofs.lemmas.List.{length-append, take-append-drop, take-append-le}
use Rattle.std.proofs.Math.Seq.{take-append-add}
use Rattle.httparse.specs.Grammar.{ResponseHead, ReadsResponse, HasNoResponse, MayBecomeResponse, print_response, status_code}
use Rattle.httparse.specs.Spans.{ResponseOverflows}
use Rattle.httparse.proofs.GrammarLemmas.{response_unique, ReadsResponse-append}
use Rattle.http_door.specs.declared.answers.fields.AnswerFraming.{AnswerFraming}
use Rattle.http_door.specs.declared.answers.fields.AnswerFraming.TheVariants as framing
use Rattle.http_door.specs.declared.answers.ending.AnswerEnding.{AnswerEnding}
use Rattle.http_door.specs.declared.answers.ending.AnswerEnding.TheVariants as end
use Rattle.http_door.specs.Heads.{head_limit, field_limit}
use Rattle.http_door.specs.AnswerHeads.{framing_of}
use Rattle.http_door.specs.Answers.{Answer, IsHead, IsAnswer, AreAnswers, HasFraming, IsUnfinished, IsBadHead, EndsAs, Cuts, IsFault, IsOfBytes}
use Rattle.http_door.proofs.Cutting.{same_parts, front_more}

pub head_more : (bytes : List ℕ) (h : ResponseHead) (rest more : List ℕ) → IsHead bytes h rest → IsHead (bytes ++ more) h (rest ++ more)
head_more bytes h rest more x = record { reads = ReadsResponse-append bytes h rest more x.reads; short = x.short; few = x.few }

-- whatever follows, the response stands there
pub answer_more : (bytes : List ℕ) (a : Answer) (rest more : List ℕ) → IsAnswer bytes a rest → IsAnswer (bytes ++ more) a (rest ++ more)
answer_more bytes a rest more x = record {
  head = x.head;
  is_head = subst (λ (z : List ℕ). IsHead (bytes ++ more) x.head z) (append_assoc a.body rest more) (head_more bytes x.head (a.body ++ rest) more x.is_head);
  framing = x.framing;
  code = x.code;
}

pub answers_more : (bytes : List ℕ) (us : List Answer) (rest more : List ℕ) → AreAnswers bytes us rest → AreAnswers (bytes ++ more) us (rest ++ more)
answers_more bytes [] rest more x = ap (λ z. z ++ more) x
answers_more bytes (a ∷ us) rest more x = (x.0 ++ more, answer_more bytes a x.0 more x.1, answers_more x.0 us rest more x.2)

-- more responses behind them
pub answers_then : (bytes : List ℕ) (us : List Answer) (middle : List ℕ) (bs : List Answer) (rest : List ℕ) → AreAnswers bytes us middle → AreAnswers middle bs rest → AreAnswers bytes (us ++ bs) rest
answers_then bytes [] middle bs rest x y = subst (λ (z : List ℕ). AreAnswers z bs rest) (sym x) y
answers_then bytes (a ∷ us) middle bs rest x y = (x.0, x.1, answers_then x.0 us middle bs rest x.2 y)

-- one more response behind them
pub answers_last : (bytes : List ℕ) (us : List Answer) (middle : List ℕ) (a : Answer) (rest : List ℕ) → AreAnswers bytes us middle → IsAnswer middle a rest → AreAnswers bytes (us ++ a ∷ []) rest
answers_last bytes us middle a rest x y = answers_then bytes us middle (a ∷ []) rest x (rest, y, refl)

pub head_unique : (bytes : List ℕ) (h k : ResponseHead) (r q : List ℕ) → IsHead bytes h r → IsHead bytes k q → (h ≡ k) × (r ≡ q)
head_unique bytes h k r q x y = response_unique bytes h k r q x.reads y.reads

pub sized_same : (m n : ℕ) → framing.Sized m ≡ framing.Sized n → m ≡ n
sized_same m n e = cc

same_answer : (a b : Answer) → a.code ≡ b.code → a.body ≡ b.body → a ≡ b
same_answer a b c d = rw (← c, ← d) refl

-- at most one response stands there
pub answer_once : (bytes : List ℕ) (a b : Answer) (rest left : List ℕ) → IsAnswer bytes a rest → IsAnswer bytes b left → (a ≡ b) × (rest ≡ left)
answer_once bytes a b rest left x y =
    let same = head_unique bytes x.head y.head (a.body ++ rest) (b.body ++ left) x.is_head y.is_head in
    let sizes : length a.body ≡ length b.body = sized_same (length a.body) (length b.body) (sym x.framing ∙ ap framing_of same.0 ∙ y.framing) in
    let parts = same_parts a.body b.body rest left sizes same.1 in
    (same_answer a b (x.code ∙ ap status_code same.0 ∙ sym y.code) parts.0, parts.1)

framing_more : (bytes more : List ℕ) (f : AnswerFraming) → HasFraming f bytes → HasFraming f (bytes ++ more)
framing_more bytes more f y = (y.0, y.1 ++ more, head_more bytes y.0 y.1 more y.2, y.3)

overflow_more : (room : ℕ) (bytes more : List ℕ) → ResponseOverflows room bytes → ResponseOverflows room (bytes ++ more)
overflow_more room bytes more y = λ after h rest x. y (more ++ after) h rest (subst (λ (z : List ℕ). ReadsResponse z h rest) (append_assoc bytes more after) x)

unfinished_apart : (bytes : List ℕ) (a : Answer) (rest : List ℕ) → IsAnswer bytes a rest → IsUnfinished bytes → ⊥
unfinished_apart bytes a rest x (inl y) = y.none x.head (a.body ++ rest) x.is_head.reads
unfinished_apart bytes a rest x (inr y) =
    let same = head_unique bytes x.head y.head (a.body ++ rest) y.rest x.is_head y.is_head in
    let sizes : length a.body ≡ y.len = sized_same (length a.body) y.len (sym x.framing ∙ ap framing_of same.0 ∙ y.framing) in
    let n = ap length same.1 in
    omega (arith, y.short, sizes, n, length-append a.body rest)

framing_apart : (bytes : List ℕ) (a : Answer) (rest : List ℕ) (f : AnswerFraming) → IsAnswer bytes a rest → HasFraming f bytes → ((n : ℕ) → ¬ (framing.Sized n ≡ f)) → ⊥
framing_apart bytes a rest f x y apart =
    let same = head_unique bytes x.head y.0 (a.body ++ rest) y.1 x.is_head y.2 in
    apart (length a.body) (sym x.framing ∙ ap framing_of same.0 ∙ y.3)

-- a head stands in as many bytes as it has at most
head_in_front : (lim : ℕ) (bytes : List ℕ) (h : ResponseHead) (rest : List ℕ) → ReadsResponse bytes h rest → length (print_response h) ≤ lim → (left : List ℕ) × ReadsResponse (take lim bytes) h left
head_in_front lim bytes h rest x short =
    let P = print_response h in
    let d = lim - length P in
    let e : length P + d ≡ lim = omega arith in
    (take d rest, (x.0, ap (take lim) x.1 ∙ subst (λ (z : ℕ). take z (P ++ rest) ≡ P ++ take d rest) e (take-append-add P rest d)))

bad_apart : (bytes : List ℕ) (a : Answer) (rest : List ℕ) → IsAnswer bytes a rest → IsBadHead bytes → ⊥
bad_apart bytes a rest x (inl (inl y)) =
    let whole : ReadsResponse (take head_limit bytes ++ drop head_limit bytes) x.head (a.body ++ rest) = subst (λ (z : List ℕ). ReadsResponse z x.head (a.body ++ rest)) (sym (take-append-drop head_limit bytes)) x.is_head.reads in
    let over = y (drop head_limit bytes) x.head (a.body ++ rest) whole in
    omega (arith, over, x.is_head.few)
bad_apart bytes a rest x (inl (inr y)) =
    let prefix = head_in_front head_limit bytes x.head (a.body ++ rest) x.is_head.reads x.is_head.short in
    y.none x.head prefix.0 prefix.1
bad_apart bytes a rest x (inr y) = framing_apart bytes a rest framing.BadLength x y (λ n e. cc)

-- a response does not stand where the bytes have another end
pub answer_apart : (bytes : List ℕ) (a : Answer) (rest : List ℕ) (e : AnswerEnding) → IsAnswer bytes a rest → IsOfBytes e → EndsAs e bytes → ⊥
answer_apart bytes a rest end.Cut x o y = unfinished_apart bytes a rest x y
answer_apart bytes a rest end.BadHead x o y = bad_apart bytes a rest x y
answer_apart bytes a rest (end.TooLong n) x o y = framing_apart bytes a rest (framing.TooLong n) x y (λ m e. cc)
answer_apart bytes a rest (end.Status c) x o y = framing_apart bytes a rest (framing.Status c) x y (λ m e. cc)
answer_apart bytes a rest end.ReadFault x o y = unfinished_apart bytes a rest x y
answer_apart bytes a rest end.NoMemory x o y = o

-- two cuts of the same bytes have the same responses
pub cut_once : (bytes : List ℕ) (us bs : List Answer) (e f : AnswerEnding) → IsOfBytes e → IsOfBytes f → Cuts bytes us e → Cuts bytes bs f → us ≡ bs
cut_once bytes [] [] e f o p x y = refl
cut_once bytes [] (b ∷ bs) e f o p x y = absurd (answer_apart bytes b y.1.0 e y.1.1 o (subst (EndsAs e) (sym x.1) x.2))
cut_once bytes (a ∷ us) [] e f o p x y = absurd (answer_apart bytes a x.1.0 f x.1.1 p (subst (EndsAs f) (sym y.1) y.2))
cut_once bytes (a ∷ us) (b ∷ bs) e f o p x y =
    let same = answer_once bytes a b x.1.0 y.1.0 x.1.1 y.1.1 in
    ap₂ (λ z zs. z ∷ zs) same.0
    (cut_once x.1.0 us bs e f o p (x.0, x.1.2, x.2) (y.0, subst (λ (z : List ℕ). AreAnswers z bs y.0) (sym same.1) y.1.2, y.2))

bad_more : (bytes more : List ℕ) → IsBadHead bytes → IsBadHead (bytes ++ more)
bad_more bytes more (inl (inl y)) =
    let f = front_more head_limit bytes more in
    inl (inl (subst (ResponseOverflows field_limit) (sym f.1) (overflow_more field_limit (take head_limit bytes) f.0 y)))
bad_more bytes more (inl (inr y)) =
    let same : take head_limit (bytes ++ more) ≡ take head_limit bytes = take-append-le head_limit bytes more y.long in
    inl (inr (record {
      long = omega (arith, length-append bytes more, y.long);
      none = subst HasNoResponse (sym same) y.none;
      may = subst MayBecomeResponse (sym same) y.may;
    }))
bad_more bytes more (inr y) = inr (framing_more bytes more framing.BadLength y)

-- a fault stays one, whatever follows
pub fault_more : (bytes more : List ℕ) (e : AnswerEnding) → IsFault e → EndsAs e bytes → EndsAs e (bytes ++ more)
fault_more bytes more end.Cut o y = absurd o
fault_more bytes more end.BadHead o y = bad_more bytes more y
fault_more bytes more (end.TooLong n) o y = framing_more bytes more (framing.TooLong n) y
fault_more bytes more (end.Status c) o y = framing_more bytes more (framing.Status c) y
fault_more bytes more end.ReadFault o y = absurd o
fault_more bytes more end.NoMemory o y = absurd o
