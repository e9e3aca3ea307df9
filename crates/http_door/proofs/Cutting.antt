-- Laws of the cut into requests.
use Rattle.std.proofs.Common.{ℕ, ◌≡◌, ◌≤◌, ◌<◌, ◌-◌, ◌+◌, ◌⊎◌, inl, inr, List, [], ◌∷◌, ◌++◌, refl, sym, ap, ap₂, ◌∙◌, subst, arith, length, take, drop, append_assoc}
use Rattle.std.proofs.lemmas.Bool.{cases_lt}
use Rattle.std.proofs.lemmas.List.{append-nil, take_all, length-append, take-append-drop, take-append-le}
use Rattle.std.proofs.Math.Seq.{take-append-add}
use Rattle.httparse.specs.Grammar.{RequestHead, ReadsRequest, HasNoRequest, MayBecomeRequest, print_request}
use Rattle.httparse.specs.Spans.{RequestOverflows}
use Rattle.httparse.proofs.GrammarLemmas.{request_unique, ReadsRequest-append}
use Rattle.http_door.specs.declared.fields.Framing.{Framing}
use Rattle.http_door.specs.declared.fields.Framing.TheVariants as framing
use Rattle.http_door.specs.declared.ending.Ending.{Ending}
use Rattle.http_door.specs.declared.ending.Ending.TheVariants as end
use Rattle.http_door.specs.Heads.{head_limit, field_limit, framing_of}
use Rattle.http_door.specs.Requests.{Request, request_of, IsHead, IsRequest, AreRequests, HasFraming, IsUnfinished, EndsAs, Cuts, IsRefusal, IsOfBytes}

pub head_more : (bytes : List ℕ) (h : RequestHead) (rest more : List ℕ) → IsHead bytes h rest → IsHead (bytes ++ more) h (rest ++ more)
head_more bytes h rest more x = record { reads = ReadsRequest-append bytes h rest more x.reads; short = x.short; few = x.few }

-- whatever follows, the request stands there
pub request_more : (bytes : List ℕ) (r : Request) (rest more : List ℕ) → IsRequest bytes r rest → IsRequest (bytes ++ more) r (rest ++ more)
request_more bytes r rest more x = record {
  head = x.head;
  is_head = subst (λ (z : List ℕ). IsHead (bytes ++ more) x.head z) (append_assoc r.body rest more) (head_more bytes x.head (r.body ++ rest) more x.is_head);
  framing = x.framing;
  is = x.is;
}

pub requests_more : (bytes : List ℕ) (rs : List Request) (rest more : List ℕ) → AreRequests bytes rs rest → AreRequests (bytes ++ more) rs (rest ++ more)
requests_more bytes [] rest more x = ap (λ z. z ++ more) x
requests_more bytes (r ∷ rs) rest more x = (x.0 ++ more, request_more bytes r x.0 more x.1, requests_more x.0 rs rest more x.2)

-- more requests behind them
pub requests_then : (bytes : List ℕ) (rs : List Request) (middle : List ℕ) (qs : List Request) (rest : List ℕ) → AreRequests bytes rs middle → AreRequests middle qs rest → AreRequests bytes (rs ++ qs) rest
requests_then bytes [] middle qs rest x y = subst (λ (z : List ℕ). AreRequests z qs rest) (sym x) y
requests_then bytes (r ∷ rs) middle qs rest x y = (x.0, x.1, requests_then x.0 rs middle qs rest x.2 y)

pub head_unique : (bytes : List ℕ) (h k : RequestHead) (r q : List ℕ) → IsHead bytes h r → IsHead bytes k q → (h ≡ k) × (r ≡ q)
head_unique bytes h k r q x y = request_unique bytes h k r q x.reads y.reads

pub sized_same : (m n : ℕ) → framing.Sized m ≡ framing.Sized n → m ≡ n
sized_same m n e = cc

pub same_parts : (a b c d : List ℕ) → length a ≡ length b → a ++ c ≡ b ++ d → (a ≡ b) × (c ≡ d)
same_parts [] [] c d e w = (refl, w)
same_parts [] (y ∷ b) c d e w = absurd (omega (arith, e))
same_parts (x ∷ a) [] c d e w = absurd (omega (arith, e))
same_parts (x ∷ a) (y ∷ b) c d e w =
    let both = same_parts a b c d (omega (arith, e)) (cc) in
    (let h : x ≡ y = cc in ap₂ (λ z zs. z ∷ zs) h both.0, both.1)

-- at most one request stands there
pub request_once : (bytes : List ℕ) (r q : Request) (rest left : List ℕ) → IsRequest bytes r rest → IsRequest bytes q left → (r ≡ q) × (rest ≡ left)
request_once bytes r q rest left x y =
    let same = head_unique bytes x.head y.head (r.body ++ rest) (q.body ++ left) x.is_head y.is_head in
    let sizes : length r.body ≡ length q.body = sized_same (length r.body) (length q.body) (sym x.framing ∙ ap framing_of same.0 ∙ y.framing) in
    let parts = same_parts r.body q.body rest left sizes same.1 in
    (x.is ∙ ap₂ request_of same.0 parts.0 ∙ sym y.is, parts.1)

framing_more : (bytes more : List ℕ) (f : Framing) → HasFraming f bytes → HasFraming f (bytes ++ more)
framing_more bytes more f y = (y.0, y.1 ++ more, head_more bytes y.0 y.1 more y.2, y.3)

overflow_more : (room : ℕ) (bytes more : List ℕ) → RequestOverflows room bytes → RequestOverflows room (bytes ++ more)
overflow_more room bytes more y = λ after h rest x. y (more ++ after) h rest (subst (λ (z : List ℕ). ReadsRequest z h rest) (append_assoc bytes more after) x)

-- a prefix of more bytes goes on from that of fewer
front_more_at : (n : ℕ) (xs ys : List ℕ) → (length xs < n) ⊎ (n ≤ length xs) → (zs : List ℕ) × (take n (xs ++ ys) ≡ take n xs ++ zs)
front_more_at n xs ys (inl h) =
    let d = n - length xs in
    let e : length xs + d ≡ n = omega arith in
    (take d ys, subst (λ (z : ℕ). take z (xs ++ ys) ≡ take z xs ++ take d ys) e (take-append-add xs ys d ∙ ap (λ z. z ++ take d ys) (sym (take_all (length xs + d) xs (omega arith)))))
front_more_at n xs ys (inr h) = ([], take-append-le n xs ys h ∙ sym (append-nil (take n xs)))

pub front_more : (n : ℕ) (xs ys : List ℕ) → (zs : List ℕ) × (take n (xs ++ ys) ≡ take n xs ++ zs)
front_more n xs ys = front_more_at n xs ys (cases_lt (length xs) n)

unfinished_apart : (bytes : List ℕ) (r : Request) (rest : List ℕ) → IsRequest bytes r rest → IsUnfinished bytes → ⊥
unfinished_apart bytes r rest x (inl y) = y.none x.head (r.body ++ rest) x.is_head.reads
unfinished_apart bytes r rest x (inr y) =
    let same = head_unique bytes x.head y.head (r.body ++ rest) y.rest x.is_head y.is_head in
    let sizes : length r.body ≡ y.len = sized_same (length r.body) y.len (sym x.framing ∙ ap framing_of same.0 ∙ y.framing) in
    let n = ap length same.1 in
    omega (arith, y.short, sizes, n, length-append r.body rest)

framing_apart : (bytes : List ℕ) (r : Request) (rest : List ℕ) (f : Framing) → IsRequest bytes r rest → HasFraming f bytes → ((n : ℕ) → ¬ (framing.Sized n ≡ f)) → ⊥
framing_apart bytes r rest f x y apart =
    let same = head_unique bytes x.head y.0 (r.body ++ rest) y.1 x.is_head y.2 in
    apart (length r.body) (sym x.framing ∙ ap framing_of same.0 ∙ y.3)

-- a head stands in as many bytes as it has at most
head_in_front : (lim : ℕ) (bytes : List ℕ) (h : RequestHead) (rest : List ℕ) → ReadsRequest bytes h rest → length (print_request h) ≤ lim → (left : List ℕ) × ReadsRequest (take lim bytes) h left
head_in_front lim bytes h rest x short =
    let P = print_request h in
    let d = lim - length P in
    let e : length P + d ≡ lim = omega arith in
    (take d rest, (x.0, ap (take lim) x.1 ∙ subst (λ (z : ℕ). take z (P ++ rest) ≡ P ++ take d rest) e (take-append-add P rest d)))

-- a head has a byte
pub some_head : (h : RequestHead) (rest : List ℕ) → 0 < length h.method → ¬ ([] ≡ print_request h ++ rest)
unfolding print_request
some_head h rest some e = let n = ap length e in absurd (omega (arith, some, simp length-append at n))

-- a request does not stand where the bytes have another end
pub request_apart : (bytes : List ℕ) (r : Request) (rest : List ℕ) (e : Ending) → IsRequest bytes r rest → IsOfBytes e → EndsAs e bytes → ⊥
request_apart bytes r rest end.End x o y = some_head x.head (r.body ++ rest) x.is_head.reads.0.method.0 (sym y ∙ x.is_head.reads.1)
request_apart bytes r rest end.Cut x o y = unfinished_apart bytes r rest x y.1
request_apart bytes r rest end.BadHead x o (inl y) =
    let whole : ReadsRequest (take head_limit bytes ++ drop head_limit bytes) x.head (r.body ++ rest) = subst (λ (z : List ℕ). ReadsRequest z x.head (r.body ++ rest)) (sym (take-append-drop head_limit bytes)) x.is_head.reads in
    let over = y (drop head_limit bytes) x.head (r.body ++ rest) whole in
    omega (arith, over, x.is_head.few)
request_apart bytes r rest end.BadHead x o (inr y) = framing_apart bytes r rest framing.BadLength x y (λ n e. cc)
request_apart bytes r rest (end.HeadTooLong n) x o y =
    let prefix = head_in_front head_limit bytes x.head (r.body ++ rest) x.is_head.reads x.is_head.short in
    y.1.none x.head prefix.0 prefix.1
request_apart bytes r rest (end.BodyTooLong n) x o y = framing_apart bytes r rest (framing.TooLong n) x y (λ m e. cc)
request_apart bytes r rest end.NoLength x o y = framing_apart bytes r rest framing.NoLength x y (λ n e. cc)
request_apart bytes r rest end.ReadFault x o y = unfinished_apart bytes r rest x y
request_apart bytes r rest end.InputLimit x o y = unfinished_apart bytes r rest x y
request_apart bytes r rest end.NoMemory x o y = o

-- two cuts of the same bytes have the same requests
pub cut_once : (bytes : List ℕ) (rs qs : List Request) (e f : Ending) → IsOfBytes e → IsOfBytes f → Cuts bytes rs e → Cuts bytes qs f → rs ≡ qs
cut_once bytes [] [] e f o p x y = refl
cut_once bytes [] (q ∷ qs) e f o p x y = absurd (request_apart bytes q y.1.0 e y.1.1 o (subst (EndsAs e) (sym x.1) x.2))
cut_once bytes (r ∷ rs) [] e f o p x y = absurd (request_apart bytes r x.1.0 f x.1.1 p (subst (EndsAs f) (sym y.1) y.2))
cut_once bytes (r ∷ rs) (q ∷ qs) e f o p x y =
    let same = request_once bytes r q x.1.0 y.1.0 x.1.1 y.1.1 in
    ap₂ (λ z zs. z ∷ zs) same.0
    (cut_once x.1.0 rs qs e f o p (x.0, x.1.2, x.2) (y.0, subst (λ (z : List ℕ). AreRequests z qs y.0) (sym same.1) y.1.2, y.2))

-- a refusal stays one, whatever follows
pub refusal_more : (bytes more : List ℕ) (e : Ending) → IsRefusal e → EndsAs e bytes → EndsAs e (bytes ++ more)
refusal_more bytes more end.End o y = absurd o
refusal_more bytes more end.Cut o y = absurd o
refusal_more bytes more end.BadHead o (inl y) =
    let f = front_more head_limit bytes more in
    inl (subst (RequestOverflows field_limit) (sym f.1) (overflow_more field_limit (take head_limit bytes) f.0 y))
refusal_more bytes more end.BadHead o (inr y) = inr (framing_more bytes more framing.BadLength y)
refusal_more bytes more (end.HeadTooLong n) o y =
    let same : take head_limit (bytes ++ more) ≡ take head_limit bytes = take-append-le head_limit bytes more y.1.long in (
      y.0,
      record {
        long = omega (arith, length-append bytes more, y.1.long);
        none = subst HasNoRequest (sym same) y.1.none;
        may = subst MayBecomeRequest (sym same) y.1.may;
      },
    )
refusal_more bytes more (end.BodyTooLong n) o y = framing_more bytes more (framing.TooLong n) y
refusal_more bytes more end.NoLength o y = framing_more bytes more framing.NoLength y
refusal_more bytes more end.ReadFault o y = absurd o
refusal_more bytes more end.InputLimit o y = absurd o
refusal_more bytes more end.NoMemory o y = absurd o

-- a head has a byte
pub head_some : (h : RequestHead) → 0 < length h.method → 0 < length (print_request h)
unfolding print_request
head_some h some = simp length-append (omega (arith, some))

-- a request has a byte
pub request_some : (bytes : List ℕ) (r : Request) (rest : List ℕ) → IsRequest bytes r rest → length rest < length bytes
request_some bytes r rest x =
    omega (arith, head_some x.head x.is_head.reads.0.method.0, ap length x.is_head.reads.1, length-append (print_request x.head) (r.body ++ rest), length-append r.body rest)
