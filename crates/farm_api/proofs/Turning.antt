-- What one turn of a connection does.
use Rattle.std.proofs.Common.{ℕ, ◌≡◌, ◌≢◌, ◌+◌, ◌≤◌, inl, inr, List, [], ◌∷◌, ◌++◌, Bool, false, Option, Some, None, Result, Ok, Err, refl, sym, ap, ◌∙◌, subst, arith, length, take, append_assoc, IsUtf8}
use Rattle.std.specs.Io.KnownBytes.{Appends}
use Rattle.std.proofs.lemmas.List.{append-nil, length-append, map-append}
use Rattle.std.proofs.lemmas.List.Elements.{All-push, All-nil}
use Rattle.std.proofs.KnownBytes.{Consumes-nil, Consumes-trans, Appends-trans, Appends-nil, Appends-kept}
use Rattle.farm_io.specs.Lines.{input_limit}
use Rattle.farm_io.specs.Streams.{Rose}
use Rattle.farm_io.specs.Beside.{Side, side}
use Rattle.http_door.specs.declared.ending.Ending.{Ending}
use Rattle.http_door.specs.declared.ending.Ending.TheVariants as ending
use Rattle.http_door.specs.declared.reader.Head.{Head}
use Rattle.http_door.specs.declared.responses.ResponseFault.{ResponseFault}
use Rattle.http_door.specs.Requests.{Request, IsRequest, AreRequests, EndsAs}
use Rattle.http_door.specs.Finding.{IsEndOf}
use Rattle.http_door.specs.ReaderValue.{ReaderValue}
use Rattle.http_door.specs.Reading.{request_with, Reads, IsEndFor, HasCauseNext}
use Rattle.http_door.specs.Responses.{HasCauseWritten}
use Rattle.http_door.proofs.Cutting.{requests_more, requests_then}
use Rattle.farm_api.specs.declared.ends.ConnHow.{ConnHow}
use Rattle.farm_api.specs.declared.ends.ConnHow.TheVariants as how
use Rattle.farm_api.specs.Entering.{Entered, AreEntered}
use Rattle.farm_api.specs.Exchanges.{Exchange, Around, IsWhole, entered_in, text_of, requests_of, all_entered, all_text}
use Rattle.farm_api.specs.Serving.{IsStaying, how_after, OneAnswered, end_response, PutsEnd, Standing, untaken, IsUnderWay, EndsOf, IsServed, answered_count, Turned, HasCauseServed}
use Rattle.farm_api.proofs.Enterings.{entered_then}

-- one more exchange

all_entered-last : (xs : List Exchange) (x : Exchange) → all_entered (xs ++ x ∷ []) ≡ all_entered xs ++ entered_in x
all_entered-last [] x = append-nil (entered_in x)
all_entered-last (y ∷ xs) x = ap (λ (zs : List Entered). entered_in y ++ zs) (all_entered-last xs x) ∙ sym (append_assoc (entered_in y) (all_entered xs) (entered_in x))

entered_last : {A : Type 0} (step : A → Entered → A → Type 0) (a m b : A) (xs : List Exchange) (x : Exchange)
    → AreEntered step a (all_entered xs) m → AreEntered step m (entered_in x) b → AreEntered step a (all_entered (xs ++ x ∷ [])) b
entered_last step a m b xs x was is =
    subst (λ (zs : List Entered). AreEntered step a zs b) (sym (all_entered-last xs x)) (entered_then step a (all_entered xs) m (entered_in x) b was is)

all_text-last : (xs : List Exchange) (x : Exchange) → all_text (xs ++ x ∷ []) ≡ all_text xs ++ text_of x
all_text-last [] x = append-nil (text_of x)
all_text-last (y ∷ xs) x = ap (λ (zs : List ℕ). text_of y ++ zs) (all_text-last xs x) ∙ sym (append_assoc (text_of y) (all_text xs) (text_of x))

wrote_last : (start held held' : Option (List ℕ)) (xs : List Exchange) (x : Exchange)
    → Appends start held (all_text xs) → Appends held held' (text_of x) → Appends start held' (all_text (xs ++ x ∷ []))
wrote_last start held held' xs x was is =
    subst (λ (zs : List ℕ). Appends start held' zs) (sym (all_text-last xs x)) (Appends-trans start held held' (all_text xs) (text_of x) was is)

cut_last : (all ahead prefix rest : List ℕ) (xs : List Exchange) (x : Exchange) (r : Request) → AreRequests all (requests_of xs) ahead
    → x.request ≡ r → IsRequest (ahead ++ prefix) r rest → AreRequests (all ++ prefix) (requests_of (xs ++ x ∷ [])) rest
cut_last all ahead prefix rest xs x r was same is =
    subst (λ (rs : List Request). AreRequests (all ++ prefix) rs rest) (sym (map-append (λ (y : Exchange). y.request) xs (x ∷ [])))
    (requests_then (all ++ prefix) (requests_of xs) (ahead ++ prefix) (x.request ∷ []) rest (requests_more all (requests_of xs) ahead prefix was)
    (rest, subst (λ (q : Request). IsRequest (ahead ++ prefix) q rest) (sym same) is, refl))

longer : (xs : List Exchange) (x : Exchange) (n : ℕ) → length xs ≡ n → length (xs ++ x ∷ []) ≡ n + 1
longer xs x n e = omega (arith, length-append xs (x ∷ []), e)

more_bytes : (start old new : ℕ) (all prefix : List ℕ) → old ≡ start + length all → new ≡ old + length prefix → new ≡ start + length (all ++ prefix)
more_bytes start old new all prefix x y = omega (arith, length-append all prefix, x, y)

with_none : (a b : Option (List ℕ)) (text : List ℕ) → Appends a b text → Appends a b (text ++ [])
with_none a b text x = subst (λ (z : List ℕ). Appends a b z) (sym (append-nil text)) x

-- nothing was entered behind
entered_none : {A : Type 0} (step : A → Entered → A → Type 0) (a b : A) (xs : List Entered) → AreEntered step a xs b → AreEntered step a (xs ++ []) b
entered_none step a b xs x = subst (λ (zs : List Entered). AreEntered step a zs b) (sym (append-nil xs)) x

pub turned_request : {A : Type 0} (step : A → Entered → A → Type 0) (around : Around) (a a' : A) (left left' held held' : Option (List ℕ)) (old new : ReaderValue) (h : Head) (out : Option ConnHow)
    → Reads left left' old new (Ok h) → OneAnswered step around a a' (request_with h new.body) held held' out
    → Turned step around (record { state = a; left = left; held = held; ahead = old.ahead; taken = old.taken }) (record { state = a'; left = left'; held = held'; ahead = new.ahead; taken = new.taken }) out
turned_request step around a a' left left' held held' old new h None x y = λ b n u. record {
  answered = u.answered ++ y.0 ∷ [];
  all = u.all ++ x.prefix;
  count = longer u.answered y.0 n u.count;
  bytes = more_bytes b.taken old.taken new.taken u.all x.prefix u.bytes x.count;
  took = Consumes-trans b.left left left' u.all x.prefix u.took x.took;
  cut = cut_last u.all old.ahead x.prefix new.ahead u.answered y.0 (request_with h new.body) u.cut y.1.is x.gives;
  whole = All-push (IsWhole around) u.answered y.0 u.whole y.1.whole;
  entered = entered_last step b.state a a' u.answered y.0 u.entered y.1.entered;
  wrote = wrote_last b.held held held' u.answered y.0 u.wrote y.2;
  staying = All-push IsStaying u.answered y.0 u.staying y.3;
}
turned_request step around a a' left left' held held' old new h (Some how.Closed) x y = λ b n u. record {
  answered = u.answered ++ y.0 ∷ [];
  made = [];
  all = u.all ++ x.prefix;
  rest = new.ahead;
  tail = [];
  count = longer u.answered y.0 n u.count;
  took = Consumes-trans b.left left left' u.all x.prefix u.took x.took;
  cut = cut_last u.all old.ahead x.prefix new.ahead u.answered y.0 (request_with h new.body) u.cut y.1.is x.gives;
  whole = All-push (IsWhole around) u.answered y.0 u.whole y.1.whole;
  entered = entered_none step b.state a' (all_entered (u.answered ++ y.0 ∷ [])) (entered_last step b.state a a' u.answered y.0 u.entered y.1.entered);
  wrote = with_none b.held held' (all_text (u.answered ++ y.0 ∷ [])) (wrote_last b.held held held' u.answered y.0 u.wrote y.2);
  staying = λ other. absurd (other refl);
  ends = (record { prefix = u.answered; last = y.0; whole = refl; closes = y.3; staying = u.staying }, refl, refl);
}
turned_request step around a a' left left' held held' old new h (Some how.WriteFault) x y = λ b n u. record {
  answered = u.answered;
  made = entered_in y.0;
  all = u.all ++ x.prefix;
  rest = old.ahead ++ x.prefix;
  tail = take y.2.0 (text_of y.0);
  count = u.count;
  took = Consumes-trans b.left left left' u.all x.prefix u.took x.took;
  cut = requests_more u.all (requests_of u.answered) old.ahead x.prefix u.cut;
  whole = u.whole;
  entered = entered_then step b.state (all_entered u.answered) a (entered_in y.0) a' u.entered y.1.entered;
  wrote = Appends-trans b.held held held' (all_text u.answered) (take y.2.0 (text_of y.0)) u.wrote y.2.1;
  staying = λ _. u.staying;
  ends = inl (record {
    next = y.0;
    behind = new.ahead;
    is = subst (λ (q : Request). IsRequest (old.ahead ++ x.prefix) q new.ahead) (sym y.1.is) x.gives;
    whole = y.1.whole;
    all_made = refl;
    n = y.2.0;
    prefix = refl;
  });
}
turned_request step around a a' left left' held held' old new h (Some how.NoMemory) x y = λ b n u. record {
  answered = u.answered;
  made = y.0.begun.made;
  all = u.all ++ x.prefix;
  rest = old.ahead ++ x.prefix;
  tail = [];
  count = u.count;
  took = Consumes-trans b.left left left' u.all x.prefix u.took x.took;
  cut = requests_more u.all (requests_of u.answered) old.ahead x.prefix u.cut;
  whole = u.whole;
  entered = entered_then step b.state (all_entered u.answered) a y.0.begun.made a' u.entered y.0.begun.entered;
  wrote = with_none b.held held' (all_text u.answered) (Appends-kept b.held held held' (all_text u.answered) u.wrote y.1);
  staying = λ _. u.staying;
  ends = (
    refl,
    inr (record {
      next = record { request = request_with h new.body; moment = y.0.moment; replies = y.0.begun.replies; given = y.0.given; asked = false };
      behind = new.ahead;
      is = x.gives;
      shown = y.0.shown;
      prefix = y.0.begun.prefix;
    }),
  );
}
turned_request step around a a' left left' held held' old new h (Some how.End) x y = absurd y
turned_request step around a a' left left' held held' old new h (Some how.Cut) x y = absurd y
turned_request step around a a' left left' held held' old new h (Some how.BadRequest) x y = absurd y
turned_request step around a a' left left' held held' old new h (Some how.ReadFault) x y = absurd y
turned_request step around a a' left left' held held' old new h (Some how.InputLimit) x y = absurd y

at_end : (e f : Ending) (bytes : List ℕ) → e ≡ f → EndsAs e bytes → EndsAs f bytes
at_end e f bytes is x = subst (λ (z : Ending). EndsAs z bytes) is x

-- what was put at an end
abbrev tail_of : (h : ConnHow) → (held held' : Option (List ℕ)) (e : Ending) → PutsEnd held held' e h → List ℕ
tail_of how.End held held' e z = []
tail_of how.Closed held held' e z = []
tail_of how.Cut held held' e z = []
tail_of how.BadRequest held held' e z = end_response e
tail_of how.ReadFault held held' e z = []
tail_of how.WriteFault held held' e z = take z.1.0 (end_response e)
tail_of how.InputLimit held held' e z = []
tail_of how.NoMemory held held' e z = []

-- what the end adds to what was put before
wrote_end : (start held held' : Option (List ℕ)) (text : List ℕ) (e : Ending) (h : ConnHow) (z : PutsEnd held held' e h)
    → Appends start held text → Appends start held' (text ++ tail_of h held held' e z)
wrote_end start held held' text e how.End z x = with_none start held' text (Appends-kept start held held' text x z.1)
wrote_end start held held' text e how.Closed z x = absurd z
wrote_end start held held' text e how.Cut z x = with_none start held' text (Appends-kept start held held' text x z.1)
wrote_end start held held' text e how.BadRequest z x = Appends-trans start held held' text (end_response e) x z.1
wrote_end start held held' text e how.ReadFault z x = with_none start held' text (Appends-kept start held held' text x z.1)
wrote_end start held held' text e how.WriteFault z x = Appends-trans start held held' text (take z.1.0 (end_response e)) x z.1.1
wrote_end start held held' text e how.InputLimit z x = with_none start held' text (Appends-kept start held held' text x z.1)
wrote_end start held held' text e how.NoMemory z x = with_none start held' text (Appends-kept start held held' text x z.1)

-- what stands at an end
ends_of : (around : Around) (xs : List Exchange) (rest : List ℕ) (bytes : ℕ) (left held held' : Option (List ℕ)) (e : Ending) (h : ConnHow) (z : PutsEnd held held' e h)
    → EndsAs e rest → IsEndOf e left → (e ≡ ending.InputLimit → bytes ≡ input_limit)
    → EndsOf around xs rest bytes left (tail_of h held held' e z) [] h
ends_of around xs rest bytes left held held' e how.End z x y l = (at_end e ending.End rest z.0 x, y.0 z.0, refl, refl)
ends_of around xs rest bytes left held held' e how.Closed z x y l = absurd z
ends_of around xs rest bytes left held held' e how.Cut z x y l = (at_end e ending.Cut rest z.0 x, y.1 z.0, refl, refl)
ends_of around xs rest bytes left held held' e how.BadRequest z x y l = (e, z.0, x, refl, refl)
ends_of around xs rest bytes left held held' e how.ReadFault z x y l = (at_end e ending.ReadFault rest z.0 x, refl, refl)
ends_of around xs rest bytes left held held' e how.InputLimit z x y l = (at_end e ending.InputLimit rest z.0 x, refl, refl, l z.0)
ends_of around xs rest bytes left held held' e how.NoMemory z x y l = (refl, inl refl)
ends_of around xs rest bytes left held held' e how.WriteFault z x y l =
    inr (record { why = e; n = z.1.0; refusal = z.0; ends = x; prefix = refl }, refl)

same_count : (n : ℕ) (held held' : Option (List ℕ)) (e : Ending) (h : ConnHow) → PutsEnd held held' e h → answered_count n h ≡ n
same_count n held held' e how.End z = refl
same_count n held held' e how.Closed z = absurd z
same_count n held held' e how.Cut z = refl
same_count n held held' e how.BadRequest z = refl
same_count n held held' e how.ReadFault z = refl
same_count n held held' e how.WriteFault z = refl
same_count n held held' e how.InputLimit z = refl
same_count n held held' e how.NoMemory z = refl

bytes_at : (e : Ending) (start old new : ℕ) (all prefix : List ℕ) → old ≡ start + length all → new ≡ old + length prefix → (e ≡ ending.InputLimit → new ≡ input_limit)
    → e ≡ ending.InputLimit → start + length (all ++ prefix) ≡ input_limit
bytes_at e start old new all prefix x y l is = sym (more_bytes start old new all prefix x y) ∙ l is

pub turned_end : {A : Type 0} (step : A → Entered → A → Type 0) (around : Around) (a : A) (left left' held held' : Option (List ℕ)) (old new : ReaderValue) (e : Ending) (h : ConnHow)
    → Reads left left' old new (Err e) → IsEndOf e left' → (e ≡ ending.InputLimit → new.taken ≡ input_limit) → PutsEnd held held' e h
    → Turned step around (record { state = a; left = left; held = held; ahead = old.ahead; taken = old.taken }) (record { state = a; left = left'; held = held'; ahead = new.ahead; taken = new.taken }) (Some h)
turned_end step around a left left' held held' old new e h x end limit z = λ b n u. record {
  answered = u.answered;
  made = [];
  all = u.all ++ x.prefix;
  rest = old.ahead ++ x.prefix;
  tail = tail_of h held held' e z;
  count = u.count ∙ sym (same_count n held held' e h z);
  took = Consumes-trans b.left left left' u.all x.prefix u.took x.took;
  cut = requests_more u.all (requests_of u.answered) old.ahead x.prefix u.cut;
  whole = u.whole;
  entered = entered_none step b.state a (all_entered u.answered) u.entered;
  wrote = wrote_end b.held held held' (all_text u.answered) e h z u.wrote;
  staying = λ _. u.staying;
  ends = ends_of around u.answered (old.ahead ++ x.prefix) (b.taken + length (u.all ++ x.prefix)) left' held held' e h z
      x.gives.0 end
      (bytes_at e b.taken old.taken new.taken u.all x.prefix u.bytes x.count limit);
}

-- the target of a request is UTF-8
pub target_text : (bytes : List ℕ) (h : Head) (body rest : List ℕ) → IsRequest bytes (request_with h body) rest → IsUtf8 h.target
target_text bytes h body rest x = subst IsUtf8 (sym (ap (λ (r : Request). r.target) x.is)) x.is_head.reads.0.target_text

end_from : (was now : Option Ending) (e : Ending) (left left' : Option (List ℕ)) → was ≡ None → now ≡ Some e → (IsEndFor was left → IsEndFor now left') → IsEndOf e left'
end_from was now e left left' w n h =
    subst (λ (z : Option Ending). IsEndFor z left') n (h (subst (λ (z : Option Ending). IsEndFor z left) (sym w) tt))

-- The same on one connection, whose sides leave each other

pub bytes_beside : {N : Type 0} (beside : N → Side) (bytes : N → Option (List ℕ)) (faults : N → ℕ) (old new : N)
    → ((n : N) → beside n ≡ side (bytes n) (faults n)) → beside new ≡ beside old → bytes new ≡ bytes old
bytes_beside beside bytes faults old new is kept = ap (λ (s : Side). s.bytes) (sym (is new) ∙ kept ∙ is old)

pub faults_beside : {N : Type 0} (beside : N → Side) (bytes : N → Option (List ℕ)) (faults : N → ℕ) (old new : N)
    → ((n : N) → beside n ≡ side (bytes n) (faults n)) → beside new ≡ beside old → faults new ≡ faults old
faults_beside beside bytes faults old new is kept = ap (λ (s : Side). s.faults) (sym (is new) ∙ kept ∙ is old)

pub turned_request_on : {A : Type 0} (step : A → Entered → A → Type 0) (around : Around) (a a' : A) (left mid left' held held1 held' : Option (List ℕ)) (old new : ReaderValue) (h : Head) (body : List ℕ) (out : Option ConnHow)
    → left' ≡ mid → held1 ≡ held → body ≡ new.body → Reads left mid old new (Ok h) → OneAnswered step around a a' (request_with h body) held1 held' out
    → Turned step around (record { state = a; left = left; held = held; ahead = old.ahead; taken = old.taken }) (record { state = a'; left = left'; held = held'; ahead = new.ahead; taken = new.taken }) out
turned_request_on step around a a' left mid left' held held1 held' old new h body out l k b x y =
    turned_request step around a a' left left' held held' old new h out (subst (λ (z : Option (List ℕ)). Reads left z old new (Ok h)) (sym l) x)
    (subst (λ (z : Option (List ℕ)). OneAnswered step around a a' (request_with h new.body) z held' out) k
    (subst (λ (z : List ℕ). OneAnswered step around a a' (request_with h z) held1 held' out) b y))

pub turned_end_on : {A : Type 0} (step : A → Entered → A → Type 0) (around : Around) (a : A) (left mid left' held held1 held' : Option (List ℕ)) (old new : ReaderValue) (e : Ending) (h : ConnHow)
    → left' ≡ mid → held1 ≡ held → old.ended ≡ None → Reads left mid old new (Err e) → new.ended ≡ Some e
    → (IsEndFor old.ended left → IsEndFor new.ended mid) → (e ≡ ending.InputLimit → new.taken ≡ input_limit) → PutsEnd held1 held' e h
    → Turned step around (record { state = a; left = left; held = held; ahead = old.ahead; taken = old.taken }) (record { state = a; left = left'; held = held'; ahead = new.ahead; taken = new.taken }) (Some h)
turned_end_on step around a left mid left' held held1 held' old new e h l k going x ends ended limit y =
    turned_end step around a left left' held held' old new e h (subst (λ (z : Option (List ℕ)). Reads left z old new (Err e)) (sym l) x)
    (subst (λ (z : Option (List ℕ)). IsEndOf e z) (sym l) (end_from old.ended new.ended e left mid going ends ended))
    limit
    (subst (λ (z : Option (List ℕ)). PutsEnd z held' e h) k y)

-- Causes

some_how : (h k : ConnHow) → Some h ≡ Some k → h ≡ k
some_how h k e = cc

-- a connection ends for a fault of its source only where the reader has
fault_of : (held held' : Option (List ℕ)) (e : Ending) (h : ConnHow) → PutsEnd held held' e h → Some h ≡ Some how.ReadFault → e ≡ ending.ReadFault
fault_of held held' e h y is = let z = subst (λ (k : ConnHow). PutsEnd held held' e k) (some_how h how.ReadFault is) y in z.0

no_fault : {A : Type 0} (step : A → Entered → A → Type 0) (around : Around) (a b : A) (r : Request) (held held' : Option (List ℕ)) (out : Option ConnHow)
    → OneAnswered step around a b r held held' out → ¬ (out ≡ Some how.ReadFault)
no_fault step around a b r held held' out y is = subst (λ (z : Option ConnHow). OneAnswered step around a b r held held' z) is y

pub cause_request : {A : Type 0} (step : A → Entered → A → Type 0) (around : Around) (a b : A) (r : Request) (held held' : Option (List ℕ)) (out : Option ConnHow) (read0 read1 read2 write0 write1 write2 : ℕ)
    → OneAnswered step around a b r held held' out → read1 ≡ read0 → read2 ≡ read1 → write1 ≡ write0 → write1 ≤ write2 → (out ≡ Some how.WriteFault → Rose write1 write2) → (out ≢ Some how.WriteFault → write2 ≡ write1)
    → HasCauseServed read0 read2 write0 write2 out
cause_request step around a b r held held' out read0 read1 read2 write0 write1 write2 y whole same kept more rose still = record {
  read_later = omega (arith, whole, same);
  write_later = omega (arith, kept, more);
  read_failed = λ is. absurd (no_fault step around a b r held held' out y is);
  write_failed = λ is. subst (λ (n : ℕ). Rose n write2) kept (rose is);
  read_kept = λ _ _ _. same ∙ whole;
  write_kept = λ other. still other ∙ kept;
}

err_is : (e f : Ending) → ◌≡◌ {A = Result Head Ending} (Err e) (Err f) → e ≡ f
err_is e f q = cc

-- a connection that ends with no fault and no refusal, by the end of its requests
end_of_none : (held held' : Option (List ℕ)) (e : Ending) (h : ConnHow) → PutsEnd held held' e h → Some h ≢ Some how.ReadFault → Some h ≢ Some how.BadRequest → Some h ≢ Some how.WriteFault → (e ≢ ending.ReadFault) × (e ≢ ending.BadHead)
end_of_none held held' e how.End y sound fit put = (λ q. (let bad : ending.End ≡ ending.ReadFault = sym y.0 ∙ q in cc), λ q. (let bad : ending.End ≡ ending.BadHead = sym y.0 ∙ q in cc))
end_of_none held held' e how.Closed y sound fit put = absurd y
end_of_none held held' e how.Cut y sound fit put = (λ q. (let bad : ending.Cut ≡ ending.ReadFault = sym y.0 ∙ q in cc), λ q. (let bad : ending.Cut ≡ ending.BadHead = sym y.0 ∙ q in cc))
end_of_none held held' e how.BadRequest y sound fit put = absurd (fit refl)
end_of_none held held' e how.ReadFault y sound fit put = absurd (sound refl)
end_of_none held held' e how.WriteFault y sound fit put = absurd (put refl)
end_of_none held held' e how.InputLimit y sound fit put = (λ q. (let bad : ending.InputLimit ≡ ending.ReadFault = sym y.0 ∙ q in cc), λ q. (let bad : ending.InputLimit ≡ ending.BadHead = sym y.0 ∙ q in cc))
end_of_none held held' e how.NoMemory y sound fit put = (λ q. (let bad : ending.NoMemory ≡ ending.ReadFault = sym y.0 ∙ q in cc), λ q. (let bad : ending.NoMemory ≡ ending.BadHead = sym y.0 ∙ q in cc))

pub cause_end : (held held' : Option (List ℕ)) (e : Ending) (h : ConnHow) (was : Option Ending) (read0 read1 read2 write0 write1 write2 : ℕ)
    → PutsEnd held held' e h → was ≡ None → HasCauseNext was read0 read1 (Err e) → read2 ≡ read1 → write1 ≡ write0 → write1 ≤ write2 → (h ≡ how.WriteFault → Rose write1 write2) → (h ≢ how.WriteFault → write2 ≡ write1)
    → HasCauseServed read0 read2 write0 write2 (Some h)
cause_end held held' e h was read0 read1 read2 write0 write1 write2 y going cause same kept more rose still = record {
  read_later = omega (arith, cause.later, same);
  write_later = omega (arith, kept, more);
  read_failed = λ q. subst (λ (z : ℕ). Rose read0 z) (sym same) (cause.failed going (ap Err (fault_of held held' e h y q)));
  write_failed = λ q. subst (λ (z : ℕ). Rose z write2) kept (rose (some_how h how.WriteFault q));
  read_kept = λ sound fit put. (let other = end_of_none held held' e h y sound fit put in same ∙ cause.kept (λ q. other.0 (err_is e ending.ReadFault q)) (λ q. other.1 (err_is e ending.BadHead q)));
  write_kept = λ other. still (λ q. other (ap Some q)) ∙ kept;
}

-- what came before a fault, of a connection that has not failed yet
pub cause_since : (read0 read1 read2 write0 write1 write2 : ℕ) (out : Option ConnHow) → read1 ≡ read0 → write1 ≡ write0 → HasCauseServed read1 read2 write1 write2 out → HasCauseServed read0 read2 write0 write2 out
cause_since read0 read1 read2 write0 write1 write2 out read write c = subst (λ (z : ℕ × ℕ). HasCauseServed z.0 read2 z.1 write2 out) (λ i. (read i, write i)) c

-- the sink failed only where the response's put did
pub how_kept : (written : Result (Unit {0}) ResponseFault) (close : Bool) (before now : ℕ) (how' : Option ConnHow) → how' ≡ how_after written close → HasCauseWritten before now written → how' ≢ Some how.WriteFault → now ≡ before
how_kept written close before now how' is c other = c.kept (λ q. other (is ∙ ap (λ (z : Result (Unit {0}) ResponseFault). how_after z close) q))

-- nothing was read and nothing put
pub served_none : {A : Type 0} (step : A → Entered → A → Type 0) (around : Around) (a : A) (left held : Option (List ℕ))
    → IsServed (AreEntered step) around (untaken a left held) (untaken a left held) 0 how.NoMemory
served_none step around a left held = record {
  answered = [];
  made = [];
  all = [];
  rest = [];
  tail = [];
  count = refl;
  took = Consumes-nil left;
  cut = refl;
  whole = All-nil (IsWhole around);
  entered = refl;
  wrote = Appends-nil held;
  staying = λ _. All-nil IsStaying;
  ends = (refl, inl refl);
}

-- a connection that has not begun is under way
pub under_way_none : {A : Type 0} (step : A → Entered → A → Type 0) (around : Around) (a : A) (left held : Option (List ℕ))
    → IsUnderWay step around (untaken a left held) (untaken a left held) 0
under_way_none step around a left held = record {
  answered = [];
  all = [];
  count = refl;
  bytes = refl;
  took = Consumes-nil left;
  cut = refl;
  whole = All-nil (IsWhole around);
  entered = refl;
  wrote = Appends-nil held;
  staying = All-nil IsStaying;
}

-- what is still held does not matter at an end
pub served_with : {A : Type 0} (step : A → Entered → A → Type 0) (around : Around) (b : Standing A) (a : A) (left held : Option (List ℕ)) (ahead : List ℕ) (taken : ℕ) (n : ℕ) (h : ConnHow)
    → IsServed (AreEntered step) around b (record { state = a; left = left; held = held; ahead = ahead; taken = taken }) n h
    → IsServed (AreEntered step) around b (untaken a left held) n h
served_with step around b a left held ahead taken n h u = record {
  answered = u.answered;
  made = u.made;
  all = u.all;
  rest = u.rest;
  tail = u.tail;
  count = u.count;
  took = u.took;
  cut = u.cut;
  whole = u.whole;
  entered = u.entered;
  wrote = u.wrote;
  staying = u.staying;
  ends = u.ends;
}
