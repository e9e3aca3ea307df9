-- Where all requests are sound and no side fails, all are answered.
use Rattle.std.proofs.Common.{ℕ, ◌≡◌, ◌+◌, ◌<◌, ◌⊎◌, inl, inr, List, [], ◌∷◌, ◌++◌, Bool, true, false, Option, Some, None, refl, sym, ap, ap₂, ◌∙◌, subst, arith, length, length-append, append_assoc, append-nil}
use Rattle.std.specs.Prelude.{All}
use Rattle.std.specs.Io.KnownBytes.{Consumes, IsAtEnd}
use Rattle.std.proofs.lemmas.List.{length-map, map-append}
use Rattle.std.proofs.lemmas.List.Elements.{All-head, All-tail}
use Rattle.farm_io.specs.Lines.{input_limit}
use Rattle.farm_io.specs.Streams.{Rose}
use Rattle.http_door.specs.declared.ending.Ending.{Ending}
use Rattle.http_door.specs.declared.ending.Ending.TheVariants as ending
use Rattle.http_door.specs.Requests.{Request, AreRequests, EndsAs, IsRefusal, IsOfBytes}
use Rattle.http_door.proofs.Cutting.{request_some, request_once, request_apart, requests_more, refusal_more}
use Rattle.http_door.proofs.Between.{none_refused}
use Rattle.farm_api.specs.declared.ends.ConnHow.{ConnHow}
use Rattle.farm_api.specs.declared.ends.ConnHow.TheVariants as how
use Rattle.farm_api.specs.Entering.{Entered}
use Rattle.farm_api.specs.Exchanges.{Exchange, Around, IsWhole, requests_of}
use Rattle.farm_api.specs.Serving.{untaken, IsClosed, EndsOf, IsServed, HasCauseServed, AnswersAll}

-- of requests that are all of the bytes, those that were found come first
sound_prefix : (bytes : List ℕ) (qs : List Request) (rest : List ℕ) (rs : List Request) → AreRequests bytes qs rest → AreRequests bytes rs []
    → (more : List Request) × (rs ≡ qs ++ more) × AreRequests rest more []
sound_prefix bytes [] rest rs x y = (rs, refl, subst (λ (z : List ℕ). AreRequests z rs []) x y)
sound_prefix bytes (q ∷ qs) rest [] x y = let none = ap length y in absurd (omega (arith, request_some bytes q x.0 x.1, none))
sound_prefix bytes (q ∷ qs) rest (r ∷ rs) x y =
    let same = request_once bytes r q y.0 x.0 y.1 x.1 in
    let more = sound_prefix x.0 qs rest rs x.2 (subst (λ (z : List ℕ). AreRequests z rs []) same.1 y.2) in
    (more.0, ap₂ (λ (z : Request) (zs : List Request). z ∷ zs) same.0 more.1, more.2)

none_more : (more : List Request) → AreRequests [] more [] → more ≡ []
none_more [] x = refl
none_more (m ∷ more) x = absurd (omega (arith, request_some [] m x.0 x.1))

-- sound requests do not end as bytes do that hold no request
no_other_end : (rest : List ℕ) (more : List Request) (e : Ending) → IsOfBytes e → (rest ≡ [] → EndsAs e rest → ⊥) → EndsAs e rest → AreRequests rest more [] → ⊥
no_other_end rest [] e o some ends x = some x ends
no_other_end rest (m ∷ more) e o some ends x = request_apart rest m x.0 e x.1 o ends

of_bytes : (e : Ending) → IsRefusal e → IsOfBytes e
of_bytes ending.End x = tt
of_bytes ending.Cut x = tt
of_bytes ending.BadHead x = x
of_bytes (ending.HeadTooLong n) x = x
of_bytes (ending.BodyTooLong n) x = x
of_bytes ending.NoLength x = x
of_bytes ending.ReadFault x = tt
of_bytes ending.InputLimit x = tt
of_bytes ending.NoMemory x = x

-- one of these requests stays as the others do
one_stays : (qs : List Request) (r : Request) (more : List Request) → All (λ (z : Request). z.close ≡ false) (qs ++ r ∷ more) → r.close ≡ false
one_stays [] r more h = All-head (λ (z : Request). z.close ≡ false) r more h
one_stays (q ∷ qs) r more h = one_stays qs r more (All-tail (λ (z : Request). z.close ≡ false) q (qs ++ r ∷ more) h)

last_whole : (around : Around) (prefix : List Exchange) (x : Exchange) → All (IsWhole around) (prefix ++ x ∷ []) → IsWhole around x
last_whole around [] x h = All-head (IsWhole around) x [] h
last_whole around (y ∷ prefix) x h = last_whole around prefix x (All-tail (IsWhole around) y (prefix ++ x ∷ []) h)

asked_last : (asked close : Bool) → close ≡ false → (close ≡ true) ⊎ (asked ≡ true) → asked ≡ true
asked_last asked close stays (inl closes) = let both : true ≡ false = sym closes ∙ stays in cc both
asked_last asked close stays (inr asks) = asks

-- where no request asks to close, the server does
closed_by : (around : Around) (xs : List Exchange) (rs more : List Request) → IsClosed xs → All (IsWhole around) xs → All (λ (z : Request). z.close ≡ false) rs → rs ≡ requests_of xs ++ more → around.asks ≡ true
closed_by around xs rs more c whole stay is =
    let prefix = requests_of c.prefix in
    let last : requests_of xs ≡ prefix ++ c.last.request ∷ [] = ap requests_of c.whole ∙ map-append (λ (x : Exchange). x.request) c.prefix (c.last ∷ []) in
    let all : rs ≡ prefix ++ c.last.request ∷ more = is ∙ ap (λ (qs : List Request). qs ++ more) last ∙ append_assoc prefix (c.last.request ∷ []) more in
    let stays : c.last.request.close ≡ false = one_stays prefix c.last.request more (subst (All (λ (z : Request). z.close ≡ false)) all stay) in
    (last_whole around c.prefix c.last (subst (All (IsWhole around)) c.whole whole)).asked (asked_last c.last.asked c.last.request.close stays c.closes)

-- the count of all requests
counts_all : (xs : List Exchange) (rs more : List Request) (n : ℕ) → length xs ≡ n → rs ≡ requests_of xs ++ more → more ≡ [] → n ≡ length rs
counts_all xs rs more n count is none =
    let whole : length rs ≡ length (requests_of xs ++ more) = ap length is in
    let nothing : length more ≡ 0 = ap length none in
    omega (arith, count, whole, nothing, length-append (requests_of xs) more, length-map xs (λ (x : Exchange). x.request))

-- what was consumed of known bytes
left_known : (bytes : List ℕ) (left : Option (List ℕ)) (all : List ℕ) → Consumes (Some bytes) left all → (ys : List ℕ) × (left ≡ Some ys) × (bytes ≡ all ++ ys)
left_known bytes None all x = absurd x
left_known bytes (Some ys) all x = (ys, refl, x)

by_end : (around : Around) (xs : List Exchange) (all rest tail ys bytes : List ℕ) (left : Option (List ℕ)) (made : List Entered) (rs more : List Request) (read read' write write' n : ℕ) (h : ConnHow)
    → EndsOf around xs rest (0 + length all) left tail made h → HasCauseServed read read' write write' (Some h) → length xs ≡ n
    → left ≡ Some ys → bytes ≡ all ++ ys → length bytes < input_limit → All (λ (z : Request). z.close ≡ false) rs → rs ≡ requests_of xs ++ more
    → AreRequests (rest ++ ys) more [] → All (IsWhole around) xs → ¬ Rose read read' → ¬ Rose write write' → ((h ≡ how.End) × (n ≡ length rs)) ⊎ (h ≡ how.NoMemory) ⊎ ((h ≡ how.Closed) × (around.asks ≡ true))
by_end around xs all rest tail ys bytes left made rs more read read' write write' n how.End ends cause count known whole few stay is others exchanges reads writes =
    let behind : ys ≡ [] = subst IsAtEnd known ends.1 in
    let nothing : rest ++ ys ≡ [] = ap₂ (λ (a b : List ℕ). a ++ b) ends.0 behind in
    inl (refl, counts_all xs rs more n count is (none_more more (subst (λ (z : List ℕ). AreRequests z more []) nothing others)))
by_end around xs all rest tail ys bytes left made rs more read read' write write' n how.Closed ends cause count known whole few stay is others exchanges reads writes =
    inr (inr (refl, closed_by around xs rs more ends.0 exchanges stay is))
by_end around xs all rest tail ys bytes left made rs more read read' write write' n how.Cut ends cause count known whole few stay is others exchanges reads writes =
    let behind : ys ≡ [] = subst IsAtEnd known ends.1 in
    let same : rest ++ ys ≡ rest = ap (λ (b : List ℕ). rest ++ b) behind ∙ append-nil rest in
    absurd (no_other_end rest more ending.Cut tt (λ none e. let zero = ap length none in omega (arith, e.0, zero)) ends.0 (subst (λ (z : List ℕ). AreRequests z more []) same others))
by_end around xs all rest tail ys bytes left made rs more read read' write write' n how.BadRequest ends cause count known whole few stay is others exchanges reads writes =
    absurd (no_other_end (rest ++ ys) more ends.0 (of_bytes ends.0 ends.1) (λ none e. none_refused ends.0 (subst (EndsAs ends.0) none e) ends.1) (refusal_more rest ys ends.0 ends.1 ends.2) others)
by_end around xs all rest tail ys bytes left made rs more read read' write write' n how.ReadFault ends cause count known whole few stay is others exchanges reads writes =
    absurd (reads (cause.read_failed refl))
by_end around xs all rest tail ys bytes left made rs more read read' write write' n how.WriteFault ends cause count known whole few stay is others exchanges reads writes =
    absurd (writes (cause.write_failed refl))
by_end around xs all rest tail ys bytes left made rs more read read' write write' n how.InputLimit ends cause count known whole few stay is others exchanges reads writes =
    let limit = ends.3 in
    absurd (omega (arith, few, ap length whole, length-append all ys, limit))
by_end around xs all rest tail ys bytes left made rs more read read' write write' n how.NoMemory ends cause count known whole few stay is others exchanges reads writes = inr (inl refl)

pub answers_all : {A : Type 0} (enters : A → List Entered → A → Type 0) (around : Around) (s s' : A) (left left' held held' : Option (List ℕ)) (read read' write write' n : ℕ) (h : ConnHow)
    → IsServed enters around (untaken s left held) (untaken s' left' held') n h → HasCauseServed read read' write write' (Some h)
    → AnswersAll around.asks left read read' write write' n h
answers_all enters around s s' left left' held held' read read' write write' n h u cause = λ bytes rs told sound reads writes.
    let k = left_known bytes left' u.all (subst (λ (z : Option (List ℕ)). Consumes z left' u.all) told u.took) in
    let cut : AreRequests bytes (requests_of u.answered) (u.rest ++ k.0) = subst (λ (z : List ℕ). AreRequests z (requests_of u.answered) (u.rest ++ k.0)) (sym k.2) (requests_more u.all (requests_of u.answered) u.rest k.0 u.cut) in
    let f = sound_prefix bytes (requests_of u.answered) (u.rest ++ k.0) rs cut sound.cut in
    by_end around u.answered u.all u.rest u.tail k.0 bytes left' u.made rs f.0 read read' write write' n h u.ends cause u.count k.1 k.2 sound.few sound.staying f.1 f.2 u.whole reads writes
