-- A session, one step on.
use Rattle.std.proofs.Common.{ℕ, ◌≡◌, ◌≢◌, ◌+◌, List, [], ◌∷◌, ◌++◌, ◌⊎◌, inl, inr, Option, None, Some, refl, sym, ap, ◌∙◌, append_assoc, length, take, drop, arith, lit≤, subst}
use Rattle.std.specs.Io.KnownBytes.{Appends, Consumes, IsAtEnd}
use Rattle.std.proofs.KnownBytes.{Appends-trans, Consumes-trans}
use Rattle.std.proofs.lemmas.List.{append-nil, take-append-drop, length-append}
use Rattle.farm_io.specs.declared.block.Stop.{Stop}
use Rattle.farm_io.specs.declared.block.Stop.TheVariants as stop
use Rattle.farm_io.specs.declared.lines.Line.{Line}
use Rattle.farm_io.specs.declared.lines.Line.TheVariants as line
use Rattle.farm_io.specs.declared.streams.PutEnd.TheVariants as put
use Rattle.farm_io.specs.Lines.{Cut, Whole, Long, lines_of, line_feed, HasFeed, through_last_feed, input_limit}
use Rattle.farm_io.specs.BlockValue.{IsEnded}
use Rattle.farm_io.specs.ReaderValue.{ReaderValue, IsReadable}
use Rattle.farm_io.specs.Reading.{Reads, IsFirst, EndsInFeed, MayGoOn, line_of_stop}
use Rattle.farm_io.proofs.WholeLines.{through_last_feed-none, through_last_feed-whole}
use Rattle.farm_model.specs.State.{State}
use Rattle.farm_model.specs.Replay.{state_after}
use Rattle.farm_model.specs.Script.{output_from, after_line}
use Rattle.farm_laws.specs.Output.{events_in, EachLineIsWritten}
use Rattle.farm_laws.proofs.Outputs.{state_behind, state_behind-append, state_behind-one, output_from-append}
use Rattle.farm_laws.proofs.Promised.{prefix_keeps_promise, whole_is_written}
use Rattle.script_session.specs.Session.{SessionState, KeepsPromiseFrom, AnswersEachFrom, Answers, AllAnswered, LinesAnswered, PrefixAnswered, IsShort, TookLimit, Standing, EndsWell, HasLines, IsUnderWay, PutsPending}

-- Before the first line

pub none_taken : (left : Option (List ℕ)) → Consumes left left []
none_taken None = tt
none_taken (Some bytes) = refl

pub none_put : (held : Option (List ℕ)) → Appends held held []
none_put None = tt
none_put (Some bytes) = sym (append-nil bytes)

pub first_readable : IsReadable (record { ahead = []; taken = 0; stop = None; text = [] })
first_readable = record { few = lit≤ tt; short = lit≤ tt; end = λ e. cc; fault = λ e. cc; limit = λ e. cc }

unfoldable pub under_way_start : (b : SessionState) → IsUnderWay b (record { farm = b.farm; left = b.left; held = b.held; reader = record { ahead = []; taken = 0; stop = None; text = [] }; pending = [] })
under_way_start b = record {
  piece = [];
  lines = [];
  text = [];
  took = none_taken b.left;
  count = refl;
  cut = λ more m. refl;
  farm = refl;
  wrote = none_put b.held;
  replies = refl;
  fed = λ open_. inl refl;
  going = (λ e. cc, λ e. cc);
  ended = λ e. cc;
  readable = first_readable;
}

-- the standing after some of what is pending was put
abbrev pub with_put : Standing → Option (List ℕ) → List ℕ → Standing
with_put p held pending = record p { held = held; pending = pending }

unfoldable pub put_goes_on : (b : SessionState) (p : Standing) (held : Option (List ℕ)) (pending : List ℕ) → PutsPending p.held held p.pending pending put.Done → IsUnderWay b p → IsUnderWay b (with_put p held pending)
put_goes_on b p held pending h u = record {
  piece = u.piece;
  text = u.text ++ h.0;
  took = u.took;
  count = u.count;
  lines = u.lines;
  cut = u.cut;
  farm = u.farm;
  wrote = Appends-trans b.held p.held held u.text h.0 u.wrote h.1;
  replies = append_assoc u.text h.0 pending ∙ ap (λ t. u.text ++ t) (sym h.2) ∙ u.replies;
  fed = u.fed;
  going = u.going;
  ended = u.ended;
  readable = u.readable;
}

-- A part of what was answered is written

-- from the empty farm, a text with which the output for the bytes begins keeps the promise
pub keeps_from : (farm : State) (bytes text more : List ℕ) → text ++ more ≡ output_from farm (lines_of bytes) → KeepsPromiseFrom farm bytes text
keeps_from farm bytes text more begins settings at =
    prefix_keeps_promise settings bytes text more (begins ∙ ap (λ (s : State). output_from s (lines_of bytes)) at)

pub answers_each_from : (farm : State) (bytes : List ℕ) → AnswersEachFrom farm bytes (output_from farm (lines_of bytes))
answers_each_from farm bytes settings at =
    subst (λ (s : State). EachLineIsWritten settings bytes (output_from s (lines_of bytes))) (sym at) (whole_is_written settings bytes)

-- some lines were answered, and a prefix of what is written for them was written
prefix_answered : (old new : SessionState) (bytes : List ℕ) (lines others : List Cut) (text after : List ℕ) → Consumes old.left new.left bytes → lines_of bytes ≡ lines ++ others
    → new.farm ≡ state_after old.farm (events_in lines) → Appends old.held new.held text → text ++ after ≡ output_from old.farm lines → PrefixAnswered old new
prefix_answered old new bytes lines others text after took cut farm wrote prefix = record {
  bytes = bytes;
  took = took;
  lines = lines;
  others = others;
  cut = cut;
  farm = farm;
  text = text;
  wrote = wrote;
  after = after;
  prefix = prefix;
  keeps = keeps_from old.farm bytes text (after ++ output_from (state_behind old.farm lines) others) (
      sym (append_assoc text after (output_from (state_behind old.farm lines) others))
      ∙ ap (λ t. t ++ output_from (state_behind old.farm lines) others) prefix
      ∙ sym (output_from-append old.farm lines others)
      ∙ ap (output_from old.farm) (sym cut));
}

-- a prefix of the text and of the pending replies stands before the rest of them
pub parted : (text pending : List ℕ) (n : ℕ) → (text ++ take n pending) ++ drop n pending ≡ text ++ pending
parted text pending n = append_assoc text (take n pending) (drop n pending) ∙ ap (λ t. text ++ t) (take-append-drop n pending)

-- the output failed in what is pending
pub put_failed : (b : SessionState) (p : Standing) (held : Option (List ℕ)) (n : ℕ) → Appends p.held held (take n p.pending) → IsUnderWay b p
    → PrefixAnswered b (record { farm = p.farm; left = p.left; held = held })
put_failed b p held n h u =
    prefix_answered b (record { farm = p.farm; left = p.left; held = held }) (u.piece ++ p.reader.ahead) u.lines (lines_of p.reader.ahead) (u.text ++ take n p.pending) (drop n p.pending)
    u.took (u.cut p.reader.ahead u.readable.end) u.farm (Appends-trans b.held p.held held u.text (take n p.pending) u.wrote h) (parted u.text p.pending n ∙ u.replies)

-- a reader that may go on and has not come to the end has not stopped
pub not_stopped : (halt : Option Stop) → MayGoOn halt → halt ≢ Some stop.End → halt ≡ None
not_stopped None going n = refl
not_stopped (Some stop.End) going n = absurd (n refl)
not_stopped (Some stop.ReadFault) going n = absurd (going.0 refl)
not_stopped (Some stop.InputLimit) going n = absurd (going.1 refl)

-- The bytes of a piece and of what was taken behind it

pub took_more : (b : SessionState) (p : Standing) (left : Option (List ℕ)) (piece prefix : List ℕ) → Consumes b.left p.left (piece ++ p.reader.ahead) → Consumes p.left left prefix → Consumes b.left left (piece ++ (p.reader.ahead ++ prefix))
took_more b p left piece prefix h k =
    subst (λ (t : List ℕ). Consumes b.left left t) (append_assoc piece p.reader.ahead prefix) (Consumes-trans b.left p.left left (piece ++ p.reader.ahead) prefix h k)

-- a line was read
pub record TookLine (p : Standing) (left : Option (List ℕ)) (reader : ReaderValue) (one : Cut) : Type 0 where
  pub prefix : List ℕ
  pub took : Consumes p.left left prefix
  pub count : reader.taken ≡ p.reader.taken + length prefix
  pub piece : List ℕ
  pub first : IsFirst reader.stop (p.reader.ahead ++ prefix) reader.ahead piece one
  pub not_ended : p.reader.stop ≢ Some stop.End
  pub going : MayGoOn reader.stop
  pub ended : IsEnded p.reader.stop p.left → IsEnded reader.stop left
  pub readable : IsReadable reader

pub ends_well : (before piece : List ℕ) → EndsInFeed piece → EndsWell (before ++ piece)
ends_well before piece h = inr (before ++ h.0, ap (λ t. before ++ t) h.1 ∙ sym (append_assoc before h.0 (line_feed ∷ [])))

-- the lines of the piece and of the line behind it
pub cut_line : (b : SessionState) (p : Standing) (left : Option (List ℕ)) (reader : ReaderValue) (first : Cut)
    → (u : IsUnderWay b p) → (t : TookLine p left reader first) → HasLines reader.stop (u.piece ++ t.piece) (u.lines ++ first ∷ [])
cut_line b p left reader first u t more m =
    ap lines_of (append_assoc u.piece t.piece more)
    ∙ u.cut (t.piece ++ more) (λ end. absurd (t.not_ended end))
    ∙ ap (λ lines. u.lines ++ lines) (t.first.cut more m)
    ∙ sym (append_assoc u.lines (first ∷ []) (lines_of more))

-- the state behind them
pub line_farm : (b : SessionState) (p : Standing) (first : Cut) (farm : State) → (u : IsUnderWay b p) → farm ≡ (after_line p.farm first).0 → farm ≡ state_after b.farm (events_in (u.lines ++ first ∷ []))
line_farm b p first farm u f =
    f ∙ ap (λ (s : State). (after_line s first).0) u.farm
    ∙ sym (state_behind-append b.farm u.lines (first ∷ []) ∙ state_behind-one (state_behind b.farm u.lines) first)

-- the output for them
pub line_output : (b : SessionState) (p : Standing) (first : Cut) → (u : IsUnderWay b p) → output_from b.farm (u.lines ++ first ∷ []) ≡ output_from b.farm u.lines ++ (after_line p.farm first).1
line_output b p first u =
    output_from-append b.farm u.lines (first ∷ [])
    ∙ ap (λ t. output_from b.farm u.lines ++ t) (append-nil (after_line (state_behind b.farm u.lines) first).1 ∙ ap (λ (s : State). (after_line s first).1) (sym u.farm))

unfoldable pub line_goes_on : (b : SessionState) (p : Standing) (left : Option (List ℕ)) (reader : ReaderValue) (first : Cut) (farm : State) (pending : List ℕ)
    → TookLine p left reader first → farm ≡ (after_line p.farm first).0 → pending ≡ p.pending ++ (after_line p.farm first).1
    → IsUnderWay b p → IsUnderWay b (record p { farm = farm; left = left; reader = reader; pending = pending })
line_goes_on b p left reader first farm pending t f e u =
    let whole : u.piece ++ (p.reader.ahead ++ t.prefix) ≡ (u.piece ++ t.piece) ++ reader.ahead = ap (λ w. u.piece ++ w) t.first.whole ∙ sym (append_assoc u.piece t.piece reader.ahead) in
    let counted : length ((u.piece ++ t.piece) ++ reader.ahead) ≡ length (u.piece ++ p.reader.ahead) + length t.prefix =
    ap length (sym whole ∙ sym (append_assoc u.piece p.reader.ahead t.prefix)) ∙ length-append (u.piece ++ p.reader.ahead) t.prefix in
    record {
      piece = u.piece ++ t.piece;
      lines = u.lines ++ first ∷ [];
      text = u.text;
      took = subst (λ (w : List ℕ). Consumes b.left left w) whole (took_more b p left u.piece t.prefix u.took t.took);
      count = omega (arith, counted, t.count, u.count);
      cut = cut_line b p left reader first u t;
      farm = line_farm b p first farm u f;
      wrote = u.wrote;
      replies =
          ap (λ w. u.text ++ w) e ∙ sym (append_assoc u.text p.pending (after_line p.farm first).1)
          ∙ ap (λ w. w ++ (after_line p.farm first).1) u.replies ∙ sym (line_output b p first u);
      fed = λ open_. ends_well u.piece t.piece (t.first.fed open_);
      going = t.going;
      ended = t.ended u.ended;
      readable = t.readable;
    }

-- memory was wanted for the answer to a line, before the farm answered it
memory_before : (b : SessionState) (p : Standing) (left held : Option (List ℕ)) (reader : ReaderValue) (first : Cut) (farm : State) (n : ℕ)
    → TookLine p left reader first → farm ≡ p.farm → Appends p.held held (take n p.pending) → IsUnderWay b p → PrefixAnswered b (record { farm = farm; left = left; held = held })
memory_before b p left held reader first farm n t f a u =
    prefix_answered b (record { farm = farm; left = left; held = held }) (u.piece ++ (p.reader.ahead ++ t.prefix)) u.lines (lines_of (p.reader.ahead ++ t.prefix)) (u.text ++ take n p.pending) (drop n p.pending)
    (took_more b p left u.piece t.prefix u.took t.took) (u.cut (p.reader.ahead ++ t.prefix) (λ end. absurd (t.not_ended end))) (f ∙ u.farm)
    (Appends-trans b.held p.held held u.text (take n p.pending) u.wrote a) (parted u.text p.pending n ∙ u.replies)

-- and after it
memory_after : (b : SessionState) (p : Standing) (left held : Option (List ℕ)) (reader : ReaderValue) (first : Cut) (farm : State) (n : ℕ)
    → TookLine p left reader first → farm ≡ (after_line p.farm first).0 → Appends p.held held (take n p.pending) → IsUnderWay b p → PrefixAnswered b (record { farm = farm; left = left; held = held })
memory_after b p left held reader first farm n t f a u =
    let said = (after_line p.farm first).1 in
    let whole : u.piece ++ (p.reader.ahead ++ t.prefix) ≡ (u.piece ++ t.piece) ++ reader.ahead = ap (λ w. u.piece ++ w) t.first.whole ∙ sym (append_assoc u.piece t.piece reader.ahead) in
    prefix_answered b (record { farm = farm; left = left; held = held }) (u.piece ++ (p.reader.ahead ++ t.prefix)) (u.lines ++ first ∷ []) (lines_of reader.ahead)
    (u.text ++ take n p.pending) (drop n p.pending ++ said)
    (took_more b p left u.piece t.prefix u.took t.took)
    (ap lines_of whole ∙ cut_line b p left reader first u t reader.ahead t.readable.end)
    (line_farm b p first farm u f)
    (Appends-trans b.held p.held held u.text (take n p.pending) u.wrote a)
    (sym (append_assoc (u.text ++ take n p.pending) (drop n p.pending) said) ∙ ap (λ w. w ++ said) (parted u.text p.pending n ∙ u.replies) ∙ sym (line_output b p first u))

pub memory_wanted : (b : SessionState) (p : Standing) (left held : Option (List ℕ)) (reader : ReaderValue) (first : Cut) (farm : State) (n : ℕ)
    → TookLine p left reader first → (farm ≡ p.farm) ⊎ (farm ≡ (after_line p.farm first).0) → Appends p.held held (take n p.pending) → IsUnderWay b p
    → PrefixAnswered b (record { farm = farm; left = left; held = held })
memory_wanted b p left held reader first farm n t (inl f) a u = memory_before b p left held reader first farm n t f a u
memory_wanted b p left held reader first farm n t (inr f) a u = memory_after b p left held reader first farm n t f a u

-- The end of the input

-- everything was answered, and it is written
answers_all : (b : SessionState) (p : Standing) (left : Option (List ℕ)) (bytes : List ℕ) → (u : IsUnderWay b p) → lines_of bytes ≡ u.lines → p.pending ≡ []
    → Answers b (record { farm = p.farm; left = left; held = p.held }) bytes
answers_all b p left bytes u same empty = record {
  farm = u.farm ∙ ap (λ lines. state_after b.farm (events_in lines)) (sym same);
  wrote = subst (λ (w : List ℕ). Appends b.held p.held w)
      (sym (append-nil u.text) ∙ ap (λ w. u.text ++ w) (sym empty) ∙ u.replies ∙ ap (output_from b.farm) (sym same)) u.wrote;
  keeps = keeps_from b.farm bytes (output_from b.farm (lines_of bytes)) [] (append-nil (output_from b.farm (lines_of bytes)));
  each = answers_each_from b.farm bytes;
}

-- the piece that was read has the lines that were answered
pub piece_lines : (b : SessionState) (p : Standing) → (u : IsUnderWay b p) → lines_of u.piece ≡ u.lines
piece_lines b p u = ap lines_of (sym (append-nil u.piece)) ∙ u.cut [] (λ _. refl) ∙ append-nil u.lines

pub all_answered : (b : SessionState) (p : Standing) (left : Option (List ℕ)) (prefix : List ℕ) → Consumes p.left left prefix → p.reader.ahead ++ prefix ≡ [] → IsAtEnd left → p.pending ≡ []
    → IsUnderWay b p → AllAnswered b (record { farm = p.farm; left = left; held = p.held })
all_answered b p left prefix took none end empty u = record {
  bytes = u.piece;
  took = subst (λ (w : List ℕ). Consumes b.left left w) (ap (λ w. u.piece ++ w) none ∙ append-nil u.piece) (took_more b p left u.piece prefix u.took took);
  ended = end;
  answers = answers_all b p left u.piece u (piece_lines b p u) empty;
}

-- A fault

-- what ends in a line feed is what stands before what has none
well_ended : (piece rest : List ℕ) → EndsWell piece → ¬ HasFeed rest → through_last_feed (piece ++ rest) ≡ piece
well_ended piece rest (inl e) h = ap (λ w. through_last_feed (w ++ rest)) e ∙ through_last_feed-none rest h ∙ sym e
well_ended piece rest (inr f) h = through_last_feed-whole piece rest f h

pub lines_answered : (b : SessionState) (p : Standing) (left : Option (List ℕ)) (prefix : List ℕ) → Consumes p.left left prefix → ¬ HasFeed (p.reader.ahead ++ prefix) → p.reader.stop ≡ None → p.pending ≡ []
    → IsUnderWay b p → LinesAnswered b (record { farm = p.farm; left = left; held = p.held })
lines_answered b p left prefix took none going empty u = record {
  bytes = u.piece ++ (p.reader.ahead ++ prefix);
  took = took_more b p left u.piece prefix u.took took;
  answers = answers_all b p left (through_last_feed (u.piece ++ (p.reader.ahead ++ prefix))) u
      (ap lines_of (well_ended u.piece (p.reader.ahead ++ prefix) (u.fed going) none) ∙ piece_lines b p u) empty;
}

not_short : (left left' : Option (List ℕ)) (bytes : List ℕ) → Consumes left left' bytes → length bytes ≡ input_limit → ¬ IsShort left
not_short None left' bytes took count short = short
not_short (Some all) None bytes took count short = took
not_short (Some all) (Some rest) bytes took count short =
    let parts : length all ≡ length (bytes ++ rest) = ap length took in
    absurd (omega (arith, parts, length-append bytes rest, count, short))

pub took_limit : (b : SessionState) (p : Standing) (left : Option (List ℕ)) (prefix : List ℕ) → Consumes p.left left prefix → p.reader.taken + length prefix ≡ input_limit → IsUnderWay b p → TookLimit b.left left
took_limit b p left prefix took limit u =
    let bytes = u.piece ++ (p.reader.ahead ++ prefix) in
    let all = took_more b p left u.piece prefix u.took took in
    let e : length bytes ≡ length (u.piece ++ p.reader.ahead) + length prefix =
    ap length (sym (append_assoc u.piece p.reader.ahead prefix)) ∙ length-append (u.piece ++ p.reader.ahead) prefix in
    let count : length bytes ≡ input_limit = omega (arith, e, u.count, limit) in
    record { bytes = bytes; took = all; count = count; not_short = not_short b.left left bytes all count }

-- What a call of the reader gave

abbrev pub Sticks : Standing → Line → Type 0
Sticks p r = (s : Stop) → p.reader.stop ≡ Some s → r ≡ line_of_stop s

pub took_text : (p : Standing) (left : Option (List ℕ)) (reader : ReaderValue) (text : List ℕ) → text ≡ reader.text
    → Reads p.left left p.reader reader line.Text → Sticks p line.Text → MayGoOn reader.stop → (IsEnded p.reader.stop p.left → IsEnded reader.stop left) → IsReadable reader
    → TookLine p left reader (Whole text)
took_text p left reader text e r sticks going ended readable = record {
  prefix = r.prefix;
  took = r.took;
  count = r.count;
  piece = r.cuts.0;
  first = subst (λ (t : List ℕ). IsFirst reader.stop (p.reader.ahead ++ r.prefix) reader.ahead r.cuts.0 (Whole t)) (sym e) r.cuts.1;
  not_ended = λ h. let no : line.Text ≡ line.End = sticks stop.End h in cc;
  going = going;
  ended = ended;
  readable = readable;
}

pub took_long : (p : Standing) (left : Option (List ℕ)) (reader : ReaderValue) (len : ℕ)
    → Reads p.left left p.reader reader (line.TooLong len) → Sticks p (line.TooLong len) → MayGoOn reader.stop → (IsEnded p.reader.stop p.left → IsEnded reader.stop left) → IsReadable reader
    → TookLine p left reader (Long len)
took_long p left reader len r sticks going ended readable = record {
  prefix = r.prefix;
  took = r.took;
  count = r.count;
  piece = r.cuts.0;
  first = r.cuts.1;
  not_ended = λ h. let no : line.TooLong len ≡ line.End = sticks stop.End h in cc;
  going = going;
  ended = ended;
  readable = readable;
}

pub at_end : (b : SessionState) (p : Standing) (left : Option (List ℕ)) (reader : ReaderValue)
    → Reads p.left left p.reader reader line.End → (IsEnded p.reader.stop p.left → IsEnded reader.stop left) → reader.stop ≡ Some stop.End → p.pending ≡ []
    → IsUnderWay b p → AllAnswered b (record { farm = p.farm; left = left; held = p.held })
at_end b p left reader r ended stops empty u = all_answered b p left r.prefix r.took r.cuts.0 (ended u.ended stops) empty u

pub fault_going : (p : Standing) (r : Line) → r ≢ line.End → Sticks p r → MayGoOn p.reader.stop → p.reader.stop ≡ None
fault_going p r other sticks going = not_stopped p.reader.stop going (λ h. other (sticks stop.End h))

pub at_fault : (b : SessionState) (p : Standing) (left : Option (List ℕ)) (reader : ReaderValue)
    → Reads p.left left p.reader reader line.ReadFault → Sticks p line.ReadFault → p.pending ≡ [] → IsUnderWay b p → LinesAnswered b (record { farm = p.farm; left = left; held = p.held })
at_fault b p left reader r sticks empty u = lines_answered b p left r.prefix r.took r.cuts (fault_going p line.ReadFault (λ h. cc) sticks u.going) empty u

pub at_limit : (b : SessionState) (p : Standing) (left : Option (List ℕ)) (reader : ReaderValue)
    → Reads p.left left p.reader reader line.InputLimit → Sticks p line.InputLimit → reader.taken ≡ input_limit → p.pending ≡ []
    → IsUnderWay b p → LinesAnswered b (record { farm = p.farm; left = left; held = p.held }) × TookLimit b.left left
at_limit b p left reader r sticks limit empty u = (
  lines_answered b p left r.prefix r.took r.cuts (fault_going p line.InputLimit (λ h. cc) sticks u.going) empty u,
  took_limit b p left r.prefix r.took (sym r.count ∙ limit) u,
)
