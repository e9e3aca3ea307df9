-- Where no bytes are left, nothing is refused.
use Rattle.std.proofs.Common.{ℕ, zero, suc, ◌<◌, inl, inr, [], ◌∷◌, refl, sym, arith}
use Rattle.std.specs.Prelude.{IsTrue, slice_index}
use Rattle.std.proofs.lemmas.List.{append-nil}
use Rattle.std.proofs.lemmas.List.Elements.{All-nil, All-cons}
use Rattle.std.proofs.lemmas.Str.{IsUtf8-from_ascii}
use Rattle.httparse.specs.Grammar.{RequestHead, IsRequestHead, IsField, crlf, is_token_byte, is_uri_byte, print_request}
use Rattle.httparse.specs.Spans.{RequestOverflows}
use Rattle.http_door.specs.declared.fields.Framing.{Framing}
use Rattle.http_door.specs.declared.ending.Ending.{Ending}
use Rattle.http_door.specs.declared.ending.Ending.TheVariants as end
use Rattle.http_door.specs.Heads.{field_limit}
use Rattle.http_door.specs.Requests.{HasFraming, EndsAs, IsRefusal}
use Rattle.http_door.proofs.Cutting.{some_head}

-- the head "G / HTTP/1.1" without a field
abbrev simplest : RequestHead
simplest = record { blank = []; method = 71 ∷ []; target = 47 ∷ []; minor = 1; line_end = crlf; fields = []; last = crlf }

slash_ascii : (i : ℕ) → slice_index (47 ∷ []) i < 128
slash_ascii zero = omega arith
slash_ascii (suc i) = omega arith

simplest_is : IsRequestHead simplest
unfolding is_token_byte
simplest_is = record {
  method = (omega arith, All-cons (λ b. IsTrue (is_token_byte b)) 71 [] refl (All-nil (λ b. IsTrue (is_token_byte b))));
  target = (omega arith, All-cons (λ b. IsTrue (is_uri_byte b)) 47 [] refl (All-nil (λ b. IsTrue (is_uri_byte b))));
  target_text = IsUtf8-from_ascii (47 ∷ []) slash_ascii;
  minor = omega arith;
  fields = All-nil IsField;
}

no_overflow : RequestOverflows field_limit [] → ⊥
no_overflow y = omega (arith, y (print_request simplest) simplest [] (simplest_is, sym (append-nil (print_request simplest))))

no_framing : (f : Framing) → HasFraming f [] → ⊥
no_framing f y = some_head y.0 y.1 y.2.reads.0.method.0 y.2.reads.1

-- what has no bytes is not refused
pub none_refused : (e : Ending) → EndsAs e [] → IsRefusal e → ⊥
none_refused end.End h r = r
none_refused end.Cut h r = r
none_refused end.BadHead (inl h) r = no_overflow h
none_refused end.BadHead (inr h) r = no_framing _ h
none_refused (end.HeadTooLong n) h r = omega (arith, h.1.long)
none_refused (end.BodyTooLong n) h r = no_framing _ h
none_refused end.NoLength h r = no_framing _ h
none_refused end.ReadFault h r = r
none_refused end.InputLimit h r = r
none_refused end.NoMemory h r = r
