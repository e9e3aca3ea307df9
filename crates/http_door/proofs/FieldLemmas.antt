-- The fields of a head, seen as spans of the buffer.
use Rattle.std.proofs.Common.{ℕ, ◌≡◌, ◌≤◌, List, [], ◌∷◌, Bool, true, false, refl, ap, ◌∙◌, arith, map}
use Rattle.std.specs.Prelude.{◌||◌, All}
use Rattle.std.specs.List.{list_any}
use Rattle.std.proofs.lemmas.List.Elements.{All-weaker}
use Rattle.std.specs.Prelude.{if◌then◌else◌}
use Rattle.http_door.specs.declared.fields.ContentLength.{ContentLength}
use Rattle.http_door.specs.declared.fields.ContentLength.TheVariants as stated
use Rattle.http_door.specs.Fields.{is_word, is_length, value_from, content_length, next_length, length_with, values_of, length_said}
use Rattle.httparse.specs.declared.spans.HeaderSpan.{HeaderSpan}
use Rattle.httparse.specs.Spans.{IsHeaderWithin}

pub list_any-map : {X Y : Type 0} (p : X → Bool) (f : Y → X) (ys : List Y) → list_any p (map f ys) ≡ list_any (λ y. p (f y)) ys
list_any-map p f [] = refl
list_any-map p f (y ∷ ys) = ap (λ b. p (f y) || b) (list_any-map p f ys)

-- what lies within a prefix lies within the whole
pub headers_within : (m n : ℕ) (hs : List HeaderSpan) → m ≤ n → All (IsHeaderWithin m) hs → All (IsHeaderWithin n) hs
headers_within m n hs le all =
    All-weaker (IsHeaderWithin m) (IsHeaderWithin n) (λ x w. ((w.0.0, omega (arith, w.0.1, le)), (w.1.0, omega (arith, w.1.1, le)))) hs all

-- what the fields say, behind those that said this
abbrev pub length_in : ContentLength → List (List ℕ × List ℕ) → ContentLength
length_in l [] = l
length_in l (f ∷ fs) = length_in (length_with l f) fs

-- what the values say, behind those that said this
lengths_from : ContentLength → List (List ℕ) → ContentLength
lengths_from l [] = l
lengths_from l (v ∷ vs) = lengths_from (next_length l v) vs

with_field : (named : Bool) (l : ContentLength) (v : List ℕ) (fs : List (List ℕ × List ℕ))
    → ((m : ContentLength) → length_in m fs ≡ lengths_from m (values_of content_length fs))
    → length_in (if named then next_length l v else l) fs
    ≡ lengths_from l (if named then v ∷ values_of content_length fs else values_of content_length fs)
unfolding lengths_from
with_field true l v fs h = h (next_length l v)
with_field false l v fs h = h l

in_values : (l : ContentLength) (fs : List (List ℕ × List ℕ)) → length_in l fs ≡ lengths_from l (values_of content_length fs)
unfolding lengths_from
in_values l [] = refl
in_values l (f ∷ fs) = with_field (is_word content_length f.0) l f.1 fs (λ m. in_values m fs)

invalid_stays : (vs : List (List ℕ)) → lengths_from stated.Invalid vs ≡ stated.Invalid
unfolding lengths_from
invalid_stays [] = refl
invalid_stays (v ∷ vs) = invalid_stays vs

second_at : (fits : Bool) (v w : List ℕ) → next_length (if fits then stated.Given (value_from 0 v) else stated.Invalid) w ≡ stated.Invalid
second_at true v w = refl
second_at false v w = refl

said_from : (vs : List (List ℕ)) → lengths_from stated.Absent vs ≡ length_said vs
unfolding lengths_from
said_from [] = refl
said_from (v ∷ []) = refl
said_from (v ∷ w ∷ vs) = ap (λ z. lengths_from z vs) (second_at (is_length v) v w) ∙ invalid_stays vs

-- one field after the other says what all of them say
pub length_in_said : (fs : List (List ℕ × List ℕ)) → length_in stated.Absent fs ≡ length_said (values_of content_length fs)
length_in_said fs = in_values stated.Absent fs ∙ said_from (values_of content_length fs)
