-- The bytes of a window, as they are taken and given out.
use Rattle.std.proofs.Common.{ℕ, ◌≡◌, ◌+◌, ◌-◌, ◌≤◌, ◌<◌, ◌⊎◌, inl, inr, List, [], ◌++◌, Option, refl, sym, ap, ◌∙◌, arith, length, take, drop, slice_range, append_assoc}
use Rattle.std.specs.Io.KnownBytes.{Consumes}
use Rattle.std.proofs.lemmas.List.{append-nil, length-append, length-take, drop-drop, drop-take, drop_all}
use Rattle.std.proofs.KnownBytes.{Consumes-nil, Consumes-trans, Consumes-kept}
use Rattle.std.proofs.lemmas.Bool.{cases_lt}
use Rattle.std.proofs.Math.Seq.{take-add}
use Rattle.farm_io.specs.declared.streams.Taken.{Taken}
use Rattle.farm_io.specs.declared.streams.Taken.TheVariants as taken
use Rattle.farm_io.specs.Streams.{Takes}
use Rattle.farm_io.proofs.Blocks.{take-range, length-range_le}
use Rattle.http_door.specs.WindowValue.{WindowValue, Fills, Refills, CountWithin}

-- nothing came
pub Fills-refl : (left : Option (List ℕ)) (w : WindowValue) → Fills left left w w
Fills-refl left w = record { prefix = []; took = Consumes-nil left; count = omega arith; whole = sym (append-nil w.ahead); size = omega arith }

pub Fills-none : (left left' : Option (List ℕ)) (w v : WindowValue) → Consumes left left' [] → v ≡ w → Fills left left' w v
Fills-none left left' w v k e = rw e (record { prefix = []; took = k; count = omega arith; whole = sym (append-nil w.ahead); size = omega arith })

-- nothing came, and there may be room for more
pub Fills-more : (left : Option (List ℕ)) (w v : WindowValue) → v.ahead ≡ w.ahead → v.taken ≡ w.taken → w.size ≤ v.size → Fills left left w v
Fills-more left w v e t le = record { prefix = []; took = Consumes-nil left; count = omega (arith, t); whole = e ∙ sym (append-nil w.ahead); size = le }

-- one piece after another
pub Fills-trans : (l1 l2 l3 : Option (List ℕ)) (a b c : WindowValue) → Fills l1 l2 a b → Fills l2 l3 b c → Fills l1 l3 a c
Fills-trans l1 l2 l3 a b c h k = record {
  prefix = h.prefix ++ k.prefix;
  took = Consumes-trans l1 l2 l3 h.prefix k.prefix h.took k.took;
  count = omega (arith, h.count, k.count, length-append h.prefix k.prefix);
  whole = k.whole ∙ ap (λ z. z ++ k.prefix) h.whole ∙ append_assoc a.ahead h.prefix k.prefix;
  size = omega (arith, h.size, k.size);
}

range-zero : (xs : List ℕ) (n : ℕ) → slice_range xs 0 n ≡ take n xs
range-zero xs n = let e : n - 0 ≡ n = omega arith in rw e refl

-- what was taken stands behind what was there
pub refilled : (left left' : Option (List ℕ)) (moved bytes' ahead : List ℕ) (held room : ℕ) (r : Taken)
    → take held moved ≡ ahead → take held bytes' ≡ take held moved → Takes left left' r (slice_range bytes' held (held + room))
    → Refills left left' ahead r held bytes'
refilled left left' moved bytes' ahead held room (taken.Bytes n) is prefix took =
    let space = slice_range bytes' held (held + room) in
    let le : n ≤ length space = took.1 in (
      take n space,
      took.2,
      omega (arith, le, length-take n space),
      range-zero bytes' (held + n)
          ∙ take-add held n bytes'
          ∙ ap (λ z. z ++ take n (drop held bytes')) (prefix ∙ is)
          ∙ ap (λ z. ahead ++ z) (sym (take-range bytes' held room n (omega (arith, le, length-range_le bytes' held room)))),
    )
refilled left left' moved bytes' ahead held room taken.End is prefix took =
    (Consumes-kept left left left' [] (Consumes-nil left) took.1, took.2, range-zero bytes' held ∙ prefix ∙ is)
refilled left left' moved bytes' ahead held room taken.Failed is prefix took =
    (Consumes-kept left left left' [] (Consumes-nil left) took, range-zero bytes' held ∙ prefix ∙ is)

-- a piece came behind what was ahead
pub filled : (l1 l2 : Option (List ℕ)) (old new : WindowValue) (ahead bytes : List ℕ) (held n : ℕ) → Refills l1 l2 ahead (taken.Bytes n) held bytes
    → old.ahead ≡ ahead → new.ahead ≡ slice_range bytes 0 (held + n) → new.taken ≡ old.taken + n → old.size ≤ new.size → Fills l1 l2 old new
filled l1 l2 old new ahead bytes held n r a b t le = record {
  prefix = r.0;
  took = r.1;
  count = t ∙ ap (λ z. old.taken + z) (sym r.2);
  whole = b ∙ r.3 ∙ ap (λ z. z ++ r.0) (sym a);
  size = le;
}

-- a window is its three fields
pub same_window : (v w : WindowValue) → v.ahead ≡ w.ahead → v.taken ≡ w.taken → v.size ≡ w.size → v ≡ w
same_window v w a t e =
    rw (← a, ← t, ← e) refl

pub count_within : (left left' : Option (List ℕ)) (bytes' : List ℕ) (held room space most : ℕ) (r : Taken)
    → Takes left left' r (slice_range bytes' held (held + room)) → room ≤ space → room ≤ most → CountWithin r space most
count_within left left' bytes' held room space most (taken.Bytes n) took le few =
    let within : n ≤ room = omega (arith, took.1, length-range_le bytes' held room) in
    (took.0, omega arith, omega arith)
count_within left left' bytes' held room space most taken.End took le few = tt
count_within left left' bytes' held room space most taken.Failed took le few = tt

range-drop_by : (xs : List ℕ) (a m n k : ℕ) → k ≡ n + m → take m (drop (a + n) xs) ≡ drop n (take k (drop a xs))
range-drop_by xs a m n k e = rw e (ap (take m) (sym (drop-drop n a xs)) ∙ sym (drop-take n m (drop a xs)))

range-drop_at : (xs : List ℕ) (a b n : ℕ) → (b < a + n) ⊎ (a + n ≤ b) → slice_range xs (a + n) b ≡ drop n (slice_range xs a b)
range-drop_at xs a b n (inl h) =
    let none : b - (a + n) ≡ 0 = omega arith in
    let short : length (take (b - a) (drop a xs)) ≤ n = omega (arith, length-take (b - a) (drop a xs)) in
    rw none (sym (drop_all n (take (b - a) (drop a xs)) short))
range-drop_at xs a b n (inr h) = range-drop_by xs a (b - (a + n)) n (b - a) (omega arith)

-- a part from further on
pub range-drop : (xs : List ℕ) (a b n : ℕ) → slice_range xs (a + n) b ≡ drop n (slice_range xs a b)
range-drop xs a b n = range-drop_at xs a b n (cases_lt b (a + n))
