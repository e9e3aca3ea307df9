-- What files of records hold.
use Rattle.std.proofs.Common.{◌≡◌, ◌≢◌, ℕ, zero, suc, ◌+◌, ◌/◌, ◌%◌, ◌<◌, ◌≤◌, List, [], ◌∷◌, ◌++◌, length, get_or, take, drop, refl, sym, ◌∙◌, ap, subst, arith, append_assoc, Result, Ok, Err, OnOk, length-append, length-drop, take-append-drop}
use Rattle.std.proofs.lemmas.Bool.Decides.{nat_tests}
use Rattle.std.proofs.lemmas.List.{append-nil, take_at, drop_at, drop_more, take-take, get_or-take, drop-take, drop-drop}
use Rattle.record_store.specs.Held.{length_of, held_behind, held, records_of, Torn, IsRecordPrefix, IsClosedAt}

behind : (n : ℕ) (bytes : List ℕ) → held_behind n bytes ≡ held (drop n bytes)
behind zero bytes = refl
behind (suc n) [] = refl
behind (suc n) (byte ∷ bytes) = behind n bytes

pub closed : (gate : ℕ) (rest : List ℕ) → gate ≢ 1 → held (gate ∷ rest) ≡ []
closed gate [] shut = refl
closed gate (a ∷ []) shut = refl
closed gate (a ∷ b ∷ rest) shut = grind (arith, nat_tests)

pub short_end : (bytes : List ℕ) → length bytes ≤ 2 → held bytes ≡ []
short_end [] short = refl
short_end (a ∷ []) short = refl
short_end (a ∷ b ∷ []) short = refl
short_end (a ∷ b ∷ c ∷ rest) short = absurd (omega arith)

pub cut_end : (low high : ℕ) (bytes : List ℕ) → length bytes ≤ length_of low high → held (1 ∷ low ∷ high ∷ bytes) ≡ []
cut_end low high bytes short = grind (arith, nat_tests)

whole_step : (low high : ℕ) (bytes : List ℕ) → length_of low high < length bytes → held (1 ∷ low ∷ high ∷ bytes) ≡ take (length_of low high) bytes ∷ held_behind (length_of low high) bytes
whole_step low high bytes fits = grind (arith, nat_tests)

pub whole : (low high : ℕ) (bytes : List ℕ) → length_of low high < length bytes → held (1 ∷ low ∷ high ∷ bytes) ≡ take (length_of low high) bytes ∷ held (drop (length_of low high) bytes)
whole low high bytes fits = whole_step low high bytes fits ∙ ap (λ (l : List (List ℕ)). take (length_of low high) bytes ∷ l) (behind (length_of low high) bytes)

pub one_record : (low high : ℕ) (line rest : List ℕ) → length_of low high ≡ length line → 0 < length rest → held (1 ∷ low ∷ high ∷ (line ++ rest)) ≡ line ∷ held rest
one_record low high line rest size some =
    let n = length_of low high in
    whole low high (line ++ rest) (omega (arith, length-append line rest))
    ∙ ap (λ (l : List ℕ). l ∷ held (drop n (line ++ rest))) (take_at line rest n (sym size))
    ∙ ap (λ (l : List ℕ). line ∷ held l) (drop_at line rest n (sym size))

pub nil_prefix : IsRecordPrefix [] []
nil_prefix = record { reads = λ rest some. refl }

pub prefix_more : (prefix : List ℕ) (lines : List (List ℕ)) (low high : ℕ) (line : List ℕ) → length_of low high ≡ length line → IsRecordPrefix prefix lines → IsRecordPrefix (prefix ++ 1 ∷ low ∷ high ∷ line) (lines ++ line ∷ [])
prefix_more prefix lines low high line size is = record {
  reads = λ rest some.
      ap held (append_assoc prefix (1 ∷ low ∷ high ∷ line) rest)
      ∙ is.reads (1 ∷ low ∷ high ∷ (line ++ rest)) (omega arith)
      ∙ ap (λ (l : List (List ℕ)). lines ++ l) (one_record low high line rest size some)
      ∙ sym (append_assoc lines (line ∷ []) (held rest));
}

size_of : (n : ℕ) → length_of (n % 256) (n / 256) ≡ n
size_of n = omega arith

-- the records of lines, behind one another
pub prefix_lines : (prefix : List ℕ) (lines more : List (List ℕ)) → IsRecordPrefix prefix lines → IsRecordPrefix (prefix ++ records_of more) (lines ++ more)
prefix_lines prefix lines [] is = subst (λ (f : List ℕ). IsRecordPrefix f (lines ++ [])) (sym (append-nil prefix)) (subst (IsRecordPrefix prefix) (sym (append-nil lines)) is)
prefix_lines prefix lines (line ∷ more) is =
    let first = prefix_more prefix lines (length line % 256) (length line / 256) line (size_of (length line)) is in
    let rest = prefix_lines (prefix ++ 1 ∷ (length line % 256) ∷ (length line / 256) ∷ line) (lines ++ line ∷ []) more first in
    subst (λ (f : List ℕ). IsRecordPrefix f (lines ++ line ∷ more)) (append_assoc prefix (1 ∷ (length line % 256) ∷ (length line / 256) ∷ line) (records_of more))
    (subst (IsRecordPrefix ((prefix ++ 1 ∷ (length line % 256) ∷ (length line / 256) ∷ line) ++ records_of more)) (append_assoc lines (line ∷ []) more) rest)

-- one record behind others
pub records_more : (lines : List (List ℕ)) (line : List ℕ) → records_of (lines ++ line ∷ []) ≡ records_of lines ++ 1 ∷ (length line % 256) ∷ (length line / 256) ∷ line
records_more [] line = ap (λ (l : List ℕ). 1 ∷ (length line % 256) ∷ (length line / 256) ∷ l) (append-nil line)
records_more (x ∷ xs) line =
    ap (λ (l : List ℕ). 1 ∷ (length x % 256) ∷ (length x / 256) ∷ (x ++ l)) (records_more xs line)
    ∙ ap (λ (l : List ℕ). 1 ∷ (length x % 256) ∷ (length x / 256) ∷ l) (sym (append_assoc x (records_of xs) (1 ∷ (length line % 256) ∷ (length line / 256) ∷ line)))

pub pushed_record : {E : Type 0} (result : Result (Unit {0}) E) (lines : List (List ℕ)) (line old new : List ℕ) → old ≡ records_of lines → OnOk result (new ≡ old ++ records_of (line ∷ []))
    → OnOk result (new ≡ records_of (lines ++ line ∷ []))
pushed_record (Ok done) lines line old new is pushed =
    pushed ∙ ap (λ (l : List ℕ). l ++ records_of (line ∷ [])) is
    ∙ ap (λ (l : List ℕ). records_of lines ++ 1 ∷ (length line % 256) ∷ (length line / 256) ∷ l) (append-nil line)
    ∙ sym (records_more lines line)
pushed_record (Err e) lines line old new is pushed = tt

pub split_at : (file : List ℕ) (at : ℕ) → at < length file → file ≡ take at file ++ get_or file at 0 ∷ drop (at + 1) file
split_at file at inside = sym (take-append-drop at file) ∙ ap (λ (l : List ℕ). take at file ++ l) (drop_more file at 0 inside)

pub prefix_closed : (prefix : List ℕ) (lines : List (List ℕ)) (gate : ℕ) (rest : List ℕ) → IsRecordPrefix prefix lines → gate ≢ 1 → held (prefix ++ gate ∷ rest) ≡ lines
prefix_closed prefix lines gate rest is shut = is.reads (gate ∷ rest) (omega arith) ∙ ap (λ (l : List (List ℕ)). lines ++ l) (closed gate rest shut) ∙ append-nil lines

pub closed_held : (file : List ℕ) (lines : List (List ℕ)) (end : ℕ) → IsClosedAt file lines end → held file ≡ lines
closed_held file lines end is = ap held (split_at file end is.inside) ∙ prefix_closed (take end file) lines (get_or file end 0) (drop (end + 1) file) is.prefix is.gate

pub torn_behind : (file : List ℕ) (lines : List (List ℕ)) (end n : ℕ) (c : List ℕ) → IsClosedAt file lines end → Torn (end + 1) n file c → IsClosedAt c lines end
torn_behind file lines end n c is torn =
    let prefix : take end c ≡ take end file = sym (take-take end (end + 1) c (omega arith)) ∙ ap (λ (l : List ℕ). take end l) torn.before ∙ take-take end (end + 1) file (omega arith) in
    let gate : get_or c end 0 ≡ get_or file end 0 = sym (get_or-take (end + 1) c end 0 (omega arith)) ∙ ap (λ (l : List ℕ). get_or l end 0) torn.before ∙ get_or-take (end + 1) file end 0 (omega arith) in
    record {
      prefix = subst (λ (f : List ℕ). IsRecordPrefix f lines) (sym prefix) is.prefix;
      inside = let a = is.inside in let b = torn.no_shorter in omega arith;
      gate = subst (λ (g : ℕ). g ≢ 1) (sym gate) is.gate;
    }

take_add : (n m : ℕ) (xs : List ℕ) → take (n + m) xs ≡ take n xs ++ take m (drop n xs)
take_add n m xs =
    sym (take-append-drop n (take (n + m) xs))
    ∙ ap (λ (l : List ℕ). l ++ drop n (take (n + m) xs)) (take-take n (n + m) xs (omega arith))
    ∙ ap (λ (l : List ℕ). take n xs ++ l) (drop-take n m xs)

pub header_split : (file : List ℕ) (at a b c : ℕ) → take 3 (drop at file) ≡ a ∷ b ∷ c ∷ [] → drop at file ≡ a ∷ b ∷ c ∷ drop (at + 3) file
header_split file at a b c header =
    sym (take-append-drop 3 (drop at file))
    ∙ ap (λ (l : List ℕ). l ++ drop 3 (drop at file)) header
    ∙ ap (λ (l : List ℕ). a ∷ b ∷ c ∷ l) (drop-drop 3 at file)

-- one held record more
pub prefix_next : (file : List ℕ) (lines : List (List ℕ)) (at low high : ℕ) (line : List ℕ) → take 3 (drop at file) ≡ 1 ∷ low ∷ high ∷ [] → at + 3 + length_of low high < length file
    → line ≡ take (length_of low high) (drop (at + 3) file) → length line ≡ length_of low high → IsRecordPrefix (take at file) lines → IsRecordPrefix (take (at + 3 + length line) file) (lines ++ line ∷ [])
prefix_next file lines at low high line header fits is size prefix =
    let n = length_of low high in
    let piece : take (3 + n) (drop at file) ≡ 1 ∷ low ∷ high ∷ line =
    take_add 3 n (drop at file) ∙ ap (λ (l : List ℕ). l ++ take n (drop 3 (drop at file))) header
    ∙ ap (λ (l : List ℕ). 1 ∷ low ∷ high ∷ take n l) (drop-drop 3 at file) ∙ ap (λ (l : List ℕ). 1 ∷ low ∷ high ∷ l) (sym is) in
    let sum : at + 3 + length line ≡ at + (3 + n) = omega arith in
    let all : take (at + 3 + length line) file ≡ take at file ++ 1 ∷ low ∷ high ∷ line =
    ap (λ (k : ℕ). take k file) sum ∙ take_add at (3 + n) file ∙ ap (λ (l : List ℕ). take at file ++ l) piece in
    subst (λ (f : List ℕ). IsRecordPrefix f (lines ++ line ∷ [])) (sym all) (prefix_more (take at file) lines low high line (sym size) prefix)

-- no record more
pub end_short : (file : List ℕ) (at : ℕ) → length file ≤ at + 2 → held (drop at file) ≡ []
end_short file at short = short_end (drop at file) (omega (arith, length-drop at file))

pub end_closed : (file : List ℕ) (at gate low high : ℕ) → take 3 (drop at file) ≡ gate ∷ low ∷ high ∷ [] → gate ≢ 1 → held (drop at file) ≡ []
end_closed file at gate low high header shut = ap held (header_split file at gate low high header) ∙ closed gate (low ∷ high ∷ drop (at + 3) file) shut

pub end_cut : (file : List ℕ) (at low high : ℕ) → take 3 (drop at file) ≡ 1 ∷ low ∷ high ∷ [] → length file ≤ at + 3 + length_of low high → held (drop at file) ≡ []
end_cut file at low high header short = ap held (header_split file at 1 low high header) ∙ cut_end low high (drop (at + 3) file) (omega (arith, length-drop (at + 3) file))
