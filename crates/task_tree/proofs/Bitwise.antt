-- Words whose bits change.
use Rattle.std.proofs.Common.{ℕ, zero, suc, ◌≡◌, ◌≢◌, ◌+◌, ◌*◌, ◌/◌, ◌%◌, ◌-◌, ◌^◌, ◌<◌, ◌≤◌, List, [], ◌∷◌, ◌++◌, length, get_or, set, refl, sym, ap, ◌∙◌, arith, inl, inr, length-set, get_or-set_same, get_or-set_other, subst}
use Rattle.std.specs.Int.{bit_at}
use Rattle.std.proofs.lemmas.Bool.{cases_eq, cases_lt}
use Rattle.std.proofs.lemmas.List.{get_or_read, get_or_past}
use Rattle.std.proofs.lemmas.Nat.{div-add-mod', mod_below, pow_pos}
use Rattle.std.proofs.lemmas.Nat.Bits.{bit_at-zero, bit_at_cat_low, bit_at_above}
use Rattle.task_tree.specs.Bits.{word, bit, IsInserted, IsRemoved, IsCut, IsLeast, IsLeastAt, IsEmpty}

-- the bits of a list where one word is another
other_bits : (old : List ℕ) (k v : ℕ) → k / 64 < length old → ((i : ℕ) → i < 64 → i ≢ k % 64 → bit_at v i ≡ bit_at (word old (k / 64)) i) → (i : ℕ) → i ≢ k → bit (set old (k / 64) v) i ≡ bit old i
unfolding bit
other_bits old k v h f i n = elim (cases_eq (i / 64) (k / 64)) [
  | inl same ↦
      ap (λ p. bit_at (word (set old (k / 64) v) p) (i % 64)) same
      ∙ ap (λ w. bit_at w (i % 64)) (get_or-set_same old (k / 64) v 0 h)
      ∙ f (i % 64) (omega arith) (λ m. n (omega (arith, same, m)))
      ∙ ap (λ p. bit_at (word old p) (i % 64)) (sym same)
  | inr other ↦ ap (λ w. bit_at w (i % 64)) (get_or-set_other old (k / 64) (i / 64) v 0 other)
]

pub inserted : (old : List ℕ) (k v : ℕ) → k / 64 < length old → bit_at v (k % 64) ≡ 1 → ((i : ℕ) → i ≢ k % 64 → bit_at v i ≡ bit_at (word old (k / 64)) i) → IsInserted old (set old (k / 64) v) k
unfolding bit
inserted old k v h e f = record {
  size = length-set old (k / 64) v;
  here = ap (λ w. bit_at w (k % 64)) (get_or-set_same old (k / 64) v 0 h) ∙ e;
  others = other_bits old k v h (λ i _ n. f i n);
  words = λ p n. get_or-set_other old (k / 64) p v 0 n;
}

pub removed : (old : List ℕ) (k v : ℕ) → k / 64 < length old → bit_at v (k % 64) ≡ 0 → ((i : ℕ) → i < 64 → i ≢ k % 64 → bit_at v i ≡ bit_at (word old (k / 64)) i) → (word old (k / 64) ≡ 0 → v ≡ 0) → IsRemoved old (set old (k / 64) v) k
unfolding bit
removed old k v h e f z = record {
  size = length-set old (k / 64) v;
  here = ap (λ w. bit_at w (k % 64)) (get_or-set_same old (k / 64) v 0 h) ∙ e;
  others = other_bits old k v h f;
  words = λ p n. get_or-set_other old (k / 64) p v 0 n;
  zero = λ q. get_or-set_same old (k / 64) v 0 h ∙ z q;
}

pub zero_pushed : (old : List ℕ) (p : ℕ) → word (old ++ 0 ∷ []) p ≡ word old p
zero_pushed [] zero = refl
zero_pushed [] (suc p) = refl
zero_pushed (w ∷ old) zero = refl
zero_pushed (w ∷ old) (suc p) = zero_pushed old p

-- no number of an empty word is in
pub none_in : (words : List ℕ) (i : ℕ) → word words (i / 64) ≡ 0 → bit words i ≡ 0
unfolding bit
none_in words i z = ap (λ w. bit_at w (i % 64)) z ∙ bit_at-zero (i % 64)

pub least_at : (words : List ℕ) (place b : ℕ) → b < 64 → bit_at (word words place) b ≡ 1 → ((i : ℕ) → i < b → bit_at (word words place) i ≡ 0) → IsLeastAt words place (place * 64 + b)
unfolding bit
least_at words place b h e f =
    let q : (place * 64 + b) / 64 ≡ place = omega arith in
    let r : (place * 64 + b) % 64 ≡ b = omega arith in
    record {
      place_is = q;
      here = ap (λ p. bit_at (word words p) ((place * 64 + b) % 64)) q ∙ ap (λ j. bit_at (word words place) j) r ∙ e;
      before = λ i s l. ap (λ p. bit_at (word words p) (i % 64)) s ∙ f (i % 64) (omega arith);
    }

pub least : (words : List ℕ) (place k : ℕ) → IsLeastAt words place k → ((p : ℕ) → p < place → word words p ≡ 0) → IsLeast words k
least words place k h z = record {
  here = h.here;
  before = λ i l. elim (cases_eq (i / 64) place) [
    | inl same ↦ h.before i same l
    | inr other ↦ none_in words i (z (i / 64) (let q = h.place_is in omega arith))
  ];
}

-- k is put in, or taken out, where its word was read as w and is v now
pub inserted_at : (xs old : List ℕ) (k w v : ℕ) → xs ≡ old → k / 64 < length xs → w ≡ get_or xs (k / 64) w → bit_at v (k % 64) ≡ 1 → ((i : ℕ) → i ≢ k % 64 → bit_at v i ≡ bit_at w i) → IsInserted old (set xs (k / 64) v) k
inserted_at xs old k w v same h r e f =
    subst (λ o. IsInserted o (set xs (k / 64) v) k) same (inserted xs k v h e (λ i n. f i n ∙ ap (λ u. bit_at u i) (get_or_read xs (k / 64) w h r 0)))

pub removed_at : (xs old : List ℕ) (k w v : ℕ) → xs ≡ old → k / 64 < length xs → w ≡ get_or xs (k / 64) w → bit_at v (k % 64) ≡ 0 → ((i : ℕ) → i < 64 → i ≢ k % 64 → bit_at v i ≡ bit_at w i) → (w ≡ 0 → v ≡ 0) → IsRemoved old (set xs (k / 64) v) k
removed_at xs old k w v same h r e f z =
    let read = get_or_read xs (k / 64) w h r 0 in
    subst (λ o. IsRemoved o (set xs (k / 64) v) k) same (removed xs k v h e (λ i s n. f i s n ∙ ap (λ u. bit_at u i) read) (λ q. z (read ∙ q)))

pub least_read : (words : List ℕ) (place w b : ℕ) → w ≡ word words place → b < 64 → bit_at w b ≡ 1 → ((i : ℕ) → i < b → bit_at w i ≡ 0) → IsLeastAt words place (place * 64 + b)
least_read words place w b r h e f = least_at words place b h (ap (λ u. bit_at u b) (sym r) ∙ e) (λ i l. ap (λ u. bit_at u i) (sym r) ∙ f i l)

pub all_zero : (words : List ℕ) (n : ℕ) → length words ≤ n → ((p : ℕ) → p < n → word words p ≡ 0) → IsEmpty words
all_zero words n h z = record {
  none = λ i. none_in words i (elim (cases_lt (i / 64) n) [
    | inl under ↦ z (i / 64) under
    | inr past ↦ get_or_past words (i / 64) 0 (omega arith)
  ]);
}

-- ---- the numbers from one on are taken out

pub low_kept : (word place i : ℕ) → i < place → bit_at (word % 2 ^ place) i ≡ bit_at word i
low_kept word place i l =
    sym (bit_at_cat_low (word / 2 ^ place) place (word % 2 ^ place) i l) ∙ ap (λ w. bit_at w i) (div-add-mod' word (2 ^ place))

pub high_cleared : (word place i : ℕ) → place ≤ i → bit_at (word % 2 ^ place) i ≡ 0
high_cleared word place i l = bit_at_above (word % 2 ^ place) place i (mod_below word (2 ^ place) (pow_pos place)) l

-- the numbers from `from` on are taken out of the words before a place
pub record IsCutTo (old new : List ℕ) (from place : ℕ) : Type 0 where
  pub size : length new ≡ length old
  pub below : (i : ℕ) → i < from → bit new i ≡ bit old i
  pub above : (i : ℕ) → from ≤ i → i / 64 < place → bit new i ≡ 0

pub cut_none : (old : List ℕ) (from : ℕ) → IsCutTo old old from (from / 64)
cut_none old from = record {
  size = refl;
  below = λ i l. refl;
  above = λ i l s. absurd (omega (arith, l, s));
}

-- the numbers from `from` on are taken out of all words, where the place is behind the last
pub cut_whole : (old new : List ℕ) (from place : ℕ) → length old ≤ place → IsCutTo old new from place → IsCut old new from
cut_whole old new from place past h = record {
  size = h.size;
  below = h.below;
  above = λ i l. elim (cases_lt (i / 64) place) [
    | inl under ↦ h.above i l under
    | inr over ↦ none_in new i (get_or_past new (i / 64) 0 (omega (arith, past, over, h.size)))
  ];
}

pub cut_word : (old xs : List ℕ) (from place w v : ℕ) → place < length xs → from / 64 ≤ place → IsCutTo old xs from place → w ≡ get_or xs place w
    → ((i : ℕ) → i < from - place * 64 → bit_at v i ≡ bit_at w i) → ((i : ℕ) → from - place * 64 ≤ i → bit_at v i ≡ 0) → IsCutTo old (set xs place v) from (place + 1)
unfolding bit
cut_word old xs from place w v within start h r low high =
    let read : w ≡ word xs place = get_or_read xs place w within r 0 in
    let new : (i : ℕ) → i / 64 ≡ place → bit (set xs place v) i ≡ bit_at v (i % 64) = λ i same.
    ap (λ p. bit_at (word (set xs place v) p) (i % 64)) same ∙ ap (λ u. bit_at u (i % 64)) (get_or-set_same xs place v 0 within) in
    let was : (i : ℕ) → i / 64 ≡ place → bit xs i ≡ bit_at w (i % 64) = λ i same.
    ap (λ p. bit_at (word xs p) (i % 64)) same ∙ ap (λ u. bit_at u (i % 64)) (sym read) in
    let kept : (i : ℕ) → i / 64 ≢ place → bit (set xs place v) i ≡ bit xs i = λ i other.
    ap (λ u. bit_at u (i % 64)) (get_or-set_other xs place (i / 64) v 0 other) in
    record {
      size = length-set xs place v ∙ h.size;
      below = λ i l. elim (cases_eq (i / 64) place) [
        | inl same ↦ new i same ∙ low (i % 64) (omega (arith, same, l)) ∙ sym (was i same) ∙ h.below i l
        | inr other ↦ kept i other ∙ h.below i l
      ];
      above = λ i l s. elim (cases_eq (i / 64) place) [
        | inl same ↦ new i same ∙ high (i % 64) (omega (arith, same, l))
        | inr other ↦ kept i other ∙ h.above i l (omega (arith, s, other))
      ];
    }
