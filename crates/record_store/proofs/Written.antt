-- What a disk in memory has after a write.
use Rattle.std.proofs.Common.{◌≡◌, ℕ, ◌+◌, ◌-◌, ◌<◌, ◌≤◌, ◌⊎◌, inl, inr, max, List, [], ◌∷◌, ◌++◌, length, map, get_or, take, drop, refl, sym, ◌∙◌, ap, subst, arith, length-append, length-drop}
use Rattle.std.proofs.lemmas.List.{get_or-take, get_or-drop, get_or_append_left, get_or-append_right, length-take-le, map_push}
use Rattle.record_store.specs.Model.{Range, IsImage, IsOutside, greatest, overlaid}
use Rattle.record_store.specs.MemoryValue.{turned}

turned_push : {A : Type 0} (before xs : List A) (x : A) → turned before (xs ++ x ∷ []) ≡ x ∷ turned before xs
turned_push before [] x = refl
turned_push before (y ∷ ys) x = turned_push (y ∷ before) ys x

pub turned_map : {A B : Type 0} (f : A → B) (xs : List A) (x : A) → turned [] (map f (xs ++ x ∷ [])) ≡ f x ∷ turned [] (map f xs)
turned_map {A} {B} f xs x = ap (λ (l : List B). turned [] l) (map_push f xs x) ∙ turned_push [] (map f xs) (f x)

module _ (seen bytes : List ℕ) (at : ℕ) (inside : at ≤ length seen) where
  rest : List ℕ
  rest = drop (at + length bytes) seen

  prefix_long : length (take at seen) ≡ at
  prefix_long = length-take-le at seen inside

  both_long : length (take at seen ++ bytes) ≡ at + length bytes
  both_long = length-append (take at seen) bytes ∙ ap (λ (n : ℕ). n + length bytes) prefix_long

  overlaid_length : length (overlaid seen at bytes) ≡ max (at + length bytes) (length seen)
  overlaid_length =
      let tail : length (drop (at + length bytes) seen) ≡ length seen - (at + length bytes) = length-drop (at + length bytes) seen in
      let whole : length (overlaid seen at bytes) ≡ length (take at seen ++ bytes) + length (drop (at + length bytes) seen) = length-append (take at seen ++ bytes) (drop (at + length bytes) seen) in
      omega (arith, both_long, tail, whole)

  overlaid_same : (i : ℕ) → i < length seen → (i < at) ⊎ (at + length bytes ≤ i) → get_or (overlaid seen at bytes) i 0 ≡ get_or seen i 0
  overlaid_same i lt (inl before) =
      get_or_append_left (take at seen ++ bytes) (drop (at + length bytes) seen) 0 i (omega (arith, both_long, before))
      ∙ get_or_append_left (take at seen) bytes 0 i (omega (arith, prefix_long, before))
      ∙ get_or-take at seen i 0 before
  overlaid_same i lt (inr behind) =
      let same : at + length bytes + (i - (at + length bytes)) ≡ i = omega (arith, behind) in
      get_or-append_right (take at seen ++ bytes) (drop (at + length bytes) seen) (at + length bytes) i 0 both_long behind
      ∙ get_or-drop (at + length bytes) seen (i - (at + length bytes)) 0
      ∙ ap (λ (k : ℕ). get_or seen k 0) same

  -- the disk as it reads after a write that was done is one of its images
  pub write_image : (synced : List ℕ) (ranges pending : List Range) → IsImage (record { seen = seen; synced = synced; pending = ranges }) seen
      → pending ≡ record { at = at; len = length bytes } ∷ ranges → (new : List ℕ) → new ≡ overlaid seen at bytes
      → IsImage (record { seen = new; synced = synced; pending = pending }) new
  write_image synced ranges pending image is new new_is =
      let long : length new ≡ max (at + length bytes) (length seen) = ap length new_is ∙ overlaid_length in
      let least = image.no_shorter in
      let most = image.no_longer in
      record {
        no_shorter = omega (arith, long, least);
        no_longer = subst (λ (p : List Range). length new ≤ greatest (length synced) p) (sym is) (omega (arith, long, most));
        outside = λ i lt out.
            let parts : IsOutside i (record { at = at; len = length bytes } ∷ ranges) = subst (λ (p : List Range). IsOutside i p) is out in
            ap (λ (l : List ℕ). get_or l i 0) new_is
            ∙ overlaid_same i (omega (arith, lt, least)) parts.0
            ∙ image.outside i lt parts.1;
      }

-- and after one that failed
pub failed_image : (seen synced : List ℕ) (at len : ℕ) (ranges pending : List Range) → IsImage (record { seen = seen; synced = synced; pending = ranges }) seen
    → pending ≡ record { at = at; len = len } ∷ ranges → IsImage (record { seen = seen; synced = synced; pending = pending }) seen
failed_image seen synced at len ranges pending image is =
    let most = image.no_longer in
    record {
      no_shorter = image.no_shorter;
      no_longer = subst (λ (p : List Range). length seen ≤ greatest (length synced) p) (sym is) (omega (arith, most));
      outside = λ i lt out.
          let parts : IsOutside i (record { at = at; len = len } ∷ ranges) = subst (λ (p : List Range). IsOutside i p) is out in
          image.outside i lt parts.1;
    }
