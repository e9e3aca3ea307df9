-- What a crash leaves where nothing is pending, or one write is.
use Rattle.std.proofs.Common.{◌≡◌, ℕ, ◌+◌, ◌-◌, ◌<◌, ◌≤◌, inl, inr, max, List, [], ◌∷◌, length, get_or, take, drop, refl, sym, ◌∙◌, ap, subst, arith, Result, Ok, Err, OnOk, length-drop}
use Rattle.std.proofs.lemmas.List.{ext_get_or, get_or-take, get_or-drop, length-take-le}
use Rattle.record_store.specs.declared.disk.DiskErr.{DiskErr}
use Rattle.record_store.specs.Model.{Range, DiskState, IsImage, IsOutside, greatest, Leaves, IsQuiet, Writes, Syncs}
use Rattle.record_store.specs.Held.{Torn}

pub synced_image : (s : DiskState) (c : List ℕ) → s.pending ≡ [] → IsImage s c → c ≡ s.synced
synced_image s c none image =
    let most : length c ≤ length s.synced = subst (λ (p : List Range). length c ≤ greatest (length s.synced) p) none image.no_longer in
    let out : (i : ℕ) → IsOutside i s.pending = λ i. subst (λ (p : List Range). IsOutside i p) (sym none) tt in
    let least = image.no_shorter in
    ext_get_or 0 c s.synced (omega arith) (λ i lt. image.outside i (omega arith) (out i))

pub quiet_image : (s : DiskState) (c : List ℕ) → IsQuiet s → IsImage s c → c ≡ s.seen
quiet_image s c quiet image = synced_image s c quiet.none image ∙ sym quiet.same

pub quiet_leaves : (P : List ℕ → Type 0) (s : DiskState) → IsQuiet s → P s.seen → Leaves P s
quiet_leaves P s quiet here c image = subst P (sym (quiet_image s c quiet image)) here

-- an image where one write is pending
module _ (file c : List ℕ) (at n : ℕ) (inside : at ≤ length file) (least : length file ≤ length c) (most : length c ≤ max (at + n) (length file))
    (outside : (i : ℕ) → i < length file → IsOutside i (record { at = at; len = n } ∷ []) → get_or c i 0 ≡ get_or file i 0) where
  same_before : take at c ≡ take at file
  same_before =
      let long : length (take at c) ≡ at = length-take-le at c (omega arith) in
      let long' : length (take at file) ≡ at = length-take-le at file inside in
      ext_get_or 0 (take at c) (take at file) (long ∙ sym long') (λ i lt. let lt' : i < at = omega arith in get_or-take at c i 0 lt' ∙ outside i (omega arith) (inl lt', tt) ∙ sym (get_or-take at file i 0 lt'))

  same_after : drop (at + n) c ≡ drop (at + n) file
  same_after =
      let long : length (drop (at + n) c) ≡ length c - (at + n) = length-drop (at + n) c in
      let long' : length (drop (at + n) file) ≡ length file - (at + n) = length-drop (at + n) file in
      ext_get_or 0 (drop (at + n) c) (drop (at + n) file) (omega arith)
      (λ i lt. let lt' : at + n + i < length file = omega arith in get_or-drop (at + n) c i 0 ∙ outside (at + n + i) lt' (inr (omega arith), tt) ∙ sym (get_or-drop (at + n) file i 0))

  pub one_torn : Torn at n file c
  one_torn = record { before = same_before; after = same_after; no_shorter = least; no_longer = most }

pub torn_image : (s : DiskState) (c : List ℕ) (at n : ℕ) → at ≤ length s.synced → s.pending ≡ record { at = at; len = n } ∷ [] → IsImage s c → Torn at n s.synced c
torn_image s c at n inside one image =
    one_torn s.synced c at n inside image.no_shorter
    (subst (λ (p : List Range). length c ≤ greatest (length s.synced) p) one image.no_longer)
    (λ i lt out. image.outside i lt (subst (λ (p : List Range). IsOutside i p) (sym one) out))

same_image : (old new : DiskState) (c : List ℕ) → new.synced ≡ old.synced → new.pending ≡ old.pending → IsImage new c → IsImage old c
same_image old new c same ranges image = record {
  no_shorter = subst (λ (s : List ℕ). length s ≤ length c) same image.no_shorter;
  no_longer = subst (λ (p : List Range). length c ≤ greatest (length old.synced) p) ranges (subst (λ (s : List ℕ). length c ≤ greatest (length s) new.pending) same image.no_longer);
  outside = λ i lt out.
      image.outside i (subst (λ (s : List ℕ). i < length s) (sym same) lt) (subst (λ (p : List Range). IsOutside i p) (sym ranges) out)
      ∙ ap (λ (s : List ℕ). get_or s i 0) same;
}

-- a write where nothing was pending
pub write_leaves : (at : ℕ) (bytes : List ℕ) (result : Result (Unit {0}) DiskErr) (old new : DiskState) → IsQuiet old → at ≤ length old.seen → Writes at bytes result old new → Leaves (Torn at (length bytes) old.seen) new
write_leaves at bytes result old new quiet inside writes c image =
    let file : new.synced ≡ old.seen = writes.synced ∙ sym quiet.same in
    let ranges : new.pending ≡ record { at = at; len = length bytes } ∷ [] = writes.pending ∙ ap (λ (p : List Range). record { at = at; len = length bytes } ∷ p) quiet.none in
    subst (λ (f : List ℕ). Torn at (length bytes) f c) file
    (torn_image new c at (length bytes) (subst (λ (f : List ℕ). at ≤ length f) (sym file) inside) ranges image)

pub sync_leaves : (P : List ℕ → Type 0) (result : Result (Unit {0}) DiskErr) (old new : DiskState) → Leaves P old → IsImage old old.seen → Syncs result old new → Leaves P new
sync_leaves P (Ok done) old new here seen syncs c image =
    subst P (sym (synced_image new c syncs.done.1 image ∙ syncs.done.0)) (here old.seen seen)
sync_leaves P (Err error) old new here seen syncs c image = here c (same_image old new c syncs.failed.0 syncs.failed.1 image)

pub sync_quiet : (result : Result (Unit {0}) DiskErr) (old new : DiskState) → Syncs result old new → OnOk result (IsQuiet new)
sync_quiet (Ok done) old new syncs = record { none = syncs.done.1; same = syncs.seen ∙ sym syncs.done.0 }
sync_quiet (Err error) old new syncs = tt

pub torn_same : (at n : ℕ) (file : List ℕ) → Torn at n file file
torn_same at n file = record { before = refl; after = refl; no_shorter = omega arith; no_longer = omega arith }

pub on_ok_both : {A : Type 0} (B C : Type 0) (result : Result A DiskErr) → OnOk result B → C → OnOk result (B × C)
on_ok_both B C (Ok a) b c = (b, c)
on_ok_both B C (Err e) b c = tt

pub on_ok_map : {A : Type 0} (B C : Type 0) (result : Result A DiskErr) → (B → C) → OnOk result B → OnOk result C
on_ok_map B C (Ok a) f b = f b
on_ok_map B C (Err e) f b = tt

-- a disk that is quiet reads as its image
pub quiet_seen : (s : DiskState) → IsQuiet s → IsImage s s.seen
quiet_seen s quiet =
    let same : length s.seen ≡ length s.synced = ap length quiet.same in
    record {
      no_shorter = omega (arith, same);
      no_longer = subst (λ (p : List Range). length s.seen ≤ greatest (length s.synced) p) (sym quiet.none) (omega (arith, same));
      outside = λ i lt out. ap (λ (l : List ℕ). get_or l i 0) quiet.same;
    }
