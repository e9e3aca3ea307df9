-- A store is opened: what its first record says, and what stands at its end.
use Rattle.std.proofs.Common.{◌≡◌, ◌⊎◌, inl, inr, ℕ, ◌+◌, ◌<◌, ◌≤◌, Bool, true, false, IsTrue, List, [], ◌∷◌, ◌++◌, length, take, drop, Option, Some, None, Result, Ok, Err, refl, sym, ◌∙◌, ap, subst, arith, append_assoc, length-drop, take-append-drop, if◌then◌else◌}
use Rattle.std.specs.Str.{bytes_eq}
use Rattle.record_store.specs.declared.disk.DiskErr.{DiskErr}
use Rattle.record_store.specs.Model.{DiskState, DiskTime, AtEachMoment, Leaves, IsQuiet, Syncs, Passes, OnlySynced}
use Rattle.record_store.specs.Held.{held, records_of, IsRecordPrefix, IsNext, IsRead, IsClosedAt, Rests, HoldsStill, IsBeforeOrAfter}
use Rattle.record_store.proofs.Moments.{started, goes_on, weaken, followed}
use Rattle.record_store.proofs.Images.{quiet_leaves, sync_leaves, quiet_seen}
use Rattle.record_store.proofs.Prefixes.{nil_prefix, closed_held}
use Rattle.record_store.proofs.Opens.{read_held}
use Rattle.farm_model.specs.State.{State}
use Rattle.stored_events.specs.Opening.{config_line, config_of, replayed, is_unborn, opened_with, opened_by, opened_of, opened_lines, HoldsOrBegins}
use Rattle.stored_events.specs.Replaying.{ReplaysTo, FailsAtRecord}
use Rattle.stored_events.specs.declared.faults.OpenFault.{OpenFault}
use Rattle.stored_events.specs.declared.faults.OpenFault.TheVariants as fault

take_none : (file : List ℕ) → take 0 file ≡ []
take_none [] = refl
take_none (b ∷ file) = refl

-- the first record of a file is a prefix of it
pub first_prefix : (file line : List ℕ) → IsNext file 0 line → IsRecordPrefix (take (3 + length line) file) (line ∷ [])
first_prefix file line next =
    let start : IsRecordPrefix (take 0 file) [] = subst (λ (f : List ℕ). IsRecordPrefix f []) (sym (take_none file)) nil_prefix in
    let same : 0 + 3 + length line ≡ 3 + length line = omega arith in
    subst (λ (n : ℕ). IsRecordPrefix (take n file) (line ∷ [])) same (next [] start)

-- and is held
pub first_held : (file line : List ℕ) (n : ℕ) → IsRecordPrefix (take n file) (line ∷ []) → n < length file → held file ≡ line ∷ held (drop n file)
first_held file line n is inside = ap held (sym (take-append-drop n file)) ∙ is.reads (drop n file) (omega (arith, inside, length-drop n file))

module _ (digest : List ℕ) (s : State) (file line : List ℕ) (rest : List (List ℕ)) (is : held file ≡ line ∷ rest) where
  opened_first : opened_of digest s file ≡ opened_with digest s rest (config_of line)
  opened_first = ap (λ (lines : List (List ℕ)). opened_by digest s file lines) is

  pub opened_bad : config_of line ≡ None → opened_of digest s file ≡ Err (fault.BadRecord 1)
  opened_bad none = opened_first ∙ ap (λ (o : Option (List ℕ)). opened_with digest s rest o) none

  pub opened_other : (kept : List ℕ) → config_of line ≡ Some kept → bytes_eq kept digest ≡ false → opened_of digest s file ≡ Err (fault.OtherConfig kept)
  opened_other kept some other =
      opened_first ∙ ap (λ (o : Option (List ℕ)). opened_with digest s rest o) some
      ∙ ap (λ (b : Bool). if b then replayed s 2 rest else Err (fault.OtherConfig kept)) other

  pub opened_same : (kept : List ℕ) → config_of line ≡ Some kept → bytes_eq kept digest ≡ true → opened_of digest s file ≡ replayed s 2 rest
  opened_same kept some same =
      opened_first ∙ ap (λ (o : Option (List ℕ)). opened_with digest s rest o) some
      ∙ ap (λ (b : Bool). if b then replayed s 2 rest else Err (fault.OtherConfig kept)) same

  pub lines_same : opened_lines digest (held file) ≡ held file
  lines_same = ap (λ (lines : List (List ℕ)). opened_lines digest lines) is ∙ sym is

tail_is : (x y : List ℕ) (xs ys : List (List ℕ)) → x ∷ xs ≡ y ∷ ys → xs ≡ ys
tail_is x y xs ys is = ap (λ (l : List (List ℕ)). drop 1 l) is

-- what all the records behind the first one lead to
pub opened_played : (digest : List ℕ) (s new : State) (file line kept : List ℕ) (end n : ℕ) → IsRecordPrefix (take n file) (line ∷ []) → n < length file → config_of line ≡ Some kept → bytes_eq kept digest ≡ true
    → end < length file → ReplaysTo file (line ∷ []) s new end → opened_of digest s file ≡ Ok new
opened_played digest s new file line kept end n first inside some same within played =
    let is = first_held file line n first inside in
    let lines : line ∷ played.lines ≡ held file = read_held file (line ∷ played.lines) end (omega (arith, within)) played.read in
    let rest : held (drop n file) ≡ played.lines = tail_is line line (held (drop n file)) played.lines (sym is ∙ sym lines) in
    opened_same digest s file line (held (drop n file)) is kept some same ∙ ap (λ (l : List (List ℕ)). replayed s 2 l) rest ∙ played.played

pub opened_failed : (digest : List ℕ) (s : State) (file line kept : List ℕ) (n number : ℕ) → IsRecordPrefix (take n file) (line ∷ []) → n < length file → config_of line ≡ Some kept → bytes_eq kept digest ≡ true
    → FailsAtRecord file (line ∷ []) s number → opened_of digest s file ≡ Err (fault.BadRecord number)
opened_failed digest s file line kept n number first inside some same failed =
    let is = first_held file line n first inside in
    let rest : held (drop n file) ≡ failed.lines = tail_is line line (held (drop n file)) failed.lines (sym is ∙ failed.holds) in
    opened_same digest s file line (held (drop n file)) is kept some same ∙ ap (λ (l : List (List ℕ)). replayed s 2 l) rest ∙ failed.failed

-- what was read is what is held
pub read_all : (file line : List ℕ) (s new : State) (end : ℕ) → end < length file → ReplaysTo file (line ∷ []) s new end → IsRead file end (held file)
read_all file line s new end within played = subst (IsRead file end) (read_held file (line ∷ played.lines) end (omega (arith, within)) played.read) played.read

-- nothing was done yet
pub still_moments : (digest : List ℕ) (t t1 : DiskTime) → IsQuiet t.now → t1 ≡ t → AtEachMoment (HoldsOrBegins digest (held t.now.seen)) t t1
still_moments digest t t1 quiet same =
    let P : List ℕ → Type 0 = HoldsOrBegins digest (held t.now.seen) in
    subst (λ (s : DiskTime). AtEachMoment P t s) (sym same) (started P t (quiet_leaves P t.now quiet (inl refl)))

-- closing the end changes nothing that is held
pub closing_moments : (digest : List ℕ) (t t1 : DiskTime) → AtEachMoment (HoldsStill t.now.seen) t t1 → AtEachMoment (HoldsOrBegins digest (held t.now.seen)) t t1
closing_moments digest t t1 so_far = weaken (HoldsStill t.now.seen) (HoldsOrBegins digest (held t.now.seen)) t t1 (λ c still. inl still) so_far

-- the lines that the disk rests on are held
pub rests_held : (s : DiskState) (lines : List (List ℕ)) (end : ℕ) → Rests s lines end → held s.seen ≡ lines
rests_held s lines end rests = closed_held s.seen lines end rests.closed

pub rests_as : (s : DiskState) (lines other : List (List ℕ)) (end : ℕ) → lines ≡ other → Rests s lines end → Rests s other end
rests_as s lines other end same rests = subst (λ (l : List (List ℕ)). Rests s l end) same rests

-- a store begins
module _ (digest : List ℕ) (t t1 : DiskTime) (none : held t.now.seen ≡ []) (closing : AtEachMoment (HoldsStill t.now.seen) t t1) where
  pub begun_closed : AtEachMoment (HoldsOrBegins digest []) t t1
  begun_closed = weaken (HoldsStill t.now.seen) (HoldsOrBegins digest []) t t1 (λ c still. inl (still ∙ none)) closing

  begins : (lines : List (List ℕ)) → lines ≡ [] → (c : List ℕ) → IsBeforeOrAfter lines (config_line digest ∷ []) c → HoldsOrBegins digest [] c
  begins lines is c (inl before) = inl (before ∙ is)
  begins lines is c (inr after) = inr (after ∙ ap (λ (l : List (List ℕ)). l ++ config_line digest ∷ []) is)

  pub begun_moments : (t2 : DiskTime) → held t1.now.seen ≡ [] → AtEachMoment (IsBeforeOrAfter (held t1.now.seen) (config_line digest ∷ [])) t1 t2 → AtEachMoment (HoldsOrBegins digest []) t t2
  begun_moments t2 none' adding =
      followed (HoldsOrBegins digest []) t t1 t2 begun_closed
      (weaken (IsBeforeOrAfter (held t1.now.seen) (config_line digest ∷ [])) (HoldsOrBegins digest []) t1 t2 (begins (held t1.now.seen) none') adding)

-- the first sync of an opening
module _ (digest : List ℕ) (t t1 : DiskTime) where
  pub synced_moments : (result : Result (Unit {0}) DiskErr) → IsQuiet t.now → Passes (Syncs result) t t1 → AtEachMoment (HoldsOrBegins digest (held t.now.seen)) t t1
  synced_moments result quiet sync =
      let P : List ℕ → Type 0 = HoldsOrBegins digest (held t.now.seen) in
      let here : Leaves P t.now = quiet_leaves P t.now quiet (inl refl) in
      goes_on P (Syncs result) t t t1 (started P t here) sync (sync_leaves P result t.now t1.now here (quiet_seen t.now quiet) sync.stepped)

  pub opened_moments : (t2 : DiskTime) → t1.now.seen ≡ t.now.seen → AtEachMoment (HoldsOrBegins digest (held t.now.seen)) t t1 → AtEachMoment (HoldsOrBegins digest (held t1.now.seen)) t1 t2
      → AtEachMoment (HoldsOrBegins digest (held t.now.seen)) t t2
  opened_moments t2 same first second =
      let P : List ℕ → Type 0 = HoldsOrBegins digest (held t.now.seen) in
      followed P t t1 t2 first (subst (λ (f : List ℕ). AtEachMoment (HoldsOrBegins digest (held f)) t1 t2) same second)
