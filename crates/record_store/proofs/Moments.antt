-- How the moments of a disk go on.
use Rattle.std.proofs.Common.{◌≡◌, ℕ, List, [], ◌∷◌, ◌++◌, refl, sym, ◌∙◌, ap, subst, append_assoc}
use Rattle.std.specs.List.{AllByRecursion}
use Rattle.record_store.specs.Model.{DiskState, DiskTime, Leaves, AtEachMoment, Passes}

-- before the first call
pub started : (P : List ℕ → Type 0) (old : DiskTime) → Leaves P old.now → AtEachMoment P old old
started P old here = record { at_first = here; since = []; moments = refl; each = tt }

-- one call more
pub goes_on : (P : List ℕ → Type 0) (step : DiskState → DiskState → Type 0) (old mid new : DiskTime) → AtEachMoment P old mid → Passes step mid new → Leaves P new.now → AtEachMoment P old new
goes_on P step old mid new so_far call here = record {
  at_first = so_far.at_first;
  since = new.now ∷ so_far.since;
  moments = ap (λ (l : List DiskState). new.now ∷ l) (call.past ∙ so_far.moments);
  each = (here, so_far.each);
}

all_append : (P : DiskState → Type 0) (xs ys : List DiskState) → AllByRecursion P xs → AllByRecursion P ys → AllByRecursion P (xs ++ ys)
all_append P [] ys first second = second
all_append P (x ∷ xs) ys first second = (first.0, all_append P xs ys first.1 second)

all_weaker : (P Q : List ℕ → Type 0) → ((c : List ℕ) → P c → Q c) → (xs : List DiskState) → AllByRecursion (Leaves P) xs → AllByRecursion (Leaves Q) xs
all_weaker P Q weaker [] all = tt
all_weaker P Q weaker (x ∷ xs) all = (λ c image. weaker c (all.0 c image), all_weaker P Q weaker xs all.1)

pub weaken : (P Q : List ℕ → Type 0) (old new : DiskTime) → ((c : List ℕ) → P c → Q c) → AtEachMoment P old new → AtEachMoment Q old new
weaken P Q old new weaker so_far = record {
  at_first = λ c image. weaker c (so_far.at_first c image);
  since = so_far.since;
  moments = so_far.moments;
  each = all_weaker P Q weaker so_far.since so_far.each;
}

-- one piece after another
pub followed : (P : List ℕ → Type 0) (old mid new : DiskTime) → AtEachMoment P old mid → AtEachMoment P mid new → AtEachMoment P old new
followed P old mid new first second = record {
  at_first = first.at_first;
  since = second.since ++ first.since;
  moments = second.moments ∙ ap (λ (l : List DiskState). second.since ++ l) first.moments ∙ sym (append_assoc second.since first.since (old.now ∷ old.past));
  each = all_append (Leaves P) second.since first.since second.each first.each;
}

head_or : DiskState → List DiskState → DiskState
head_or s [] = s
head_or s (x ∷ xs) = x

last_has : (P : DiskState → Type 0) (old : DiskState) (past since : List DiskState) (now : DiskState) → P old → AllByRecursion P since → now ≡ head_or old (since ++ old ∷ past) → P now
unfolding head_or
last_has P old past [] now here all is = subst P (sym is) here
last_has P old past (s ∷ since) now here all is = subst P (sym is) all.0

-- at the last of them too
pub leaves_now : (P : List ℕ → Type 0) (old new : DiskTime) → AtEachMoment P old new → Leaves P new.now
unfolding head_or
leaves_now P old new so_far = last_has (Leaves P) old.now old.past so_far.since new.now so_far.at_first so_far.each (ap (head_or old.now) so_far.moments)
