-- The images that are held, and how their reading ends.
use Rattle.std.proofs.Common.{ℕ, ◌≡◌, ◌≤◌, ◌+◌, List, length, Bool, true, false, cond, Option, Some, None, is_none, is_some, Result, Ok, Err, IfOk, All, nat_le, refl, subst, sym, ap, ◌∙◌, arith}
use Rattle.std.specs.Prelude.{Vec}
use Rattle.std.specs.Global.{Global}
use Rattle.std.proofs.lemmas.Bool.Decides.{nat_tests}
use Rattle.contest_folder.specs.declared.roster.Problem.{Problem}
use Rattle.contest_folder.specs.declared.roster.Submission.{Submission}
use Rattle.contest_folder.specs.declared.images.Held.{Held}
use Rattle.contest_folder.specs.declared.faults.ContestFault.{ContestFault}
use Rattle.contest_folder.specs.declared.faults.ContestFault.TheVariants as fault
use Rattle.contest_folder.specs.RosterShape.{submission_limit}
use Rattle.contest_folder.specs.HeldImages.{held_within}
use Rattle.contest_folder.specs.Images.{added, image_said, held_or_none, total_limit, total_of, submissions_counted}

pub no_image : (line : ℕ) (o : Option (List ℕ)) (e : ContestFault) → ◌≡◌ {A = Result (List ℕ) ContestFault} (Err e) (image_said line o) → (is_none o ≡ true) × (e ≡ fault.NoImage line)
no_image line None e h = (refl, cc)
no_image line (Some bytes) e h = cc

pub an_image : (line : ℕ) (o : Option (List ℕ)) (image : List ℕ) → ◌≡◌ {A = Result (List ℕ) ContestFault} (Ok image) (image_said line o) → (is_none o ≡ false) × (image ≡ held_or_none o)
an_image line None image h = cc
an_image line (Some bytes) image h = (refl, cc)

pub within_before : (total size : ℕ) → added total size ≤ total_limit → total ≤ total_limit
within_before total size h = by (nat_le total total_limit) refl h
  where
    by : (b : Bool) → nat_le total total_limit ≡ b → cond b (total + size) total ≤ total_limit → total ≤ total_limit
    by true e g = grind (arith, nat_tests)
    by false e g = g

is_within : (a b : ℕ) → nat_le a b ≡ true → a ≤ b
is_within a b e = grind (arith, nat_tests)

pub some_or_none : {A : Type 0} (o : Option A) → is_none o ≡ false → is_some o ≡ true
some_or_none None e = cc
some_or_none (Some a) e = refl

pub ended : (held : Held) (problems : List Problem) (submissions : List Submission) (count : ℕ) → count ≡ length submissions → held.total ≡ total_of problems submissions
    → (held.total ≤ total_limit → held.submissions.items ≡ submissions) → held_within held count ≡ submissions_counted problems submissions
ended held problems submissions count counted total kept =
    ap (λ n. cond (nat_le n submission_limit) (within held.total held.submissions.items) (Err (fault.TooManySubmissions n))) counted
    ∙ ap (λ (r : Result (List Submission) ContestFault). cond (nat_le (length submissions) submission_limit) r (Err (fault.TooManySubmissions (length submissions))))
    (same (nat_le held.total total_limit) refl ∙ ap (λ n. within n submissions) total)
  where
    within : ℕ → List Submission → Result (List Submission) ContestFault
    within n items = cond (nat_le n total_limit) (Ok items) (Err (fault.TooMuch n))

    same : (b : Bool) → nat_le held.total total_limit ≡ b → ◌≡◌ {A = Result (List Submission) ContestFault} (cond b (Ok held.submissions.items) (Err (fault.TooMuch held.total))) (cond b (Ok submissions) (Err (fault.TooMuch held.total)))
    same true e = ap Ok (kept (is_within held.total total_limit e))
    same false e = refl

pub all_kept : (P : Submission → Type 0) (items : List Submission) (r : Result (Vec Submission Global) ContestFault) → IfOk r (λ s. s.items ≡ items) → All P items → IfOk r (λ s. All P s.items)
all_kept P items (Ok s) e all = subst (λ (xs : List Submission). All P xs) (sym e) all
all_kept P items (Err e) h all = tt
