-- One test of one submission.
use Rattle.std.specs.Prelude.{◌≡◌, ℕ, List, None, true}
use Rattle.farm_kinds.specs.declared.Limits.{Limits}
use Rattle.farm_kinds.specs.Limits.{is_raw_image}
use Rattle.default_validator.specs.declared.flags.Flags.{Flags}
use Rattle.default_validator.specs.Accepts.{wide_token_of}
use Rattle.case_run.specs.declared.case.Case.{Case}
use Rattle.case_run.specs.declared.case.Check.{Check}
use Rattle.case_run.specs.declared.case.Check.TheVariants as check
use Rattle.case_run.specs.Images.{is_image}

-- how an output is checked: by the default validator with these flags, or by a program that is given the flags
pub data Checking : Type 0 where
  ByDefault : (flags : Flags) → Checking
  ByProgram : (image flags : List ℕ) → Checking

-- the program, what it reads, the judge's answer, how the output is checked, and what the run may use
pub record TestCase : Type 0 where
  pub image : List ℕ
  pub input : List ℕ
  pub answer : List ℕ
  pub check : Checking
  pub limits : Limits

abbrev pub checking_of : Check → Checking
checking_of (check.Default flags) = ByDefault flags
checking_of (check.Custom image flags) = ByProgram image.now flags.now

abbrev pub test_case : Case → TestCase
test_case c =
    record {
      image = c.image.now;
      input = c.input.now;
      answer = c.answer.now;
      check = checking_of c.check;
      limits = c.limits;
    }

-- the answer can be compared under the flags, or the validator is a program; it is always a raw image
abbrev pub CanCheck : Checking → List ℕ → Type 0
CanCheck (ByDefault flags) answer = wide_token_of flags answer ≡ None
CanCheck (ByProgram image flags) answer = is_raw_image image ≡ true

-- what can be run
pub record CanRun (c : TestCase) : Type 0 where
  pub image : is_image c.image ≡ true
  pub check : CanCheck c.check c.answer
