-- How long paths are.
use Rattle.std.proofs.Common.{ℕ, ◌+◌, ◌^◌, ◌≤◌, ◌<◌, List, ◌++◌, length, length-append, arith}
use Rattle.std.specs.Fmt.{decimal}
use Rattle.std.proofs.lemmas.Fmt.{length-decimal-le}

-- a number of 32 bits has at most ten digits
pub with_number : (prefix back : List ℕ) (n : ℕ) → n < 2 ^ 32 → length (prefix ++ (decimal n ++ back)) ≤ length prefix + 10 + length back
with_number prefix back n small =
    let digits : length (decimal n) ≤ 10 = length-decimal-le 10 n (omega arith) (omega (arith, small)) (omega (arith, small)) in
    omega (arith, digits, length-append prefix (decimal n ++ back), length-append (decimal n) back)
