use Rattle.std.proofs.Common.{ℕ, ◌≡◌, ◌<◌, List, length, take, Option, IfSome, ◌∙◌, arith}
use Rattle.std.proofs.lemmas.List.{length-take, take_all}
use Rattle.std.specs.Prelude.{Some, None}
use Rattle.farm_tree.proofs.disk.read_whole.Goals as goal

-- a prefix that is shorter than asked for is all
all_of : (limit : ℕ) (left bytes : List ℕ) → bytes ≡ take limit left → length bytes < limit → bytes ≡ left
all_of limit left bytes e h = e ∙ take_all limit left (omega (arith, length-take limit left, (rw e at h)))

all_told : (limit : ℕ) (told : Option (List ℕ)) (bytes : List ℕ) → IfSome told (λ left. bytes ≡ take limit left) → length bytes < limit
    → IfSome told (λ left. bytes ≡ left)
all_told limit None bytes e h = e
all_told limit (Some left) bytes e h = all_of limit left bytes e h

-- what a prefix is longer than, all is longer than
more_of : (limit few : ℕ) (left bytes : List ℕ) → bytes ≡ take limit left → few < length bytes → few < length left
more_of limit few left bytes e h = omega (arith, length-take limit left, (rw e at h))

more_told : (limit few : ℕ) (told : Option (List ℕ)) (bytes : List ℕ) → IfSome told (λ left. bytes ≡ take limit left) → few < length bytes
    → IfSome told (λ left. few < length left)
more_told limit few None bytes e h = e
more_told limit few (Some left) bytes e h = more_of limit few left bytes e h

pub returns-clause-whole : goal.returns-clause-whole
returns-clause-whole g c =
    let few : length c.in_ok-bytes.bytes.items < 16777217 = omega (arith, c.len-len.ensures, c.if-len.false) in
    rw c.from_vec.ensures (all_told 16777217 (g.F.Read.remaining c.args.file) c.in_ok-bytes.bytes.items c.in_ok-bytes.ensures.prefix few)

pub returns-then-len-clause-large : goal.returns-then-len-clause-large
returns-then-len-clause-large g c = λ len is.
    let many : 16777216 < length c.in_ok-bytes.bytes.items = omega (arith, c.len-len.ensures, c.if-len.true) in
    more_told 16777217 16777216 (g.F.Read.remaining c.args.file) c.in_ok-bytes.bytes.items c.in_ok-bytes.ensures.prefix many
