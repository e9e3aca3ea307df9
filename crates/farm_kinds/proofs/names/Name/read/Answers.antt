use Rattle.std.proofs.Common.{◌≡◌, ℕ, List, ◌≤◌, ◌-◌, take, drop, ◌++◌, replicate, length, refl, sym, ap, ◌∙◌, arith, Some, None, Bool, true, cond}
use Rattle.std.proofs.lemmas.List.{take_at, drop-replicate, length-append, length-replicate}
use Rattle.std.proofs.lemmas.Bool.Decides.{nat_tests}
use Rattle.farm_kinds.specs.Names.{is_name}
use Rattle.farm_kinds.proofs.names.Name.read.Goals as goal

-- the word stands at the front of the buffer
text : (word prefix : List ℕ) → prefix ≡ word → take (length word) (prefix ++ drop (length word) (replicate 32 0)) ≡ word
text word prefix e = take_at prefix _ (length word) (ap length e) ∙ e

whole_of : (word prefix : List ℕ) → prefix ≡ word → length word ≤ 32 → length (prefix ++ drop (length word) (replicate 32 0)) ≡ 32
whole_of word prefix e h = rw (length-append, drop-replicate, length-replicate, e) (omega arith)

zeros_of : (word prefix : List ℕ) → prefix ≡ word → prefix ++ drop (length word) (replicate 32 0) ≡ take (length word) (prefix ++ drop (length word) (replicate 32 0)) ++ replicate (32 - length word) 0
zeros_of word prefix e = rw (text word prefix e) (rw (drop-replicate, e) refl)

-- a name has at most 32 bytes
short : (word : List ℕ) → is_name word ≡ true → length word ≤ 32
short word h = grind (arith, nat_tests)

pub invariant_of-result : goal.invariant_of-result
invariant_of-result c =
    let e = c.copy_from_slice.ensures.after in
    let named : is_name c.args.word.now ≡ true = sym c.is_name.ensures ∙ c.if-not-is_name.false in
    record {
      within = short c.args.word.now named;
      whole = whole_of c.args.word.now _ e (short c.args.word.now named);
      zeros = zeros_of c.args.word.now _ e;
      named = ap is_name (text c.args.word.now _ e) ∙ named;
    }

pub returns : goal.returns
returns c =
    rw (text c.args.word.now _ c.copy_from_slice.ensures.after)
    (sym (ap (λ (b : Bool). cond b (Some c.args.word.now) None) (sym c.is_name.ensures ∙ c.if-not-is_name.false)))
