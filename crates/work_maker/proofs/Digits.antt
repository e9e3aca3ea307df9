-- Numbers in texts: their bytes are digits, so that what stands around them can be told apart from them.
use Rattle.std.proofs.Common.{ℕ, ◌≡◌, ◌≢◌, ◌+◌, ◌%◌, ◌<◌, ◌≤◌, ◌^◌, List, [], ◌∷◌, ◌++◌, true, false, cond, not, ◌||◌, None, nat_eq, eq-eqb, eqb-true, length, take, refl, sym, ap, ◌∙◌, arith}
use Rattle.std.specs.Prelude.{⊤}
use Rattle.std.specs.Fmt.{decimal}
use Rattle.std.specs.List.{before_first, list_any, position_or_len}
use Rattle.std.proofs.lemmas.Fmt.{decimal_by_steps, decimal_injective}
use Rattle.std.proofs.lemmas.Bool.Decides.{nat_tests}
use Rattle.std.proofs.Math.Seq.{take-append_seam}
use Rattle.farm_tree.specs.Listing.{is_slash, below}

-- each byte is a digit
abbrev pub AreDigits : List ℕ → Type 0
AreDigits [] = ⊤
AreDigits (b ∷ bs) = ((48 ≤ b) × (b ≤ 57)) × AreDigits bs

push_digit : (ds : List ℕ) (d : ℕ) → AreDigits ds → 48 ≤ d → d ≤ 57 → AreDigits (ds ++ d ∷ [])
push_digit [] d h low high = ((low, high), tt)
push_digit (b ∷ bs) d h low high = (h.0, push_digit bs d h.1 low high)

pub digits_of : (n : ℕ) → n < 2 ^ 64 → AreDigits (decimal n)
digits_of n small =
    decimal_by_steps (λ m ds. AreDigits ds) (λ m lt. ((omega arith, omega (arith, lt)), tt)) (λ m ds le h. push_digit ds (48 + m % 10) h (omega arith) (omega arith)) n small

-- no byte is this one
abbrev pub Lacks : ℕ → List ℕ → Type 0
Lacks sep [] = ⊤
Lacks sep (b ∷ bs) = (b ≢ sep) × Lacks sep bs

pub digits_lack : (sep : ℕ) (ds : List ℕ) → sep < 48 → AreDigits ds → Lacks sep ds
digits_lack sep [] low h = tt
digits_lack sep (b ∷ bs) low h = ((λ e. absurd (omega (arith, h.0.0, e, low))), digits_lack sep bs low h.1)

pub number_lacks : (sep n : ℕ) → sep < 48 → n < 2 ^ 64 → Lacks sep (decimal n)
number_lacks sep n low small = digits_lack sep (decimal n) low (digits_of n small)

pub lacks_both : (sep : ℕ) (a b : List ℕ) → Lacks sep a → Lacks sep b → Lacks sep (a ++ b)
lacks_both sep [] b ha hb = hb
lacks_both sep (x ∷ a) b ha hb = (ha.0, lacks_both sep a b ha.1 hb)

pub unlike : (b sep : ℕ) → b ≢ sep → nat_eq b sep ≡ false
unlike b sep h = grind (arith, nat_tests)

-- ---- what stands before a separator

pub same_prefix : (sep : ℕ) (ds es a b : List ℕ) → Lacks sep ds → Lacks sep es → ds ++ sep ∷ a ≡ es ++ sep ∷ b → (ds ≡ es) × (a ≡ b)
same_prefix sep [] [] a b hd he e = (refl, (let t : a ≡ b = cc in t))
same_prefix sep [] (x ∷ es) a b hd he e = absurd (he.0 (let h : x ≡ sep = cc in h))
same_prefix sep (x ∷ ds) [] a b hd he e = absurd (hd.0 (let h : x ≡ sep = cc in h))
same_prefix sep (x ∷ ds) (y ∷ es) a b hd he e =
    let heads : x ≡ y = cc in
    let tails : ds ++ sep ∷ a ≡ es ++ sep ∷ b = cc in
    let more = same_prefix sep ds es a b hd.1 he.1 tails in
    ((let h : x ∷ ds ≡ y ∷ es = ap (λ z. z ∷ ds) heads ∙ ap (λ zs. y ∷ zs) more.0 in h), more.1)

pub same_number : (i j : ℕ) (a b : List ℕ) → i < 2 ^ 64 → j < 2 ^ 64 → decimal i ++ 47 ∷ a ≡ decimal j ++ 47 ∷ b → (i ≡ j) × (a ≡ b)
same_number i j a b si sj e =
    let h = same_prefix 47 (decimal i) (decimal j) a b (number_lacks 47 i (omega arith) si) (number_lacks 47 j (omega arith) sj) e in
    (decimal_injective i j si sj h.0, h.1)

-- ---- what lies below a folder

pub below_same : (prefix folder path : List ℕ) → below (prefix ++ folder) (prefix ++ path) ≡ below folder path
below_same [] folder path = refl
below_same (a ∷ prefix) folder path = ap (λ t. cond t (below (prefix ++ folder) (prefix ++ path)) None) (eq-eqb a a refl) ∙ below_same prefix folder path

pub below_other : (ds es a b : List ℕ) → Lacks 47 ds → Lacks 47 es → ds ≢ es → below (ds ++ 47 ∷ a) (es ++ 47 ∷ b) ≡ None
below_other [] [] a b hd he ne = absurd (ne refl)
below_other [] (x ∷ es) a b hd he ne = ap (λ t. cond t (below a (es ++ 47 ∷ b)) None) (unlike x 47 he.0)
below_other (x ∷ ds) [] a b hd he ne = ap (λ t. cond t (below (ds ++ 47 ∷ a) b) None) (unlike 47 x (λ e. hd.0 (sym e)))
below_other (x ∷ ds) (y ∷ es) a b hd he ne =
    elim (nat_eq y x) as (λ t. nat_eq y x ≡ t → cond t (below (ds ++ 47 ∷ a) (es ++ 47 ∷ b)) None ≡ None) [
      | true ↦ λ h. below_other ds es a b hd.1 he.1 (λ e. ne (ap (λ z. z ∷ ds) (sym (eqb-true y x h)) ∙ ap (λ zs. y ∷ zs) e))
      | false ↦ λ h. refl
    ] refl

-- ---- the first component of a path

first_at : (ds rest : List ℕ) → Lacks 47 ds → position_or_len is_slash (ds ++ 47 ∷ rest) ≡ length ds
first_at [] rest h = refl
first_at (d ∷ ds) rest h =
    ap (λ t. cond (not t) (1 + position_or_len is_slash (ds ++ 47 ∷ rest)) 0) (unlike d 47 h.0) ∙ omega (arith, first_at ds rest h.1)

pub component : (ds rest : List ℕ) → Lacks 47 ds → before_first is_slash (ds ++ 47 ∷ rest) ≡ ds
component ds rest h = ap (λ n. take n (ds ++ 47 ∷ rest)) (first_at ds rest h) ∙ take-append_seam ds (47 ∷ rest)

pub has_slash : (ds rest : List ℕ) → list_any is_slash (ds ++ 47 ∷ rest) ≡ true
has_slash [] rest = refl
has_slash (d ∷ ds) rest = elim (is_slash d) as (λ t. (t || list_any is_slash (ds ++ 47 ∷ rest)) ≡ true) [ true ↦ refl | false ↦ has_slash ds rest ]
