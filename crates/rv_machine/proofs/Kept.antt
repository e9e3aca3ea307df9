use Rattle.std.proofs.Common.{◌≡◌, ◌≢◌, ℕ, zero, suc, ◌+◌, ◌-◌, ◌*◌, ◌/◌, ◌%◌, ◌<◌, ◌≤◌, ◌^◌, ◌⊎◌, inl, inr, true, false, List, [], ◌∷◌, length, get_or, set, replicate, refl, arith, ap, ◌∙◌, sym, lit<, subst, map}
use Rattle.std.specs.Prelude.{ℤ, Some, Box, max, Result, Ok, Err, IfErr}
use Rattle.std.specs.List.{insert}
use Rattle.std.specs.List.Sorted.{IsBinarySearchResult}
use Rattle.std.specs.Ordering.{nat_cmp}
use Rattle.std.specs.Int.{cast_signed, cast_unsigned, w32}
use Rattle.std.proofs.lemmas.Bool.{cases_eq, cases_lt}
use Rattle.std.proofs.lemmas.Grind.{common_steps}
use Rattle.std.proofs.lemmas.List.{get_or-map, get_or-set_same, get_or_default, length-map}
use Rattle.std.proofs.lemmas.List.Sorted.{searched}
use Rattle.std.proofs.lemmas.List.Edits.{get_or-insert_at, get_or-insert_below, get_or-insert_above, length-insert}
use Rattle.rv_word.specs.declared.instr.Instr.{Instr}
use Rattle.rv_memory.specs.Paged as memory
use Rattle.rv_memory.proofs.Laws.{word_at_store8, word_at_store16, word_at_store32, word_at_store_bytes, is_touched_store8, is_touched_store16, is_touched_store32}
use Rattle.rv_memory.proofs.Storing.{is_touched_store_bytes, place_after_write}
use Rattle.rv_memory.proofs.Touching.{is_touched_touch, is_touched_by, place_kept}
use Rattle.rv_memory.proofs.Bytes.{word_at_touch, touch_cases}
use Rattle.rv_word.specs.Table.{instruction_of}
use Rattle.rv_machine.specs.Decoded.{IsStep, IsFresh, IsAscending, IsCode, IsBetween, Keeps, DiffersAt, pages, step_of, instr_of, is_decoded, undecoded, blank}
use Rattle.rv_machine.specs.declared.code.Code.{Code}

-- ---- places of touched pages

pub place_touch : (m : memory.State) (p q : ℕ) → memory.is_touched m q ≡ true → memory.place (memory.touch m p).pages q ≡ memory.place m.pages q
place_touch m p q h =
    let l : memory.place m.pages q < length m.pages = is_touched_by m.pages q h in
    elim (touch_cases m p) [
      | inl t ↦ ap (λ (s : memory.State). memory.place s.pages q) t
      | inr t ↦ ap (λ (s : memory.State). memory.place s.pages q) t ∙ place_kept m.pages (record { number = p; bytes = memory.zeros }) q l
    ]

pub place_put : (m : memory.State) (a b q : ℕ) → memory.is_touched m q ≡ true → memory.place (memory.put m a b).pages q ≡ memory.place m.pages q
place_put m a b q h =
    let t : memory.State = memory.touch m (a / 4096) in
    place_after_write t.pages (a / 4096) q (set (get_or t.pages (memory.place t.pages (a / 4096)) memory.no_page).bytes (a % 4096) b) ∙ place_touch m (a / 4096) q h

pub place_store_bytes : (m : memory.State) (a q : ℕ) (bs : List ℕ) → memory.is_touched m q ≡ true → memory.place (memory.store_bytes m a bs).pages q ≡ memory.place m.pages q
place_store_bytes m a q [] h = refl
place_store_bytes m a q (b ∷ bs) h =
    place_store_bytes (memory.put m a b) (a + 1) q bs (is_touched_store_bytes m a q (b ∷ []) h) ∙ place_put m a b q h

-- ---- what each change of the memory keeps

pub keeps_refl : (m : memory.State) → Keeps m m
keeps_refl m = record { words = λ b. refl; pages = λ p t. t; places = λ p t. refl }

pub keeps_same : (m n : memory.State) → n ≡ m → Keeps m n
keeps_same m n e = rw e (keeps_refl m)

pub keeps_touch : (m : memory.State) (p : ℕ) → Keeps m (memory.touch m p)
keeps_touch m p = record { words = λ b. word_at_touch m p b; pages = λ q t. is_touched_touch m p q t; places = λ q t. place_touch m p q t }

pub keeps_trans : (m n o : memory.State) → Keeps m n → Keeps n o → Keeps m o
keeps_trans m n o f g =
    record {
      words = λ b. g.words b ∙ f.words b;
      pages = λ p t. g.pages p (f.pages p t);
      places = λ p t. g.places p (f.pages p t) ∙ f.places p t;
    }

keeps_touch_pages : (m : memory.State) (p k : ℕ) → Keeps m (memory.touch_pages m p k)
keeps_touch_pages m p zero = record { words = λ b. refl; pages = λ q t. t; places = λ q t. refl }
keeps_touch_pages m p (suc k) = keeps_trans m (memory.touch_pages m p k) (memory.touch_pages m p (suc k)) (keeps_touch_pages m p k) (keeps_touch (memory.touch_pages m p k) (p + k))

pub keeps_touch_range : (m : memory.State) (a n : ℕ) → Keeps m (memory.touch_range m a n)
keeps_touch_range m a n = keeps_touch_pages m (a / 4096) (memory.span a n)

pub kept : (m n : memory.State) (c : Code) → Keeps m n → IsCode m c → IsCode n c
kept m n c k w =
    record {
      count = w.count;
      whole = w.whole;
      ascending = w.ascending;
      touched = λ i l. k.pages (get_or c.numbers.items i 0) (w.touched i l);
      placed = λ i l. rw (k.places (get_or c.numbers.items i 0) (w.touched i l)) (w.placed i l);
      fresh = λ i j l g. subst (λ (x : ℕ). IsFresh x (step_of c i j)) (sym (k.words (4096 * get_or c.numbers.items i 0 + 4 * j))) (w.fresh i j l g);
    }

pub kept_touch : (m : memory.State) (p : ℕ) (c : Code) → IsCode m c → IsCode (memory.touch m p) c
kept_touch m p c w = kept m (memory.touch m p) c (keeps_touch m p) w

pub differ_store8 : (m : memory.State) (a v : ℕ) → DiffersAt m (memory.store8 m a v) (a / 4 * 4)
differ_store8 m a v = record { words = λ b g n. word_at_store8 m a v b g n; pages = λ p t. is_touched_store8 m a v p t; places = λ p t. place_put m a (v % 0x100) p t }

pub differ_store16 : (m : memory.State) (a v : ℕ) → a % 2 ≡ 0 → DiffersAt m (memory.store16 m a v) (a / 4 * 4)
differ_store16 m a v h =
    record { words = λ b g n. word_at_store16 m a v b h g n; pages = λ p t. is_touched_store16 m a v p t; places = λ p t. place_store_bytes m a p (memory.half_bytes v) t }

pub differ_store32 : (m : memory.State) (a v : ℕ) → a % 4 ≡ 0 → DiffersAt m (memory.store32 m a v) (a / 4 * 4)
differ_store32 m a v h =
    record { words = λ b g n. word_at_store32 m a v b h g (λ e. n (omega arith)); pages = λ p t. is_touched_store32 m a v p t; places = λ p t. place_store_bytes m a p (memory.word_bytes v) t }

-- bytes in one word are put
beside : (a b n : ℕ) → a % 4 + n ≤ 4 → b % 4 ≡ 0 → b ≢ a / 4 * 4 → (b + 4 ≤ a) ⊎ (a + n ≤ b)
beside a b n h g other = elim (cases_lt b a) [ inl l ↦ inl (omega arith) | inr m ↦ inr (omega arith) ]

pub differ_bytes : (m : memory.State) (a : ℕ) (bs : List ℕ) → a % 4 + length bs ≤ 4 → DiffersAt m (memory.store_bytes m a bs) (a / 4 * 4)
differ_bytes m a bs h =
    record {
      words = λ b g n. word_at_store_bytes m a b bs (beside a b (length bs) h g n);
      pages = λ p t. is_touched_store_bytes m a p bs t;
      places = λ p t. place_store_bytes m a p bs t;
    }

-- ---- what each change of the decoded pages keeps

small_undecoded : IsStep undecoded
small_undecoded = record { rd_some = lit< tt; rd = lit< tt; rs1 = lit< tt; rs2 = lit< tt; imm = refl }

fresh_undecoded : (w : ℕ) → IsFresh w undecoded
fresh_undecoded w = record { small = small_undecoded; same = λ e. absurd (cc) }

fresh_unready : (w : ℕ) (s : Instr) → IsStep s → is_decoded s.op ≡ false → IsFresh w s
fresh_unready w s small not = record { small = small; same = λ e. absurd (let f : true ≡ false = sym e ∙ not in cc) }

fresh_same : (w : ℕ) (s t : Instr) → s ≡ t → IsFresh w t → IsFresh w s
fresh_same w s t e f = subst (λ (x : Instr). IsFresh w x) (sym e) f

pub no_code : (m : memory.State) (c : Code) → c.numbers.items ≡ [] → c.steps.items ≡ [] → IsCode m c
no_code m c e f =
    let none : length c.numbers.items ≡ 0 = ap length e in
    record {
      count = ap length f ∙ sym none;
      whole = λ k l. absurd (omega arith);
      ascending = λ i j g l. absurd (omega arith);
      touched = λ k l. absurd (omega arith);
      placed = λ k l. absurd (omega arith);
      fresh = λ k j l g. absurd (omega arith);
    }

-- the step of the word that was written is not decoded any more
pub forgotten : (m n : memory.State) (c d : Code) (at : ℕ) → IsCode m c → DiffersAt m n (at / 4 * 4) → d.numbers ≡ c.numbers → d.last ≡ c.last → length d.steps.items ≡ length c.steps.items →
    ((i : ℕ) → length (get_or (pages d.steps.items) i []) ≡ length (get_or (pages c.steps.items) i [])) →
    ((i j : ℕ) → (step_of d i j ≡ step_of c i j) ⊎ (step_of d i j ≡ undecoded)) →
    ((k : ℕ) → k < length c.numbers.items → get_or c.numbers.items k 0 ≡ at / 4096 → is_decoded (step_of d k (at / 4 % 1024)).op ≡ false) → IsCode n d
forgotten m n c d at w differs numbers last count whole others there =
    let same_items : d.numbers.items ≡ c.numbers.items = ap (λ x. x.items) numbers in
    record {
      count = count ∙ w.count ∙ sym (ap length same_items);
      whole = λ k l. let l' : k < length c.numbers.items = rw same_items at l in whole k ∙ w.whole k l';
      ascending = rw same_items w.ascending;
      touched = λ k l. let l' : k < length c.numbers.items = rw same_items at l in rw same_items (differs.pages (get_or c.numbers.items k 0) (w.touched k l'));
      placed = λ k l. let l' : k < length c.numbers.items = rw same_items at l in rw (same_items, last, differs.places (get_or c.numbers.items k 0) (w.touched k l')) (w.placed k l');
      fresh = λ k j l g.
          let l' : k < length c.numbers.items = rw same_items at l in
          let p : ℕ = get_or c.numbers.items k 0 in
          let same_page : get_or d.numbers.items k 0 ≡ p = ap (λ (xs : List ℕ). get_or xs k 0) same_items in
          let word : ℕ = memory.word_at n (4096 * get_or d.numbers.items k 0 + 4 * j) in
          elim (others k j) [
            | inr gone ↦ fresh_same word (step_of d k j) undecoded gone (fresh_undecoded word)
            | inl stays ↦ elim (cases_eq (4096 * p + 4 * j) (at / 4 * 4)) [
              | inl here ↦
                  let page : p ≡ at / 4096 = omega arith in
                  let offset : j ≡ at / 4 % 1024 = omega arith in
                  fresh_unready word (step_of d k j) (subst IsStep (sym stays) (w.fresh k j l' g).small) (ap (λ (x : ℕ). is_decoded (step_of d k x).op) offset ∙ there k l' page)
              | inr other ↦
                  fresh_same word (step_of d k j) (step_of c k j) stays
                  (subst (λ (x : ℕ). IsFresh x (step_of c k j)) (sym (ap (λ (x : ℕ). memory.word_at n (4096 * x + 4 * j)) same_page ∙ differs.words (4096 * p + 4 * j) (omega arith) other)) (w.fresh k j l' g))
            ]
          ];
    }

-- no word of a page at a place behind the last one is decoded
pub behind : (m n : memory.State) (c : Code) (place at : ℕ) → IsCode m c → DiffersAt m n (at / 4 * 4) → place ≡ memory.place n.pages (at / 4096) → c.last < place → IsCode n c
behind m n c place at w differs at_place far =
    forgotten m n c c at w differs refl refl refl (λ i. refl) (λ i j. inl refl)
    (λ k l page.
    let same : memory.place n.pages (get_or c.numbers.items k 0) ≡ memory.place m.pages (get_or c.numbers.items k 0) = differs.places (get_or c.numbers.items k 0) (w.touched k l) in
    let there : place ≡ memory.place m.pages (get_or c.numbers.items k 0) = at_place ∙ ap (λ (x : ℕ). memory.place n.pages x) (sym page) ∙ same in
    let near : memory.place m.pages (get_or c.numbers.items k 0) ≤ c.last = w.placed k l in
    absurd (omega arith))

-- the bytes lie in one page, which is not decoded
pub elsewhere : (m : memory.State) (c : Code) (a : ℕ) (bs : List ℕ) → IsCode m c → a % 4096 + length bs ≤ 4096 → ((k : ℕ) → k < length c.numbers.items → get_or c.numbers.items k 0 ≢ a / 4096) → IsCode (memory.store_bytes m a bs) c
elsewhere m c a bs w h other =
    record {
      count = w.count;
      whole = w.whole;
      ascending = w.ascending;
      touched = λ k l. is_touched_store_bytes m a (get_or c.numbers.items k 0) bs (w.touched k l);
      placed = λ k l. rw (place_store_bytes m a (get_or c.numbers.items k 0) bs (w.touched k l)) (w.placed k l);
      fresh = λ k j l g. subst (λ (x : ℕ). IsFresh x (step_of c k j)) (sym (word_at_store_bytes m a (4096 * get_or c.numbers.items k 0 + 4 * j) bs (apart_pages a (length bs) (get_or c.numbers.items k 0) j h g (other k l)))) (w.fresh k j l g);
    }
  where
    apart_pages : (a n p j : ℕ) → a % 4096 + n ≤ 4096 → j < 1024 → p ≢ a / 4096 → (4096 * p + 4 * j + 4 ≤ a) ⊎ (a + n ≤ 4096 * p + 4 * j)
    apart_pages a n p j h g other = elim (cases_lt p (a / 4096)) [ inl l ↦ inl (omega arith) | inr m ↦ inr (omega arith) ]

-- what is found in a list where one element was set
set_cases : {A : Type 0} → (xs : List A) (i k : ℕ) (y d : A) → (get_or (set xs i y) k d ≡ get_or xs k d) ⊎ ((k ≡ i) × (get_or (set xs i y) k d ≡ y))
set_cases [] i k y d = inl refl
set_cases (x ∷ xs) zero zero y d = inr (refl, refl)
set_cases (x ∷ xs) zero (suc k) y d = inl refl
set_cases (x ∷ xs) (suc i) zero y d = inl refl
set_cases (x ∷ xs) (suc i) (suc k) y d = elim (set_cases xs i k y d) [ inl s ↦ inl s | inr e ↦ inr (ap suc e.0, e.1) ]

-- the step of a page that was set is the new one or the old one
set_step : (steps : List (List Instr)) (here o k j : ℕ) (s : Instr) →
    (get_or (get_or (set steps here (set (get_or steps here []) o s)) k []) j undecoded ≡ get_or (get_or steps k []) j undecoded)
    ⊎ ((k ≡ here) × (j ≡ o) × (get_or (get_or (set steps here (set (get_or steps here []) o s)) k []) j undecoded ≡ s))
set_step steps here o k j s =
    let page : List Instr = set (get_or steps here []) o s in
    elim (set_cases steps here k page []) [
      | inl same ↦ inl (ap (λ (xs : List Instr). get_or xs j undecoded) same)
      | inr changed ↦ elim (set_cases (get_or steps here []) o j s undecoded) [
        | inl same ↦ inl (ap (λ (xs : List Instr). get_or xs j undecoded) changed.1 ∙ same ∙ ap (λ (x : ℕ). get_or (get_or steps x []) j undecoded) (sym changed.0))
        | inr new ↦ inr (changed.0, new.0, ap (λ (xs : List Instr). get_or xs j undecoded) changed.1 ∙ new.1)
      ]
    ]

-- setting a page changes no count
pub set_count : {A : Type 0} → (old new : List (Box (List Instr) A)) (k : ℕ) (page : List Instr) → pages new ≡ set (pages old) k page → length new ≡ length old
set_count old new k page e = sym (length-map new (λ b. b.value)) ∙ ap length e ∙ grind (arith, common_steps) ∙ length-map old (λ b. b.value)

-- the step of a word that is fresh is kept
pub stepped : (m : memory.State) (c d : Code) (here pc : ℕ) (s : Instr) → IsCode m c → get_or c.numbers.items here 0 ≡ pc / 4096 → pc % 4 ≡ 0 → IsFresh (memory.word_at m pc) s →
    d.numbers ≡ c.numbers → d.last ≡ c.last → pages d.steps.items ≡ set (pages c.steps.items) here (set (get_or (pages c.steps.items) here []) (pc / 4 % 1024) s) → IsCode m d
stepped m c d here pc s w page aligned fresh numbers last steps =
    let same_items : d.numbers.items ≡ c.numbers.items = ap (λ x. x.items) numbers in
    record {
      count = set_count c.steps.items d.steps.items here (set (get_or (pages c.steps.items) here []) (pc / 4 % 1024) s) steps ∙ w.count ∙ sym (ap length same_items);
      whole = λ k l.
          let l' : k < length c.numbers.items = rw same_items at l in
          ap (λ (xs : List (List Instr)). length (get_or xs k [])) steps
          ∙ elim (set_cases (pages c.steps.items) here k (set (get_or (pages c.steps.items) here []) (pc / 4 % 1024) s) []) [
            | inl same ↦ ap length same ∙ w.whole k l'
            | inr changed ↦ ap length changed.1 ∙ grind (arith, common_steps) ∙ ap (λ (x : ℕ). length (get_or (pages c.steps.items) x [])) (sym changed.0) ∙ w.whole k l'
          ];
      ascending = rw same_items w.ascending;
      touched = λ k l. let l' : k < length c.numbers.items = rw same_items at l in rw same_items (w.touched k l');
      placed = λ k l. let l' : k < length c.numbers.items = rw same_items at l in rw (same_items, last) (w.placed k l');
      fresh = λ k j l g.
          let l' : k < length c.numbers.items = rw same_items at l in
          let p : ℕ = get_or c.numbers.items k 0 in
          let word : ℕ = memory.word_at m (4096 * p + 4 * j) in
          let now : step_of d k j ≡ get_or (get_or (set (pages c.steps.items) here (set (get_or (pages c.steps.items) here []) (pc / 4 % 1024) s)) k []) j undecoded = ap (λ (xs : List (List Instr)). get_or (get_or xs k []) j undecoded) steps in
          rw same_items
          (elim (set_step (pages c.steps.items) here (pc / 4 % 1024) k j s) [
            | inl same ↦ fresh_same word (step_of d k j) (step_of c k j) (now ∙ same) (w.fresh k j l' g)
            | inr new ↦
                let on_page : p ≡ pc / 4096 = ap (λ (x : ℕ). get_or c.numbers.items x 0) new.0 ∙ page in
                let address : 4096 * p + 4 * j ≡ pc = let o : j ≡ pc / 4 % 1024 = new.1 in omega arith in
                fresh_same word (step_of d k j) s (now ∙ new.2) (subst (λ (x : ℕ). IsFresh (memory.word_at m x) s) (sym address) fresh)
          ]);
    }

-- ---- reading and adding

-- the steps that are read through a box
pub read_page : {A : Type 0} → (boxes : List (Box (List Instr) A)) (box : Box (List Instr) A) (here : ℕ) → box ≡ get_or boxes here box → here < length boxes → box.value ≡ get_or (pages boxes) here []
read_page boxes box here e l = ap (λ b. b.value) e ∙ sym (get_or-map (λ b. b.value) boxes here box [] l)

-- a step that was kept
pub kept_step : (steps : List (List Instr)) (here o : ℕ) (s : Instr) → here < length steps → length (get_or steps here []) ≡ 1024 → o < 1024 →
    get_or (get_or (set steps here (set (get_or steps here []) o s)) here []) o undecoded ≡ s
kept_step steps here o s l whole small =
    ap (λ (xs : List Instr). get_or xs o undecoded) (get_or-set_same steps here (set (get_or steps here []) o s) [] l) ∙ get_or-set_same (get_or steps here []) o s undecoded (rw whole small)

-- a step that is read field by field
pub read_fields : (page : List Instr) (o : ℕ) (d : Instr) → length page ≡ 1024 → o < 1024 → IsStep (get_or page o undecoded) →
    record { op = (get_or page o d).op; rd = (get_or page o d).rd; rs1 = (get_or page o d).rs1; rs2 = (get_or page o d).rs2; imm = cast_signed w32 (cast_unsigned w32 (get_or page o d).imm) } ≡ get_or page o undecoded
read_fields page o d whole small step =
    rw (get_or_default page o d undecoded (rw whole small)) (let s : Instr = get_or page o undecoded in ap (λ (z : ℤ). record { op = s.op; rd = s.rd; rs1 = s.rs1; rs2 = s.rs2; imm = z }) step.imm)

pub map_insert : {A B : Type 0} → (f : A → B) (xs : List A) (i : ℕ) (y : A) → map f (insert xs i y) ≡ insert (map f xs) i (f y)
map_insert f xs zero y = refl
map_insert f [] (suc i) y = refl
map_insert f (x ∷ xs) (suc i) y = ap (λ ys. f x ∷ ys) (map_insert f xs i y)

-- what is found in a list into which an element was put
insert_cases : {A : Type 0} → (xs : List A) (i : ℕ) (y d : A) (k : ℕ) → i ≤ length xs →
    ((k < i) × (get_or (insert xs i y) k d ≡ get_or xs k d)) ⊎ (((k ≡ i) × (get_or (insert xs i y) k d ≡ y)) ⊎ ((i < k) × (get_or (insert xs i y) k d ≡ get_or xs (k - 1) d)))
insert_cases xs i y d k within = elim (cases_lt k i) [
  | inl before ↦ inl (before, get_or-insert_below xs i y d k before within)
  | inr not ↦ elim (cases_eq k i) [
    | inl here ↦ inr (inl (here, ap (λ (x : ℕ). get_or (insert xs i y) x d) here ∙ get_or-insert_at xs i y d within))
    | inr other ↦
        let back : k ≡ k - 1 + 1 = omega arith in
        inr (inr (omega arith, ap (λ (x : ℕ). get_or (insert xs i y) x d) back ∙ get_or-insert_above xs i y d (k - 1) (omega arith) within))
  ]
]

length_fill : (n : ℕ) → length (replicate n undecoded) ≡ n
length_fill zero = refl
length_fill (suc n) = ap suc (length_fill n)

undecoded_fill : (n k : ℕ) → get_or (replicate n undecoded) k undecoded ≡ undecoded
undecoded_fill zero k = refl
undecoded_fill (suc n) zero = refl
undecoded_fill (suc n) (suc k) = undecoded_fill n k

length_blank : length blank ≡ 1024
unfolding blank
length_blank = length_fill 1024

undecoded_blank : (k : ℕ) → get_or blank k undecoded ≡ undecoded
unfolding blank
undecoded_blank k = undecoded_fill 1024 k

-- numbers in ascending order stay so where one is put between them
ascending_insert : (numbers : List ℕ) (at number : ℕ) → IsAscending numbers → at ≤ length numbers → IsBetween numbers at number → IsAscending (insert numbers at number)
ascending_insert numbers at number w within between i j less l =
    let count : length (insert numbers at number) ≡ length numbers + 1 = length-insert numbers at number within in
    elim (insert_cases numbers at number 0 i within) [
      | inl a ↦ let ia : i < at = a.0 in elim (insert_cases numbers at number 0 j within) [
        | inl b ↦ rw (a.1, b.1) (let jb : j < at = b.0 in w i j less (omega arith))
        | inr (inl b) ↦ rw (a.1, b.1) (between.below i ia)
        | inr (inr b) ↦ rw (a.1, b.1) (let jb : at < j = b.0 in w i (j - 1) (omega arith) (omega arith))
      ]
      | inr (inl a) ↦ let ia : i ≡ at = a.0 in elim (insert_cases numbers at number 0 j within) [
        | inl b ↦ let jb : j < at = b.0 in absurd (omega arith)
        | inr (inl b) ↦ let jb : j ≡ at = b.0 in absurd (omega arith)
        | inr (inr b) ↦ rw (a.1, b.1) (let jb : at < j = b.0 in between.above (j - 1) (omega arith) (omega arith))
      ]
      | inr (inr a) ↦ let ia : at < i = a.0 in elim (insert_cases numbers at number 0 j within) [
        | inl b ↦ let jb : j < at = b.0 in absurd (omega arith)
        | inr (inl b) ↦ let jb : j ≡ at = b.0 in absurd (omega arith)
        | inr (inr b) ↦ rw (a.1, b.1) (let jb : at < j = b.0 in w (i - 1) (j - 1) (omega arith) (omega arith))
      ]
    ]

-- a number stands at one place
pub same_place : (numbers : List ℕ) (i j : ℕ) → IsAscending numbers → i < length numbers → j < length numbers → get_or numbers i 0 ≡ get_or numbers j 0 → i ≡ j
same_place numbers i j w l g e = elim (cases_eq i j) [
  | inl same ↦ same
  | inr other ↦ elim (cases_lt i j) [
    | inl less ↦ let f : get_or numbers i 0 < get_or numbers j 0 = w i j less g in absurd (omega (arith, e, f))
    | inr not ↦ let f : get_or numbers j 0 < get_or numbers i 0 = w j i (omega arith) l in absurd (omega (arith, e, f))
  ]
]

-- what a search finds where a number does not stand
pub between : (numbers : List ℕ) (number : ℕ) (r : Result ℕ ℕ) → IsBinarySearchResult (λ y. nat_cmp y number) numbers r → IfErr r (λ k. IsAscending numbers → IsBetween numbers k number)
between numbers number (Ok k) h = tt
between numbers number (Err k) h =
    λ w. let found = searched numbers number (Err k) h (λ i j le l. elim (cases_eq i j) [ inl same ↦ rw same (omega arith) | inr other ↦ let less : get_or numbers i 0 < get_or numbers j 0 = w i j (omega arith) l in omega arith ]) in
    record { below = found.1; above = found.2 }

-- the pages that are decoded stay
pub same_code : (m : memory.State) (c d : Code) → IsCode m c → d.numbers.items ≡ c.numbers.items → d.steps.items ≡ c.steps.items → d.last ≡ c.last → IsCode m d
same_code m c d w numbers steps last =
    record {
      count = ap length steps ∙ w.count ∙ sym (ap length numbers);
      whole = λ k l. rw steps (w.whole k (rw numbers at l));
      ascending = rw numbers w.ascending;
      touched = λ k l. rw numbers (w.touched k (rw numbers at l));
      placed = λ k l. rw (numbers, last) (w.placed k (rw numbers at l));
      fresh = λ k j l g. rw (numbers, steps) (w.fresh k j (rw numbers at l) g);
    }

-- a page of d is one of c
record IsOld (c d : Code) (k : ℕ) : Type 0 where
  old : ℕ
  some : old < length c.numbers.items
  number : get_or d.numbers.items k 0 ≡ get_or c.numbers.items old 0
  steps : get_or (pages d.steps.items) k [] ≡ get_or (pages c.steps.items) old []

-- a page where one was added is the new one or one of those before
new_or_old : (c d : Code) (at number k : ℕ) → length (pages c.steps.items) ≡ length c.numbers.items → at ≤ length c.numbers.items → d.numbers.items ≡ insert c.numbers.items at number → pages d.steps.items ≡ insert (pages c.steps.items) at blank → k < length d.numbers.items →
    ((get_or d.numbers.items k 0 ≡ number) × (get_or (pages d.steps.items) k [] ≡ blank)) ⊎ IsOld c d k
new_or_old c d at number k count within numbers steps l =
    let more : length d.numbers.items ≡ length c.numbers.items + 1 = ap length numbers ∙ length-insert c.numbers.items at number within in
    let n : get_or d.numbers.items k 0 ≡ get_or (insert c.numbers.items at number) k 0 = ap (λ (xs : List ℕ). get_or xs k 0) numbers in
    let s : get_or (pages d.steps.items) k [] ≡ get_or (insert (pages c.steps.items) at blank) k [] = ap (λ (xs : List (List Instr)). get_or xs k []) steps in
    let room : at ≤ length (pages c.steps.items) = rw count within in
    elim (cases_lt k at) [
      | inl before ↦ inr (record { old = k; some = omega arith; number = n ∙ get_or-insert_below c.numbers.items at number 0 k before within; steps = s ∙ get_or-insert_below (pages c.steps.items) at blank [] k before room })
      | inr not ↦ elim (cases_eq k at) [
        | inl here ↦ inl (
          n ∙ ap (λ (x : ℕ). get_or (insert c.numbers.items at number) x 0) here ∙ get_or-insert_at c.numbers.items at number 0 within,
          s ∙ ap (λ (x : ℕ). get_or (insert (pages c.steps.items) at blank) x []) here ∙ get_or-insert_at (pages c.steps.items) at blank [] room,
        )
        | inr other ↦
            let back : k ≡ k - 1 + 1 = omega arith in
            inr (record {
              old = k - 1;
              some = omega arith;
              number = n ∙ ap (λ (x : ℕ). get_or (insert c.numbers.items at number) x 0) back ∙ get_or-insert_above c.numbers.items at number 0 (k - 1) (omega arith) within;
              steps = s ∙ ap (λ (x : ℕ). get_or (insert (pages c.steps.items) at blank) x []) back ∙ get_or-insert_above (pages c.steps.items) at blank [] (k - 1) (omega arith) room;
            })
      ]
    ]

-- a page of which no word is decoded is added, at its place among the others
pub added : (m : memory.State) (c d : Code) (at place number : ℕ) → IsCode m c → memory.is_touched m number ≡ true → place ≡ memory.place m.pages number → at ≤ length c.numbers.items → IsBetween c.numbers.items at number →
    d.numbers.items ≡ insert c.numbers.items at number → pages d.steps.items ≡ insert (pages c.steps.items) at blank → d.last ≡ max c.last place → IsCode m d
added m c d at place number w touched at_place within between numbers steps last =
    let count : length (pages c.steps.items) ≡ length c.numbers.items = length-map c.steps.items (λ b. b.value) ∙ w.count in
    let page = λ (k : ℕ) (l : k < length d.numbers.items). new_or_old c d at number k count within numbers steps l in
    record {
      count = sym (length-map d.steps.items (λ b. b.value)) ∙ ap length steps ∙ length-insert (pages c.steps.items) at blank (rw count within) ∙ ap (λ (x : ℕ). x + 1) count ∙ sym (ap length numbers ∙ length-insert c.numbers.items at number within);
      whole = λ k l. elim (page k l) [
        | inl e ↦ ap length e.1 ∙ length_blank
        | inr o ↦ ap length o.steps ∙ w.whole o.old o.some
      ];
      ascending = rw numbers (ascending_insert c.numbers.items at number w.ascending within between);
      touched = λ k l. elim (page k l) [
        | inl e ↦ rw e.0 touched
        | inr o ↦ rw o.number (w.touched o.old o.some)
      ];
      placed = λ k l. elim (page k l) [
        | inl e ↦ rw (e.0, last, ← at_place) (omega arith)
        | inr o ↦ let le : memory.place m.pages (get_or c.numbers.items o.old 0) ≤ c.last = w.placed o.old o.some in rw (o.number, last) (omega arith)
      ];
      fresh = λ k j l g. elim (page k l) [
        | inl e ↦ fresh_same (memory.word_at m (4096 * get_or d.numbers.items k 0 + 4 * j)) (step_of d k j) undecoded (ap (λ (xs : List Instr). get_or xs j undecoded) e.1 ∙ undecoded_blank j) (fresh_undecoded (memory.word_at m (4096 * get_or d.numbers.items k 0 + 4 * j)))
        | inr o ↦ rw o.number (fresh_same (memory.word_at m (4096 * get_or c.numbers.items o.old 0 + 4 * j)) (step_of d k j) (step_of c o.old j) (ap (λ (xs : List Instr). get_or xs j undecoded) o.steps) (w.fresh o.old j o.some g))
      ];
    }

-- ---- the step at an address in a decoded page

pub touched_at : (m : memory.State) (c : Code) (here pc : ℕ) → IsCode m c → here < length c.numbers.items → get_or c.numbers.items here 0 ≡ pc / 4096 → memory.is_touched m (pc / 4096) ≡ true
touched_at m c here pc w some page = rw page at (w.touched here some)

pub fresh_at : (m : memory.State) (c : Code) (here pc : ℕ) → IsCode m c → here < length c.numbers.items → get_or c.numbers.items here 0 ≡ pc / 4096 → pc % 4 ≡ 0 → IsFresh (memory.word_at m pc) (step_of c here (pc / 4 % 1024))
fresh_at m c here pc w some page aligned =
    let address : 4096 * get_or c.numbers.items here 0 + 4 * (pc / 4 % 1024) ≡ pc = omega arith in
    rw address at (w.fresh here (pc / 4 % 1024) some (omega arith))

-- ---- the step at a place in a decoded page

-- the step at a place is small
pub small_at : (m : memory.State) (c : Code) (page : List Instr) (here word : ℕ) → IsCode m c → here < length c.numbers.items → word < 1024 → page ≡ get_or (pages c.steps.items) here [] →
    IsStep (get_or page word undecoded)
small_at m c page here word w some within e = rw e (w.fresh here word some within).small

-- the step that is read at a place
pub read_kept : (c : Code) (page : List Instr) (here word : ℕ) (i : Instr) → page ≡ get_or (pages c.steps.items) here [] → i ≡ get_or page word undecoded → i ≡ step_of c here word
read_kept c page here word i e read = read ∙ ap (λ (xs : List Instr). get_or xs word undecoded) e

-- a decoded step is the instruction at its address, whose page is touched
pub record IsReadyStep (m : memory.State) (page word pc : ℕ) (i : Instr) : Type 0 where
  pub there : memory.is_touched m (pc / 4096) ≡ true
  pub same : instruction_of (memory.word_at m pc) ≡ Some (instr_of i)

pub ready_step : (m : memory.State) (c : Code) (steps : List Instr) (here page word pc : ℕ) (i : Instr) → IsCode m c → here < length c.numbers.items → page ≡ 4096 * get_or c.numbers.items here 0 → page < 2 ^ 32 →
    word < 1024 → pc ≡ (page + 4 * word) % 2 ^ 32 → steps ≡ get_or (pages c.steps.items) here [] → i ≡ get_or steps word undecoded → is_decoded i.op ≡ true → IsReadyStep m page word pc i
ready_step m c steps here page word pc i w some at small within address e step ready =
    let kept : i ≡ step_of c here word = read_kept c steps here word i e step in
    let number : get_or c.numbers.items here 0 ≡ pc / 4096 = omega arith in
    let aligned : pc % 4 ≡ 0 = omega arith in
    let there : pc / 4 % 1024 ≡ word = omega arith in
    let fresh : IsFresh (memory.word_at m pc) (step_of c here word) = rw there at (fresh_at m c here pc w some number aligned) in
    record {
      there = touched_at m c here pc w some number;
      same = (fresh_same (memory.word_at m pc) i (step_of c here word) kept fresh).same ready;
    }
