-- Where the words of a command lead.
use Rattle.std.proofs.Common.{ℕ, ◌≡◌, List, [], ◌∷◌, ◌++◌, Option, Some, None, Bool, true, false, cond, ◌||◌, ◌&&◌, not, refl, sym, ap, ◌∙◌, subst, map, fold, eqb, length, arith, Contains}
use Rattle.std.specs.Prelude.{is_some, nat_eq, codes}
use Rattle.std.specs.List.{list_all}
use Rattle.std.specs.Option.{option_and_then, option_map_or}
use Rattle.std.specs.Str.{bytes_eq}
use Rattle.std.proofs.lemmas.Bool.{and_left, and_right, not-true, false_from_ne_true, and_from, or_from, not_from_false, ne_eqb}
use Rattle.std.proofs.lemmas.Slice.Eq.{bytes_eq-Decides}
use Rattle.package_folder.proofs.Members.{first_in, later_in, in_map}
use Rattle.command_line.specs.Checks.{is_value, is_plain, joined_value}
use Rattle.clap.specs.declared.builder.value_parser.Reading.{Reading}
use Rattle.clap.specs.declared.parser.matches.ValueSource.TheVariants.{CommandLine}
use Rattle.clap.specs.declared.error.kind.ErrorKind.TheVariants.{ArgumentConflict}
use Rattle.clap.specs.Lexer.{long_of, short_of, long_of_rest, short_of_rest, strip_byte}
use Rattle.clap.specs.Kinds.{Kinds, or_else}
use Rattle.clap.specs.Simple.{Shape}
use Rattle.clap.specs.Walk.{Row, Rule, Held, Waiting, Walk, Step, idle, option, next, value, trailing}
use Rattle.clap.specs.Walk.{walked, plain_word, option_word, after_step, to_positional, subcommand_or_other, long_or_other, short_or_plain, arg_by_id, arg_by_index, pushed, settled, settled_rows, has_row, with_values, without}
use Rattle.clap.specs.Faults.{walk_fault, turn_fault, settle_fault, repeat_fault, other_fault, flag_word_fault, step_fault, bundle_fault}
use Rattle.command_laws.specs.Items.{Item, Spaced, Joined, Flag, Operand, words_of, all_words, Grammar, said_by, all_said, Takes, TakesAll}
use Rattle.command_laws.proofs.Said.{Pair, lookup, Has, has_push, used_row}

-- ---- between two words

abbrev pub walk_at : Held → ℕ → Walk
walk_at h position = record { held = h; waiting = idle; position = position; is_trailing = false; stopped = None }

abbrev pub waiting_at : Held → List ℕ → ℕ → Walk
waiting_at h name position = record { held = h; waiting = option name; position = position; is_trailing = false; stopped = None }

abbrev pub pending_on : List ℕ → List (List ℕ) → Held → Held
pending_on name values h = record h { pending = Some (name, values) }

abbrev pub used_on : List ℕ → Reading → List (List ℕ) → List Row → Held → Held
used_on name how values rows h = record h { rows = with_values name how CommandLine values (without name rows); pending = None }

abbrev pub rows_on : Shape → Held → List Row
rows_on s h = settled_rows s.rules h.pending h.rows

abbrev pub fault_on : Shape → Held → Kinds
fault_on s h = settle_fault s.rules s.args_override_self h

abbrev pub repeated : Shape → List ℕ → List Row → Kinds
repeated s name rows = or_else (repeat_fault s.args_override_self name rows) []

-- ---- what is known of the arguments of a command

-- a value of it that is pending is its one value
pub record TakesOne (s : Shape) (name : List ℕ) (how : Reading) : Type 0 where
  pub settles : (v : List ℕ) (rows : List Row) → settled_rows s.rules (Some (name, v ∷ [])) rows ≡ with_values name how CommandLine (v ∷ []) (without name rows)
  pub faults : (v : List ℕ) (h : Held) → fault_on s (pending_on name (v ∷ []) h) ≡ repeated s name h.rows

pub record IsOption (s : Shape) (name : List ℕ) : Type 0 where
  pub how : Reading
  pub one : TakesOne s name how
  pub plain : is_plain (45 ∷ 45 ∷ name) ≡ true
  pub joined_plain : (v : List ℕ) → is_plain (45 ∷ 45 ∷ (name ++ 61 ∷ v)) ≡ is_value v
  pub met : (h : Held) (p : ℕ) → walked s.rules [] (walk_at h p) (45 ∷ 45 ∷ name) ≡ waiting_at (pending_on name [] (settled s.rules h)) name p
  pub met_fault : (h : Held) (p : ℕ) → turn_fault s [] (walk_at h p) (45 ∷ 45 ∷ name) ≡ or_else (fault_on s h) []
  pub value : (h : Held) (v : List ℕ) → option_word (arg_by_id s.rules name) name v (pending_on name [] h) ≡ (pending_on name (v ∷ []) h, idle)
  pub joined : (h : Held) (p : ℕ) (v : List ℕ) → walked s.rules [] (walk_at h p) (45 ∷ 45 ∷ (name ++ 61 ∷ v)) ≡ walk_at (used_on name how (v ∷ []) (rows_on s h) h) p
  pub joined_fault : (h : Held) (p : ℕ) (v : List ℕ) → turn_fault s [] (walk_at h p) (45 ∷ 45 ∷ (name ++ 61 ∷ v)) ≡ or_else (or_else (fault_on s h) (repeated s name (rows_on s h))) []

pub record IsFlag (s : Shape) (name : List ℕ) : Type 0 where
  pub how : Reading
  pub plain : is_plain (45 ∷ 45 ∷ name) ≡ true
  pub met : (h : Held) (p : ℕ) → walked s.rules [] (walk_at h p) (45 ∷ 45 ∷ name) ≡ walk_at (used_on name how (codes "true" ∷ []) (rows_on s h) h) p
  pub met_fault : (h : Held) (p : ℕ) → turn_fault s [] (walk_at h p) (45 ∷ 45 ∷ name) ≡ or_else (or_else (fault_on s h) (repeated s name (rows_on s h))) []

pub record IsOperand (s : Shape) (name : List ℕ) : Type 0 where
  pub how : Reading
  pub one : TakesOne s name how
  pub same : Held → Bool
  pub met : (h : Held) (v : List ℕ) → to_positional s.rules (arg_by_index s.rules 1) v (walk_at h 1) h ≡ walk_at (pushed name v (cond (same h && false) h (settled s.rules h))) 2
  pub met_fault : (h : Held) → step_fault s 1 h value ≡ cond (same h && false) [] (fault_on s h)

-- the rows of a command with no fault and nothing else
pub record Knows (s : Shape) (g : Grammar) : Type 0 where
  pub options : (name : List ℕ) → Contains g.options name → IsOption s name
  pub flags : (name : List ℕ) → Contains g.flags name → IsFlag s name
  pub operand : IsOperand s g.operand

-- ---- a word that is no flag

not_dash : (b : ℕ) (bs : List ℕ) → is_value (b ∷ bs) ≡ true → nat_eq b 45 ≡ false
not_dash b bs e = not-true (nat_eq b 45) e

no_long : (b : ℕ) (bs : List ℕ) → nat_eq b 45 ≡ false → long_of (b ∷ bs) ≡ None
no_long b bs e = ap (λ (t : Bool). option_and_then long_of_rest (option_and_then (strip_byte 45) (cond t (Some bs) None))) e

no_short : (b : ℕ) (bs : List ℕ) → nat_eq b 45 ≡ false → short_of (b ∷ bs) ≡ None
no_short b bs e = ap (λ (t : Bool). option_and_then short_of_rest (cond t (Some bs) None)) e

no_end : (b : ℕ) (bs : List ℕ) → nat_eq b 45 ≡ false → bytes_eq (b ∷ bs) (45 ∷ 45 ∷ []) ≡ false
no_end b bs e = and_left (nat_eq b 45) _ e

plain_met : (c : List Rule) (waiting : Waiting) (p : ℕ) (v : List ℕ) (h : Held) → is_value v ≡ true → subcommand_or_other c None waiting p v h ≡ plain_word c waiting v h
plain_met c waiting p [] h e = let no' : ⊥ = cc in absurd no'
plain_met c waiting p (b ∷ bs) h e =
    let d = not_dash b bs e in
    ap (λ (t : Bool). cond t (h, trailing p) (long_or_other c waiting (b ∷ bs) (long_of (b ∷ bs)) h)) (no_end b bs d)
    ∙ (ap (λ o. long_or_other c waiting (b ∷ bs) o h) (no_long b bs d) ∙ ap (λ o. short_or_plain c waiting (b ∷ bs) o h) (no_short b bs d))

plain_fault : (s : Shape) (v : List ℕ) (h : Held) → is_value v ≡ true → other_fault s None v h ≡ []
plain_fault s [] h e = let no' : ⊥ = cc in absurd no'
plain_fault s (b ∷ bs) h e =
    let d = not_dash b bs e in
    ap (λ (t : Bool). cond t [] (flag_word_fault s.rules s.args_override_self (long_of (b ∷ bs)) (b ∷ bs) h)) (no_end b bs d)
    ∙ (ap (λ o. flag_word_fault s.rules s.args_override_self o (b ∷ bs) h) (no_long b bs d)
    ∙ ap (λ o. option_map_or (λ flags. bundle_fault s.rules s.args_override_self flags h) o []) (no_short b bs d))

-- a word that begins with `-` and is not all of that
pub plain_joined : (rest v : List ℕ) → bytes_eq (45 ∷ rest) (45 ∷ []) ≡ false → bytes_eq (45 ∷ rest) (45 ∷ 45 ∷ []) ≡ false → joined_value (45 ∷ rest) ≡ Some v → is_plain (45 ∷ rest) ≡ is_value v
plain_joined rest v one two has =
    let some : eqb (length (45 ∷ rest)) 0 ≡ false = ne_eqb (length (45 ∷ rest)) 0 (λ f. omega arith) in
    ap (λ (t : Bool). not (t || (bytes_eq (45 ∷ rest) (45 ∷ []) || bytes_eq (45 ∷ rest) (45 ∷ 45 ∷ []))) && option_map_or is_value (joined_value (45 ∷ rest)) true) some
    ∙ (ap (λ (t : Bool). not (t || bytes_eq (45 ∷ rest) (45 ∷ 45 ∷ [])) && option_map_or is_value (joined_value (45 ∷ rest)) true) one
    ∙ (ap (λ (t : Bool). not t && option_map_or is_value (joined_value (45 ∷ rest)) true) two ∙ ap (λ (o : Option (List ℕ)). option_map_or is_value o true) has))

plain_value : (v : List ℕ) → is_value v ≡ true → is_plain v ≡ true
plain_value [] e = let no' : ⊥ = cc in absurd no'
plain_value (b ∷ bs) e =
    let d = not_dash b bs e in
    let some : eqb (length (b ∷ bs)) 0 ≡ false = ne_eqb (length (b ∷ bs)) 0 (λ f. omega arith) in
    let one : bytes_eq (b ∷ bs) (45 ∷ []) ≡ false = and_left (nat_eq b 45) _ d in
    and_from _ _ (not_from_false _ (or_from _ _ some (or_from _ _ one (no_end b bs d))))
    (ap (λ (o : Option (List ℕ × Option (List ℕ))). option_map_or is_value (option_and_then (λ parts. parts.1) o) true) (no_long b bs d))

pub plain_words : (s : Shape) (g : Grammar) (items : List Item) → Knows s g → TakesAll g items → list_all is_plain (all_words items) ≡ true
plain_words s g [] knows takes = refl
plain_words s g (Spaced name v ∷ items) knows takes = and_from _ _ ((knows.options name takes.0.0).plain) (and_from _ _ (plain_value v takes.0.1) (plain_words s g items knows takes.2))
plain_words s g (Joined name v ∷ items) knows takes = and_from _ _ ((knows.options name takes.0.0).joined_plain v ∙ takes.0.1) (plain_words s g items knows takes.2)
plain_words s g (Flag name ∷ items) knows takes = and_from _ _ ((knows.flags name takes.0).plain) (plain_words s g items knows takes.2)
plain_words s g (Operand v ∷ items) knows takes = and_from _ _ (plain_value v takes.0) (plain_words s g items knows takes.2)

-- a value of an option
value_walk : (s : Shape) (name v : List ℕ) (h : Held) (p : ℕ) → IsOption s name → is_value v ≡ true → walked s.rules [] (waiting_at (pending_on name [] h) name p) v ≡ walk_at (pending_on name (v ∷ []) h) p
unfolding walked
value_walk s name v h p o e =
    ap (λ (m : Held × Step). after_step s.rules v (waiting_at (pending_on name [] h) name p) m.0 m.1) (plain_met s.rules (option name) p v (pending_on name [] h) e)
    ∙ ap (λ (m : Held × Waiting). after_step s.rules v (waiting_at (pending_on name [] h) name p) m.0 (next m.1)) (o.value h v)

value_fault : (s : Shape) (name v : List ℕ) (h : Held) (p : ℕ) → is_value v ≡ true → turn_fault s [] (waiting_at (pending_on name [] h) name p) v ≡ []
value_fault s name v h p e =
    let w = pending_on name [] h in
    ap (λ (m : Held × Step). or_else (other_fault s None v w) (step_fault s p m.0 m.1)) (plain_met s.rules (option name) p v w e)
    ∙ ap (λ (k : Kinds). or_else k []) (plain_fault s v w e)

-- an operand
operand_walk : (s : Shape) (name v : List ℕ) (h : Held) → IsOperand s name → is_value v ≡ true → walked s.rules [] (walk_at h 1) v ≡ walk_at (pending_on name (v ∷ []) (settled s.rules h)) 2
unfolding walked
operand_walk s name v h o e =
    ap (λ (m : Held × Step). after_step s.rules v (walk_at h 1) m.0 m.1) (plain_met s.rules idle 1 v h e)
    ∙ (o.met h v ∙ ap (λ (t : Bool). walk_at (pushed name v (cond t h (settled s.rules h))) 2) (and_right (o.same h) false refl))

operand_fault : (s : Shape) (name v : List ℕ) (h : Held) → IsOperand s name → is_value v ≡ true → fault_on s h ≡ [] → turn_fault s [] (walk_at h 1) v ≡ []
operand_fault s name v h o e none =
    ap (λ (m : Held × Step). or_else (other_fault s None v h) (step_fault s 1 m.0 m.1)) (plain_met s.rules idle 1 v h e)
    ∙ (ap (λ (k : Kinds). or_else k (step_fault s 1 h value)) (plain_fault s v h e)
    ∙ (o.met_fault h ∙ (ap (λ (t : Bool). cond t [] (fault_on s h)) (and_right (o.same h) false refl) ∙ none)))

-- ---- item by item

-- the walk stands between items that have said this
pub record At (s : Shape) (g : Grammar) (h : Held) (p : ℕ) (said : List Pair) : Type 0 where
  pub has : Has (rows_on s h) said
  pub none : fault_on s h ≡ []
  pub first : lookup g.operand said ≡ None → p ≡ 1

-- what words lead to, whatever comes behind them
pub record Leads (s : Shape) (g : Grammar) (h : Held) (p : ℕ) (words : List (List ℕ)) (said : List Pair) : Type 0 where
  pub held : Held
  pub position : ℕ
  pub walks : (rest : List (List ℕ)) → fold (walked s.rules []) (walk_at h p) (words ++ rest) ≡ fold (walked s.rules []) (walk_at held position) rest
  pub faults : (rest : List (List ℕ)) → walk_fault s [] (walk_at h p) (words ++ rest) ≡ walk_fault s [] (walk_at held position) rest
  pub at : At s g held position said

no_row : (s : Shape) (g : Grammar) (h : Held) (p : ℕ) (said : List Pair) (name : List ℕ) → At s g h p said → lookup name said ≡ None → has_row name (rows_on s h) ≡ false
no_row s g h p said name at none = at.has.row name ∙ ap (λ (o : Option (List ℕ)). is_some o) none

not_repeated : (s : Shape) (name : List ℕ) (rows : List Row) → has_row name rows ≡ false → repeated s name rows ≡ []
not_repeated s name rows e = ap (λ (t : Bool). or_else (cond (t && not s.args_override_self) (ArgumentConflict ∷ []) []) []) e

-- the first item with this name keeps the place of the operand
still_first : (g : Grammar) (said : List Pair) (name text : List ℕ) (p : ℕ) → (lookup g.operand said ≡ None → p ≡ 1) → lookup g.operand (said ++ (name, text) ∷ []) ≡ None → p ≡ 1
still_first g said name text p first none = first (before said none)
  where
    before : (m : List Pair) → lookup g.operand (m ++ (name, text) ∷ []) ≡ None → lookup g.operand m ≡ None
    before [] e = refl
    before (x ∷ m) e = by (bytes_eq x.0 g.operand) e (before m)
      where
        by : (t : Bool) → cond t (Some x.1) (lookup g.operand (m ++ (name, text) ∷ [])) ≡ None → (lookup g.operand (m ++ (name, text) ∷ []) ≡ None → lookup g.operand m ≡ None) → cond t (Some x.1) (lookup g.operand m) ≡ None
        by true f rest = let no' : ⊥ = cc in absurd no'
        by false f rest = rest f

-- a value that is pending is a row more
value_at : (s : Shape) (g : Grammar) (h : Held) (p q : ℕ) (said : List Pair) (name v : List ℕ) (how : Reading) → TakesOne s name how → At s g h p said → lookup name said ≡ None
    → (lookup g.operand (said ++ (name, v) ∷ []) ≡ None → q ≡ 1) → At s g (pending_on name (v ∷ []) (settled s.rules h)) q (said ++ (name, v) ∷ [])
value_at s g h p q said name v how one at fresh first = record {
  has = subst (λ (z : List Row). Has z (said ++ (name, v) ∷ [])) (sym (one.settles v (rows_on s h) ∙ used_row name how (v ∷ []) (rows_on s h) (no_row s g h p said name at fresh))) (has_push (rows_on s h) said name v how at.has);
  none = one.faults v (settled s.rules h) ∙ not_repeated s name (rows_on s h) (no_row s g h p said name at fresh);
  first = first;
}

-- a value that was used is a row more
used_at : (s : Shape) (g : Grammar) (h : Held) (p : ℕ) (said : List Pair) (name v : List ℕ) (how : Reading) → At s g h p said → lookup name said ≡ None
    → At s g (used_on name how (v ∷ []) (rows_on s h) h) p (said ++ (name, v) ∷ [])
used_at s g h p said name v how at fresh = record {
  has = subst (λ (z : List Row). Has z (said ++ (name, v) ∷ [])) (sym (used_row name how (v ∷ []) (rows_on s h) (no_row s g h p said name at fresh))) (has_push (rows_on s h) said name v how at.has);
  none = refl;
  first = still_first g said name v p at.first;
}

used_none : (s : Shape) (g : Grammar) (h : Held) (p : ℕ) (said : List Pair) (name : List ℕ) → At s g h p said → lookup name said ≡ None → or_else (or_else (fault_on s h) (repeated s name (rows_on s h))) [] ≡ []
used_none s g h p said name at fresh =
    ap (λ (k : Kinds). or_else (or_else k (repeated s name (rows_on s h))) []) at.none
    ∙ ap (λ (k : Kinds). or_else k []) (not_repeated s name (rows_on s h) (no_row s g h p said name at fresh))

item_leads : (s : Shape) (g : Grammar) (item : Item) (h : Held) (p : ℕ) (said : List Pair) → Knows s g → Takes g item → At s g h p said → lookup (said_by g item).0 said ≡ None
    → Leads s g h p (words_of item) (said ++ said_by g item ∷ [])
unfolding walk_fault
item_leads s g (Spaced name v) h p said knows takes at fresh =
    let o = knows.options name takes.0 in
    let e = takes.1 in
    let h' = pending_on name (v ∷ []) (settled s.rules h) in
    record {
      held = h';
      position = p;
      walks = λ rest.
          ap (λ (w : Walk). fold (walked s.rules []) (walked s.rules [] w v) rest) (o.met h p)
          ∙ ap (λ (w : Walk). fold (walked s.rules []) w rest) (value_walk s name v (settled s.rules h) p o e);
      faults = λ rest.
          ap (λ (k : Kinds). or_else k (walk_fault s [] (walked s.rules [] (walk_at h p) (45 ∷ 45 ∷ name)) (v ∷ rest))) (o.met_fault h p ∙ ap (λ (k : Kinds). or_else k []) at.none)
          ∙ (ap (λ (w : Walk). or_else (turn_fault s [] w v) (walk_fault s [] (walked s.rules [] w v) rest)) (o.met h p)
          ∙ (ap (λ (k : Kinds). or_else k (walk_fault s [] (walked s.rules [] (waiting_at (pending_on name [] (settled s.rules h)) name p) v) rest)) (value_fault s name v (settled s.rules h) p e)
          ∙ ap (λ (w : Walk). walk_fault s [] w rest) (value_walk s name v (settled s.rules h) p o e)));
      at = value_at s g h p p said name v o.how o.one at fresh (still_first g said name v p at.first);
    }
item_leads s g (Joined name v) h p said knows takes at fresh =
    let o = knows.options name takes.0 in
    record {
      held = used_on name o.how (v ∷ []) (rows_on s h) h;
      position = p;
      walks = λ rest. ap (λ (w : Walk). fold (walked s.rules []) w rest) (o.joined h p v);
      faults = λ rest.
          ap (λ (k : Kinds). or_else k (walk_fault s [] (walked s.rules [] (walk_at h p) (45 ∷ 45 ∷ (name ++ 61 ∷ v))) rest)) (o.joined_fault h p v ∙ used_none s g h p said name at fresh)
          ∙ ap (λ (w : Walk). walk_fault s [] w rest) (o.joined h p v);
      at = used_at s g h p said name v o.how at fresh;
    }
item_leads s g (Flag name) h p said knows takes at fresh =
    let o = knows.flags name takes in
    record {
      held = used_on name o.how (codes "true" ∷ []) (rows_on s h) h;
      position = p;
      walks = λ rest. ap (λ (w : Walk). fold (walked s.rules []) w rest) (o.met h p);
      faults = λ rest.
          ap (λ (k : Kinds). or_else k (walk_fault s [] (walked s.rules [] (walk_at h p) (45 ∷ 45 ∷ name)) rest)) (o.met_fault h p ∙ used_none s g h p said name at fresh)
          ∙ ap (λ (w : Walk). walk_fault s [] w rest) (o.met h p);
      at = used_at s g h p said name (codes "true") o.how at fresh;
    }
item_leads s g (Operand v) h p said knows takes at fresh =
    let o = knows.operand in
    let one : p ≡ 1 = at.first fresh in
    let walks_one : walked s.rules [] (walk_at h p) v ≡ walk_at (pending_on g.operand (v ∷ []) (settled s.rules h)) 2
    = ap (λ (q : ℕ). walked s.rules [] (walk_at h q) v) one ∙ operand_walk s g.operand v h o takes in
    let faults_one : turn_fault s [] (walk_at h p) v ≡ []
    = ap (λ (q : ℕ). turn_fault s [] (walk_at h q) v) one ∙ operand_fault s g.operand v h o takes at.none in
    record {
      held = pending_on g.operand (v ∷ []) (settled s.rules h);
      position = 2;
      walks = λ rest. ap (λ (w : Walk). fold (walked s.rules []) w rest) walks_one;
      faults = λ rest.
          ap (λ (k : Kinds). or_else k (walk_fault s [] (walked s.rules [] (walk_at h p) v) rest)) faults_one
          ∙ ap (λ (w : Walk). walk_fault s [] w rest) walks_one;
      at = value_at s g h p 2 said g.operand v o.how o.one at fresh (λ none. absurd (there said none));
    }
  where
    there : (m : List Pair) → lookup g.operand (m ++ (g.operand, v) ∷ []) ≡ None → ⊥
    there [] e = let f : Some v ≡ None = ap (λ (t : Bool). cond t (Some v) None) (sym ((bytes_eq-Decides g.operand g.operand).1 refl)) ∙ e in let no' : ⊥ = cc in no'
    there (x ∷ m) e = by (bytes_eq x.0 g.operand) e (there m)
      where
        by : (t : Bool) → cond t (Some x.1) (lookup g.operand (m ++ (g.operand, v) ∷ [])) ≡ None → (lookup g.operand (m ++ (g.operand, v) ∷ []) ≡ None → ⊥) → ⊥
        by true f rest = let no' : ⊥ = cc in no'
        by false f rest = rest f

-- ---- all items

fresh_push : (name : List ℕ) (said : List Pair) (m : Pair) → lookup name said ≡ None → bytes_eq m.0 name ≡ false → lookup name (said ++ m ∷ []) ≡ None
fresh_push name [] m none other = ap (λ (t : Bool). cond t (Some m.1) None) other
fresh_push name (x ∷ said) m none other = by (bytes_eq x.0 name) none (fresh_push name said m)
  where
    by : (t : Bool) → cond t (Some x.1) (lookup name said) ≡ None → (lookup name said ≡ None → bytes_eq m.0 name ≡ false → lookup name (said ++ m ∷ []) ≡ None) → cond t (Some x.1) (lookup name (said ++ m ∷ [])) ≡ None
    by true f rest = let no' : ⊥ = cc in absurd no'
    by false f rest = rest f other

regroup : {A : Type 0} (xs ys zs : List A) → (xs ++ ys) ++ zs ≡ xs ++ (ys ++ zs)
regroup [] ys zs = refl
regroup (x ∷ xs) ys zs = ap (λ z. x ∷ z) (regroup xs ys zs)

abbrev AreFresh : Grammar → List Item → List Pair → Type 0
AreFresh g items said = (item : Item) → Contains items item → lookup (said_by g item).0 said ≡ None

pub items_lead : (s : Shape) (g : Grammar) (items : List Item) (h : Held) (p : ℕ) (said : List Pair) → Knows s g → TakesAll g items → At s g h p said → AreFresh g items said
    → Leads s g h p (all_words items) (said ++ all_said g items)
items_lead s g [] h p said knows takes at fresh = record {
  held = h;
  position = p;
  walks = λ rest. refl;
  faults = λ rest. refl;
  at = subst (λ (m : List Pair). At s g h p m) (sym (nothing said)) at;
}
  where
    nothing : (m : List Pair) → m ++ [] ≡ m
    nothing [] = refl
    nothing (x ∷ m) = ap (λ (z : List Pair). x ∷ z) (nothing m)
items_lead s g (item ∷ items) h p said knows takes at fresh =
    let one = item_leads s g item h p said knows takes.0 at (fresh item (first_in item items)) in
    let apart : (other : Item) → Contains items other → bytes_eq (said_by g item).0 (said_by g other).0 ≡ false
    = λ other there. false_from_ne_true _ (λ e.
    takes.1 (subst (λ (n : List ℕ). Contains (map (λ m. m.0) (all_said g items)) n) (sym ((bytes_eq-Decides (said_by g item).0 (said_by g other).0).0 e))
    (in_map (λ (m : Pair). m.0) (said_by g other) (all_said g items) (in_map (said_by g) other items there)))) in
    let more = items_lead s g items one.held one.position (said ++ said_by g item ∷ []) knows takes.2 one.at
    (λ other there. fresh_push (said_by g other).0 said (said_by g item) (fresh other (later_in item other items there)) (apart other there)) in
    record {
      held = more.held;
      position = more.position;
      walks = λ rest. ap (λ (words : List (List ℕ)). fold (walked s.rules []) (walk_at h p) words) (regroup (words_of item) (all_words items) rest) ∙ (one.walks (all_words items ++ rest) ∙ more.walks rest);
      faults = λ rest. ap (λ (words : List (List ℕ)). walk_fault s [] (walk_at h p) words) (regroup (words_of item) (all_words items) rest) ∙ (one.faults (all_words items ++ rest) ∙ more.faults rest);
      at = subst (λ (m : List Pair). At s g more.held more.position m) (regroup said (said_by g item ∷ []) (all_said g items)) more.at;
    }
