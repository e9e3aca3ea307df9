-- The two writes that add a record, and the write that closes a gate.
use Rattle.std.proofs.Common.{◌≡◌, ◌≢◌, ◌⊎◌, inl, inr, ℕ, ◌+◌, ◌<◌, List, [], ◌∷◌, ◌++◌, length, get_or, take, drop, sym, ◌∙◌, ap, subst, arith, append_assoc, length-append, length-drop, take-append-drop}
use Rattle.std.proofs.lemmas.Bool.{cases_eq}
use Rattle.std.proofs.lemmas.List.{append-nil, take_at, drop_at, length-take-le, get_or_at}
use Rattle.record_store.specs.Model.{overlaid}
use Rattle.record_store.specs.Held.{held, records_of, Torn, IsRecordPrefix, IsClosedAt, IsStaged}
use Rattle.record_store.proofs.Prefixes.{short_end, prefix_lines, prefix_closed, split_at}

-- the first write, done
pub staged : (file new : List ℕ) (lines : List (List ℕ)) (end : ℕ) (line : List ℕ) (others : List (List ℕ)) (body : List ℕ) → 1 ∷ body ≡ records_of (line ∷ others) ++ 0 ∷ []
    → IsClosedAt file lines end → IsClosedAt new lines end → new ≡ overlaid file (end + 1) body → IsStaged new lines end line others
staged file new lines end line others body body_is was is new_is =
    let tail = drop (end + 1 + length body) file in
    let long : length (take (end + 1) file) ≡ end + 1 = length-take-le (end + 1) file (let a = was.inside in omega arith) in
    record {
      closed = is;
      tail = tail;
      behind = ap (λ (l : List ℕ). 1 ∷ drop (end + 1) l) (new_is ∙ append_assoc (take (end + 1) file) body tail)
          ∙ ap (λ (l : List ℕ). 1 ∷ l) (drop_at (take (end + 1) file) (body ++ tail) (end + 1) long)
          ∙ ap (λ (l : List ℕ). l ++ tail) body_is
          ∙ append_assoc (records_of (line ∷ others)) (0 ∷ []) tail;
    }

-- a write of one byte leaves any byte there
pub torn_one : (file : List ℕ) (at : ℕ) (c : List ℕ) → at < length file → Torn at 1 file c → c ≡ take at file ++ get_or c at 0 ∷ drop (at + 1) file
torn_one file at c inside torn =
    split_at c at (let a = torn.no_shorter in omega arith)
    ∙ ap (λ (l : List ℕ). l ++ get_or c at 0 ∷ drop (at + 1) c) torn.before
    ∙ ap (λ (l : List ℕ). take at file ++ get_or c at 0 ∷ l) torn.after

-- the second write, torn
pub gate_torn : (file : List ℕ) (lines : List (List ℕ)) (end : ℕ) (line : List ℕ) (others : List (List ℕ)) (c : List ℕ) → IsStaged file lines end line others → Torn end 1 file c
    → (held c ≡ lines) ⊎ (held c ≡ lines ++ line ∷ others)
gate_torn file lines end line others c is torn =
    let gate = get_or c end 0 in
    let parts : c ≡ take end file ++ gate ∷ drop (end + 1) file = torn_one file end c is.closed.inside torn in
    elim (cases_eq gate 1) [
      | inl opened ↦ inr (ap held (parts ∙ ap (λ (g : ℕ). take end file ++ g ∷ drop (end + 1) file) opened) ∙ with_lines)
      | inr shut ↦ inl (ap held parts ∙ prefix_closed (take end file) lines gate (drop (end + 1) file) is.closed.prefix shut)
    ]
  where
    with_lines : held (take end file ++ 1 ∷ drop (end + 1) file) ≡ lines ++ line ∷ others
    with_lines =
        ap (λ (l : List ℕ). held (take end file ++ l)) is.behind
        ∙ ap held (sym (append_assoc (take end file) (records_of (line ∷ others)) (0 ∷ is.tail)))
        ∙ prefix_closed (take end file ++ records_of (line ∷ others)) (lines ++ line ∷ others) 0 is.tail (prefix_lines (take end file) lines (line ∷ others) is.closed.prefix) (omega arith)

-- the second write, done
pub gate_done : (file new : List ℕ) (lines : List (List ℕ)) (end : ℕ) (line : List ℕ) (others : List (List ℕ)) → IsStaged file lines end line others → new ≡ overlaid file end (1 ∷ [])
    → IsClosedAt new (lines ++ line ∷ others) (end + length (records_of (line ∷ others)))
gate_done file new lines end line others is new_is =
    let more = records_of (line ∷ others) in
    let prefix = take end file ++ more in
    let short : length (take end file) ≡ end = length-take-le end file (let a = is.closed.inside in omega arith) in
    let long : length prefix ≡ end + length more = length-append (take end file) more ∙ ap (λ (n : ℕ). n + length more) short in
    let whole : new ≡ prefix ++ 0 ∷ is.tail =
    new_is ∙ append_assoc (take end file) (1 ∷ []) (drop (end + 1) file) ∙ ap (λ (l : List ℕ). take end file ++ l) is.behind
    ∙ sym (append_assoc (take end file) more (0 ∷ is.tail)) in
    subst (λ (f : List ℕ). IsClosedAt f (lines ++ line ∷ others) (end + length more)) (sym whole)
    (record {
      prefix = subst (λ (f : List ℕ). IsRecordPrefix f (lines ++ line ∷ others)) (sym (take_at prefix (0 ∷ is.tail) (end + length more) long)) (prefix_lines (take end file) lines (line ∷ others) is.closed.prefix);
      inside = omega (arith, long, length-append prefix (0 ∷ is.tail));
      gate = subst (λ (g : ℕ). g ≢ 1) (sym (get_or_at prefix 0 is.tail 0 (end + length more) long)) (omega arith);
    })

-- Closing a gate whose record is cut off

pub prefix_held : (file : List ℕ) (lines : List (List ℕ)) (at : ℕ) → IsRecordPrefix (take at file) lines → at < length file → held (drop at file) ≡ [] → held file ≡ lines
prefix_held file lines at prefix inside none =
    ap held (sym (take-append-drop at file)) ∙ prefix.reads (drop at file) (omega (arith, length-drop at file)) ∙ ap (λ (l : List (List ℕ)). lines ++ l) none ∙ append-nil lines

pub close_torn : (file : List ℕ) (lines : List (List ℕ)) (at : ℕ) (c : List ℕ) → IsRecordPrefix (take at file) lines → at < length file → held (drop at file) ≡ [] → get_or file at 0 ≡ 1 → Torn at 1 file c → held c ≡ lines
close_torn file lines at c prefix inside none opened torn =
    let gate = get_or c at 0 in
    let parts : c ≡ take at file ++ gate ∷ drop (at + 1) file = torn_one file at c inside torn in
    elim (cases_eq gate 1) [
      | inl same ↦
          let is : c ≡ file = parts ∙ ap (λ (g : ℕ). take at file ++ g ∷ drop (at + 1) file) (same ∙ sym opened) ∙ sym (split_at file at inside) in
          ap held is ∙ prefix_held file lines at prefix inside none
      | inr shut ↦ ap held parts ∙ prefix_closed (take at file) lines gate (drop (at + 1) file) prefix shut
    ]

pub close_done : (file new : List ℕ) (lines : List (List ℕ)) (at : ℕ) → IsRecordPrefix (take at file) lines → at < length file → new ≡ overlaid file at (0 ∷ []) → IsClosedAt new lines at
close_done file new lines at prefix inside new_is =
    let long : length (take at file) ≡ at = length-take-le at file (omega arith) in
    let whole : new ≡ take at file ++ 0 ∷ drop (at + 1) file = new_is ∙ append_assoc (take at file) (0 ∷ []) (drop (at + 1) file) in
    subst (λ (f : List ℕ). IsClosedAt f lines at) (sym whole)
    (record {
      prefix = subst (λ (f : List ℕ). IsRecordPrefix f lines) (sym (take_at (take at file) (0 ∷ drop (at + 1) file) at long)) prefix;
      inside = omega (arith, length-append (take at file) (0 ∷ drop (at + 1) file));
      gate = subst (λ (g : ℕ). g ≢ 1) (sym (get_or_at (take at file) 0 (drop (at + 1) file) 0 at long)) (omega arith);
    })

-- an empty file
pub empty_torn : (c : List ℕ) → Torn 0 1 [] c → held c ≡ []
empty_torn c torn = short_end c (let a = torn.no_longer in omega arith)
