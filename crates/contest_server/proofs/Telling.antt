-- Lines that are written behind others, and faults that have risen.
use Rattle.std.proofs.Common.{◌≡◌, ℕ, ◌+◌, ◌≤◌, List, [], ◌∷◌, ◌++◌, Option, Result, Ok, Err, length, refl, sym, ap, ◌∙◌, subst, arith, append_assoc, append-nil}
use Rattle.std.proofs.lemmas.List.{length-append}
use Rattle.std.specs.Io.KnownBytes.{Appends}
use Rattle.std.proofs.KnownBytes.{Appends-nil, Appends-trans}
use Rattle.farm_io.specs.Streams.{Rose}
use Rattle.farm_board.specs.Passes.{BoardId}
use Rattle.farm_board.proofs.Prefixes.{prefix_self, prefix_trans}
use Rattle.farm_api.specs.declared.ends.ConnEnd.{ConnEnd}
use Rattle.farm_api.specs.declared.ends.ConnHow.{ConnHow}
use Rattle.contest_server.specs.declared.lines.TextFault.{TextFault}
use Rattle.contest_server.specs.declared.lines.TextFault.TheVariants as fault
use Rattle.contest_server.specs.Visits.{Watch, Visit, conn_line, conn_lines}
use Rattle.contest_server.specs.Texts.{WritesPrefix, PutsText}
use Rattle.contest_server.specs.Serving.{DeskValue, Opening, Tells, Told, TakesFirst, TellsFirst}

-- Faults

pub rose_since : (first before now : ℕ) → first ≤ before → Rose before now → Rose first now
rose_since first before now later rose = omega (arith, later, rose)

pub rose_until : (first before now : ℕ) → Rose first before → before ≤ now → Rose first now
rose_until first before now rose later = omega (arith, later, rose)

-- Texts

pub nothing_written : (held : Option (List ℕ)) (text : List ℕ) → WritesPrefix held held text
nothing_written held text = record { bytes = []; prefix = (text, refl); wrote = Appends-nil held }

pub whole_prefix : (held held' : Option (List ℕ)) (text : List ℕ) → Appends held held' text → WritesPrefix held held' text
whole_prefix held held' text h = record { bytes = text; prefix = prefix_self text; wrote = h }

pub prefix_behind : (a b c : Option (List ℕ)) (text more : List ℕ) → Appends a b text → WritesPrefix b c more → WritesPrefix a c (text ++ more)
prefix_behind a b c text more h f = record {
  bytes = text ++ f.bytes;
  prefix = (f.prefix.0, append_assoc text f.bytes f.prefix.0 ∙ ap (λ (xs : List ℕ). text ++ xs) f.prefix.1);
  wrote = Appends-trans a b c text f.bytes h f.wrote;
}

pub prefix_of_more : (held held' : Option (List ℕ)) (text more : List ℕ) → WritesPrefix held held' text → WritesPrefix held held' (text ++ more)
prefix_of_more held held' text more f = record { bytes = f.bytes; prefix = prefix_trans f.bytes text (text ++ more) f.prefix (more, refl); wrote = f.wrote }

pub lines_both : {N : Type 0} (n : ℕ) (vs us : List (Visit N)) → conn_lines n (vs ++ us) ≡ conn_lines n vs ++ conn_lines (n + length vs) us
lines_both {N} n [] us = ap (λ (k : ℕ). conn_lines k us) (omega arith)
lines_both {N} n (v ∷ vs) us =
    ap (λ (xs : List ℕ). conn_line n v.requests v.how ++ xs) (lines_both (n + 1) vs us ∙ ap (λ (k : ℕ). conn_lines (n + 1) vs ++ conn_lines k us) (omega arith))
    ∙ sym (append_assoc (conn_line n v.requests v.how) (conn_lines (n + 1) vs) (conn_lines (n + length (v ∷ vs)) us))

pub lines_more : {N : Type 0} (vs : List (Visit N)) (v : Visit N) (k requests : ℕ) (how : ConnHow) → 1 + length vs ≡ k → v.requests ≡ requests → v.how ≡ how
    → conn_lines 1 (vs ++ v ∷ []) ≡ conn_lines 1 vs ++ conn_line k requests how
lines_more {N} vs v k requests how number same_requests same_how =
    lines_both 1 vs (v ∷ []) ∙ ap (λ (xs : List ℕ). conn_lines 1 vs ++ xs)
    (append-nil (conn_line (1 + length vs) v.requests v.how) ∙ ap (λ (z : ℕ × ℕ × ConnHow). conn_line z.0 z.1 z.2) (λ i. (number i, same_requests i, same_how i)))

-- one more line

one_more : {N : Type 0} (w : Watch N) (o : Opening N) (board : BoardId) (old new : DeskValue N) (held held' : Option (List ℕ)) (e : ConnEnd) (n k : ℕ) (result : Result (Unit {0}) TextFault)
    → TakesFirst w board old new e → k + length new.starts ≡ n → PutsText held held' (conn_line k e.requests e.how) result → Tells w o old held n → Told w o new held' n result
one_more {N} w o board old new held held' e n k (Ok u) t number puts h =
    let had = t.taken o h.visits h.stands in
    let len = length-append h.visits (had.last ∷ []) in
    let count = h.count in
    let fewer = t.fewer in
    let text = lines_more h.visits had.last k e.requests e.how (omega (arith, count, fewer, number)) had.requests had.how in
    record {
      visits = h.visits ++ had.last ∷ [];
      stands = had.stands;
      count = omega (arith, len, count, fewer);
      wrote = subst (λ (xs : List ℕ). Appends o.held held' xs) (sym text) (Appends-trans o.held held held' (conn_lines 1 h.visits) (conn_line k e.requests e.how) h.wrote puts);
    }
one_more {N} w o board old new held held' e n k (Err fault.WriteFault) t number puts h =
    let had = t.taken o h.visits h.stands in
    let len = length-append h.visits (had.last ∷ []) in
    let count = h.count in
    let fewer = t.fewer in
    let text = lines_more h.visits had.last k e.requests e.how (omega (arith, count, fewer, number)) had.requests had.how in
    record {
      visits = h.visits ++ had.last ∷ [];
      stands = had.stands;
      count = omega (arith, len, count, fewer);
      wrote = subst (λ (xs : List ℕ). WritesPrefix o.held held' xs) (sym text) (prefix_behind o.held held held' (conn_lines 1 h.visits) (conn_line k e.requests e.how) h.wrote puts);
    }
one_more {N} w o board old new held held' e n k (Err fault.NoMemory) t number puts h =
    let had = t.taken o h.visits h.stands in
    let len = length-append h.visits (had.last ∷ []) in
    let count = h.count in
    let fewer = t.fewer in
    record {
      visits = h.visits ++ had.last ∷ [];
      stands = had.stands;
      count = omega (arith, len, count, fewer);
      wrote = record {
        told = h.visits;
        first = (had.last ∷ [], refl);
        wrote = subst (λ (z : Option (List ℕ)). Appends o.held z (conn_lines 1 h.visits)) (sym puts) h.wrote;
      };
    }

pub tells_first : {N : Type 0} (w : Watch N) (board : BoardId) (old new : DeskValue N) (held held' : Option (List ℕ)) (e : ConnEnd) (n k : ℕ) (result : Result (Unit {0}) TextFault)
    → TakesFirst w board old new e → k + length new.starts ≡ n → PutsText held held' (conn_line k e.requests e.how) result → TellsFirst w board old new held held' n result
tells_first {N} w board old new held held' e n k result t number puts = record {
  stays = t.stays;
  fewer = t.fewer;
  coming = t.coming;
  told = λ o h. one_more w o board old new held held' e n k result t number puts h;
}
