-- A reader gives versions in order.
use Rattle.std.proofs.Common.{ℕ, ◌≡◌, ◌≢◌, ◌+◌, ◌≤◌, List, [], ◌∷◌, ◌++◌, Option, Some, None, length, refl, sym, ap, subst, arith, length-append}
use mathlib.Core.List.{IsPrefix}
use mathlib.Core.Logic.{inl, inr}
use Rattle.farm_kinds.specs.declared.outcomes.Answer.{Answer}
use Rattle.farm_board.specs.BoardState.{BoardState}
use Rattle.farm_board.proofs.Prefixes.{prefix_self, prefix_trans}
use Rattle.public_board.specs.Versions.{last_of}
use Rattle.public_board.specs.Values.{ReaderValue}
use Rattle.farm_api.specs.Entering.{Entered, AreEntered}
use Rattle.farm_api.specs.LaneCalls.{AccessValue, LaneSteps}
use Rattle.farm_api.specs.Reads.{rows_in, Reads, with_rows, rows_given, IsVersion, AreInOrder, GivesInOrder}

prefix_length : {A : Type 0} (xs ys : List A) → IsPrefix xs ys → length xs ≤ length ys
prefix_length xs ys h = let whole = ap length h.1 in omega (arith, whole, length-append xs h.0)

-- the last of some versions, by its number among these and later ones
last_version : (vs rest : List (List Answer)) → vs ≢ [] → IsVersion (vs ++ rest) (length vs) (last_of vs)
last_version [] rest some = absurd (some refl)
last_version (v ∷ []) rest some = ([], rest, refl, omega arith)
last_version (v ∷ w ∷ vs) rest some =
    let x = last_version (w ∷ vs) rest (λ is. cc is) in
    let number = x.3 in
    (v ∷ x.0, x.1, ap (λ (zs : List (List Answer)). v ∷ zs) x.2, omega (arith, number))

-- rows that are the last of a beginning of the versions
is_version : (vs versions : List (List Answer)) (rows : List Answer) → vs ≢ [] → IsPrefix vs versions → rows ≡ last_of vs → IsVersion versions (length vs) rows
is_version vs versions rows some prefix is =
    subst (λ (z : List Answer). IsVersion versions (length vs) z) (sym is)
    (subst (λ (zs : List (List Answer)). IsVersion zs (length vs) (last_of vs)) prefix.1 (last_version vs prefix.0 some))

in_order_from : (versions : List (List Answer)) (n m : ℕ) (given : List (List Answer)) → n ≤ m → AreInOrder versions m given → AreInOrder versions n given
in_order_from versions n m [] less h = tt
in_order_from versions n m (rows ∷ more) less h = let from = h.1 in (h.0, omega (arith, less, from), h.2, h.3)

gives_none : (start : BoardState) (old new : ReaderValue Answer) → new ≡ old → GivesInOrder start old [] new
gives_none start old new same = record {
  versions = old.seen;
  begins = prefix_self old.seen;
  seen = subst (λ (r : ReaderValue Answer). IsPrefix old.seen r.seen) (sym same) (prefix_self old.seen);
  told = let is = ap (λ (r : ReaderValue Answer). r.told) same in omega (arith, is);
  shown = λ some. absurd (some refl);
  in_order = tt;
  told_of = tt;
}

-- the reader gave nothing first
nothing_then : (start : BoardState) (old m new : ReaderValue Answer) (given : List (List Answer)) → IsPrefix old.seen m.seen → old.told ≤ m.told
    → GivesInOrder start m given new → GivesInOrder start old given new
nothing_then start old m new given seen told g = record {
  versions = g.versions;
  begins = prefix_trans old.seen m.seen g.versions seen g.begins;
  seen = g.seen;
  told = let more = g.told in omega (arith, told, more);
  shown = g.shown;
  in_order = in_order_from g.versions (length old.seen) (length m.seen) given (prefix_length old.seen m.seen seen) g.in_order;
  told_of = in_order_from g.versions old.told m.told given told g.told_of;
}

-- the reader gave rows first
rows_then : (start : BoardState) (old m new : ReaderValue Answer) (rows : List Answer) (given : List (List Answer)) → Reads start old (Some rows) m
    → GivesInOrder start m given new → GivesInOrder start old (rows ∷ given) new
rows_then start old m new rows [] x g = record {
  versions = m.seen;
  begins = x.looks.seen;
  seen = prefix_trans m.seen g.versions new.seen g.begins g.seen;
  told = let same = x.looks.told in let more = g.told in omega (arith, same, more);
  shown = λ _. x.allowed;
  in_order = (length m.seen, prefix_length old.seen m.seen x.looks.seen, is_version m.seen m.seen rows x.some (prefix_self m.seen) x.last, tt);
  told_of = (length m.seen, x.told, is_version m.seen m.seen rows x.some (prefix_self m.seen) x.last, tt);
}
rows_then start old m new rows (next ∷ more) x g = record {
  versions = g.versions;
  begins = prefix_trans old.seen m.seen g.versions x.looks.seen g.begins;
  seen = g.seen;
  told = let same = x.looks.told in let later = g.told in omega (arith, same, later);
  shown = λ _. g.shown (λ is. cc is);
  in_order = (length m.seen, prefix_length old.seen m.seen x.looks.seen, is_version m.seen g.versions rows x.some g.begins x.last, g.in_order);
  told_of = (length m.seen, x.told, is_version m.seen g.versions rows x.some g.begins x.last, g.in_order);
}

-- a look came first
look_then : (start : BoardState) (old m new : ReaderValue Answer) (rows : Option (List Answer)) (given : List (List Answer)) → Reads start old rows m
    → GivesInOrder start m given new → GivesInOrder start old (with_rows rows given) new
look_then start old m new None given x g =
    let same = x.told in nothing_then start old m new given x.seen (omega (arith, same)) g
look_then start old m new (Some rows) given x g = rows_then start old m new rows given x g

pub gives_in_order : (start : BoardState) (old : AccessValue) (made : List Entered) (new : AccessValue) → AreEntered (LaneSteps start) old made new
    → GivesInOrder start old.reader (rows_given made) new.reader
gives_in_order start old [] new h = gives_none start old.reader new.reader (ap (λ (a : AccessValue). a.reader) h)
gives_in_order start old (inl x ∷ xs) new h =
    let m = h.0 in
    let told = h.1.2 in
    nothing_then start old.reader m.reader new.reader (rows_given xs)
    (subst (λ (vs : List (List Answer)). IsPrefix old.reader.seen vs) (sym told.seen) (prefix_self old.reader.seen)) told.told
    (gives_in_order start m xs new h.2)
gives_in_order start old (inr r ∷ xs) new h =
    look_then start old.reader h.0.reader new.reader (rows_in r) (rows_given xs) h.1.1 (gives_in_order start h.0 xs new h.2)
