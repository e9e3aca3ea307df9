-- What ends a session is what happened first.
use Rattle.std.proofs.Common.{ℕ, ◌≡◌, List, [], ◌∷◌, ◌++◌, ◌⊎◌, inl, inr, Option, None, Some, refl, sym, ap, ◌∙◌, append_assoc, take, drop, length, subst}
use Rattle.std.specs.Prelude.{IfSome}
use Rattle.std.specs.Io.KnownBytes.{Appends}
use Rattle.std.proofs.KnownBytes.{Appends-trans}
use Rattle.std.proofs.Math.Seq.{take-append_seam}
use Rattle.farm_io.specs.declared.streams.PutEnd.{PutEnd}
use Rattle.farm_io.specs.declared.streams.PutEnd.TheVariants as put
use Rattle.farm_io.specs.Lines.{Cut, HasFeed, lines_of}
use Rattle.farm_io.specs.ReaderValue.{ReaderValue}
use Rattle.farm_model.specs.State.{State}
use Rattle.farm_model.specs.Replay.{state_after}
use Rattle.farm_model.specs.Script.{output_from, after_line}
use Rattle.farm_laws.specs.Output.{events_in}
use Rattle.script_session.specs.declared.end.StoredEnd.{StoredEnd}
use Rattle.script_session.specs.declared.end.StoredEnd.TheVariants as end
use Rattle.script_session.specs.Session.{SessionState, Standing, IsUnderWay, PutsPending}
use Rattle.script_session.specs.Firsts.{NoneUnanswered, OneUnanswered, CameFirst}
use Rattle.script_session.proofs.Sessions.{parted, took_more, cut_line, line_farm, piece_lines, TookLine}

-- The output failed in what is pending, before the source was asked.
none_unanswered : (b : SessionState) (p : Standing) (held : Option (List ℕ)) (n : ℕ) → ¬ HasFeed p.reader.ahead → Appends p.held held (take n p.pending) → IsUnderWay b p
    → NoneUnanswered b (record { farm = p.farm; left = p.left; held = held })
none_unanswered b p held n unfed put u =
    let same : lines_of u.piece ≡ u.lines = piece_lines b p u in
    record {
      bytes = u.piece;
      rest = p.reader.ahead;
      took = u.took;
      unfed = unfed;
      farm = u.farm ∙ ap (λ lines. state_after b.farm (events_in lines)) (sym same);
      text = u.text ++ take n p.pending;
      wrote = Appends-trans b.held p.held held u.text (take n p.pending) u.wrote put;
      after = drop n p.pending;
      prefix = parted u.text p.pending n ∙ u.replies ∙ ap (output_from b.farm) (sym same);
    }

pub put_first : (b : SessionState) (p : Standing) (held : Option (List ℕ)) (r : Option StoredEnd) → ¬ HasFeed p.reader.ahead
    → (r ≡ Some end.WriteFault → (n : ℕ) × Appends p.held held (take n p.pending)) → (r ≡ None) ⊎ ((r ≡ Some end.StoreFault) ⊎ (r ≡ Some end.WriteFault))
    → IsUnderWay b p → IfSome r (λ e. CameFirst e b (record { farm = p.farm; left = p.left; held = held }))
put_first b p held None unfed put only u = tt
put_first b p held (Some end.StoreFault) unfed put only u = tt
put_first b p held (Some end.WriteFault) unfed put only u = let h = put refl in none_unanswered b p held h.0 unfed h.1 u
put_first b p held (Some end.Done) unfed put only u = tt
put_first b p held (Some end.ReadFault) unfed put only u = tt
put_first b p held (Some end.InputLimit) unfed put only u = tt
put_first b p held (Some (end.StoreFull at)) unfed put (inl is) u = let none : Some (end.StoreFull at) ≡ None = is in cc
put_first b p held (Some (end.StoreFull at)) unfed put (inr (inl is)) u = let other : Some (end.StoreFull at) ≡ Some end.StoreFault = is in cc
put_first b p held (Some (end.StoreFull at)) unfed put (inr (inr is)) u = let other : Some (end.StoreFull at) ≡ Some end.WriteFault = is in cc
put_first b p held (Some end.NoMemory) unfed put (inl is) u = let none : Some end.NoMemory ≡ None = is in cc
put_first b p held (Some end.NoMemory) unfed put (inr (inl is)) u = let other : Some end.NoMemory ≡ Some end.StoreFault = is in cc
put_first b p held (Some end.NoMemory) unfed put (inr (inr is)) u = let other : Some end.NoMemory ≡ Some end.WriteFault = is in cc

-- what was put of what is pending is its prefix
pub put_prefix : (held held' : Option (List ℕ)) (old new : List ℕ) (e : PutEnd) → PutsPending held held' old new e → (n : ℕ) × Appends held held' (take n old)
put_prefix held held' old new put.Done h =
    (length h.0, subst (λ (w : List ℕ). Appends held held' w) (sym (ap (λ (w : List ℕ). take (length h.0) w) h.2 ∙ take-append_seam h.0 new)) h.1)
put_prefix held held' old new put.Failed h = h

-- A line was read, and memory or room was wanted for it.
module _ (b : SessionState) (p : Standing) (left held : Option (List ℕ)) (reader : ReaderValue) (first : Cut) (farm : State) (n : ℕ) (t : TookLine p left reader first) where
  -- how the farm stands then
  farm_there : (u : IsUnderWay b p) → (farm ≡ p.farm) ⊎ (farm ≡ (after_line p.farm first).0)
      → (farm ≡ state_after b.farm (events_in u.lines)) ⊎ (farm ≡ state_after b.farm (events_in (u.lines ++ first ∷ [])))
  farm_there u (inl f) = inl (f ∙ u.farm)
  farm_there u (inr f) = inr (line_farm b p first farm u f)

  pub one_unanswered : (farm ≡ p.farm) ⊎ (farm ≡ (after_line p.farm first).0) → Appends p.held held (take n p.pending) → IsUnderWay b p
      → OneUnanswered b (record { farm = farm; left = left; held = held })
  one_unanswered f put u =
      let whole : u.piece ++ (p.reader.ahead ++ t.prefix) ≡ (u.piece ++ t.piece) ++ reader.ahead = ap (λ w. u.piece ++ w) t.first.whole ∙ sym (append_assoc u.piece t.piece reader.ahead) in
      record {
        bytes = u.piece ++ (p.reader.ahead ++ t.prefix);
        took = took_more b p left u.piece t.prefix u.took t.took;
        lines = u.lines;
        next = first;
        others = lines_of reader.ahead;
        cut = ap lines_of whole ∙ cut_line b p left reader first u t reader.ahead t.readable.end ∙ append_assoc u.lines (first ∷ []) (lines_of reader.ahead);
        farm = farm_there u f;
        text = u.text ++ take n p.pending;
        wrote = Appends-trans b.held p.held held u.text (take n p.pending) u.wrote put;
        after = drop n p.pending;
        prefix = parted u.text p.pending n ∙ u.replies;
      }

  -- the session ends so, unless what keeps the events failed
  pub memory_first : (r : StoredEnd) → (r ≡ end.NoMemory) ⊎ (r ≡ end.StoreFault) → (farm ≡ p.farm) ⊎ (farm ≡ (after_line p.farm first).0) → Appends p.held held (take n p.pending) → IsUnderWay b p
      → CameFirst r b (record { farm = farm; left = left; held = held })
  memory_first r (inl is) f put u = subst (λ (e : StoredEnd). CameFirst e b (record { farm = farm; left = left; held = held })) (sym is) (one_unanswered f put u)
  memory_first r (inr is) f put u = subst (λ (e : StoredEnd). CameFirst e b (record { farm = farm; left = left; held = held })) (sym is) tt

  pub full_first : (at : ℕ) (r : StoredEnd) → (r ≡ end.StoreFull at) ⊎ (r ≡ end.StoreFault) → (farm ≡ p.farm) ⊎ (farm ≡ (after_line p.farm first).0) → Appends p.held held (take n p.pending) → IsUnderWay b p
      → CameFirst r b (record { farm = farm; left = left; held = held })
  full_first at r (inl is) f put u = subst (λ (e : StoredEnd). CameFirst e b (record { farm = farm; left = left; held = held })) (sym is) (one_unanswered f put u)
  full_first at r (inr is) f put u = subst (λ (e : StoredEnd). CameFirst e b (record { farm = farm; left = left; held = held })) (sym is) tt
