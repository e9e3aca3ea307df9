-- A session that keeps its events, one step on.
use Rattle.std.proofs.Common.{ℕ, ◌≡◌, List, [], ◌∷◌, ◌++◌, ◌⊎◌, inl, inr, Option, None, Some, refl, sym, ap, ◌∙◌, append_assoc, append-nil, take, drop, subst}
use Rattle.std.specs.Io.KnownBytes.{Appends, Consumes}
use Rattle.std.proofs.KnownBytes.{Appends-trans}
use Rattle.farm_io.specs.declared.block.Stop.TheVariants as stop
use Rattle.farm_io.specs.declared.streams.PutEnd.TheVariants as put
use Rattle.farm_io.specs.Lines.{Cut, lines_of}
use Rattle.farm_io.specs.ReaderValue.{ReaderValue}
use Rattle.farm_kinds.specs.declared.events.Event.{Event}
use Rattle.farm_model.specs.State.{State}
use Rattle.farm_model.specs.Script.{output_from, after_line, events_of_line}
use Rattle.farm_laws.specs.Output.{events_in}
use Rattle.farm_laws.proofs.Outputs.{events_in-append}
use Rattle.script_session.specs.declared.end.StoredEnd.{StoredEnd}
use Rattle.script_session.specs.declared.end.StoredEnd.TheVariants as end
use Rattle.script_session.specs.Session.{SessionState, Standing, IsUnderWay, PutsPending}
use Rattle.script_session.specs.Keeping.{IsKeeping, WroteOf, KeptPrefix, EndsKeeping, StoredEndsAs, Turned, SettlesAs, FinishesAs}
use Rattle.script_session.proofs.Sessions.{none_put, parted, took_more, cut_line, with_put, under_way_start, put_goes_on, line_goes_on, TookLine, put_failed, memory_wanted}

-- What was written, and what is known of the events

-- the events of the lines and of those behind them are those of the bytes
all_events : (bytes : List ℕ) (lines rest : List Cut) → lines_of bytes ≡ lines ++ rest → events_in (lines_of bytes) ≡ events_in lines ++ events_in rest
all_events bytes lines rest cut = ap (λ (l : List Cut). events_in l) cut ∙ events_in-append lines rest

-- the settled lines and all others
all_parted : (bytes : List ℕ) (lines rest settled behind : List Cut) → lines_of bytes ≡ lines ++ rest → lines ≡ settled ++ behind → lines_of bytes ≡ settled ++ (behind ++ rest)
all_parted bytes lines rest settled behind cut apart = cut ∙ ap (λ (l : List Cut). l ++ rest) apart ∙ append_assoc settled behind rest

pub wrote_of : (P : List Event → List Event → Type 0) (b n : SessionState) (bytes : List ℕ) (lines rest settled behind : List Cut) (text after : List ℕ)
    → Consumes b.left n.left bytes → lines_of bytes ≡ lines ++ rest → lines ≡ settled ++ behind → Appends b.held n.held text → text ++ after ≡ output_from b.farm settled
    → P (events_in settled) (events_in lines ++ events_in rest) → WroteOf P b n
wrote_of P b n bytes lines rest settled behind text after took cut apart wrote prefix holds = record {
  bytes = bytes;
  took = took;
  lines = settled;
  others = behind ++ rest;
  cut = all_parted bytes lines rest settled behind cut apart;
  text = text;
  wrote = wrote;
  after = after;
  prefix = prefix;
  holds = subst (λ (all : List Event). P (events_in settled) all) (sym (all_events bytes lines rest cut)) holds;
}

pub wrote_more : (P Q : List Event → List Event → Type 0) (b n : SessionState) → ((least all : List Event) → P least all → Q least all) → WroteOf P b n → WroteOf Q b n
wrote_more P Q b n more w = record {
  bytes = w.bytes;
  took = w.took;
  lines = w.lines;
  others = w.others;
  cut = w.cut;
  text = w.text;
  wrote = w.wrote;
  after = w.after;
  prefix = w.prefix;
  holds = more (events_in w.lines) (events_in (lines_of w.bytes)) w.holds;
}

kept_prefix : (Kept : List Event → List Event → Type 0) (least es others : List Event) → Kept least es → KeptPrefix Kept least (es ++ others)
kept_prefix Kept least es others kept = record { es = es; others = others; run = refl; kept = kept }

-- Before the first line

pub keeping_first : (Kept : List Event → List Event → Type 0) (b : SessionState) (reader : ReaderValue) (pending : List ℕ) → reader ≡ record { ahead = []; taken = 0; stop = None; text = [] } → pending ≡ []
    → Kept [] [] → IsKeeping Kept b (record { farm = b.farm; left = b.left; held = b.held; reader = reader; pending = pending })
unfolding under_way_start
keeping_first Kept b reader pending fresh none kept =
    let first : ReaderValue = record { ahead = []; taken = 0; stop = None; text = [] } in
    let at : IsKeeping Kept b (record { farm = b.farm; left = b.left; held = b.held; reader = first; pending = [] }) = record {
      under_way = under_way_start b;
      settled = [];
      behind = [];
      parted = refl;
      after = [];
      prefix = refl;
      kept = kept;
    } in
    subst (λ (r : ReaderValue). IsKeeping Kept b (record { farm = b.farm; left = b.left; held = b.held; reader = r; pending = pending })) (sym fresh)
    (subst (λ (w : List ℕ). IsKeeping Kept b (record { farm = b.farm; left = b.left; held = b.held; reader = first; pending = w })) (sym none) at)

-- What is pending is settled and put

-- nothing was put
pub nothing_put : (held held' : Option (List ℕ)) (pending : List ℕ) → held' ≡ held → Appends held held' (take 0 pending)
nothing_put held held' [] same = subst (λ (h : Option (List ℕ)). Appends held h []) (sym same) (none_put held)
nothing_put held held' (x ∷ xs) same = subst (λ (h : Option (List ℕ)). Appends held h []) (sym same) (none_put held)

module _ (b : SessionState) (p : Standing) where
  pub settled_and_put : (Kept Kept' : List Event → List Event → Type 0) (held : Option (List ℕ)) (pending : List ℕ) → (k : IsKeeping Kept b p)
      → Kept' (events_in k.under_way.lines) (events_in k.under_way.lines) → Appends p.held held p.pending → pending ≡ [] → IsKeeping Kept' b (with_put p held pending)
  unfolding put_goes_on
  settled_and_put Kept Kept' held pending k kept whole none =
      let u = k.under_way in
      let puts : PutsPending p.held held p.pending pending put.Done = (p.pending, whole, sym (append-nil p.pending) ∙ ap (λ (l : List ℕ). p.pending ++ l) (sym none)) in
      record {
        under_way = put_goes_on b p held pending puts u;
        settled = u.lines;
        behind = [];
        parted = sym (append-nil u.lines);
        after = [];
        prefix = append-nil (u.text ++ p.pending) ∙ u.replies;
        kept = kept;
      }

  -- what is left where the output failed behind it
  pub settled_not_put : (Kept Kept' : List Event → List Event → Type 0) (held : Option (List ℕ)) (n : ℕ) → (k : IsKeeping Kept b p)
      → Kept' (events_in k.under_way.lines) (events_in k.under_way.lines) → Appends p.held held (take n p.pending)
      → WroteOf (KeptPrefix Kept') b (record { farm = p.farm; left = p.left; held = held })
  settled_not_put Kept Kept' held n k kept put =
      let u = k.under_way in
      wrote_of (KeptPrefix Kept') b (record { farm = p.farm; left = p.left; held = held }) (u.piece ++ p.reader.ahead) u.lines (lines_of p.reader.ahead) u.lines [] (u.text ++ take n p.pending) (drop n p.pending)
      u.took (u.cut p.reader.ahead u.readable.end) (sym (append-nil u.lines)) (Appends-trans b.held p.held held u.text (take n p.pending) u.wrote put) (parted u.text p.pending n ∙ u.replies)
      (kept_prefix Kept' (events_in u.lines) (events_in u.lines) (events_in (lines_of p.reader.ahead)) kept)

  -- and where it was not settled
  pub not_settled : (Kept Lost : List Event → List Event → Type 0) (held : Option (List ℕ)) → (k : IsKeeping Kept b p)
      → ((others : List Event) → Lost (events_in k.settled) (events_in k.under_way.lines ++ others)) → held ≡ p.held
      → WroteOf Lost b (record { farm = p.farm; left = p.left; held = held })
  not_settled Kept Lost held k lost same =
      let u = k.under_way in
      wrote_of Lost b (record { farm = p.farm; left = p.left; held = held }) (u.piece ++ p.reader.ahead) u.lines (lines_of p.reader.ahead) k.settled k.behind u.text k.after
      u.took (u.cut p.reader.ahead u.readable.end) k.parted (subst (λ (h : Option (List ℕ)). Appends b.held h u.text) (sym same) u.wrote) k.prefix
      (lost (events_in (lines_of p.reader.ahead)))

module _ (Kept Kept' Lost : State → List Event → List Event → Type 0) (Full : State → List Event → ℕ → Type 0) (p : Standing) (held : Option (List ℕ)) (pending : List ℕ) where
  pub turned_settled : (r : Option StoredEnd) → ((s : State) (least es : List Event) → Kept s least es → SettlesAs (Kept' s) (Lost s) least es p.held held p.pending pending r)
      → Turned Kept Kept' Lost Full p (with_put p held pending) r
  turned_settled None f = λ b k.
      let h = f b.farm (events_in k.settled) (events_in k.under_way.lines) k.kept in
      settled_and_put b p (Kept b.farm) (Kept' b.farm) held pending k h.0 h.1 h.2
  turned_settled (Some end.WriteFault) f = λ b k.
      let h = f b.farm (events_in k.settled) (events_in k.under_way.lines) k.kept in
      (put_failed b p held h.1.0 h.1.1 k.under_way, settled_not_put b p (Kept b.farm) (Kept' b.farm) held h.1.0 k h.0 h.1.1)
  turned_settled (Some end.StoreFault) f = λ b k.
      let h = f b.farm (events_in k.settled) (events_in k.under_way.lines) k.kept in
      (put_failed b p held 0 (nothing_put p.held held p.pending h.0) k.under_way, not_settled b p (Kept b.farm) (Lost b.farm) held k h.1 h.0)
  turned_settled (Some end.Done) f = λ b k. absurd (f b.farm (events_in k.settled) (events_in k.under_way.lines) k.kept)
  turned_settled (Some end.ReadFault) f = λ b k. absurd (f b.farm (events_in k.settled) (events_in k.under_way.lines) k.kept)
  turned_settled (Some end.InputLimit) f = λ b k. absurd (f b.farm (events_in k.settled) (events_in k.under_way.lines) k.kept)
  turned_settled (Some (end.StoreFull at)) f = λ b k. absurd (f b.farm (events_in k.settled) (events_in k.under_way.lines) k.kept)
  turned_settled (Some end.NoMemory) f = λ b k. absurd (f b.farm (events_in k.settled) (events_in k.under_way.lines) k.kept)

-- what is done behind it
pub turned_after : (K0 K1 K2 L1 L2 : State → List Event → List Event → Type 0) (F : State → List Event → ℕ → Type 0) (p mid new : Standing) (r : Option StoredEnd)
    → Turned K0 K1 L1 F p mid None → Turned K1 K2 L2 F mid new r → Turned K0 K2 L2 F p new r
turned_after K0 K1 K2 L1 L2 F p mid new None first then_ = λ b k. then_ b (first b k)
turned_after K0 K1 K2 L1 L2 F p mid new (Some e) first then_ = λ b k. then_ b (first b k)

-- A line was read

module _ (b : SessionState) (p : Standing) (left : Option (List ℕ)) (reader : ReaderValue) (first : Cut) (farm : State) (t : TookLine p left reader first) where
  pub keeping_line : (Kept Kept' : List Event → List Event → Type 0) (pending : List ℕ) → farm ≡ (after_line p.farm first).0 → pending ≡ p.pending ++ (after_line p.farm first).1
      → (k : IsKeeping Kept b p) → Kept' (events_in k.settled) (events_in k.under_way.lines ++ events_of_line first)
      → IsKeeping Kept' b (record p { farm = farm; left = left; reader = reader; pending = pending })
  unfolding line_goes_on
  keeping_line Kept Kept' pending f e k kept =
      let u = k.under_way in
      let more : events_in (u.lines ++ first ∷ []) ≡ events_in u.lines ++ events_of_line first =
      events_in-append u.lines (first ∷ []) ∙ ap (λ (l : List Event). events_in u.lines ++ l) (append-nil (events_of_line first)) in
      record {
        under_way = line_goes_on b p left reader first farm pending t f e u;
        settled = k.settled;
        behind = k.behind ++ first ∷ [];
        parted = ap (λ (l : List Cut). l ++ first ∷ []) k.parted ∙ append_assoc k.settled k.behind (first ∷ []);
        after = k.after;
        prefix = k.prefix;
        kept = subst (λ (l : List Event). Kept' (events_in k.settled) l) (sym more) kept;
      }

  line_cut : (u : IsUnderWay b p) → lines_of (u.piece ++ (p.reader.ahead ++ t.prefix)) ≡ u.lines ++ (first ∷ lines_of reader.ahead)
  line_cut u =
      let whole : u.piece ++ (p.reader.ahead ++ t.prefix) ≡ (u.piece ++ t.piece) ++ reader.ahead = ap (λ (w : List ℕ). u.piece ++ w) t.first.whole ∙ sym (append_assoc u.piece t.piece reader.ahead) in
      ap lines_of whole ∙ cut_line b p left reader first u t reader.ahead t.readable.end ∙ append_assoc u.lines (first ∷ []) (lines_of reader.ahead)

  -- its events were lost
  pub line_lost : (Kept Lost : List Event → List Event → Type 0) → (farm ≡ p.farm) ⊎ (farm ≡ (after_line p.farm first).0) → (k : IsKeeping Kept b p)
      → ((others : List Event) → Lost (events_in k.settled) (events_in k.under_way.lines ++ (events_of_line first ++ others)))
      → StoredEndsAs end.StoreFault b (record { farm = farm; left = left; held = p.held }) × WroteOf Lost b (record { farm = farm; left = left; held = p.held })
  line_lost Kept Lost either k lost =
      let u = k.under_way in (
        memory_wanted b p left p.held reader first farm 0 t either (nothing_put p.held p.held p.pending refl) u,
        wrote_of Lost b (record { farm = farm; left = left; held = p.held }) (u.piece ++ (p.reader.ahead ++ t.prefix)) u.lines (first ∷ lines_of reader.ahead) k.settled k.behind u.text k.after
            (took_more b p left u.piece t.prefix u.took t.took) (line_cut u) k.parted u.wrote k.prefix (lost (events_in (lines_of reader.ahead))),
      )

  module _ (Kept Kept' Lost : List Event → List Event → Type 0) (Full : List Event → ℕ → Type 0) (held : Option (List ℕ)) (either : (farm ≡ p.farm) ⊎ (farm ≡ (after_line p.farm first).0)) (k : IsKeeping Kept b p) where
    -- the session ended there, once what was pending was settled and perhaps put
    put_some : (P : List Event → List Event → Type 0) (n : ℕ) → Appends p.held held (take n p.pending) → P (events_in k.under_way.lines) (events_in k.under_way.lines ++ (events_of_line first ++ events_in (lines_of reader.ahead)))
        → WroteOf P b (record { farm = farm; left = left; held = held })
    put_some P n put holds =
        let u = k.under_way in
        wrote_of P b (record { farm = farm; left = left; held = held }) (u.piece ++ (p.reader.ahead ++ t.prefix)) u.lines (first ∷ lines_of reader.ahead) u.lines [] (u.text ++ take n p.pending) (drop n p.pending)
        (took_more b p left u.piece t.prefix u.took t.took) (line_cut u) (sym (append-nil u.lines)) (Appends-trans b.held p.held held u.text (take n p.pending) u.wrote put) (parted u.text p.pending n ∙ u.replies)
        holds

    not_put : held ≡ p.held → ((others : List Event) → Lost (events_in k.settled) (events_in k.under_way.lines ++ others)) → WroteOf Lost b (record { farm = farm; left = left; held = held })
    not_put same lost =
        let u = k.under_way in
        wrote_of Lost b (record { farm = farm; left = left; held = held }) (u.piece ++ (p.reader.ahead ++ t.prefix)) u.lines (first ∷ lines_of reader.ahead) k.settled k.behind u.text k.after
        (took_more b p left u.piece t.prefix u.took t.took) (line_cut u) k.parted (subst (λ (h : Option (List ℕ)). Appends b.held h u.text) (sym same) u.wrote) k.prefix
        (lost (events_of_line first ++ events_in (lines_of reader.ahead)))

    Ends : StoredEnd → Type 0
    Ends e = StoredEndsAs e b (record { farm = farm; left = left; held = held }) × WroteOf (EndsKeeping Kept' Lost Full e) b (record { farm = farm; left = left; held = held })

    at_store_fault : held ≡ p.held → ((others : List Event) → Lost (events_in k.settled) (events_in k.under_way.lines ++ others)) → Ends end.StoreFault
    unfolding Ends
    at_store_fault same lost = (memory_wanted b p left held reader first farm 0 t either (nothing_put p.held held p.pending same) k.under_way, not_put same lost)

    kept_all : Kept' (events_in k.under_way.lines) (events_in k.under_way.lines) → KeptPrefix Kept' (events_in k.under_way.lines) (events_in k.under_way.lines ++ (events_of_line first ++ events_in (lines_of reader.ahead)))
    kept_all kept = kept_prefix Kept' (events_in k.under_way.lines) (events_in k.under_way.lines) (events_of_line first ++ events_in (lines_of reader.ahead)) kept

    at_no_memory : (n : ℕ) → Appends p.held held (take n p.pending) → Kept' (events_in k.under_way.lines) (events_in k.under_way.lines) → Ends end.NoMemory
    unfolding Ends
    at_no_memory n put kept = (memory_wanted b p left held reader first farm n t either put k.under_way, put_some (KeptPrefix Kept') n put (kept_all kept))

    at_full : (at n : ℕ) → Appends p.held held (take n p.pending) → Kept' (events_in k.under_way.lines) (events_in k.under_way.lines)
        → ((others : List Event) → Full (events_in k.under_way.lines ++ (events_of_line first ++ others)) at) → Ends (end.StoreFull at)
    unfolding Ends
    at_full at n put kept full = (
      memory_wanted b p left held reader first farm n t either put k.under_way,
      put_some (EndsKeeping Kept' Lost Full (end.StoreFull at)) n put (kept_all kept, full (events_in (lines_of reader.ahead))),
    )

    ends_as : (e r : StoredEnd) → FinishesAs Kept' Lost (events_in k.settled) (events_in k.under_way.lines) p.held held p.pending e r
        → ((n : ℕ) → Appends p.held held (take n p.pending) → Kept' (events_in k.under_way.lines) (events_in k.under_way.lines) → Ends e) → Ends r
    ends_as e r (inl f) at_e = subst Ends (sym f.0) (at_store_fault f.1 f.2)
    ends_as e r (inr (is, prefix, kept)) at_e = subst Ends (sym is) (at_e prefix.0 prefix.1 kept)

    pub finished_memory : (r : StoredEnd) → FinishesAs Kept' Lost (events_in k.settled) (events_in k.under_way.lines) p.held held p.pending end.NoMemory r
        → StoredEndsAs r b (record { farm = farm; left = left; held = held }) × WroteOf (EndsKeeping Kept' Lost Full r) b (record { farm = farm; left = left; held = held })
    unfolding Ends
    finished_memory r f = ends_as end.NoMemory r f at_no_memory

    pub finished_full : (at : ℕ) (r : StoredEnd) → FinishesAs Kept' Lost (events_in k.settled) (events_in k.under_way.lines) p.held held p.pending (end.StoreFull at) r
        → ((others : List Event) → Full (events_in k.under_way.lines ++ (events_of_line first ++ others)) at)
        → StoredEndsAs r b (record { farm = farm; left = left; held = held }) × WroteOf (EndsKeeping Kept' Lost Full r) b (record { farm = farm; left = left; held = held })
    unfolding Ends
    finished_full at r f full = ends_as (end.StoreFull at) r f (λ n put kept. at_full at n put kept full)

-- The input gave no line

pub stopped : (Kept : List Event → List Event → Type 0) (b : SessionState) (p : Standing) (left : Option (List ℕ)) (prefix : List ℕ) → Consumes p.left left prefix
    → (p.reader.stop ≡ Some stop.End → p.reader.ahead ++ prefix ≡ []) → (k : IsKeeping Kept b p) → WroteOf (KeptPrefix Kept) b (record { farm = p.farm; left = left; held = p.held })
stopped Kept b p left prefix took last k =
    let u = k.under_way in
    wrote_of (KeptPrefix Kept) b (record { farm = p.farm; left = left; held = p.held }) (u.piece ++ (p.reader.ahead ++ prefix)) u.lines (lines_of (p.reader.ahead ++ prefix)) k.settled k.behind u.text k.after
    (took_more b p left u.piece prefix u.took took) (u.cut (p.reader.ahead ++ prefix) last) k.parted u.wrote k.prefix
    (kept_prefix Kept (events_in k.settled) (events_in u.lines) (events_in (lines_of (p.reader.ahead ++ prefix))) k.kept)
