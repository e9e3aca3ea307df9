use Rattle.std.proofs.Common.{◌≡◌, ◌+◌, ◌*◌, ℕ, [], ◌∷◌, Bool, IsTrue, sym, subst, take, drop, arith}
use Rattle.record_store.specs.Model.{DiskTime}
use Rattle.record_store.proofs.Prefixes.{end_short, end_cut}
use Rattle.record_store.proofs.Opens.{next_line}
use Rattle.record_store.proofs.records.read_record.Goals as goal

pub returns-then-len-at-lt3-clause-next : goal.returns-then-len-at-lt3-clause-next
returns-then-len-at-lt3-clause-next g c told =
    end_short (g.Y.Disk.time c.args.disk.now).now.seen c.args.at (let e = c.requires.len told in omega arith)

pub returns-then-len-at-clause-next : goal.returns-then-len-at-clause-next
returns-then-len-at-clause-next g c told =
    let file = (g.Y.Disk.time c.args.disk.now).now.seen in
    let opened : c.in_ok-gate.gate ≡ 1 = c.if-gate-ne1.false in
    let header : take 3 (drop c.args.at file) ≡ 1 ∷ c.in_ok-gate.low ∷ c.in_ok-gate.high ∷ [] =
    subst (λ (k : ℕ). take 3 (drop c.args.at file) ≡ k ∷ c.in_ok-gate.low ∷ c.in_ok-gate.high ∷ []) opened (c.in_ok-gate.ensures.answer told) in
    end_cut file c.args.at c.in_ok-gate.low c.in_ok-gate.high header (let e = c.requires.len told in omega arith)

pub returns-clause-next : goal.returns-clause-next
returns-clause-next g c told =
    let t = g.Y.Disk.time c.args.disk.now in
    let file = t.now.seen in
    let told' : IsTrue (g.Y.Disk.tells c.read_header.new.disk) = subst (λ (b : Bool). IsTrue b) (sym c.read_header.ensures.tells) told in
    let low = c.in_ok-gate.low in
    let high = c.in_ok-gate.high in
    let opened : c.in_ok-gate.gate ≡ 1 = c.if-gate-ne1.false in
    let header : take 3 (drop c.args.at file) ≡ 1 ∷ low ∷ high ∷ [] =
    subst (λ (k : ℕ). take 3 (drop c.args.at file) ≡ k ∷ low ∷ high ∷ []) opened (c.in_ok-gate.ensures.answer told) in
    let line = c.read_line.new.line.items in
    let is : line ≡ take (low + 256 * high) (drop (c.args.at + 3) file) =
    subst (λ (s : DiskTime). line ≡ take (low + 256 * high) (drop (c.args.at + 3) s.now.seen)) (c.read_header.ensures.still told) (c.in_ok-read_line.ensures.answer told') in
    next_line file c.args.at low high line header (let e = c.requires.len told in omega arith) is (let e = c.in_ok-read_line.ensures.size in omega arith)
