-- A request that is given, as the first of those of the bytes.
use Rattle.std.proofs.Common.{ℕ, ◌≡◌, ◌+◌, ◌-◌, ◌≤◌, ◌<◌, List, [], ◌++◌, Bool, Option, Some, IfSome, Ok, Err, refl, sym, ap, ◌∙◌, subst, arith, length, take, drop}
use Rattle.std.proofs.lemmas.List.{append-nil, take-append-drop, length-take, length-drop, length-append}
use Rattle.http_door.specs.declared.fields.Framing.TheVariants as framing
use Rattle.http_door.specs.declared.finding.Whole.{Whole}
use Rattle.http_door.specs.declared.reader.Head.{Head}
use Rattle.http_door.specs.Heads.{closes}
use Rattle.http_door.specs.Requests.{Request, IsHead, IsRequest, EndsAs}
use Rattle.http_door.specs.Finding.{HasWhole, HasParts}
use Rattle.http_door.specs.WindowValue.{WindowValue, Fills}
use Rattle.std.proofs.KnownBytes.{Consumes-nil}
use Rattle.farm_io.specs.Lines.{input_limit}
use Rattle.http_door.specs.declared.ending.Ending.{Ending}
use Rattle.http_door.specs.ReaderValue.{ReaderValue, IsReadable}
use Rattle.http_door.specs.Reading.{request_with, LeavesAll, GivesIn, ReadsIn, Reads}
use Rattle.http_door.proofs.Cutting.{request_some}

same_request : (m n t u : List ℕ) (c d : Bool) (body : List ℕ) → m ≡ n → t ≡ u → c ≡ d
    → let r : Request = record { method = m; target = t; close = c; body = body } in r ≡ record { method = n; target = u; close = d; body = body }
same_request m n t u c d body e f k = rw (e, f, k) refl

request_given : (bytes : List ℕ) (w : Whole) (h : Head) → HasWhole bytes w
    → HasParts bytes w h
    → (w.len ≤ length (drop w.seen.len bytes)) × IsRequest bytes (request_with h (take w.len (drop w.seen.len bytes))) (drop w.len (drop w.seen.len bytes))
request_given bytes w h x e =
    let behind = drop w.seen.len bytes in
    let some : w.len ≤ length behind = omega (arith, x.within, length-drop w.seen.len bytes) in
    let size : length (take w.len behind) ≡ w.len = omega (arith, some, length-take w.len behind) in (
      some,
      record {
        head = x.head;
        is_head = subst (λ (z : List ℕ). IsHead bytes x.head z) (sym (take-append-drop w.len behind)) x.shows.is_head;
        framing = x.framing ∙ ap framing.Sized (sym size);
        is = same_request h.method x.head.method h.target x.head.target h.close (closes x.head) (take w.len behind) (e.method ∙ x.shows.method) (e.target ∙ x.shows.target) (e.close ∙ x.shows.close);
      },
    )

pub reads_request : (l1 l2 : Option (List ℕ)) (old w new : WindowValue) (bytes : List ℕ) (whole : Whole) (h : Head) → Fills l1 l2 old w → HasWhole w.ahead whole → bytes ≡ w.ahead
    → HasParts bytes whole h
    → new ≡ record w { ahead = drop whole.seen.len w.ahead } → ReadsIn l1 l2 old new (Ok (h, whole.len))
reads_request l1 l2 old w new bytes whole h f x is e n =
    rw n
    (record {
      prefix = f.prefix;
      took = f.took;
      count = f.count;
      size = f.size;
      gives = subst (λ (z : List ℕ). GivesIn z (drop whole.seen.len w.ahead) (Ok (h, whole.len))) f.whole (request_given w.ahead whole h x (rw is at e));
    })

-- each request brings the end nearer
pub falls_in : (l1 l2 : Option (List ℕ)) (old new : WindowValue) (h : Head) (n : ℕ) → ReadsIn l1 l2 old new (Ok (h, n)) → new.taken ≤ input_limit
    → (input_limit - new.taken) + length (drop n new.ahead) < (input_limit - old.taken) + length old.ahead
falls_in l1 l2 old new h n x few =
    omega (arith, request_some (old.ahead ++ x.prefix) (request_with h (take n new.ahead)) (drop n new.ahead) x.gives.1, x.count, few, length-append old.ahead x.prefix)

ended_at : (r : ReaderValue) (e : Ending) → r.ended ≡ Some e → IsReadable r → EndsAs e r.ahead
ended_at r e is h = let P : Option Ending → Type 0 = λ o. IfSome o (λ x. EndsAs x r.ahead) in subst P is h.ends

-- a reader that has ended reads nothing more
pub reads_ended : (left : Option (List ℕ)) (r : ReaderValue) (e : Ending) → r.ended ≡ Some e → IsReadable r → Reads left left r r (Err e)
reads_ended left r e is h =
    let none : r.ahead ++ [] ≡ r.ahead = append-nil r.ahead in
    record {
      prefix = [];
      took = Consumes-nil left;
      count = omega arith;
      gives = (subst (EndsAs e) (sym none) (ended_at r e is h), sym none);
    }

-- the end of a window is that of its reader
pub reads_end : (l1 l2 : Option (List ℕ)) (old new : ReaderValue) (v w : WindowValue) (e : Ending) → ReadsIn l1 l2 v w (Err e)
    → v.ahead ≡ old.ahead → v.taken ≡ old.taken → w.ahead ≡ new.ahead → w.taken ≡ new.taken → Reads l1 l2 old new (Err e)
reads_end l1 l2 old new v w e x a t b u = record {
  prefix = x.prefix;
  took = x.took;
  count = sym u ∙ x.count ∙ ap (λ n. n + length x.prefix) t;
  gives = subst (λ (z : List ℕ). LeavesAll e (z ++ x.prefix) new.ahead) a (subst (λ (z : List ℕ). LeavesAll e (v.ahead ++ x.prefix) z) b x.gives);
}
