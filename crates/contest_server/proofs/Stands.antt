-- What stands once a connection was accepted, and once one was taken in.
use Rattle.std.proofs.Common.{◌≡◌, ◌+◌, ◌<◌, List, [], ◌∷◌, ◌++◌, Option, None, Some, length, map, refl, sym, ap, ◌∙◌, subst, arith, append_assoc}
use Rattle.std.specs.Prelude.{IsSome}
use Rattle.std.proofs.lemmas.List.{map-append, length-append}
use Rattle.std.proofs.lemmas.List.Elements.{All-head, All-tail}
use Rattle.farm_io.specs.declared.door.Listening.{Listening}
use Rattle.farm_io.specs.Doors.{DoorState, IsFirstOf, with_last, LetsIn, TakesBack, IsFresh}
use Rattle.farm_board.specs.Passes.{BoardId, PassValue, SplitsOff, TakesIn}
use Rattle.farm_api.specs.declared.ends.ConnEnd.{ConnEnd}
use Rattle.contest_server.specs.declared.accepting.Coming.TheVariants as coming
use Rattle.contest_server.specs.Visits.{Watch, Start, Visit, IsAnswered, IsVisit}
use Rattle.contest_server.specs.Serving.{Came, with_all, all_came, GivesBack, desk_value, share, IsReady, IsOrderly, TakesFirst, AcceptsNext}
use Rattle.contest_server.proofs.Beside.{all_more, splits_beside, joins_beside}

-- The door

came_more : {N : Type 0} (a b c : Option (List N)) (xs : List N) (conn : N) → Came a b xs → IsFirstOf b c conn → Came a c (xs ++ conn ∷ [])
came_more {N} None b c xs conn h first = subst (λ (z : Option (List N)). IsFirstOf z c conn) h first
came_more {N} (Some all) b c xs conn h first =
    let f : IsFirstOf (Some h.0) c conn = subst (λ (z : Option (List N)). IsFirstOf z c conn) h.2 first in
    (f.0, h.1 ∙ ap (λ (ys : List N). xs ++ ys) f.1 ∙ sym (append_assoc xs (conn ∷ []) f.0), f.2)

back_more : {N : Type 0} (a : Option (List N)) (xs : List N) (conn : N) → with_last (with_all a xs) conn ≡ with_all a (xs ++ conn ∷ [])
back_more None xs conn = refl
back_more {N} (Some back) xs conn = ap Some (append_assoc back xs (conn ∷ []))

-- one connection was let in
lets_in : {N : Type 0} (first old new : DoorState N) (visits : List (Visit N)) (starts : List (Start N)) (s : Start N) → GivesBack first old visits starts → LetsIn old new s.came → GivesBack first new visits (starts ++ s ∷ [])
lets_in {N} first old new visits starts s g l =
    let came : all_came visits (starts ++ s ∷ []) ≡ all_came visits starts ++ s.came ∷ [] =
    ap (λ (cs : List N). map (λ (v : Visit N). v.came) visits ++ cs) (map-append (λ (x : Start N). x.came) starts (s ∷ []))
    ∙ sym (append_assoc (map (λ (v : Visit N). v.came) visits) (map (λ (x : Start N). x.came) starts) (s.came ∷ [])) in
    let len = length-append starts (s ∷ []) in
    let before = g.accepted in
    let one = l.accepted in
    record {
      came = subst (λ (cs : List N). Came first.coming new.coming cs) (sym came) (came_more first.coming old.coming new.coming (all_came visits starts) s.came g.came l.first);
      back = l.back ∙ g.back;
      accepted = omega (arith, len, before, one);
      returned = l.returned ∙ g.returned;
      listens = l.listens ∙ g.listens;
    }

-- the connection that was accepted first was given back
gives_back : {N : Type 0} (first old new : DoorState N) (visits : List (Visit N)) (s : Start N) (starts : List (Start N)) (v : Visit N) → v.came ≡ s.came → GivesBack first old visits (s ∷ starts) → TakesBack old new v.back
    → GivesBack first new (visits ++ v ∷ []) starts
gives_back {N} first old new visits s starts v same g t =
    let came : all_came (visits ++ v ∷ []) starts ≡ all_came visits (s ∷ starts) =
    ap (λ (cs : List N). cs ++ map (λ (x : Start N). x.came) starts) (map-append (λ (x : Visit N). x.came) visits (v ∷ []))
    ∙ append_assoc (map (λ (x : Visit N). x.came) visits) (v.came ∷ []) (map (λ (x : Start N). x.came) starts)
    ∙ ap (λ (c : N). map (λ (x : Visit N). x.came) visits ++ c ∷ map (λ (x : Start N). x.came) starts) same in
    let len = length-append visits (v ∷ []) in
    let accepted_before = g.accepted in
    let accepted_now = t.accepted in
    let returned_before = g.returned in
    let returned_now = t.returned in
    record {
      came = subst (λ (z : Option (List N) × List N). Came first.coming z.0 z.1) (λ i. (sym t.coming i, sym came i)) g.came;
      back = t.back ∙ ap (λ (b : Option (List N)). with_last b v.back) g.back ∙ back_more first.back (map (λ (x : Visit N). x.back) visits) v.back
          ∙ ap (λ (bs : List N). with_all first.back bs) (sym (map-append (λ (x : Visit N). x.back) visits (v ∷ [])));
      accepted = omega (arith, len, accepted_before, accepted_now);
      returned = omega (arith, len, returned_before, returned_now);
      listens = t.listens ∙ g.listens;
    }

-- A connection was accepted

pub accepts : {N : Type 0} (w : Watch N) (board : BoardId) (door door' : DoorState N) (pass pass' : PassValue) (starts : List (Start N)) (s : Start N) → IsOrderly w board (desk_value door pass starts) → share + length starts + 3 < pass.left
    → IsFresh (w.held s.came) (w.reads s.came) (w.writes s.came) → LetsIn door door' s.came → SplitsOff pass pass' s.begun share → AcceptsNext w board (desk_value door pass starts) (desk_value door' pass' (starts ++ s ∷ [])) coming.Conn
accepts {N} w board door door' pass pass' starts s orderly enough fresh l split =
    let len = length-append starts (s ∷ []) in
    let room = orderly.door in
    let accepted = l.accepted in
    let returned = l.returned in
    let spare = split.spare in
    let left = split.left in
    let ready : IsReady w board s = record { fresh = fresh; unused = split.other_mine; board_is = split.other_board ∙ orderly.board_is; spare = split.other_spare } in
    record {
      stays = record {
        orderly = record {
          board_is = split.grows.board ∙ orderly.board_is;
          door = omega (arith, len, room, accepted, returned);
          listens = subst (λ (z : Option Listening). IsSome z) (sym l.listens) orderly.listens;
          ready = all_more (IsReady w board) starts s orderly.ready ready;
          left = omega (arith, len, left, enough);
        };
        seats = omega (arith, len, spare);
      };
      more = omega (arith, len);
      ended = tt;
      told = λ o held n t. let count = t.count in record {
        visits = t.visits;
        stands = record {
          opening = t.stands.opening;
          door = lets_in o.door door door' t.visits starts s t.stands.door l;
          beside = splits_beside o.start o.calls o.feed t.visits starts pass pass' s share t.stands.beside split;
          each = t.stands.each;
        };
        count = omega (arith, len, count);
        wrote = t.wrote;
      };
    }

-- A connection was taken in

pub takes : {N : Type 0} (w : Watch N) (board : BoardId) (door door' : DoorState N) (pass pass' : PassValue) (s : Start N) (starts : List (Start N)) (v : Visit N) (e : ConnEnd) → IsOrderly w board (desk_value door pass (s ∷ starts))
    → v.came ≡ s.came → v.begun ≡ s.begun → v.requests ≡ e.requests → v.how ≡ e.how → IsAnswered w v → TakesIn pass v.ended pass' → TakesBack door door' v.back
    → TakesFirst w board (desk_value door pass (s ∷ starts)) (desk_value door' pass' starts) e
takes {N} w board door door' pass pass' s starts v e orderly same_conn same_pass requests how answered t b =
    let ready : IsReady w board s = All-head (IsReady w board) s starts orderly.ready in
    let made = answered.served.entered.calls in
    let begun_spare = ap (λ (p : PassValue). p.spare) same_pass in
    let ready_spare = ready.spare in
    let made_spare = made.spare in
    let spare = t.spare in
    let left = t.left in
    let enough = orderly.left in
    let room = orderly.door in
    let accepted = b.accepted in
    let returned = b.returned in
    let visited : IsVisit w v = record {
      fresh = subst (λ (c : N). IsFresh (w.held c) (w.reads c) (w.writes c)) (sym same_conn) ready.fresh;
      unused = ap (λ (p : PassValue). p.mine) same_pass ∙ ready.unused;
      answered = answered;
    } in
    record {
      stays = record {
        orderly = record {
          board_is = t.board ∙ orderly.board_is;
          door = omega (arith, room, accepted, returned);
          listens = subst (λ (z : Option Listening). IsSome z) (sym b.listens) orderly.listens;
          ready = All-tail (IsReady w board) s starts orderly.ready;
          left = omega (arith, left, enough);
        };
        seats = omega (arith, begun_spare, ready_spare, made_spare, spare);
      };
      fewer = omega arith;
      coming = b.coming;
      taken = λ o visits h. record {
        last = v;
        requests = requests;
        how = how;
        stands = record {
          opening = h.opening;
          door = gives_back o.door door door' visits s starts v same_conn h.door b;
          beside = joins_beside o.start o.calls o.feed visits s starts v pass pass' h.opening same_pass (made.number ∙ ap (λ (p : PassValue). p.number) same_pass) h.beside t;
          each = all_more (IsVisit w) visits v h.each visited;
        };
      };
    }
